-- The state of an initiator's session between two messages (RFC 7143, sections 4 and 6).
use Rattle.std.specs.Prelude.{ℕ, Bool, false, List, [], ◌+◌, ◌==◌, if◌then◌else◌, Option, None, unwrap_or}
use Rattle.iscsi_pdu.specs.declared.serial.Serial.{Serial}
use Rattle.iscsi_pdu.specs.declared.serial.Window.{Window}
use Rattle.iscsi_pdu.specs.Serial.{one_before}
use Rattle.iscsi_login.specs.declared.stage.Stage.{Stage}
use Rattle.iscsi_login.specs.declared.phase.Phase.{Phase}
use Rattle.iscsi_login.specs.declared.phase.Phase.TheVariants as phases
use Rattle.iscsi_login.specs.Offers.{Proposal}
use Rattle.iscsi_login.specs.Held.{Held, defaults}
use Rattle.iscsi_initiator.specs.declared.request.Done.{Done}
use Rattle.iscsi_initiator.specs.declared.outstanding.Outstanding.{Outstanding}
use Rattle.iscsi_login.specs.Stage.{is_closed_phase}

-- What an initiator is configured with: what it offers, and how it logs in (section 6.3).
pub record InitiatorSettings : Type 0 where
  pub proposal : Proposal
  -- the stage where the login starts
  pub start : Stage
  pub isid : List ℕ
  pub first_cmd_sn : ℕ
  -- the most bytes of one segment of a login text
  pub login_segment : ℕ

-- The session between two messages (sections 4.2.2 and 6.3).
pub record InitiatorSession : Type 0 where
  pub settings : InitiatorSettings
  pub started : Bool
  pub phase : Phase
  -- where the login is, or was when the session closed
  pub stage : Stage
  -- what is not sent of the login text
  pub unsent_text : List ℕ
  -- one more than the last StatSN received, once there was one
  pub exp_stat_sn : Option ℕ
  pub held : Held
  -- the command numbers that the target takes
  pub window : Window
  -- the number of the next request
  pub cmd_sn : ℕ
  -- the tag of the last request
  pub initiator_task_tag : ℕ
  pub outstanding : Option Outstanding
  -- the outcome that is not yet taken
  pub done : Option Done

-- ---- numbers

-- A number that counts round (section 4.2.2).
abbrev pub serial : ℕ → Serial
serial n = record { 0 = n }

-- Task tags count from 0 to fffffffe (section 11.2.1.8; the counting is own rule).
abbrev pub next_tag : ℕ → ℕ
next_tag tag = if tag == 0xffff_fffe then 0 else tag + 1

-- The ExpStatSN of what is sent: 0 before the first answer (sections 4.2.2.2 and 11.12.9).
abbrev pub sent_exp_stat_sn : InitiatorSession → ℕ
sent_exp_stat_sn m = unwrap_or m.exp_stat_sn 0

-- ---- the opening state

-- A new session. No command number is taken yet (section 4.2.2.1).
abbrev pub new_session : InitiatorSettings → InitiatorSession
new_session settings = record {
  settings = settings;
  started = false;
  phase = phases.Login;
  stage = settings.start;
  unsent_text = [];
  exp_stat_sn = None;
  held = record defaults { initiator_max_recv = settings.proposal.prefs.max_recv };
  window = record {
    exp = serial settings.first_cmd_sn;
    max = one_before (serial settings.first_cmd_sn);
  };
  cmd_sn = settings.first_cmd_sn;
  initiator_task_tag = 0;
  outstanding = None;
  done = None;
}

-- The session is over.
abbrev pub is_session_closed : InitiatorSession → Bool
is_session_closed m = is_closed_phase m.phase

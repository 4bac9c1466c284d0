-- The session of a target between two PDUs, but for its commands: its login, its numbers and what is
-- held (RFC 7143, section 4.2). The definitions below also say what a message does that no command
-- needs (section 4.2).
use Rattle.std.specs.Prelude.{ℕ, ◌+◌, ◌-◌, ◌^◌, ◌%◌, Bool, false, List, [], ◌∷◌, Option, None, map, replicate}
use Rattle.iscsi_text.specs.Key.{known_keys}
use Rattle.iscsi_pdu.specs.Serial.{next_sn}
use Rattle.iscsi_pdu.specs.declared.head.Head.{Head}
use Rattle.iscsi_stream.specs.Segment.{Bytes}
use Rattle.iscsi_stream.specs.Stream.{Message}
use Rattle.iscsi_login.specs.declared.phase.Phase.{Phase}
use Rattle.iscsi_login.specs.declared.phase.Phase.TheVariants as phases
use Rattle.iscsi_text.specs.declared.negotiated.Session.{Session as SessionType}
use Rattle.iscsi_text.specs.declared.negotiated.Session.TheVariants as session_types
use Rattle.iscsi_login.specs.declared.stage.Stage.{Stage}
use Rattle.iscsi_login.specs.declared.stage.Stage.TheVariants as stages
use Rattle.iscsi_login.specs.Held.{Held, defaults, longest_taken}
use Rattle.iscsi_access.specs.declared.verdict.Progress.{Progress}
use Rattle.iscsi_access.specs.declared.verdict.Progress.TheVariants as progress
use Rattle.iscsi_target_session.specs.Configured.{TargetSettings, shortened}

-- ---- the session

-- A session, which knows no disk and no command (sections 4.2 and 6.3).
pub record Session : Type 0 where
  pub settings : TargetSettings
  pub phase : Phase
  -- of the login: where it is, and whether a request came
  pub stage : Stage
  pub begun : Bool
  -- the bytes of a login text that is not whole
  pub gathered : List ℕ
  -- of each known key, whether a text of the login gave it
  pub seen_keys : List Bool
  -- whether a whole text came, and whether one came in the operational stage
  pub has_text : Bool
  pub has_operational_text : Bool
  -- how far CHAP has come, where it is demanded
  pub progress : Progress
  -- who the initiator says that it is, once it did: its name and its ISID
  pub initiator_name : List ℕ
  pub isid : List ℕ
  pub session_type : SessionType
  pub held : Held
  -- the CmdSN that is due, and the StatSN of the next answer that carries and advances it
  pub exp_cmd_sn : ℕ
  pub stat_sn : ℕ

-- None of the known keys was seen (section 6.3).
abbrev pub none_seen : List Bool
none_seen = map (λ key. false) known_keys

-- A session in which nothing came: none of the known keys was seen (section 6.3).
abbrev pub opening_session : TargetSettings → ℕ → Session
opening_session settings first_stat_sn = record {
  settings = settings;
  phase = phases.Login;
  stage = stages.Security;
  begun = false;
  gathered = [];
  seen_keys = none_seen;
  has_text = false;
  has_operational_text = false;
  progress = progress.Unasked;
  initiator_name = [];
  isid = replicate 6 0;
  session_type = session_types.Normal;
  held = defaults;
  exp_cmd_sn = 0;
  stat_sn = first_stat_sn;
}

-- The longest segment that a target with these settings takes (section 13.12).
abbrev pub target_limit : TargetSettings → ℕ
target_limit settings = longest_taken settings.preferences

-- How many bytes a Data-In has at most: what the initiator takes in one segment, or less where the
-- target is told so (section 13.12, which lets a target send less).
abbrev pub data_in_length : Session → ℕ
data_in_length s = shortened s.settings.extras.longest_data_in s.held.initiator_max_recv

-- A session that is over: what was gathered and the CmdSN that was due are dropped.
abbrev pub ended_session : Session → Session
ended_session s = record s { phase = phases.Closed; gathered = []; begun = false; exp_cmd_sn = 0 }

-- ---- numbers

-- MaxCmdSN while n tasks wait: the window is as wide as eight commands, less those (section
-- 4.2.2.1; the width is own rule).
abbrev pub max_cmd_sn_with : Session → ℕ → ℕ
max_cmd_sn_with s waiting = (s.exp_cmd_sn + (2 ^ 32 + 7 - waiting)) % 2 ^ 32

-- An answer was sent that carries StatSN and advances it (section 4.2.2.2).
abbrev pub stat_sn_advanced : Session → Session
stat_sn_advanced s = record s { stat_sn = next_sn s.stat_sn }

-- ---- answers

-- What a message does that no command needs: the session after it, the answers, and the rule that
-- it broke.
pub record Reply : Type 0 where
  pub session : Session
  pub answers : List Message
  pub rule : Option ℕ

-- Nothing is answered, and nothing changes.
abbrev pub nothing : Session → Reply
nothing s = record { session = s; answers = []; rule = None }

-- The session is closed without an answer.
abbrev pub shut : Session → Option ℕ → Reply
shut s rule = record { session = ended_session s; answers = []; rule = rule }

-- An answer whose segment means its bytes (section 11).
abbrev pub answer_message : Head → List ℕ → Message
answer_message head bytes = record { head = head; segment = Bytes bytes }

-- One answer that carries StatSN and advances it (section 4.2.2.2).
abbrev pub send_response : Session → Head → List ℕ → Reply
send_response s head bytes =
    record { session = stat_sn_advanced s; answers = answer_message head bytes ∷ []; rule = None }

-- One local disk: what requests do if the disk is here. Then come two ends that are in step, and
-- what a request leads them to, answer by answer (RFC 7143, sections 11.3 and 11.4).
use Rattle.std.specs.Prelude.{◌≡◌, ◌⊎◌, ℕ, ◌+◌, ◌%◌, ◌<◌, ◌≤◌, ◌^◌, ◌==◌, zero, suc, false, not, List, [], ◌∷◌, ◌++◌, length, take, Option, Some, None}
use Rattle.scsi_cdb.specs.Sense.{sense_bytes}
use Rattle.scsi_cdb.specs.declared.sense.Sense.{Sense}
use Rattle.scsi_cdb.specs.Blocks.{record_of}
use Rattle.scsi_disk.specs.Disk.{Disk}
use Rattle.scsi_disk.specs.Effect.{Effect, effect}
use Rattle.scsi_disk.specs.declared.deed.Deed.TheVariants.{Write}
use Rattle.scsi_disk.specs.declared.order.Order.{Order}
use Rattle.scsi_disk.specs.declared.order.Outcome.{Outcome}
use Rattle.scsi_unit.specs.LogicalUnit.{LogicalUnit}
use Rattle.scsi_unit.specs.Deeds.{meant}
use Rattle.iscsi_pdu.specs.declared.serial.Window.{Window}
use Rattle.iscsi_stream.specs.Stream.{Message}
use Rattle.iscsi_login.specs.declared.phase.Phase.TheVariants as phases
use Rattle.iscsi_text.specs.declared.negotiated.Session.TheVariants as sessions
use Rattle.iscsi_login.specs.Held.{Held, IsHeld}
use Rattle.iscsi_target_session.specs.Session as target_session
use Rattle.iscsi_target.specs.State as target
use Rattle.iscsi_target.specs.Execution.{as_told}
use Rattle.iscsi_target.specs.Machine.{answers}
use Rattle.iscsi_initiator.specs.declared.request.Done.{Done}
use Rattle.iscsi_initiator.specs.declared.request.Done.TheVariants as done
use Rattle.iscsi_initiator.specs.declared.request.Request.{Request}
use Rattle.iscsi_initiator.specs.declared.request.Request.TheVariants as requests
use Rattle.iscsi_initiator.specs.State as initiator
use Rattle.iscsi_initiator.specs.Machine.{initiator_step, outcome_handed_out}
use Rattle.iscsi_initiator.specs.Submitted.{submitted}

-- What a request that may read orders of a disk (section 11.3).
abbrev pub reading_order : ℕ → List ℕ → ℕ → Order
reading_order lun cdb expected = record {
  cdb = record_of cdb;
  lun = lun;
  read = not (expected == 0);
  write = false;
  expected = expected;
  deed = Write;
}

-- What a request that may write orders of a disk (section 11.3).
abbrev pub writing_order : ℕ → List ℕ → List ℕ → Order
writing_order lun cdb bytes = record {
  cdb = record_of cdb;
  lun = lun;
  read = false;
  write = not (length bytes == 0);
  expected = length bytes;
  deed = Write;
}

-- The sense bytes, where there are any (section 11.4.7).
abbrev pub reported_sense : Option Sense → List ℕ
reported_sense None = []
reported_sense (Some sense) = sense_bytes sense

-- The outcome of a request, by what its order answered (section 11.4).
abbrev pub reported : Outcome → Done
reported outcome =
    done.Command 0 outcome.status (reported_sense outcome.sense) outcome.bytes outcome.residual

-- An outcome, and the disk after it.
pub record Local : Type 0 where
  pub outcome : Done
  pub disk : Disk

-- A command was executed on a disk that is here (sections 11.3 and 11.4).
abbrev pub local_command : Effect → Local
local_command after = record { outcome = reported after.outcome; disk = after.disk }

-- What an order does to a disk that is here: with no unit, what it says. A unit takes some commands for a
-- READ or a WRITE, and answers some of itself (SPC-4; SBC-3).
abbrev pub effect_here : Option LogicalUnit → Disk → Order → List ℕ → Effect
effect_here None disk order bytes = effect false disk order bytes
effect_here (Some unit) disk order bytes =
    as_told (Some unit) disk.count (meant (Some unit) order)
    (effect false disk (meant (Some unit) order) bytes)

-- What a request does where the disk is here, and has a unit or none. A ping returns the first of its
-- bytes, at most so many; texts and logouts are nothing to a disk (sections 11.3, 11.4 and 11.18). No
-- law asks what a text returns (`IsServed`).
abbrev pub local : ℕ → Option LogicalUnit → Disk → Request → Local
local most unit disk (requests.In lun cdb expected) =
    local_command (effect_here unit disk (reading_order lun cdb expected) [])
local most unit disk (requests.Out lun cdb bytes) =
    local_command (effect_here unit disk (writing_order lun cdb bytes) bytes)
local most unit disk (requests.Ping bytes) =
    record { outcome = done.Ping (take most bytes); disk = disk }
local most unit disk (requests.Text bytes) = record { outcome = done.Text []; disk = disk }
local most unit disk requests.Logout = record { outcome = done.Closed; disk = disk }

-- The outcomes of requests, one after another on one disk.
unfoldable pub local_outcomes : ℕ → Option LogicalUnit → Disk → List Request → List Done
local_outcomes most unit disk [] = []
local_outcomes most unit disk (request ∷ more) =
    (local most unit disk request).outcome
    ∷ local_outcomes most unit (local most unit disk request).disk more

-- The disk after all of them.
unfoldable pub local_disk : ℕ → Option LogicalUnit → Disk → List Request → Disk
local_disk most unit disk [] = disk
local_disk most unit disk (request ∷ more) =
    local_disk most unit (local most unit disk request).disk more

-- ---- two ends that are in step

-- The window that lets in eight commands, from this number on (section 4.2.2.1).
abbrev pub window_of_eight : ℕ → Window
window_of_eight cmd_sn = record {
  exp = initiator.serial cmd_sn;
  max = initiator.serial ((cmd_sn + 7) % 2 ^ 32);
}

-- Both ends are in full feature phase of a normal session, hold the same, wait for the same
-- numbers, and have nothing open (sections 4.2 and 6.3).
pub record AreInStep (m : initiator.InitiatorSession) (t : target.Machine) : Type 0 where
  pub initiator_phase : m.phase ≡ phases.Full
  pub target_phase : t.session.phase ≡ phases.Full
  pub session : t.session.session_type ≡ sessions.Normal
  pub none_open : m.outstanding ≡ None
  pub none_done : m.done ≡ None
  pub no_task : t.tasks ≡ []
  pub held : t.session.held ≡ m.held
  pub is_held : IsHeld m.held
  pub segment : m.held.target_max_recv ≤ target_session.target_limit t.session.settings
  -- the tag of the last request, and the numbers that are due
  pub tag_fits : m.initiator_task_tag ≤ 0xffff_fffe
  pub cmd_sn : t.session.exp_cmd_sn ≡ m.cmd_sn
  pub cmd_sn_fits : m.cmd_sn < 2 ^ 32
  -- the target takes eight commands, from that number on
  pub window : m.window ≡ window_of_eight m.cmd_sn
  pub stat_sn : m.exp_stat_sn ≡ Some t.session.stat_sn
  pub stat_sn_fits : t.session.stat_sn < 2 ^ 32

-- Both sessions are over, and no request is open (section 11.14).
pub record HaveParted (m : initiator.InitiatorSession) (t : target.Machine) : Type 0 where
  pub initiator_phase : m.phase ≡ phases.Closed
  pub target_phase : t.session.phase ≡ phases.Closed
  pub none_open : m.outstanding ≡ None

-- Both ends are in step and hold this, and the disk has this unit; or they have parted after this
-- outcome, that of a logout.
abbrev pub AreAtRest : Held → Option LogicalUnit → Done → initiator.InitiatorSession → target.Machine
    → Type 0
AreAtRest held unit outcome m t =
    (AreInStep m t × (m.held ≡ held) × (target.unit_of t.session ≡ unit))
    ⊎ (HaveParted m t × (outcome ≡ done.Closed))

-- ---- answers, one by one

-- Both ends, the disk, and the answers on their way, where the target has received all that was
-- sent.
pub record DiskExchange : Type 0 where
  pub initiator : initiator.InitiatorSession
  pub target : target.Machine
  pub disk : Disk
  pub answers : List Message

-- A message reaches the initiator, and what it sends then the target; these answers came before
-- (section 4.2).
abbrev pub after_answer : DiskExchange → Message → List Message → DiskExchange
after_answer x m more =
    let received = initiator_step x.initiator m in
    let answered = answers false x.target x.disk received.output in
    record {
      initiator = received.machine;
      target = answered.machine;
      disk = answered.disk;
      answers = more ++ answered.answers;
    }

-- The next answer reaches the initiator, if one is on its way.
abbrev pub after_next : DiskExchange → List Message → DiskExchange
after_next x [] = x
after_next x (m ∷ more) = after_answer x m more

-- N answers, one after another.
abbrev pub after_answers : ℕ → DiskExchange → DiskExchange
after_answers zero x = x
after_answers (suc more) x = after_answers more (after_next x x.answers)

-- A request is handed in, and the target receives what is sent (section 4.2).
abbrev pub handed_in : initiator.InitiatorSession → target.Machine → Disk → Request → DiskExchange
handed_in m t disk request =
    let answered = answers false t disk (submitted m request).output in
    record {
      initiator = (submitted m request).machine;
      target = answered.machine;
      disk = answered.disk;
      answers = answered.answers;
    }

-- The request has this outcome and left this disk, and no answer is on its way. Once the outcome is
-- taken, both ends are in step and hold this, and the disk has this unit, or they have parted (section
-- 4.2).
pub record RequestHasEnded (held : Held) (unit : Option LogicalUnit) (outcome : Done)
    (disk_now : Disk)
    (x : DiskExchange) : Type 0 where
  pub done_is : x.initiator.done ≡ Some outcome
  pub silent : x.answers ≡ []
  pub disk_is : x.disk ≡ disk_now
  pub at_rest : AreAtRest held unit outcome (outcome_handed_out x.initiator) x.target

-- After some answers it has.
abbrev pub EndsAfterAnswers : Held → Option LogicalUnit → Done → Disk → DiskExchange → Type 0
EndsAfterAnswers held unit outcome disk_now x =
    (n : ℕ) × RequestHasEnded held unit outcome disk_now (after_answers n x)

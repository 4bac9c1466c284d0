-- A target between two PDUs: its session and its tasks, and what any message does (RFC 7143,
-- section 4.2).
use Rattle.std.specs.Prelude.{ℕ, Bool, true, not, List, [], length, map, filter, Option, None, if◌then◌else◌}
use Rattle.scsi_disk.specs.Disk.{Disk}
use Rattle.scsi_disk.specs.declared.order.Order.{Order}
use Rattle.scsi_unit.specs.LogicalUnit.{LogicalUnit}
use Rattle.iscsi_stream.specs.Pieces.{Pieces}
use Rattle.iscsi_stream.specs.Stream.{Message}
use Rattle.iscsi_login.specs.Stage.{is_closed_phase}
use Rattle.iscsi_target_session.specs.Configured.{TargetSettings}
use Rattle.iscsi_target_session.specs.Session.{Session, Reply, opening_session, ended_session, max_cmd_sn_with}
use Rattle.iscsi_target.specs.Transfer.{joined_write}
use Rattle.iscsi_target.specs.declared.tasks.Task.{Task}
use Rattle.iscsi_target.specs.declared.tasks.Task.TheVariants.{Command, Data, Request}

-- ---- tasks

-- The task takes a place of the window; an immediate write that waits takes none (section 4.2.2.1).
abbrev pub takes_place : Task → Bool
takes_place (Data w) = not w.immediate
takes_place _ = true

-- How many tasks take a place of the window (section 4.2.2.1).
abbrev pub waiting_tasks : List Task → ℕ
waiting_tasks tasks = length (filter takes_place tasks)

-- ---- the machine

-- A session and its tasks, in the order in which they are handled (section 4.2.2.1).
pub record Machine : Type 0 where
  pub session : Session
  pub tasks : List Task

-- Nothing came (section 6.3).
abbrev pub opening_machine : TargetSettings → ℕ → Machine
opening_machine settings first_stat_sn =
    record { session = opening_session settings first_stat_sn; tasks = [] }

-- The session is over: what was gathered and the CmdSN that was due are dropped, and so are the
-- tasks.
abbrev pub closed_machine : Machine → Machine
closed_machine s = record { session = ended_session s.session; tasks = [] }

-- What the disk of a session tells of itself, where it tells more than the profile has.
abbrev pub unit_of : Session → Option LogicalUnit
unit_of session = session.settings.extras.unit

-- MaxCmdSN: the window, less the tasks that take a place of it (section 4.2.2.1).
abbrev pub max_cmd_sn : Machine → ℕ
max_cmd_sn s = max_cmd_sn_with s.session (waiting_tasks s.tasks)

-- The task with the bytes of its write as one piece.
abbrev pub joined_task : Task → Task
joined_task (Command tag order) = Command tag order
joined_task (Data w) = Data (joined_write w)
joined_task (Request kept) = Request kept

-- The session with the bytes of each of its writes as one piece.
abbrev pub writes_joined : Machine → Machine
writes_joined s = record s { tasks = map joined_task s.tasks }

-- ---- what a message does

-- An order that was executed: its tag, the disk before it and what that tells of itself, and the pieces
-- of its data.
pub record Execution : Type 0 where
  pub initiator_task_tag : ℕ
  pub disk : Disk
  pub unit : Option LogicalUnit
  pub order : Order
  pub pieces : Pieces

-- What any message does. The last two fields have what laws speak of: the requests that were
-- accepted, and the orders that were executed.
pub record TargetStep : Type 0 where
  pub machine : Machine
  pub disk : Disk
  pub answers : List Message
  pub rule : Option ℕ
  pub accepted : List Message
  pub executed : List Execution

-- The tasks that are left with a session: none where that is over.
abbrev pub left : Session → List Task → List Task
left session tasks = if is_closed_phase session.phase then [] else tasks

-- What a session replied, beside the disk and the tasks.
abbrev pub on : Disk → List Task → Reply → TargetStep
on disk tasks r = record {
  machine = record { session = r.session; tasks = left r.session tasks };
  disk = disk;
  answers = r.answers;
  rule = r.rule;
  accepted = [];
  executed = [];
}

-- Nothing is answered, and nothing changes.
abbrev pub unchanged : Machine → Disk → TargetStep
unchanged s disk = record {
  machine = s;
  disk = disk;
  answers = [];
  rule = None;
  accepted = [];
  executed = [];
}

-- The session is closed without an answer.
abbrev pub shut_down : Machine → Disk → TargetStep
shut_down s disk = unchanged (closed_machine s) disk

-- Commands that ask that what was written lasts before they are answered, over a disk with a write
-- cache (RFC 7143, section 11.3; SBC-3, section 4.15).
--
-- `protected` says of the store that it refuses each write.
use Rattle.std.specs.Prelude.{◌≡◌, ℕ, Bool, true, false, ◌||◌, List, Option, Result, Ok, Err}
use Rattle.std.specs.List.{AllByRecursion, list_any}
use Rattle.scsi_unit.specs.LogicalUnit.{LogicalUnit}
use Rattle.scsi_unit.specs.WriteCache.{asks_to_last, writes_back}
use Rattle.iscsi_pdu.specs.declared.head.Head.{Head}
use Rattle.iscsi_pdu.specs.declared.head.Head.TheVariants as heads
use Rattle.iscsi_pdu.specs.Meaning.{Means}
use Rattle.iscsi_stream.specs.Framing.{Framing, FramerTakes}
use Rattle.iscsi_login.specs.declared.phase.Phase.{Phase}
use Rattle.iscsi_target.specs.declared.fault.TargetFault.{TargetFault}
use Rattle.iscsi_target.specs.declared.tasks.Task.{Task}
use Rattle.iscsi_target.specs.declared.tasks.Task.TheVariants.{Command, Data, Request}
use Rattle.iscsi_target.specs.State.{Machine, Execution, unit_of}
use Rattle.iscsi_target.specs.Command.{order_of}
use Rattle.iscsi_target.specs.Feed.{Scene, FeedsOnePdu}

-- The disk of a target has a write cache.
abbrev pub has_cache : Machine → Bool
has_cache s = writes_back s.session.settings.extras.unit

-- No command that was executed asks so.
abbrev pub NoneAsks : List Execution → Type 0
NoneAsks es = AllByRecursion (λ e. asks_to_last e.order.cdb ≡ false) es

-- A call of feed_next that notes, over a disk with a write cache, whether a command asks so. Where it
-- is not noted behind the call it was not before, and no command that the call executed asks so. Of a
-- call that fails nothing is said: it closes the session.
abbrev pub NotesAsking : Bool → Scene → List ℕ → Result (ℕ × Phase) TargetFault → Scene → Bool → Bool
    → Type 0
NotesAsking protected old piece (Ok done) new noted notes =
    (one : FeedsOnePdu protected old piece done.0 done.1 new)
    × (has_cache old.connection.machine ≡ true → notes ≡ false
    → (noted ≡ false) × NoneAsks one.fed.stepped.executed)
NotesAsking protected old piece (Err fault) new noted notes = Unit {0}

-- ---- which commands may be executed next

-- The command of a request asks so, by what it orders of a disk that may tell more of itself. So a
-- command is judged by what it means, and not by how it is spelled.
abbrev pub asks_head : Option LogicalUnit → Head → Bool
asks_head unit (heads.ScsiCommand h) = asks_to_last (order_of unit h).cdb
asks_head unit _ = false

-- The command of a task asks so.
abbrev pub asks_task : Task → Bool
asks_task (Command tag order) = asks_to_last order.cdb
asks_task (Data w) = asks_to_last w.order.cdb
asks_task (Request kept) = false

-- A command that may be executed for a PDU of this head asks so: that of the PDU, or of a task.
abbrev pub machine_asks : Machine → Head → Bool
machine_asks s head = list_any asks_task s.tasks || asks_head (unit_of s.session) head

-- A command asks so that may be executed for the PDU that is ready.
pub record SomeReadyAsks (s : Machine) (framing : Framing) : Type 0 where
  pub head : Head
  pub segment : List ℕ
  pub means : Means framing.held head segment
  pub asks : machine_asks s head ≡ true

-- The same of the PDU that bytes of a piece complete.
pub record SomeNextAsks (s : Machine) (old : Framing) (piece : List ℕ) : Type 0 where
  pub framing : Framing
  pub count : ℕ
  pub takes : FramerTakes old piece count framing
  pub ready : SomeReadyAsks s framing

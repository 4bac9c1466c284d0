-- What a crash leaves of the blocks, by the commands whose data a target has (RFC 7143, sections
-- 11.3 and 11.7).
--
-- `protected` says of the store that it refuses each write.
use Rattle.std.specs.Prelude.{Bool, ◌≡◌, ◌≤◌, ◌⊎◌, ℕ, List, [], ◌∷◌, ◌++◌, take}
use Rattle.std.specs.List.{flat_map}
use Rattle.scsi_disk.specs.Disk.{Disk}
use Rattle.scsi_disk.specs.Effect.{disk_aimed, IsSupplied}
use Rattle.scsi_disk.specs.Runs.{Supplied}
use Rattle.iscsi_stream.specs.Pieces.{piece_data}
use Rattle.iscsi_stream.specs.Stream.{Message}
use Rattle.iscsi_stream.specs.Framing.{Framing, FramerMoves}
use Rattle.iscsi_login.specs.declared.phase.Phase.{Phase}
use Rattle.iscsi_login.specs.declared.phase.Phase.TheVariants as phases
use Rattle.iscsi_target.specs.declared.tasks.Task.{Task}
use Rattle.iscsi_target.specs.declared.tasks.Task.TheVariants.{Data}
use Rattle.iscsi_target.specs.State.{Machine, TargetStep}
use Rattle.iscsi_target.specs.Machine.{Next, Dropped, Answered, Queued, full_met, MayAnswer}
use Rattle.iscsi_target.specs.Feed.{TargetConnection, Store}

-- ---- commands and their data

-- The command of a task that takes data, with those that came for it; no other changes a block
-- (sections 11.3 and 11.7).
abbrev pub command_of_task : Task → List Supplied
command_of_task (Data w) = (w.order, piece_data w.pieces) ∷ []
command_of_task _ = []

-- The commands of tasks that take data (section 11.3).
abbrev pub commands_of : List Task → List Supplied
commands_of tasks = flat_map command_of_task tasks

-- The commands of the tasks that are done in their turn (section 4.2.2.1).
abbrev pub commands_by : Next → List Supplied
commands_by Dropped = []
commands_by (Answered r) = []
commands_by (Queued session tasks) = commands_of tasks

-- The commands that may be executed for a PDU, by the phase (section 4.2.4).
abbrev pub commands_in : Phase → Machine → ℕ → Message → List Supplied
commands_in phases.Login s count m = []
commands_in phases.Full s count m = commands_by (full_met s count m).next
commands_in phases.Closed s count m = []

-- The commands that may be executed for a PDU, on a disk of n blocks (section 4.2.4).
abbrev pub commands_at : Machine → ℕ → Message → List Supplied
commands_at s count m = commands_in s.session.phase s count m

-- ---- a crash

-- The block has these bytes behind one of these commands, of those whose data are all there, where it is
-- done: also where a comparison would fail, since what was read for it may not be so.
abbrev pub IsBehindCommand : Bool → Disk → List Supplied → ℕ → List ℕ → Type 0
IsBehindCommand protected disk [] n bytes = ⊥
IsBehindCommand protected disk (o ∷ orders) n bytes =
    (IsSupplied disk.count o.0 o.1 × (bytes ≡ (disk_aimed protected disk o.0 o.1).block n))
    ⊎ IsBehindCommand protected disk orders n bytes

-- A crash leaves of each block what it would have left before, or the block behind one of these
-- commands; there are as many blocks.
pub record CrashLeavesBlocks (protected : Bool) (orders : List Supplied) (before after : Disk)
    (old new : ℕ → List ℕ → Type 0) : Type 0 where
  pub count : after.count ≡ before.count
  pub adds : (n : ℕ) (bytes : List ℕ) → new n bytes → old n bytes
      ⊎ IsBehindCommand protected before orders n bytes

-- The first PDU that the bytes complete is this one.
pub record IsNextPdu (old : TargetConnection) (piece : List ℕ) (m : Message) : Type 0 where
  pub framing : Framing
  pub count : ℕ
  pub taken : FramerMoves old.framing framing (take count piece) (m ∷ [])

-- The same of a call with these bytes: by the commands that may be executed for the PDU that they
-- complete, or with none changed.
abbrev pub CrashesNext : Bool → TargetConnection → List ℕ → Disk → Disk → (ℕ → List ℕ → Type 0)
    → (ℕ → List ℕ → Type 0) → Type 0
CrashesNext protected old piece before after kept_before kept_after =
    CrashLeavesBlocks protected [] before after kept_before kept_after
    ⊎ ((m : Message) × IsNextPdu old piece m
    × CrashLeavesBlocks protected (commands_at old.machine before.count m) before after
    kept_before kept_after)

-- ---- a crash, for any bytes

-- The first of these bytes complete some PDUs and one more. Behind the others, with at most n
-- failures counted, the block has these contents as a command of that one leaves it.
pub record IsMidCommandBlock (protected : Bool) (old : TargetConnection) (before : Store)
    (piece : List ℕ) (most n : ℕ)
    (bytes : List ℕ) : Type 0 where
  pub messages : List Message
  pub message : Message
  pub framing : Framing
  pub count : ℕ
  pub taken : FramerMoves old.framing framing (take count piece) (messages ++ message ∷ [])
  -- what the others lead to, and the failures that were counted behind them
  pub led : TargetStep
  pub failures : ℕ
  pub may : MayAnswer protected old.machine before.disk before.failures messages led failures
  pub few : failures ≤ most
  pub behind : IsBehindCommand protected led.disk (commands_at led.machine led.disk.count message) n
      bytes

-- A crash behind a call with these bytes leaves each block as it would have left it before, or as a
-- command of a PDU that they complete leaves it. There are as many blocks as before.
pub record CrashesFed (protected : Bool) (old : TargetConnection) (before : Store)
    (piece : List ℕ) (after : Store)
    (kept_before kept_after : ℕ → List ℕ → Type 0) : Type 0 where
  pub count : after.disk.count ≡ before.disk.count
  pub adds : (n : ℕ) (bytes : List ℕ) → kept_after n bytes
      → kept_before n bytes ⊎ IsMidCommandBlock protected old before piece after.failures n bytes

-- Where bytes lead a target and its store.
--
-- `protected` says of the store that it refuses each write.
use Rattle.std.specs.Prelude.{Bool, ◌≡◌, ℕ, List}
use Rattle.scsi_disk.specs.Disk.{Disk}
use Rattle.iscsi_target.specs.State.{TargetStep}
use Rattle.iscsi_target.specs.State.{writes_joined}
use Rattle.iscsi_target.specs.Machine.{MayAnswer}
use Rattle.iscsi_target.specs.Feed.{TargetConnection, Store}
use Rattle.iscsi_stream.specs.Stream.{Message}
use Rattle.iscsi_stream.specs.Framing.{FramerMoves}

-- The two facts of a store.
abbrev pub store_of : Disk → ℕ → Store
store_of disk failures = record { disk = disk; failures = failures }

-- These bytes led a target and its store from here to there: the target took them and answered the
-- PDUs that they complete. The target may keep the bytes of each write as one piece.
pub record TargetAdvances (protected : Bool) (old : TargetConnection) (before : Store)
    (bytes : List ℕ) (new : TargetConnection)
    (after : Store) : Type 0 where
  pub messages : List Message
  pub taken : FramerMoves old.framing new.framing bytes messages
  pub led : TargetStep
  pub may : MayAnswer protected old.machine before.disk before.failures messages led after.failures
  pub machine : writes_joined new.machine ≡ writes_joined led.machine
  pub disk_is : after.disk ≡ led.disk

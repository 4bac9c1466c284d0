-- The blocks of a service are those that commands left.
use Rattle.std.proofs.Common.{Bool, [], ◌++◌, refl}
use Rattle.scsi_disk.specs.Disk.{Disk}
use Rattle.iscsi_target.specs.Laws.{ExecutionsLead}
use Rattle.iscsi_target.proofs.Steps.FailingDiskLemmas.{leads_append}
use Rattle.iscsi_serving.specs.Executed.{HasExecuted}

-- no command leaves a disk as it is
pub nothing_executed : (protected : Bool) (disk : Disk) → ExecutionsLead protected disk [] disk
unfolding ExecutionsLead
nothing_executed protected disk = refl

-- the blocks of a disk are those that no command left
pub none_executed : (protected : Bool) (disk : Disk) → HasExecuted protected disk disk
none_executed protected disk = ([], nothing_executed protected disk)

-- commands behind commands
pub executed_then : (protected : Bool) (first now last : Disk) → HasExecuted protected first now → HasExecuted protected now last
    → HasExecuted protected first last
executed_then protected first now last a b = (a.0 ++ b.0, leads_append protected first now last a.0 b.0 a.1 b.1)

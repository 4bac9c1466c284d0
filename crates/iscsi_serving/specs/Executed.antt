-- The blocks of a service are those that commands left.
--
-- `protected` says of the store that it refuses each write.
use Rattle.std.specs.Prelude.{Bool, List}
use Rattle.scsi_disk.specs.Disk.{Disk}
use Rattle.iscsi_target.specs.State.{Execution}
use Rattle.iscsi_target.specs.Laws.{ExecutionsLead}

-- Commands that were executed, one after another, lead from one disk to another.
abbrev pub HasExecuted : Bool → Disk → Disk → Type 0
HasExecuted protected before after = (executed : List Execution)
    × ExecutionsLead protected before executed after

-- More of `Found`, of which no public contract speaks.
use Rattle.std.specs.Prelude.{Option, unwrap_or}
use Rattle.scsi_disk.specs.declared.command.transfer.Transfer.{Transfer}

-- the blocks that a command names, or none
abbrev pub named_blocks : Option Transfer → Transfer
named_blocks named = unwrap_or named (record { first = 0; count = 0; options = 0 })

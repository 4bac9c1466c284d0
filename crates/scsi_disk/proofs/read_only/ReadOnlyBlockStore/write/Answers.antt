-- Searched for, since a wrong body breaks these goals: 01-read_only-write.writes_through, 05-sparse_store-write.device_fault_at_will.
use Rattle.std.proofs.Common.{rules}
use Rattle.scsi_disk.proofs.read_only.ReadOnlyBlockStore.write.Goals as goal

pub returns-clause-protected : goal.returns-clause-protected
returns-clause-protected g c = search rules

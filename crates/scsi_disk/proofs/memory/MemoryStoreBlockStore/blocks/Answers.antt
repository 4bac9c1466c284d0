use Rattle.scsi_disk.proofs.BlockLemmas.{is_disk}
use Rattle.scsi_disk.proofs.memory.MemoryStoreBlockStore.blocks.Goals as goal

pub returns-clause-disk : goal.returns-clause-disk
returns-clause-disk c = rw (← c.self.view_is) (is_disk _ c.self.invariant)

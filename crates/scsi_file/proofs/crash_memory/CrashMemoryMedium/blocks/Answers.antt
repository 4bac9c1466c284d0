use Rattle.scsi_disk.proofs.BlockLemmas.{is_disk}
use Rattle.scsi_file.proofs.crash_memory.CrashMemoryMedium.blocks.Goals as goal

pub returns-clause-disk : goal.returns-clause-disk
returns-clause-disk c = is_disk _ c.args.self.now.whole

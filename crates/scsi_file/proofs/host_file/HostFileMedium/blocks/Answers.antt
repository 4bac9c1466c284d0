use Rattle.scsi_file.proofs.ZeroLemmas.{unknown_is}
use Rattle.scsi_file.proofs.host_file.HostFileMedium.blocks.Goals as goal

pub returns-clause-disk : goal.returns-clause-disk
returns-clause-disk c = unknown_is c.args.self.now.blocks c.args.self.now.some

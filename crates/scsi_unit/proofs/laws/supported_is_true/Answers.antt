use Rattle.scsi_unit.proofs.SupportedLemmas.{listed, unlisted}
use Rattle.scsi_unit.proofs.laws.supported_is_true.Goals as goal

pub returns-clause-listed : goal.returns-clause-listed
returns-clause-listed c = listed

pub returns-clause-unlisted : goal.returns-clause-unlisted
returns-clause-unlisted c = unlisted

use Rattle.scsi_cdb.proofs.RecordLemmas.{record_is}
use Rattle.iscsi_initiator.proofs.laws.record_of_a_block.Goals as goal

pub returns : goal.returns
returns c = record { record_is = record_is }

use Rattle.iscsi_stream.proofs.PassingLemmas.{limit_splits}
use Rattle.iscsi_stream.proofs.laws.limit_fault.Goals as goal

pub returns : goal.returns
returns c stream piece ms place v t fails = limit_splits stream piece ms place v t fails

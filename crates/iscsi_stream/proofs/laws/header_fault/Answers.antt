use Rattle.iscsi_stream.proofs.PassingLemmas.{header_splits}
use Rattle.iscsi_stream.proofs.laws.header_fault.Goals as goal

pub returns : goal.returns
returns c stream piece ms fault place v t fails = header_splits stream piece ms fault place v t fails

use Rattle.iscsi_text.proofs.FaultLemmas as faults
use Rattle.iscsi_text.proofs.laws.one_fault.Goals as goal

pub returns : goal.returns
returns c = record { one = faults.one_fault }

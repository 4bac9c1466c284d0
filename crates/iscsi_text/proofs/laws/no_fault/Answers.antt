use Rattle.iscsi_text.proofs.FaultLemmas as faults
use Rattle.iscsi_text.proofs.laws.no_fault.Goals as goal

pub returns : goal.returns
returns c = record { none = faults.no_fault }

use Rattle.iscsi_initiator.proofs.OutcomeLaws.{outcomes_in_order}
use Rattle.iscsi_initiator.proofs.laws.outcomes_in_order.Goals as goal

pub returns : goal.returns
returns c = record { order = outcomes_in_order }

use Rattle.iscsi_target.proofs.Access.AccessLaws.{full_if_answered, executed_if_answered}
use Rattle.iscsi_target.proofs.laws.full_if_answered.Goals as goal

pub returns : goal.returns
returns c = record { answered = full_if_answered; executed = executed_if_answered }

use Rattle.iscsi_target.proofs.Access.AllowedLaw.{full_allowed, executed_allowed, others_touch_nothing}
use Rattle.iscsi_target.proofs.laws.allowed_only.Goals as goal

pub returns : goal.returns
returns c = record { full = full_allowed; executed = executed_allowed; others = others_touch_nothing }

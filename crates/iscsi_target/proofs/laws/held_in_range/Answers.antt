use Rattle.iscsi_target.proofs.Steps.ReachableLemmas.{reached_held, reached_limit}
use Rattle.iscsi_target.proofs.laws.held_in_range.Goals as goal

pub returns : goal.returns
returns c = record { held = reached_held; limit = reached_limit }

use Rattle.iscsi_target.proofs.Steps.ReachableLemmas.{reached_outside}
use Rattle.iscsi_target.proofs.laws.silence_outside_the_window.Goals as goal

pub returns : goal.returns
returns c = record { silent = reached_outside }

use Rattle.iscsi_pair.specs.World.{new_pair}
use Rattle.iscsi_pair.proofs.Run.ServedRunsLaw.{was_served}
use Rattle.iscsi_pair.proofs.laws.served_runs.Goals as goal

pub returns : goal.returns
returns c = record { served = λ o events w r all well none. was_served (new_pair o) events w r all well none }

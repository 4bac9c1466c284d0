use Rattle.iscsi_pair.specs.World.{new_pair}
use Rattle.iscsi_pair.specs.Traffic.{first_traffic}
use Rattle.iscsi_pair.proofs.Ends.BothRuns.{traced}
use Rattle.iscsi_pair.proofs.laws.every_run_is_traced.Goals as goal

pub returns : goal.returns
returns c = record { traced = λ o events w r. traced (first_traffic o) (new_pair o) events w r }

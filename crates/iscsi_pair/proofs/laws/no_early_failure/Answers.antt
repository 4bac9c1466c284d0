use Rattle.iscsi_pair.specs.World.{new_pair}
use Rattle.iscsi_pair.specs.Traffic.{first_traffic}
use Rattle.iscsi_pair.proofs.Ends.BothRuns.{traced, reached_sides}
use Rattle.iscsi_pair.proofs.Login.NoEarlyFailureLaw.{in_time, none_fails}
use Rattle.iscsi_pair.proofs.laws.no_early_failure.Goals as goal

pub returns : goal.returns
returns c = record {
  target = λ o events w is suits r well. (let t = traced (first_traffic o) (new_pair o) events w (in_time (new_pair o) events w r) in
      (none_fails o events t.0 w is suits r (reached_sides o events w t.0 t.1) well).0);
  initiator = λ o events w is suits r well. (let t = traced (first_traffic o) (new_pair o) events w (in_time (new_pair o) events w r) in
      (none_fails o events t.0 w is suits r (reached_sides o events w t.0 t.1) well).1);
}

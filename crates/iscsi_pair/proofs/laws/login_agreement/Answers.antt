use Rattle.iscsi_pair.specs.World.{new_pair}
use Rattle.iscsi_pair.specs.Traffic.{first_traffic}
use Rattle.iscsi_pair.proofs.Ends.BothRuns.{traced, reached_sides}
use Rattle.iscsi_pair.proofs.Login.AgreementLaw.{world_agrees}
use Rattle.iscsi_pair.proofs.laws.login_agreement.Goals as goal

pub returns : goal.returns
returns c = record {
  both = λ o events w is r full. (let t = traced (first_traffic o) (new_pair o) events w r in
      (world_agrees o t.0 w is (reached_sides o events w t.0 t.1) full).0);
  equal = λ o events w is r full. (let t = traced (first_traffic o) (new_pair o) events w r in
      (world_agrees o t.0 w is (reached_sides o events w t.0 t.1) full).1);
}

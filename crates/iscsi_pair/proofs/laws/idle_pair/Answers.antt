use Rattle.iscsi_pair.specs.World.{new_pair}
use Rattle.iscsi_pair.specs.Traffic.{first_traffic}
use Rattle.iscsi_pair.proofs.Ends.BothRuns.{traced, reached_sides}
use Rattle.iscsi_pair.proofs.Login.AgreementLaw.{world_agrees}
use Rattle.iscsi_pair.proofs.Login.IdleLaw.{world_idle}
use Rattle.iscsi_pair.proofs.laws.idle_pair.Goals as goal

pub returns : goal.returns
returns c = record {
  initiator = λ o events w is r out back target_well well. (let t = traced (first_traffic o) (new_pair o) events w r in
      world_idle o t.0 w is (reached_sides o events w t.0 t.1) out back target_well well);
  target = λ o events w is r out back target_well well. (let t = traced (first_traffic o) (new_pair o) events w r in
      let s = reached_sides o events w t.0 t.1 in
      (world_agrees o t.0 w is s (world_idle o t.0 w is s out back target_well well)).0);
}

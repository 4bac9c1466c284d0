use Rattle.iscsi_pair.proofs.Ends.BothRuns.{reached_sides}
use Rattle.iscsi_pair.proofs.Ends.EndsLaw.{target_stands, initiator_stands, goes_on}
use Rattle.iscsi_pair.proofs.laws.ends.Goals as goal

pub returns : goal.returns
returns c = record {
  target = λ o events w t r none. target_stands o t w none (reached_sides o events w t r).target;
  initiator = λ o events w t r none. initiator_stands o t w none (reached_sides o events w t r);
  order = λ o past more mid w u t inputs r i e none. goes_on o past more mid w u t inputs r i e none;
}

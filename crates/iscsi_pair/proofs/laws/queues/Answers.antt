use Rattle.iscsi_pair.proofs.Ends.BothRuns.{reached_sides}
use Rattle.iscsi_pair.proofs.laws.queues.Goals as goal

pub returns : goal.returns
returns c = record {
  target = λ o events w t r. (reached_sides o events w t r).to_target;
  initiator = λ o events w t r. (reached_sides o events w t r).to_initiator;
}

use Rattle.iscsi_initiator.proofs.OneOutcomeLaw.{one_feed, one_submit}
use Rattle.iscsi_initiator.proofs.laws.one_outcome.Goals as goal

pub returns : goal.returns
returns c = record {
  feed = λ stream piece output written rewritten ms old same a b result other. one_feed stream piece output written rewritten ms old same a b result other;
  submit = λ request output written rewritten old same a b result other. one_submit request output written rewritten old same a b result other;
}

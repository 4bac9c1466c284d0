use Rattle.iscsi_target.proofs.Feed.OneOutcomeLaw.{one_outcome}
use Rattle.iscsi_target.proofs.laws.one_outcome.Goals as goal
use Rattle.iscsi_target.specs.Feed.{scene}

pub returns : goal.returns
returns c = record {
  alike = λ protected stream piece output written rewritten ms old same a b before store first second result other.
      one_outcome protected stream piece (scene old before output) (scene a first written) (scene b second rewritten) ms same store result other;
}

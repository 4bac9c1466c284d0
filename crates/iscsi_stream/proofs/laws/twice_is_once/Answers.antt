use Rattle.std.proofs.Common.{ap}
use Rattle.iscsi_stream.specs.Segment.{no_login}
use Rattle.iscsi_stream.specs.Stream.{longest_segment}
use Rattle.iscsi_stream.specs.Canonical.{canon}
use Rattle.iscsi_stream.proofs.OneMeaningLaw.{canon_again, one_meaning}
use Rattle.iscsi_stream.proofs.laws.twice_is_once.Goals as goal

pub returns : goal.returns
returns c stream ms ns bytes p q = ap canon (one_meaning longest_segment no_login (canon ms) ns ms q (canon_again longest_segment no_login stream ms bytes p))

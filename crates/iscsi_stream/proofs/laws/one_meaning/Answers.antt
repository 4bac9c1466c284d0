use Rattle.iscsi_stream.specs.Segment.{no_login}
use Rattle.iscsi_stream.specs.Stream.{longest_segment}
use Rattle.iscsi_stream.proofs.OneMeaningLaw.{one_meaning}
use Rattle.iscsi_stream.proofs.laws.one_meaning.Goals as goal

pub returns : goal.returns
returns c stream ms ns p q = one_meaning longest_segment no_login stream ms ns p q

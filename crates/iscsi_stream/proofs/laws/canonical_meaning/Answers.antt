use Rattle.iscsi_stream.specs.Segment.{no_login}
use Rattle.iscsi_stream.specs.Stream.{longest_segment}
use Rattle.iscsi_stream.proofs.OneMeaningLaw.{canon_again}
use Rattle.iscsi_stream.proofs.laws.canonical_meaning.Goals as goal

pub returns : goal.returns
returns c stream ms bytes p = canon_again longest_segment no_login stream ms bytes p

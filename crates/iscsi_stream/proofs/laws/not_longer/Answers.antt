use Rattle.iscsi_stream.specs.Segment.{no_login}
use Rattle.iscsi_stream.specs.Stream.{longest_segment}
use Rattle.iscsi_stream.proofs.OneMeaningLaw.{canon-shorter}
use Rattle.iscsi_stream.proofs.laws.not_longer.Goals as goal

pub returns : goal.returns
returns c stream ms bytes p = canon-shorter longest_segment no_login stream ms bytes p

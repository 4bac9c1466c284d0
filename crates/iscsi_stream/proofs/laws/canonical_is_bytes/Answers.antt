use Rattle.iscsi_stream.specs.Segment.{no_login}
use Rattle.iscsi_stream.specs.Stream.{longest_segment}
use Rattle.iscsi_stream.proofs.CanonBytesLaw.{canon_bytes}
use Rattle.iscsi_stream.proofs.laws.canonical_is_bytes.Goals as goal

pub returns : goal.returns
returns c stream ms bytes p = canon_bytes longest_segment no_login stream ms bytes p

use Rattle.iscsi_stream.proofs.TakingLemmas.{splits_taken}
use Rattle.iscsi_stream.proofs.ReadyLemmas.{unready_of}
use Rattle.iscsi_stream.proofs.laws.given_so_far.Goals as goal

pub returns : goal.returns
returns c stream ms v t unready = (t.given, t.rest, splits_taken stream ms v t (unready_of v.failed v.held t.live unready), t.begun, t.place)

use Rattle.iscsi_stream.proofs.PlaceLemmas.{stands_at}
use Rattle.iscsi_stream.proofs.laws.ready_pdu.Goals as goal

pub returns : goal.returns
returns c stream segment ms head v t m = stands_at stream segment ms head v t m

use Rattle.iscsi_stream.proofs.PlaceLemmas.{end_is, is_end}
use Rattle.iscsi_stream.proofs.laws.end_fault.Goals as goal

pub returns : goal.returns
returns c stream ms place v t = (end_is stream ms place v t, is_end stream ms place v t)

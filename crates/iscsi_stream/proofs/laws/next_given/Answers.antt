use Rattle.iscsi_stream.proofs.TakingLemmas.{gave}
use Rattle.iscsi_stream.proofs.laws.next_given.Goals as goal

pub returns : goal.returns
returns c stream segment ms head old t m = gave stream ms old head segment t m

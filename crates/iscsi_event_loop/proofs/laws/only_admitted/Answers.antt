use Rattle.iscsi_event_loop.proofs.RunningLemmas.{let_in_at}
use Rattle.iscsi_event_loop.proofs.laws.only_admitted.Goals as goal

pub returns : goal.returns
returns c = let_in_at

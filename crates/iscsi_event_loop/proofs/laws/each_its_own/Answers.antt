use Rattle.iscsi_event_loop.proofs.RunningLemmas.{served_own}
use Rattle.iscsi_event_loop.proofs.laws.each_its_own.Goals as goal

pub returns : goal.returns
returns c = record { own = served_own }

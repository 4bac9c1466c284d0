use Rattle.iscsi_sessions.proofs.RunLemmas.{own_session}
use Rattle.iscsi_sessions.proofs.laws.each_its_own.Goals as goal

pub returns : goal.returns
returns c = record { own = own_session }

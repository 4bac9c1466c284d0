use Rattle.iscsi_sessions.proofs.AccessLemmas.{let_in}
use Rattle.iscsi_sessions.proofs.laws.only_admitted.Goals as goal

pub returns : goal.returns
returns c = let_in

use Rattle.iscsi_sessions.proofs.RunLemmas.{runs_lead}
use Rattle.iscsi_sessions.proofs.ExactLemmas.{runs_follows}
use Rattle.iscsi_sessions.proofs.laws.one_disk_of_all.Goals as goal

pub returns : goal.returns
returns c = record { may = runs_lead; follows = runs_follows }

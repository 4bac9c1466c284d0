-- The exchange, step by step.
use Rattle.iscsi_access.proofs.CompletingLemmas.{completes}
use Rattle.iscsi_access.proofs.laws.one_secret_completes.Goals as goal

pub returns : goal.returns
returns c = record { completes = completes }

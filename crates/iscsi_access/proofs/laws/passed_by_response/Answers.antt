-- A text that passes is right.
use Rattle.iscsi_access.proofs.PassingLemmas.{passed_step}
use Rattle.iscsi_access.proofs.laws.passed_by_response.Goals as goal

pub returns : goal.returns
returns c = record { passed = passed_step }

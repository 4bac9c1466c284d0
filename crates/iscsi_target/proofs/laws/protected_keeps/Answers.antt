use Rattle.std.specs.Prelude.{true}
use Rattle.iscsi_target.proofs.Steps.FailingDiskLemmas.{may_leads}
use Rattle.iscsi_target.proofs.Answers.ProtectedLaw.{leads_keep}
use Rattle.iscsi_target.proofs.laws.protected_keeps.Goals as goal

pub returns-clause-answered : goal.returns-clause-answered
returns-clause-answered c s disk before after ms r may = leads_keep disk r.disk r.executed (may_leads true s disk before after ms r may)

pub returns-clause-executed : goal.returns-clause-executed
returns-clause-executed c disk last es l = leads_keep disk last es l

-- Searched for, since a wrong body breaks these goals: 03-session-refusal_when_full.busy_at_will.
use Rattle.std.proofs.Common.{rules}
use Rattle.iscsi_initiator.proofs.session.Session.refusal_when_full.Goals as goal

pub returns-then-is_some-clause-fault : goal.returns-then-is_some-clause-fault
returns-then-is_some-clause-fault c = search rules

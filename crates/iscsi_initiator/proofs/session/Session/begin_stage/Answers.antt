-- Searched for, since a wrong body breaks these goals: 05-session-begin_stage.never_finishes_login.
use Rattle.std.proofs.Common.{rules}
use Rattle.iscsi_initiator.proofs.session.Session.begin_stage.Goals as goal

pub returns-in-Full : goal.returns-in-Full
returns-in-Full c = search rules

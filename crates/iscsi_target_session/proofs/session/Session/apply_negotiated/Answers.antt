-- Searched for, since a wrong body breaks these goals: 05-session-apply_negotiated.never_finishes_login.
use Rattle.std.proofs.Common.{rules}
use Rattle.iscsi_target_session.proofs.session.Session.apply_negotiated.Goals as goal

pub returns : goal.returns
returns c = search rules

-- Searched for, since a wrong body breaks these goals: 03-session-reject.reject_copies_received_header.
use Rattle.std.proofs.Common.{rules}
use Rattle.iscsi_target_session.proofs.session.Session.reject.Goals as goal

pub returns : goal.returns
returns c = search rules

-- Searched for, since a wrong body breaks these goals: 02-session-first_data_out.data_numbers_run_on.
use Rattle.std.proofs.Common.{rules}
use Rattle.iscsi_initiator.proofs.session.Session.first_data_out.Goals as goal

pub returns-clause-value : goal.returns-clause-value
returns-clause-value c = search rules

-- Searched for, since a wrong body breaks these goals: 01-config-with_chap.demands_nothing.
use Rattle.std.proofs.Common.{rules}
use Rattle.iscsi_target_session.proofs.config.Config.with_chap.Goals as goal

pub returns : goal.returns
returns c = search rules

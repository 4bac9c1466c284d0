use Rattle.iscsi_captures.proofs.Shown.{some_then}
use Rattle.iscsi_captures.proofs.pdus.Reading.pass_runs.Goals as goal

pub returns-in_err-len : goal.returns-in_err-len
returns-in_err-len c = record { appends = some_then c.args.manner.form _ _ _ c.loop-turn.invariant c.pass_run.ensures.appends }

pub loop-turn-preserved : goal.loop-turn-preserved
loop-turn-preserved c = some_then c.args.manner.form _ _ _ c.loop-turn.invariant c.pass_run.ensures.appends

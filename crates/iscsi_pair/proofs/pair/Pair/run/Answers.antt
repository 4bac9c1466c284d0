use Rattle.iscsi_pair.proofs.Run.MoveLemmas.{runs_none, step_more}
use Rattle.iscsi_pair.proofs.pair.Pair.run.Goals as goal

pub loop-step-init : goal.loop-step-init
loop-step-init c = runs_none c.args.self.now

pub loop-step-preserved : goal.loop-step-preserved
loop-step-preserved c = step_more c.args.self.now c.loop-step.self c.step.new.self c.loop-step.yielded c.in-Some.step c.loop-step.invariant c.step.ensures

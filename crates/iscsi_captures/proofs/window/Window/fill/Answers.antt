use Rattle.iscsi_captures.proofs.Reading.{read_more}
use Rattle.iscsi_captures.proofs.window.Window.fill.Goals as goal

pub loop-turn-preserved : goal.loop-turn-preserved
loop-turn-preserved g c = read_more _ _ _ c.loop-turn.invariant c.read.ensures.reads

pub returns-in_err-read-clause-reads : goal.returns-in_err-read-clause-reads
returns-in_err-read-clause-reads g c = read_more _ _ _ c.loop-turn.invariant c.in_err-read.ensures.reads

pub returns-then-branch-eq0-clause-reads : goal.returns-then-branch-eq0-clause-reads
returns-then-branch-eq0-clause-reads g c = read_more _ _ _ c.loop-turn.invariant c.in_ok-read.ensures.reads

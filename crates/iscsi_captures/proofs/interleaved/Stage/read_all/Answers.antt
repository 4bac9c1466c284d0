use Rattle.iscsi_captures.proofs.Shown.{wrote_more}
use Rattle.iscsi_captures.proofs.interleaved.Stage.read_all.Goals as goal

pub loop-turn-preserved : goal.loop-turn-preserved
loop-turn-preserved g c = wrote_more _ _ _ c.loop-turn.invariant c.step.ensures.moves

pub returns-in_err-more : goal.returns-in_err-more
returns-in_err-more g c = record { moves = wrote_more _ _ _ c.loop-turn.invariant c.step.ensures.moves }

pub returns-then-not-more : goal.returns-then-not-more
returns-then-not-more g c = record { moves = wrote_more _ _ _ c.loop-turn.invariant c.step.ensures.moves }

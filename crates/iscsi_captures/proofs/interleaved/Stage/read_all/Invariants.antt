use Rattle.iscsi_captures.specs.Written.{WroteBytes}
use Rattle.iscsi_captures.proofs.interleaved.Stage.read_all.Given as goal

abbrev pub invariant-loop-turn : goal.invariant-loop-turn
invariant-loop-turn g l = WroteBytes (g.W.Write.contents l.initial.w) (g.W.Write.contents l.w)

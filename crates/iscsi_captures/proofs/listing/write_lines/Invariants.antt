use Rattle.std.proofs.Common.{length}
use Rattle.iscsi_stream.proofs.LoopInvariants.{WroteUpTo}
use Rattle.iscsi_captures.proofs.listing.write_lines.Given as goal

abbrev pub invariant-loop-rest : goal.invariant-loop-rest
invariant-loop-rest g l = WroteUpTo l.lines l.rest (g.W.Write.contents l.initial.w) (g.W.Write.contents l.w)

abbrev pub decreases-loop-rest : goal.decreases-loop-rest
decreases-loop-rest g l = length l.rest

use Rattle.std.proofs.Common.{◌-◌}
use Rattle.iscsi_stream.proofs.LoopInvariants.{WrittenUpTo, sides}
use Rattle.iscsi_stream.proofs.normalising.write_stream.Given as goal

abbrev pub invariant-loop-out : goal.invariant-loop-out
invariant-loop-out g l =
    WrittenUpTo l.form l.framer l.counts l.reads (sides (g.R.Read.remaining l.initial.r) (g.W.Write.contents l.initial.w))
    (sides (g.R.Read.remaining l.r) (g.W.Write.contents l.w))

abbrev pub decreases-loop-out : goal.decreases-loop-out
decreases-loop-out g l = 16777216 - l.reads

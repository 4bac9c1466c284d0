use Rattle.std.proofs.Common.{◌-◌}
use Rattle.iscsi_explain.proofs.Reading.{ReadUpTo}
use Rattle.iscsi_explain.proofs.stream.show_in_form.Given as goal

abbrev pub invariant-loop-out : goal.invariant-loop-out
invariant-loop-out g l =
    ReadUpTo l.fn.form l.framer (g.R.Read.remaining l.initial.r) (g.R.Read.remaining l.r)
    (g.W.Write.contents l.initial.w) (g.W.Write.contents l.w)

abbrev pub decreases-loop-out : goal.decreases-loop-out
decreases-loop-out g l = 16777216 - l.reads

use Rattle.iscsi_compare.specs.inner.Inside.{fuel}
use Rattle.iscsi_compare.proofs.InStepLemmas.{streams, InStep}
use Rattle.iscsi_compare.proofs.in_step.compare_streams.Given as goal

abbrev pub invariant-loop-other_form : goal.invariant-loop-other_form
invariant-loop-other_form g l =
    InStep (streams (g.R.Read.remaining l.initial.mine) (g.Q.Read.remaining l.initial.other) l.initial.out.items)
    (streams (g.R.Read.remaining l.mine) (g.Q.Read.remaining l.other) l.out.items) l.first l.second

abbrev pub decreases-loop-other_form : goal.decreases-loop-other_form
decreases-loop-other_form g l = fuel l.first

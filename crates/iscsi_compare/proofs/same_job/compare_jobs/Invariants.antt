use Rattle.iscsi_compare.specs.inner.Inside.{fuel}
use Rattle.iscsi_compare.proofs.InStepLemmas.{streams}
use Rattle.iscsi_compare.proofs.RunsInStepLemmas.{JobInStep}
use Rattle.iscsi_compare.proofs.same_job.compare_jobs.Given as goal

abbrev pub invariant-loop-renaming : goal.invariant-loop-renaming
invariant-loop-renaming g l =
    JobInStep (streams (g.R.Read.remaining l.initial.mine) (g.Q.Read.remaining l.initial.other) l.initial.out.items)
    (streams (g.R.Read.remaining l.mine) (g.Q.Read.remaining l.other) l.out.items) l.first l.second l.renaming

abbrev pub decreases-loop-renaming : goal.decreases-loop-renaming
decreases-loop-renaming g l = fuel l.first

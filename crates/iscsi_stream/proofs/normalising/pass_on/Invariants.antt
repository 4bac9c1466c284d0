use Rattle.std.proofs.Common.{length}
use Rattle.iscsi_stream.specs.inner.Passing.{passing_progress}
use Rattle.iscsi_stream.proofs.LoopInvariants.{PassedUpTo}
use Rattle.iscsi_stream.proofs.normalising.pass_on.Given as goal

abbrev pub invariant-loop-rest : goal.invariant-loop-rest
invariant-loop-rest l = PassedUpTo l.form l.piece l.rest (passing_progress l.initial.framer l.initial.out.items l.initial.counts)
    (passing_progress l.framer l.out.items l.counts)

abbrev pub decreases-loop-rest : goal.decreases-loop-rest
decreases-loop-rest l = length l.rest

use Rattle.std.proofs.Common.{length}
use Rattle.iscsi_explain.proofs.Passing.{UpTo}
use Rattle.iscsi_explain.proofs.stream.pass_on.Given as goal

abbrev pub invariant-loop-rest : goal.invariant-loop-rest
invariant-loop-rest l =
    UpTo l.manner.form l.piece l.rest l.fn.framer l.framer l.fn.out.items l.out.items

abbrev pub decreases-loop-rest : goal.decreases-loop-rest
decreases-loop-rest l = length l.rest

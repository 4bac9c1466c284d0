use Rattle.std.proofs.Common.{length}
use Rattle.iscsi_text.specs.Shown.{all_shown}
use Rattle.iscsi_text.specs.inner.Inside.{GathersTo}
use Rattle.iscsi_text.proofs.text.read.gather.Given as goal

abbrev pub invariant-loop-rest : goal.invariant-loop-rest
invariant-loop-rest l = GathersTo l.bytes l.rest (all_shown l.pairs.items)

abbrev pub decreases-loop-rest : goal.decreases-loop-rest
decreases-loop-rest l = length l.rest

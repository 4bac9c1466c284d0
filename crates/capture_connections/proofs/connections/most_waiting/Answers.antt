use Rattle.std.proofs.Common.{below_more, arith}
use Rattle.std.specs.Prelude.{slice_get}
use Rattle.capture_connections.specs.inner.Waiting.{larger_at}
use Rattle.capture_connections.proofs.Counting.{at_most}
use Rattle.capture_connections.proofs.connections.most_waiting.Goals as goal

pub loop-k-preserved : goal.loop-k-preserved
loop-k-preserved c =
    below_more _ _ (λ j lt. omega (arith, c.loop-k.invariant j lt, c.larger_of-number.ensures.first))
    c.larger_of-number.ensures.second

pub returns : goal.returns
returns c =
    at_most c.args.list.now (larger_at (slice_get c.args.list.now c.loop-k.number))
    (λ j lt. c.loop-k.invariant j (omega (arith, lt, c.loop-k-test.false)))

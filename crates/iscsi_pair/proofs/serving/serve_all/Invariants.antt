use Rattle.iscsi_pair.proofs.Lists.ServingLemmas.{HasServed}
use Rattle.iscsi_pair.proofs.serving.serve_all.Given as goal

-- The requests so far were handed in, and gave the outcomes so far.
abbrev pub invariant-loop-request : goal.invariant-loop-request
invariant-loop-request l = HasServed l.fn.pair l.yielded l.pair l.outcomes.items

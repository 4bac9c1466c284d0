use Rattle.iscsi_pair.proofs.Lists.ServingLemmas.{HasTurned}
use Rattle.iscsi_pair.proofs.serving.settle.Given as goal

-- So many turns led here.
abbrev pub invariant-loop : goal.invariant-loop
invariant-loop l = HasTurned l.initial.pair l.counter l.pair

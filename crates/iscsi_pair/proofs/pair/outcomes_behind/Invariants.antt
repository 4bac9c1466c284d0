use Rattle.iscsi_pair.proofs.Run.GivingLemmas.{HasGiven}
use Rattle.iscsi_pair.proofs.pair.outcomes_behind.Given as goal

-- The steps so far were taken, and gave the outcomes so far.
abbrev pub invariant-loop-step : goal.invariant-loop-step
invariant-loop-step l = HasGiven l.initial.pair l.yielded l.pair l.outcomes.items

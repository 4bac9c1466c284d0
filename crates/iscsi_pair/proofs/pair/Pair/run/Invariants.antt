use Rattle.std.proofs.Common.{map}
use Rattle.iscsi_pair.specs.World.{PairRuns, event_of}
use Rattle.iscsi_pair.proofs.pair.Pair.run.Given as goal

abbrev pub invariant-loop-step : goal.invariant-loop-step
invariant-loop-step l = PairRuns l.initial.self (map event_of l.yielded) l.self

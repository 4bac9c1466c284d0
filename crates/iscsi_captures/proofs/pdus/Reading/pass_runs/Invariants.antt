-- What was appended so far is entries.
use Rattle.iscsi_explain.specs.Showing.{AppendsSome}
use Rattle.iscsi_captures.proofs.pdus.Reading.pass_runs.Given as goal

abbrev pub invariant-loop-turn : goal.invariant-loop-turn
invariant-loop-turn l = AppendsSome l.manner.form l.initial.out.items l.out.items

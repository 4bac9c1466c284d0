use Rattle.iscsi_captures.specs.Giving.{WasRead}
use Rattle.iscsi_captures.proofs.window.Window.fill.Given as goal

abbrev pub invariant-loop-turn : goal.invariant-loop-turn
invariant-loop-turn g l = WasRead (g.R.Read.remaining l.initial.file) (g.R.Read.remaining l.file)

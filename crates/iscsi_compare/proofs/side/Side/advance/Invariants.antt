use Rattle.std.proofs.Common.{◌≡◌, ◌≤◌, ◌-◌, true}
use Rattle.iscsi_compare.specs.inner.Inside.{fuel, IsOpen, SideReadsOn, SideHasRead}
use Rattle.iscsi_compare.proofs.side.Side.advance.Given as goal

abbrev pub invariant-loop-self : goal.invariant-loop-self
invariant-loop-self g l = IsOpen l.self × (l.self.which ≡ l.initial.self.which) × (fuel l.self ≤ fuel l.initial.self)
    × SideReadsOn l.initial.self (g.R.Read.remaining l.initial.r) (g.R.Read.remaining l.r) (SideHasRead true l.self)

abbrev pub decreases-loop-self : goal.decreases-loop-self
decreases-loop-self g l = 16777216 - l.self.reads

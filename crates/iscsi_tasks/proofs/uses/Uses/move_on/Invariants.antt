use Rattle.std.proofs.Common.{◌≡◌, ℕ, length}
use Rattle.iscsi_tasks.specs.Uses.{uses_from}
use Rattle.iscsi_tasks.proofs.uses.Uses.move_on.Given as goal

-- What is due is due of the uses that are left.
abbrev pub invariant-loop-next : goal.invariant-loop-next
invariant-loop-next l = uses_from l.at l.self.current l.self.later.items
    ≡ uses_from l.at l.fn.self.current l.fn.self.later.items

-- how many later uses are left
abbrev pub decreases-loop-next : goal.decreases-loop-next
decreases-loop-next l = length l.self.later.items

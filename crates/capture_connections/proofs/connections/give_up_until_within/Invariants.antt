use Rattle.std.proofs.Common.{◌≡◌, ◌≤◌, ◌-◌, ◌^◌, min}
use Rattle.capture_connections.specs.Following.{KeepsConnections}
use Rattle.capture_connections.specs.Waiting.{most_bytes_waiting, waiting_in_all}
use Rattle.capture_connections.proofs.connections.give_up_until_within.Given as goal

abbrev pub invariant-loop-waiting : goal.invariant-loop-waiting
invariant-loop-waiting l = (l.waiting ≡ min (waiting_in_all l.list.items) (2 ^ 64 - 1))
    × KeepsConnections l.initial.list.items l.list.items
    × (waiting_in_all l.initial.list.items ≤ most_bytes_waiting → l.list.items ≡ l.initial.list.items)

-- less waits at each turn
abbrev pub decreases-loop-waiting : goal.decreases-loop-waiting
decreases-loop-waiting l = waiting_in_all l.list.items

use Rattle.std.proofs.Common.{◌≡◌, ◌-◌, ◌^◌, min, take}
use Rattle.capture_connections.specs.Waiting.{waiting_in_all}
use Rattle.capture_connections.proofs.connections.waiting_in.Given as goal

abbrev pub invariant-loop-connection : goal.invariant-loop-connection
invariant-loop-connection l =
    l.waiting ≡ min (waiting_in_all (take l.connection-index l.list)) (2 ^ 64 - 1)

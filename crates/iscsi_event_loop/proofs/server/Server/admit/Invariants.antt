use Rattle.std.proofs.Common.{◌≡◌, ◌≤◌, length}
use Rattle.iscsi_event_loop.specs.Running.{RunsIdle}
use Rattle.iscsi_event_loop.proofs.server.Server.admit.Given as goal

abbrev pub invariant-loop : goal.invariant-loop
invariant-loop l = RunsIdle l.fn.self.room l.self.room
    × (length l.self.room.table.slots ≡ length l.fn.self.room.table.slots)
    × (l.self.most ≡ l.fn.self.most) × (l.fn.self.counted ≤ l.self.counted)

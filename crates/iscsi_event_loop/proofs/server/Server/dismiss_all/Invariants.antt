use Rattle.std.proofs.Common.{◌≡◌, length}
use Rattle.iscsi_event_loop.specs.Running.{RunsIdle}
use Rattle.iscsi_event_loop.proofs.server.Server.dismiss_all.Given as goal

abbrev pub invariant-loop-slot : goal.invariant-loop-slot
invariant-loop-slot l = RunsIdle l.fn.self.room l.self.room
    × (length l.self.room.table.slots ≡ length l.fn.self.room.table.slots)
    × (l.self.most ≡ l.fn.self.most) × (l.self.counted ≡ l.fn.self.counted)

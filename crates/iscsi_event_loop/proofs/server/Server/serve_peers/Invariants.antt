use Rattle.std.proofs.Common.{◌≡◌, ◌≤◌, length}
use Rattle.iscsi_target.specs.Advances.{store_of}
use Rattle.iscsi_event_loop.specs.Giving.{most_given}
use Rattle.iscsi_event_loop.specs.Running.{InTurns, most_pdus}
use Rattle.iscsi_event_loop.proofs.server.Server.serve_peers.Given as goal

abbrev pub invariant-loop-slot : goal.invariant-loop-slot
invariant-loop-slot g l = InTurns g.S.BlockStore.protected l.slot
    l.fn.self.room (store_of (g.S.BlockStore.disk l.fn.store) (g.S.BlockStore.failures l.fn.store))
    l.self.room (store_of (g.S.BlockStore.disk l.store) (g.S.BlockStore.failures l.store))
    × (length l.self.room.table.slots ≡ length l.fn.self.room.table.slots)
    × (l.self.most ≡ l.fn.self.most) × (l.fn.self.counted ≤ l.self.counted)
    × (l.budget.pdus ≤ most_pdus) × (l.budget.given ≤ most_given)

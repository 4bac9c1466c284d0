use Rattle.std.proofs.Common.{◌≡◌, length}
use Rattle.iscsi_target.specs.Advances.{store_of}
use Rattle.iscsi_event_loop.specs.inner.Running.{SlotRuns}
use Rattle.iscsi_event_loop.proofs.peer.Peer.turn.Given as goal

abbrev pub invariant-loop : goal.invariant-loop
invariant-loop g l = SlotRuns g.S.BlockStore.protected l.fn.slot l.fn.budget l.left
    l.fn.table (store_of (g.S.BlockStore.disk l.fn.store) (g.S.BlockStore.failures l.fn.store))
    l.table (store_of (g.S.BlockStore.disk l.store) (g.S.BlockStore.failures l.store))
    × (length l.table.slots ≡ length l.fn.table.slots)

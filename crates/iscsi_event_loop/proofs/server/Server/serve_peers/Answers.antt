use Rattle.std.proofs.Common.{◌∙◌, le_trans}
use Rattle.iscsi_target.specs.Advances.{store_of}
use Rattle.iscsi_event_loop.proofs.RunningLemmas.{next_turns}
use Rattle.iscsi_event_loop.proofs.server.Server.serve_peers.Goals as goal

pub loop-slot-preserved : goal.loop-slot-preserved
loop-slot-preserved g c = (
  next_turns g.S.BlockStore.protected c.loop-slot.slot c.of-budget.result c.args.self.now.room c.loop-slot.self.room c.serve_peer.new.self.room
      (store_of (g.S.BlockStore.disk c.args.store.now) (g.S.BlockStore.failures c.args.store.now))
      (store_of (g.S.BlockStore.disk c.loop-slot.store) (g.S.BlockStore.failures c.loop-slot.store))
      (store_of (g.S.BlockStore.disk c.serve_peer.new.store) (g.S.BlockStore.failures c.serve_peer.new.store))
      c.loop-slot.invariant.4 c.loop-slot.invariant.5 c.loop-slot.invariant.0 c.serve_peer.ensures.turn,
  c.serve_peer.ensures.slots ∙ c.loop-slot.invariant.1,
  c.serve_peer.ensures.most ∙ c.loop-slot.invariant.2,
  le_trans c.loop-slot.invariant.3 c.serve_peer.ensures.counted,
  c.loop-slot.invariant.4,
  c.loop-slot.invariant.5,
)

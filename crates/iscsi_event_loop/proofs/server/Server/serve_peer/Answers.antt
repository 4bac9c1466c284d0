use Rattle.std.proofs.Common.{subst}
use Rattle.iscsi_target.specs.Advances.{store_of}
use Rattle.iscsi_serving.specs.Access.{door_of}
use Rattle.iscsi_event_loop.specs.Running.{TurnOf}
use Rattle.iscsi_event_loop.specs.Serving.{ServerState}
use Rattle.iscsi_event_loop.proofs.RunningLemmas.{idle_turn}
use Rattle.iscsi_event_loop.proofs.server.Server.serve_peer.Goals as goal

pub returns-clause-turn : goal.returns-clause-turn
returns-clause-turn g c =
    let before = store_of (g.S.BlockStore.disk c.args.store.now) (g.S.BlockStore.failures c.args.store.now) in
    let after = store_of (g.S.BlockStore.disk c.turn.new.store) (g.S.BlockStore.failures c.turn.new.store) in
    subst (λ (s : ServerState). TurnOf g.S.BlockStore.protected c.args.slot c.args.budget s.room before c.settle.new.self.room after) c.self.view_is
    (idle_turn g.S.BlockStore.protected c.args.slot c.args.budget (record { table = c.self.inside.table; door = door_of c.self.inside.access }) c.turn.new.table
    c.settle.new.self.room before after c.turn.ensures.runs c.settle.ensures.runs)

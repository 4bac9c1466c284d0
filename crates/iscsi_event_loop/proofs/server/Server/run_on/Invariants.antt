use Rattle.iscsi_target.specs.Advances.{store_of}
use Rattle.iscsi_event_loop.specs.Running.{RunsWithin}
use Rattle.iscsi_event_loop.proofs.server.Server.run_on.Given as goal

abbrev pub invariant-loop : goal.invariant-loop
invariant-loop g l = RunsWithin g.S.BlockStore.protected
    l.fn.self.room (store_of (g.S.BlockStore.disk l.fn.store) (g.S.BlockStore.failures l.fn.store))
    l.self.room (store_of (g.S.BlockStore.disk l.store) (g.S.BlockStore.failures l.store))

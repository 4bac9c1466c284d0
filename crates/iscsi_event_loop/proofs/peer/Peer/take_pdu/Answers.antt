use Rattle.iscsi_target.specs.Advances.{store_of}
use Rattle.iscsi_event_loop.proofs.RunningLemmas.{turn_at}
use Rattle.iscsi_event_loop.proofs.peer.Peer.take_pdu.Goals as goal

pub returns-in-Ok-clause-runs : goal.returns-in-Ok-clause-runs
returns-in-Ok-clause-runs g c = turn_at g.S.BlockStore.protected c.args.slot c.args.left.now c.take-in-Ok.new.self c.args.table.now c.take.new.self
    (store_of (g.S.BlockStore.disk c.args.store.now) (g.S.BlockStore.failures c.args.store.now))
    (store_of (g.S.BlockStore.disk c.take.new.store) (g.S.BlockStore.failures c.take.new.store))
    c.take.result c.requires.some c.take-in-Ok.ensures.pdus c.take-in-Ok.ensures.given c.requires.may c.take.ensures.takes c.take.ensures.turn

pub returns-in-Err-clause-runs : goal.returns-in-Err-clause-runs
returns-in-Err-clause-runs g c = turn_at g.S.BlockStore.protected c.args.slot c.args.left.now c.take-in-Err.new.self c.args.table.now c.take.new.self
    (store_of (g.S.BlockStore.disk c.args.store.now) (g.S.BlockStore.failures c.args.store.now))
    (store_of (g.S.BlockStore.disk c.take.new.store) (g.S.BlockStore.failures c.take.new.store))
    c.take.result c.requires.some c.take-in-Err.ensures.pdus c.take-in-Err.ensures.given c.requires.may c.take.ensures.takes c.take.ensures.turn

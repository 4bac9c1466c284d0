use Rattle.std.proofs.Common.{arith, refl, ap}
use Rattle.iscsi_target.specs.Advances.{store_of}
use Rattle.iscsi_sessions.specs.Slots.{SessionTable}
use Rattle.iscsi_event_loop.proofs.RunningLemmas.{idle_at, sync_at, unsent_at, write_at}
use Rattle.iscsi_event_loop.proofs.peer.Peer.write.Goals as goal

pub returns-then-not-is_writable-clause-runs : goal.returns-then-not-is_writable-clause-runs
returns-then-not-is_writable-clause-runs g c = idle_at g.S.BlockStore.protected c.args.slot c.args.left.now c.args.table.now c.sent.new.self
    (store_of (g.S.BlockStore.disk c.args.store.now) (g.S.BlockStore.failures c.args.store.now))
    (unsent_at c.args.slot c.args.table.now c.sent.new.self c.sent.ensures.sent c.sent.ensures.machines)

pub returns-in-Err-clause-runs : goal.returns-in-Err-clause-runs
returns-in-Err-clause-runs g c = sync_at g.S.BlockStore.protected c.args.slot c.args.left.now c.args.table.now c.settle.new.self
    (store_of (g.S.BlockStore.disk c.args.store.now) (g.S.BlockStore.failures c.args.store.now))
    (store_of (g.S.BlockStore.disk c.settle.new.store) (g.S.BlockStore.failures c.settle.new.store))
    c.requires.some (ap (λ (x : SessionTable). x.slots) c.in-Err.ensures.lost) c.settle.ensures.syncs

pub returns-in-Bytes-clause-runs : goal.returns-in-Bytes-clause-runs
returns-in-Bytes-clause-runs g c = write_at g.S.BlockStore.protected c.args.slot c.in-Bytes.count c.args.left.now c.give.new.self c.args.table.now
    c.settle.new.self c.sent-in-Bytes.new.self
    (store_of (g.S.BlockStore.disk c.args.store.now) (g.S.BlockStore.failures c.args.store.now))
    (store_of (g.S.BlockStore.disk c.settle.new.store) (g.S.BlockStore.failures c.settle.new.store))
    c.give.ensures.pdus c.give.ensures.given c.in-Ok.ensures.settled c.sent-in-Bytes.ensures.sent c.sent-in-Bytes.ensures.machines c.settle.ensures.syncs

pub returns-in-Nothing-clause-runs : goal.returns-in-Nothing-clause-runs
returns-in-Nothing-clause-runs g c = write_at g.S.BlockStore.protected c.args.slot 0 c.args.left.now c.args.left.now c.args.table.now
    c.settle.new.self c.sent-in-Nothing.new.self
    (store_of (g.S.BlockStore.disk c.args.store.now) (g.S.BlockStore.failures c.args.store.now))
    (store_of (g.S.BlockStore.disk c.settle.new.store) (g.S.BlockStore.failures c.settle.new.store))
    refl (omega arith) c.in-Ok.ensures.settled c.sent-in-Nothing.ensures.sent c.sent-in-Nothing.ensures.machines c.settle.ensures.syncs

pub returns-in-End-clause-runs : goal.returns-in-End-clause-runs
returns-in-End-clause-runs g c = sync_at g.S.BlockStore.protected c.args.slot c.args.left.now c.args.table.now c.settle.new.self
    (store_of (g.S.BlockStore.disk c.args.store.now) (g.S.BlockStore.failures c.args.store.now))
    (store_of (g.S.BlockStore.disk c.settle.new.store) (g.S.BlockStore.failures c.settle.new.store))
    c.requires.some (ap (λ (x : SessionTable). x.slots) c.in-Ok.ensures.settled) c.settle.ensures.syncs

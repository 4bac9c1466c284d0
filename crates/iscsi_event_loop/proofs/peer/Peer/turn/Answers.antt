use Rattle.std.proofs.Common.{◌∙◌}
use Rattle.iscsi_target.specs.Advances.{store_of}
use Rattle.iscsi_event_loop.proofs.RunningLemmas.{spent_at, then_at}
use Rattle.iscsi_event_loop.proofs.peer.Peer.turn.Goals as goal

pub returns-in-Rests-clause-runs : goal.returns-in-Rests-clause-runs
returns-in-Rests-clause-runs g c = spent_at g.S.BlockStore.protected c.args.slot c.args.budget c.step.new.left c.args.table.now c.step.new.table
    (store_of (g.S.BlockStore.disk c.args.store.now) (g.S.BlockStore.failures c.args.store.now))
    (store_of (g.S.BlockStore.disk c.step.new.store) (g.S.BlockStore.failures c.step.new.store))
    (then_at g.S.BlockStore.protected c.args.slot c.args.budget c.loop.left c.step.new.left
    c.args.table.now c.loop.table c.step.new.table
    (store_of (g.S.BlockStore.disk c.args.store.now) (g.S.BlockStore.failures c.args.store.now))
    (store_of (g.S.BlockStore.disk c.loop.store) (g.S.BlockStore.failures c.loop.store))
    (store_of (g.S.BlockStore.disk c.step.new.store) (g.S.BlockStore.failures c.step.new.store))
    (c.is_spent.ensures.given c.if-is_spent.false) c.loop.invariant.0 c.in-Rests.ensures.runs)

pub returns-in-Over-clause-runs : goal.returns-in-Over-clause-runs
returns-in-Over-clause-runs g c = spent_at g.S.BlockStore.protected c.args.slot c.args.budget c.step.new.left c.args.table.now c.step.new.table
    (store_of (g.S.BlockStore.disk c.args.store.now) (g.S.BlockStore.failures c.args.store.now))
    (store_of (g.S.BlockStore.disk c.step.new.store) (g.S.BlockStore.failures c.step.new.store))
    (then_at g.S.BlockStore.protected c.args.slot c.args.budget c.loop.left c.step.new.left
    c.args.table.now c.loop.table c.step.new.table
    (store_of (g.S.BlockStore.disk c.args.store.now) (g.S.BlockStore.failures c.args.store.now))
    (store_of (g.S.BlockStore.disk c.loop.store) (g.S.BlockStore.failures c.loop.store))
    (store_of (g.S.BlockStore.disk c.step.new.store) (g.S.BlockStore.failures c.step.new.store))
    (c.is_spent.ensures.given c.if-is_spent.false) c.loop.invariant.0 c.in-Over.ensures.runs)

pub loop-preserved : goal.loop-preserved
loop-preserved g c = (
  then_at g.S.BlockStore.protected c.args.slot c.args.budget c.loop.left c.step.new.left
      c.args.table.now c.loop.table c.step.new.table
      (store_of (g.S.BlockStore.disk c.args.store.now) (g.S.BlockStore.failures c.args.store.now))
      (store_of (g.S.BlockStore.disk c.loop.store) (g.S.BlockStore.failures c.loop.store))
      (store_of (g.S.BlockStore.disk c.step.new.store) (g.S.BlockStore.failures c.step.new.store))
      (c.is_spent.ensures.given c.if-is_spent.false) c.loop.invariant.0 c.in-Went.ensures.runs,
  c.in-Went.ensures.slots ∙ c.loop.invariant.1,
)

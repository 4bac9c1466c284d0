use Rattle.std.proofs.Common.{◌+◌, ◌++◌, ◌∷◌, [], ◌∙◌, refl, arith}
use Rattle.std.proofs.lemmas.List.{take_all}
use Rattle.scsi_disk.specs.Runs.{RunsSome}
use Rattle.scsi_disk.proofs.RunLemmas.{on_err, ran_none, ran_next, ran_rises}
use Rattle.scsi_disk.proofs.running.run_orders.Goals as goal

pub loop-order-init : goal.loop-order-init
loop-order-init g c =
    let disk = g.S.BlockStore.disk in
    let failures = g.S.BlockStore.failures in
    record {
      count = refl;
      ran = ran_none g.S.BlockStore.protected (failures c.args.store.now) (disk c.args.store.now) _ c.new-told.ensures.items;
      lasts
          = λ same settled. settled;
    }

pub execute-requires : goal.execute-requires
execute-requires g c =
    let o = c.loop-order-item.result in
    let supplied = c.requires c.loop-order.order-index o (omega arith) in
    let here = rw (← c.loop-order-item.is) at supplied in
    rw (c.as_slice.ensures, c.loop-order.invariant.count) here

pub returns-in_err-outcome-clause-err : goal.returns-in_err-outcome-clause-err
returns-in_err-outcome-clause-err g c =
    let failures = g.S.BlockStore.failures in
    let disk = g.S.BlockStore.disk in
    let ran : RunsSome g.S.BlockStore.protected (failures c.args.store.now) (disk c.args.store.now) c.args.orders.now (failures c.execute.new.store)
    (disk c.execute.new.store) = (
      c.loop-order.order-index,
      c.loop-order.told.items,
      failures c.loop-order.store,
      omega arith,
      c.in_err-outcome.ensures.err_rises,
      rw c.in_err-outcome.ensures.err c.loop-order.invariant.ran,
    ) in
    on_err _ ran

pub returns-in_err-push-clause-err : goal.returns-in_err-push-clause-err
returns-in_err-push-clause-err g c =
    let failures = g.S.BlockStore.failures in
    let disk = g.S.BlockStore.disk in
    let orders = c.args.orders.now in
    let i = c.loop-order.order-index in
    let o = c.loop-order-item.result in
    let done = rw c.as_slice.ensures at c.in_ok-outcome.ensures.ok in
    let ran : RunsSome g.S.BlockStore.protected (failures c.args.store.now) (disk c.args.store.now) orders (failures c.execute.new.store)
    (disk c.execute.new.store) = (
      i + 1,
      c.loop-order.told.items ++ c.in_ok-outcome.outcome ∷ [],
      failures c.execute.new.store,
      omega arith,
      omega arith,
      ran_next g.S.BlockStore.protected orders i o (omega arith) c.loop-order-item.is _ _ _ _ _ _ _ c.loop-order.invariant.ran done,
    ) in
    on_err _ ran

pub loop-order-preserved : goal.loop-order-preserved
loop-order-preserved g c =
    let orders = c.args.orders.now in
    let i = c.loop-order.order-index in
    let o = c.loop-order-item.result in
    let done = rw c.as_slice.ensures at c.in_ok-outcome.ensures.ok in
    record {
      count = c.in_ok-outcome.ensures.count ∙ c.loop-order.invariant.count;
      ran = rw c.in_ok-push.ensures.items (ran_next g.S.BlockStore.protected orders i o (omega arith) c.loop-order-item.is _ _ _ _ _ _ _
          c.loop-order.invariant.ran done);
      lasts = λ same settled.
          (let before = ran_rises g.S.BlockStore.protected _ _ _ _ _ _ c.loop-order.invariant.ran in
          let after = done.rises in
          c.in_ok-outcome.ensures.lasts (omega (arith, before, after, same)) (c.loop-order.invariant.lasts (omega (arith, before, after, same)) settled));
    }

pub returns-clause-ok : goal.returns-clause-ok
returns-clause-ok g c = rw (take_all c.loop-order.order-index c.args.orders.now (omega arith)) at c.loop-order.invariant.ran

pub returns-in_err-outcome-clause-lasts : goal.returns-in_err-outcome-clause-lasts
returns-in_err-outcome-clause-lasts g c = λ same settled.
    let before = ran_rises g.S.BlockStore.protected _ _ _ _ _ _ c.loop-order.invariant.ran in
    let after = c.in_err-outcome.ensures.err_rises in
    c.execute.ensures.lasts (omega (arith, before, after, same)) (c.loop-order.invariant.lasts (omega (arith, before, after, same)) settled)

pub returns-in_err-push-clause-lasts : goal.returns-in_err-push-clause-lasts
returns-in_err-push-clause-lasts g c = λ same settled.
    let before = ran_rises g.S.BlockStore.protected _ _ _ _ _ _ c.loop-order.invariant.ran in
    let after = c.in_ok-outcome.ensures.ok.rises in
    c.execute.ensures.lasts (omega (arith, before, after, same)) (c.loop-order.invariant.lasts (omega (arith, before, after, same)) settled)

use Rattle.std.proofs.Common.{◌≡◌, ℕ, List, [], refl, sym, subst, rules}
use Rattle.scsi_disk.specs.Effect.{Effect, OrderExecuted, IsSupplied}
use Rattle.iscsi_target.specs.State.{waiting_tasks}
use Rattle.iscsi_target.specs.Transfer.{with_piece}
use Rattle.iscsi_target.proofs.Writes.OpenWriteLemmas.{data_of_one}
use Rattle.iscsi_target.proofs.Answers.OrderLemmas.{write_gives_none}
use Rattle.iscsi_target.proofs.Turns.ServingLemmas.{order_serves}
use Rattle.iscsi_target.proofs.Answers.CommandLemmas.{told_write, write_told}
use Rattle.iscsi_target.proofs.Feed.CrashLemmas.{one_done}
use Rattle.iscsi_target.proofs.machine.Machine.execute_write.Goals as goal
use Rattle.iscsi_target.specs.Advances.{store_of}
use Rattle.iscsi_target.specs.inner.Inside.{moment}

pub returns-clause-handles : goal.returns-clause-handles
returns-clause-handles g c = record {
  ok = let fa : ℕ = g.S.BlockStore.failures c.execute_found.new.store in
      let now = g.S.BlockStore.disk c.execute_found.new.store in
      let e : Effect = record { disk = now; outcome = c.in_ok-outcome.outcome } in
      let none : e.outcome.bytes ≡ [] = write_gives_none g.S.BlockStore.protected (g.S.BlockStore.failures c.args.store.now) fa
      (g.S.BlockStore.disk c.args.store.now) c.args.order.now
      c.args.bytes.now e c.in_ok-outcome.ensures.ok c.requires.write in
      order_serves g.S.BlockStore.protected (g.S.BlockStore.failures c.args.store.now)
      (moment c.advance_stat_sn.new.self (store_of now fa) c.append_response.new.out.items) c.args.tag c.args.self.now
      (g.S.BlockStore.disk c.args.store.now) c.args.order.now (with_piece [] 0 c.args.bytes.now) e c.args.out.now.items
      (subst (λ (bytes : List ℕ). OrderExecuted g.S.BlockStore.protected (g.S.BlockStore.failures c.args.store.now) fa
      (g.S.BlockStore.disk c.args.store.now) c.args.order.now bytes e)
      (sym (data_of_one c.args.bytes.now)) c.in_ok-outcome.ensures.ok)
      c.advance_stat_sn.ensures refl
      (write_told c.args.self.now c.args.tag (g.S.BlockStore.disk c.args.store.now).count c.args.order.now c.in_ok-outcome.outcome c.args.out.now.items
      c.append_response.new.out.items
      c.requires.write
      (told_write c.args.self.now c.args.tag c.in_ok-outcome.outcome c.response_head-head.result c.args.out.now.items c.reserve.new.self.items
      c.append_response.new.out.items none
      (c.response_head-head.ensures.head c.args.self.now.session (waiting_tasks c.args.self.now.tasks) (sym c.numbers.ensures.stat_sn)
      (sym c.numbers.ensures.exp_cmd_sn) (sym c.numbers.ensures.max_cmd_sn))
      c.in_ok-reserve.ensures.items c.in-Ok.ensures.ok));
  err = search rules;
}

pub returns-clause-crash : goal.returns-clause-crash
returns-clause-crash g c =
    let supplied : IsSupplied (g.S.BlockStore.disk c.args.store.now).count c.args.order.now c.args.bytes.now = search rules in
    one_done g.S.BlockStore.protected c.args.order.now c.args.bytes.now (g.S.BlockStore.disk c.args.store.now) (g.S.BlockStore.disk c.execute_found.new.store)
    (g.S.BlockStore.kept c.args.store.now) (g.S.BlockStore.kept c.execute_found.new.store) c.execute_found.ensures.count supplied c.execute_found.ensures.crash

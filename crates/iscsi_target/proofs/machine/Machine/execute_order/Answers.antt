use Rattle.std.proofs.Common.{ℕ, ◌≡◌, ◌++◌, ◌∙◌, [], refl, subst, sym, rules, arith}
use Rattle.iscsi_stream.specs.Canonical.{canon}
use Rattle.scsi_disk.specs.Disk.{Disk}
use Rattle.scsi_disk.specs.Effect.{Effect, OrderExecuted}
use Rattle.scsi_disk.specs.declared.order.Outcome.{Outcome}
use Rattle.iscsi_target.specs.State.{waiting_tasks}
use Rattle.iscsi_target.specs.Execution.{command_answers, data_in_parts}
use Rattle.iscsi_target.proofs.Feed.CrashLemmas.{read_behind}
use Rattle.iscsi_target.proofs.Turns.ServingLemmas.{order_serves, on_err}
use Rattle.iscsi_target.proofs.machine.Machine.execute_order.Goals as goal
use Rattle.iscsi_target.specs.Advances.{store_of}
use Rattle.iscsi_target.specs.inner.Inside.{moment}

pub send_outcome-requires : goal.send_outcome-requires
send_outcome-requires g c = c.in_ok-outcome.ensures.ok.few

pub returns-in_err-send_outcome-clause-handles : goal.returns-in_err-send_outcome-clause-handles
returns-in_err-send_outcome-clause-handles g c = record {
  ok = search rules;
  err = on_err c.from_residual-in_err-send_outcome.result (record {
    machine = refl;
    rises = omega (arith, c.in_ok-outcome.ensures.ok.executes.rises, c.send_outcome.ensures.read.rises);
    disk_is = c.send_outcome.ensures.read.disk ∙ c.outcome_of.ensures.disk;
    unwritten = c.in_err-send_outcome.ensures.err;
  });
}

pub returns-in_err-send_outcome-clause-crash : goal.returns-in_err-send_outcome-clause-crash
returns-in_err-send_outcome-clause-crash g c =
    read_behind g.S.BlockStore.protected [] (g.S.BlockStore.disk c.args.store.now) (g.S.BlockStore.disk c.outcome_of.new.store)
    (g.S.BlockStore.disk c.send_outcome.new.store) (g.S.BlockStore.kept c.args.store.now) (g.S.BlockStore.kept c.outcome_of.new.store)
    (g.S.BlockStore.kept c.send_outcome.new.store) c.outcome_of.ensures.crash c.send_outcome.ensures.read.disk c.send_outcome.ensures.read.kept

pub returns-clause-handles : goal.returns-clause-handles
returns-clause-handles g c = record {
  ok = let protected = g.S.BlockStore.protected in
      let fb : ℕ = g.S.BlockStore.failures c.args.store.now in
      let fa : ℕ = g.S.BlockStore.failures c.send_outcome.new.store in
      let disk = g.S.BlockStore.disk c.args.store.now in
      let now = g.S.BlockStore.disk c.send_outcome.new.store in
      let led = c.in_ok-outcome.ensures.ok in
      let s = c.args.self.now in
      let e : Effect = record { disk = now; outcome = led.given } in
      let executes : OrderExecuted protected fb fa disk c.args.order [] e =
      subst (λ (d : Disk). OrderExecuted protected fb fa disk c.args.order [] (record { disk = d; outcome = led.given })) (sym c.send_outcome.ensures.read.disk)
      (subst (λ (n : ℕ). OrderExecuted protected fb n disk c.args.order [] (record { disk = g.S.BlockStore.disk c.outcome_of.new.store; outcome = led.given }))
      (sym c.in_ok-send_outcome.ensures.failures) led.executes) in
      order_serves protected fb (moment c.advance_stat_sn.new.self (store_of now fa) c.send_outcome.new.out.items) c.args.tag s disk c.args.order [] e
      c.args.out.now.items executes c.advance_stat_sn.ensures refl
      (subst (λ (o : Outcome). c.send_outcome.new.out.items ≡ c.args.out.now.items ++ canon (command_answers s.session (waiting_tasks s.tasks) c.args.tag o
      (data_in_parts s.session o.bytes))) led.is c.in_ok-send_outcome.ensures.ok);
  err = search rules;
}

pub returns-clause-crash : goal.returns-clause-crash
returns-clause-crash g c =
    read_behind g.S.BlockStore.protected [] (g.S.BlockStore.disk c.args.store.now) (g.S.BlockStore.disk c.outcome_of.new.store)
    (g.S.BlockStore.disk c.send_outcome.new.store) (g.S.BlockStore.kept c.args.store.now) (g.S.BlockStore.kept c.outcome_of.new.store)
    (g.S.BlockStore.kept c.send_outcome.new.store) c.outcome_of.ensures.crash c.send_outcome.ensures.read.disk c.send_outcome.ensures.read.kept

use Rattle.std.proofs.Common.{ℕ, [], refl, rules}
use Rattle.scsi_disk.specs.Effect.{Effect}
use Rattle.scsi_disk.specs.Plan.{plan_of}
use Rattle.scsi_disk.proofs.ReadingLemmas.{whole}
use Rattle.iscsi_target.proofs.Answers.CommandLemmas.{told_read}
use Rattle.iscsi_target.proofs.Turns.ServingLemmas.{order_serves}
use Rattle.iscsi_target.proofs.machine.Machine.execute_read.Goals as goal
use Rattle.iscsi_target.specs.Advances.{store_of}
use Rattle.iscsi_target.specs.inner.Inside.{moment}

pub returns-clause-handles : goal.returns-clause-handles
returns-clause-handles g c = record {
  ok = let fa : ℕ = g.S.BlockStore.failures c.send_read.new.store in
      let disk = g.S.BlockStore.disk c.args.store.now in
      let now = g.S.BlockStore.disk c.send_read.new.store in
      let answers = c.in_ok-send_read.ensures.ok in
      let e : Effect = record { disk = now; outcome = answers.outcome } in
      let reads = (whole disk c.args.order.now (plan_of c.args.order.now disk.count) c.args.range refl c.requires.whole).reads in
      order_serves g.S.BlockStore.protected (g.S.BlockStore.failures c.args.store.now)
      (moment c.advance_stat_sn.new.self (store_of now fa) c.send_read.new.out.items) c.args.tag c.args.self.now disk c.args.order.now [] e
      c.args.out.now.items answers.executes c.advance_stat_sn.ensures refl
      (told_read c.args.self.now c.args.tag disk.count c.args.order.now answers.outcome c.args.out.now.items c.send_read.new.out.items reads answers.output);
  err = search rules;
}

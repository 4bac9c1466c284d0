use Rattle.std.proofs.Common.{◌≡◌, ◌∙◌, ap, sym, ℕ}
use Rattle.std.proofs.lemmas.Result.{IfOk-weaker}
use Rattle.scsi_disk.specs.declared.order.Outcome.{Outcome}
use Rattle.scsi_disk.specs.declared.order.Plan.TheVariants.{Take}
use Rattle.scsi_disk.specs.Plan.{plan_of, taken_length}
use Rattle.scsi_disk.proofs.AnsweredLemmas.{taken_executed}
use Rattle.scsi_disk.proofs.execution.execute_found.Goals as goal

pub returns-else-is_refused-clause-ok : goal.returns-else-is_refused-clause-ok
returns-else-is_refused-clause-ok g c =
    let disk = g.S.BlockStore.disk c.args.store.now in
    let order = c.args.order.now in
    let plan : plan_of order disk.count ≡ Take (taken_length order) = rw (c.requires.blocks, c.in-Write.is) at c.requires.found.plan in
    IfOk-weaker c.take.result _ _ (λ (o : Outcome) done. taken_executed g.S.BlockStore.protected (g.S.BlockStore.failures c.args.store.now)
    (g.S.BlockStore.failures c.take.new.store) disk order c.args.bytes.now (record { disk = g.S.BlockStore.disk c.take.new.store; outcome = o })
    plan (sym c.is_refused.ensures ∙ c.if-is_refused.false) done) c.take.ensures.ok

use Rattle.std.proofs.Common.{Err, ℕ, [], sym, ap, refl, subst, rules, ◌∙◌, arith}
use Rattle.scsi_disk.specs.Effect.{good_outcome}
use Rattle.scsi_disk.specs.Plan.{plan_of, wanted_length}
use Rattle.scsi_disk.specs.declared.order.Outcome.{Outcome}
use Rattle.scsi_disk.proofs.ReadingLemmas.{whole}
use Rattle.iscsi_target.specs.State.{waiting_tasks}
use Rattle.iscsi_target.specs.inner.Reads.{SendsAnswers, given_by_source, reply}
use Rattle.iscsi_target.specs.declared.machine.source.Source.TheVariants.{Blocks}
use Rattle.iscsi_target.proofs.Answers.CommandLemmas.{on_ok}
use Rattle.iscsi_target.proofs.Answers.ReadPartLemmas.{answers_failed, answers_read}
use Rattle.iscsi_target.proofs.machine.Machine.send_read.Goals as goal
use Rattle.iscsi_target.specs.Advances.{store_of}

pub returns-clause-ok : goal.returns-clause-ok
returns-clause-ok g c =
    let disk = g.S.BlockStore.disk c.args.store.now in
    let failures = g.S.BlockStore.failures in
    let order = c.args.order.now in
    let s = c.args.self.now in
    on_ok c.append_response.result (answers_failed g.S.BlockStore.protected s c.args.tag order (store_of disk (failures c.args.store.now))
    (store_of (g.S.BlockStore.disk c.append_answers.new.store) (failures c.append_answers.new.store)) c.args.range c.in_ok-outcome.outcome
    c.response_head-head.result c.args.out.now.items
    c.truncate.new.self.items c.append_response.new.out.items (whole disk order (plan_of order disk.count) c.args.range refl c.requires.whole)
    c.append_answers.ensures.reads.read.disk (c.append_answers.ensures.reads.device (c.in-Err.is ∙ ap Err c.in_ok-outcome.ensures.ok.0))
    c.in_ok-outcome.ensures.ok.1 (search rules)
    (c.response_head-head.ensures.head s.session (waiting_tasks s.tasks) (sym c.numbers.ensures.stat_sn) (sym c.numbers.ensures.exp_cmd_sn)
    (sym c.numbers.ensures.max_cmd_sn))) c.append_response.ensures.ok

pub append_answers-requires-clause-has : goal.append_answers-requires-clause-has
append_answers-requires-clause-has g c =
    let disk = g.S.BlockStore.disk c.args.store.now in
    let inside = (whole disk c.args.order.now (plan_of c.args.order.now disk.count) c.args.range refl c.requires.whole).inside in
    (refl, omega arith, omega arith, inside, omega (arith, inside, c.requires.few))

pub returns-in_default-clause-ok : goal.returns-in_default-clause-ok
returns-in_default-clause-ok g c =
    let disk = g.S.BlockStore.disk c.args.store.now in
    let failures = g.S.BlockStore.failures in
    let order = c.args.order.now in
    let s = c.args.self.now in
    let reads = c.append_answers.ensures.reads in
    answers_read g.S.BlockStore.protected s c.args.tag order disk (g.S.BlockStore.disk c.append_answers.new.store) c.args.range (failures c.args.store.now)
    (failures c.append_answers.new.store) c.args.out.now.items c.append_answers.new.out.items
    (whole disk order (plan_of order disk.count) c.args.range refl c.requires.whole) c.requires.disk reads.read.disk reads.read.rises
    (subst (λ (o : Outcome). SendsAnswers (reply s c.args.tag c.args.out.now.items c.append_answers.new.out.items) o
    (given_by_source (Blocks c.args.range) disk (failures c.args.store.now) (failures c.append_answers.new.store)))
    (c.read_outcome-outcome.ensures ∙ ap (λ (n : ℕ). good_outcome order (wanted_length order n) []) c.requires.blocks)
    c.in_default.ensures.ok)

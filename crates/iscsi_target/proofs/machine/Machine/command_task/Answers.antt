use Rattle.std.proofs.Common.{◌≡◌, ℕ, ap, sym, ◌∙◌, rules}
use Rattle.std.proofs.lemmas.Bool.{false≢true}
use Rattle.scsi_disk.specs.Plan.{first_refusal, is_write, plan_of}
use Rattle.scsi_disk.specs.declared.order.Plan.TheVariants.{Take}
use Rattle.scsi_disk.specs.declared.order.Order.{Order}
use Rattle.iscsi_target.specs.Command.{write_opened, order_of}
use Rattle.iscsi_target.specs.State.{unit_of}
use Rattle.iscsi_target.specs.declared.tasks.Task.TheVariants.{Command, Data}
use Rattle.iscsi_target.proofs.Turns.DispatchLemmas.{task_simple, task_takes}
use Rattle.iscsi_target.proofs.Writes.WriteTilingLaws.{immediate_fits}
use Rattle.iscsi_target.proofs.Answers.OrderLemmas.{takes_is}
use Rattle.iscsi_target.proofs.machine.Machine.command_task.Goals as goal
use Rattle.iscsi_target.proofs.machine.Machine.command_task.Goals.{then-is_write+in_default, else-is_write}

pub opened-requires-clause-fits : goal.opened-requires-clause-fits
opened-requires-clause-fits c =
    let plan : plan_of (order_of (unit_of c.args.self.now.session) c.args.command.now) c.args.blocks ≡ Take c.in-Take.total = search rules in
    immediate_fits (unit_of c.args.self.now.session) c.args.blocks c.args.command.now c.args.self.now.session.held c.in-Take.total c.args.bytes.now
    c.requires.keeps plan

pub returns-in-Take : goal.returns-in-Take
returns-in-Take c =
    let plan : plan_of (order_of (unit_of c.args.self.now.session) c.args.command.now) c.args.blocks ≡ Take c.in-Take.total = search rules in
    ap Data (c.in_ok-write.ensures ∙ ap (λ (order : Order). write_opened c.args.command.now order c.in-Take.total c.args.bytes.now) c.order_of-order.ensures)
    ∙ sym (task_takes (unit_of c.args.self.now.session) c.args.blocks c.in-Take.total c.args.command.now c.args.bytes.now plan)

pub returns : goal.returns
returns c =
    let unit = unit_of c.args.self.now.session in
    let order : Order = order_of unit c.args.command.now in
    let blocks : ℕ = c.args.blocks in
    ap (Command c.args.command.now.initiator_task_tag) c.order_of-order.ensures
    ∙ sym (task_simple unit blocks c.args.command.now c.args.bytes.now (elim c.if-is_write.branch [
      | then-is_write+in_default w ↦ λ n e. w.in_default.not-Take n (w.plan.ensures ∙ ap (plan_of c.order_of-order.result) w.of-found.ensures.blocks
          ∙ ap (λ (o : Order). plan_of o blocks) c.order_of-order.ensures ∙ e)
      | else-is_write w ↦ λ n e. false≢true (sym w.if-is_write.false ∙ c.is_write.ensures ∙ ap (λ (o : Order). is_write o.cdb) c.order_of-order.ensures
          ∙ (takes_is (first_refusal order blocks) order n blocks e).0)
    ]))

use Rattle.std.proofs.Common.{◌≡◌, sym, ap, ◌∙◌, subst}
use Rattle.std.specs.Prelude.{IfOk}
use Rattle.iscsi_target_session.specs.declared.inbound.Asks.TheVariants as asks
use Rattle.iscsi_target_session.proofs.InboundLemmas.{request_plain}
use Rattle.iscsi_target.specs.declared.tasks.Task.{Task}
use Rattle.iscsi_target.specs.declared.tasks.Task.TheVariants.{Request}
use Rattle.iscsi_target.specs.State.{unit_of}
use Rattle.iscsi_target.proofs.Turns.DispatchLemmas.{command_keeps, task_asks, task_command}
use Rattle.iscsi_target.proofs.machine.Machine.task.Goals as goal

pub command_task-requires : goal.command_task-requires
command_task-requires c = record {
  keeps = command_keeps c.args.self.now.session.held c.received.inside.continued c.received.inside.pdu.head c.received.inside.pdu.bytes.now c.args.received.now
      c.received.view_is c.args.request.now c.in-Command.command c.requires.is c.in-Command.is c.requires.keeps;
}

pub copy-requires : goal.copy-requires
copy-requires c = record { plain = request_plain c.args.received.now.head c.args.request.now c.requires.is }

pub returns-in-Command : goal.returns-in-Command
returns-in-Command c =
    subst (λ (x : Task). IfOk c.command_task.result (λ task. task ≡ x))
    (task_command (unit_of c.args.self.now.session) c.args.blocks c.received.inside.continued c.received.inside.pdu.head c.received.inside.pdu.bytes.now
    c.args.received.now c.received.view_is c.args.request.now c.in-Command.command c.requires.is c.in-Command.is) c.command_task.ensures

pub returns-in_ok-copy-in-Session : goal.returns-in_ok-copy-in-Session
returns-in_ok-copy-in-Session c =
    ap Request c.in_ok-copy-in-Session.ensures
    ∙ sym (task_asks (unit_of c.args.self.now.session) c.args.blocks c.args.received.now c.args.request.now (asks.Session c.in-Session.asked) c.in-Session.is)

use Rattle.std.proofs.Common.{◌≡◌, refl, ap, subst, rules}
use Rattle.iscsi_target_session.specs.Requests.{request_answered}
use Rattle.iscsi_target_session.specs.declared.inbound.Asks.TheVariants as asks
use Rattle.iscsi_target_session.proofs.InboundLemmas.{request_plain}
use Rattle.iscsi_target.specs.declared.tasks.Task.{Task}
use Rattle.iscsi_target.specs.State.{on, unit_of, waiting_tasks}
use Rattle.iscsi_target.specs.Execution.{Device}
use Rattle.iscsi_target.specs.Command.{task_for, task_of, presented}
use Rattle.iscsi_target.specs.Machine.{task_begun}
use Rattle.iscsi_target.specs.Crash.{CrashLeavesBlocks, command_of_task}
use Rattle.iscsi_target.proofs.Feed.CrashLemmas.{none_done}
use Rattle.iscsi_target.proofs.Turns.DispatchLemmas.{command_keeps, task_asks, task_command}
use Rattle.iscsi_target.proofs.Turns.ServingLemmas.{serves_if, leaves_handles}
use Rattle.iscsi_target.proofs.machine.Machine.run_request.Goals as goal

pub scsi_command-requires-clause-keeps : goal.scsi_command-requires-clause-keeps
scsi_command-requires-clause-keeps g c =
    command_keeps c.args.self.now.session.held c.received.inside.continued c.received.inside.pdu.head c.received.inside.pdu.bytes.now c.args.received.now
    c.received.view_is c.args.request.now c.in-Command.command c.requires.is c.in-Command.is c.requires.keeps

pub answer_request-requires : goal.answer_request-requires
answer_request-requires g c = record { plain = request_plain c.args.received.now.head c.args.request.now c.requires.is }

pub returns-in-Command-clause-handles : goal.returns-in-Command-clause-handles
returns-in-Command-clause-handles g c =
    let unit = unit_of c.args.self.now.session in
    let disk = g.S.BlockStore.disk c.args.store.now in
    let same : task_for unit disk.count c.in-Command.command c.received.inside.pdu.bytes.now ≡ task_of unit
    (presented disk.count c.args.received.now c.args.request.now) =
    task_command unit disk.count c.received.inside.continued c.received.inside.pdu.head c.received.inside.pdu.bytes.now c.args.received.now
    c.received.view_is c.args.request.now c.in-Command.command c.requires.is c.in-Command.is in
    record {
      ok = serves_if g.S.BlockStore.protected c.scsi_command.result (g.S.BlockStore.failures c.args.store.now)
          (g.S.BlockStore.failures c.scsi_command.new.store)
          (λ (d : Device). task_begun d c.args.self.now disk (task_of unit (presented disk.count c.args.received.now c.args.request.now)))
          (λ (d : Device). task_begun d c.args.self.now disk (task_for unit disk.count c.in-Command.command c.received.inside.pdu.bytes.now))
          c.scsi_command.new.self (g.S.BlockStore.disk c.scsi_command.new.store) c.args.out.now.items c.scsi_command.new.out.items
          (λ (d : Device). ap (task_begun d c.args.self.now disk) same) c.scsi_command.ensures.handles.ok;
      err = search rules;
    }

pub returns-in-Command-clause-crash : goal.returns-in-Command-clause-crash
returns-in-Command-clause-crash g c =
    let unit = unit_of c.args.self.now.session in
    let disk = g.S.BlockStore.disk c.args.store.now in
    subst (λ (task : Task). CrashLeavesBlocks g.S.BlockStore.protected (command_of_task task) disk (g.S.BlockStore.disk c.scsi_command.new.store)
    (g.S.BlockStore.kept c.args.store.now) (g.S.BlockStore.kept c.scsi_command.new.store))
    (task_command unit disk.count c.received.inside.continued c.received.inside.pdu.head c.received.inside.pdu.bytes.now c.args.received.now
    c.received.view_is c.args.request.now c.in-Command.command c.requires.is c.in-Command.is) c.scsi_command.ensures.crash

pub returns-in-Session-clause-handles : goal.returns-in-Session-clause-handles
returns-in-Session-clause-handles g c =
    let unit = unit_of c.args.self.now.session in
    let disk = g.S.BlockStore.disk c.args.store.now in
    leaves_handles g.S.BlockStore.protected c.answer_request.result (g.S.BlockStore.failures c.args.store.now)
    (on disk c.args.self.now.tasks (request_answered c.args.self.now.session (waiting_tasks c.args.self.now.tasks) c.args.received.now c.in-Session.asked))
    (λ (d : Device). task_begun d c.args.self.now disk (task_of unit (presented disk.count c.args.received.now c.args.request.now)))
    disk c.args.self.now c.answer_request.new.self c.args.out.now.items c.answer_request.new.out.items
    (λ (d : Device). ap (task_begun d c.args.self.now disk) (task_asks unit disk.count c.args.received.now c.args.request.now (asks.Session c.in-Session.asked)
    c.in-Session.is)) refl refl (c.answer_request.ensures disk)

pub returns-in-Session-clause-crash : goal.returns-in-Session-clause-crash
returns-in-Session-clause-crash g c =
    none_done g.S.BlockStore.protected
    (command_of_task (task_of (unit_of c.args.self.now.session) (presented (g.S.BlockStore.disk c.args.store.now).count c.args.received.now
    c.args.request.now)))
    (g.S.BlockStore.disk c.args.store.now) (g.S.BlockStore.kept c.args.store.now)

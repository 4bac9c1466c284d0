use Rattle.std.proofs.Common.{refl, sym, ap, ◌∙◌}
use Rattle.iscsi_target_session.specs.Requests.{request_answered}
use Rattle.iscsi_target.specs.State.{on, waiting_tasks}
use Rattle.iscsi_target.specs.Execution.{Device}
use Rattle.iscsi_target.specs.Machine.{task_begun}
use Rattle.iscsi_target.proofs.Turns.ServingLemmas.{leaves_handles}
use Rattle.iscsi_target.proofs.machine.Machine.run_task.Goals as goal

pub returns-in-Request-clause-handles : goal.returns-in-Request-clause-handles
returns-in-Request-clause-handles g c =
    let s = c.args.self.now in
    let disk = g.S.BlockStore.disk c.args.store.now in
    leaves_handles g.S.BlockStore.protected c.answer_request.result (g.S.BlockStore.failures c.args.store.now)
    (on disk s.tasks (request_answered s.session (waiting_tasks s.tasks) c.received.result c.request.result.now))
    (λ (d : Device). task_begun d s disk c.args.task) disk s c.answer_request.new.self c.args.out.now.items c.answer_request.new.out.items
    (λ (d : Device). ap (task_begun d s disk) c.in-Request.is
    ∙ (λ i. on disk s.tasks (request_answered s.session (waiting_tasks s.tasks) (sym c.received.ensures.value i) (sym c.request.ensures i))))
    refl refl (c.answer_request.ensures disk)

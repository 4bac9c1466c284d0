use Rattle.std.proofs.Common.{◌≡◌, ◌∷◌, List, true, length, sym, ap, ◌∙◌, subst, rules}
use Rattle.std.specs.Prelude.{◌||◌, nat_lt, None, Ok}
use Rattle.std.specs.declared.alloc.AllocError.{AllocError}
use Rattle.iscsi_target.specs.Machine.{is_machine_closed}
use Rattle.iscsi_target.specs.declared.tasks.Task.{Task}
use Rattle.iscsi_target.specs.Advances.{store_of}
use Rattle.iscsi_target.specs.inner.Inside.{Moment, TasksPost, moment}
use Rattle.iscsi_target.specs.Crash.{commands_of}
use Rattle.iscsi_target.proofs.Feed.CrashLemmas.{goes_first, task_done, tasks_left}
use Rattle.iscsi_target.proofs.Turns.ServingLemmas.{on_err}
use Rattle.iscsi_target.proofs.Steps.TurnLemmas.{with_tasks}
use Rattle.iscsi_target.proofs.Turns.TaskRunLemmas.{Goes, at_tasks, left_behind, goes_start, goes_then, goes_stop, goes_short, goes_end, either}
use Rattle.iscsi_target.proofs.machine.Machine.run_queue.Goals as goal
use Rattle.iscsi_target.proofs.machine.Machine.run_queue.Goals.{then-is_closed-via-then-is_closed, then-is_closed-via-else-is_closed+then-len-behind}

pub loop-task-init : goal.loop-task-init
loop-task-init g c = record {
  works = goes_start g.S.BlockStore.protected (moment c.args.self.now
      (store_of (g.S.BlockStore.disk c.args.store.now) (g.S.BlockStore.failures c.args.store.now))
      c.args.out.now.items);
  crash = goes_first g.S.BlockStore.protected (commands_of c.args.self.now.tasks) (g.S.BlockStore.disk c.args.store.now) (g.S.BlockStore.kept c.args.store.now);
}

pub returns-in_err-broken-clause-works : goal.returns-in_err-broken-clause-works
returns-in_err-broken-clause-works g c =
    let old : Moment = moment c.args.self.now (store_of (g.S.BlockStore.disk c.args.store.now) (g.S.BlockStore.failures c.args.store.now)) c.args.out.now.items
    in
    let now : Moment = moment c.loop-task.self (store_of (g.S.BlockStore.disk c.loop-task.store) (g.S.BlockStore.failures c.loop-task.store))
    c.loop-task.out.items in
    let new : Moment = moment c.run_task.new.self (store_of (g.S.BlockStore.disk c.run_task.new.store) (g.S.BlockStore.failures c.run_task.new.store))
    c.run_task.new.out.items in
    let h = goes_short g.S.BlockStore.protected c.in_err-broken.field-0.0 old now new c.self.inside.session c.in-Some.task c.take_first.new.self
    c.loop-task.invariant.works
    (sym c.self.view_is
    ∙ ap (with_tasks c.self.inside.session) c.in-Some.ensures.some) c.in_err-broken.ensures.handles.err in
    record { ok = search rules; err = on_err c.from_residual.result h.err }

pub returns-then-is_closed-clause-works : goal.returns-then-is_closed-clause-works
returns-then-is_closed-clause-works g c =
    let stop : (nat_lt (length c.take_first.new.self) (length c.run_task.new.self.tasks) || is_machine_closed c.run_task.new.self)
    ≡ true = elim c.then-is_closed.branch [
      | then-is_closed-via-then-is_closed w ↦ either (nat_lt (length c.take_first.new.self) (length c.run_task.new.self.tasks))
          (is_machine_closed c.run_task.new.self)
          (sym c.is_closed.ensures ∙ w.if-is_closed.true)
      | then-is_closed-via-else-is_closed+then-len-behind w ↦ search rules
    ] in
    let old : Moment = moment c.args.self.now (store_of (g.S.BlockStore.disk c.args.store.now) (g.S.BlockStore.failures c.args.store.now)) c.args.out.now.items
    in
    let now : Moment = moment c.loop-task.self (store_of (g.S.BlockStore.disk c.loop-task.store) (g.S.BlockStore.failures c.loop-task.store))
    c.loop-task.out.items in
    let new : Moment = moment c.run_task.new.self (store_of (g.S.BlockStore.disk c.run_task.new.store) (g.S.BlockStore.failures c.run_task.new.store))
    c.run_task.new.out.items in
    goes_stop g.S.BlockStore.protected AllocError old now new c.self.inside.session c.in-Some.task c.take_first.new.self c.in_ok-broken.broken
    c.loop-task.invariant.works
    (sym c.self.view_is
    ∙ ap (with_tasks c.self.inside.session) c.in-Some.ensures.some) c.in_ok-broken.ensures.handles.ok stop

pub loop-task-preserved : goal.loop-task-preserved
loop-task-preserved g c =
    let is : c.loop-task.self ≡ with_tasks c.self.inside.session (c.in-Some.task ∷ c.take_first.new.self) =
    sym c.self.view_is ∙ ap (with_tasks c.self.inside.session) c.in-Some.ensures.some in
    let old : Moment = moment c.args.self.now (store_of (g.S.BlockStore.disk c.args.store.now) (g.S.BlockStore.failures c.args.store.now)) c.args.out.now.items
    in
    let now : Moment = moment c.loop-task.self (store_of (g.S.BlockStore.disk c.loop-task.store) (g.S.BlockStore.failures c.loop-task.store))
    c.loop-task.out.items in
    let new : Moment = moment c.run_task.new.self (store_of (g.S.BlockStore.disk c.run_task.new.store) (g.S.BlockStore.failures c.run_task.new.store))
    c.run_task.new.out.items in
    let taken : Moment = at_tasks now c.self.inside.session c.take_first.new.self in
    let step : Goes g.S.BlockStore.protected taken c.in-Some.task c.in_ok-broken.broken new =
    record { serves = c.in_ok-broken.ensures.handles.ok; live = sym c.is_closed.ensures ∙ c.if-is_closed.false; done = search rules } in
    record {
      works = goes_then g.S.BlockStore.protected old now new c.self.inside.session c.in-Some.task c.take_first.new.self c.in_ok-broken.broken
          c.loop-task.invariant.works is step;
      crash = tasks_left g.S.BlockStore.protected (commands_of c.args.self.now.tasks) c.take_first.new.self c.run_task.new.self.tasks
          (g.S.BlockStore.disk c.args.store.now)
          (g.S.BlockStore.disk c.run_task.new.store) (g.S.BlockStore.kept c.args.store.now) (g.S.BlockStore.kept c.run_task.new.store)
          (left_behind g.S.BlockStore.protected taken c.in-Some.task c.in_ok-broken.broken new step)
          (task_done g.S.BlockStore.protected (commands_of c.args.self.now.tasks) c.loop-task.self c.self.inside.session c.in-Some.task c.take_first.new.self
          (g.S.BlockStore.disk c.args.store.now) (g.S.BlockStore.disk c.loop-task.store) (g.S.BlockStore.disk c.run_task.new.store)
          (g.S.BlockStore.kept c.args.store.now) (g.S.BlockStore.kept c.loop-task.store) (g.S.BlockStore.kept c.run_task.new.store) is
          c.loop-task.invariant.crash (g.met.S.BlockStore.stays c.loop-task.store)
          c.in_ok-broken.ensures.crash);
    }

pub returns-clause-works : goal.returns-clause-works
returns-clause-works g c =
    let old : Moment = moment c.args.self.now (store_of (g.S.BlockStore.disk c.args.store.now) (g.S.BlockStore.failures c.args.store.now)) c.args.out.now.items
    in
    let now : Moment = moment c.loop-task.self (store_of (g.S.BlockStore.disk c.loop-task.store) (g.S.BlockStore.failures c.loop-task.store))
    c.loop-task.out.items in
    subst (λ (tasks : List Task). TasksPost {E = AllocError} g.S.BlockStore.protected (Ok None) old (at_tasks now c.self.inside.session tasks))
    (sym (c.in_default.ensures.kept ∙ c.in_default.ensures.none))
    (goes_end g.S.BlockStore.protected AllocError old now c.self.inside.session c.loop-task.invariant.works (sym c.self.view_is
    ∙ ap (with_tasks c.self.inside.session) c.in_default.ensures.none))

pub returns-in_err-broken-clause-crash : goal.returns-in_err-broken-clause-crash
returns-in_err-broken-clause-crash g c =
    (task_done g.S.BlockStore.protected (commands_of c.args.self.now.tasks) c.loop-task.self c.self.inside.session c.in-Some.task c.take_first.new.self
    (g.S.BlockStore.disk c.args.store.now) (g.S.BlockStore.disk c.loop-task.store) (g.S.BlockStore.disk c.run_task.new.store)
    (g.S.BlockStore.kept c.args.store.now) (g.S.BlockStore.kept c.loop-task.store) (g.S.BlockStore.kept c.run_task.new.store)
    (sym c.self.view_is ∙ ap (with_tasks c.self.inside.session) c.in-Some.ensures.some)
    c.loop-task.invariant.crash (g.met.S.BlockStore.stays c.loop-task.store)
    c.in_err-broken.ensures.crash).done

pub returns-then-is_closed-clause-crash : goal.returns-then-is_closed-clause-crash
returns-then-is_closed-clause-crash g c =
    (task_done g.S.BlockStore.protected (commands_of c.args.self.now.tasks) c.loop-task.self c.self.inside.session c.in-Some.task c.take_first.new.self
    (g.S.BlockStore.disk c.args.store.now) (g.S.BlockStore.disk c.loop-task.store) (g.S.BlockStore.disk c.run_task.new.store)
    (g.S.BlockStore.kept c.args.store.now) (g.S.BlockStore.kept c.loop-task.store) (g.S.BlockStore.kept c.run_task.new.store)
    (sym c.self.view_is ∙ ap (with_tasks c.self.inside.session) c.in-Some.ensures.some)
    c.loop-task.invariant.crash (g.met.S.BlockStore.stays c.loop-task.store)
    c.in_ok-broken.ensures.crash).done

pub returns-clause-crash : goal.returns-clause-crash
returns-clause-crash g c = c.loop-task.invariant.crash.done

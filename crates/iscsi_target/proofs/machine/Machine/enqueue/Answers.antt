use Rattle.std.proofs.Common.{◌≡◌, inl, inr, ℕ, [], ◌∷◌, ◌++◌, sym, ap, ◌∙◌, subst, arith, rules, List}
use Rattle.iscsi_target.specs.declared.tasks.Task.{Task}
use Rattle.iscsi_target.specs.State.{Machine, unit_of, waiting_tasks, takes_place}
use Rattle.iscsi_target_session.specs.Rejecting.{reject_and_close}
use Rattle.iscsi_target.specs.Command.{task_of, presented}
use Rattle.iscsi_target.specs.Feed.{Store}
use Rattle.iscsi_target.specs.Machine.{admitted}
use Rattle.std.specs.Prelude.{None}
use Rattle.iscsi_target.specs.Advances.{store_of}
use Rattle.iscsi_target.specs.inner.Inside.{moment, TasksPost, rule_at_acceptance}
use Rattle.iscsi_target.proofs.Steps.TurnLemmas.{with_tasks}
use Rattle.iscsi_target.proofs.Answers.WindowLemmas.{few_more, no_length}
use Rattle.iscsi_target.proofs.Turns.ServingLemmas.{answered_follows, on_err}
use Rattle.iscsi_target.proofs.Turns.DispatchLemmas.{admitted_follows, admitted_none, admitted_some, keeps_rules, takes_as}
use Rattle.iscsi_target.proofs.Turns.TaskRunLemmas.{alone_works, short_works}
use Rattle.iscsi_target.specs.Crash.{CrashLeavesBlocks, commands_by, commands_of}
use Rattle.scsi_disk.specs.Runs.{Supplied}
use Rattle.iscsi_target.proofs.Turns.DispatchLemmas.{commands_alone}
use Rattle.iscsi_target.proofs.machine.Machine.enqueue.Goals as goal

pub returns-then-len-eq0-clause-follows : goal.returns-then-len-eq0-clause-follows
returns-then-len-eq0-clause-follows g c =
    let none : c.args.self.now.tasks ≡ [] = ap (λ (x : Machine). x.tasks) (sym c.self.view_is)
    ∙ no_length c.self.inside.tasks (omega (arith, c.len.ensures.value, c.if-len-eq0.true)) in
    let kept : rule_at_acceptance c.args.self.now c.args.received.now c.args.request.now ≡ None = sym c.refusal.ensures ∙ search rules in
    let before : Store = (store_of (g.S.BlockStore.disk c.args.store.now) (g.S.BlockStore.failures c.args.store.now)) in
    let after : Store = (store_of (g.S.BlockStore.disk c.run_request.new.store) (g.S.BlockStore.failures c.run_request.new.store)) in
    admitted_follows g.S.BlockStore.protected c.run_request.result c.args.self.now (g.S.BlockStore.disk c.args.store.now).count c.args.received.now
    c.args.request.now before
    c.args.out.now.items c.run_request.new.self after c.run_request.new.out.items kept
    (alone_works g.S.BlockStore.protected c.run_request.result c.args.self.now
    (task_of (unit_of c.args.self.now.session) (presented (g.S.BlockStore.disk c.args.store.now).count c.args.received.now c.args.request.now)) before
    c.args.out.now.items c.run_request.new.self after c.run_request.new.out.items none c.run_request.ensures.handles)

pub run_request-requires-clause-keeps : goal.run_request-requires-clause-keeps
run_request-requires-clause-keeps g c =
    let kept : rule_at_acceptance c.args.self.now c.args.received.now c.args.request.now ≡ None = sym c.refusal.ensures ∙ search rules in
    keeps_rules c.args.self.now c.args.received.now c.args.request.now kept

pub task-requires-clause-keeps : goal.task-requires-clause-keeps
task-requires-clause-keeps g c =
    let kept : rule_at_acceptance c.args.self.now c.args.received.now c.args.request.now ≡ None = sym c.refusal.ensures ∙ search rules in
    keeps_rules c.args.self.now c.args.received.now c.args.request.now kept

pub returns-in_err-task-clause-follows : goal.returns-in_err-task-clause-follows
returns-in_err-task-clause-follows g c =
    let kept : rule_at_acceptance c.args.self.now c.args.received.now c.args.request.now ≡ None = sym c.refusal.ensures ∙ search rules in
    let before : Store = (store_of (g.S.BlockStore.disk c.args.store.now) (g.S.BlockStore.failures c.args.store.now)) in
    let h = short_works g.S.BlockStore.protected c.in_err-task.field-0.0 c.args.self.now (c.args.self.now.tasks
    ++ task_of (unit_of c.args.self.now.session) (presented (g.S.BlockStore.disk c.args.store.now).count c.args.received.now c.args.request.now) ∷ [])
    before c.args.out.now.items in
    admitted_follows g.S.BlockStore.protected c.from_residual.result c.args.self.now (g.S.BlockStore.disk c.args.store.now).count c.args.received.now
    c.args.request.now before
    c.args.out.now.items c.args.self.now before c.args.out.now.items kept (record { ok = search rules; err = on_err c.from_residual.result h.err })

pub push-requires-clause-place : goal.push-requires-clause-place
push-requires-clause-place g c = elim c.requires.turn [
  | inl none ↦ inl (ap (λ (x : Machine). x.tasks) c.self.view_is ∙ none)
  | inr some ↦ inr (ap takes_place c.in_ok-task.ensures ∙ takes_as (unit_of c.args.self.now.session) c.blocks-2.result c.args.received.now
      c.args.request.now c.requires.is some)
]

pub push-requires-clause-room : goal.push-requires-clause-room
push-requires-clause-room g c =
    let few = few_more c.self.inside.tasks c.len.ensures.in_place.places in
    let same : waiting_tasks c.self.inside.tasks ≡ waiting_tasks c.args.self.now.tasks = ap (λ (x : Machine). waiting_tasks x.tasks) c.self.view_is in
    omega (arith, few, same, c.requires.room)

pub returns-clause-follows : goal.returns-clause-follows
returns-clause-follows g c =
    let task : c.in_ok-task.task ≡ task_of (unit_of c.self.inside.session)
    (presented (g.S.BlockStore.disk c.args.store.now).count c.args.received.now c.args.request.now) = c.in_ok-task.ensures
    ∙ ap (λ (x : Machine). task_of (unit_of x.session) (presented c.blocks-2.result c.args.received.now c.args.request.now)) (sym c.self.view_is)
    ∙ ap (λ (n : ℕ). task_of (unit_of c.self.inside.session) (presented n c.args.received.now c.args.request.now)) c.blocks-2.ensures.count in
    let pushed : with_tasks c.self.inside.session c.push.new.self ≡ with_tasks c.args.self.now.session (c.args.self.now.tasks
    ++ task_of (unit_of c.args.self.now.session) (presented (g.S.BlockStore.disk c.args.store.now).count c.args.received.now c.args.request.now) ∷ []) =
    ap (with_tasks c.self.inside.session) (c.push.ensures ∙ ap (λ (t : Task). c.self.inside.tasks ++ t ∷ []) task)
    ∙ ap (λ (x : Machine). with_tasks x.session (x.tasks ++ task_of (unit_of x.session)
    (presented (g.S.BlockStore.disk c.args.store.now).count c.args.received.now c.args.request.now) ∷ [])) c.self.view_is
    in
    let kept : rule_at_acceptance c.args.self.now c.args.received.now c.args.request.now ≡ None = sym c.refusal.ensures ∙ search rules in
    let before : Store = (store_of (g.S.BlockStore.disk c.args.store.now) (g.S.BlockStore.failures c.args.store.now)) in
    let after : Store = (store_of (g.S.BlockStore.disk c.run_queue.new.store) (g.S.BlockStore.failures c.run_queue.new.store)) in
    admitted_follows g.S.BlockStore.protected c.run_queue.result c.args.self.now (g.S.BlockStore.disk c.args.store.now).count c.args.received.now
    c.args.request.now before
    c.args.out.now.items c.run_queue.new.self after c.run_queue.new.out.items kept
    (subst (λ (x : Machine). TasksPost g.S.BlockStore.protected c.run_queue.result (moment x before c.args.out.now.items)
    (moment c.run_queue.new.self after c.run_queue.new.out.items))
    pushed c.run_queue.ensures.works)

pub returns-then-len-eq0-clause-crash : goal.returns-then-len-eq0-clause-crash
returns-then-len-eq0-clause-crash g c =
    let none : c.args.self.now.tasks ≡ [] = ap (λ (x : Machine). x.tasks) (sym c.self.view_is)
    ∙ no_length c.self.inside.tasks (omega (arith, c.len.ensures.value, c.if-len-eq0.true)) in
    let kept : rule_at_acceptance c.args.self.now c.args.received.now c.args.request.now ≡ None = sym c.refusal.ensures ∙ search rules in
    subst (λ (orders : List Supplied). CrashLeavesBlocks g.S.BlockStore.protected orders (g.S.BlockStore.disk c.args.store.now)
    (g.S.BlockStore.disk c.run_request.new.store)
    (g.S.BlockStore.kept c.args.store.now) (g.S.BlockStore.kept c.run_request.new.store))
    (sym (ap commands_by (admitted_none c.args.self.now (g.S.BlockStore.disk c.args.store.now).count c.args.received.now c.args.request.now kept)
    ∙ commands_alone (task_of (unit_of c.args.self.now.session) (presented (g.S.BlockStore.disk c.args.store.now).count c.args.received.now c.args.request.now))
    c.args.self.now.tasks none)) c.run_request.ensures.crash

pub returns-clause-crash : goal.returns-clause-crash
returns-clause-crash g c =
    let task : c.in_ok-task.task ≡ task_of (unit_of c.self.inside.session)
    (presented (g.S.BlockStore.disk c.args.store.now).count c.args.received.now c.args.request.now) = c.in_ok-task.ensures
    ∙ ap (λ (x : Machine). task_of (unit_of x.session) (presented c.blocks-2.result c.args.received.now c.args.request.now)) (sym c.self.view_is)
    ∙ ap (λ (n : ℕ). task_of (unit_of c.self.inside.session) (presented n c.args.received.now c.args.request.now)) c.blocks-2.ensures.count in
    let pushed : with_tasks c.self.inside.session c.push.new.self ≡ with_tasks c.args.self.now.session (c.args.self.now.tasks
    ++ task_of (unit_of c.args.self.now.session) (presented (g.S.BlockStore.disk c.args.store.now).count c.args.received.now c.args.request.now) ∷ []) =
    ap (with_tasks c.self.inside.session) (c.push.ensures ∙ ap (λ (t : Task). c.self.inside.tasks ++ t ∷ []) task)
    ∙ ap (λ (x : Machine). with_tasks x.session (x.tasks ++ task_of (unit_of x.session)
    (presented (g.S.BlockStore.disk c.args.store.now).count c.args.received.now c.args.request.now) ∷ [])) c.self.view_is
    in
    let kept : rule_at_acceptance c.args.self.now c.args.received.now c.args.request.now ≡ None = sym c.refusal.ensures ∙ search rules in
    subst (λ (orders : List Supplied). CrashLeavesBlocks g.S.BlockStore.protected orders (g.S.BlockStore.disk c.args.store.now)
    (g.S.BlockStore.disk c.run_queue.new.store)
    (g.S.BlockStore.kept c.args.store.now) (g.S.BlockStore.kept c.run_queue.new.store))
    (ap (λ (x : Machine). commands_of x.tasks) pushed
    ∙ sym (ap commands_by (admitted_none c.args.self.now (g.S.BlockStore.disk c.args.store.now).count c.args.received.now c.args.request.now kept)))
    c.run_queue.ensures.crash

pub returns-in-Some-clause-follows : goal.returns-in-Some-clause-follows
returns-in-Some-clause-follows g c =
    answered_follows g.S.BlockStore.protected c.reject_and_close.result (g.S.BlockStore.failures c.args.store.now) c.args.self.now
    (reject_and_close c.args.self.now.session (waiting_tasks c.args.self.now.tasks) c.in-Some.rule c.args.received.now)
    (admitted c.args.self.now (presented (g.S.BlockStore.disk c.args.store.now).count c.args.received.now c.args.request.now))
    (g.S.BlockStore.disk c.args.store.now)
    c.reject_and_close.new.self c.args.out.now.items c.reject_and_close.new.out.items
    (admitted_some c.args.self.now (g.S.BlockStore.disk c.args.store.now).count c.args.received.now c.args.request.now c.in-Some.rule
    (sym c.refusal.ensures ∙ c.in-Some.is))
    (c.reject_and_close.ensures (g.S.BlockStore.disk c.args.store.now))

use Rattle.std.proofs.Common.{◌≡◌, ◌≤◌, ◌<◌, List, length, sym, ap, subst, ◌∙◌}
use Rattle.std.specs.Prelude.{insert}
use Rattle.iscsi_target.specs.declared.tasks.Task.{Task}
use Rattle.iscsi_target.specs.declared.tasks.Task.TheVariants.{Data}
use Rattle.iscsi_target.specs.State.{Machine}
use Rattle.iscsi_target.specs.Advances.{store_of}
use Rattle.iscsi_target.specs.inner.Inside.{AreInPlace, TasksPost, moment}
use Rattle.iscsi_target.specs.Crash.{CrashLeavesBlocks, commands_of}
use Rattle.iscsi_target.proofs.Steps.TurnLemmas.{with_tasks}
use Rattle.iscsi_target.proofs.machine.Machine.resume.Goals as goal

pub put_write-requires-clause-place : goal.put_write-requires-clause-place
put_write-requires-clause-place g c =
    subst (λ (ts : List Task). c.args.place ≤ length ts) (sym (ap (λ (x : Machine). x.tasks) c.self.view_is)) c.requires.place

pub put_write-requires-clause-room : goal.put_write-requires-clause-room
put_write-requires-clause-room g c =
    subst (λ (ts : List Task). length ts < 9) (sym (ap (λ (x : Machine). x.tasks) c.self.view_is)) c.requires.room

pub put_write-requires-clause-in_place : goal.put_write-requires-clause-in_place
put_write-requires-clause-in_place g c =
    subst (λ (ts : List Task). AreInPlace (insert ts c.args.place (Data c.args.write))) (sym (ap (λ (x : Machine). x.tasks) c.self.view_is)) c.requires.in_place

pub returns-clause-works : goal.returns-clause-works
returns-clause-works g c =
    let put : with_tasks c.self.inside.session c.put_write.new.self ≡ with_tasks c.args.self.now.session
    (insert c.args.self.now.tasks c.args.place (Data c.args.write)) = ap (with_tasks c.self.inside.session) c.put_write.ensures
    ∙ ap (λ (x : Machine). with_tasks x.session (insert x.tasks c.args.place (Data c.args.write))) c.self.view_is in
    subst (λ (x : Machine). TasksPost g.S.BlockStore.protected c.run_queue.result (moment x (store_of (g.S.BlockStore.disk c.args.store.now)
    (g.S.BlockStore.failures c.args.store.now)) c.args.out.now.items) (moment c.run_queue.new.self (store_of (g.S.BlockStore.disk c.run_queue.new.store)
    (g.S.BlockStore.failures c.run_queue.new.store)) c.run_queue.new.out.items)) put c.run_queue.ensures.works

pub returns-clause-crash : goal.returns-clause-crash
returns-clause-crash g c =
    let put : with_tasks c.self.inside.session c.put_write.new.self ≡ with_tasks c.args.self.now.session
    (insert c.args.self.now.tasks c.args.place (Data c.args.write)) = ap (with_tasks c.self.inside.session) c.put_write.ensures
    ∙ ap (λ (x : Machine). with_tasks x.session (insert x.tasks c.args.place (Data c.args.write))) c.self.view_is in
    subst (λ (x : Machine). CrashLeavesBlocks g.S.BlockStore.protected (commands_of x.tasks) (g.S.BlockStore.disk c.args.store.now)
    (g.S.BlockStore.disk c.run_queue.new.store)
    (g.S.BlockStore.kept c.args.store.now) (g.S.BlockStore.kept c.run_queue.new.store)) put c.run_queue.ensures.crash

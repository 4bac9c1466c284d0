use Rattle.std.proofs.Common.{◌≡◌, ℕ, ◌+◌, length, true, false, sym, ap, ◌∙◌, subst, rules, List}
use Rattle.std.specs.Prelude.{Some, None, insert}
use Rattle.iscsi_login.specs.Held.{first_burst}
use Rattle.iscsi_pdu.specs.Rules.{data_out_of_order}
use Rattle.iscsi_target.specs.Write.{Write}
use Rattle.iscsi_target.specs.declared.tasks.Task.TheVariants.{Data}
use Rattle.iscsi_target.specs.State.{Machine, closed_machine, waiting_tasks}
use Rattle.iscsi_target.specs.inner.State.{breaks}
use Rattle.iscsi_target_session.specs.Rejecting.{reject_and_close}
use Rattle.iscsi_target.specs.Transfer.{bytes_received, is_in_sequence, with_data, joined_write}
use Rattle.iscsi_target.specs.Machine.{on_data_out, write_of, with_write}
use Rattle.iscsi_target.specs.Advances.{store_of}
use Rattle.iscsi_target.specs.inner.Inside.{moment, DisklessPost, TasksPost}
use Rattle.iscsi_target.proofs.Steps.TurnLemmas.{with_tasks}
use Rattle.iscsi_target.proofs.Queue.TaskPlaceLemmas.{tag_found, with_same}
use Rattle.iscsi_target.proofs.Turns.ServingLemmas.{answered_follows, dropped_follows, works_follow, on_err}
use Rattle.iscsi_target.proofs.Turns.DispatchLemmas.{data_dropped, data_refused, data_taken_by, data_session}
use Rattle.iscsi_target.proofs.Turns.TaskRunLemmas.{short_halts, works_same, ones_written}
use Rattle.iscsi_target.specs.Crash.{CrashLeavesBlocks, commands_by, commands_of}
use Rattle.iscsi_target.proofs.Feed.CrashLemmas.{commands_same}
use Rattle.scsi_disk.specs.Runs.{Supplied}
use Rattle.iscsi_target.specs.Machine.{Next}
use Rattle.iscsi_target.proofs.machine.Machine.data_out.Goals as goal

pub returns-in_default-clause-follows : goal.returns-in_default-clause-follows
returns-in_default-clause-follows g c =
    let none : write_of c.args.self.now.tasks c.args.head.now.initiator_task_tag
    ≡ None = ap (λ (x : Machine). write_of x.tasks c.args.head.now.initiator_task_tag) (sym c.self.view_is) ∙ c.in_default.ensures.none in
    dropped_follows g.S.BlockStore.protected (g.S.BlockStore.failures c.args.store.now) c.args.self.now
    (on_data_out c.args.self.now c.args.received.now c.args.head.now c.args.bytes.now)
    (g.S.BlockStore.disk c.args.store.now) (with_tasks c.self.inside.session c.take_write.new.self) c.args.out.now.items
    (data_dropped c.args.self.now c.args.received.now c.args.head.now c.args.bytes.now none)
    (ap (with_tasks c.self.inside.session) c.in_default.ensures.kept ∙ c.self.view_is)

pub returns-in_err-is_due-clause-follows : goal.returns-in_err-is_due-clause-follows
returns-in_err-is_due-clause-follows g c = record {
  ok = search rules;
  err = on_err c.from_residual.result (short_halts g.S.BlockStore.protected (g.S.BlockStore.failures c.args.store.now) c.args.self.now
      (with_tasks c.self.inside.session c.take_write.new.self) (g.S.BlockStore.disk c.args.store.now) c.args.out.now.items
      (on_data_out c.args.self.now c.args.received.now c.args.head.now c.args.bytes.now)
      (data_session c.args.self.now c.args.received.now c.args.head.now c.args.bytes.now) (ap closed_machine c.self.view_is));
}

pub returns-then-not-is_due-clause-follows : goal.returns-then-not-is_due-clause-follows
returns-then-not-is_due-clause-follows g c =
    let found : write_of c.self.inside.tasks c.args.head.now.initiator_task_tag ≡ Some c.in-Some.write = c.in-Some.ensures.some in
    let here : write_of c.args.self.now.tasks c.args.head.now.initiator_task_tag
    ≡ Some c.in-Some.write = ap (λ (x : Machine). write_of x.tasks c.args.head.now.initiator_task_tag) (sym c.self.view_is) ∙ found in
    let tag : c.in-Some.write.initiator_task_tag ≡ c.args.head.now.initiator_task_tag =
    tag_found c.args.head.now.initiator_task_tag c.self.inside.tasks c.in-Some.write found in
    let burst : c.first_burst.result ≡ first_burst c.args.self.now.session.held = c.first_burst.ensures
    ∙ ap (λ (x : Machine). first_burst x.session.held) c.self.view_is in
    let due : is_in_sequence (first_burst c.args.self.now.session.held) c.in-Some.write c.args.head.now (bytes_received c.in-Some.write
    + length c.args.bytes.now) c.in-Some.write.due ≡ false =
    ap (λ (k : ℕ). is_in_sequence k c.in-Some.write c.args.head.now (bytes_received c.in-Some.write + length c.args.bytes.now) c.in-Some.write.due) (sym burst)
    ∙ sym c.in_ok-is_due.ensures.due ∙ c.if-not-is_due.true in
    let same : c.take.new.self ≡ c.in-Some.write = c.in_ok-is_due.ensures.refused c.if-not-is_due.true in
    let put : c.put_write.new.self ≡ c.self.inside.tasks =
    c.put_write.ensures ∙ ap (λ (x : Write). insert c.take_write.new.self c.in-Some.place (Data x)) same ∙ c.in-Some.ensures.back c.in-Some.write tag
    ∙ with_same c.args.head.now.initiator_task_tag c.self.inside.tasks c.in-Some.write found tag in
    let whole : with_tasks c.self.inside.session c.put_write.new.self ≡ c.args.self.now = ap (with_tasks c.self.inside.session) put ∙ c.self.view_is in
    answered_follows g.S.BlockStore.protected c.reject_and_close.result (g.S.BlockStore.failures c.args.store.now) c.args.self.now
    (reject_and_close c.args.self.now.session (waiting_tasks c.args.self.now.tasks) data_out_of_order c.args.received.now)
    (on_data_out c.args.self.now c.args.received.now c.args.head.now c.args.bytes.now)
    (g.S.BlockStore.disk c.args.store.now) c.reject_and_close.new.self c.args.out.now.items c.reject_and_close.new.out.items
    (data_refused c.args.self.now c.args.received.now c.args.head.now c.args.bytes.now c.in-Some.write here due)
    (subst (λ (x : Machine). DisklessPost (breaks x (g.S.BlockStore.disk c.args.store.now) data_out_of_order c.args.received.now)
    c.reject_and_close.result x c.reject_and_close.new.self
    c.args.out.now.items c.reject_and_close.new.out.items) whole (c.reject_and_close.ensures (g.S.BlockStore.disk c.args.store.now)))

pub returns-clause-follows : goal.returns-clause-follows
returns-clause-follows g c =
    let found : write_of c.self.inside.tasks c.args.head.now.initiator_task_tag ≡ Some c.in-Some.write = c.in-Some.ensures.some in
    let here : write_of c.args.self.now.tasks c.args.head.now.initiator_task_tag
    ≡ Some c.in-Some.write = ap (λ (x : Machine). write_of x.tasks c.args.head.now.initiator_task_tag) (sym c.self.view_is) ∙ found in
    let tag : c.in-Some.write.initiator_task_tag ≡ c.args.head.now.initiator_task_tag =
    tag_found c.args.head.now.initiator_task_tag c.self.inside.tasks c.in-Some.write found in
    let burst : c.first_burst.result ≡ first_burst c.args.self.now.session.held = c.first_burst.ensures
    ∙ ap (λ (x : Machine). first_burst x.session.held) c.self.view_is in
    let due : is_in_sequence (first_burst c.args.self.now.session.held) c.in-Some.write c.args.head.now (bytes_received c.in-Some.write
    + length c.args.bytes.now) c.in-Some.write.due ≡ true =
    ap (λ (k : ℕ). is_in_sequence k c.in-Some.write c.args.head.now (bytes_received c.in-Some.write + length c.args.bytes.now) c.in-Some.write.due) (sym burst)
    ∙ sym c.in_ok-is_due.ensures.due ∙ c.if-not-is_due.false in
    let taken : c.take.new.self ≡ joined_write (with_data c.in-Some.write c.args.head.now c.args.bytes.now) =
    c.in_ok-is_due.ensures.taken c.if-not-is_due.false in
    let put : c.put_write.new.self ≡ with_write (joined_write (with_data c.in-Some.write c.args.head.now c.args.bytes.now)) c.self.inside.tasks =
    c.put_write.ensures ∙ ap (λ (x : Write). insert c.take_write.new.self c.in-Some.place (Data x)) taken
    ∙ c.in-Some.ensures.back (joined_write (with_data c.in-Some.write c.args.head.now c.args.bytes.now)) tag in
    let whole : with_tasks c.self.inside.session c.put_write.new.self ≡ with_tasks c.args.self.now.session
    (with_write (joined_write (with_data c.in-Some.write c.args.head.now c.args.bytes.now)) c.args.self.now.tasks) =
    ap (with_tasks c.self.inside.session) put ∙ ap (λ (x : Machine). with_tasks x.session
    (with_write (joined_write (with_data c.in-Some.write c.args.head.now c.args.bytes.now)) x.tasks)) c.self.view_is in
    works_follow g.S.BlockStore.protected c.run_queue.result (on_data_out c.args.self.now c.args.received.now c.args.head.now c.args.bytes.now)
    c.args.self.now.session
    (with_write (with_data c.in-Some.write c.args.head.now c.args.bytes.now) c.args.self.now.tasks) c.args.self.now
    (store_of (g.S.BlockStore.disk c.args.store.now) (g.S.BlockStore.failures c.args.store.now)) c.args.out.now.items c.run_queue.new.self
    (store_of (g.S.BlockStore.disk c.run_queue.new.store) (g.S.BlockStore.failures c.run_queue.new.store)) c.run_queue.new.out.items
    (data_taken_by c.args.self.now c.args.received.now c.args.head.now c.args.bytes.now c.in-Some.write here due)
    (works_same g.S.BlockStore.protected c.run_queue.result c.args.self.now.session
    (with_write (joined_write (with_data c.in-Some.write c.args.head.now c.args.bytes.now))
    c.args.self.now.tasks) (with_write (with_data c.in-Some.write c.args.head.now c.args.bytes.now) c.args.self.now.tasks)
    (store_of (g.S.BlockStore.disk c.args.store.now) (g.S.BlockStore.failures c.args.store.now)) c.args.out.now.items c.run_queue.new.self
    (store_of (g.S.BlockStore.disk c.run_queue.new.store) (g.S.BlockStore.failures c.run_queue.new.store)) c.run_queue.new.out.items
    (ones_written (with_data c.in-Some.write c.args.head.now c.args.bytes.now) c.args.self.now.tasks)
    (subst (λ (x : Machine). TasksPost g.S.BlockStore.protected c.run_queue.result (moment x (store_of (g.S.BlockStore.disk c.args.store.now)
    (g.S.BlockStore.failures c.args.store.now)) c.args.out.now.items) (moment c.run_queue.new.self (store_of (g.S.BlockStore.disk c.run_queue.new.store)
    (g.S.BlockStore.failures c.run_queue.new.store)) c.run_queue.new.out.items)) whole c.run_queue.ensures.works))

pub returns-clause-crash : goal.returns-clause-crash
returns-clause-crash g c =
    let found : write_of c.self.inside.tasks c.args.head.now.initiator_task_tag ≡ Some c.in-Some.write = c.in-Some.ensures.some in
    let here : write_of c.args.self.now.tasks c.args.head.now.initiator_task_tag
    ≡ Some c.in-Some.write = ap (λ (x : Machine). write_of x.tasks c.args.head.now.initiator_task_tag) (sym c.self.view_is) ∙ found in
    let tag : c.in-Some.write.initiator_task_tag ≡ c.args.head.now.initiator_task_tag =
    tag_found c.args.head.now.initiator_task_tag c.self.inside.tasks c.in-Some.write found in
    let burst : c.first_burst.result ≡ first_burst c.args.self.now.session.held = c.first_burst.ensures
    ∙ ap (λ (x : Machine). first_burst x.session.held) c.self.view_is in
    let due : is_in_sequence (first_burst c.args.self.now.session.held) c.in-Some.write c.args.head.now (bytes_received c.in-Some.write
    + length c.args.bytes.now) c.in-Some.write.due ≡ true =
    ap (λ (k : ℕ). is_in_sequence k c.in-Some.write c.args.head.now (bytes_received c.in-Some.write + length c.args.bytes.now) c.in-Some.write.due) (sym burst)
    ∙ sym c.in_ok-is_due.ensures.due ∙ c.if-not-is_due.false in
    let taken : c.take.new.self ≡ joined_write (with_data c.in-Some.write c.args.head.now c.args.bytes.now) =
    c.in_ok-is_due.ensures.taken c.if-not-is_due.false in
    let put : c.put_write.new.self ≡ with_write (joined_write (with_data c.in-Some.write c.args.head.now c.args.bytes.now)) c.self.inside.tasks =
    c.put_write.ensures ∙ ap (λ (x : Write). insert c.take_write.new.self c.in-Some.place (Data x)) taken
    ∙ c.in-Some.ensures.back (joined_write (with_data c.in-Some.write c.args.head.now c.args.bytes.now)) tag in
    let whole : with_tasks c.self.inside.session c.put_write.new.self ≡ with_tasks c.args.self.now.session
    (with_write (joined_write (with_data c.in-Some.write c.args.head.now c.args.bytes.now)) c.args.self.now.tasks) =
    ap (with_tasks c.self.inside.session) put ∙ ap (λ (x : Machine). with_tasks x.session
    (with_write (joined_write (with_data c.in-Some.write c.args.head.now c.args.bytes.now)) x.tasks)) c.self.view_is in
    let v : Write = with_data c.in-Some.write c.args.head.now c.args.bytes.now in
    subst (λ (x : Next). CrashLeavesBlocks g.S.BlockStore.protected (commands_by x) (g.S.BlockStore.disk c.args.store.now)
    (g.S.BlockStore.disk c.run_queue.new.store)
    (g.S.BlockStore.kept c.args.store.now) (g.S.BlockStore.kept c.run_queue.new.store))
    (sym (data_taken_by c.args.self.now c.args.received.now c.args.head.now c.args.bytes.now c.in-Some.write here due))
    (subst (λ (orders : List Supplied). CrashLeavesBlocks g.S.BlockStore.protected orders (g.S.BlockStore.disk c.args.store.now)
    (g.S.BlockStore.disk c.run_queue.new.store)
    (g.S.BlockStore.kept c.args.store.now) (g.S.BlockStore.kept c.run_queue.new.store))
    (commands_same (with_write (joined_write v) c.args.self.now.tasks) (with_write v c.args.self.now.tasks) (ones_written v c.args.self.now.tasks))
    (subst (λ (x : Machine). CrashLeavesBlocks g.S.BlockStore.protected (commands_of x.tasks) (g.S.BlockStore.disk c.args.store.now)
    (g.S.BlockStore.disk c.run_queue.new.store)
    (g.S.BlockStore.kept c.args.store.now) (g.S.BlockStore.kept c.run_queue.new.store)) whole c.run_queue.ensures.crash))

-- Between two PDUs the first task is a write that waits for data, and no R2T was sent for one
-- behind it.
use Rattle.std.proofs.Common.{◌≡◌, ◌⊎◌, inl, inr, ℕ, List, [], ◌∷◌, ◌++◌, length, Bool, true, false, Some, None, refl, sym, ap, ◌∙◌, subst, ◌+◌, arith, Option}
use Rattle.std.specs.Prelude.{◌==◌, nat_lt, if◌then◌else◌}
use Rattle.std.proofs.lemmas.Bool.{ltb-true}
use Rattle.std.specs.List.{AllByRecursion}
use Rattle.scsi_disk.specs.Disk.{Disk}
use Rattle.scsi_disk.specs.Plan.{plan_of}
use Rattle.scsi_disk.specs.declared.order.Order.{Order}
use Rattle.scsi_disk.specs.declared.order.Plan.{Plan}
use Rattle.scsi_disk.specs.declared.order.Plan.TheVariants.{Refuse, Take, Give}
use Rattle.scsi_unit.specs.LogicalUnit.{LogicalUnit}
use Rattle.iscsi_pdu.specs.declared.head.scsi_command.ScsiCommand.{ScsiCommand as Command}
use Rattle.iscsi_pdu.specs.declared.head.data_out.DataOut.{DataOut as DataPdu}
use Rattle.iscsi_stream.specs.Pieces.{Pieces}
use Rattle.iscsi_stream.specs.Segment.{segment_bytes}
use Rattle.iscsi_stream.specs.Stream.{Message}
use Rattle.iscsi_stream.proofs.ReadyLemmas.{apart}
use Rattle.iscsi_login.specs.Held.{first_burst}
use Rattle.iscsi_login.specs.Stage.{is_closed_phase}
use Rattle.iscsi_target_session.specs.Session.{Session, Reply}
use Rattle.iscsi_target.specs.Write.{Write}
use Rattle.iscsi_target.specs.declared.tasks.Task.{Task}
use Rattle.iscsi_target.specs.declared.tasks.Task.TheVariants as kinds
use Rattle.iscsi_target.specs.declared.tasks.Task.TheVariants.{Request, Data}
use Rattle.iscsi_target_session.specs.declared.inbound.InboundRequest.{InboundRequest}
use Rattle.iscsi_target_session.specs.declared.inbound.Asks.{Asks}
use Rattle.iscsi_target_session.specs.declared.inbound.Asks.TheVariants as asks
use Rattle.iscsi_target.specs.State.{Machine, TargetStep, on, unchanged, waiting_tasks, unit_of}
use Rattle.iscsi_target_session.specs.Rejecting.{reject_and_close}
use Rattle.iscsi_target_session.specs.Login.{target_login_step}
use Rattle.iscsi_target.specs.declared.due.Due.{Due}
use Rattle.iscsi_target.specs.declared.due.Due.TheVariants.{Nothing, Unsolicited, Solicited}
use Rattle.iscsi_target.specs.Transfer.{is_whole_write, is_nothing_due, with_r2t, data_out_taken, with_data, is_in_sequence, bytes_received, continued}
use Rattle.iscsi_target.specs.Execution.{Device, execute}
use Rattle.iscsi_target.specs.Command.{order_of, led_by, send_r2t, task_of, task_by, task_planned, presented}
use Rattle.iscsi_target.specs.Machine.{task_begun, stays, is_machine_closed, done_in_turn, write_of, with_write, step_on}
use Rattle.iscsi_target.specs.Queue.{is_unasked, IsUnasked, tasks_behind}
use Rattle.iscsi_target.specs.inner.Inside.{AreKept}
use Rattle.iscsi_target_session.proofs.CaseLemmas.{by_cases}
use Rattle.iscsi_target.proofs.Steps.TurnLemmas.{Begins, begins, Turns, turns, with_tasks, stays_on}
use Rattle.iscsi_target.proofs.Steps.StepPartLemmas.{Accepts, Immediately, InTurn, Parts, step_parts}
use Rattle.iscsi_target.proofs.Answers.ReplyLemmas.{on_ends}
use Rattle.iscsi_target.proofs.Queue.AcceptedOrderLaw.{found_tag, taken_same}

abbrev pub AreUnasked : List Task → Type 0
AreUnasked tasks = AllByRecursion IsUnasked tasks

pub none_kept : AreKept []
none_kept = record { pending = tt; unasked = tt }

pub behind_unasked : (tasks : List Task) → AreUnasked tasks → AreUnasked (tasks_behind tasks)
behind_unasked [] u = tt
behind_unasked (task ∷ more) u = u.1

-- ---- tasks

-- what the first task leaves
record Leaves (s : Machine) (r : TargetStep) : Type 0 where
  waits : stays s.tasks r ≡ true → AreKept r.machine.tasks
  done : stays s.tasks r ≡ false → (r.machine.tasks ≡ []) ⊎ (r.machine.tasks ≡ s.tasks)
  over : is_machine_closed r.machine ≡ true → r.machine.tasks ≡ []

no_longer : {A : Type 0} (more tasks : List Task) → tasks ≡ more → nat_lt (length more) (length tasks) ≡ true → A
no_longer more tasks e f = absurd (omega (arith, ltb-true (length more) (length tasks) f, ap (λ (ts : List Task). length ts) e))

reply_leaves : (s : Machine) (disk : Disk) (r : Reply) → Leaves s (on disk s.tasks r)
reply_leaves s disk r = elim (on_ends disk s.tasks r) [
  | inl over ↦ record {
    waits = λ stay. subst AreKept (sym over.tasks) none_kept;
    done = λ stay. inl over.tasks;
    over = λ e. over.tasks;
  }
  | inr same ↦ record {
    waits = λ stay. no_longer s.tasks (on disk s.tasks r).machine.tasks same stay;
    done = λ stay. inr same;
    over = λ e. rw e refl;
  }
]

execute_leaves : (device : Device) (s : Machine) (disk : Disk) (tag : ℕ) (order : Order) (pieces : Pieces) → is_machine_closed s ≡ false →
    Leaves s (execute device s disk tag order pieces)
execute_leaves device s disk tag order pieces live = record {
  waits = λ stay. no_longer s.tasks s.tasks refl stay;
  done = λ stay. inr refl;
  over = λ e. absurd (apart e live);
}

-- the write that is first waits
waiting_leaves : (s : Machine) (w : Write) (r : TargetStep) → r.machine.tasks ≡ Data w ∷ s.tasks → is_machine_closed r.machine ≡ false → is_whole_write w
    ≡ false → is_nothing_due w.due
    ≡ false → AreUnasked s.tasks → Leaves s r
waiting_leaves s w r tasks live whole idle u = record {
  waits = λ stay. subst AreKept (sym tasks) (record { pending = (whole, idle); unasked = u });
  done = λ stay. stays_on (Data w) s.tasks (ap (λ (ts : List Task). nat_lt (length s.tasks) (length ts)) (sym tasks) ∙ stay);
  over = λ e. absurd (apart e live);
}

begins_leave : Begins (λ device s disk task r. is_machine_closed s ≡ false → AreUnasked s.tasks → Leaves s r)
begins_leave = record {
  request_ = λ device s disk k live u. reply_leaves s disk _;
  command_ = λ device s disk tag order live u. execute_leaves device s disk tag order [] live;
  write_ = λ device s disk w whole live u. execute_leaves device s disk w.initiator_task_tag w.order w.pieces live;
  send_r2t_ = λ device s disk w whole idle live u. waiting_leaves s (with_r2t s.session.held w) (send_r2t s disk w) refl live whole refl u;
  wait_ = λ device s disk w whole idle live u. waiting_leaves s w (unchanged (led_by w s) disk) refl live whole idle u;
}

begun_leaves : (device : Device) (s : Session) (disk : Disk) (task : Task) (more : List Task) → is_closed_phase s.phase ≡ false → AreUnasked more →
    Leaves (with_tasks s more) (task_begun device (with_tasks s more) disk task)
begun_leaves device s disk task more live u =
    begins (λ device s disk task r. is_machine_closed s ≡ false → AreUnasked s.tasks → Leaves s r) begins_leave device (with_tasks s more) disk task live u

abbrev Keeps : Session → List Task → TargetStep → Type 0
Keeps s tasks r = is_closed_phase s.phase ≡ false → AreUnasked (tasks_behind tasks) → AreKept r.machine.tasks

turns_keep : Turns (λ device s disk tasks r. Keeps s tasks r)
turns_keep = record {
  none_ = λ device s disk live u. none_kept;
  stop_ = λ device s disk task more why live u.
      (let l = begun_leaves device s disk task more live u in
      elim why [ inl stay ↦ l.waits stay | inr over ↦ subst AreKept (sym (l.over over)) none_kept ]);
  then_ = λ device s disk task more b stay live k open_ u. k live (behind_unasked more u);
}

pub done_kept : (device : Device) (s : Session) (disk : Disk) (tasks : List Task) → is_closed_phase s.phase ≡ false → AreUnasked (tasks_behind tasks) →
    AreKept (done_in_turn device s disk tasks).machine.tasks
done_kept device s disk tasks live u = turns (λ device s disk tasks r. Keeps s tasks r) turns_keep device s disk tasks live u

-- ---- a Data-Out

continued_unasked : (due : Due) → is_unasked (continued due) ≡ is_unasked due
continued_unasked Nothing = refl
continued_unasked (Unsolicited n) = refl
continued_unasked (Solicited tag n end) = refl

due_unasked : (due : Due) (last : Bool) → is_unasked due ≡ true → is_unasked (if last then Nothing else continued due) ≡ true
due_unasked due true u = refl
due_unasked due false u = continued_unasked due ∙ u

unasked_by : (w v : Write) (b : Bool) → is_unasked w.due ≡ true → (if b then Some w else None) ≡ Some v → is_unasked v.due ≡ true
unasked_by w v true u f = let same : w ≡ v = cc in subst (λ (x : Write). is_unasked x.due ≡ true) same u
unasked_by w v false u f = absurd cc

pub taken_unasked : (first : ℕ) (w v : Write) (h : DataPdu) (bytes : List ℕ) → data_out_taken first w h bytes ≡ Some v → is_unasked w.due ≡ true
    → is_unasked v.due
    ≡ true
taken_unasked first w v h bytes e u =
    unasked_by (with_data w h bytes) v (is_in_sequence first w h (bytes_received w + length bytes) w.due) (due_unasked w.due h.is_final u) e

-- a write that is found among tasks
pub found_unasked : (tasks : List Task) (tag : ℕ) (w : Write) → write_of tasks tag ≡ Some w → AreUnasked tasks → is_unasked w.due ≡ true
found_unasked [] tag w e u = absurd cc
found_unasked (kinds.Command t order ∷ more) tag w e u = found_unasked more tag w e u.1
found_unasked (Request k ∷ more) tag w e u = found_unasked more tag w e u.1
found_unasked (Data x ∷ more) tag w e u =
    by_cases (x.initiator_task_tag == tag)
    (λ f. let same : x ≡ w = (let g : Some x ≡ Some w = rw f at e in cc) in subst (λ (y : Write). is_unasked y.due ≡ true) same u.0)
    (λ f. found_unasked more tag w (rw f at e) u.1)

pub written_unasked : (v : Write) (tasks : List Task) → is_unasked v.due ≡ true → AreUnasked tasks → AreUnasked (with_write v tasks)
written_unasked v [] a u = tt
written_unasked v (kinds.Command t order ∷ more) a u = (tt, written_unasked v more a u.1)
written_unasked v (Request k ∷ more) a u = (tt, written_unasked v more a u.1)
written_unasked v (Data x ∷ more) a u = by_cases (x.initiator_task_tag == v.initiator_task_tag) (λ f. rw f (a, u.1))
    (λ f. rw f (u.0, written_unasked v more a u.1))

-- the write that took data: it is the first, or was not asked for
behind_written : (first : ℕ) (tasks : List Task) (w v : Write) (h : DataPdu) (bytes : List ℕ) → write_of tasks v.initiator_task_tag ≡ Some w →
    data_out_taken first w h bytes ≡ Some v
    → AreUnasked (tasks_behind tasks) → AreUnasked (tasks_behind (with_write v tasks))
behind_written first [] w v h bytes e f u = tt
behind_written first (kinds.Command t order ∷ more) w v h bytes e f u = written_unasked v more
    (taken_unasked first w v h bytes f (found_unasked more v.initiator_task_tag w e u)) u
behind_written first (Request k ∷ more) w v h bytes e f u = written_unasked v more
    (taken_unasked first w v h bytes f (found_unasked more v.initiator_task_tag w e u)) u
behind_written first (Data x ∷ more) w v h bytes e f u =
    by_cases (x.initiator_task_tag == v.initiator_task_tag) (λ g. rw g u)
    (λ g. rw g (written_unasked v more (taken_unasked first w v h bytes f (found_unasked more v.initiator_task_tag w (rw g at e) u)) u))

-- ---- a request

opened_unasked : (last : Bool) → is_unasked (if last then Nothing else Unsolicited 0) ≡ true
opened_unasked true = refl
opened_unasked false = refl

planned_unasked : (h : Command) (order : Order) (bytes : List ℕ) (plan : Plan) → IsUnasked (task_planned h order bytes plan)
planned_unasked h order bytes (Take total) = opened_unasked h.is_final
planned_unasked h order bytes (Refuse sense) = tt
planned_unasked h order bytes (Give given) = tt

task_unasked : (unit : Option LogicalUnit) (count : ℕ) (m : Message) (tag : Option ℕ) (asked : Asks) → IsUnasked (task_by unit count m tag asked)
task_unasked unit count m tag (asks.Command h) = planned_unasked h (order_of unit h) (segment_bytes m.segment) (plan_of (order_of unit h) count)
task_unasked unit count m tag (asks.Session q) = tt

with_unasked : (tasks : List Task) (task : Task) → AreUnasked tasks → IsUnasked task → AreUnasked (tasks ++ task ∷ [])
with_unasked [] task u a = (a, tt)
with_unasked (x ∷ tasks) task u a = (u.0, with_unasked tasks task u.1 a)

pub behind_with : (unit : Option LogicalUnit) (tasks : List Task) (count : ℕ) (m : Message) (r : InboundRequest) → AreUnasked (tasks_behind tasks)
    → AreUnasked (tasks_behind (tasks ++ task_of unit (presented count m r) ∷ []))
behind_with unit [] count m r u = tt
behind_with unit (x ∷ tasks) count m r u = with_unasked tasks (task_of unit (presented count m r)) u (task_unasked unit count m r.initiator_task_tag r.asks)

-- ---- all parts

reply_kept : (s : Machine) (disk : Disk) (r : Reply) → AreKept s.tasks → AreKept (on disk s.tasks r).machine.tasks
reply_kept s disk r k = elim (on_ends disk s.tasks r) [
  | inl over ↦ subst AreKept (sym over.tasks) none_kept
  | inr same ↦ subst AreKept (sym same) k
]

same_kept : (s t : Machine) (m : Message) → Accepts s m t → AreKept s.tasks → AreKept t.tasks
same_kept s _ m (Immediately c none) k = k
same_kept s _ m (InTurn n c w is) k = k

same_live : (s t : Machine) (m : Message) → Accepts s m t → is_machine_closed s ≡ false → is_machine_closed t ≡ false
same_live s _ m (Immediately c none) e = e
same_live s _ m (InTurn n c w is) e = e

-- the tasks with a write that took a Data-Out
pub data_unasked : (first : ℕ) (tasks : List Task) (w v : Write) (h : DataPdu) (bytes : List ℕ) → write_of tasks h.initiator_task_tag ≡ Some w →
    data_out_taken first w h bytes ≡ Some v
    → AreUnasked (tasks_behind tasks) → AreUnasked (tasks_behind (with_write v tasks))
data_unasked first tasks w v h bytes e f u =
    let tag : h.initiator_task_tag ≡ v.initiator_task_tag = sym (found_tag tasks h.initiator_task_tag w e) ∙ sym (taken_same first w v h bytes f).0 in
    behind_written first tasks w v h bytes (subst (λ (t : ℕ). write_of tasks t ≡ Some w) tag e) f u

abbrev Kept : Machine → TargetStep → Type 0
Kept s r = is_machine_closed s ≡ false → AreKept s.tasks → AreKept r.machine.tasks

parts_kept : (device : Device) (disk : Disk) → Parts device disk (λ s m r. Kept s r)
parts_kept device disk = record {
  nothing_ = λ s m c live k. k;
  shut_ = λ s m live k. none_kept;
  beside_ = λ s m r a is live k. reply_kept s disk r k;
  reject_and_close_ = λ s rule m live k. reply_kept s disk (reject_and_close s.session (waiting_tasks s.tasks) rule m) k;
  login_ = λ s m e live k. reply_kept s disk (target_login_step s.session m) k;
  taken_ = λ s m h w v e f g live k. done_kept device s.session disk (with_write v s.tasks) live
      (data_unasked (first_burst s.session.held) s.tasks w v h (segment_bytes m.segment) f g k.unasked);
  refused_ = λ s t m rule a x live k. reply_kept t disk (reject_and_close t.session (waiting_tasks t.tasks) rule m) (same_kept s t m x k);
  admitted_ = λ s t m a x r is f live k. done_kept device t.session disk (t.tasks ++ task_of (unit_of t.session) (presented disk.count m r) ∷ [])
      (same_live s t m x live)
      (behind_with (unit_of t.session) t.tasks disk.count m r (same_kept s t m x k).unasked);
}

closed_kept : (device : Device) (s : Machine) (disk : Disk) (m : Message) → is_machine_closed s ≡ true → step_on device s disk m ≡ unchanged s disk
closed_kept device s disk m e = rw e refl

-- each message keeps it
pub step_kept : (device : Device) (s : Machine) (disk : Disk) (m : Message) → AreKept s.tasks → AreKept (step_on device s disk m).machine.tasks
step_kept device s disk m k =
    by_cases (is_machine_closed s) (λ e. subst (λ (r : TargetStep). AreKept r.machine.tasks) (sym (closed_kept device s disk m e)) k)
    (λ e. step_parts device disk (λ s m r. Kept s r) (parts_kept device disk) s m e k)

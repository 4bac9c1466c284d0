-- Commands are executed in the order in which they were accepted.
use Rattle.std.proofs.Common.{◌≡◌, ◌⊎◌, inl, inr, ℕ, ◌+◌, List, [], ◌∷◌, ◌++◌, Bool, true, false, length, Option, Some, None, refl, sym, ap, ◌∙◌, subst, map}
use Rattle.std.proofs.Common.{append_assoc}
use Rattle.std.specs.Prelude.{◌==◌, nat_lt, if◌then◌else◌}
use Rattle.std.proofs.lemmas.Bool.{eqb-true}
use Rattle.std.proofs.lemmas.List.{append-nil, map-append}
use Rattle.std.proofs.lemmas.Grind.{flat_map-append}
use Rattle.scsi_disk.specs.Disk.{Disk}
use Rattle.scsi_disk.specs.Plan.{plan_of}
use Rattle.scsi_unit.specs.LogicalUnit.{LogicalUnit}
use Rattle.scsi_disk.specs.declared.order.Order.{Order}
use Rattle.scsi_disk.specs.declared.order.Plan.{Plan}
use Rattle.scsi_disk.specs.declared.order.Plan.TheVariants as plans
use Rattle.iscsi_pdu.specs.declared.head.Head.{Head}
use Rattle.iscsi_pdu.specs.declared.head.Head.TheVariants.{DataOut, LogoutRequest, NopOut, ScsiCommand, TaskRequest, TextRequest}
use Rattle.iscsi_pdu.specs.declared.head.scsi_command.ScsiCommand.{ScsiCommand as CommandPdu}
use Rattle.iscsi_pdu.specs.declared.head.data_out.DataOut.{DataOut as DataPdu}
use Rattle.iscsi_stream.specs.Segment.{segment_bytes}
use Rattle.iscsi_stream.specs.Stream.{Message}
use Rattle.iscsi_stream.proofs.ReadyLemmas.{apart}
use Rattle.iscsi_login.specs.Held.{first_burst}
use Rattle.iscsi_target_session.specs.Configured.{TargetSettings}
use Rattle.iscsi_target_session.specs.Session.{Session, Reply}
use Rattle.iscsi_target.specs.Write.{Write}
use Rattle.iscsi_target.specs.declared.tasks.Task.{Task}
use Rattle.iscsi_target.specs.QueuedRequest.{QueuedRequest}
use Rattle.iscsi_target.specs.declared.tasks.Task.TheVariants.{Command, Data, Request}
use Rattle.iscsi_target_session.specs.Inbound.{IsRequest}
use Rattle.iscsi_target_session.specs.declared.inbound.InboundRequest.{InboundRequest}
use Rattle.iscsi_target_session.specs.declared.inbound.Asks.{Asks}
use Rattle.iscsi_target_session.specs.declared.inbound.Asks.TheVariants as asks
use Rattle.iscsi_target_session.proofs.InboundLemmas.{asked_by, asks_is}
use Rattle.iscsi_target.specs.State.{Machine, Execution, TargetStep, on, unchanged, shut_down, opening_machine, unit_of}
use Rattle.iscsi_target.specs.inner.State.{breaks}
use Rattle.iscsi_target_session.specs.Login.{target_login_step}
use Rattle.iscsi_target.specs.Transfer.{data_out_taken, with_data, is_in_sequence, bytes_received, with_r2t}
use Rattle.iscsi_target.specs.Execution.{Device, reliable, execute}
use Rattle.iscsi_target.specs.Command.{order_of, led_by, send_r2t, task_of, task_by, task_planned, presented}
use Rattle.iscsi_target.specs.Machine.{task_begun, stays, target_step, step_on, answers, then_stepped, is_machine_closed, done_in_turn, having_accepted, write_of, with_write}
use Rattle.iscsi_target.specs.Laws.{TaggedOrder, order_asked, orders_asked, order_done, orders_done, order_waiting, orders_waiting, AreInOrder}
use Rattle.iscsi_target.proofs.Steps.TurnLemmas.{Begins, begins, Turns, turns, with_tasks, stays_on}
use Rattle.iscsi_target_session.proofs.CaseLemmas.{by_cases}
use Rattle.iscsi_target.proofs.Steps.StepPartLemmas.{Accepts, Immediately, InTurn, Parts, step_parts}
use Rattle.iscsi_target.proofs.Answers.ReplyLemmas.{IsOver, on_ends}
use Rattle.iscsi_target.proofs.Steps.NumberLaws.{closed_answers}
use Rattle.iscsi_target.proofs.Steps.KeepingLemmas.{answers_settings, begun_settings, step_settings}

-- from a session with these tasks
pub record Queues (unit : Option LogicalUnit) (tasks : List Task) (r : TargetStep) : Type 0 where
  pub more : List TaggedOrder
  pub order : orders_waiting tasks ++ orders_asked unit r.accepted ≡ orders_done r.executed ++ more
  pub open_ : is_machine_closed r.machine ≡ false → more ≡ orders_waiting r.machine.tasks

over_open : (unit : Option LogicalUnit) (old : List Task) (s : Machine) → IsOver s ⊎ (s.tasks ≡ old) → is_machine_closed s ≡ false → orders_waiting old
    ≡ orders_waiting s.tasks
over_open unit old s (inl over) e = absurd (apart over.closed e)
over_open unit old s (inr same) e = ap orders_waiting (sym same)

pub still : (old : List Task) (s : Machine) → IsOver s ⊎ (s.tasks ≡ old) → is_machine_closed s ≡ false → s.tasks ≡ old
still old s (inl over) e = absurd (apart over.closed e)
still old s (inr same) e = same

-- ---- replies

reply_queues : (unit : Option LogicalUnit) (s : Machine) (disk : Disk) (r : Reply) → Queues unit s.tasks (on disk s.tasks r)
reply_queues unit s disk r = record {
  more = orders_waiting s.tasks;
  order = append-nil (orders_waiting s.tasks);
  open_ = over_open unit s.tasks (on disk s.tasks r).machine (on_ends disk s.tasks r);
}

unchanged_queues : (unit : Option LogicalUnit) (s : Machine) (disk : Disk) → Queues unit s.tasks (unchanged s disk)
unchanged_queues unit s disk = record { more = orders_waiting s.tasks; order = append-nil (orders_waiting s.tasks); open_ = λ e. refl }

shut_queues : (unit : Option LogicalUnit) (s : Machine) (disk : Disk) → Queues unit s.tasks (shut_down s disk)
shut_queues unit s disk = record { more = orders_waiting s.tasks; order = append-nil (orders_waiting s.tasks); open_ = λ e. absurd cc }

-- ---- one after another

pub tasks_append : (unit : Option LogicalUnit) (a b : List Message) → orders_asked unit (a ++ b) ≡ orders_asked unit a ++ orders_asked unit b
tasks_append unit a b = flat_map-append (λ (m : Message). order_asked unit m.head) a b

closed_queues : (unit : Option LogicalUnit) (tasks : List Task) (first : TargetStep) (disk : Disk) → Queues unit tasks first → is_machine_closed first.machine
    ≡ true →
    Queues unit tasks (then_stepped first (unchanged first.machine disk))
closed_queues unit tasks first disk q e = record {
  more = q.more;
  order = ap (λ (ms : List Message). orders_waiting tasks ++ orders_asked unit ms) (append-nil first.accepted) ∙ q.order
      ∙ ap (λ (es : List Execution). orders_done es ++ q.more) (sym (append-nil first.executed));
  open_ = λ f. absurd (apart e f);
}

open_queues : (unit : Option LogicalUnit) (tasks : List Task) (first later : TargetStep) → Queues unit tasks first → is_machine_closed first.machine ≡ false
    → Queues unit first.machine.tasks later →
    Queues unit tasks (then_stepped first later)
open_queues unit tasks first later q e p = record {
  more = p.more;
  order =
      ap (λ (ts : List TaggedOrder). orders_waiting tasks ++ ts) (tasks_append unit first.accepted later.accepted)
      ∙ sym (append_assoc (orders_waiting tasks) (orders_asked unit first.accepted) (orders_asked unit later.accepted))
      ∙ ap (λ (ts : List TaggedOrder). ts ++ orders_asked unit later.accepted) q.order
      ∙ append_assoc (orders_done first.executed) q.more (orders_asked unit later.accepted)
      ∙ ap (λ (ts : List TaggedOrder). orders_done first.executed ++ (ts ++ orders_asked unit later.accepted)) (q.open_ e)
      ∙ ap (λ (ts : List TaggedOrder). orders_done first.executed ++ ts) p.order
      ∙ sym (append_assoc (orders_done first.executed) (orders_done later.executed) p.more)
      ∙ ap (λ (ts : List TaggedOrder). ts ++ p.more) (sym (map-append order_done first.executed later.executed));
  open_ = p.open_;
}

-- ---- tasks

-- what the first task does with those behind it
pub record Leads (s : Machine) (task : Task) (r : TargetStep) : Type 0 where
  pub accepted : r.accepted ≡ []
  pub behind : is_machine_closed r.machine ≡ false → stays s.tasks r ≡ false → r.machine.tasks ≡ s.tasks
  pub queues : Queues (unit_of s.session) (task ∷ s.tasks) r

abbrev command_of : Write → List TaggedOrder
command_of w = (w.initiator_task_tag, w.order) ∷ []

request_leads : (s : Machine) (disk : Disk) (k : QueuedRequest) (r : Reply) → Leads s (Request k) (on disk s.tasks r)
request_leads s disk k r =
    let over = on_ends disk s.tasks r in
    record {
      accepted = refl;
      behind = λ live stay. still s.tasks (on disk s.tasks r).machine over live;
      queues = record {
        more = orders_waiting s.tasks;
        order = append-nil (orders_waiting s.tasks);
        open_ = over_open (unit_of s.session) s.tasks (on disk s.tasks r).machine over;
      };
    }

executed_leads : (s : Machine) (task : Task) (w : Write) (r : TargetStep) → order_waiting task ≡ command_of w → r.accepted ≡ [] → r.machine.tasks ≡ s.tasks →
    orders_done r.executed ≡ command_of w → Leads s task r
executed_leads s task w r is none tasks done = record {
  accepted = none;
  behind = λ live stay. tasks;
  queues = record {
    more = orders_waiting s.tasks;
    order = ap (λ (ms : List Message). orders_waiting (task ∷ s.tasks) ++ orders_asked (unit_of s.session) ms) none ∙ append-nil
        (orders_waiting (task ∷ s.tasks))
        ∙ ap (λ (ts : List TaggedOrder). ts ++ orders_waiting s.tasks) (is ∙ sym done);
    open_ = λ e. ap orders_waiting (sym tasks);
  };
}

waiting_leads : (s : Machine) (task : Task) (w v : Write) (r : TargetStep) → order_waiting task ≡ command_of w → command_of v ≡ command_of w → r.accepted ≡ [] →
    r.executed ≡ [] → r.machine.tasks ≡ Data v ∷ s.tasks → Leads s task r
waiting_leads s task w v r is same none done tasks = record {
  accepted = none;
  behind = λ live stay. stays_on (Data v) s.tasks (ap (λ (ts : List Task). nat_lt (length s.tasks) (length ts)) (sym tasks) ∙ stay);
  queues = record {
    more = orders_waiting (task ∷ s.tasks);
    order = ap (λ (ms : List Message). orders_waiting (task ∷ s.tasks) ++ orders_asked (unit_of s.session) ms) none ∙ append-nil
        (orders_waiting (task ∷ s.tasks))
        ∙ ap (λ (es : List Execution). orders_done es ++ orders_waiting (task ∷ s.tasks)) (sym done);
    open_ = λ e. ap (λ (ts : List TaggedOrder). ts ++ orders_waiting s.tasks) (is ∙ sym same) ∙ ap orders_waiting (sym tasks);
  };
}

begins_lead : Begins (λ device s disk task r. Leads s task r)
begins_lead = record {
  request_ = λ device s disk k. request_leads s disk k _;
  command_ = λ device s disk tag order. record {
    accepted = refl;
    behind = λ live stay. refl;
    queues = record {
      more = orders_waiting s.tasks;
      order = append-nil ((tag, order) ∷ orders_waiting s.tasks);
      open_ = λ e. refl;
    };
  };
  write_ = λ device s disk w h. executed_leads s (Data w) w (execute device s disk w.initiator_task_tag w.order w.pieces) refl refl refl refl;
  send_r2t_ = λ device s disk w h g. waiting_leads s (Data w) w (with_r2t s.session.held w) (send_r2t s disk w) refl refl refl refl refl;
  wait_ = λ device s disk w h g. waiting_leads s (Data w) w w (unchanged (led_by w s) disk) refl refl refl refl refl;
}

pub begun_leads : (device : Device) (s : Session) (disk : Disk) (task : Task) (more : List Task) →
    Leads (with_tasks s more) task (task_begun device (with_tasks s more) disk task)
begun_leads device s disk task more = begins (λ device s disk task r. Leads s task r) begins_lead device (with_tasks s more) disk task

abbrev Done : Session → List Task → TargetStep → Type 0
Done s tasks r = (r.accepted ≡ []) × Queues (unit_of s) tasks r

turns_queue : Turns (λ device s disk tasks r. Done s tasks r)
turns_queue = record {
  none_ = λ device s disk. (refl, unchanged_queues (unit_of s) (with_tasks s []) disk);
  stop_ = λ device s disk task more why. (let l = begun_leads device s disk task more in (l.accepted, l.queues));
  then_ = λ device s disk task more b stays live u.
      (let l = begun_leads device s disk task more in
      let r : TargetStep = task_begun device (with_tasks s more) disk task in (
        ap (λ (ms : List Message). ms ++ b.accepted) l.accepted ∙ u.0,
        open_queues (unit_of s) (task ∷ more) r b l.queues live (subst (λ (ts : List Task). Queues (unit_of s) ts b) (sym (l.behind live stays))
            (subst (λ (p : TargetSettings). Queues p.extras.unit more b) (begun_settings device s disk task more) u.1)),
      ));
}

done_queues : (device : Device) (s : Session) (disk : Disk) (tasks : List Task) → Done s tasks (done_in_turn device s disk tasks)
done_queues device s disk tasks = turns (λ device s disk tasks r. Done s tasks r) turns_queue device s disk tasks

-- ---- a Data-Out

taken_by : (w v more : Write) (b : Bool) → (v.initiator_task_tag ≡ w.initiator_task_tag) → (v.order ≡ w.order) → (if b then Some v else None) ≡ Some more
    → (more.initiator_task_tag ≡ w.initiator_task_tag) × (more.order ≡ w.order)
taken_by w v more true tag order f =
    let same : v ≡ more = cc in
    (ap (λ (x : Write). x.initiator_task_tag) (sym same) ∙ tag, ap (λ (x : Write). x.order) (sym same) ∙ order)
taken_by w v more false tag order f = absurd cc

pub taken_same : (first : ℕ) (w v : Write) (h : DataPdu) (bytes : List ℕ) → data_out_taken first w h bytes ≡ Some v
    → (v.initiator_task_tag ≡ w.initiator_task_tag)
    × (v.order ≡ w.order)
taken_same first w v h bytes e = taken_by w (with_data w h bytes) v (is_in_sequence first w h (bytes_received w + length bytes) w.due) refl refl e

-- the write that is found has the tag
pub found_tag : (tasks : List Task) (tag : ℕ) (w : Write) → write_of tasks tag ≡ Some w → w.initiator_task_tag ≡ tag
found_tag [] tag w e = absurd cc
found_tag (Command t order ∷ more) tag w e = found_tag more tag w e
found_tag (Request k ∷ more) tag w e = found_tag more tag w e
found_tag (Data x ∷ more) tag w e =
    by_cases (x.initiator_task_tag == tag)
    (λ f. let same : x ≡ w = (let g : Some x ≡ Some w = rw f at e in cc) in ap (λ (y : Write). y.initiator_task_tag) (sym same)
    ∙ eqb-true x.initiator_task_tag tag f)
    (λ f. found_tag more tag w (rw f at e))

same_command : (w v : Write) → v.initiator_task_tag ≡ w.initiator_task_tag → v.order ≡ w.order → command_of v ≡ command_of w
same_command w v tag order = λ i. (tag i, order i) ∷ []

-- the commands are the same with a write that took data
written_open : (tasks : List Task) (w v : Write) → write_of tasks v.initiator_task_tag ≡ Some w → v.initiator_task_tag ≡ w.initiator_task_tag → v.order
    ≡ w.order
    → orders_waiting (with_write v tasks) ≡ orders_waiting tasks
written_open [] w v e tag order = refl
written_open (Command t o ∷ more) w v e tag order = ap (λ (ts : List TaggedOrder). (t, o) ∷ ts) (written_open more w v e tag order)
written_open (Request k ∷ more) w v e tag order = written_open more w v e tag order
written_open (Data x ∷ more) w v e tag order =
    by_cases (x.initiator_task_tag == v.initiator_task_tag)
    (λ f.
    let same : x ≡ w = (let g : Some x ≡ Some w = rw f at e in cc) in
    let is : command_of v ≡ command_of x = same_command w v tag order ∙ ap command_of (sym same) in
    rw f (ap (λ (ts : List TaggedOrder). ts ++ orders_waiting more) is))
    (λ f. rw f (ap (λ (ts : List TaggedOrder). command_of x ++ ts) (written_open more w v (rw f at e) tag order)))

taken_queues : (device : Device) (s : Machine) (disk : Disk) (h : DataPdu) (bytes : List ℕ) (w v : Write) → write_of s.tasks h.initiator_task_tag ≡ Some w →
    data_out_taken (first_burst s.session.held) w h bytes ≡ Some v
    → Queues (unit_of s.session) s.tasks (having_accepted [] (done_in_turn device s.session disk (with_write v s.tasks)))
taken_queues device s disk h bytes w v e f =
    let same = taken_same (first_burst s.session.held) w v h bytes f in
    let tag : h.initiator_task_tag ≡ v.initiator_task_tag = sym (found_tag s.tasks h.initiator_task_tag w e) ∙ sym same.0 in
    let now = written_open s.tasks w v (subst (λ (t : ℕ). write_of s.tasks t ≡ Some w) tag e) same.0 same.1 in
    let d = done_queues device s.session disk (with_write v s.tasks) in
    let r : TargetStep = done_in_turn device s.session disk (with_write v s.tasks) in
    record {
      more = d.1.more;
      order = append-nil (orders_waiting s.tasks) ∙ sym now ∙ sym (append-nil (orders_waiting (with_write v s.tasks)))
          ∙ ap (λ (ms : List Message). orders_waiting (with_write v s.tasks) ++ orders_asked (unit_of s.session) ms) (sym d.0) ∙ d.1.order;
      open_ = d.1.open_;
    }

-- ---- a request

planned_open : (h : CommandPdu) (order : Order) (bytes : List ℕ) (plan : Plan) → order_waiting (task_planned h order bytes plan) ≡
    (h.initiator_task_tag, order) ∷ []
planned_open h order bytes (plans.Take total) = refl
planned_open h order bytes (plans.Refuse sense) = refl
planned_open h order bytes (plans.Give given) = refl

asked_of : (unit : Option LogicalUnit) (count : ℕ) (m : Message) (tag : Option ℕ) (head : Head) (asked : Asks) → asked_by head ≡ Some asked
    → order_waiting (task_by unit count m tag asked) ≡ order_asked unit head
asked_of unit count m tag (ScsiCommand h) (asks.Command g) e =
    let same : h ≡ g = cc in
    planned_open g (order_of unit g) (segment_bytes m.segment) (plan_of (order_of unit g) count)
    ∙ ap (λ (x : CommandPdu). (x.initiator_task_tag, order_of unit x) ∷ []) (sym same)
asked_of unit count m tag (ScsiCommand h) (asks.Session q) e = absurd cc
asked_of unit count m tag (NopOut h) (asks.Session q) e = refl
asked_of unit count m tag (NopOut h) (asks.Command g) e = absurd cc
asked_of unit count m tag (TaskRequest h) (asks.Session q) e = refl
asked_of unit count m tag (TaskRequest h) (asks.Command g) e = absurd cc
asked_of unit count m tag (TextRequest h) (asks.Session q) e = refl
asked_of unit count m tag (TextRequest h) (asks.Command g) e = absurd cc
asked_of unit count m tag (LogoutRequest h) (asks.Session q) e = refl
asked_of unit count m tag (LogoutRequest h) (asks.Command g) e = absurd cc
asked_of unit count m tag (DataOut h) asked e = absurd cc
asked_of unit count m tag _ asked e = absurd cc

asked_is : (unit : Option LogicalUnit) (count : ℕ) (m : Message) (head : Head) (r : InboundRequest) → IsRequest r head → order_waiting
    (task_of unit (presented count m r)) ≡ order_asked unit head
asked_is unit count m head r e = asked_of unit count m r.initiator_task_tag head r.asks (asks_is head r e)

tasks_with : (unit : Option LogicalUnit) (tasks : List Task) (count : ℕ) (m : Message) (r : InboundRequest) → IsRequest r m.head →
    orders_waiting (tasks ++ task_of unit (presented count m r) ∷ []) ≡ orders_waiting tasks ++ orders_asked unit (m ∷ [])
tasks_with unit tasks count m r is =
    flat_map-append order_waiting tasks (task_of unit (presented count m r) ∷ [])
    ∙ ap (λ (ts : List TaggedOrder). orders_waiting tasks ++ (ts ++ [])) (asked_is unit count m m.head r is)

-- the disk tells what it told
same_unit : (s t : Machine) (m : Message) → Accepts s m t → unit_of t.session ≡ unit_of s.session
same_unit s _ m (Immediately c none) = refl
same_unit s _ m (InTurn n c w is) = refl

pub same_tasks : (s t : Machine) (m : Message) → Accepts s m t → t.tasks ≡ s.tasks
same_tasks s _ m (Immediately c none) = refl
same_tasks s _ m (InTurn n c w is) = refl

admitted_queues : (device : Device) (s : Machine) (session : Session) (m : Message) (disk : Disk) (r : InboundRequest) → IsRequest r m.head →
    Queues (unit_of session) s.tasks (having_accepted (m ∷ []) (done_in_turn device session disk
    (s.tasks ++ task_of (unit_of session) (presented disk.count m r) ∷ [])))
admitted_queues device s session m disk r is =
    let all : List Task = s.tasks ++ task_of (unit_of session) (presented disk.count m r) ∷ [] in
    let d = done_queues device session disk all in
    record {
      more = d.1.more;
      order = sym (tasks_with (unit_of session) s.tasks disk.count m r is) ∙ sym (append-nil (orders_waiting all)) ∙ ap
          (λ (ms : List Message). orders_waiting all ++ orders_asked (unit_of session) ms) (sym d.0)
          ∙ d.1.order;
      open_ = d.1.open_;
    }

refused_queues : (unit : Option LogicalUnit) (s t : Machine) (m : Message) (disk : Disk) (rule : ℕ) → t.tasks ≡ s.tasks → Queues unit s.tasks
    (having_accepted (m ∷ []) (breaks t disk rule m))
refused_queues unit s t m disk rule e = record {
  more = orders_waiting s.tasks ++ orders_asked unit (m ∷ []);
  order = refl;
  open_ = λ f. absurd cc;
}

-- ---- all parts

parts_order : (device : Device) (disk : Disk) → Parts device disk (λ s m r. Queues (unit_of s.session) s.tasks r)
parts_order device disk = record {
  nothing_ = λ s m c. unchanged_queues (unit_of s.session) s disk;
  shut_ = λ s m. shut_queues (unit_of s.session) s disk;
  beside_ = λ s m r a is. reply_queues (unit_of s.session) s disk r;
  reject_and_close_ = λ s rule m. reply_queues (unit_of s.session) s disk _;
  login_ = λ s m k. reply_queues (unit_of s.session) s disk (target_login_step s.session m);
  taken_ = λ s m h w v k e f. taken_queues device s disk h (segment_bytes m.segment) w v e f;
  refused_ = λ s t m rule a x. refused_queues (unit_of s.session) s t m disk rule (same_tasks s t m x);
  admitted_ = λ s t m a x r is f. subst (λ (unit : Option LogicalUnit). Queues unit s.tasks (having_accepted (m ∷ [])
      (done_in_turn device t.session disk (t.tasks ++ task_of (unit_of t.session) (presented disk.count m r) ∷ [])))) (same_unit s t m x)
      (subst (λ (ts : List Task). Queues (unit_of t.session) s.tasks (having_accepted (m ∷ [])
      (done_in_turn device t.session disk (ts ++ task_of (unit_of t.session) (presented disk.count m r) ∷ [])))) (sym (same_tasks s t m x))
      (admitted_queues device s t.session m disk r is));
}

step_order : (device : Device) (disk : Disk) (s : Machine) (m : Message) → Queues (unit_of s.session) s.tasks (step_on device s disk m)
step_order device disk s m = step_parts device disk (λ s m r. Queues (unit_of s.session) s.tasks r) (parts_order device disk) s m

pub answers_queue : (protected : Bool) (s : Machine) (disk : Disk) (ms : List Message) → Queues (unit_of s.session) s.tasks (answers protected s disk ms)
unfolding answers
answers_queue protected s disk [] = record { more = orders_waiting s.tasks; order = append-nil (orders_waiting s.tasks); open_ = λ f. refl }
answers_queue protected s disk (m ∷ ms) =
    let first : TargetStep = target_step protected s disk m in
    let q : Queues (unit_of s.session) s.tasks first = step_order (reliable protected) disk s m in
    by_cases (is_machine_closed first.machine)
    (λ e. subst (λ (r : TargetStep). Queues (unit_of s.session) s.tasks (then_stepped first r)) (sym (closed_answers protected first.machine first.disk ms e))
    (closed_queues (unit_of s.session) s.tasks first first.disk q e))
    (λ e. open_queues (unit_of s.session) s.tasks first (answers protected first.machine first.disk ms) q e
    (subst (λ (p : TargetSettings). Queues p.extras.unit first.machine.tasks (answers protected first.machine first.disk ms))
    (step_settings (reliable protected) s disk m) (answers_queue protected first.machine first.disk ms)))

pub opening_in_order : (protected : Bool) (settings : TargetSettings) (n : ℕ) (disk : Disk) (ms : List Message) →
    AreInOrder (answers protected (opening_machine settings n) disk ms)
opening_in_order protected settings n disk ms =
    let r : TargetStep = answers protected (opening_machine settings n) disk ms in
    let q : Queues (unit_of r.machine.session) [] r =
    subst (λ (p : TargetSettings). Queues p.extras.unit [] r) (sym (answers_settings protected (opening_machine settings n) disk ms))
    (answers_queue protected (opening_machine settings n) disk ms) in
    record { more = q.more; order = q.order; open_ = q.open_ }

-- the tags of what was executed
pub tags_of_tasks : (es : List Execution) → map (λ task. task.0) (orders_done es) ≡ map (λ e. e.initiator_task_tag) es
tags_of_tasks [] = refl
tags_of_tasks (e ∷ es) = ap (λ (ts : List ℕ). e.initiator_task_tag ∷ ts) (tags_of_tasks es)

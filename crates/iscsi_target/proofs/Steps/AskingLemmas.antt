-- No command is executed that asks to last, where none asks that may be executed.
use Rattle.std.proofs.Common.{◌≡◌, ◌≤◌, ℕ, List, [], ◌∷◌, ◌++◌, Bool, true, false, length, Option, Some, None, refl, sym, ap, ◌∙◌, subst, arith}
use Rattle.std.specs.Prelude.{◌==◌, ◌+◌, if◌then◌else◌}
use Rattle.std.specs.List.{AllByRecursion, list_any}
use Rattle.scsi_disk.specs.Disk.{Disk}
use Rattle.scsi_disk.specs.Plan.{plan_of}
use Rattle.scsi_disk.specs.declared.order.Order.{Order}
use Rattle.scsi_disk.specs.declared.order.Plan.{Plan}
use Rattle.scsi_disk.specs.declared.order.Plan.TheVariants.{Refuse, Take, Give}
use Rattle.scsi_unit.specs.LogicalUnit.{LogicalUnit}
use Rattle.scsi_unit.specs.WriteCache.{asks_to_last}
use Rattle.iscsi_pdu.specs.declared.head.Head.{Head}
use Rattle.iscsi_pdu.specs.declared.head.Head.TheVariants.{DataOut, LogoutRequest, NopOut, ScsiCommand, TaskRequest, TextRequest}
use Rattle.iscsi_pdu.specs.declared.head.data_out.DataOut.{DataOut as DataPdu}
use Rattle.iscsi_pdu.specs.declared.head.scsi_command.ScsiCommand.{ScsiCommand as Command}
use Rattle.iscsi_stream.specs.Segment.{segment_bytes}
use Rattle.iscsi_stream.specs.Stream.{Message}
use Rattle.iscsi_login.specs.Held.{first_burst}
use Rattle.iscsi_target_session.proofs.CaseLemmas.{by_cases}
use Rattle.iscsi_target.specs.Write.{Write}
use Rattle.iscsi_target.specs.declared.tasks.Task.{Task}
use Rattle.iscsi_target.specs.declared.tasks.Task.TheVariants as kinds
use Rattle.iscsi_target.specs.declared.tasks.Task.TheVariants.{Data, Request}
use Rattle.iscsi_target_session.specs.declared.inbound.Asks.{Asks}
use Rattle.iscsi_target_session.specs.declared.inbound.Asks.TheVariants as asks
use Rattle.iscsi_target_session.proofs.InboundLemmas.{asked_by, asks_is}
use Rattle.iscsi_target.specs.State.{Machine, Execution, TargetStep, unit_of}
use Rattle.iscsi_target.specs.Transfer.{data_out_taken, is_in_sequence, with_data, bytes_received}
use Rattle.iscsi_target.specs.Execution.{Device}
use Rattle.iscsi_target.specs.Command.{order_of, task_of, task_by, task_planned, presented}
use Rattle.iscsi_target.specs.Machine.{MayAnswer, task_begun, step_on, with_write, write_of}
use Rattle.iscsi_target.specs.Asking.{NoneAsks, machine_asks, asks_head, asks_task}
use Rattle.iscsi_target.proofs.Steps.TurnLemmas.{Begins, begins, Turns, turns, with_tasks, neither}
use Rattle.iscsi_target.proofs.Steps.StepPartLemmas.{Accepts, Immediately, InTurn, Parts, step_parts}

-- no task asks
abbrev pub NoneOf : List Task → Type 0
NoneOf tasks = AllByRecursion (λ task. asks_task task ≡ false) tasks

none_of : (tasks : List Task) → list_any asks_task tasks ≡ false → NoneOf tasks
none_of [] e = tt
none_of (task ∷ more) e =
    let both = neither (asks_task task) (list_any asks_task more) e in
    (both.0, none_of more both.1)

pub both_none : (a b : List Execution) → NoneAsks a → NoneAsks b → NoneAsks (a ++ b)
both_none [] b x y = y
both_none (e ∷ a) b x y = (x.0, both_none a b x.1 y)

-- ---- the first task

order_none : (unit : Option LogicalUnit) (head : Head) (h : Command) → head ≡ ScsiCommand h → asks_head unit head ≡ false
    → asks_to_last (order_of unit h).cdb ≡ false
order_none unit head h k e = sym (ap (asks_head unit) k) ∙ e

begins_none : Begins (λ device s disk task r. asks_task task ≡ false → NoneAsks r.executed)
begins_none = record {
  request_ = λ device s disk k e. tt;
  command_ = λ device s disk tag order e. (e, tt);
  write_ = λ device s disk w whole e. (e, tt);
  send_r2t_ = λ device s disk w whole idle e. tt;
  wait_ = λ device s disk w whole idle e. tt;
}

begun_none : (device : Device) (s : Machine) (disk : Disk) (task : Task) → asks_task task ≡ false → NoneAsks (task_begun device s disk task).executed
begun_none device s disk task e = begins (λ device s disk task r. asks_task task ≡ false → NoneAsks r.executed) begins_none device s disk task e

-- ---- tasks in their turn

turns_none : Turns (λ device s disk tasks r. NoneOf tasks → NoneAsks r.executed)
turns_none = record {
  none_ = λ device s disk e. tt;
  stop_ = λ device s disk task more why e. begun_none device (with_tasks s more) disk task e.0;
  then_ = λ device s disk task more b stay live later e.
      both_none (task_begun device (with_tasks s more) disk task).executed b.executed (begun_none device (with_tasks s more) disk task e.0) (later e.1);
}

-- ---- a Data-Out

found_none : (tasks : List Task) (tag : ℕ) (w : Write) → write_of tasks tag ≡ Some w → NoneOf tasks → asks_to_last w.order.cdb ≡ false
found_none [] tag w e o = absurd cc
found_none (kinds.Command t order ∷ more) tag w e o = found_none more tag w e o.1
found_none (Request k ∷ more) tag w e o = found_none more tag w e o.1
found_none (Data x ∷ more) tag w e o =
    by_cases (x.initiator_task_tag == tag)
    (λ f. (let g : Some x ≡ Some w = rw f at e in
    let same : x ≡ w = cc in
    subst (λ (y : Write). asks_to_last y.order.cdb ≡ false) same o.0))
    (λ f. found_none more tag w (rw f at e) o.1)

taken_if : (w more : Write) (b : Bool) → asks_to_last w.order.cdb ≡ false → (if b then Some w else None) ≡ Some more → asks_to_last more.order.cdb ≡ false
taken_if w more true o e = let f : w ≡ more = cc in subst (λ (x : Write). asks_to_last x.order.cdb ≡ false) f o
taken_if w more false o e = absurd cc

taken_none : (first : ℕ) (w more : Write) (h : DataPdu) (bytes : List ℕ) → asks_to_last w.order.cdb ≡ false → data_out_taken first w h bytes ≡ Some more
    → asks_to_last more.order.cdb ≡ false
taken_none first w more h bytes o e = taken_if (with_data w h bytes) more (is_in_sequence first w h (bytes_received w + length bytes) w.due) o e

written_none : (v : Write) (tasks : List Task) → asks_to_last v.order.cdb ≡ false → NoneOf tasks → NoneOf (with_write v tasks)
written_none v [] e o = tt
written_none v (kinds.Command t order ∷ more) e o = (o.0, written_none v more e o.1)
written_none v (Request k ∷ more) e o = (o.0, written_none v more e o.1)
written_none v (Data x ∷ more) e o =
    by_cases (x.initiator_task_tag == v.initiator_task_tag) (λ f. rw f (e, o.1)) (λ f. rw f (o.0, written_none v more e o.1))

-- ---- a request

planned_none : (h : Command) (order : Order) (bytes : List ℕ) (plan : Plan) → asks_to_last order.cdb ≡ false → asks_task (task_planned h order bytes plan) ≡
    false
planned_none h order bytes (Take total) o = o
planned_none h order bytes (Refuse sense) o = o
planned_none h order bytes (Give given) o = o

command_is : (head : Head) (h : Command) → asked_by head ≡ Some (asks.Command h) → head ≡ ScsiCommand h
command_is (ScsiCommand h) g e = cc
command_is (NopOut h) g e = absurd cc
command_is (TaskRequest h) g e = absurd cc
command_is (TextRequest h) g e = absurd cc
command_is (LogoutRequest h) g e = absurd cc
command_is (DataOut h) g e = absurd cc
command_is _ g e = absurd cc

task_none : (unit : Option LogicalUnit) (count : ℕ) (m : Message) (tag : Option ℕ) (asked : Asks) → asked_by m.head ≡ Some asked → asks_head unit m.head ≡ false
    → asks_task (task_by unit count m tag asked) ≡ false
task_none unit count m tag (asks.Command h) k e =
    planned_none h (order_of unit h) (segment_bytes m.segment) (plan_of (order_of unit h) count) (order_none unit m.head h (command_is m.head h k) e)
task_none unit count m tag (asks.Session q) k e = refl

with_none : (tasks : List Task) (task : Task) → NoneOf tasks → asks_task task ≡ false → NoneOf (tasks ++ task ∷ [])
with_none [] task o t = (t, tt)
with_none (x ∷ tasks) task o t = (o.0, with_none tasks task o.1 t)

same_none : (s t : Machine) (m : Message) → Accepts s m t → NoneOf s.tasks → NoneOf t.tasks
same_none s _ m (Immediately c none) o = o
same_none s _ m (InTurn n c w is) o = o

-- the session of the task has the same unit
unit_same : (s t : Machine) (m : Message) → Accepts s m t → unit_of t.session ≡ unit_of s.session
unit_same s _ m (Immediately c none) = refl
unit_same s _ m (InTurn n c w is) = refl

-- ---- all parts

parts_none : (device : Device) (disk : Disk) → Parts device disk (λ s m r. machine_asks s m.head ≡ false → NoneAsks r.executed)
parts_none device disk = record {
  nothing_ = λ s m c e. tt;
  shut_ = λ s m e. tt;
  beside_ = λ s m r a is e. tt;
  reject_and_close_ = λ s rule m e. tt;
  login_ = λ s m k e. tt;
  taken_ = λ s m h w v k is takes e.
      (let none : NoneOf s.tasks = none_of s.tasks (neither (list_any asks_task s.tasks) (asks_head (unit_of s.session) m.head) e).0 in
      turns (λ device s disk tasks r. NoneOf tasks → NoneAsks r.executed) turns_none device s.session disk (with_write v s.tasks)
      (written_none v s.tasks
      (taken_none (first_burst s.session.held) w v h (segment_bytes m.segment) (found_none s.tasks h.initiator_task_tag w is none) takes) none));
  refused_ = λ s t m rule a x e. tt;
  admitted_ = λ s t m a x r is f e.
      (let both = neither (list_any asks_task s.tasks) (asks_head (unit_of s.session) m.head) e in
      let unit : Option LogicalUnit = unit_of t.session in
      turns (λ device s disk tasks r. NoneOf tasks → NoneAsks r.executed) turns_none device t.session disk
      (t.tasks ++ task_of unit (presented disk.count m r) ∷ [])
      (with_none t.tasks (task_of unit (presented disk.count m r)) (same_none s t m x (none_of s.tasks both.0))
      (task_none unit disk.count m r.initiator_task_tag r.asks (asks_is m.head r is)
      (ap (λ (u : Option LogicalUnit). asks_head u m.head) (unit_same s t m x) ∙ both.1))));
}

-- one step
step_none : (device : Device) (s : Machine) (disk : Disk) (m : Message) → machine_asks s m.head ≡ false → NoneAsks (step_on device s disk m).executed
step_none device s disk m e = step_parts device disk (λ s m r. machine_asks s m.head ≡ false → NoneAsks r.executed) (parts_none device disk) s m e

-- one PDU at most
pub answers_none : (protected : Bool) (s : Machine) (disk : Disk) (before : ℕ) (ms : List Message) (r : TargetStep) (after : ℕ) → length ms ≤ 1
    → MayAnswer protected s disk before ms r after → AllByRecursion (λ m. machine_asks s m.head ≡ false) ms → NoneAsks r.executed
unfolding MayAnswer
answers_none protected s disk before [] r after few h none = subst (λ (x : TargetStep). NoneAsks x.executed) (sym h.0) tt
answers_none protected s disk before (m ∷ []) r after few h none =
    let first : TargetStep = h.0 in
    let here : NoneAsks first.executed =
    subst (λ (x : TargetStep). NoneAsks x.executed) (sym h.3.is) (step_none h.3.device s disk m none.0) in
    let later : NoneAsks h.1.executed = subst (λ (x : TargetStep). NoneAsks x.executed) (sym h.4.0) tt in
    subst (λ (x : TargetStep). NoneAsks x.executed) (sym h.5) (both_none first.executed h.1.executed here later)
answers_none protected s disk before (m ∷ n ∷ ms) r after few h none = absurd (omega (arith, few))

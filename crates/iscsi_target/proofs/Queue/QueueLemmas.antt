-- The queue of a target between two PDUs: what takes a place of the window, and how MaxCmdSN goes.
use Rattle.std.proofs.Common.{◌≡◌, ◌≤◌, ◌<◌, ◌⊎◌, inl, inr, ℕ, suc, ◌+◌, ◌-◌, ◌^◌, ◌%◌, Bool, true, false, List, [], ◌∷◌, ◌++◌, length, Some, None, refl, sym, ap, Option}
use Rattle.std.proofs.Common.{subst, ◌∙◌, ◌*◌, arith, length-append}
use Rattle.std.specs.Prelude.{◌==◌, nat_lt, nat_le, not, filter, if◌then◌else◌}
use Rattle.std.specs.List.{AllByRecursion}
use Rattle.std.proofs.lemmas.Bool.{ltb-true}
use Rattle.std.proofs.lemmas.List.Elements.{filter-append}
use Rattle.scsi_disk.specs.Disk.{Disk}
use Rattle.scsi_disk.specs.Plan.{plan_of}
use Rattle.scsi_disk.specs.declared.order.Order.{Order}
use Rattle.scsi_disk.specs.declared.order.Plan.{Plan}
use Rattle.scsi_disk.specs.declared.order.Plan.TheVariants as plans
use Rattle.scsi_unit.specs.LogicalUnit.{LogicalUnit}
use Rattle.iscsi_pdu.specs.declared.head.scsi_command.ScsiCommand.{ScsiCommand as CommandPdu}
use Rattle.iscsi_pdu.specs.declared.head.data_out.DataOut.{DataOut as DataPdu}
use Rattle.iscsi_pdu.specs.Serial.{distance, is_within, next_sn}
use Rattle.iscsi_stream.specs.Segment.{segment_bytes}
use Rattle.iscsi_stream.specs.Stream.{Message}
use Rattle.iscsi_login.specs.declared.phase.Phase.TheVariants as phases
use Rattle.iscsi_login.specs.Held.{first_burst}
use Rattle.iscsi_login.specs.Stage.{is_closed_phase}
use Rattle.iscsi_target_session.specs.Configured.{TargetSettings}
use Rattle.iscsi_target_session.specs.Session.{Session as SessionState, Reply}
use Rattle.iscsi_target_session.specs.Rejecting.{reject_and_close}
use Rattle.iscsi_target_session.specs.Login.{target_login_step}
use Rattle.iscsi_target_session.specs.Requests.{request_answered}
use Rattle.iscsi_target_session.proofs.CaseLemmas.{by_cases}
use Rattle.iscsi_target.specs.Write.{Write}
use Rattle.iscsi_target.specs.declared.tasks.Task.{Task}
use Rattle.iscsi_target.specs.declared.tasks.Task.TheVariants.{Command, Data, Request}
use Rattle.iscsi_target_session.specs.Inbound.{IsRequest}
use Rattle.iscsi_target_session.specs.declared.inbound.InboundRequest.{InboundRequest}
use Rattle.iscsi_target_session.specs.declared.inbound.Asks.{Asks}
use Rattle.iscsi_target_session.specs.declared.inbound.Asks.TheVariants as asks
use Rattle.iscsi_target_session.proofs.InboundLemmas.{asks_at_once, immediate_is}
use Rattle.iscsi_target.specs.State.{Machine, Execution, TargetStep, left, max_cmd_sn, on, opening_machine, takes_place, unchanged, waiting_tasks, unit_of}
use Rattle.iscsi_target.specs.Transfer.{is_in_sequence, bytes_received, data_out_taken, with_data, with_r2t}
use Rattle.iscsi_target.specs.Execution.{Device, execute, reliable}
use Rattle.iscsi_target.specs.Command.{led_by, order_of, send_r2t, task_by, task_of, task_planned, presented}
use Rattle.iscsi_target.specs.Machine.{MayAnswer, advanced, answers, task_begun, done_in_turn, having_accepted, is_machine_closed, target_step, step_on, then_stepped, with_write, write_of}
use Rattle.iscsi_target.specs.Queue.{TakePlaces, tasks_behind, IsQueue, IsNotBefore}
use Rattle.iscsi_target.specs.inner.Inside.{AreKept}
use Rattle.iscsi_target.specs.Laws.{HasCmdSn, FitsNumber, cmd_sn_if, cmd_sn_in, cmd_sn_of}
use Rattle.iscsi_stream.proofs.ReadyLemmas.{and_left}
use Rattle.iscsi_target.proofs.Steps.StepPartLemmas.{Accepts, Immediately, InTurn, Parts, step_parts}
use Rattle.iscsi_target.proofs.Steps.TurnLemmas.{Begins, Turns, begins, turns, with_tasks, done_alone}
use Rattle.iscsi_target.proofs.Queue.AcceptedOrderLaw.{found_tag, same_tasks}
use Rattle.iscsi_target.proofs.Answers.WindowLemmas.{few_more, has_room}
use Rattle.iscsi_target.proofs.Queue.TaskPlaceLemmas.{behind_some}
use Rattle.iscsi_target.proofs.Queue.PendingLemmas.{none_kept, step_kept}
use Rattle.iscsi_target.proofs.Steps.SendingLemmas.{done_tells}

-- at most eight take a place, and the first alone may take none
pub record AreFew (tasks : List Task) : Type 0 where
  pub few : waiting_tasks tasks ≤ 8
  pub places : TakePlaces (tasks_behind tasks)

pub nine : (tasks : List Task) → AreFew tasks → length tasks ≤ 9
nine tasks f = let few = f.few in let more = few_more tasks f.places in omega (arith, few, more)

pub no_few : AreFew []
no_few = record { few = omega arith; places = tt }

more_waits : (task : Task) (more : List Task) (b : Bool) → takes_place task ≡ b → waiting_tasks more ≤ waiting_tasks (task ∷ more)
more_waits task more true e = rw e (omega arith)
more_waits task more false e = rw e (omega arith)

-- without the first
tail_few : (task : Task) (more : List Task) → AreFew (task ∷ more) → AreFew more
tail_few task more f = record {
  few = (let few = f.few in let le = more_waits task more (takes_place task) refl in omega (arith, few, le));
  places = behind_some more f.places;
}

-- with another first, that takes a place only where the first did
head_waits : (v task : Task) (more : List Task) (a b : Bool) → takes_place v ≡ a → takes_place task ≡ b → (a ≡ true → b ≡ true) →
    waiting_tasks (v ∷ more) ≤ waiting_tasks (task ∷ more)
head_waits v task more true true e f h = rw (e, f) (omega arith)
head_waits v task more true false e f h = absurd (let x : false ≡ true = h refl in cc)
head_waits v task more false true e f h = rw (e, f) (omega arith)
head_waits v task more false false e f h = rw (e, f) (omega arith)

head_few : (v task : Task) (more : List Task) → (takes_place v ≡ true → takes_place task ≡ true) → AreFew (task ∷ more) → AreFew (v ∷ more)
head_few v task more h f = record {
  few = (let few = f.few in let le = head_waits v task more (takes_place v) (takes_place task) refl refl h in omega (arith, few, le));
  places = f.places;
}

left_few : (tasks : List Task) (s : SessionState) (b : Bool) → is_closed_phase s.phase ≡ b → AreFew tasks → AreFew (left s tasks)
left_few tasks s true e f = rw e no_few
left_few tasks s false e f = rw e f

left_waits : (tasks : List Task) (s : SessionState) (b : Bool) → is_closed_phase s.phase ≡ b → waiting_tasks (left s tasks) ≤ waiting_tasks tasks
left_waits tasks s true e = rw e (omega arith)
left_waits tasks s false e = rw e (omega arith)

-- ---- the first task

-- what the first task does
record First (s : Machine) (task : Task) (r : TargetStep) : Type 0 where
  pub one : length r.executed ≤ 1
  pub keeps : AreFew (task ∷ s.tasks) → AreFew r.machine.tasks
  pub waits : waiting_tasks r.machine.tasks ≤ waiting_tasks (task ∷ s.tasks)

on_first : (s : Machine) (disk : Disk) (task : Task) (r : Reply) → First s task (on disk s.tasks r)
on_first s disk task r = record {
  one = omega arith;
  keeps = λ f. left_few s.tasks r.session (is_closed_phase r.session.phase) refl (tail_few task s.tasks f);
  waits = (let a = left_waits s.tasks r.session (is_closed_phase r.session.phase) refl in
      let b = more_waits task s.tasks (takes_place task) refl in omega (arith, a, b));
}

-- a write that stays first
waits_first : (s : Machine) (w v : Write) (r : TargetStep) → v.immediate ≡ w.immediate → r.executed ≡ [] →
    r.machine.tasks ≡ Data v ∷ s.tasks → First s (Data w) r
waits_first s w v r same none tasks = record {
  one = subst (λ (es : List Execution). length es ≤ 1) (sym none) (omega arith);
  keeps = λ f. subst AreFew (sym tasks) (head_few (Data v) (Data w) s.tasks (λ e. ap not (sym same) ∙ e) f);
  waits = subst (λ (ts : List Task). waiting_tasks ts ≤ waiting_tasks (Data w ∷ s.tasks)) (sym tasks)
      (head_waits (Data v) (Data w) s.tasks (takes_place (Data v)) (takes_place (Data w)) refl refl (λ e. ap not (sym same) ∙ e));
}

done_first_of : (s : Machine) (task : Task) (r : TargetStep) → length r.executed ≤ 1 → r.machine.tasks ≡ s.tasks → First s task r
done_first_of s task r one tasks = record {
  one = one;
  keeps = λ f. subst AreFew (sym tasks) (tail_few task s.tasks f);
  waits = subst (λ (ts : List Task). waiting_tasks ts ≤ waiting_tasks (task ∷ s.tasks)) (sym tasks) (more_waits task s.tasks (takes_place task) refl);
}

begins_few : Begins (λ device s disk task r. First s task r)
begins_few = record {
  request_ = λ device s disk k. on_first s disk (Request k) _;
  command_ = λ device s disk tag order. done_first_of s (Command tag order) (execute device s disk tag order []) (omega arith) refl;
  write_ = λ device s disk w h. done_first_of s (Data w) (execute device s disk w.initiator_task_tag w.order w.pieces) (omega arith) refl;
  send_r2t_ = λ device s disk w h g. waits_first s w (with_r2t s.session.held w) (send_r2t s disk w) refl refl refl;
  wait_ = λ device s disk w h g. waits_first s w w (unchanged (led_by w s) disk) refl refl refl;
}

begun_few : (device : Device) (s : SessionState) (disk : Disk) (task : Task) (more : List Task) →
    First (with_tasks s more) task (task_begun device (with_tasks s more) disk task)
begun_few device s disk task more = begins (λ device s disk task r. First s task r) begins_few device (with_tasks s more) disk task

-- ---- tasks in their turn

record InTurns (tasks : List Task) (r : TargetStep) : Type 0 where
  pub each : length r.executed ≤ length tasks
  pub keeps : AreFew tasks → AreFew r.machine.tasks
  pub waits : waiting_tasks r.machine.tasks ≤ waiting_tasks tasks

then_few : (task : Task) (more : List Task) (first later : TargetStep) → length first.executed ≤ 1 → InTurns more later →
    InTurns (task ∷ more) (then_stepped first later)
then_few task more first later one u = record {
  each = (let each = u.each in let sum = length-append first.executed later.executed in omega (arith, each, sum, one));
  keeps = λ f. u.keeps (tail_few task more f);
  waits = (let a = u.waits in let b = more_waits task more (takes_place task) refl in omega (arith, a, b));
}

turns_few : Turns (λ device s disk tasks r. InTurns tasks r)
turns_few = record {
  none_ = λ device s disk. record { each = omega arith; keeps = λ f. f; waits = omega arith };
  stop_ = λ device s disk task more why.
      (let b = begun_few device s disk task more in record { each = (let one = b.one in omega (arith, one)); keeps = b.keeps; waits = b.waits });
  then_ = λ device s disk task more b stays live u.
      (let first = begun_few device s disk task more in then_few task more (task_begun device (with_tasks s more) disk task) b first.one u);
}

done_few : (device : Device) (s : SessionState) (disk : Disk) (tasks : List Task) → InTurns tasks (done_in_turn device s disk tasks)
done_few device s disk tasks = turns (λ device s disk tasks r. InTurns tasks r) turns_few device s disk tasks

-- ---- a Data-Out

taken_by : (w v more : Write) (b : Bool) → v.immediate ≡ w.immediate → (if b then Some v else None) ≡ Some more → more.immediate ≡ w.immediate
taken_by w v more true same f = let is : v ≡ more = cc in ap (λ (x : Write). x.immediate) (sym is) ∙ same
taken_by w v more false same f = absurd cc

taken_immediate : (first : ℕ) (w v : Write) (h : DataPdu) (bytes : List ℕ) → data_out_taken first w h bytes ≡ Some v → v.immediate ≡ w.immediate
taken_immediate first w v h bytes e = taken_by w (with_data w h bytes) v (is_in_sequence first w h (bytes_received w + length bytes) w.due) refl e

taken_tag_by : (w v more : Write) (b : Bool) → v.initiator_task_tag ≡ w.initiator_task_tag → (if b then Some v else None) ≡ Some more
    → more.initiator_task_tag ≡ w.initiator_task_tag
taken_tag_by w v more true same f = let is : v ≡ more = cc in ap (λ (x : Write). x.initiator_task_tag) (sym is) ∙ same
taken_tag_by w v more false same f = absurd cc

taken_tag : (first : ℕ) (w v : Write) (h : DataPdu) (bytes : List ℕ) → data_out_taken first w h bytes ≡ Some v → v.initiator_task_tag ≡ w.initiator_task_tag
taken_tag first w v h bytes e = taken_tag_by w (with_data w h bytes) v (is_in_sequence first w h (bytes_received w + length bytes) w.due) refl e

-- the tasks take places as before
pub record AlikeIn (tasks after : List Task) : Type 0 where
  pub size : length after ≡ length tasks
  pub waits : waiting_tasks after ≡ waiting_tasks tasks
  pub places : TakePlaces tasks → TakePlaces after
  pub behind_ : TakePlaces (tasks_behind tasks) → TakePlaces (tasks_behind after)

cons_waits : (a b : Task) (more after : List Task) (t : Bool) → takes_place a ≡ t → takes_place b ≡ t → waiting_tasks after ≡ waiting_tasks more →
    waiting_tasks (b ∷ after) ≡ waiting_tasks (a ∷ more)
cons_waits a b more after true e f same = rw (e, f) (ap (λ (n : ℕ). suc n) same)
cons_waits a b more after false e f same = rw (e, f) same

pub cons_alike : (a b : Task) (more after : List Task) → takes_place b ≡ takes_place a → AlikeIn more after → AlikeIn (a ∷ more) (b ∷ after)
cons_alike a b more after same x = record {
  size = ap (λ (n : ℕ). suc n) x.size;
  waits = cons_waits a b more after (takes_place a) refl same x.waits;
  places = λ p. (same ∙ p.0, x.places p.1);
  behind_ = x.places;
}

pub same_alike : (tasks : List Task) → AlikeIn tasks tasks
same_alike tasks = record { size = refl; waits = refl; places = λ p. p; behind_ = λ p. p }

written_alike : (tasks : List Task) (w v : Write) → write_of tasks v.initiator_task_tag ≡ Some w → v.immediate ≡ w.immediate →
    AlikeIn tasks (with_write v tasks)
written_alike [] w v e same = same_alike []
written_alike (Command t o ∷ more) w v e same = cons_alike (Command t o) (Command t o) more (with_write v more) refl (written_alike more w v e same)
written_alike (Request k ∷ more) w v e same = cons_alike (Request k) (Request k) more (with_write v more) refl (written_alike more w v e same)
written_alike (Data x ∷ more) w v e same =
    by_cases (x.initiator_task_tag == v.initiator_task_tag)
    (λ f.
    let is : x ≡ w = (let g : Some x ≡ Some w = rw f at e in cc) in
    let imm : v.immediate ≡ x.immediate = same ∙ ap (λ (y : Write). y.immediate) (sym is) in
    rw f (cons_alike (Data x) (Data v) more more (ap not imm) (same_alike more)))
    (λ f. rw f (cons_alike (Data x) (Data x) more (with_write v more) refl (written_alike more w v (rw f at e) same)))

-- ---- one PDU

record AtPdu (s : Machine) (m : Message) (r : TargetStep) : Type 0 where
  pub keeps : HasCmdSn m → AreFew s.tasks → AreFew r.machine.tasks
  pub each : HasCmdSn m → AreFew s.tasks → length r.executed ≤ 9

reply_at : (s : Machine) (m : Message) (disk : Disk) (r : Reply) → AtPdu s m (on disk s.tasks r)
reply_at s m disk r = record {
  keeps = λ h f. left_few s.tasks r.session (is_closed_phase r.session.phase) refl f;
  each = λ h f. omega arith;
}

-- tasks that are few are done in their turn
turns_at : (s : Machine) (m : Message) (accepted : List Message) (tasks : List Task) (r : TargetStep) → (HasCmdSn m → AreFew s.tasks → AreFew tasks) →
    InTurns tasks r → AtPdu s m (having_accepted accepted r)
turns_at s m accepted tasks r are u = record {
  keeps = λ h f. u.keeps (are h f);
  each = λ h f. (let each = u.each in let most = nine tasks (are h f) in omega (arith, each, most));
}

taken_few : (s : Machine) (m : Message) (h : DataPdu) (w v : Write) → write_of s.tasks h.initiator_task_tag ≡ Some w
    → data_out_taken (first_burst s.session.held) w h (segment_bytes m.segment) ≡ Some v → AreFew s.tasks → AreFew (with_write v s.tasks)
taken_few s m h w v e t f =
    let tag : h.initiator_task_tag ≡ v.initiator_task_tag = sym (found_tag s.tasks h.initiator_task_tag w e)
    ∙ sym (taken_tag (first_burst s.session.held) w v h (segment_bytes m.segment) t) in
    let x : AlikeIn s.tasks (with_write v s.tasks) = written_alike s.tasks w v (subst (λ (n : ℕ). write_of s.tasks n ≡ Some w) tag e)
    (taken_immediate (first_burst s.session.held) w v h (segment_bytes m.segment) t) in
    record { few = subst (λ (n : ℕ). n ≤ 8) (sym x.waits) f.few; places = x.behind_ f.places }

taken_waits : (s : Machine) (m : Message) (h : DataPdu) (w v : Write) → write_of s.tasks h.initiator_task_tag ≡ Some w
    → data_out_taken (first_burst s.session.held) w h (segment_bytes m.segment) ≡ Some v → waiting_tasks (with_write v s.tasks) ≡ waiting_tasks s.tasks
taken_waits s m h w v e t =
    let tag : h.initiator_task_tag ≡ v.initiator_task_tag = sym (found_tag s.tasks h.initiator_task_tag w e)
    ∙ sym (taken_tag (first_burst s.session.held) w v h (segment_bytes m.segment) t) in
    let x : AlikeIn s.tasks (with_write v s.tasks) = written_alike s.tasks w v (subst (λ (n : ℕ). write_of s.tasks n ≡ Some w) tag e)
    (taken_immediate (first_burst s.session.held) w v h (segment_bytes m.segment) t) in
    x.waits

-- a request that isn't immediate takes a place
planned_place : (h : CommandPdu) (order : Order) (bytes : List ℕ) (plan : Plan) → not h.immediate ≡ true → takes_place (task_planned h order bytes plan) ≡ true
planned_place h order bytes (plans.Take total) e = e
planned_place h order bytes (plans.Refuse sense) e = refl
planned_place h order bytes (plans.Give given) e = refl

asked_place : (unit : Option LogicalUnit) (count : ℕ) (m : Message) (tag : Option ℕ) (other : Bool) (asked : Asks) → asks_at_once other asked ≡ false
    → takes_place (task_by unit count m tag asked) ≡ true
asked_place unit count m tag other (asks.Command h) e =
    planned_place h (order_of unit h) (segment_bytes m.segment) (plan_of (order_of unit h) count) (ap not e)
asked_place unit count m tag other (asks.Session q) e = refl

pub new_place : (unit : Option LogicalUnit) (count : ℕ) (m : Message) (r : InboundRequest) → IsRequest r m.head → r.immediate ≡ false
    → takes_place (task_of unit (presented count m r)) ≡ true
new_place unit count m r is e = asked_place unit count m r.initiator_task_tag r.immediate r.asks (immediate_is m.head r is ∙ e)

one_waits : (task : Task) (b : Bool) → takes_place task ≡ b → waiting_tasks (task ∷ []) ≤ 1
one_waits task true e = rw e (omega arith)
one_waits task false e = rw e (omega arith)

one_few : (task : Task) → AreFew (task ∷ [])
one_few task = record { few = (let one = one_waits task (takes_place task) refl in omega (arith, one)); places = tt }

all_with : (tasks : List Task) (task : Task) → takes_place task ≡ true → TakePlaces tasks → TakePlaces (tasks ++ task ∷ [])
all_with [] task e p = (e, tt)
all_with (first ∷ more) task e p = (p.0, all_with more task e p.1)

places_with : (tasks : List Task) (task : Task) → takes_place task ≡ true → TakePlaces (tasks_behind tasks) → TakePlaces (tasks_behind (tasks ++ task ∷ []))
places_with [] task e p = tt
places_with (first ∷ more) task e p = all_with more task e p

waiting_with : (tasks : List Task) (task : Task) → waiting_tasks (tasks ++ task ∷ []) ≤ waiting_tasks tasks + 1
waiting_with tasks task =
    let sum : waiting_tasks (tasks ++ task ∷ []) ≡ waiting_tasks tasks + waiting_tasks (task ∷ []) =
    ap (λ (ts : List Task). length ts) (filter-append takes_place tasks (task ∷ []))
    ∙ length-append (filter takes_place tasks) (filter takes_place (task ∷ [])) in
    let one = one_waits task (takes_place task) refl in
    omega (arith, sum, one)

room_for : (s : Machine) (n : ℕ) → is_within n s.session.exp_cmd_sn (max_cmd_sn s) ≡ true → s.session.exp_cmd_sn < 2 ^ 32 → waiting_tasks s.tasks ≤ 8 →
    waiting_tasks s.tasks ≤ 7
room_for s n e lt few =
    let near : nat_lt (distance s.session.exp_cmd_sn (max_cmd_sn s)) (2 ^ 31) ≡ true =
    and_left (nat_lt (distance s.session.exp_cmd_sn (max_cmd_sn s)) (2 ^ 31))
    (nat_le (distance s.session.exp_cmd_sn n) (distance s.session.exp_cmd_sn (max_cmd_sn s))) e in
    has_room s.session.exp_cmd_sn (waiting_tasks s.tasks) lt (omega (arith, few))
    (ltb-true (distance s.session.exp_cmd_sn (max_cmd_sn s)) (2 ^ 31) near)

numbered_is : (b : Bool) (k n : ℕ) → cmd_sn_if b k ≡ Some n → b ≡ false
numbered_is false k n e = refl
numbered_is true k n e = absurd cc

admitted_few : (s t : Machine) (m : Message) (count : ℕ) (r : InboundRequest) → IsRequest r m.head → Accepts s m t → HasCmdSn m → AreFew s.tasks
    → AreFew (t.tasks ++ task_of (unit_of t.session) (presented count m r) ∷ [])
admitted_few s _ m count r at (Immediately c none) h f =
    subst (λ (ts : List Task). AreFew (ts ++ task_of (unit_of s.session) (presented count m r) ∷ [])) (sym none)
    (one_few (task_of (unit_of s.session) (presented count m r)))
admitted_few s _ m count r at (InTurn n c w is) h f =
    let fits : FitsNumber (Some n) = subst FitsNumber c h.request in
    let lt : s.session.exp_cmd_sn < 2 ^ 32 = subst (λ (k : ℕ). k < 2 ^ 32) is fits in
    let room : waiting_tasks s.tasks ≤ 7 = room_for s n w lt f.few in
    record {
      few = (let le = waiting_with s.tasks (task_of (unit_of s.session) (presented count m r)) in omega (arith, le, room));
      places = places_with s.tasks (task_of (unit_of s.session) (presented count m r))
          (new_place (unit_of s.session) count m r at (numbered_is r.immediate r.cmd_sn n (sym (ap cmd_sn_in at) ∙ c))) f.places;
    }

parts_few : (device : Device) (disk : Disk) → Parts device disk AtPdu
parts_few device disk = record {
  nothing_ = λ s m c. record { keeps = λ h f. f; each = λ h f. omega arith };
  shut_ = λ s m. record { keeps = λ h f. no_few; each = λ h f. omega arith };
  beside_ = λ s m r a is. reply_at s m disk r;
  reject_and_close_ = λ s rule m. reply_at s m disk (reject_and_close s.session (waiting_tasks s.tasks) rule m);
  login_ = λ s m k. reply_at s m disk (target_login_step s.session m);
  taken_ = λ s m h w v k e t. turns_at s m [] (with_write v s.tasks) (done_in_turn device s.session disk (with_write v s.tasks))
      (λ c f. taken_few s m h w v e t f) (done_few device s.session disk (with_write v s.tasks));
  refused_ = λ s t m rule a x. record {
    keeps = λ h f. left_few t.tasks (reject_and_close t.session (waiting_tasks t.tasks) rule m).session
        (is_closed_phase (reject_and_close t.session (waiting_tasks t.tasks) rule m).session.phase) refl (subst AreFew (sym (same_tasks s t m x)) f);
    each = λ h f. omega arith;
  };
  admitted_ = λ s t m a x r is b. turns_at s m (m ∷ []) (t.tasks ++ task_of (unit_of t.session) (presented disk.count m r) ∷ [])
      (done_in_turn device t.session disk (t.tasks ++ task_of (unit_of t.session) (presented disk.count m r) ∷ []))
      (λ h f. admitted_few s t m disk.count r is x h f)
      (done_few device t.session disk (t.tasks ++ task_of (unit_of t.session) (presented disk.count m r) ∷ []));
}

step_few : (device : Device) (disk : Disk) (s : Machine) (m : Message) → AtPdu s m (step_on device s disk m)
step_few device disk s m = step_parts device disk AtPdu (parts_few device disk) s m

-- ---- PDUs one after another

pub record AtPdus (ms : List Message) (r : TargetStep) : Type 0 where
  pub keeps : AreFew r.machine.tasks
  pub each : length r.executed ≤ 9 * length ms

pub may_few : (protected : Bool) (s : Machine) (disk : Disk) (before after : ℕ) (ms : List Message) (r : TargetStep)
    → MayAnswer protected s disk before ms r after →
    AllByRecursion HasCmdSn ms → AreFew s.tasks → AtPdus ms r
unfolding MayAnswer
may_few protected s disk before after [] r e all f =
    subst (λ (x : TargetStep). AtPdus [] x) (sym e.0) (record { keeps = f; each = omega arith })
may_few protected s disk before after (m ∷ ms) r e all f =
    let first : AtPdu s m e.0 = subst (λ (x : TargetStep). AtPdu s m x) (sym e.3.is) (step_few e.3.device disk s m) in
    let later : AtPdus ms e.1 = may_few protected e.0.machine e.0.disk e.2 after ms e.1 e.4 all.1 (first.keeps all.0 f) in
    subst (λ (x : TargetStep). AtPdus (m ∷ ms) x) (sym e.5) (record {
      keeps = later.keeps;
      each = (let one = first.each all.0 f in let more = later.each in let sum = length-append e.0.executed e.1.executed in omega (arith, one, more, sum));
    })

-- ---- what messages leave

pub queue_of : (protected : Bool) (s : Machine) (disk : Disk) (ms : List Message) → AllByRecursion HasCmdSn ms → AreFew s.tasks → AreKept s.tasks →
    IsQueue (answers protected s disk ms).machine.tasks
unfolding answers
queue_of protected s disk [] all f k = record { few = f.few; places = f.places; pending = k.pending; unasked = k.unasked }
queue_of protected s disk (m ∷ ms) all f k =
    queue_of protected (target_step protected s disk m).machine (target_step protected s disk m).disk ms all.1
    ((step_few (reliable protected) disk s m).keeps all.0 f)
    (step_kept (reliable protected) s disk m k)

pub opening_queue : (protected : Bool) (settings : TargetSettings) (n : ℕ) (disk : Disk) (ms : List Message) → AllByRecursion HasCmdSn ms →
    IsQueue (answers protected (opening_machine settings n) disk ms).machine.tasks
opening_queue protected settings n disk ms all = queue_of protected (opening_machine settings n) disk ms all no_few none_kept

-- ---- MaxCmdSN

-- ExpCmdSN stays, and no more wait; or it goes on by one, and one more waits at most
record Rises (s : Machine) (r : TargetStep) : Type 0 where
  live : is_machine_closed r.machine ≡ false → s.session.phase ≡ phases.Full →
      ((r.machine.session.exp_cmd_sn ≡ s.session.exp_cmd_sn) × (waiting_tasks r.machine.tasks ≤ waiting_tasks s.tasks))
      ⊎ ((r.machine.session.exp_cmd_sn ≡ next_sn s.session.exp_cmd_sn) × (waiting_tasks r.machine.tasks ≤ waiting_tasks s.tasks + 1))

-- the only task is of an immediate request, which takes no place
abbrev IsImmediate : Task → Type 0
IsImmediate (Data w) = w.immediate ≡ true
IsImmediate _ = Unit {0}

immediate_if : (b : Bool) (n : ℕ) → cmd_sn_if b n ≡ None → b ≡ true
immediate_if true n e = refl
immediate_if false n e = absurd cc

no_place : (w : Write) → w.immediate ≡ true → waiting_tasks (Data w ∷ []) ≡ 0
no_place w e = rw e refl

none_waits : (tasks : List Task) → tasks ≡ [] → waiting_tasks tasks ≡ 0
none_waits tasks e = ap waiting_tasks e

left_none : (tasks : List Task) (s : SessionState) (b : Bool) → is_closed_phase s.phase ≡ b → tasks ≡ [] → waiting_tasks (left s tasks) ≡ 0
left_none tasks s true e none = rw e refl
left_none tasks s false e none = rw e (none_waits tasks none)

stays_first : (w : Write) (tasks : List Task) → tasks ≡ [] → w.immediate ≡ true → waiting_tasks (Data w ∷ tasks) ≡ 0
stays_first w tasks none i = ap (λ (ts : List Task). waiting_tasks (Data w ∷ ts)) none ∙ no_place w i

begins_alone : Begins (λ device s disk task r. s.tasks ≡ [] → IsImmediate task → waiting_tasks r.machine.tasks ≡ 0)
begins_alone = record {
  request_ = λ device s disk k e i.
      (let r : Reply = request_answered s.session (waiting_tasks s.tasks) k.message k.request in left_none s.tasks r.session
      (is_closed_phase r.session.phase) refl e);
  command_ = λ device s disk tag order e i. none_waits s.tasks e;
  write_ = λ device s disk w h e i. none_waits s.tasks e;
  send_r2t_ = λ device s disk w h g e i. stays_first (with_r2t s.session.held w) s.tasks e i;
  wait_ = λ device s disk w h g e i. stays_first w s.tasks e i;
}

planned_immediate : (h : CommandPdu) (order : Order) (bytes : List ℕ) (plan : Plan) → h.immediate ≡ true → IsImmediate (task_planned h order bytes plan)
planned_immediate h order bytes (plans.Take total) i = i
planned_immediate h order bytes (plans.Refuse sense) i = tt
planned_immediate h order bytes (plans.Give given) i = tt

asked_immediate : (unit : Option LogicalUnit) (count : ℕ) (m : Message) (tag : Option ℕ) (other : Bool) (asked : Asks) → asks_at_once other asked ≡ true
    → IsImmediate (task_by unit count m tag asked)
asked_immediate unit count m tag other (asks.Command h) e =
    planned_immediate h (order_of unit h) (segment_bytes m.segment) (plan_of (order_of unit h) count) e
asked_immediate unit count m tag other (asks.Session q) e = tt

task_immediate : (unit : Option LogicalUnit) (count : ℕ) (m : Message) (r : InboundRequest) → IsRequest r m.head → cmd_sn_of m.head ≡ None
    → IsImmediate (task_of unit (presented count m r))
task_immediate unit count m r is e =
    asked_immediate unit count m r.initiator_task_tag r.immediate r.asks
    (immediate_is m.head r is ∙ immediate_if r.immediate r.cmd_sn (sym (ap cmd_sn_in is) ∙ e))

alone_waits : (device : Device) (s : SessionState) (disk : Disk) (tasks : List Task) (task : Task) → tasks ≡ [] → IsImmediate task →
    waiting_tasks (done_in_turn device s disk (tasks ++ task ∷ [])).machine.tasks ≡ 0
alone_waits device s disk tasks task none i =
    ap (λ (ts : List Task). waiting_tasks (done_in_turn device s disk (ts ++ task ∷ [])).machine.tasks) none
    ∙ ap (λ (r : TargetStep). waiting_tasks r.machine.tasks) (done_alone device s disk task)
    ∙ begins (λ device s disk task r. s.tasks ≡ [] → IsImmediate task → waiting_tasks r.machine.tasks ≡ 0) begins_alone device (with_tasks s []) disk task refl
    i

reply_rises : (s : Machine) (disk : Disk) (r : Reply) → (is_closed_phase r.session.phase ≡ false → r.session.exp_cmd_sn ≡ s.session.exp_cmd_sn) →
    Rises s (on disk s.tasks r)
reply_rises s disk r same = record {
  live = λ open_ full. inl (same open_, left_waits s.tasks r.session (is_closed_phase r.session.phase) refl);
}

admitted_rises : (device : Device) (s t : Machine) (m : Message) (disk : Disk) (r : InboundRequest) → IsRequest r m.head → Accepts s m t →
    Rises s (having_accepted (m ∷ []) (done_in_turn device t.session disk (t.tasks ++ task_of (unit_of t.session) (presented disk.count m r) ∷ [])))
admitted_rises device s _ m disk r at (Immediately c none) = record {
  live = λ open_ full. inl (
    ((done_tells device s.session disk (s.tasks ++ task_of (unit_of s.session) (presented disk.count m r) ∷ [])).live open_).1,
    (let none_ = alone_waits device s.session disk s.tasks (task_of (unit_of s.session) (presented disk.count m r)) none
        (task_immediate (unit_of s.session) disk.count m r at c) in
        omega (arith, none_)),
  );
}
admitted_rises device s _ m disk r at (InTurn n c w is) = record {
  live = λ open_ full. inr (
    ((done_tells device (advanced s).session disk (s.tasks ++ task_of (unit_of s.session) (presented disk.count m r) ∷ [])).live open_).1,
    (let a = (done_few device (advanced s).session disk (s.tasks ++ task_of (unit_of s.session) (presented disk.count m r) ∷ [])).waits in
        let b = waiting_with s.tasks (task_of (unit_of s.session) (presented disk.count m r)) in omega (arith, a, b)),
  );
}

parts_rise : (device : Device) (disk : Disk) → Parts device disk (λ s m r. Rises s r)
parts_rise device disk = record {
  nothing_ = λ s m c. record { live = λ open_ full. inl (refl, omega arith) };
  shut_ = λ s m. record { live = λ open_ full. absurd cc };
  beside_ = λ s m r a is. reply_rises s disk r (λ open_. (is.reply.live open_).1);
  reject_and_close_ = λ s rule m. record { live = λ open_ full. absurd cc };
  login_ = λ s m k. record { live = λ open_ full. absurd (let e : phases.Login ≡ phases.Full = sym k ∙ full in cc) };
  taken_ = λ s m h w v k e t. record {
    live = λ open_ full. inl (
      ((done_tells device s.session disk (with_write v s.tasks)).live open_).1,
      (let a = (done_few device s.session disk (with_write v s.tasks)).waits in let b = taken_waits s m h w v e t in omega (arith, a, b)),
    );
  };
  refused_ = λ s t m rule a x. record { live = λ open_ full. absurd cc };
  admitted_ = λ s t m a x r is b. admitted_rises device s t m disk r is x;
}

-- the window, one step and another
window_rises : (exp now waits after : ℕ) → exp < 2 ^ 32 → waits ≤ 8 → ((now ≡ exp) × (after ≤ waits)) ⊎ ((now ≡ next_sn exp) × (after ≤ waits + 1))
    → distance ((exp + (2 ^ 32 + 7 - waits)) % 2 ^ 32) ((now + (2 ^ 32 + 7 - after)) % 2 ^ 32) < 2 ^ 31
window_rises exp now waits after lt few (inl h) = let e = h.0 in let le = h.1 in omega (arith, lt, few, e, le)
window_rises exp now waits after lt few (inr h) = let e = h.0 in let le = h.1 in omega (arith, lt, few, e, le)

pub step_rises : (protected : Bool) (s : Machine) (disk : Disk) (m : Message) → s.session.exp_cmd_sn < 2 ^ 32 → waiting_tasks s.tasks ≤ 8
    → s.session.phase ≡ phases.Full →
    is_machine_closed (target_step protected s disk m).machine ≡ false → IsNotBefore (max_cmd_sn s) (max_cmd_sn (target_step protected s disk m).machine)
step_rises protected s disk m lt f full open_ =
    let r : Rises s (target_step protected s disk m) = step_parts (reliable protected) disk (λ s m r. Rises s r) (parts_rise (reliable protected) disk) s m in
    window_rises s.session.exp_cmd_sn (target_step protected s disk m).machine.session.exp_cmd_sn (waiting_tasks s.tasks)
    (waiting_tasks (target_step protected s disk m).machine.tasks) lt f
    (r.live open_ full)

-- Steps of a session with the pieces of each of its writes joined.
use Rattle.std.proofs.Common.{◌≡◌, ℕ, zero, suc, ◌+◌, ◌-◌, min, List, [], ◌∷◌, ◌++◌, Bool, true, false, length, Option, Some, None, refl, sym, ap, ◌∙◌, subst}
use Rattle.std.proofs.Common.{map}
use Rattle.std.specs.Prelude.{◌==◌, ◌&&◌, ◌||◌, not, nat_lt, filter, if◌then◌else◌, option_map, is_some}
use Rattle.std.proofs.lemmas.List.{map-append, length-map}
use Rattle.scsi_disk.specs.Effect.{Effect}
use Rattle.scsi_disk.specs.Disk.{Disk}
use Rattle.scsi_disk.specs.declared.order.Order.{Order}
use Rattle.iscsi_pdu.specs.declared.head.Head.TheVariants.{ReadyToTransfer}
use Rattle.iscsi_pdu.specs.declared.head.data_out.DataOut.{DataOut as DataPdu}
use Rattle.iscsi_pdu.specs.declared.head.task_request.TaskRequest.{TaskRequest as TaskPdu}
use Rattle.iscsi_stream.specs.Segment.{segment_bytes}
use Rattle.iscsi_stream.specs.Stream.{Message}
use Rattle.iscsi_login.specs.declared.phase.Phase.{Phase}
use Rattle.iscsi_login.specs.declared.phase.Phase.TheVariants.{Login, Full, Closed}
use Rattle.iscsi_login.specs.Held.{first_burst, max_burst}
use Rattle.iscsi_target_session.specs.Session.{Session, Reply, answer_message, stat_sn_advanced, max_cmd_sn_with}
use Rattle.iscsi_target.specs.Write.{Write}
use Rattle.iscsi_target.specs.declared.tasks.Task.{Task}
use Rattle.iscsi_target.specs.declared.tasks.Task.TheVariants.{Command, Data, Request}
use Rattle.iscsi_target_session.specs.Inbound.{inbound}
use Rattle.iscsi_target_session.specs.declared.inbound.Inbound.{Inbound}
use Rattle.iscsi_target_session.specs.declared.inbound.Inbound.TheVariants as inbounds
use Rattle.iscsi_target_session.specs.declared.inbound.InboundRequest.{InboundRequest}
use Rattle.iscsi_target_session.specs.declared.inbound.Asks.{Asks}
use Rattle.iscsi_target_session.specs.declared.inbound.Asks.TheVariants as asks
use Rattle.iscsi_target_session.specs.declared.inbound.SessionRequest.TheVariants as requests
use Rattle.iscsi_target.specs.State.{Machine, Execution, TargetStep, on, unchanged, waiting_tasks, takes_place, max_cmd_sn, unit_of}
use Rattle.iscsi_login.specs.Stage.{is_closed_phase}
use Rattle.iscsi_stream.specs.Pieces.{Pieces, piece_data}
use Rattle.iscsi_pdu.specs.Serial.{is_within}
use Rattle.iscsi_pdu.specs.Fields.{reserved_tag}
use Rattle.iscsi_target_session.specs.Rejecting.{message_rejected, reject_and_close}
use Rattle.iscsi_pdu.specs.Rules.{kind_not_due, segment_too_long, data_out_of_order, command_out_of_turn, too_many_immediate}
use Rattle.iscsi_target_session.specs.Login.{target_login_step}
use Rattle.iscsi_target.specs.Transfer.{with_piece, with_data, is_in_sequence, bytes_received, is_nothing_due, joined_write, is_unsolicited_piece, is_solicited_piece}
use Rattle.iscsi_target.specs.Transfer.{unsolicited_end}
use Rattle.iscsi_target.specs.State.{joined_task, writes_joined}
use Rattle.iscsi_target.specs.declared.due.Due.{Due}
use Rattle.iscsi_target.specs.declared.due.Due.TheVariants.{Nothing, Unsolicited, Solicited}
use Rattle.iscsi_target.specs.Execution.{Device, device_next, device_after, execute, command_answers, data_in_parts, reliable, as_told}
use Rattle.iscsi_target.specs.Command.{proceed, breaks_rules, send_r2t, led_by, task_of, presented}
use Rattle.iscsi_target.specs.Machine.{Next, Met, Dropped, Answered, Queued, plainly, accepting, broken, next_step, having_accepted, task_begun, stays, is_busy}
use Rattle.iscsi_target.specs.Machine.{done_in_turn, done_first, target_step, answers, then_stepped, step_on, phase_step, target_full_step, full_met, inbound_met, due_met, immediate_request, request_in_turn, may_come}
use Rattle.iscsi_target.specs.Machine.{admitted, advanced, write_of, with_write, data_for, data_taken, on_data_out, task_tag, is_same_tag}
use Rattle.iscsi_target.specs.Machine.{beside as reply_beside, no_room, answered_beside, is_meant}
use Rattle.iscsi_target.specs.Machine.{is_tag_of, is_segment_too_long, is_over_limit, is_machine_closed}
use Rattle.iscsi_target_session.specs.Requests.{on_nop_out, on_task_request, request_answered}
use Rattle.iscsi_target.specs.Laws.{joined_execution, joined_stepped}
use Rattle.iscsi_target_session.proofs.CaseLemmas.{by_cases}
use Rattle.iscsi_target.proofs.Steps.TurnLemmas.{with_tasks}
use Rattle.iscsi_target.proofs.Writes.OpenWriteLemmas.{data_of_one, data_with}

-- ---- tasks and the same with the pieces of each write joined

abbrev pub ones : List Task → List Task
ones tasks = map joined_task tasks

pub idem : (w : Write) → joined_write (joined_write w) ≡ joined_write w
idem w = ap (λ (bytes : List ℕ). record w { pieces = with_piece [] 0 bytes }) (data_of_one (piece_data w.pieces))

task_twice : (task : Task) → joined_task (joined_task task) ≡ joined_task task
task_twice (Command tag order) = refl
task_twice (Request k) = refl
task_twice (Data w) = ap Data (idem w)

pub joined_twice : (tasks : List Task) → ones (ones tasks) ≡ ones tasks
joined_twice [] = refl
joined_twice (task ∷ more) = λ i. task_twice task i ∷ joined_twice more i

-- one more waits, or the same number
waits_more : (a b : Bool) (t u : Task) (ts us : List Task) → a ≡ b → length ts ≡ length us → length (if a then t ∷ ts else ts)
    ≡ length (if b then u ∷ us else us)
waits_more true true t u ts us e f = ap (λ (n : ℕ). suc n) f
waits_more false false t u ts us e f = f
waits_more true false t u ts us e f = absurd cc
waits_more false true t u ts us e f = absurd cc

pub same_place : (task : Task) → takes_place (joined_task task) ≡ takes_place task
same_place (Command tag order) = refl
same_place (Request k) = refl
same_place (Data w) = refl

pub waits_same : (tasks : List Task) → waiting_tasks (ones tasks) ≡ waiting_tasks tasks
waits_same [] = refl
waits_same (task ∷ more) = waits_more (takes_place (joined_task task)) (takes_place task) (joined_task task) task (filter takes_place (ones more))
    (filter takes_place more) (same_place task) (waits_same more)

-- tasks that are the same with their pieces joined, and as many wait
record Beside (ts us : List Task) : Type 0 where
  is : ones ts ≡ ones us
  waits : waiting_tasks ts ≡ waiting_tasks us

beside : (tasks : List Task) → Beside (ones tasks) tasks
beside tasks = record { is = joined_twice tasks; waits = waits_same tasks }

pub record Same (a b : TargetStep) : Type 0 where
  pub is : joined_stepped a ≡ joined_stepped b

-- ---- the first task

on_by : (disk : Disk) (r : Reply) (ts us : List Task) (over : Bool) → ones ts ≡ ones us
    → joined_stepped (record (on disk [] r) { machine = record { session = r.session; tasks = if over then [] else ts } })
    ≡ joined_stepped (record (on disk [] r) { machine = record { session = r.session; tasks = if over then [] else us } })
on_by disk r ts us true e = refl
on_by disk r ts us false e = ap (λ (x : List Task). record (on disk [] r) { machine = record { session = r.session; tasks = x } }) e

on_same : (disk : Disk) (r : Reply) (ts us : List Task) → ones ts ≡ ones us → Same (on disk ts r) (on disk us r)
on_same disk r ts us e = record { is = on_by disk r ts us (is_closed_phase r.session.phase) e }

-- a reply that says how many wait
reply_same : (disk : Disk) (reply : ℕ → Reply) (ts us : List Task) → Beside ts us
    → Same (on disk ts (reply (waiting_tasks ts))) (on disk us (reply (waiting_tasks us)))
reply_same disk reply ts us b = subst (λ (n : ℕ). Same (on disk ts (reply (waiting_tasks ts))) (on disk us (reply n))) b.waits
    (on_same disk (reply (waiting_tasks ts)) ts us b.is)

-- what an execution leaves, by the bytes, the tasks behind it and how many wait
abbrev executed_with : Device → Session → Disk → ℕ → Order → ℕ → List Task → List ℕ → TargetStep
executed_with device s disk tag order n tasks bytes = record {
  machine = record { session = stat_sn_advanced s; tasks = tasks };
  disk = (device 0 disk order bytes).disk;
  answers =
      let e : Effect = as_told (unit_of s) disk.count order (device 0 disk order bytes) in
      command_answers s n tag e.outcome (data_in_parts s e.outcome.bytes);
  rule = None;
  accepted = [];
  executed = record {
    initiator_task_tag = tag;
    disk = disk;
    unit = s.settings.extras.unit;
    order = order;
    pieces = with_piece [] 0 bytes;
  } ∷ [];
}

executed_as : (device : Device) (s : Session) (disk : Disk) (tag : ℕ) (order : Order) (ts : List Task) (x : Pieces)
    → joined_stepped (execute device (with_tasks s ts) disk tag order x) ≡ executed_with device s disk tag order (waiting_tasks ts) (ones ts) (piece_data x)
executed_as device s disk tag order ts x = refl

execute_same : (device : Device) (s : Session) (disk : Disk) (tag : ℕ) (order : Order) (ts us : List Task) (x y : Pieces) → Beside ts us → piece_data x
    ≡ piece_data y
    → Same (execute device (with_tasks s ts) disk tag order x) (execute device (with_tasks s us) disk tag order y)
execute_same device s disk tag order ts us x y b e = record {
  is = executed_as device s disk tag order ts x ∙ (λ i. executed_with device s disk tag order (b.waits i) (b.is i) (e i))
      ∙ sym (executed_as device s disk tag order us y);
}

-- what an R2T for a write with these bytes leaves
abbrev asked_with : Session → Disk → Write → ℕ → List Task → List ℕ → TargetStep
asked_with s disk v n tasks bytes = record (unchanged (with_tasks s (Data (record v {
  pieces = with_piece [] 0 bytes;
  due = Solicited v.r2t_count 0 (length bytes + min (v.total - length bytes) (max_burst s.held));
  r2t_count = v.r2t_count + 1;
}) ∷ tasks)) disk) {
  answers = answer_message (ReadyToTransfer (record {
    lun = v.order.lun;
    initiator_task_tag = v.initiator_task_tag;
    target_transfer_tag = v.r2t_count;
    stat_sn = s.stat_sn;
    exp_cmd_sn = s.exp_cmd_sn;
    max_cmd_sn = max_cmd_sn_with s n;
    r2t_sn = v.r2t_count;
    buffer_offset = length bytes;
    desired_data_transfer_length = min (v.total - length bytes) (max_burst s.held);
  })) [] ∷ [];
}

asked_as : (s : Session) (disk : Disk) (v : Write) (ts : List Task) (x : Pieces)
    → joined_stepped (send_r2t (with_tasks s ts) disk (record v { pieces = x }))
    ≡ asked_with s disk v (waiting_tasks (Data (record v { pieces = x }) ∷ ts)) (ones ts) (piece_data x)
asked_as s disk v ts x = refl

led_waits : (v : Write) (ts us : List Task) (x y : Pieces) → waiting_tasks ts ≡ waiting_tasks us → waiting_tasks (Data (record v { pieces = x }) ∷ ts)
    ≡ waiting_tasks (Data (record v { pieces = y }) ∷ us)
led_waits v ts us x y e = waits_more (not v.immediate) (not v.immediate) (Data (record v { pieces = x })) (Data (record v { pieces = y }))
    (filter takes_place ts) (filter takes_place us) refl e

proceed_by : (device : Device) (s : Session) (disk : Disk) (v : Write) (ts us : List Task) (x y : Pieces) (a b idle : Bool) → Beside ts us → piece_data x
    ≡ piece_data y → a ≡ b
    → Same (if a then execute device (with_tasks s ts) disk v.initiator_task_tag v.order x
    else if idle then send_r2t (with_tasks s ts) disk (record v { pieces = x }) else unchanged (led_by (record v { pieces = x }) (with_tasks s ts)) disk)
    (if b then execute device (with_tasks s us) disk v.initiator_task_tag v.order y
    else if idle then send_r2t (with_tasks s us) disk (record v { pieces = y }) else unchanged (led_by (record v { pieces = y }) (with_tasks s us)) disk)
proceed_by device s disk v ts us x y true true idle c e t = execute_same device s disk v.initiator_task_tag v.order ts us x y c e
proceed_by device s disk v ts us x y true false idle c e t = absurd cc
proceed_by device s disk v ts us x y false true idle c e t = absurd cc
proceed_by device s disk v ts us x y false false true c e t = record {
  is = asked_as s disk v ts x ∙ (λ i. asked_with s disk v (led_waits v ts us x y c.waits i) (c.is i) (e i)) ∙ sym (asked_as s disk v us y);
}
proceed_by device s disk v ts us x y false false false c e t = record {
  is = λ i. unchanged (with_tasks s (Data (record v { pieces = with_piece [] 0 (e i) }) ∷ c.is i)) disk;
}

proceed_same : (device : Device) (s : Session) (disk : Disk) (v : Write) (ts us : List Task) (x y : Pieces) → Beside ts us → piece_data x ≡ piece_data y
    → Same (proceed device (with_tasks s ts) disk (record v { pieces = x })) (proceed device (with_tasks s us) disk (record v { pieces = y }))
proceed_same device s disk v ts us x y c e =
    proceed_by device s disk v ts us x y (v.total == length (piece_data x)) (v.total == length (piece_data y))
    (is_nothing_due v.due) c e (ap (λ (bytes : List ℕ). v.total == length bytes) e)

begun_same : (device : Device) (s : Session) (disk : Disk) (ts us : List Task) (task : Task) → Beside ts us
    → Same (task_begun device (with_tasks s ts) disk (joined_task task)) (task_begun device (with_tasks s us) disk task)
begun_same device s disk ts us (Command tag order) c = execute_same device s disk tag order ts us [] [] c refl
begun_same device s disk ts us (Request k) c = reply_same disk (λ n. request_answered s n k.message k.request) ts us c
begun_same device s disk ts us (Data w) c = proceed_same device s disk w ts us (joined_write w).pieces w.pieces c (data_of_one (piece_data w.pieces))

-- ---- tasks in their turn

pub joined_then : (a b : TargetStep) → joined_stepped (then_stepped a b) ≡ then_stepped (joined_stepped a) (joined_stepped b)
joined_then a b = ap (λ (es : List Execution). record (then_stepped (joined_stepped a) (joined_stepped b)) { executed = es })
    (map-append joined_execution a.executed b.executed)

after_joined : (es : List Execution) (device : Device) → device_after (map joined_execution es) device ≡ device_after es device
after_joined [] device = refl
after_joined (e ∷ es) device = after_joined es (device_next device)

after_same : (a b : TargetStep) (device : Device) → Same a b → device_after a.executed device ≡ device_after b.executed device
after_same a b device h = sym (after_joined a.executed device) ∙ ap (λ (r : TargetStep). device_after r.executed device) h.is ∙ after_joined b.executed device

pub size_same : (ts us : List Task) → ones ts ≡ ones us → length ts ≡ length us
size_same ts us e = sym (length-map ts joined_task) ∙ ap (λ (xs : List Task). length xs) e ∙ length-map us joined_task

busy_same : (tasks : List Task) → is_busy (ones tasks) ≡ is_busy tasks
busy_same [] = refl
busy_same (task ∷ more) = refl

stops_same : (more : List Task) (a b : TargetStep) → Same a b → (stays (ones more) a || is_machine_closed a.machine)
    ≡ (stays more b || is_machine_closed b.machine)
stops_same more a b h =
    let size : length a.machine.tasks ≡ length b.machine.tasks = size_same a.machine.tasks b.machine.tasks (ap (λ (r : TargetStep). r.machine.tasks) h.is) in
    λ i. nat_lt (length-map more joined_task i) (size i) || is_closed_phase (h.is i).machine.session.phase

done_by : (device : Device) (more : List Task) (a b : TargetStep) (x y : Bool) → x ≡ y → Same a b
    → Same (done_in_turn (device_after a.executed device) a.machine.session a.disk (ones more))
    (done_in_turn (device_after a.executed device) a.machine.session a.disk more)
    → Same (if x then a else then_stepped a (done_in_turn (device_after a.executed device) a.machine.session a.disk (ones more)))
    (if y then b else then_stepped b (done_in_turn (device_after b.executed device) b.machine.session b.disk more))
done_by device more a b true true e h rest = h
done_by device more a b true false e h rest = absurd cc
done_by device more a b false true e h rest = absurd cc
done_by device more a b false false e h rest =
    let dev = after_same a b device h in
    let r : TargetStep = done_in_turn (device_after a.executed device) a.machine.session a.disk (ones more) in
    let q : joined_stepped r ≡ joined_stepped (done_in_turn (device_after b.executed device) b.machine.session b.disk more) =
    rest.is ∙ (λ i. joined_stepped (done_in_turn (dev i) (h.is i).machine.session (h.is i).disk more)) in
    record {
      is = joined_then a r ∙ (λ i. then_stepped (h.is i) (q i)) ∙ sym (joined_then b
          (done_in_turn (device_after b.executed device) b.machine.session b.disk more));
    }

done_joined : (device : Device) (s : Session) (disk : Disk) (tasks : List Task) →
    Same (done_in_turn device s disk (ones tasks)) (done_in_turn device s disk tasks)
unfolding done_first
done_joined device s disk [] = record { is = refl }
done_joined device s disk (task ∷ more) =
    let a : TargetStep = task_begun device (with_tasks s (ones more)) disk (joined_task task) in
    let b : TargetStep = task_begun device (with_tasks s more) disk task in
    let h : Same a b = begun_same device s disk (ones more) more task (beside more) in
    done_by device more a b (stays (ones more) a || is_machine_closed a.machine) (stays more b || is_machine_closed b.machine) (stops_same more a b h) h
    (done_joined (device_after a.executed device) a.machine.session a.disk more)

pub done_same : (device : Device) (s : Session) (disk : Disk) (ts us : List Task) → ones ts ≡ ones us →
    Same (done_in_turn device s disk ts) (done_in_turn device s disk us)
done_same device s disk ts us e = record {
  is = sym (done_joined device s disk ts).is ∙ ap (λ (x : List Task). joined_stepped (done_in_turn device s disk x)) e ∙ (done_joined device s disk us).is;
}

-- the same of the first of them

first_by : (k : ℕ) (device : Device) (more : List Task) (a b : TargetStep) (x y : Bool) → x ≡ y → Same a b
    → Same (done_first k (device_after a.executed device) a.machine.session a.disk (ones more))
    (done_first k (device_after a.executed device) a.machine.session a.disk more)
    → Same (if x then a else then_stepped a (done_first k (device_after a.executed device) a.machine.session a.disk (ones more)))
    (if y then b else then_stepped b (done_first k (device_after b.executed device) b.machine.session b.disk more))
first_by k device more a b true true e h rest = h
first_by k device more a b true false e h rest = absurd cc
first_by k device more a b false true e h rest = absurd cc
first_by k device more a b false false e h rest =
    let dev = after_same a b device h in
    let r : TargetStep = done_first k (device_after a.executed device) a.machine.session a.disk (ones more) in
    let q : joined_stepped r ≡ joined_stepped (done_first k (device_after b.executed device) b.machine.session b.disk more) =
    rest.is ∙ (λ i. joined_stepped (done_first k (dev i) (h.is i).machine.session (h.is i).disk more)) in
    record {
      is = joined_then a r ∙ (λ i. then_stepped (h.is i) (q i)) ∙ sym (joined_then b
          (done_first k (device_after b.executed device) b.machine.session b.disk more));
    }

stay_same : (more : List Task) (a b : TargetStep) → Same a b → (stays (ones more) a || is_machine_closed a.machine)
    ≡ (stays more b || is_machine_closed b.machine)
stay_same more a b h =
    let size : length a.machine.tasks ≡ length b.machine.tasks = size_same a.machine.tasks b.machine.tasks (ap (λ (r : TargetStep). r.machine.tasks) h.is) in
    λ i. nat_lt (length-map more joined_task i) (size i) || is_closed_phase (h.is i).machine.session.phase

first_joined : (k : ℕ) (device : Device) (s : Session) (disk : Disk) (tasks : List Task) →
    Same (done_first k device s disk (ones tasks)) (done_first k device s disk tasks)
unfolding done_first
first_joined zero device s disk tasks = record { is = ap (λ (ts : List Task). unchanged (with_tasks s ts) disk) (joined_twice tasks) }
first_joined (suc k) device s disk [] = record { is = refl }
first_joined (suc k) device s disk (task ∷ more) =
    let a : TargetStep = task_begun device (with_tasks s (ones more)) disk (joined_task task) in
    let b : TargetStep = task_begun device (with_tasks s more) disk task in
    let h : Same a b = begun_same device s disk (ones more) more task (beside more) in
    first_by k device more a b (stays (ones more) a || is_machine_closed a.machine) (stays more b || is_machine_closed b.machine) (stay_same more a b h) h
    (first_joined k (device_after a.executed device) a.machine.session a.disk more)

pub first_same : (k : ℕ) (device : Device) (s : Session) (disk : Disk) (ts us : List Task) → ones ts ≡ ones us →
    Same (done_first k device s disk ts) (done_first k device s disk us)
first_same k device s disk ts us e = record {
  is = sym (first_joined k device s disk ts).is ∙ ap (λ (x : List Task). joined_stepped (done_first k device s disk x)) e
      ∙ (first_joined k device s disk us).is;
}

-- ---- what comes of a PDU

abbrev pub SameNext : Next → Next → Type 0
SameNext Dropped Dropped = Unit {0}
SameNext (Answered r) (Answered q) = r ≡ q
SameNext (Queued s ts) (Queued t us) = (s ≡ t) × (ones ts ≡ ones us)
SameNext _ _ = ⊥

pub record SameMet (x y : Met) : Type 0 where
  pub accepted : x.accepted ≡ y.accepted
  pub next : SameNext x.next y.next

pub next_back : (x y : Next) → SameNext x y → SameNext y x
next_back Dropped Dropped h = tt
next_back (Answered r) (Answered q) h = sym h
next_back (Queued s ts) (Queued t us) h = (sym h.0, sym h.1)
next_back Dropped (Answered q) h = absurd h
next_back Dropped (Queued t us) h = absurd h
next_back (Answered r) Dropped h = absurd h
next_back (Answered r) (Queued t us) h = absurd h
next_back (Queued s ts) Dropped h = absurd h
next_back (Queued s ts) (Answered q) h = absurd h

pub next_then : (x y z : Next) → SameNext x y → SameNext y z → SameNext x z
next_then Dropped Dropped z h k = k
next_then (Answered r) (Answered q) z h k = subst (λ (a : Reply). SameNext (Answered a) z) (sym h) k
next_then (Queued s ts) (Queued t us) (Queued v ws) h k = (h.0 ∙ k.0, h.1 ∙ k.1)
next_then (Queued s ts) (Queued t us) Dropped h k = absurd k
next_then (Queued s ts) (Queued t us) (Answered q) h k = absurd k
next_then Dropped (Answered q) z h k = absurd h
next_then Dropped (Queued t us) z h k = absurd h
next_then (Answered r) Dropped z h k = absurd h
next_then (Answered r) (Queued t us) z h k = absurd h
next_then (Queued s ts) Dropped z h k = absurd h
next_then (Queued s ts) (Answered q) z h k = absurd h

next_if : (a b : Bool) (x y x' y' : Next) → a ≡ b → SameNext x x' → SameNext y y' → SameNext (if a then x else y) (if b then x' else y')
next_if true true x y x' y' e p q = p
next_if false false x y x' y' e p q = q
next_if true false x y x' y' e p q = absurd cc
next_if false true x y x' y' e p q = absurd cc

met_if : (a b : Bool) (x y x' y' : Met) → a ≡ b → SameMet x x' → SameMet y y' → SameMet (if a then x else y) (if b then x' else y')
met_if true true x y x' y' e p q = p
met_if false false x y x' y' e p q = q
met_if true false x y x' y' e p q = absurd cc
met_if false true x y x' y' e p q = absurd cc

broken_same : (s : Machine) (rule : ℕ) (m : Message) → SameNext (broken (writes_joined s) rule m) (broken s rule m)
broken_same s rule m = ap (λ (n : ℕ). reject_and_close s.session n rule m) (waits_same s.tasks)

plain_same : (x y : Next) → SameNext x y → SameMet (plainly x) (plainly y)
plain_same x y h = record { accepted = refl; next = h }

accepted_same : (m : Message) (x y : Next) → SameNext x y → SameMet (accepting m x) (accepting m y)
accepted_same m x y h = record { accepted = refl; next = h }

-- ---- a Data-Out

found_same : (tasks : List Task) (tag : ℕ) → write_of (ones tasks) tag ≡ option_map joined_write (write_of tasks tag)
found_same [] tag = refl
found_same (Command t o ∷ more) tag = found_same more tag
found_same (Request k ∷ more) tag = found_same more tag
found_same (Data w ∷ more) tag = by_cases (w.initiator_task_tag == tag) (λ e. rw e refl) (λ e. rw e (found_same more tag))

written_same : (v u : Write) (tasks : List Task) → v.initiator_task_tag ≡ u.initiator_task_tag → joined_write v ≡ joined_write u →
    ones (with_write v (ones tasks)) ≡ ones (with_write u tasks)
written_same v u [] tag e = refl
written_same v u (Command t o ∷ more) tag e = ap (λ (ts : List Task). Command t o ∷ ts) (written_same v u more tag e)
written_same v u (Request k ∷ more) tag e = ap (λ (ts : List Task). Request k ∷ ts) (written_same v u more tag e)
written_same v u (Data w ∷ more) tag e =
    ap (λ (t : ℕ). ones (if w.initiator_task_tag == t then Data v ∷ ones more else Data (joined_write w) ∷ with_write v (ones more))) tag
    ∙ by_cases (w.initiator_task_tag == u.initiator_task_tag)
    (λ f. rw f (λ i. Data (e i) ∷ joined_twice more i))
    (λ f. rw f (λ i. Data (idem w i) ∷ written_same v u more tag e i))

received_one : (w : Write) → bytes_received (joined_write w) ≡ bytes_received w
received_one w = ap (λ (bytes : List ℕ). length bytes) (data_of_one (piece_data w.pieces))

in_sequence_same : (first : ℕ) (w : Write) (h : DataPdu) (n : ℕ) (due : Due) → is_in_sequence first (joined_write w) h n due ≡ is_in_sequence first w h n due
in_sequence_same first w h n Nothing = refl
in_sequence_same first w h n (Unsolicited data_sn) =
    ap (λ (r : ℕ). ((h.data_sn == data_sn) && (h.buffer_offset == r))
    && ((h.target_transfer_tag == reserved_tag) && is_unsolicited_piece n (unsolicited_end first w) h.is_final)) (received_one w)
in_sequence_same first w h n (Solicited tag data_sn end) =
    ap (λ (r : ℕ). ((h.data_sn == data_sn) && (h.buffer_offset == r))
    && ((h.target_transfer_tag == tag) && is_solicited_piece n end h.is_final)) (received_one w)

is_taken_same : (first : ℕ) (w : Write) (h : DataPdu) (bytes : List ℕ)
    → is_in_sequence first (joined_write w) h (bytes_received (joined_write w) + length bytes) w.due
    ≡ is_in_sequence first w h (bytes_received w + length bytes) w.due
is_taken_same first w h bytes =
    in_sequence_same first w h (bytes_received (joined_write w) + length bytes) w.due
    ∙ ap (λ (n : ℕ). is_in_sequence first w h (n + length bytes) w.due) (received_one w)

taken_by : (s : Machine) (w : Write) (m : Message) (h : DataPdu) (bytes : List ℕ) (a b : Bool) → a ≡ b
    → SameNext (data_taken (writes_joined s) m (if a then Some (with_data (joined_write w) h bytes) else None))
    (data_taken s m (if b then Some (with_data w h bytes) else None))
taken_by s w m h bytes true true e = (
  refl,
  written_same (with_data (joined_write w) h bytes) (with_data w h bytes) s.tasks refl
      (ap (λ (x : List ℕ). record (with_data w h bytes) { pieces = with_piece [] 0 x })
      (data_with (joined_write w).pieces h.buffer_offset bytes
      ∙ ap (λ (front : List ℕ). front ++ bytes) (data_of_one (piece_data w.pieces)) ∙ sym (data_with w.pieces h.buffer_offset bytes))),
)
taken_by s w m h bytes true false e = absurd cc
taken_by s w m h bytes false true e = absurd cc
taken_by s w m h bytes false false e = broken_same s data_out_of_order m

data_by : (s : Machine) (m : Message) (h : DataPdu) (bytes : List ℕ) (found : Option Write) →
    SameNext (data_for (writes_joined s) m h bytes (option_map joined_write found)) (data_for s m h bytes found)
data_by s m h bytes None = tt
data_by s m h bytes (Some w) =
    taken_by s w m h bytes (is_in_sequence (first_burst s.session.held) (joined_write w) h (bytes_received (joined_write w) + length bytes) w.due)
    (is_in_sequence (first_burst s.session.held) w h (bytes_received w + length bytes) w.due) (is_taken_same (first_burst s.session.held) w h bytes)

data_same : (s : Machine) (m : Message) (h : DataPdu) (bytes : List ℕ) → SameNext (on_data_out (writes_joined s) m h bytes) (on_data_out s m h bytes)
data_same s m h bytes =
    subst (λ (x : Option Write). SameNext (data_for (writes_joined s) m h bytes x) (on_data_out s m h bytes)) (sym (found_same s.tasks h.initiator_task_tag))
    (data_by s m h bytes (write_of s.tasks h.initiator_task_tag))

-- ---- a request

tag_same : (task : Task) → task_tag (joined_task task) ≡ task_tag task
tag_same (Command tag order) = refl
tag_same (Request k) = refl
tag_same (Data w) = refl

tags_same : (tasks : List Task) (tag : Option ℕ) → is_tag_of (ones tasks) tag ≡ is_tag_of tasks tag
tags_same [] tag = refl
tags_same (task ∷ more) tag = λ i. is_same_tag (tag_same task i) tag || tags_same more tag i

admitted_same : (s : Machine) (count : ℕ) (m : Message) (r : InboundRequest) → SameNext (admitted (writes_joined s) (presented count m r))
    (admitted s (presented count m r))
admitted_same s count m r =
    let task : Task = task_of (unit_of s.session) (presented count m r) in
    next_if (is_tag_of (ones s.tasks) r.initiator_task_tag) (is_tag_of s.tasks r.initiator_task_tag)
    (broken (writes_joined s) kind_not_due m) _ (broken s kind_not_due m) _ (tags_same s.tasks r.initiator_task_tag) (broken_same s kind_not_due m)
    (next_if (breaks_rules s.session.held (length (segment_bytes m.segment)) r.asks) (breaks_rules s.session.held (length (segment_bytes m.segment)) r.asks)
    (broken (writes_joined s) data_out_of_order m) (Queued s.session (ones s.tasks ++ task ∷ [])) (broken s data_out_of_order m)
    (Queued s.session (s.tasks ++ task ∷ [])) refl (broken_same s data_out_of_order m) (
      refl,
      map-append joined_task (ones s.tasks) (task ∷ []) ∙ ap (λ (ts : List Task). ts ++ ones (task ∷ [])) (joined_twice s.tasks)
          ∙ sym (map-append joined_task s.tasks (task ∷ [])),
    ))

-- what an immediate request is answered with
no_room_same : (s : Machine) (m : Message) → no_room (writes_joined s) m ≡ no_room s m
no_room_same s m = ap (λ (k : ℕ). message_rejected s.session k too_many_immediate m) (waits_same s.tasks)

meant_same : (tasks : List Task) (h : TaskPdu) → is_meant (ones tasks) h ≡ is_meant tasks h
meant_same tasks h = λ i. if h.function == 1 then tags_same tasks (Some h.referenced_task_tag) i else busy_same tasks i

answered_same : (s : Machine) (m : Message) (asked : Asks) → answered_beside (writes_joined s) m asked ≡ answered_beside s m asked
answered_same s m (asks.Command h) = no_room_same s m
answered_same s m (asks.Session (requests.Ping h)) = ap (λ (k : ℕ). on_nop_out s.session k h (segment_bytes m.segment)) (waits_same s.tasks)
answered_same s m (asks.Session (requests.Task h)) = λ i. on_task_request s.session (waits_same s.tasks i) (meant_same s.tasks h i) h
answered_same s m (asks.Session (requests.Text h)) = no_room_same s m
answered_same s m (asks.Session (requests.Logout h)) = no_room_same s m

beside_same : (s : Machine) (m : Message) (r : InboundRequest) → reply_beside (writes_joined s) m r ≡ reply_beside s m r
beside_same s m r = λ i. if is_some s.session.settings.extras.unit && not (tags_same s.tasks r.initiator_task_tag i) then answered_same s m r.asks i
    else no_room_same s m i

within_same : (s : Machine) (n : ℕ) → not (is_within n s.session.exp_cmd_sn (max_cmd_sn (writes_joined s)))
    ≡ not (is_within n s.session.exp_cmd_sn (max_cmd_sn s))
within_same s n = ap (λ (k : ℕ). not (is_within n s.session.exp_cmd_sn (max_cmd_sn_with s.session k))) (waits_same s.tasks)

request_same : (s : Machine) (count : ℕ) (m : Message) (r : InboundRequest) →
    SameMet (due_met (writes_joined s) count m (inbounds.Request r)) (due_met s count m (inbounds.Request r))
request_same s count m r =
    met_if r.immediate r.immediate (immediate_request (writes_joined s) (presented count m r)) (request_in_turn (writes_joined s) (presented count m r))
    (immediate_request s (presented count m r)) (request_in_turn s (presented count m r)) refl
    (met_if (is_busy (ones s.tasks)) (is_busy s.tasks) (plainly (Answered (reply_beside (writes_joined s) m r)))
    (accepting m (admitted (writes_joined s) (presented count m r)))
    (plainly (Answered (reply_beside s m r))) (accepting m (admitted s (presented count m r))) (busy_same s.tasks)
    (plain_same _ _ (beside_same s m r)) (accepted_same m _ _ (admitted_same s count m r)))
    (met_if (not (is_within r.cmd_sn s.session.exp_cmd_sn (max_cmd_sn (writes_joined s)))) (not (is_within r.cmd_sn s.session.exp_cmd_sn (max_cmd_sn s)))
    (plainly Dropped) _ (plainly Dropped) _ (within_same s r.cmd_sn) (plain_same Dropped Dropped tt)
    (met_if (not (r.cmd_sn == s.session.exp_cmd_sn)) (not (r.cmd_sn == s.session.exp_cmd_sn)) (plainly (broken (writes_joined s) command_out_of_turn m))
    (accepting m (admitted (advanced (writes_joined s)) (presented count m r)))
    (plainly (broken s command_out_of_turn m)) (accepting m (admitted (advanced s) (presented count m r))) refl
    (plain_same _ _ (broken_same s command_out_of_turn m)) (accepted_same m _ _ (admitted_same (advanced s) count m r))))

due_same : (s : Machine) (count : ℕ) (m : Message) (pdu : Inbound) → SameMet (due_met (writes_joined s) count m pdu) (due_met s count m pdu)
due_same s count m (inbounds.Data h) = plain_same _ _ (data_same s m h (segment_bytes m.segment))
due_same s count m (inbounds.Request r) = request_same s count m r

inbound_same : (s : Machine) (count : ℕ) (m : Message) (pdu : Option Inbound) → SameMet (inbound_met (writes_joined s) count m pdu) (inbound_met s count m pdu)
inbound_same s count m None = plain_same _ _ (broken_same s kind_not_due m)
inbound_same s count m (Some pdu) =
    met_if (not (may_come s.session.session_type pdu)) (not (may_come s.session.session_type pdu))
    (plainly (broken (writes_joined s) kind_not_due m)) _ (plainly (broken s kind_not_due m)) _ refl
    (plain_same _ _ (broken_same s kind_not_due m))
    (met_if (is_segment_too_long s m) (is_segment_too_long s m) (plainly (broken (writes_joined s) segment_too_long m)) (due_met (writes_joined s) count m pdu)
    (plainly (broken s segment_too_long m)) (due_met s count m pdu) refl
    (plain_same _ _ (broken_same s segment_too_long m)) (due_same s count m pdu))

pub met_same : (s : Machine) (count : ℕ) (m : Message) → SameMet (full_met (writes_joined s) count m) (full_met s count m)
met_same s count m = inbound_same s count m (inbound m.head)

-- ---- a step

unchanged_same : (s : Machine) (disk : Disk) → Same (unchanged (writes_joined s) disk) (unchanged s disk)
unchanged_same s disk = record { is = ap (λ (ts : List Task). unchanged (record s { tasks = ts }) disk) (joined_twice s.tasks) }

followed_same : (device : Device) (s : Machine) (disk : Disk) (x y : Next) → SameNext x y
    → Same (next_step device (writes_joined s) disk x) (next_step device s disk y)
followed_same device s disk Dropped Dropped h = unchanged_same s disk
followed_same device s disk (Answered r) (Answered q) h = subst (λ (z : Reply). Same (on disk (ones s.tasks) r) (on disk s.tasks z)) h
    (on_same disk r (ones s.tasks) s.tasks (joined_twice s.tasks))
followed_same device s disk (Queued a ts) (Queued b us) h =
    subst (λ (z : Session). Same (done_in_turn device a disk ts) (done_in_turn device z disk us)) h.0 (done_same device a disk ts us h.1)
followed_same device s disk Dropped (Answered q) h = absurd h
followed_same device s disk Dropped (Queued b us) h = absurd h
followed_same device s disk (Answered r) Dropped h = absurd h
followed_same device s disk (Answered r) (Queued b us) h = absurd h
followed_same device s disk (Queued a ts) Dropped h = absurd h
followed_same device s disk (Queued a ts) (Answered q) h = absurd h

having_same : (x y : List Message) (a b : TargetStep) → x ≡ y → Same a b → Same (having_accepted x a) (having_accepted y b)
having_same x y a b e h = record { is = λ i. record (h.is i) { accepted = e i } }

full_same : (device : Device) (s : Machine) (disk : Disk) (m : Message) → Same (target_full_step device (writes_joined s) disk m)
    (target_full_step device s disk m)
full_same device s disk m =
    let h = met_same s disk.count m in
    having_same (full_met (writes_joined s) disk.count m).accepted (full_met s disk.count m).accepted
    (next_step device (writes_joined s) disk (full_met (writes_joined s) disk.count m).next)
    (next_step device s disk (full_met s disk.count m).next) h.accepted (followed_same device s disk (full_met (writes_joined s) disk.count m).next
    (full_met s disk.count m).next h.next)

phase_same : (device : Device) (phase : Phase) (s : Machine) (disk : Disk) (m : Message) →
    Same (phase_step device phase (writes_joined s) disk m) (phase_step device phase s disk m)
phase_same device Login s disk m = on_same disk (target_login_step s.session m) (ones s.tasks) s.tasks (joined_twice s.tasks)
phase_same device Full s disk m = full_same device s disk m
phase_same device Closed s disk m = unchanged_same s disk

step_same : (device : Device) (s : Machine) (disk : Disk) (m : Message) → Same (step_on device (writes_joined s) disk m) (step_on device s disk m)
step_same device s disk m =
    by_cases (is_machine_closed s) (λ e. rw e (unchanged_same s disk))
    (λ e. by_cases (is_over_limit s m.segment) (λ f. rw (e, f) (record { is = refl })) (λ f. rw (e, f) (phase_same device s.session.phase s disk m)))

-- one step from a session whose pieces are joined
pub step_joined : (device : Device) (s : Machine) (disk : Disk) (m : Message)
    → joined_stepped (step_on device (writes_joined s) disk m) ≡ joined_stepped (step_on device s disk m)
step_joined device s disk m = (step_same device s disk m).is

-- ---- messages one after another

-- any messages to a session whose pieces are joined
pub answers_joined : (protected : Bool) (s : Machine) (disk : Disk) (ms : List Message)
    → joined_stepped (answers protected (writes_joined s) disk ms) ≡ joined_stepped (answers protected s disk ms)
unfolding answers
answers_joined protected s disk [] = ap (λ (ts : List Task). unchanged (record s { tasks = ts }) disk) (joined_twice s.tasks)
answers_joined protected s disk (m ∷ ms) =
    let a : TargetStep = target_step protected (writes_joined s) disk m in
    let b : TargetStep = target_step protected s disk m in
    let e : joined_stepped a ≡ joined_stepped b = step_joined (reliable protected) s disk m in
    joined_then a (answers protected a.machine a.disk ms)
    ∙ ap (λ (r : TargetStep). then_stepped (joined_stepped a) r) (sym (answers_joined protected a.machine a.disk ms))
    ∙ ap (λ (r : TargetStep). then_stepped r (joined_stepped (answers protected r.machine r.disk ms))) e
    ∙ ap (λ (r : TargetStep). then_stepped (joined_stepped b) r) (answers_joined protected b.machine b.disk ms)
    ∙ sym (joined_then b (answers protected b.machine b.disk ms))

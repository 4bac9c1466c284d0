-- At most one R2T is unanswered.
use Rattle.std.proofs.Common.{◌≡◌, not, ◌≤◌, ◌⊎◌, inl, inr, ℕ, ◌+◌, List, [], ◌∷◌, ◌++◌, Bool, true, false, length, Option, Some, None, refl, sym, ap, ◌∙◌}
use Rattle.std.proofs.Common.{subst, arith}
use Rattle.std.specs.Prelude.{◌==◌, nat_lt, ◌&&◌, if◌then◌else◌, is_some}
use Rattle.std.proofs.lemmas.Bool.{eqb-true, ltb-true, or_cases}
use Rattle.std.proofs.lemmas.List.{length-append}
use Rattle.std.proofs.lemmas.Grind.{flat_map-append}
use Rattle.scsi_disk.specs.Disk.{Disk}
use Rattle.scsi_disk.specs.Plan.{plan_of}
use Rattle.scsi_disk.specs.declared.order.Order.{Order}
use Rattle.scsi_disk.specs.declared.order.Plan.{Plan}
use Rattle.scsi_disk.specs.declared.order.Plan.TheVariants as plans
use Rattle.scsi_unit.specs.LogicalUnit.{LogicalUnit}
use Rattle.iscsi_pdu.specs.declared.head.Head.{Head}
use Rattle.iscsi_pdu.specs.declared.head.Head.TheVariants.{LoginRequest, DataOut}
use Rattle.iscsi_pdu.specs.declared.head.scsi_command.ScsiCommand.{ScsiCommand as CommandPdu}
use Rattle.iscsi_pdu.specs.declared.head.data_out.DataOut.{DataOut as DataPdu}
use Rattle.iscsi_stream.specs.Segment.{segment_bytes}
use Rattle.iscsi_stream.specs.Stream.{Message}
use Rattle.iscsi_stream.proofs.ReadyLemmas.{apart, and_left, and_right}
use Rattle.iscsi_login.specs.Held.{first_burst}
use Rattle.iscsi_target_session.specs.Configured.{TargetSettings}
use Rattle.iscsi_target_session.specs.Session.{Session, Reply}
use Rattle.iscsi_target.specs.Write.{Write}
use Rattle.iscsi_target.specs.declared.tasks.Task.{Task}
use Rattle.iscsi_target.specs.declared.tasks.Task.TheVariants as kinds
use Rattle.iscsi_target.specs.declared.tasks.Task.TheVariants.{Request, Data}
use Rattle.iscsi_target_session.specs.declared.inbound.InboundRequest.{InboundRequest}
use Rattle.iscsi_target_session.specs.declared.inbound.Asks.{Asks as Asked}
use Rattle.iscsi_target_session.specs.declared.inbound.Asks.TheVariants as asks
use Rattle.iscsi_target.specs.State.{Machine, TargetStep, on, unchanged, shut_down, opening_machine, waiting_tasks, unit_of}
use Rattle.iscsi_target.specs.inner.State.{breaks}
use Rattle.iscsi_target_session.specs.Login.{target_login_step, login_in}
use Rattle.iscsi_target.specs.declared.due.Due.{Due}
use Rattle.iscsi_target.specs.declared.due.Due.TheVariants.{Nothing, Unsolicited, Solicited}
use Rattle.iscsi_target.specs.Transfer.{is_whole_write, is_nothing_due, data_out_taken, with_data, is_in_sequence, bytes_received, continued, is_next_data_out, is_solicited_piece, with_r2t}
use Rattle.iscsi_target.specs.Execution.{Device, execute, reliable}
use Rattle.iscsi_target.specs.Command.{order_of, write_opened, task_of, task_by, task_planned, presented}
use Rattle.iscsi_target_session.specs.Requests.{request_answered}
use Rattle.iscsi_target.specs.Machine.{target_step, step_on, answers, then_stepped, is_machine_closed, task_begun, stays, done_in_turn, having_accepted, write_of, with_write}
use Rattle.iscsi_target.specs.Queue.{is_unasked}
use Rattle.iscsi_target.specs.inner.Inside.{AreKept}
use Rattle.iscsi_target.specs.Tiles.{r2t_ranges, r2t_range, ends_r2t, data_answers, pdu_answers, r2ts_answered}
use Rattle.iscsi_target_session.proofs.CaseLemmas.{by_cases}
use Rattle.iscsi_target.proofs.Steps.TurnLemmas.{Begins, begins, Turns, turns, with_tasks, stays_on}
use Rattle.iscsi_target.proofs.Steps.StepPartLemmas.{Parts, step_parts}
use Rattle.iscsi_target.proofs.Answers.ReplyLemmas.{IsOver, on_ends, Logs, login_logs, request_answered_reply}
use Rattle.iscsi_target.proofs.Queue.AcceptedOrderLaw.{still, found_tag, taken_same, same_tasks}
use Rattle.iscsi_target.proofs.Steps.NumberLaws.{closed_answers}
use Rattle.iscsi_target.proofs.Writes.OpenWriteLemmas.{DueFits, size_with}
use Rattle.iscsi_target.proofs.Queue.PendingLemmas.{AreUnasked, none_kept, taken_unasked, found_unasked, written_unasked, behind_with, step_kept}
use Rattle.iscsi_target.proofs.Writes.WriteTilingLaws.{IsSound, execute_ranges, step_goes, step_count}

-- 1 where an R2T is unanswered
abbrev due_open : Due → ℕ
due_open (Solicited tag data_sn end) = 1
due_open _ = 0

abbrev unanswered : List Task → ℕ
unanswered (Data w ∷ more) = due_open w.due
unanswered _ = 0

due_few : (due : Due) → due_open due ≤ 1
due_few Nothing = omega arith
due_few (Unsolicited n) = omega arith
due_few (Solicited tag n end) = omega arith

unanswered_few : (tasks : List Task) → unanswered tasks ≤ 1
unanswered_few [] = omega arith
unanswered_few (kinds.Command t order ∷ more) = omega arith
unanswered_few (Request k ∷ more) = omega arith
unanswered_few (Data w ∷ more) = due_few w.due

due_unasked : (due : Due) → is_unasked due ≡ true → due_open due ≡ 0
due_unasked Nothing e = refl
due_unasked (Unsolicited n) e = refl
due_unasked (Solicited tag n end) e = absurd cc

none_asked : (tasks : List Task) → AreUnasked tasks → unanswered tasks ≡ 0
none_asked [] u = refl
none_asked (kinds.Command t order ∷ more) u = refl
none_asked (Request k ∷ more) u = refl
none_asked (Data w ∷ more) u = due_unasked w.due u.0

abbrev sent : TargetStep → ℕ
sent r = length (r2t_ranges r.answers)

-- what a step asks and answers, while the session goes on and where it is closed
pub record Asks (before answered : ℕ) (r : TargetStep) : Type 0 where
  pub open_ : is_machine_closed r.machine ≡ false → sent r + before ≡ unanswered r.machine.tasks + answered
  pub closed_ : is_machine_closed r.machine ≡ true → sent r + before ≤ 1 + answered

none_sent : (r : TargetStep) → r2t_ranges r.answers ≡ [] → sent r ≡ 0
none_sent r e = ap (λ (rs : List (ℕ × ℕ)). length rs) e

over_asks : (old : List Task) (r : TargetStep) → r2t_ranges r.answers ≡ [] → IsOver r.machine ⊎ (r.machine.tasks ≡ old) → Asks (unanswered old) 0 r
over_asks old r e (inl over) = record { open_ = λ f. absurd (apart over.closed f); closed_ = λ f. omega (arith, none_sent r e, unanswered_few old) }
over_asks old r e (inr same) = record {
  open_ = λ f. let a = none_sent r e in let b = ap unanswered same in omega (arith, a, b);
  closed_ = λ f. omega (arith, none_sent r e, unanswered_few old);
}

reply_asks : (s : Machine) (disk : Disk) (r : Reply) → r2t_ranges r.answers ≡ [] → Asks (unanswered s.tasks) 0 (on disk s.tasks r)
reply_asks s disk r e = over_asks s.tasks (on disk s.tasks r) e (on_ends disk s.tasks r)

answering : (before a : ℕ) (r : TargetStep) → Asks before 0 r → a ≡ 0 → Asks before a r
answering before a r h e = subst (λ (n : ℕ). Asks before n r) (sym e) h

closing : (tasks : List Task) (a : ℕ) (r : TargetStep) → is_machine_closed r.machine ≡ true → r2t_ranges r.answers ≡ [] → Asks (unanswered tasks) a r
closing tasks a r e f = record { open_ = λ g. absurd (apart e g); closed_ = λ g. omega (arith, none_sent r f, unanswered_few tasks) }

-- ---- the login

login_asks_in : (s : Machine) (m : Message) (disk : Disk) (head : Head) → m.head ≡ head →
    Asks (unanswered s.tasks) (pdu_answers s m head) (on disk s.tasks (login_in s.session head m.segment))
login_asks_in s m disk (LoginRequest h) k =
    let l : Logs s.session m (target_login_step s.session m) = login_logs s.session m in
    subst (λ (x : Head). Asks (unanswered s.tasks) 0 (on disk s.tasks (login_in s.session x m.segment))) k
    (reply_asks s disk (target_login_step s.session m) l.is.ranges)
login_asks_in s m disk head k = closing s.tasks (pdu_answers s m head) (on disk s.tasks (login_in s.session head m.segment)) refl refl

-- ---- tasks

-- how many R2Ts were unanswered before data came for a write, and how many they answered
pub record FitsWrite (w : Write) (before answered : ℕ) : Type 0 where
  pub whole : is_whole_write w ≡ true → before ≡ answered
  pub idle : is_nothing_due w.due ≡ true → before ≡ answered
  pub waits : is_nothing_due w.due ≡ false → before ≡ due_open w.due + answered

abbrev FitsTask : Task → ℕ → ℕ → Type 0
FitsTask (Data w) before answered = FitsWrite w before answered
FitsTask _ before answered = before ≡ answered

abbrev FitsTasks : List Task → ℕ → ℕ → Type 0
FitsTasks [] before answered = before ≡ answered
FitsTasks (task ∷ more) before answered = FitsTask task before answered × AreUnasked more

-- what the first task asks
record Leads (s : Machine) (before answered : ℕ) (r : TargetStep) : Type 0 where
  asks : Asks before answered r
  silent : stays s.tasks r ≡ false → sent r ≡ 0
  even : stays s.tasks r ≡ false → before ≡ answered

opened_waits : (last : Bool) (n : ℕ) → n ≡ due_open (if last then Nothing else Unsolicited 0) + n
opened_waits true n = omega arith
opened_waits false n = omega arith

-- what is done without an R2T
done_leads : (s : Machine) (before answered : ℕ) (r : TargetStep) → before ≡ answered → r2t_ranges r.answers ≡ [] → IsOver r.machine
    ⊎ (r.machine.tasks ≡ s.tasks)
    → AreUnasked s.tasks → Leads s before answered r
done_leads s before answered r e none over u = record {
  asks = record {
    open_ = λ f.
        let a = none_sent r none in
        let b = ap unanswered (still s.tasks r.machine over f) in
        let c = none_asked s.tasks u in
        omega (arith, a, b, c, e);
    closed_ = λ f. let a = none_sent r none in omega (arith, a, e);
  };
  silent = λ stay. none_sent r none;
  even = λ stay. e;
}

begins_ask : Begins (λ device s disk task r. (before answered : ℕ) → FitsTask task before answered → AreUnasked s.tasks → Leads s before answered r)
begins_ask = record {
  request_ = λ device s disk k before answered f u.
      done_leads s before answered _ f (request_answered_reply s.session (waiting_tasks s.tasks) k.message k.request).ranges
      (on_ends disk s.tasks (request_answered s.session (waiting_tasks s.tasks) k.message k.request)) u;
  command_ = λ device s disk tag order before answered f u.
      done_leads s before answered (execute device s disk tag order []) f (execute_ranges device s disk tag order []) (inr refl) u;
  write_ = λ device s disk w whole before answered f u.
      done_leads s before answered (execute device s disk w.initiator_task_tag w.order w.pieces) (f.whole whole)
      (execute_ranges device s disk w.initiator_task_tag w.order w.pieces) (inr refl) u;
  send_r2t_ = λ device s disk w whole idle before answered f u.
      (let e = f.idle idle in
      record {
        asks = record { open_ = λ g. omega (arith, e); closed_ = λ g. omega (arith, e) };
        silent = λ stay. stays_on (Data (with_r2t s.session.held w)) s.tasks stay;
        even = λ stay. e;
      });
  wait_ = λ device s disk w whole idle before answered f u.
      (let e = f.waits idle in
      record {
        asks = record { open_ = λ g. omega (arith, e); closed_ = λ g. omega (arith, e, due_few w.due) };
        silent = λ stay. refl;
        even = λ stay. stays_on (Data w) s.tasks stay;
      });
}

begun_leads : (device : Device) (s : Session) (disk : Disk) (task : Task) (more : List Task) (before answered : ℕ) → FitsTask task before answered →
    AreUnasked more
    → Leads (with_tasks s more) before answered (task_begun device (with_tasks s more) disk task)
begun_leads device s disk task more before answered f u =
    begins (λ device s disk task r. (before answered : ℕ) → FitsTask task before answered → AreUnasked s.tasks →
    Leads s before answered r) begins_ask device (with_tasks s more) disk task before answered f u

-- a task that was not asked for is the next
next_fits : (tasks : List Task) (before answered : ℕ) → before ≡ answered → AreUnasked tasks → FitsTasks tasks before answered
next_fits [] before answered e u = e
next_fits (kinds.Command t order ∷ more) before answered e u = (e, u.1)
next_fits (Request k ∷ more) before answered e u = (e, u.1)
next_fits (Data w ∷ more) before answered e u = (
  record {
    whole = λ x. e;
    idle = λ x. e;
    waits = λ x. let none = due_unasked w.due u.0 in
        omega (arith, e, none);
  },
  u.1,
)

sent_append : (first later : TargetStep) → sent (then_stepped first later) ≡ sent first + sent later
sent_append first later =
    ap (λ (rs : List (ℕ × ℕ)). length rs) (flat_map-append (λ (m : Message). r2t_range m.head) first.answers later.answers)
    ∙ length-append (r2t_ranges first.answers) (r2t_ranges later.answers)

abbrev Done : List Task → TargetStep → Type 0
Done tasks r = (before answered : ℕ) → FitsTasks tasks before answered → Asks before answered r

turns_ask : Turns (λ device s disk tasks r. Done tasks r)
turns_ask = record {
  none_ = λ device s disk before answered f. record { open_ = λ g. omega (arith, f); closed_ = λ g. omega (arith, f) };
  stop_ = λ device s disk task more why before answered f. (begun_leads device s disk task more before answered f.0 f.1).asks;
  then_ = λ device s disk task more b stay live later before answered f.
      (let a : TargetStep = task_begun device (with_tasks s more) disk task in
      let l = begun_leads device s disk task more before answered f.0 f.1 in
      let c : Asks before answered b = later before answered (next_fits more before answered (l.even stay) f.1) in
      let size = sent_append a b in
      let none = l.silent stay in
      record { open_ = λ g. (let e = c.open_ g in omega (arith, e, size, none)); closed_ = λ g. omega (arith, c.closed_ g, size, none) });
}

done_asks : (device : Device) (s : Session) (disk : Disk) (tasks : List Task) → Done tasks (done_in_turn device s disk tasks)
done_asks device s disk tasks = turns (λ device s disk tasks r. Done tasks r) turns_ask device s disk tasks

-- ---- a Data-Out

-- the end of a sequence is reached by its last PDU alone
solicited_last : (reached end : ℕ) (last : Bool) (tag n : ℕ) → is_solicited_piece reached end last ≡ true → end ≤ reached → 1
    ≡ ends_r2t (Solicited tag n end) last
solicited_last reached end true tag n e le = refl
solicited_last reached end false tag n e le =
    elim (or_cases (nat_lt reached end && not false) ((reached == end) && false) e) [
      | inl a ↦ absurd (omega (arith, le, ltb-true reached end (and_left (nat_lt reached end) (not false) a)))
      | inr b ↦ absurd (apart (and_right (reached == end) false b) refl)
    ]

-- a Data-Out that is due
last_taken : (first : ℕ) (w : Write) (h : DataPdu) (bytes : List ℕ) (due : Due) → DueFits w.total due
    → is_in_sequence first w h (bytes_received w + length bytes) due
    ≡ true
    → w.total ≡ bytes_received w + length bytes → due_open due ≡ ends_r2t due h.is_final
last_taken first w h bytes Nothing fits e whole = absurd cc
last_taken first w h bytes (Unsolicited n) fits e whole = refl
last_taken first w h bytes (Solicited tag n end) fits e whole =
    let a = and_right (is_next_data_out w h n) ((h.target_transfer_tag == tag) && is_solicited_piece (bytes_received w + length bytes) end h.is_final) e in
    solicited_last (bytes_received w + length bytes) end h.is_final tag n
    (and_right (h.target_transfer_tag == tag) (is_solicited_piece (bytes_received w + length bytes) end h.is_final) a) (omega (arith, fits, whole))

idle_taken : (first : ℕ) (w : Write) (h : DataPdu) (n : ℕ) (due : Due) (last : Bool) → is_in_sequence first w h n due ≡ true
    → is_nothing_due (if last then Nothing else continued due) ≡ true → due_open due ≡ ends_r2t due last
idle_taken first w h n Nothing last e f = absurd cc
idle_taken first w h n (Unsolicited k) last e f = refl
idle_taken first w h n (Solicited tag k end) true e f = refl
idle_taken first w h n (Solicited tag k end) false e f = absurd cc

waits_taken : (due : Due) (last : Bool) → is_nothing_due (if last then Nothing else continued due) ≡ false
    → due_open due ≡ due_open (if last then Nothing else continued due) + ends_r2t due last
waits_taken due true f = absurd cc
waits_taken Nothing false f = absurd cc
waits_taken (Unsolicited k) false f = refl
waits_taken (Solicited tag k end) false f = refl

taken_if : (v more : Write) (b : Bool) → (if b then Some v else None) ≡ Some more → (b ≡ true) × (v ≡ more)
taken_if v more true f = (refl, cc)
taken_if v more false f = absurd cc

some_if : (v more : Write) (t : Option Write) (n : ℕ) → t ≡ Some more → (if is_some t then n else 0) ≡ n
some_if v more t n f = ap (λ (x : Option Write). if is_some x then n else 0) f

data_answers_is : (first : ℕ) (h : DataPdu) (bytes : List ℕ) (w more : Write) → data_out_taken first w h bytes ≡ Some more
    → data_answers first h bytes (Some w) ≡ ends_r2t w.due h.is_final
data_answers_is first h bytes w more f = some_if w more (data_out_taken first w h bytes) (ends_r2t w.due h.is_final) f

-- a write that took data fits, where the R2T that was unanswered with it is counted
taken_fits : (first : ℕ) (w v : Write) (h : DataPdu) (bytes : List ℕ) → DueFits w.total w.due → data_out_taken first w h bytes ≡ Some v →
    FitsWrite v (due_open w.due) (ends_r2t w.due h.is_final)
taken_fits first w v h bytes fits e =
    let x : Write = with_data w h bytes in
    let t = taken_if x v (is_in_sequence first w h (bytes_received w + length bytes) w.due) e in
    let size : bytes_received x ≡ bytes_received w + length bytes = size_with w.pieces h.buffer_offset bytes in
    subst (λ (y : Write). FitsWrite y (due_open w.due) (ends_r2t w.due h.is_final)) t.1 (record {
      whole = λ g. last_taken first w h bytes w.due fits t.0 (eqb-true w.total (bytes_received x) g ∙ size);
      idle = λ g. idle_taken first w h (bytes_received w + length bytes) w.due h.is_final t.0 g;
      waits = λ g. waits_taken w.due h.is_final g;
    })

-- a write that wasn't asked for answers no R2T
none_ended : (due : Due) (last : Bool) → is_unasked due ≡ true → ends_r2t due last ≡ 0
none_ended Nothing last u = refl
none_ended (Unsolicited n) last u = refl
none_ended (Solicited tag n end) last u = absurd cc

-- the first task waits for its own data
pending_fits : (x : Write) → (is_whole_write x ≡ false) × (is_nothing_due x.due ≡ false) → FitsWrite x (due_open x.due) 0
pending_fits x p = record { whole = λ g. absurd (apart g p.0); idle = λ g. absurd (apart g p.1); waits = λ g. omega arith }

data_fits : (first : ℕ) (count : ℕ) (tasks : List Task) (w v : Write) (h : DataPdu) (bytes : List ℕ) → write_of tasks v.initiator_task_tag ≡ Some w →
    data_out_taken first w h bytes ≡ Some v
    → IsSound count tasks → AreKept tasks → FitsTasks (with_write v tasks) (unanswered tasks) (ends_r2t w.due h.is_final)
data_fits first count [] w v h bytes e f o k = absurd cc
data_fits first count (kinds.Command t order ∷ more) w v h bytes e f o k = absurd k.pending
data_fits first count (Request x ∷ more) w v h bytes e f o k = absurd k.pending
data_fits first count (Data x ∷ more) w v h bytes e f o k =
    by_cases (x.initiator_task_tag == v.initiator_task_tag)
    (λ g.
    let same : x ≡ w = (let y : Some x ≡ Some w = rw g at e in cc) in
    let fits : FitsWrite v (due_open w.due) (ends_r2t w.due h.is_final) =
    taken_fits first w v h bytes (subst (λ (y : Write). DueFits y.total y.due) same o.0.due) f in
    rw g (subst (λ (y : Write). FitsWrite v (due_open y.due) (ends_r2t w.due h.is_final)) (sym same) fits, k.unasked))
    (λ g.
    let found : write_of more v.initiator_task_tag ≡ Some w = rw g at e in
    let u : is_unasked w.due ≡ true = found_unasked more v.initiator_task_tag w found k.unasked in
    rw g (
      subst (λ (n : ℕ). FitsWrite x (due_open x.due) n) (sym (none_ended w.due h.is_final u)) (pending_fits x k.pending),
      written_unasked v more (taken_unasked first w v h bytes f u) k.unasked,
    ))

taken_asks : (device : Device) (s : Machine) (m : Message) (disk : Disk) (h : DataPdu) (w v : Write) → IsSound disk.count s.tasks → AreKept s.tasks → m.head
    ≡ DataOut h
    → write_of s.tasks h.initiator_task_tag ≡ Some w → data_out_taken (first_burst s.session.held) w h (segment_bytes m.segment) ≡ Some v
    → Asks (unanswered s.tasks) (pdu_answers s m m.head) (done_in_turn device s.session disk (with_write v s.tasks))
taken_asks device s m disk h w v o kept k e f =
    let bytes : List ℕ = segment_bytes m.segment in
    let tag : h.initiator_task_tag ≡ v.initiator_task_tag = sym (found_tag s.tasks h.initiator_task_tag w e)
    ∙ sym (taken_same (first_burst s.session.held) w v h bytes f).0 in
    let a : pdu_answers s m m.head ≡ ends_r2t w.due h.is_final =
    ap (λ (x : Head). pdu_answers s m x) k ∙ ap (λ (x : Option Write). data_answers (first_burst s.session.held) h bytes x) e
    ∙ data_answers_is (first_burst s.session.held) h bytes w v f in
    subst (λ (n : ℕ). Asks (unanswered s.tasks) n (done_in_turn device s.session disk (with_write v s.tasks))) (sym a)
    (done_asks device s.session disk (with_write v s.tasks) (unanswered s.tasks) (ends_r2t w.due h.is_final)
    (data_fits (first_burst s.session.held) disk.count s.tasks w v h bytes (subst (λ (t : ℕ). write_of s.tasks t ≡ Some w) tag e) f o kept))

-- ---- a request

opened_fits : (h : CommandPdu) (order : Order) (total : ℕ) (bytes : List ℕ) → FitsWrite (write_opened h order total bytes) 0 0
opened_fits h order total bytes = record { whole = λ x. refl; idle = λ x. refl; waits = λ x. opened_waits h.is_final 0 }

planned_fits : (h : CommandPdu) (order : Order) (bytes : List ℕ) (plan : Plan) → FitsTask (task_planned h order bytes plan) 0 0
planned_fits h order bytes (plans.Take total) = opened_fits h order total bytes
planned_fits h order bytes (plans.Refuse sense) = refl
planned_fits h order bytes (plans.Give given) = refl

task_fits : (unit : Option LogicalUnit) (count : ℕ) (m : Message) (tag : Option ℕ) (asked : Asked) → FitsTask (task_by unit count m tag asked) 0 0
task_fits unit count m tag (asks.Command h) = planned_fits h (order_of unit h) (segment_bytes m.segment) (plan_of (order_of unit h) count)
task_fits unit count m tag (asks.Session q) = refl

with_fits : (unit : Option LogicalUnit) (tasks : List Task) (count : ℕ) (m : Message) (r : InboundRequest) → AreKept tasks
    → FitsTasks (tasks ++ task_of unit (presented count m r) ∷ []) (unanswered tasks) 0
with_fits unit [] count m r k = (task_fits unit count m r.initiator_task_tag r.asks, tt)
with_fits unit (kinds.Command t order ∷ more) count m r k = absurd k.pending
with_fits unit (Request x ∷ more) count m r k = absurd k.pending
with_fits unit (Data x ∷ more) count m r k = (pending_fits x k.pending, behind_with unit (Data x ∷ more) count m r k.unasked)

admitted_asks : (device : Device) (s : Machine) (session : Session) (m : Message) (disk : Disk) (r : InboundRequest) → AreKept s.tasks →
    Asks (unanswered s.tasks) 0 (done_in_turn device session disk (s.tasks ++ task_of (unit_of session) (presented disk.count m r) ∷ []))
admitted_asks device s session m disk r k = done_asks device session disk (s.tasks ++ task_of (unit_of session) (presented disk.count m r) ∷ [])
    (unanswered s.tasks) 0 (with_fits (unit_of session) s.tasks disk.count m r k)

having_asks : (before a : ℕ) (ms : List Message) (r : TargetStep) → Asks before a r → Asks before a (having_accepted ms r)
having_asks before a ms r h = record { open_ = h.open_; closed_ = h.closed_ }

-- ---- all parts

abbrev Whole : Disk → Machine → Message → TargetStep → Type 0
Whole disk s m r = IsSound disk.count s.tasks → AreKept s.tasks → Asks (unanswered s.tasks) (pdu_answers s m m.head) r

parts_ask : (device : Device) (disk : Disk) → Parts device disk (Whole disk)
parts_ask device disk = record {
  nothing_ = λ s m c o k. elim c [
    | inl e ↦ closing s.tasks (pdu_answers s m m.head) (unchanged s disk) e refl
    | inr a ↦ answering (unanswered s.tasks) (pdu_answers s m m.head) (unchanged s disk) (over_asks s.tasks (unchanged s disk) refl (inr refl)) a
  ];
  shut_ = λ s m o k. closing s.tasks (pdu_answers s m m.head) (shut_down s disk) refl refl;
  beside_ = λ s m r a is o k. answering (unanswered s.tasks) (pdu_answers s m m.head) _ (reply_asks s disk r is.reply.ranges) a;
  reject_and_close_ = λ s rule m o k. closing s.tasks (pdu_answers s m m.head) (breaks s disk rule m) refl refl;
  login_ = λ s m e o k. login_asks_in s m disk m.head refl;
  taken_ = λ s m h w v e f g o k. having_asks (unanswered s.tasks) (pdu_answers s m m.head) [] _ (taken_asks device s m disk h w v o k e f g);
  refused_ = λ s t m rule a x o k. closing s.tasks (pdu_answers s m m.head) (having_accepted (m ∷ []) (breaks t disk rule m)) refl refl;
  admitted_ = λ s t m a x r is f o k.
      having_asks (unanswered s.tasks) (pdu_answers s m m.head) (m ∷ []) _
      (subst (λ (ts : List Task). Asks (unanswered s.tasks) (pdu_answers s m m.head)
      (done_in_turn device t.session disk (ts ++ task_of (unit_of t.session) (presented disk.count m r) ∷ [])))
      (sym (same_tasks s t m x))
      (answering (unanswered s.tasks) (pdu_answers s m m.head) _ (admitted_asks device s t.session m disk r k) a));
}

step_asks : (device : Device) (disk : Disk) (s : Machine) (m : Message) → Whole disk s m (step_on device s disk m)
step_asks device disk s m = step_parts device disk (Whole disk) (parts_ask device disk) s m

pub answers_asks : (protected : Bool) (s : Machine) (disk : Disk) (ms : List Message) → IsSound disk.count s.tasks → AreKept s.tasks
    → sent (answers protected s disk ms) + unanswered s.tasks ≤ r2ts_answered protected s disk ms + 1
unfolding answers r2ts_answered
answers_asks protected s disk [] o k = omega (arith, unanswered_few s.tasks)
answers_asks protected s disk (m ∷ ms) o k =
    let first : TargetStep = target_step protected s disk m in
    let later : TargetStep = answers protected first.machine first.disk ms in
    let c : Asks (unanswered s.tasks) (pdu_answers s m m.head) first = step_asks (reliable protected) disk s m o k in
    let size = sent_append first later in
    by_cases (is_machine_closed first.machine)
    (λ e. let none : sent later ≡ 0 = ap sent (closed_answers protected first.machine first.disk ms e) in omega (arith, c.closed_ e, none, size))
    (λ e. let sound : IsSound first.disk.count first.machine.tasks = subst (λ (n : ℕ). IsSound n first.machine.tasks) (sym (step_count protected s disk m))
    (step_goes protected disk s m o).sound in
    let rest = answers_asks protected first.machine first.disk ms sound (step_kept (reliable protected) s disk m k) in
    omega (arith, c.open_ e, rest, size))

pub opening_asks : (protected : Bool) (settings : TargetSettings) (n : ℕ) (disk : Disk) (ms : List Message)
    → length (r2t_ranges (answers protected (opening_machine settings n) disk ms).answers) ≤ r2ts_answered protected (opening_machine settings n) disk ms + 1
opening_asks protected settings n disk ms = omega (arith, answers_asks protected (opening_machine settings n) disk ms tt none_kept)

-- A ping and a logout between two ends that are in step.
use Rattle.std.specs.Prelude.{nat_lt, ◌==◌, ◌||◌, not, is_some}
use Rattle.std.proofs.Common.{◌≡◌, inl, inr, ◌<◌, ◌≤◌, ℕ, ◌+◌, ◌^◌, false, List, [], ◌∷◌, length, take, Some, None, refl, sym, ap, ◌∙◌, subst, arith, ne_eqb}
use Rattle.std.proofs.Math.Nat.{mod-lt}
use Rattle.std.proofs.lemmas.Bool.{eq-eqb, le-ltb, ltb-false}
use Rattle.std.proofs.lemmas.List.{length-take}
use Rattle.scsi_disk.specs.Disk.{Disk}
use Rattle.iscsi_pdu.specs.declared.head.Head.TheVariants as heads
use Rattle.iscsi_pdu.specs.declared.serial.Window.{Window}
use Rattle.iscsi_stream.specs.Segment.{Bytes, segment_bytes}
use Rattle.iscsi_stream.specs.Stream.{Message}
use Rattle.iscsi_login.specs.declared.phase.Phase.{Phase}
use Rattle.iscsi_login.specs.declared.phase.Phase.TheVariants as phases
use Rattle.iscsi_login.specs.Held.{Held}
use Rattle.iscsi_target_session.specs.Session as target_session
use Rattle.iscsi_target.specs.State as target
use Rattle.iscsi_target_session.specs.Session.{send_response}
use Rattle.iscsi_target.specs.State.{on}
use Rattle.iscsi_pdu.specs.Serial.{next_sn, is_within}
use Rattle.iscsi_target_session.specs.Requests.{logged_out, logout_head, nop_in_head}
use Rattle.iscsi_target.specs.Machine.{answers, having_accepted, step_on}
use Rattle.iscsi_target.proofs.Turns.SingleTaskLemmas.{request_alone}
use Rattle.iscsi_target.proofs.Steps.TurnLemmas.{then_nothing}
use Rattle.iscsi_initiator.specs.declared.outstanding.Outstanding.TheVariants as opens
use Rattle.iscsi_initiator.specs.declared.request.Done.TheVariants as done
use Rattle.iscsi_initiator.specs.declared.request.Request.{Request}
use Rattle.iscsi_initiator.specs.declared.request.Request.TheVariants as requests
use Rattle.iscsi_initiator.specs.State as initiator
use Rattle.iscsi_initiator.specs.State.{next_tag}
use Rattle.iscsi_initiator.specs.Steps.{quiet}
use Rattle.iscsi_initiator.specs.Machine.{initiator_step}
use Rattle.iscsi_initiator.specs.Submitted.{SubmitStep, accepted, logout_request_head, ping_head, submit_refusal, refusal_in, refusal_when_full, submitted}
use Rattle.iscsi_pair.specs.LocalDisk.{AreInStep, DiskExchange, window_of_eight}
use Rattle.iscsi_pair.proofs.Wire.WindowLemmas.{near_next, tells_eight, tag_after}
use Rattle.iscsi_pair.proofs.Wire.WrittenPdus.{left_readable, logout_readable, ping_readable, pong_readable}
use Rattle.iscsi_pair.proofs.Request.Invariant.{IsOpenFor}
use Rattle.iscsi_pair.proofs.Request.AnswersInOrder.{ArePlain, Begins, Ends, most_answers, received_by, receives_quiet, plain_one, short_message}
use Rattle.iscsi_pair.proofs.Request.ReadLemmas.{counted_on, in_step_again, not_long, ready, stat_sn_sent, submitted_is, unrefused, window_now}
use Rattle.iscsi_pair.proofs.Request.DataInLemmas.{told_window}
use Rattle.iscsi_target.specs.Execution.{reliable}
use Rattle.iscsi_login.specs.Stage.{is_closed_phase}

-- ---- a ping

-- the tag names a task
names_task : (tag : ℕ) → tag ≤ 0xffff_fffe → (tag == 0xffff_ffff) ≡ false
names_task tag le = ne_eqb tag 0xffff_ffff (λ e. omega (arith, e, le))

abbrev ping_message : initiator.InitiatorSession → List ℕ → Message
ping_message m bytes = record { head = heads.NopOut (ping_head m); segment = Bytes bytes }

-- the target answers
ping_taken : (m : initiator.InitiatorSession) (t : target.Machine) (disk : Disk) (bytes : List ℕ) → m.cmd_sn < 2 ^ 32 → m.initiator_task_tag ≤ 0xffff_fffe
    → length bytes ≤ t.session.held.target_max_recv → t.session.held.target_max_recv ≤ target_session.target_limit t.session.settings
    → step_on (reliable false) (ready t m.cmd_sn) disk (ping_message m bytes)
    ≡ having_accepted (ping_message m bytes ∷ []) (on disk [] (send_response (ready t (next_sn m.cmd_sn)).session
    (nop_in_head (ready t (next_sn m.cmd_sn)).session 0
    (ping_head m)) (take t.session.held.initiator_max_recv bytes)))
unfolding segment_bytes
ping_taken m t disk bytes lt tag short limit =
    request_alone (reliable false) (ready t m.cmd_sn).session disk (ping_message m bytes) _
    (record {
      phase = refl;
      within = le-ltb (target_session.target_limit t.session.settings) (length bytes) (omega (arith, short, limit));
      came = refl;
      may = refl;
      short = le-ltb t.session.held.target_max_recv (length bytes) short;
    }) refl refl (window_now m.cmd_sn lt) refl
    ∙ rw (names_task (next_tag m.initiator_task_tag) (tag_after m.initiator_task_tag tag)) refl

-- an initiator that has an open ping
abbrev pinging : initiator.InitiatorSession → Window → initiator.InitiatorSession
pinging m window = record m { phase = phases.Full; outstanding = Some opens.Ping; window = window }

abbrev pinged : initiator.InitiatorSession → target.Machine → Window → List ℕ → initiator.InitiatorSession
pinged m t window bytes = record m {
  phase = phases.Full;
  exp_stat_sn = Some (next_sn t.session.stat_sn);
  window = told_window window t;
  outstanding = None;
  done = Some (done.Ping bytes);
}

-- the initiator receives the answer
pong_received : (m before : initiator.InitiatorSession) (t : target.Machine) (window : Window) (bytes : List ℕ) → m.exp_stat_sn ≡ Some t.session.stat_sn
    → m.initiator_task_tag ≡ next_tag before.initiator_task_tag
    → m.initiator_task_tag ≤ 0xffff_fffe → length bytes ≤ m.held.initiator_max_recv
    → initiator_step (pinging m window) (target_session.answer_message (nop_in_head t.session (target.waiting_tasks t.tasks) (ping_head before)) bytes)
    ≡ quiet (pinged m t window bytes)
unfolding initiator_step segment_bytes
pong_received m before t window bytes e same tag short =
    rw (
      sym same,
      names_task m.initiator_task_tag tag,
      eq-eqb m.initiator_task_tag m.initiator_task_tag refl,
      le-ltb m.held.initiator_max_recv (length bytes) short,
      e,
      eq-eqb t.session.stat_sn t.session.stat_sn refl,
    ) refl

-- a request that is accepted is not too long
short_ping : (m : initiator.InitiatorSession) (bytes : List ℕ) → m.phase ≡ phases.Full → (submitted m (requests.Ping bytes)).refusal ≡ None
    → length bytes ≤ m.held.target_max_recv
unfolding submitted
short_ping m bytes full e =
    let none : refusal_in m.phase m (requests.Ping bytes) ≡ None = unrefused (submit_refusal m (requests.Ping bytes)) m (requests.Ping bytes) e in
    let when : refusal_when_full m (requests.Ping bytes) ≡ None = subst (λ (p : Phase). refusal_in p m (requests.Ping bytes) ≡ None) full none in
    ltb-false m.held.target_max_recv (length bytes)
    (not_long (is_some m.outstanding || is_some m.done) (not (is_within m.cmd_sn m.window.exp.0 m.window.max.0)) (nat_lt m.held.target_max_recv (length bytes))
    when)

pub local_ping : (m : initiator.InitiatorSession) (t : target.Machine) (disk : Disk) (bytes : List ℕ) → AreInStep m t
    → (submitted m (requests.Ping bytes)).refusal ≡ None
    → Begins m.held m t disk (requests.Ping bytes) (record { outcome = done.Ping (take m.held.initiator_max_recv bytes); disk = disk })
unfolding answers
local_ping m t disk bytes a e =
    let request : Request = requests.Ping bytes in
    let n : ℕ = next_sn m.cmd_sn in
    let fits : n < 2 ^ 32 = mod-lt (m.cmd_sn + 1) (omega arith) in
    let short : length bytes ≤ m.held.target_max_recv = short_ping m bytes a.initiator_phase e in
    let sent : submitted m request ≡ accepted m request = submitted_is m request e in
    let begun_ : initiator.InitiatorSession = record m { initiator_task_tag = next_tag m.initiator_task_tag; cmd_sn = next_sn m.cmd_sn } in
    let t' : target.Machine = ready t n in
    let given : List ℕ = take m.held.initiator_max_recv bytes in
    let few : length given ≤ m.held.initiator_max_recv = omega (arith, length-take m.held.initiator_max_recv bytes) in
    let tag : next_tag m.initiator_task_tag ≤ 0xffff_fffe = tag_after m.initiator_task_tag a.tag_fits in
    let is_t : t ≡ ready t m.cmd_sn = λ i. record {
      session = record t.session {
        phase = a.target_phase i;
        session_type = a.session i;
        exp_cmd_sn =
            a.cmd_sn i;
      };
      tasks = a.no_task i;
    } in
    let is_m : (accepted m request).machine ≡ pinging begun_ m.window = λ i. record begun_ { phase = a.initiator_phase i; outstanding = Some opens.Ping } in
    let answer : Message = target_session.answer_message (nop_in_head t'.session 0 (ping_head m)) given in
    let executed : target.TargetStep = having_accepted (ping_message m bytes ∷ []) (on disk []
    (send_response t'.session (nop_in_head t'.session 0 (ping_head m)) given)) in
    let r : answers false t disk (submitted m request).output ≡ executed =
    ap (λ (s : SubmitStep). answers false t disk s.output) sent
    ∙ then_nothing (step_on (reliable false) t disk (ping_message m bytes))
    ∙ ap (λ (x : target.Machine). step_on (reliable false) x disk (ping_message m bytes)) is_t
    ∙ ping_taken m t disk bytes a.cmd_sn_fits a.tag_fits (subst (λ (h : Held). length bytes ≤ h.target_max_recv) (sym a.held) short)
    (subst (λ (h : Held). h.target_max_recv ≤ target_session.target_limit t.session.settings) (sym a.held) a.segment)
    ∙ ap (λ (h : Held). having_accepted (ping_message m bytes ∷ []) (on disk [] (send_response t'.session (nop_in_head t'.session 0 (ping_head m))
    (take h.initiator_max_recv bytes)))) a.held in
    let one : initiator_step (pinging begun_ m.window) answer ≡ quiet (pinged begun_ t' m.window given) =
    pong_received begun_ m t' m.window given a.stat_sn refl tag
    few in
    let told_ : told_window m.window t' ≡ window_of_eight n = tells_eight n m.window fits (near_next n m.cmd_sn m.window a.cmd_sn_fits refl a.window) in
    let last : DiskExchange = record { initiator = pinged begun_ t' m.window given; target = counted_on t'; disk = disk; answers = [] } in
    let ends_ : Ends most_answers m.held (target.unit_of t.session) (pinging begun_ m.window) executed (record { outcome = done.Ping given; disk = disk }) = record {
      last = last;
      leads = receives_quiet 0 most_answers (omega arith) m.held (pinging begun_ m.window) (pinged begun_ t' m.window given) (counted_on t') disk answer []
          last one refl refl a.none_done
          (0, omega arith, refl);
      ended = record {
        done_is = refl;
        silent = refl;
        disk_is = refl;
        at_rest = inl (in_step_again begun_ t m.window a.held a.is_held a.segment tag fits told_, refl, refl);
      };
    } in
    let written : ArePlain m.held.target_max_recv (ping_message m bytes ∷ []) =
    plain_one m.held.target_max_recv (ping_message m bytes)
    (λ logins. ping_readable logins m bytes a.tag_fits a.cmd_sn_fits (stat_sn_sent m t a) (omega (arith, short, a.is_held.target_max_recv.1)))
    (short_message (ping_message m bytes).head bytes m.held.target_max_recv short) in
    record {
      received = received_by m.held t disk (submitted m request).output executed r (subst (λ (s : SubmitStep). ArePlain m.held.target_max_recv s.output) (sym
          sent)
          written) refl refl
          (plain_one m.held.initiator_max_recv answer
          (λ logins. pong_readable logins t' (ping_head m) given (omega (arith, tag)) a.stat_sn_fits fits (omega (arith, few, a.is_held.initiator_max_recv.1)))
          (short_message answer.head given m.held.initiator_max_recv few));
      ends = subst (λ (s : SubmitStep). Ends most_answers m.held (target.unit_of t.session) s.machine (answers false t disk (submitted m request).output)
          (record { outcome = done.Ping given; disk = disk }))
          (sym sent)
          (subst (λ (x : initiator.InitiatorSession). Ends most_answers m.held (target.unit_of t.session) x (answers false t disk (submitted m request).output)
          (record { outcome = done.Ping given; disk = disk }))
          (sym is_m)
          (subst (λ (x : target.TargetStep). Ends most_answers m.held (target.unit_of t.session) (pinging begun_ m.window) x (record { outcome = done.Ping given; disk = disk }))
          (sym r) ends_));
    }

-- ---- a logout

abbrev logout_message : initiator.InitiatorSession → Message
logout_message m = record { head = heads.LogoutRequest (logout_request_head m); segment = Bytes [] }

logout_taken : (m : initiator.InitiatorSession) (t : target.Machine) (disk : Disk) → m.cmd_sn < 2 ^ 32
    → step_on (reliable false) (ready t m.cmd_sn) disk (logout_message m) ≡ having_accepted (logout_message m ∷ [])
    (on disk [] (logged_out (ready t (next_sn m.cmd_sn)).session 0 (logout_request_head m)))
unfolding segment_bytes
logout_taken m t disk lt =
    request_alone (reliable false) (ready t m.cmd_sn).session disk (logout_message m) _
    (record {
      phase = refl;
      within = le-ltb (target_session.target_limit t.session.settings) 0 (omega arith);
      came = refl;
      may = refl;
      short = le-ltb t.session.held.target_max_recv 0 (omega arith);
    }) refl refl (window_now m.cmd_sn lt) refl

abbrev leaving : initiator.InitiatorSession → Window → initiator.InitiatorSession
leaving m window = record m { phase = phases.Full; outstanding = Some opens.Logout; window = window }

abbrev left : initiator.InitiatorSession → target.Machine → Window → initiator.InitiatorSession
left m t window = record m {
  phase = phases.Closed;
  exp_stat_sn = Some (next_sn t.session.stat_sn);
  window = told_window window t;
  outstanding = None;
  done = Some done.Closed;
}

logout_received : (m before : initiator.InitiatorSession) (t : target.Machine) (window : Window) → m.exp_stat_sn ≡ Some t.session.stat_sn
    → m.initiator_task_tag ≡ next_tag before.initiator_task_tag
    → initiator_step (leaving m window) (target_session.answer_message (logout_head t.session (target.waiting_tasks t.tasks) (logout_request_head before)) [])
    ≡ quiet (left m t window)
unfolding initiator_step segment_bytes
logout_received m before t window e same =
    rw (
      sym same,
      eq-eqb m.initiator_task_tag m.initiator_task_tag refl,
      le-ltb m.held.initiator_max_recv 0 (omega arith),
      e,
      eq-eqb t.session.stat_sn t.session.stat_sn refl,
    ) refl

pub local_logout : (m : initiator.InitiatorSession) (t : target.Machine) (disk : Disk) → AreInStep m t → (submitted m requests.Logout).refusal ≡ None
    → Begins m.held m t disk requests.Logout (record { outcome = done.Closed; disk = disk })
unfolding answers
local_logout m t disk a e =
    let request : Request = requests.Logout in
    let n : ℕ = next_sn m.cmd_sn in
    let fits : n < 2 ^ 32 = mod-lt (m.cmd_sn + 1) (omega arith) in
    let sent : submitted m request ≡ accepted m request = submitted_is m request e in
    let begun_ : initiator.InitiatorSession = record m { initiator_task_tag = next_tag m.initiator_task_tag; cmd_sn = next_sn m.cmd_sn } in
    let t' : target.Machine = ready t n in
    let tag : next_tag m.initiator_task_tag ≤ 0xffff_fffe = tag_after m.initiator_task_tag a.tag_fits in
    let is_t : t ≡ ready t m.cmd_sn = λ i. record {
      session = record t.session {
        phase = a.target_phase i;
        session_type = a.session i;
        exp_cmd_sn =
            a.cmd_sn i;
      };
      tasks = a.no_task i;
    } in
    let is_m : (accepted m request).machine ≡ leaving begun_ m.window = λ i. record begun_ { phase = a.initiator_phase i; outstanding = Some opens.Logout } in
    let answer : Message = target_session.answer_message (logout_head t'.session 0 (logout_request_head m)) [] in
    let executed : target.TargetStep = having_accepted (logout_message m ∷ []) (on disk [] (logged_out t'.session 0 (logout_request_head m))) in
    let r : answers false t disk (submitted m request).output ≡ executed =
    ap (λ (s : SubmitStep). answers false t disk s.output) sent
    ∙ then_nothing (step_on (reliable false) t disk (logout_message m))
    ∙ ap (λ (x : target.Machine). step_on (reliable false) x disk (logout_message m)) is_t
    ∙ logout_taken m t disk a.cmd_sn_fits in
    let last : DiskExchange = record { initiator = left begun_ t' m.window; target = executed.machine; disk = disk; answers = [] } in
    let ends_ : Ends most_answers m.held (target.unit_of t.session) (leaving begun_ m.window) executed (record { outcome = done.Closed; disk = disk }) = record {
      last = last;
      leads = receives_quiet 0 most_answers (omega arith) m.held (leaving begun_ m.window) (left begun_ t' m.window) executed.machine disk answer [] last
          (logout_received begun_ m t' m.window a.stat_sn refl) refl refl a.none_done (0, omega arith, refl);
      ended = record {
        done_is = refl;
        silent = refl;
        disk_is = refl;
        at_rest = inr (
          record { initiator_phase = refl; target_phase = refl; none_open = refl },
          refl,
        );
      };
    } in
    let written : ArePlain m.held.target_max_recv (logout_message m ∷ []) =
    plain_one m.held.target_max_recv (logout_message m) (λ logins. logout_readable logins m a.tag_fits a.cmd_sn_fits (stat_sn_sent m t a))
    (short_message (logout_message m).head [] m.held.target_max_recv (omega arith)) in
    let open_ : IsOpenFor t disk (submitted m request).output =
    subst (λ (s : SubmitStep). IsOpenFor t disk s.output) (sym sent) (ap is_closed_phase a.target_phase, tt) in
    record {
      received = record {
        written = subst (λ (s : SubmitStep). ArePlain m.held.target_max_recv s.output) (sym sent) written;
        open_ = open_;
        rule = ap (λ (x : target.TargetStep). x.rule) r;
        answered = subst (λ (x : target.TargetStep). ArePlain m.held.initiator_max_recv x.answers) (sym r)
            (plain_one m.held.initiator_max_recv answer (λ logins. left_readable logins t' (logout_request_head m) (omega (arith, tag)) a.stat_sn_fits fits)
            (short_message answer.head [] m.held.initiator_max_recv (omega arith)));
      };
      ends = subst (λ (s : SubmitStep). Ends most_answers m.held (target.unit_of t.session) s.machine (answers false t disk (submitted m request).output)
          (record { outcome = done.Closed; disk = disk }))
          (sym sent)
          (subst (λ (x : initiator.InitiatorSession). Ends most_answers m.held (target.unit_of t.session) x (answers false t disk (submitted m request).output)
          (record { outcome = done.Closed; disk = disk }))
          (sym is_m)
          (subst (λ (x : target.TargetStep). Ends most_answers m.held (target.unit_of t.session) (leaving begun_ m.window) x (record { outcome = done.Closed; disk = disk })) (sym r)
          ends_));
    }

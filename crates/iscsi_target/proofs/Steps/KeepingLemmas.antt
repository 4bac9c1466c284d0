-- A step keeps what the session is configured with, and behind the login what is held.
use Rattle.std.proofs.Common.{◌≡◌, ◌⊎◌, inl, inr, ◌∙◌, ℕ, zero, suc, ◌+◌, List, [], ◌∷◌, Bool, true, false, length, Option, Some, None, refl, sym, subst}
use Rattle.std.specs.Prelude.{nat_lt, nat_le, not, ◌==◌, ◌||◌, if◌then◌else◌}
use Rattle.scsi_disk.specs.Disk.{Disk}
use Rattle.iscsi_text.specs.Text.{Pairs}
use Rattle.iscsi_text.specs.Reading.{text_in}
use Rattle.iscsi_pdu.specs.declared.head.nop_out.NopOut.{NopOut as Ping}
use Rattle.iscsi_pdu.specs.declared.head.text_request.TextRequest.{TextRequest as TextPdu}
use Rattle.iscsi_pdu.specs.declared.head.logout_request.LogoutRequest.{LogoutRequest as Logout}
use Rattle.iscsi_target_session.specs.TextRequests.{on_text_request, text_reply_to, reply_text}
use Rattle.iscsi_target_session.specs.Requests.{on_nop_out, on_logout_request}
use Rattle.iscsi_pdu.specs.declared.head.Head.{Head}
use Rattle.iscsi_pdu.specs.declared.head.Head.TheVariants.{LoginRequest}
use Rattle.iscsi_pdu.specs.declared.head.login_request.LoginRequest.{LoginRequest as Request}
use Rattle.iscsi_stream.specs.Segment.{Segment, segment_bytes}
use Rattle.iscsi_stream.specs.Stream.{Message}
use Rattle.iscsi_login.specs.declared.phase.Phase.{Phase}
use Rattle.iscsi_login.specs.declared.phase.Phase.TheVariants as phases
use Rattle.iscsi_target_session.specs.Session.{Session, Reply, ended_session, stat_sn_advanced}
use Rattle.iscsi_target.specs.declared.tasks.Task.{Task}
use Rattle.iscsi_target.specs.State.{Machine, TargetStep, on, unchanged, waiting_tasks, max_cmd_sn}
use Rattle.iscsi_target.specs.inner.State.{breaks}
use Rattle.scsi_disk.specs.Plan.{first_reason}
use Rattle.iscsi_pdu.specs.Fields.{reserved_tag}
use Rattle.iscsi_target_session.specs.declared.status.Status.{Status}
use Rattle.iscsi_target_session.specs.Login.{login_in, on_login_request, refuse_or, segment_taken, whole_text, text_ending, gather, numbers_settled}
use Rattle.iscsi_target_session.specs.Login.{entered, request_refusals}
use Rattle.iscsi_target.specs.Execution.{Device, device_after, reliable}
use Rattle.iscsi_target.specs.Command.{breaks_rules, presented}
use Rattle.iscsi_target_session.specs.Inbound.{inbound}
use Rattle.iscsi_target_session.specs.declared.inbound.Inbound.{Inbound}
use Rattle.iscsi_target_session.specs.declared.inbound.Inbound.TheVariants as inbounds
use Rattle.iscsi_target_session.specs.declared.inbound.InboundRequest.{InboundRequest}
use Rattle.iscsi_target_session.specs.declared.inbound.SessionRequest.{SessionRequest}
use Rattle.iscsi_target_session.specs.declared.inbound.SessionRequest.TheVariants as requests
use Rattle.iscsi_target.specs.Write.{Write}
use Rattle.iscsi_target.specs.Transfer.{data_out_taken}
use Rattle.iscsi_login.specs.Held.{first_burst}
use Rattle.iscsi_pdu.specs.Serial.{is_within}
use Rattle.iscsi_pdu.specs.declared.head.data_out.DataOut.{DataOut as DataPdu}
use Rattle.iscsi_target.specs.Machine.{Next, Queued, MayStop, target_step, step_on, answers, task_begun, stays, is_machine_closed, is_busy, done_in_turn, done_first, then_stepped}
use Rattle.iscsi_target.specs.Machine.{having_accepted, data_taken, data_for, write_of, is_tag_of, admitted, advanced, due_met, inbound_met, may_come}
use Rattle.iscsi_target.specs.Machine.{is_segment_too_long, full_met}
use Rattle.iscsi_target_session.specs.Requests.{request_answered}
use Rattle.iscsi_target_session.proofs.CaseLemmas.{by_cases}
use Rattle.iscsi_target_session.proofs.ExchangeLemmas.{text_cases}
use Rattle.iscsi_target.proofs.Steps.TurnLemmas.{Begins, begins, Turns, turns, with_tasks}
use Rattle.iscsi_target.proofs.Steps.StepPartLemmas.{Accepts, Immediately, InTurn, Parts, step_parts}

refused_keeps : (s : Session) (r : Request) (why : Option Status) (reply : Reply) → reply.session.settings ≡ s.settings →
    (refuse_or why s r reply).session.settings ≡ s.settings
refused_keeps s r None reply e = e
refused_keeps s r (Some why) reply e = refl

whole_keeps : (s : Session) (r : Request) (text : Option Pairs) → (whole_text s r text).session.settings ≡ s.settings
whole_keeps s r text = text_cases (λ x. x.session.settings ≡ s.settings) s r text
    (record { refused = λ why reason. refl; plain = λ pairs is open_ none. refl; exchange = λ c p said pairs is demanded none verdict short. refl })

gather_keeps : (s : Session) (r : Request) (segment : Segment) (more : Bool)
    → (if more then gather s r (segment_bytes segment) else whole_text (record s { gathered = [] }) r (text_ending s.gathered segment)).session.settings
    ≡ s.settings
gather_keeps s r segment true = refl
gather_keeps s r segment false = whole_keeps (record s { gathered = [] }) r (text_ending s.gathered segment)

segment_keeps : (s : Session) (r : Request) (segment : Segment) → (segment_taken s r segment).session.settings ≡ s.settings
segment_keeps s r segment = by_cases (nat_lt 16384 (length s.gathered + length (segment_bytes segment))) (λ e. rw e refl)
    (λ e. rw e (gather_keeps s r segment r.continues))

numbered_keeps : (s : Session) (r : Request) → (numbers_settled s r).settings ≡ s.settings
numbered_keeps s r = by_cases s.begun (λ e. rw e refl) (λ e. rw e refl)

request_keeps : (s : Session) (r : Request) (segment : Segment) → (on_login_request s r segment).session.settings ≡ s.settings
request_keeps s r segment =
    refused_keeps (numbers_settled s r) r (first_reason (request_refusals s r)) (segment_taken (entered s r) r segment) (segment_keeps (entered s r) r segment)
    ∙ numbered_keeps s r

login_keeps : (s : Session) (head : Head) (segment : Segment) → (login_in s head segment).session.settings ≡ s.settings
login_keeps s (LoginRequest r) segment = request_keeps s r segment
login_keeps s _ segment = refl

-- the login is over
abbrev pub IsLater : Phase → Type 0
IsLater phases.Login = ⊥
IsLater _ = Unit {0}

-- what is held stays, and so do the stage, who logged in and how far CHAP has come
pub record Stays (s n : Machine) : Type 0 where
  pub stage : n.session.stage ≡ s.session.stage
  pub held : n.session.held ≡ s.session.held
  pub has_text : n.session.has_text ≡ s.session.has_text
  pub name : n.session.initiator_name ≡ s.session.initiator_name
  pub progress : n.session.progress ≡ s.session.progress
  pub later : IsLater s.session.phase → IsLater n.session.phase

-- the settings stay, and behind the login what is held
record Kept (s n : Machine) : Type 0 where
  settings : n.session.settings ≡ s.session.settings
  stays : IsLater s.session.phase → Stays s n

record Keeps (s : Machine) (r : TargetStep) : Type 0 where
  is : Kept s r.machine

same : (s : Machine) → Kept s s
same s = record { settings = refl; stays = λ l. record { stage = refl; held = refl; has_text = refl; name = refl; progress = refl; later = λ l. l } }

-- the same of a session
record StaysSession (s n : Session) : Type 0 where
  stage : n.stage ≡ s.stage
  held : n.held ≡ s.held
  has_text : n.has_text ≡ s.has_text
  name : n.initiator_name ≡ s.initiator_name
  progress : n.progress ≡ s.progress
  later : IsLater s.phase → IsLater n.phase

record KeptSession (s n : Session) : Type 0 where
  settings : n.settings ≡ s.settings
  stays : IsLater s.phase → StaysSession s n

same_session : (s : Session) → KeptSession s s
same_session s = record { settings = refl; stays = λ l. record { stage = refl; held = refl; has_text = refl; name = refl; progress = refl; later = λ l. l } }

counts : (s : Session) → KeptSession s (stat_sn_advanced s)
counts s = record { settings = refl; stays = λ l. record { stage = refl; held = refl; has_text = refl; name = refl; progress = refl; later = λ l. l } }

ends : (s : Session) → KeptSession s (ended_session (stat_sn_advanced s))
ends s = record { settings = refl; stays = λ l. record { stage = refl; held = refl; has_text = refl; name = refl; progress = refl; later = λ l. tt } }

-- a reply that at most counts its number
beside_keeps : (s : Session) (r : Reply) → (r.session ≡ s) ⊎ (r.session ≡ stat_sn_advanced s) → KeptSession s r.session
beside_keeps s r (inl e) = subst (λ (n : Session). KeptSession s n) (sym e) (same_session s)
beside_keeps s r (inr e) = subst (λ (n : Session). KeptSession s n) (sym e) (counts s)

-- what a session keeps, the target keeps
reply_keeps : (s : Machine) (disk : Disk) (r : Reply) → KeptSession s.session r.session → Keeps s (on disk s.tasks r)
reply_keeps s disk r k = record {
  is = record {
    settings = k.settings;
    stays = λ l. (let x = k.stays l in
        record { stage = x.stage; held = x.held; has_text = x.has_text; name = x.name; progress = x.progress; later = x.later });
  };
}

text_reply_keeps : (s : Session) (waiting : ℕ) (m : Message) (h : TextPdu) (pairs : Option Pairs) → KeptSession s (text_reply_to s waiting m h pairs).session
text_reply_keeps s waiting m h None = ends s
text_reply_keeps s waiting m h (Some pairs) = by_cases (nat_lt s.held.initiator_max_recv (length (reply_text s.settings pairs)))
    (λ e. rw e (ends s)) (λ e. rw e (counts s))

text_keeps : (s : Session) (waiting : ℕ) (m : Message) (h : TextPdu) (bytes : List ℕ) → KeptSession s (on_text_request s waiting m h bytes).session
text_keeps s waiting m h bytes =
    by_cases (not h.is_final || (h.continues || not (h.target_transfer_tag == reserved_tag))) (λ e. rw e (ends s))
    (λ e. rw e (text_reply_keeps s waiting m h (text_in bytes)))

nop_keeps : (s : Session) (waiting : ℕ) (h : Ping) (bytes : List ℕ) → KeptSession s (on_nop_out s waiting h bytes).session
nop_keeps s waiting h bytes = by_cases (h.initiator_task_tag == reserved_tag) (λ e. rw e (same_session s)) (λ e. rw e (counts s))

logout_keeps : (s : Session) (waiting : ℕ) (m : Message) (h : Logout) → KeptSession s (on_logout_request s waiting m h).session
logout_keeps s waiting m h = by_cases (nat_le h.reason 1) (λ e. rw e (ends s)) (λ e. rw e (ends s))

request_keeps_all : (s : Session) (waiting : ℕ) (m : Message) (request : SessionRequest) → KeptSession s (request_answered s waiting m request).session
request_keeps_all s waiting m (requests.Ping h) = nop_keeps s waiting h (segment_bytes m.segment)
request_keeps_all s waiting m (requests.Task h) = counts s
request_keeps_all s waiting m (requests.Text h) = text_keeps s waiting m h (segment_bytes m.segment)
request_keeps_all s waiting m (requests.Logout h) = logout_keeps s waiting m h

never : (s : Machine) → s.session.phase ≡ phases.Login → IsLater s.session.phase → ⊥
never s e l = subst IsLater e l

-- ---- tasks

begins_keep : Begins (λ device s disk task r. Keeps s r)
begins_keep = record {
  request_ = λ device s disk k. reply_keeps s disk _ (request_keeps_all s.session (waiting_tasks s.tasks) k.message k.request);
  command_ = λ device s disk tag order. record {
    is = record {
      settings = refl;
      stays = λ l. record
          { stage = refl; held = refl; has_text = refl; name = refl; progress = refl; later = λ l. l };
    };
  };
  write_ = λ device s disk w h. record {
    is = record {
      settings = refl;
      stays = λ l. record
          { stage = refl; held = refl; has_text = refl; name = refl; progress = refl; later = λ l. l };
    };
  };
  send_r2t_ = λ device s disk w h g. record {
    is = record {
      settings = refl;
      stays = λ l. record
          { stage = refl; held = refl; has_text = refl; name = refl; progress = refl; later = λ l. l };
    };
  };
  wait_ = λ device s disk w h g. record {
    is = record {
      settings = refl;
      stays = λ l. record
          { stage = refl; held = refl; has_text = refl; name = refl; progress = refl; later = λ l. l };
    };
  };
}

begun_keeps : (device : Device) (s : Session) (disk : Disk) (task : Task) (more : List Task) →
    Keeps (with_tasks s more) (task_begun device (with_tasks s more) disk task)
begun_keeps device s disk task more = begins (λ device s disk task r. Keeps s r) begins_keep device (with_tasks s more) disk task

then_keeps : (s : Session) (tasks more : List Task) (a b : TargetStep) → Keeps (with_tasks s more) a → Keeps (with_tasks a.machine.session more) b →
    Keeps (with_tasks s tasks) (then_stepped a b)
then_keeps s tasks more a b k l = record {
  is = record {
    settings = l.is.settings ∙ k.is.settings;
    stays = λ later.
        let x = k.is.stays later in
        let y = l.is.stays (x.later later) in
        record {
          stage = y.stage ∙ x.stage;
          held = y.held ∙ x.held;
          has_text = y.has_text ∙ x.has_text;
          name = y.name ∙ x.name;
          progress = y.progress
              ∙ x.progress;
          later = λ _. y.later (x.later later);
        };
  };
}

of_session : (s : Session) (a b : List Task) (r : TargetStep) → Keeps (with_tasks s a) r → Keeps (with_tasks s b) r
of_session s a b r k = record {
  is = record {
    settings = k.is.settings;
    stays = λ l. (let x = k.is.stays l in
        record { stage = x.stage; held = x.held; has_text = x.has_text; name = x.name; progress = x.progress; later = x.later });
  };
}

turns_keep : Turns (λ device s disk tasks r. Keeps (with_tasks s []) r)
turns_keep = record {
  none_ = λ device s disk. record { is = same (with_tasks s []) };
  stop_ = λ device s disk task more why. of_session s more [] (task_begun device (with_tasks s more) disk task) (begun_keeps device s disk task more);
  then_ = λ device s disk task more b stays live u.
      (let r : TargetStep = task_begun device (with_tasks s more) disk task in
      then_keeps s [] [] r b (of_session s more [] r (begun_keeps device s disk task more)) u);
}

done_keeps : (device : Device) (s : Machine) (disk : Disk) (tasks : List Task) → Keeps s (done_in_turn device s.session disk tasks)
done_keeps device s disk tasks =
    of_session s.session [] s.tasks (done_in_turn device s.session disk tasks) (turns (λ device s disk tasks r. Keeps (with_tasks s []) r) turns_keep device
    s.session disk tasks)

-- the first of two, or both
one_or_both : (b : Bool) (s : Session) (first later : TargetStep) → Keeps (with_tasks s []) first → Keeps (with_tasks first.machine.session []) later →
    Keeps (with_tasks s []) (if b then first else then_stepped first later)
one_or_both true s first later k l = k
one_or_both false s first later k l = then_keeps s [] [] first later k l

first_keeps : (k : ℕ) (device : Device) (s : Session) (disk : Disk) (tasks : List Task) → Keeps (with_tasks s []) (done_first k device s disk tasks)
unfolding done_first
first_keeps zero device s disk tasks = of_session s tasks [] (unchanged (with_tasks s tasks) disk) (record { is = same (with_tasks s tasks) })
first_keeps (suc k) device s disk [] = record { is = same (with_tasks s []) }
first_keeps (suc k) device s disk (task ∷ more) =
    let r : TargetStep = task_begun device (with_tasks s more) disk task in
    one_or_both (stays more r || is_machine_closed r.machine) s r (done_first k (device_after r.executed device) r.machine.session r.disk more)
    (of_session s more [] r (begun_keeps device s disk task more))
    (first_keeps k (device_after r.executed device) r.machine.session r.disk more)

-- a request that was accepted
accepted_keeps : (s t : Machine) (m : Message) (r : TargetStep) → Accepts s m t → Keeps t r → Keeps s (having_accepted (m ∷ []) r)
accepted_keeps s _ m r (Immediately c none) k = record { is = k.is }
accepted_keeps s _ m r (InTurn n c w is) k = record {
  is = record {
    settings = k.is.settings;
    stays = λ l. (let x = k.is.stays l in record {
      stage = x.stage;
      held = x.held;
      has_text = x.has_text;
      name = x.name;
      progress
          = x.progress;
      later = x.later;
    });
  };
}

-- ---- all parts

parts_keep : (device : Device) (disk : Disk) → Parts device disk (λ s m r. Keeps s r)
parts_keep device disk = record {
  nothing_ = λ s m c. record { is = same s };
  shut_ = λ s m. record {
    is = record {
      settings = refl;
      stays = λ l. record
          { stage = refl; held = refl; has_text = refl; name = refl; progress = refl; later = λ l. tt };
    };
  };
  beside_ = λ s m r a is. reply_keeps s disk r (beside_keeps s.session r is.session);
  reject_and_close_ = λ s rule m. reply_keeps s disk _ (ends s.session);
  login_ = λ s m k. record { is = record { settings = login_keeps s.session m.head m.segment; stays = λ l. absurd (never s k l) } };
  taken_ = λ s m h w v k e f. record { is = (done_keeps device s disk _).is };
  refused_ = λ s t m rule a x. accepted_keeps s t m (breaks t disk rule m) x (reply_keeps t disk _ (ends t.session));
  admitted_ = λ s t m a x r is f. accepted_keeps s t m (done_in_turn device t.session disk _) x (done_keeps device t disk _);
}

-- ---- what comes of a PDU

-- tasks are done in a session that has what there was
abbrev NextKeeps : Session → Next → Type 0
NextKeeps s (Queued t tasks) = KeptSession s t × (t.phase ≡ s.phase)
NextKeeps s _ = Unit {0}

admitted_next : (s : Session) (t : Machine) (count : ℕ) (m : Message) (r : InboundRequest) → KeptSession s t.session → t.session.phase ≡ s.phase
    → NextKeeps s (admitted t (presented count m r))
admitted_next s t count m r k same =
    by_cases (is_tag_of t.tasks r.initiator_task_tag) (λ e. rw e tt)
    (λ e. by_cases (breaks_rules t.session.held (length (segment_bytes m.segment)) r.asks) (λ f. rw (e, f) tt) (λ f. rw (e, f) (k, same)))

advances : (s : Machine) → KeptSession s.session (advanced s).session
advances s = record { settings = refl; stays = λ l. record { stage = refl; held = refl; has_text = refl; name = refl; progress = refl; later = λ l. l } }

request_next : (s : Machine) (count : ℕ) (m : Message) (r : InboundRequest) → NextKeeps s.session (due_met s count m (inbounds.Request r)).next
request_next s count m r =
    by_cases r.immediate
    (λ i. by_cases (is_busy s.tasks) (λ e. rw (i, e) tt) (λ e. rw (i, e) (admitted_next s.session s count m r (same_session s.session) refl)))
    (λ i. by_cases (is_within r.cmd_sn s.session.exp_cmd_sn (max_cmd_sn s))
    (λ e. by_cases (r.cmd_sn == s.session.exp_cmd_sn) (λ f. rw (i, e, f) (admitted_next s.session (advanced s) count m r (advances s) refl))
    (λ f. rw (i, e, f) tt))
    (λ e. rw (i, e) tt))

taken_next : (s : Machine) (m : Message) (w : Option Write) → NextKeeps s.session (data_taken s m w)
taken_next s m None = tt
taken_next s m (Some w) = (same_session s.session, refl)

data_next : (s : Machine) (m : Message) (h : DataPdu) (bytes : List ℕ) (w : Option Write) → NextKeeps s.session (data_for s m h bytes w)
data_next s m h bytes None = tt
data_next s m h bytes (Some w) = taken_next s m (data_out_taken (first_burst s.session.held) w h bytes)

due_next : (s : Machine) (count : ℕ) (m : Message) (pdu : Inbound) → NextKeeps s.session (due_met s count m pdu).next
due_next s count m (inbounds.Data h) = data_next s m h (segment_bytes m.segment) (write_of s.tasks h.initiator_task_tag)
due_next s count m (inbounds.Request r) = request_next s count m r

inbound_next : (s : Machine) (count : ℕ) (m : Message) (pdu : Option Inbound) → NextKeeps s.session (inbound_met s count m pdu).next
inbound_next s count m None = tt
inbound_next s count m (Some pdu) =
    by_cases (may_come s.session.session_type pdu)
    (λ e. by_cases (is_segment_too_long s m) (λ f. rw (e, f) tt) (λ f. rw (e, f) (due_next s count m pdu)))
    (λ e. rw e tt)

full_next : (s : Machine) (count : ℕ) (m : Message) → NextKeeps s.session (full_met s count m).next
full_next s count m = inbound_next s count m (inbound m.head)

-- the phase in which tasks are done
pub queued_phase : (s : Machine) (count : ℕ) (m : Message) (session : Session) (tasks : List Task) → (full_met s count m).next ≡ Queued session tasks →
    session.phase ≡ s.session.phase
queued_phase s count m session tasks e = (subst (NextKeeps s.session) e (full_next s count m)).1

-- ---- a message

step_keeps : (device : Device) (s : Machine) (disk : Disk) (m : Message) → Kept s (step_on device s disk m).machine
step_keeps device s disk m = (step_parts device disk (λ s m r. Keeps s r) (parts_keep device disk) s m).is

pub begun_settings : (device : Device) (s : Session) (disk : Disk) (task : Task) (more : List Task) →
    (task_begun device (with_tasks s more) disk task).machine.session.settings ≡ s.settings
begun_settings device s disk task more = (begun_keeps device s disk task more).is.settings

pub done_settings : (device : Device) (s : Session) (disk : Disk) (tasks : List Task) → (done_in_turn device s disk tasks).machine.session.settings ≡ s.settings
done_settings device s disk tasks = (done_keeps device (with_tasks s tasks) disk tasks).is.settings

pub step_settings : (device : Device) (s : Machine) (disk : Disk) (m : Message) → (step_on device s disk m).machine.session.settings ≡ s.session.settings
step_settings device s disk m = (step_keeps device s disk m).settings

-- also after any messages
pub answers_settings : (protected : Bool) (s : Machine) (disk : Disk) (ms : List Message) → (answers protected s disk ms).machine.session.settings
    ≡ s.session.settings
unfolding answers
answers_settings protected s disk [] = refl
answers_settings protected s disk (m ∷ ms) =
    answers_settings protected (target_step protected s disk m).machine (target_step protected s disk m).disk ms ∙ step_settings (reliable protected) s disk m

pub step_stays : (device : Device) (s : Machine) (disk : Disk) (m : Message) → IsLater s.session.phase → Stays s (step_on device s disk m).machine
step_stays device s disk m = (step_keeps device s disk m).stays

-- also where memory ran out at one of its tasks
pub stop_stays : (protected : Bool) (s : Machine) (disk : Disk) (before : ℕ) (m : Message) (r : TargetStep) (after : ℕ)
    → MayStop protected s disk before m r after
    → Stays s r.machine
stop_stays protected s disk before m r after h =
    let x : KeptSession s.session h.session = (subst (NextKeeps s.session) h.queued (full_next s disk.count m)).0 in
    let y : Keeps (with_tasks h.session []) r = subst (Keeps (with_tasks h.session [])) (sym h.is) (first_keeps h.done h.device h.session disk h.tasks) in
    let l : IsLater s.session.phase = subst IsLater (sym h.full) tt in
    let a = x.stays l in
    let b = y.is.stays (a.later l) in
    record {
      stage = b.stage ∙ a.stage;
      held = b.held ∙ a.held;
      has_text = b.has_text ∙ a.has_text;
      name = b.name ∙ a.name;
      progress = b.progress
          ∙ a.progress;
      later = λ _. b.later (a.later l);
    }

pub stop_settings : (protected : Bool) (s : Machine) (disk : Disk) (before : ℕ) (m : Message) (r : TargetStep) (after : ℕ)
    → MayStop protected s disk before m r after → r.machine.session.settings ≡ s.session.settings
stop_settings protected s disk before m r after h =
    let x : KeptSession s.session h.session = (subst (NextKeeps s.session) h.queued (full_next s disk.count m)).0 in
    let y : Keeps (with_tasks h.session []) r = subst (Keeps (with_tasks h.session [])) (sym h.is) (first_keeps h.done h.device h.session disk h.tasks) in
    y.is.settings ∙ x.settings

-- Each outcome is that of its request.
use Rattle.std.proofs.Common.{◌≡◌, refl, ap, sym, ◌∙◌, subst, Bool, true, false, List, [], ◌∷◌, ◌++◌, ℕ, ◌+◌, ◌≤◌, Option, Some, None, length, is_some}
use Rattle.std.proofs.Common.{append_assoc, append-nil, arith, length-append}
use Rattle.std.specs.Prelude.{if◌then◌else◌, not, ◌&&◌, ◌==◌, nat_lt, unwrap_or, ◌||◌}
use Rattle.std.proofs.lemmas.Bool.{leb-true}
use Rattle.iscsi_pdu.specs.Fields.{is_tag}
use Rattle.iscsi_text.specs.Text.{Pairs}
use Rattle.iscsi_text.specs.Canonical.{canonical_text}
use Rattle.iscsi_pdu.specs.declared.head.Head.{Head}
use Rattle.iscsi_pdu.specs.declared.head.Head.TheVariants as heads
use Rattle.iscsi_pdu.specs.declared.head.login_response.LoginResponse.{LoginResponse}
use Rattle.iscsi_pdu.specs.declared.head.scsi_response.ScsiResponse.{ScsiResponse}
use Rattle.iscsi_pdu.specs.declared.head.data_in.DataIn.{DataIn}
use Rattle.scsi_cdb.specs.declared.residual.Residual.{Residual}
use Rattle.iscsi_stream.specs.Segment.{Segment, Bytes, segment_bytes}
use Rattle.iscsi_stream.specs.Segment as segments
use Rattle.iscsi_stream.specs.Stream.{Message}
use Rattle.iscsi_login.specs.Answer.{initiator_holds}
use Rattle.iscsi_login.specs.Check.{bad_key}
use Rattle.iscsi_login.specs.declared.stage.Stage.{Stage}
use Rattle.iscsi_login.specs.declared.stage.Stage.TheVariants as stages
use Rattle.iscsi_login.specs.declared.phase.Phase.{Phase}
use Rattle.iscsi_login.specs.declared.phase.Phase.TheVariants as phases
use Rattle.iscsi_initiator.specs.declared.request.Done.{Done}
use Rattle.iscsi_initiator.specs.declared.request.Done.TheVariants as done
use Rattle.iscsi_initiator.specs.declared.request.Request.{Request}
use Rattle.iscsi_initiator.specs.declared.request.Request.TheVariants as requests
use Rattle.iscsi_initiator.specs.declared.request.SubmitFault.{SubmitFault}
use Rattle.iscsi_initiator.specs.declared.outstanding.Outstanding.{Outstanding}
use Rattle.iscsi_initiator.specs.declared.outstanding.Outstanding.TheVariants.{In, Out, Ping, Text, Logout}
use Rattle.iscsi_initiator.specs.Progress.{ReadProgress, WriteProgress}
use Rattle.iscsi_initiator.specs.State.{InitiatorSettings, InitiatorSession, new_session, is_session_closed}
use Rattle.iscsi_pdu.specs.Serial.{next_sn}
use Rattle.iscsi_initiator.specs.Steps.{InitiatorStep, closed_session, rule_broken, quiet}
use Rattle.iscsi_initiator.specs.Login.{login_counted, fits_segment, moves_on, is_mid_text_answer, is_expected, start_step, initiator_login_step, begins_stage, answer_judged, offered}
use Rattle.iscsi_initiator.specs.Login.{login_text_answered, login_answer_in_turn, login_answered, following_stage, sends_text}
use Rattle.iscsi_initiator.specs.declared.target_pdu.Answer.{Answer}
use Rattle.iscsi_initiator.specs.declared.target_pdu.Answer.TheVariants as answers
use Rattle.iscsi_initiator.specs.declared.target_pdu.Content.{Content}
use Rattle.iscsi_initiator.specs.declared.target_pdu.Content.TheVariants as contents
use Rattle.iscsi_initiator.specs.declared.target_pdu.Counters.{Counters}
use Rattle.iscsi_initiator.specs.declared.target_pdu.TargetPdu.{TargetPdu}
use Rattle.iscsi_initiator.specs.TargetPdu.{target_pdu}
use Rattle.iscsi_initiator.specs.Full.{DuePdu, UnsolicitedNopIn, Pong, Data, R2t, Response, TextAnswer, LogoutAnswer, Async, RejectPdu, on_due, outcome_with}
use Rattle.iscsi_initiator.specs.Full.{sense_of, takes, due, due_to, pdu_step, initiator_full_step, fits_reading, fits_writing, update_counters, is_in_turn}
use Rattle.iscsi_initiator.specs.Full.{completes, has_received, read_outcome, residual}
use Rattle.iscsi_initiator.specs.Machine.{initiator_step, step_in, outcome_handed_out}
use Rattle.iscsi_initiator.specs.Submitted.{submitted, or_accepted, accepted as accept, submit_refusal, refusal_in}
use Rattle.iscsi_initiator.specs.declared.request.SubmitFault.TheVariants as refusals
use Rattle.iscsi_initiator.specs.Laws.{InitiatorEvent, Starts, Meets, Comes, Asks, Takes, Ends, session_after, run, accepted_requests, accepted_in, accepted_if, outcomes_given, outcome_given_in, listed}
use Rattle.iscsi_initiator.specs.Laws.{IsOutcomeOf, AreOutcomesOf, OutcomesInOrder}
use Rattle.iscsi_stream.proofs.ReadyLemmas.{and_right}

-- an outstanding request as it was handed in
abbrev pub IsFor : Outstanding → Request → Type 0
IsFor (In r) (requests.In lun cdb expected) = (r.expected ≡ expected) × (length r.received ≤ expected)
IsFor (Out w) (requests.Out lun cdb bytes) = Unit {0}
IsFor Ping (requests.Ping bytes) = Unit {0}
IsFor Text (requests.Text bytes) = Unit {0}
IsFor Logout requests.Logout = Unit {0}
IsFor _ _ = ⊥

-- ---- what one step does to the open request and its outcome

pub record Same (m n : InitiatorSession) : Type 0 where
  pub request : n.outstanding ≡ m.outstanding
  pub outcome : n.done ≡ m.done

pub record Further (m n : InitiatorSession) : Type 0 where
  pub old : Outstanding
  pub new : Outstanding
  pub was : m.outstanding ≡ Some old
  pub is : n.outstanding ≡ Some new
  pub outcome : n.done ≡ m.done
  pub fits : (r : Request) → IsFor old r → IsFor new r

pub record Completed (m n : InitiatorSession) : Type 0 where
  pub old : Outstanding
  pub outcome : Done
  pub was : m.outstanding ≡ Some old
  pub is : n.outstanding ≡ None
  pub given : n.done ≡ Some outcome
  pub fits : (r : Request) → IsFor old r → IsOutcomeOf r outcome

pub data Turn (m n : InitiatorSession) : Type 0 where
  stays : Same m n → Turn m n
  goes : Further m n → Turn m n
  ends : Completed m n → Turn m n

turn_if : (m : InitiatorSession) (b : Bool) (x y : InitiatorStep) → Turn m x.machine → Turn m y.machine → Turn m (if b then x else y).machine
turn_if m true x y p q = p
turn_if m false x y p q = q

same : (m n : InitiatorSession) → n.outstanding ≡ m.outstanding → n.done ≡ m.done → Turn m n
same m n a b = stays (record { request = a; outcome = b })

-- ---- in full feature phase

-- more data are received, within what is expected
more_fits : (r : ReadProgress) (bytes : List ℕ) (n : ℕ) → length r.received + length bytes ≤ r.expected → (q : Request) → IsFor (In r) q
    → IsFor (In (record r { received = r.received ++ bytes; next_data_sn = n })) q
more_fits r bytes n le (requests.In lun cdb expected) f = (
  f.0,
  rw (length-append r.received bytes)
      (subst (λ (e : ℕ). length r.received + length bytes ≤ e) f.0 le),
)
more_fits r bytes n le (requests.Out lun cdb sent) f = absurd f
more_fits r bytes n le (requests.Ping sent) f = absurd f
more_fits r bytes n le (requests.Text sent) f = absurd f
more_fits r bytes n le requests.Logout f = absurd f

read_fits : (r : ReadProgress) (bytes sense : List ℕ) (response status : ℕ) (q : Request) (o : Done) → o ≡ o → length bytes ≤ r.expected → IsFor (In r) q →
    (residual : _) → IsOutcomeOf q (done.Command response status sense bytes residual)
read_fits r bytes sense response status (requests.In lun cdb expected) o e le f residual = subst (λ (n : ℕ). length bytes ≤ n) f.0 le
read_fits r bytes sense response status (requests.Out lun cdb sent) o e le f residual = absurd f
read_fits r bytes sense response status (requests.Ping sent) o e le f residual = absurd f
read_fits r bytes sense response status (requests.Text sent) o e le f residual = absurd f
read_fits r bytes sense response status requests.Logout o e le f residual = absurd f

data_turn : (b c : Bool) (m : InitiatorSession) (r : ReadProgress) (h : DataIn) (bytes : List ℕ) → m.outstanding ≡ Some (In r) → fits_reading r h bytes ≡ b
    → Turn m (if not b then rule_broken m 3 else (if c then completes m (read_outcome (r.received ++ bytes) h) else quiet (has_received m r bytes))).machine
data_turn false c m r h bytes e f = same m (closed_session m) refl refl
data_turn true true m r h bytes e f =
    let le : length r.received + length bytes ≤ r.expected = leb-true _ _ (and_right _ _ f) in
    let le' : length (r.received ++ bytes) ≤ r.expected = rw (length-append r.received bytes) le in
    ends (record {
      old = In r;
      outcome = read_outcome (r.received ++ bytes) h;
      was = e;
      is = refl;
      given = refl;
      fits = λ q g. read_fits r (r.received ++ bytes) [] 0 (unwrap_or h.status 0) q done.Closed refl le' g _;
    })
data_turn true false m r h bytes e f =
    let le : length r.received + length bytes ≤ r.expected = leb-true _ _ (and_right _ _ f) in
    goes (record {
      old = In r;
      new = In (record r { received = r.received ++ bytes; next_data_sn = next_sn r.next_data_sn });
      was = e;
      is = refl;
      outcome = refl;
      fits = more_fits r bytes (next_sn r.next_data_sn) le;
    })

out_more : (w v : WriteProgress) (q : Request) → IsFor (Out w) q → IsFor (Out v) q
out_more w v (requests.In lun cdb expected) f = absurd f
out_more w v (requests.Out lun cdb sent) f = tt
out_more w v (requests.Ping sent) f = absurd f
out_more w v (requests.Text sent) f = absurd f
out_more w v requests.Logout f = absurd f

out_done : (w : WriteProgress) (sense : List ℕ) (response status : ℕ) (left : Residual) (q : Request) → IsFor (Out w) q →
    IsOutcomeOf q (done.Command response status sense [] left)
out_done w sense response status left (requests.In lun cdb expected) f = absurd f
out_done w sense response status left (requests.Out lun cdb sent) f = refl
out_done w sense response status left (requests.Ping sent) f = absurd f
out_done w sense response status left (requests.Text sent) f = absurd f
out_done w sense response status left requests.Logout f = absurd f

in_done : (r : ReadProgress) (sense : List ℕ) (response status : ℕ) (left : Residual) (q : Request) → IsFor (In r) q →
    IsOutcomeOf q (done.Command response status sense r.received left)
in_done r sense response status left (requests.In lun cdb expected) f = f.1
in_done r sense response status left (requests.Out lun cdb sent) f = absurd f
in_done r sense response status left (requests.Ping sent) f = absurd f
in_done r sense response status left (requests.Text sent) f = absurd f
in_done r sense response status left requests.Logout f = absurd f

ping_done : (bytes : List ℕ) (q : Request) → IsFor Ping q → IsOutcomeOf q (done.Ping bytes)
ping_done bytes (requests.In lun cdb expected) f = absurd f
ping_done bytes (requests.Out lun cdb sent) f = absurd f
ping_done bytes (requests.Ping sent) f = tt
ping_done bytes (requests.Text sent) f = absurd f
ping_done bytes requests.Logout f = absurd f

text_done : (bytes : List ℕ) (q : Request) → IsFor Text q → IsOutcomeOf q (done.Text bytes)
text_done bytes (requests.In lun cdb expected) f = absurd f
text_done bytes (requests.Out lun cdb sent) f = absurd f
text_done bytes (requests.Ping sent) f = absurd f
text_done bytes (requests.Text sent) f = tt
text_done bytes requests.Logout f = absurd f

logout_done : (q : Request) → IsFor Logout q → IsOutcomeOf q done.Closed
logout_done (requests.In lun cdb expected) f = absurd f
logout_done (requests.Out lun cdb sent) f = absurd f
logout_done (requests.Ping sent) f = absurd f
logout_done (requests.Text sent) f = absurd f
logout_done requests.Logout f = tt

in_response : (o : Option (List ℕ)) (m : InitiatorSession) (r : ReadProgress) (h : ScsiResponse) → m.outstanding ≡ Some (In r) →
    Turn m (outcome_with o m r.received h).machine
in_response None m r h e = same m (closed_session m) refl refl
in_response (Some sense) m r h e =
    ends (record {
      old = In r;
      outcome = done.Command h.response (unwrap_or h.status 0) sense r.received (residual h.overflow h.underflow (unwrap_or h.residual 0));
      was = e;
      is = refl;
      given = refl;
      fits = in_done r sense h.response (unwrap_or h.status 0) (residual h.overflow h.underflow (unwrap_or h.residual 0));
    })

out_response : (o : Option (List ℕ)) (m : InitiatorSession) (w : WriteProgress) (h : ScsiResponse) → m.outstanding ≡ Some (Out w)
    → Turn m (outcome_with o m [] h).machine
out_response None m w h e = same m (closed_session m) refl refl
out_response (Some sense) m w h e =
    ends (record {
      old = Out w;
      outcome = done.Command h.response (unwrap_or h.status 0) sense [] (residual h.overflow h.underflow (unwrap_or h.residual 0));
      was = e;
      is = refl;
      given = refl;
      fits = out_done w sense h.response (unwrap_or h.status 0) (residual h.overflow h.underflow (unwrap_or h.residual 0));
    })

unpassed : (m : InitiatorSession) (counters : Counters) (n : InitiatorSession) → Turn (update_counters m counters) n → Turn m n
unpassed m counters n (stays s) = stays (record { request = s.request; outcome = s.outcome })
unpassed m counters n (goes s) = goes (record { old = s.old; new = s.new; was = s.was; is = s.is; outcome = s.outcome; fits = s.fits })
unpassed m counters n (ends s) = ends (record { old = s.old; outcome = s.outcome; was = s.was; is = s.is; given = s.given; fits = s.fits })

some_turn : (m : InitiatorSession) (d : DuePdu) (counters : Counters) (bytes : List ℕ) →
    Turn (update_counters m counters) (on_due (update_counters m counters) d bytes).machine → Turn m (takes (Some d) counters m bytes).machine
some_turn m d counters bytes t =
    turn_if m (nat_lt m.held.initiator_max_recv (length bytes)) _ _ (same m (closed_session m) refl refl)
    (turn_if m (not (is_in_turn m.exp_stat_sn counters.stat_sn)) _ _ (same m (closed_session m) refl refl) (unpassed m counters _ t))

none_turn : (m : InitiatorSession) (counters : Counters) (bytes : List ℕ) → Turn m (takes None counters m bytes).machine
none_turn m counters bytes = same m (closed_session m) refl refl

due_turn : (q : Option Outstanding) (answer : Answer) (counters : Counters) (m : InitiatorSession) (bytes : List ℕ) → m.outstanding ≡ q →
    Turn m (takes (due_to q answer) counters m bytes).machine
due_turn (Some Ping) answers.Ping counters m bytes e =
    some_turn m Pong counters bytes (ends (record { old = Ping; outcome = done.Ping bytes; was = e; is = refl; given = refl; fits = ping_done bytes }))
due_turn (Some (In r)) (answers.Data h) counters m bytes e = some_turn m (Data r h) counters bytes
    (data_turn (fits_reading r h bytes) h.has_status (update_counters m counters) r h bytes e refl)
due_turn (Some (In r)) (answers.Response h) counters m bytes e = some_turn m (Response r.received h) counters bytes (in_response (sense_of bytes)
    (update_counters m counters) r h e)
due_turn (Some (Out w)) (answers.R2t h) counters m bytes e =
    let v : WriteProgress = record w { sent = w.sent + h.desired_data_transfer_length; next_r2t_sn = next_sn w.next_r2t_sn } in
    some_turn m (R2t w h) counters bytes (turn_if (update_counters m counters) (fits_writing (update_counters m counters) w h) _ _
    (goes (record { old = Out w; new = Out v; was = e; is = refl; outcome = refl; fits = out_more w v }))
    (same _ _ refl refl))
due_turn (Some (Out w)) (answers.Response h) counters m bytes e = some_turn m (Response [] h) counters bytes (out_response (sense_of bytes)
    (update_counters m counters) w h e)
due_turn (Some Text) (answers.Text h) counters m bytes e =
    some_turn m (TextAnswer h) counters bytes (turn_if (update_counters m counters) (h.is_final && not h.continues) _ _
    (ends (record { old = Text; outcome = done.Text bytes; was = e; is = refl; given = refl; fits = text_done bytes })) (same _ _ refl refl))
due_turn (Some Logout) answers.Logout counters m bytes e =
    some_turn m LogoutAnswer counters bytes (ends (record { old = Logout; outcome = done.Closed; was = e; is = refl; given = refl; fits = logout_done }))
due_turn _ _ counters m bytes e = none_turn m counters bytes

takes_if : (b : Bool) (x y : Option DuePdu) (counters : Counters) (m : InitiatorSession) (bytes : List ℕ) → Turn m (takes x counters m bytes).machine →
    Turn m (takes y counters m bytes).machine → Turn m (takes (if b then x else y) counters m bytes).machine
takes_if true x y counters m bytes p q = p
takes_if false x y counters m bytes p q = q

content_turn : (content : Content) (counters : Counters) (m : InitiatorSession) (bytes : List ℕ) → Turn m (takes (due m content) counters m bytes).machine
content_turn (contents.UnsolicitedNopIn h) counters m bytes =
    some_turn m (UnsolicitedNopIn h) counters bytes (turn_if (update_counters m counters) (is_tag h.target_transfer_tag) _ _ (same _ _ refl refl)
    (same _ _ refl refl))
content_turn contents.Async counters m bytes = some_turn m Async counters bytes (same _ _ refl refl)
content_turn contents.Reject counters m bytes = some_turn m RejectPdu counters bytes (same _ _ refl refl)
content_turn (contents.Tagged tag answer) counters m bytes =
    takes_if (tag == m.initiator_task_tag) (due_to m.outstanding answer) None counters m bytes (due_turn m.outstanding answer counters m bytes refl)
    (none_turn m counters bytes)

pdu_turn : (pdu : Option TargetPdu) (m : InitiatorSession) (bytes : List ℕ) → Turn m (pdu_step pdu m bytes).machine
pdu_turn None m bytes = same m (closed_session m) refl refl
pdu_turn (Some pdu) m bytes = content_turn pdu.content pdu.counters m bytes

full_turn : (head : Head) (m : InitiatorSession) (bytes : List ℕ) → Turn m (initiator_full_step m head bytes).machine
full_turn head m bytes = pdu_turn (target_pdu head) m bytes

-- ---- in the login

text_turn : (m n : InitiatorSession) → n.outstanding ≡ m.outstanding → n.done ≡ m.done → Turn m (sends_text n).machine
text_turn m n a b = turn_if m (fits_segment n (canonical_text (offered n))) _ _ (same m _ a b) (same m _ a b)

enters_turn : (stage : Stage) (m n : InitiatorSession) → n.outstanding ≡ m.outstanding → n.done ≡ m.done → Turn m (begins_stage stage n).machine
enters_turn stages.Full m n a b = same m _ a b
enters_turn stages.Security m n a b = let x : InitiatorSession = record n { stage = stages.Security } in text_turn m x a b
enters_turn stages.Operational m n a b = let x : InitiatorSession = record n { stage = stages.Operational } in text_turn m x a b

judged_turn : (o : Option (List ℕ)) (m : InitiatorSession) (h : LoginResponse) (answer : Pairs) → Turn m (answer_judged o m h answer).machine
judged_turn (Some key) m h answer = same m (closed_session m) refl refl
judged_turn None m h answer = let n : InitiatorSession = record (login_counted m h) { held = initiator_holds None answer m.held } in
    enters_turn (following_stage m.stage) m n refl refl

text_answered_turn : (m : InitiatorSession) (h : LoginResponse) (segment : Segment) → Turn m (login_text_answered m h segment).machine
text_answered_turn m h (Bytes bytes) = same m (closed_session m) refl refl
text_answered_turn m h (segments.Text pairs) = judged_turn (bad_key (offered m) pairs) m h pairs

in_turn_turn : (left : List ℕ) (m : InitiatorSession) (h : LoginResponse) (segment : Segment) → Turn m (login_answer_in_turn left m h segment).machine
in_turn_turn [] m h segment = turn_if m (moves_on m h) _ _ (text_answered_turn m h segment) (same m (closed_session m) refl refl)
in_turn_turn (byte ∷ bytes) m h segment = turn_if m (is_mid_text_answer m h segment) _ _ (same m _ refl refl) (same m (closed_session m) refl refl)

answered_turn : (m : InitiatorSession) (h : LoginResponse) (segment : Segment) → Turn m (login_answered m h segment).machine
answered_turn m h segment =
    turn_if m (not (h.status_class == 0)) _ _ (same m (closed_session m) refl refl)
    (turn_if m (not (is_expected m.exp_stat_sn (unwrap_or h.stat_sn 0))) _ _ (same m (closed_session m) refl refl) (in_turn_turn m.unsent_text m h segment))

login_turn : (m : InitiatorSession) (head : Head) (segment : Segment) → Turn m (initiator_login_step m head segment).machine
login_turn m (heads.LoginResponse h) segment = turn_if m (h.initiator_task_tag == 0) _ _ (answered_turn m h segment) (same m (closed_session m) refl refl)
login_turn m _ segment = same m (closed_session m) refl refl

step_turn : (p : Phase) (m : InitiatorSession) (message : Message) → Turn m (step_in p m message).machine
step_turn phases.Login m message = turn_if m m.started _ _ (login_turn m message.head message.segment) (same m (closed_session m) refl refl)
step_turn phases.Full m message = full_turn message.head m (segment_bytes message.segment)
step_turn phases.Closed m message = same m m refl refl

start_turn : (m : InitiatorSession) → Turn m (start_step m).machine
start_turn m = let n : InitiatorSession = record m { started = true } in turn_if m m.started _ _ (same m (closed_session m) refl refl) (text_turn m n refl refl)

if_turn : (b : Bool) (m n : InitiatorSession) → Turn m n → Turn m (if b then m else n)
if_turn true m n t = same m m refl refl
if_turn false m n t = t

-- ---- the invariant

-- each request has its outcome
abbrev pub AllOutcomes : List Request → List Done → Type 0
AllOutcomes [] [] = Unit {0}
AllOutcomes (request ∷ requests) (outcome ∷ outcomes) = IsOutcomeOf request outcome × AllOutcomes requests outcomes
AllOutcomes _ _ = ⊥

pub record Idle (m : InitiatorSession) (asked : List Request) (taken_so_far : List Done) : Type 0 where
  pub none : m.outstanding ≡ None
  pub all : AllOutcomes asked (taken_so_far ++ listed m.done)

pub record Waits (m : InitiatorSession) (asked : List Request) (taken_so_far : List Done) : Type 0 where
  pub front : List Request
  pub request : Request
  pub outstanding : Outstanding
  pub split : asked ≡ front ++ request ∷ []
  pub is : m.outstanding ≡ Some outstanding
  pub fits : IsFor outstanding request
  pub outcome : m.done ≡ None
  pub all : AllOutcomes front taken_so_far

pub data Inv (m : InitiatorSession) (asked : List Request) (taken_so_far : List Done) : Type 0 where
  idle : Idle m asked taken_so_far → Inv m asked taken_so_far
  waits : Waits m asked taken_so_far → Inv m asked taken_so_far

all_snoc : (rs : List Request) (ds : List Done) (r : Request) (d : Done) → AllOutcomes rs ds → IsOutcomeOf r d → AllOutcomes (rs ++ r ∷ []) (ds ++ d ∷ [])
all_snoc [] [] r d a i = (i, tt)
all_snoc [] (x ∷ ds) r d a i = absurd a
all_snoc (x ∷ rs) [] r d a i = absurd a
all_snoc (x ∷ rs) (y ∷ ds) r d a i = (a.0, all_snoc rs ds r d a.1 i)

abbrev IsNone : Option Outstanding → Type 0
IsNone None = Unit {0}
IsNone (Some o) = ⊥

never_both : (o : Option Outstanding) (x : Outstanding) → o ≡ None → o ≡ Some x → ⊥
never_both o x e f = subst (λ (p : Option Outstanding). IsNone p) (sym e ∙ f) tt

abbrev or_open : Option Outstanding → Outstanding → Outstanding
or_open None d = d
or_open (Some o) d = o

one_open : (o : Option Outstanding) (x y : Outstanding) → o ≡ Some x → o ≡ Some y → x ≡ y
one_open o x y e f = ap (λ (p : Option Outstanding). or_open p x) (sym e ∙ f)

turn_inv : (m n : InitiatorSession) (rs : List Request) (ds : List Done) → Turn m n → Inv m rs ds → Inv n rs ds
turn_inv m n rs ds (stays s) (idle i) =
    idle (record { none = s.request ∙ i.none; all = subst (λ (d : Option Done). AllOutcomes rs (ds ++ listed d)) (sym s.outcome) i.all })
turn_inv m n rs ds (stays s) (waits w) =
    waits (record {
      front = w.front;
      request = w.request;
      outstanding = w.outstanding;
      split = w.split;
      is = s.request ∙ w.is;
      fits = w.fits;
      outcome = s.outcome ∙ w.outcome;
      all = w.all;
    })
turn_inv m n rs ds (goes g) (idle i) = absurd (never_both m.outstanding g.old i.none g.was)
turn_inv m n rs ds (goes g) (waits w) =
    waits (record {
      front = w.front;
      request = w.request;
      outstanding = g.new;
      split = w.split;
      is = g.is;
      fits = g.fits w.request (subst (λ (o : Outstanding). IsFor o w.request) (one_open m.outstanding w.outstanding g.old w.is g.was) w.fits);
      outcome = g.outcome ∙ w.outcome;
      all = w.all;
    })
turn_inv m n rs ds (ends g) (idle i) = absurd (never_both m.outstanding g.old i.none g.was)
turn_inv m n rs ds (ends g) (waits w) =
    let o : IsOutcomeOf w.request g.outcome = g.fits w.request (subst (λ (o : Outstanding). IsFor o w.request)
    (one_open m.outstanding w.outstanding g.old w.is g.was) w.fits) in
    idle (record {
      none = g.is;
      all = subst (λ (xs : List Request). AllOutcomes xs (ds ++ listed n.done)) (sym w.split)
          (subst (λ (d : Option Done). AllOutcomes (w.front ++ w.request ∷ []) (ds ++ listed d)) (sym g.given)
          (all_snoc w.front ds w.request g.outcome w.all o));
    })

-- ---- requests

abbrev IsYes : Bool → Type 0
IsYes true = Unit {0}
IsYes false = ⊥

is_none_of : (o : Option Outstanding) (d : Option Done) → (is_some o || is_some d) ≡ false → (o ≡ None) × (d ≡ None)
is_none_of None None e = (refl, refl)
is_none_of None (Some d) e = absurd (subst (λ (x : Bool). IsYes x) e tt)
is_none_of (Some o) d e = absurd (subst (λ (x : Bool). IsYes x) e tt)

abbrev IsFault : Option SubmitFault → Type 0
IsFault None = ⊥
IsFault (Some f) = Unit {0}

no_fault : (f : SubmitFault) → Some f ≡ None → ⊥
no_fault f e = subst (λ (x : Option SubmitFault). IsFault x) e tt

full_free : (b : Bool) (m : InitiatorSession) (rest : Option SubmitFault) → (is_some m.outstanding || is_some m.done) ≡ b
    → (if b then Some refusals.Busy else rest)
    ≡ None → (m.outstanding ≡ None) × (m.done ≡ None)
full_free true m rest e f = absurd (no_fault refusals.Busy f)
full_free false m rest e f = is_none_of m.outstanding m.done e

free_in : (p : Phase) (m : InitiatorSession) (r : Request) → refusal_in p m r ≡ None → (m.outstanding ≡ None) × (m.done ≡ None)
free_in phases.Closed m r f = absurd (no_fault refusals.Closed f)
free_in phases.Login m r f = absurd (no_fault refusals.NotReady f)
free_in phases.Full m r f = full_free (is_some m.outstanding || is_some m.done) m _ refl f

waits_for : (m n : InitiatorSession) (rs : List Request) (ds : List Done) (r : Request) (o : Outstanding) → m.done ≡ None → AllOutcomes rs (ds ++ listed m.done)
    →
    n.outstanding ≡ Some o → n.done ≡ m.done → IsFor o r
    → Inv n (rs ++ r ∷ []) ds
waits_for m n rs ds r o e a is same_outcome f =
    let all : AllOutcomes rs ds = subst (λ (xs : List Done). AllOutcomes rs xs) (append-nil ds)
    (subst (λ (d : Option Done). AllOutcomes rs (ds ++ listed d)) e a) in
    waits (record { front = rs; request = r; outstanding = o; split = refl; is = is; fits = f; outcome = same_outcome ∙ e; all = all })

accept_inv : (m : InitiatorSession) (r : Request) (rs : List Request) (ds : List Done) → m.done ≡ None → AllOutcomes rs (ds ++ listed m.done) →
    Inv (accept m r).machine (rs ++ r ∷ []) ds
accept_inv m (requests.In lun cdb expected) rs ds e a = waits_for m _ rs ds _ _ e a refl refl (refl, omega arith)
accept_inv m (requests.Out lun cdb bytes) rs ds e a = waits_for m _ rs ds _ _ e a refl refl tt
accept_inv m (requests.Ping bytes) rs ds e a = waits_for m _ rs ds _ _ e a refl refl tt
accept_inv m (requests.Text bytes) rs ds e a = waits_for m _ rs ds _ _ e a refl refl tt
accept_inv m requests.Logout rs ds e a = waits_for m _ rs ds _ _ e a refl refl tt

asks_inv : (o : Option SubmitFault) (m : InitiatorSession) (r : Request) (rs : List Request) (ds : List Done) → submit_refusal m r ≡ o → Inv m rs ds →
    Inv (or_accepted o m r).machine (rs ++ accepted_if o r) ds
asks_inv (Some f) m r rs ds e i = subst (λ (xs : List Request). Inv m xs ds) (sym (append-nil rs)) i
asks_inv None m r rs ds e (idle i) = accept_inv m r rs ds (free_in m.phase m r e).1 i.all
asks_inv None m r rs ds e (waits w) = absurd (never_both m.outstanding w.outstanding (free_in m.phase m r e).0 w.is)

takes_inv : (m : InitiatorSession) (rs : List Request) (ds : List Done) → Inv m rs ds → Inv (outcome_handed_out m) rs (ds ++ listed m.done)
takes_inv m rs ds (idle i) = idle (record { none = i.none; all = subst (λ (xs : List Done). AllOutcomes rs xs) (sym (append-nil (ds ++ listed m.done))) i.all })
takes_inv m rs ds (waits w) =
    waits (record {
      front = w.front;
      request = w.request;
      outstanding = w.outstanding;
      split = w.split;
      is = w.is;
      fits = w.fits;
      outcome = refl;
      all = subst (λ (d : Option Done). AllOutcomes w.front (ds ++ listed d)) (sym w.outcome)
          (subst (λ (xs : List Done). AllOutcomes w.front xs) (sym (append-nil ds)) w.all);
    })

none_more : (m n : InitiatorSession) (rs : List Request) (ds : List Done) → Turn m n → Inv m rs ds → Inv n (rs ++ []) (ds ++ [])
none_more m n rs ds t i =
    subst (λ (xs : List Request). Inv n xs (ds ++ [])) (sym (append-nil rs)) (subst (λ (ys : List Done). Inv n rs ys) (sym (append-nil ds))
    (turn_inv m n rs ds t i))

event_inv : (m : InitiatorSession) (event : InitiatorEvent) (rs : List Request) (ds : List Done) → Inv m rs ds →
    Inv (session_after m event) (rs ++ accepted_in m event) (ds ++ outcome_given_in m event)
unfolding initiator_step submitted
event_inv m Starts rs ds i = none_more m _ rs ds (if_turn (is_session_closed m) m (start_step m).machine (start_turn m)) i
event_inv m (Meets (Comes message)) rs ds i = none_more m _ rs ds (step_turn m.phase m message) i
event_inv m (Meets (Asks request)) rs ds i =
    subst (λ (ys : List Done). Inv (or_accepted (submit_refusal m request) m request).machine (rs ++ accepted_if (submit_refusal m request) request) ys)
    (sym (append-nil ds))
    (asks_inv (submit_refusal m request) m request rs ds refl i)
event_inv m (Meets Takes) rs ds i = subst (λ (xs : List Request). Inv (outcome_handed_out m) xs (ds ++ listed m.done)) (sym (append-nil rs)) (takes_inv m rs ds i)
event_inv m Ends rs ds i = none_more m (closed_session m) rs ds (same m (closed_session m) refl refl) i

-- ---- runs

run_inv : (m : InitiatorSession) (events : List InitiatorEvent) (rs : List Request) (ds : List Done) → Inv m rs ds →
    Inv (run m events) (rs ++ accepted_requests m events) (ds ++ outcomes_given m events)
run_inv m [] rs ds i = none_more m m rs ds (same m m refl refl) i
run_inv m (event ∷ events) rs ds i =
    subst (λ (xs : List Request). Inv (run (session_after m event) events) xs
    (ds ++ (outcome_given_in m event ++ outcomes_given (session_after m event) events)))
    (append_assoc rs (accepted_in m event) (accepted_requests (session_after m event) events))
    (subst (λ (ys : List Done). Inv (run (session_after m event) events) (rs ++ accepted_in m event ++ accepted_requests (session_after m event) events) ys)
    (append_assoc ds (outcome_given_in m event) (outcomes_given (session_after m event) events))
    (run_inv (session_after m event) events (rs ++ accepted_in m event) (ds ++ outcome_given_in m event) (event_inv m event rs ds i)))

all_are : (rs : List Request) (ds : List Done) → AllOutcomes rs ds → AreOutcomesOf rs ds
all_are [] [] a = omega arith
all_are [] (d ∷ ds) a = absurd a
all_are (r ∷ rs) [] a = absurd a
all_are (r ∷ rs) (d ∷ ds) a = (a.0, all_are rs ds a.1)

all_but_one : (rs : List Request) (r : Request) (ds : List Done) → AllOutcomes rs ds → AreOutcomesOf (rs ++ r ∷ []) ds
all_but_one [] r [] a = omega arith
all_but_one [] r (d ∷ ds) a = absurd a
all_but_one (x ∷ rs) r [] a = absurd a
all_but_one (x ∷ rs) r (d ∷ ds) a = (a.0, all_but_one rs r ds a.1)

inv_says : (m : InitiatorSession) (rs : List Request) (ds : List Done) → Inv m rs ds → AreOutcomesOf rs (ds ++ listed m.done)
inv_says m rs ds (idle i) = all_are rs (ds ++ listed m.done) i.all
inv_says m rs ds (waits w) =
    subst (λ (xs : List Request). AreOutcomesOf xs (ds ++ listed m.done)) (sym w.split)
    (all_but_one w.front w.request (ds ++ listed m.done)
    (subst (λ (d : Option Done). AllOutcomes w.front (ds ++ listed d)) (sym w.outcome)
    (subst (λ (xs : List Done). AllOutcomes w.front xs) (sym (append-nil ds)) w.all)))

pub outcomes_in_order : (settings : InitiatorSettings) → OutcomesInOrder settings
outcomes_in_order settings events =
    inv_says (run (new_session settings) events) (accepted_requests (new_session settings) events) (outcomes_given (new_session settings) events)
    (run_inv (new_session settings) events [] [] (idle (record { none = refl; all = tt })))

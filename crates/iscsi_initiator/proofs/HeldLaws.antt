-- What is held after the login stays.
use Rattle.std.proofs.Common.{◌≡◌, refl, sym, ◌∙◌, subst, Bool, true, false, List, [], ◌∷◌, ℕ, Option, Some, None, length}
use Rattle.std.specs.Prelude.{if◌then◌else◌, not, ◌&&◌, ◌==◌, nat_lt, unwrap_or}
use Rattle.iscsi_pdu.specs.Fields.{is_tag}
use Rattle.iscsi_text.specs.Canonical.{canonical_text}
use Rattle.iscsi_pdu.specs.declared.head.Head.{Head}
use Rattle.iscsi_pdu.specs.declared.head.Head.TheVariants as heads
use Rattle.iscsi_pdu.specs.declared.head.login_response.LoginResponse.{LoginResponse}
use Rattle.iscsi_pdu.specs.declared.head.scsi_response.ScsiResponse.{ScsiResponse}
use Rattle.iscsi_text.specs.Text.{Pairs}
use Rattle.iscsi_stream.specs.Segment.{Segment, Bytes, segment_bytes}
use Rattle.iscsi_stream.specs.Segment as segments
use Rattle.iscsi_stream.specs.Stream.{Message}
use Rattle.iscsi_login.specs.Answer.{initiator_holds}
use Rattle.iscsi_login.specs.Check.{bad_key}
use Rattle.iscsi_login.specs.declared.stage.Stage.{Stage}
use Rattle.iscsi_login.specs.declared.stage.Stage.TheVariants as stages
use Rattle.iscsi_login.specs.declared.phase.Phase.{Phase}
use Rattle.iscsi_login.specs.declared.phase.Phase.TheVariants as phases
use Rattle.iscsi_initiator.specs.declared.request.Request.{Request}
use Rattle.iscsi_initiator.specs.declared.request.Request.TheVariants.{In, Out, Ping, Text, Logout}
use Rattle.iscsi_initiator.specs.declared.request.SubmitFault.{SubmitFault}
use Rattle.iscsi_initiator.specs.State.{InitiatorSettings, InitiatorSession, new_session, is_session_closed}
use Rattle.iscsi_initiator.specs.Steps.{InitiatorStep, closed_session, rule_broken}
use Rattle.iscsi_initiator.specs.Login.{login_counted, fits_segment, moves_on, is_mid_text_answer, is_expected, start_step, initiator_login_step, begins_stage, answer_judged, offered}
use Rattle.iscsi_initiator.specs.Login.{login_text_answered, login_answer_in_turn, login_answered, following_stage, sends_text}
use Rattle.iscsi_initiator.specs.declared.target_pdu.Counters.{Counters}
use Rattle.iscsi_initiator.specs.declared.target_pdu.TargetPdu.{TargetPdu}
use Rattle.iscsi_initiator.specs.TargetPdu.{target_pdu}
use Rattle.iscsi_initiator.specs.Full.{DuePdu, UnsolicitedNopIn, Pong, Data, R2t, Response, TextAnswer, LogoutAnswer, Async, RejectPdu, on_due, outcome_with}
use Rattle.iscsi_initiator.specs.Full.{sense_of, takes, due, pdu_step, initiator_full_step, fits_reading, fits_writing, update_counters, is_in_turn}
use Rattle.iscsi_initiator.specs.Machine.{initiator_step, step_in, outcome_handed_out}
use Rattle.iscsi_initiator.specs.Submitted.{submitted, or_accepted, accepted, submit_refusal}
use Rattle.iscsi_initiator.specs.Configured.{IsStart}
use Rattle.iscsi_initiator.specs.Laws.{InitiatorEvent, Starts, Meets, Comes, Asks, Takes, Ends, session_after, run, HeldStays}

-- ---- in full feature phase

abbrev pub IsShut : Phase → Type 0
IsShut phases.Closed = Unit {0}
IsShut _ = ⊥

abbrev pub IsLast : Stage → Type 0
IsLast stages.Full = Unit {0}
IsLast _ = ⊥

abbrev pub IsFull : Phase → Type 0
IsFull phases.Full = Unit {0}
IsFull _ = ⊥

abbrev pub IsYes : Bool → Type 0
IsYes true = Unit {0}
IsYes false = ⊥

-- what a step in full feature phase keeps
pub record Keeps (m : InitiatorSession) (r : InitiatorStep) : Type 0 where
  pub stage : r.machine.stage ≡ m.stage
  pub held : r.machine.held ≡ m.held
  pub started : r.machine.started ≡ m.started
  -- it doesn't lead back to the login
  pub phase : r.machine.phase ≡ phases.Login → m.phase ≡ phases.Login

keeps_if : (m : InitiatorSession) (b : Bool) (x y : InitiatorStep) → Keeps m x → Keeps m y → Keeps m (if b then x else y)
keeps_if m true x y p q = p
keeps_if m false x y p q = q

kept : (m : InitiatorSession) (r : InitiatorStep) → r.machine.stage ≡ m.stage → r.machine.held ≡ m.held → r.machine.started ≡ m.started → r.machine.phase
    ≡ m.phase → Keeps m r
kept m r a b c e = record { stage = a; held = b; started = c; phase = λ f. sym e ∙ f }

shuts : (m : InitiatorSession) (r : InitiatorStep) → r.machine.stage ≡ m.stage → r.machine.held ≡ m.held → r.machine.started ≡ m.started → r.machine.phase
    ≡ phases.Closed →
    Keeps m r
shuts m r a b c e = record { stage = a; held = b; started = c; phase = λ f. absurd (subst (λ (p : Phase). IsShut p) (sym e ∙ f) tt) }

outcome_keeps : (o : Option (List ℕ)) (m : InitiatorSession) (received : List ℕ) (h : ScsiResponse) → Keeps m (outcome_with o m received h)
outcome_keeps None m received h = shuts m _ refl refl refl refl
outcome_keeps (Some sense) m received h = kept m _ refl refl refl refl

on_due_keeps : (m : InitiatorSession) (d : DuePdu) (bytes : List ℕ) → Keeps m (on_due m d bytes)
on_due_keeps m (UnsolicitedNopIn h) bytes = keeps_if m (is_tag h.target_transfer_tag) _ _ (kept m _ refl refl refl refl) (kept m _ refl refl refl refl)
on_due_keeps m Pong bytes = kept m _ refl refl refl refl
on_due_keeps m (Data r h) bytes =
    keeps_if m (not (fits_reading r h bytes)) _ _ (shuts m _ refl refl refl refl)
    (keeps_if m h.has_status _ _ (kept m _ refl refl refl refl) (kept m _ refl refl refl refl))
on_due_keeps m (R2t w h) bytes = keeps_if m (fits_writing m w h) _ _ (kept m _ refl refl refl refl) (shuts m _ refl refl refl refl)
on_due_keeps m (Response received h) bytes = outcome_keeps (sense_of bytes) m received h
on_due_keeps m (TextAnswer h) bytes = keeps_if m (h.is_final && not h.continues) _ _ (kept m _ refl refl refl refl) (shuts m _ refl refl refl refl)
on_due_keeps m LogoutAnswer bytes = shuts m _ refl refl refl refl
on_due_keeps m Async bytes = kept m _ refl refl refl refl
on_due_keeps m RejectPdu bytes = shuts m _ refl refl refl refl

passed_keeps : (m : InitiatorSession) (counters : Counters) (r : InitiatorStep) → Keeps (update_counters m counters) r → Keeps m r
passed_keeps m counters r k = record { stage = k.stage; held = k.held; started = k.started; phase = k.phase }

takes_keeps : (o : Option DuePdu) (counters : Counters) (m : InitiatorSession) (bytes : List ℕ) → Keeps m (takes o counters m bytes)
takes_keeps None counters m bytes = shuts m _ refl refl refl refl
takes_keeps (Some d) counters m bytes =
    keeps_if m (nat_lt m.held.initiator_max_recv (length bytes)) _ _ (shuts m _ refl refl refl refl)
    (keeps_if m (not (is_in_turn m.exp_stat_sn counters.stat_sn)) _ _ (shuts m _ refl refl refl refl)
    (passed_keeps m counters _ (on_due_keeps (update_counters m counters) d bytes)))

pdu_keeps : (pdu : Option TargetPdu) (m : InitiatorSession) (bytes : List ℕ) → Keeps m (pdu_step pdu m bytes)
pdu_keeps None m bytes = shuts m _ refl refl refl refl
pdu_keeps (Some pdu) m bytes = takes_keeps (due m pdu.content) pdu.counters m bytes

pub full_keeps : (m : InitiatorSession) (head : Head) (bytes : List ℕ) → Keeps m (initiator_full_step m head bytes)
full_keeps m head bytes = pdu_keeps (target_pdu head) m bytes

-- ---- the invariant: a login that goes on has not reached the last stage

pub record Sound (m : InitiatorSession) : Type 0 where
  pub login : m.phase ≡ phases.Login → m.stage ≡ stages.Full → ⊥
  pub started : m.stage ≡ stages.Full → m.started ≡ true

sound_if : (b : Bool) (x y : InitiatorStep) → Sound x.machine → Sound y.machine → Sound (if b then x else y).machine
sound_if true x y p q = p
sound_if false x y p q = q

-- it is closed, and as sound as before
closed_sound : (m : InitiatorSession) → Sound m → Sound (closed_session m)
closed_sound m s = record { login = λ e f. subst (λ (p : Phase). IsShut p) e tt; started = s.started }

text_sound : (m : InitiatorSession) → Sound m → Sound (sends_text m).machine
text_sound m s =
    sound_if (fits_segment m (canonical_text (offered m))) _ _ (record { login = s.login; started = s.started })
    (record { login = s.login; started = s.started })

enters_sound : (stage : Stage) (m : InitiatorSession) → m.started ≡ true → Sound (begins_stage stage m).machine
enters_sound stages.Full m t = record { login = λ e f. subst (λ (p : Phase). IsFull p) e tt; started = λ f. t }
enters_sound stages.Security m t =
    let n : InitiatorSession = record m { stage = stages.Security } in text_sound n (record {
      login = λ e f. subst (λ (p : Stage). IsLast p) (sym f) tt;
      started = λ f. t;
    })
enters_sound stages.Operational m t =
    let n : InitiatorSession = record m { stage = stages.Operational } in text_sound n (record {
      login = λ e f. subst (λ (p : Stage). IsLast p) (sym f) tt;
      started = λ f. t;
    })

judged_sound : (o : Option (List ℕ)) (m : InitiatorSession) (h : LoginResponse) (answer : Pairs) → Sound m → m.started ≡ true
    → Sound (answer_judged o m h answer).machine
judged_sound (Some key) m h answer s t = closed_sound m s
judged_sound None m h answer s t =
    let n : InitiatorSession = record (login_counted m h) { held = initiator_holds None answer m.held } in
    enters_sound (following_stage m.stage) n t

text_answered_sound : (m : InitiatorSession) (h : LoginResponse) (segment : Segment) → Sound m → m.started ≡ true
    → Sound (login_text_answered m h segment).machine
text_answered_sound m h (Bytes bytes) s t = closed_sound m s
text_answered_sound m h (segments.Text pairs) s t = judged_sound (bad_key (offered m) pairs) m h pairs s t

in_turn_sound : (left : List ℕ) (m : InitiatorSession) (h : LoginResponse) (segment : Segment) → Sound m → m.started ≡ true
    → Sound (login_answer_in_turn left m h segment).machine
in_turn_sound [] m h segment s t = sound_if (moves_on m h) _ _ (text_answered_sound m h segment s t) (closed_sound m s)
in_turn_sound (byte ∷ bytes) m h segment s t =
    sound_if (is_mid_text_answer m h segment) _ _ (record { login = s.login; started = s.started }) (closed_sound m s)

answered_sound : (m : InitiatorSession) (h : LoginResponse) (segment : Segment) → Sound m → m.started ≡ true → Sound (login_answered m h segment).machine
answered_sound m h segment s t =
    sound_if (not (h.status_class == 0)) _ _ (closed_sound m s)
    (sound_if (not (is_expected m.exp_stat_sn (unwrap_or h.stat_sn 0))) _ _ (closed_sound m s) (in_turn_sound m.unsent_text m h segment s t))

login_sound : (m : InitiatorSession) (head : Head) (segment : Segment) → Sound m → m.started ≡ true → Sound (initiator_login_step m head segment).machine
login_sound m (heads.LoginResponse h) segment s t = sound_if (h.initiator_task_tag == 0) _ _ (answered_sound m h segment s t) (closed_sound m s)
login_sound m _ segment s t = closed_sound m s

-- ---- an event

-- the invariant holds after it, and what is agreed is kept
pub record Goes (m n : InitiatorSession) : Type 0 where
  pub sound : Sound n
  pub stays : m.stage ≡ stages.Full → (n.stage ≡ m.stage) × (n.held ≡ m.held)

goes_by : (m n : InitiatorSession) → Sound m → n.stage ≡ m.stage → n.held ≡ m.held → n.started ≡ m.started → (n.phase ≡ phases.Login → m.phase ≡ phases.Login)
    → Goes m n
goes_by m n s a b t e = record { sound = record { login = λ f g. s.login (e f) (sym a ∙ g); started = λ g. t ∙ s.started (sym a ∙ g) }; stays = λ f. (a, b) }

login_goes : (b : Bool) (m : InitiatorSession) (message : Message) → m.started ≡ b → m.phase ≡ phases.Login → Sound m
    → Goes m (if b then initiator_login_step m message.head message.segment else rule_broken m 1).machine
login_goes true m message t e s = record { sound = login_sound m message.head message.segment s t; stays = λ f. absurd (s.login e f) }
login_goes false m message t e s = record { sound = closed_sound m s; stays = λ f. absurd (s.login e f) }

step_goes : (p : Phase) (m : InitiatorSession) (message : Message) → m.phase ≡ p → Sound m → Goes m (step_in p m message).machine
step_goes phases.Login m message e s = login_goes m.started m message refl e s
step_goes phases.Full m message e s =
    let k = full_keeps m message.head (segment_bytes message.segment) in goes_by m _ s k.stage k.held k.started k.phase
step_goes phases.Closed m message e s = goes_by m m s refl refl refl (λ f. f)

accepted_goes : (m : InitiatorSession) (r : Request) → Sound m → Goes m (accepted m r).machine
accepted_goes m (In lun cdb expected) s = goes_by m _ s refl refl refl (λ f. f)
accepted_goes m (Out lun cdb bytes) s = goes_by m _ s refl refl refl (λ f. f)
accepted_goes m (Ping bytes) s = goes_by m _ s refl refl refl (λ f. f)
accepted_goes m (Text bytes) s = goes_by m _ s refl refl refl (λ f. f)
accepted_goes m Logout s = goes_by m _ s refl refl refl (λ f. f)

submitted_goes : (o : Option SubmitFault) (m : InitiatorSession) (r : Request) → Sound m → Goes m (or_accepted o m r).machine
submitted_goes None m r s = accepted_goes m r s
submitted_goes (Some fault) m r s = goes_by m m s refl refl refl (λ f. f)

start_sound : (m : InitiatorSession) → (m.stage ≡ stages.Full → ⊥) → Sound (sends_text (record m { started = true })).machine
start_sound m f = let n : InitiatorSession = record m { started = true } in text_sound n (record { login = λ a b. f b; started = λ a. refl })

-- a start in full feature phase, which breaks a rule, keeps what is agreed
started_goes : (c : Bool) (m : InitiatorSession) → m.started ≡ c → Sound m
    → Goes m (if c then rule_broken m 1 else sends_text (record m { started = true })).machine
started_goes true m d s = goes_by m (closed_session m) s refl refl refl (λ g. absurd (subst (λ (p : Phase). IsShut p) g tt))
started_goes false m d s =
    let never : m.stage ≡ stages.Full → ⊥ = λ g. subst (λ (b : Bool). IsYes b) (sym (s.started g) ∙ d) tt in
    record { sound = start_sound m never; stays = λ g. absurd (never g) }

start_goes : (b : Bool) (m : InitiatorSession) → Sound m → Goes m (if b then m else (start_step m).machine)
start_goes true m s = goes_by m m s refl refl refl (λ f. f)
start_goes false m s = started_goes m.started m refl s

event_goes : (m : InitiatorSession) (e : InitiatorEvent) → Sound m → Goes m (session_after m e)
unfolding initiator_step submitted
event_goes m Starts s = start_goes (is_session_closed m) m s
event_goes m (Meets (Comes message)) s = step_goes m.phase m message refl s
event_goes m (Meets (Asks request)) s = submitted_goes (submit_refusal m request) m request s
event_goes m (Meets Takes) s = goes_by m (outcome_handed_out m) s refl refl refl (λ f. f)
event_goes m Ends s = goes_by m (closed_session m) s refl refl refl (λ g. absurd (subst (λ (p : Phase). IsShut p) g tt))

-- ---- runs

run_goes : (m : InitiatorSession) (events : List InitiatorEvent) → Sound m → Goes m (run m events)
run_goes m [] s = goes_by m m s refl refl refl (λ f. f)
run_goes m (event ∷ events) s =
    let one : Goes m (session_after m event) = event_goes m event s in
    let rest : Goes (session_after m event) (run (session_after m event) events) = run_goes (session_after m event) events one.sound in
    record { sound = rest.sound; stays = λ f. ((rest.stays ((one.stays f).0 ∙ f)).0 ∙ (one.stays f).0, (rest.stays ((one.stays f).0 ∙ f)).1 ∙ (one.stays f).1) }

pub start_not_full : (stage : Stage) → IsStart stage → stage ≡ stages.Full → ⊥
start_not_full stages.Security i e = subst (λ (p : Stage). IsLast p) (sym e) tt
start_not_full stages.Operational i e = subst (λ (p : Stage). IsLast p) (sym e) tt
start_not_full stages.Full i e = i

opening_sound : (settings : InitiatorSettings) → IsStart settings.start → Sound (new_session settings)
opening_sound settings i = record { login = λ e f. start_not_full settings.start i f; started = λ f. absurd (start_not_full settings.start i f) }

pub held_stays : (settings : InitiatorSettings) → IsStart settings.start → HeldStays settings
held_stays settings i events more f =
    let g : Goes (new_session settings) (run (new_session settings) events) = run_goes (new_session settings) events (opening_sound settings i) in
    let h : Goes (run (new_session settings) events) (run (run (new_session settings) events) more) =
    run_goes (run (new_session settings) events) more g.sound in
    ((h.stays f).0 ∙ f, (h.stays f).1)

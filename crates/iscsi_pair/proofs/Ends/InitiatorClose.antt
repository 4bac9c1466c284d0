-- An initiator's session ends without a fault in full feature phase alone.
use Rattle.std.proofs.Common.{◌≡◌, ℕ, Bool, true, false, List, [], ◌∷◌, Option, Some, None, refl, sym, ap, ◌∙◌, subst}
use Rattle.std.specs.Prelude.{not, ◌==◌, if◌then◌else◌, unwrap_or}
use Rattle.iscsi_text.specs.Text.{Pairs}
use Rattle.iscsi_text.specs.Canonical.{canonical_text}
use Rattle.iscsi_pdu.specs.declared.head.Head.{Head}
use Rattle.iscsi_pdu.specs.declared.head.Head.TheVariants as heads
use Rattle.iscsi_pdu.specs.declared.head.login_response.LoginResponse.{LoginResponse}
use Rattle.iscsi_stream.specs.Segment.{Segment, Text, Bytes, segment_bytes}
use Rattle.iscsi_stream.specs.Stream.{Message}
use Rattle.iscsi_stream.proofs.ReadyLemmas.{apart}
use Rattle.iscsi_initiator.proofs.OneOutcomeLaw.{closed_step}
use Rattle.iscsi_login.specs.declared.phase.Phase.{Phase}
use Rattle.iscsi_login.specs.declared.phase.Phase.TheVariants as phases
use Rattle.iscsi_login.specs.declared.stage.Stage.{Stage}
use Rattle.iscsi_login.specs.declared.stage.Stage.TheVariants as stages
use Rattle.iscsi_login.specs.Answer.{initiator_holds}
use Rattle.iscsi_login.specs.Check.{bad_key}
use Rattle.iscsi_initiator.specs.declared.fault.InitiatorFault.{InitiatorFault}
use Rattle.iscsi_initiator.specs.declared.fault.InitiatorFault.TheVariants.{Refused}
use Rattle.iscsi_initiator.specs.declared.request.Request.{Request}
use Rattle.iscsi_initiator.specs.declared.request.Request.TheVariants.{In, Out, Ping, Text as Asked_text, Logout}
use Rattle.iscsi_initiator.specs.declared.request.SubmitFault.{SubmitFault}
use Rattle.iscsi_initiator.specs.State.{InitiatorSession, is_session_closed}
use Rattle.iscsi_login.specs.Stage.{is_closed_phase}
use Rattle.iscsi_initiator.specs.Steps.{InitiatorStep, fails, rule_broken, step_sending}
use Rattle.iscsi_initiator.specs.Login.{initiator_login_step, login_answered, login_answer_in_turn, is_expected, is_mid_text_answer, moves_on, login_text_answered, answer_judged, begins_stage, following_stage}
use Rattle.iscsi_initiator.specs.Login.{login_counted, sends_more, sends_text, sends_cut, offered, fits_segment, login_request_message}
use Rattle.iscsi_initiator.specs.Machine.{initiator_step, step_in, steps}
use Rattle.iscsi_initiator.specs.Submitted.{submitted, or_accepted, accepted, submit_refusal}
use Rattle.iscsi_initiator.proofs.StepLemmas.{step_is}
use Rattle.iscsi_initiator.proofs.HeldLaws.{full_keeps}
use Rattle.iscsi_pair.specs.Traffic.{session_after_all}
use Rattle.iscsi_initiator.specs.Laws.{SessionInput, Comes, Asks, Takes, met}

-- full feature phase is the last stage
abbrev pub IsFullStage : InitiatorSession → Type 0
IsFullStage m = m.phase ≡ phases.Full → m.stage ≡ stages.Full

-- a step without a fault closes no session before its last stage
pub record EndsWell (r : InitiatorStep) : Type 0 where
  pub full : IsFullStage r.machine
  pub quiet_end : r.fault ≡ None → is_session_closed r.machine ≡ true → r.machine.stage ≡ stages.Full

by_cases : (b : Bool) (x y : InitiatorStep) → EndsWell x → EndsWell y → EndsWell (if b then x else y)
by_cases true x y p q = p
by_cases false x y p q = q

failed : (m : InitiatorSession) (fault : InitiatorFault) → EndsWell (fails m fault)
failed m fault = record { full = λ e. absurd (cc e); quiet_end = λ none over. absurd (cc none) }

goes : (r : InitiatorStep) → r.machine.phase ≡ phases.Login → EndsWell r
goes r p = record {
  full = λ e. absurd (let bad : phases.Login ≡ phases.Full = sym p ∙ e in cc);
  quiet_end = λ none over. absurd (apart over (ap is_closed_phase p));
}

-- the first text of a login
pub text_goes : (m : InitiatorSession) → m.phase ≡ phases.Login → EndsWell (sends_text m)
text_goes m p =
    by_cases (fits_segment m (canonical_text (offered m))) (step_sending (record m { unsent_text = [] }) (login_request_message m true (Text (offered m)) ∷ []))
    (sends_cut m (canonical_text (offered m)) false)
    (goes (step_sending (record m { unsent_text = [] }) (login_request_message m true (Text (offered m)) ∷ [])) p)
    (goes (sends_cut m (canonical_text (offered m)) false) p)

enters_well : (stage : Stage) (m : InitiatorSession) → m.phase ≡ phases.Login → EndsWell (begins_stage stage m)
enters_well stages.Security m p = text_goes (record m { stage = stages.Security }) p
enters_well stages.Operational m p = text_goes (record m { stage = stages.Operational }) p
enters_well stages.Full m p = record { full = λ e. refl; quiet_end = λ none over. refl }

judged_well : (o : Option (List ℕ)) (m : InitiatorSession) (h : LoginResponse) (pairs : Pairs) → m.phase ≡ phases.Login → EndsWell (answer_judged o m h pairs)
judged_well (Some key) m h pairs p = failed m _
judged_well None m h pairs p = enters_well (following_stage m.stage) (record (login_counted m h) { held = initiator_holds None pairs m.held }) p

text_well : (m : InitiatorSession) (h : LoginResponse) (segment : Segment) → m.phase ≡ phases.Login → EndsWell (login_text_answered m h segment)
text_well m h (Bytes bytes) p = failed m _
text_well m h (Text pairs) p = judged_well (bad_key (offered m) pairs) m h pairs p

turn_well : (left : List ℕ) (m : InitiatorSession) (h : LoginResponse) (segment : Segment) → m.phase ≡ phases.Login
    → EndsWell (login_answer_in_turn left m h segment)
turn_well [] m h segment p = by_cases (moves_on m h) (login_text_answered m h segment) (rule_broken m 7) (text_well m h segment p) (failed m _)
turn_well (byte ∷ bytes) m h segment p =
    by_cases (is_mid_text_answer m h segment) (sends_more (login_counted m h)) (rule_broken m 7) (goes (sends_more (login_counted m h)) p)
    (failed m _)

answered_well : (m : InitiatorSession) (h : LoginResponse) (segment : Segment) → m.phase ≡ phases.Login → EndsWell (login_answered m h segment)
answered_well m h segment p =
    by_cases (not (h.status_class == 0)) (fails m (Refused h.status_class h.status_detail)) (if not (is_expected m.exp_stat_sn (unwrap_or h.stat_sn 0)) then
    rule_broken m 6 else login_answer_in_turn m.unsent_text m h segment)
    (failed m _)
    (by_cases (not (is_expected m.exp_stat_sn (unwrap_or h.stat_sn 0))) (rule_broken m 6) (login_answer_in_turn m.unsent_text m h segment) (failed m _)
    (turn_well m.unsent_text m h segment p))

login_well : (m : InitiatorSession) (head : Head) (segment : Segment) → m.phase ≡ phases.Login → EndsWell (initiator_login_step m head segment)
login_well m (heads.LoginResponse h) segment p =
    by_cases (h.initiator_task_tag == 0) (login_answered m h segment) (rule_broken m 1) (answered_well m h segment p)
    (failed m _)
login_well m _ segment p = failed m _

step_in_well : (p : Phase) (m : InitiatorSession) (x : Message) → m.phase ≡ p → is_session_closed m ≡ false → IsFullStage m → EndsWell (step_in p m x)
step_in_well phases.Login m x p live s =
    by_cases m.started (initiator_login_step m x.head x.segment) (rule_broken m 1) (login_well m x.head x.segment p) (failed m _)
step_in_well phases.Full m x p live s =
    let k = full_keeps m x.head (segment_bytes x.segment) in
    record { full = λ e. k.stage ∙ s p; quiet_end = λ none over. k.stage ∙ s p }
step_in_well phases.Closed m x p live s = absurd (apart (ap is_closed_phase p) live)

step_well : (m : InitiatorSession) (x : Message) → is_session_closed m ≡ false → IsFullStage m → EndsWell (initiator_step m x)
step_well m x live s = subst EndsWell (sym (step_is m x)) (step_in_well m.phase m x refl live s)

-- messages one after another, up to the first at which the session closes
steps_if : (b : Bool) (m : InitiatorSession) (x : Message) (ms : List Message) → is_session_closed (initiator_step m x).machine ≡ b
    → EndsWell (initiator_step m x)
    → (b ≡ false → EndsWell (steps (initiator_step m x).machine ms)) → EndsWell (steps m (x ∷ ms))
unfolding steps
steps_if true m x ms is first more = rw is (record { full = first.full; quiet_end = first.quiet_end })
steps_if false m x ms is first more = rw is (let r = more refl in record { full = r.full; quiet_end = r.quiet_end })

pub steps_well : (m : InitiatorSession) (ms : List Message) → is_session_closed m ≡ false → IsFullStage m → EndsWell (steps m ms)
unfolding steps
steps_well m [] live s = record { full = s; quiet_end = λ none over. absurd (apart over live) }
steps_well m (x ∷ ms) live s =
    let first : EndsWell (initiator_step m x) = step_well m x live s in
    steps_if (is_session_closed (initiator_step m x).machine) m x ms refl first (λ on. steps_well (initiator_step m x).machine ms on first.full)

-- ---- inputs

accepted_full : (m : InitiatorSession) (request : Request) → IsFullStage m → IsFullStage (accepted m request).machine
accepted_full m (In lun cdb expected) s = s
accepted_full m (Out lun cdb bytes) s = s
accepted_full m (Ping bytes) s = s
accepted_full m (Asked_text bytes) s = s
accepted_full m Logout s = s

asked_full : (o : Option SubmitFault) (m : InitiatorSession) (request : Request) → IsFullStage m → IsFullStage (or_accepted o m request).machine
asked_full None m request s = accepted_full m request s
asked_full (Some fault) m request s = s

accepted_phase : (m : InitiatorSession) (request : Request) → (accepted m request).machine.phase ≡ m.phase
accepted_phase m (In lun cdb expected) = refl
accepted_phase m (Out lun cdb bytes) = refl
accepted_phase m (Ping bytes) = refl
accepted_phase m (Asked_text bytes) = refl
accepted_phase m Logout = refl

or_accepted_phase : (o : Option SubmitFault) (m : InitiatorSession) (request : Request) → (or_accepted o m request).machine.phase ≡ m.phase
or_accepted_phase None m request = accepted_phase m request
or_accepted_phase (Some fault) m request = refl

-- a request leaves the phase as it is
pub asked_phase : (m : InitiatorSession) (request : Request) → (submitted m request).machine.phase ≡ m.phase
unfolding submitted
asked_phase m request = or_accepted_phase (submit_refusal m request) m request

closed_or_open : (b : Bool) (m : InitiatorSession) (x : Message) → is_session_closed m ≡ b → IsFullStage m → IsFullStage (initiator_step m x).machine
closed_or_open true m x is s = subst IsFullStage (sym (ap (λ (r : InitiatorStep). r.machine) (closed_step m x is))) s
closed_or_open false m x is s = (step_well m x is s).full

input_full : (m : InitiatorSession) (input : SessionInput) → IsFullStage m → IsFullStage (met m input)
unfolding submitted
input_full m (Comes x) s = closed_or_open (is_session_closed m) m x refl s
input_full m (Asks request) s = asked_full (submit_refusal m request) m request s
input_full m Takes s = s

pub inputs_full : (m : InitiatorSession) (inputs : List SessionInput) → IsFullStage m → IsFullStage (session_after_all m inputs)
inputs_full m [] s = s
inputs_full m (input ∷ inputs) s = inputs_full (met m input) inputs (input_full m input s)

-- A login that is refused ends its session.
use Rattle.std.proofs.Common.{◌≡◌, ℕ, Bool, true, false, List, [], ◌∷◌, length, Option, Some, None, refl, sym, ap, subst, ◌+◌, ◌∙◌}
use Rattle.std.specs.Prelude.{nat_lt, if◌then◌else◌}
use Rattle.scsi_disk.specs.Disk.{Disk}
use Rattle.scsi_disk.specs.Plan.{first_reason}
use Rattle.iscsi_text.specs.Text.{Pairs}
use Rattle.iscsi_pdu.specs.declared.head.Head.{Head}
use Rattle.iscsi_pdu.specs.declared.head.Head.TheVariants.{LoginRequest, LoginResponse}
use Rattle.iscsi_pdu.specs.declared.head.login_request.LoginRequest.{LoginRequest as Request}
use Rattle.iscsi_pdu.specs.declared.head.login_response.LoginResponse.{LoginResponse as Response}
use Rattle.iscsi_stream.specs.Segment.{Segment, segment_bytes}
use Rattle.iscsi_stream.specs.Stream.{Message}
use Rattle.iscsi_login.specs.Stage.{is_closed_phase}
use Rattle.iscsi_login.specs.declared.phase.Phase.{Phase}
use Rattle.iscsi_login.specs.declared.phase.Phase.TheVariants as phases
use Rattle.iscsi_target_session.specs.Session.{Session, Reply}
use Rattle.iscsi_target_session.specs.declared.status.Status.{Status}
use Rattle.iscsi_target_session.specs.Login.{pairs_answered, exchange_answered, allowed_move, rest_of, login_response_message, login_in, refuse_or, segment_taken, whole_text, text_ending, gather, numbers_settled, entered, request_refusals}
use Rattle.iscsi_target_session.proofs.CaseLemmas.{by_cases}
use Rattle.iscsi_target_session.proofs.ExchangeLemmas.{text_cases}
use Rattle.iscsi_target.specs.State.{Machine, TargetStep}
use Rattle.iscsi_target.specs.Execution.{reliable}
use Rattle.iscsi_target.specs.Machine.{target_step, phase_step, is_machine_closed, is_over_limit}

-- the class of the first of some answers
abbrev class_of : Head → ℕ
class_of (LoginResponse h) = h.status_class
class_of _ = 0

abbrev first_class : List Message → ℕ
first_class [] = 0
first_class (m ∷ ms) = class_of m.head

-- an answer that refuses closes the session
abbrev Ends : Reply → Type 0
Ends r = (h : Response) (text : Pairs) → r.answers ≡ login_response_message h text ∷ [] → (h.status_class ≡ 0 → ⊥) → r.session.phase ≡ phases.Closed

-- where the first answer is none that refuses
accepts : (r : Reply) → first_class r.answers ≡ 0 → Ends r
accepts r zero_class h text e other = absurd (other (sym (ap first_class e) ∙ zero_class))

refused_ends : (s : Session) (r : Request) (why : Option Status) (reply : Reply) → Ends reply → Ends (refuse_or why s r reply)
refused_ends s r None reply g = g
refused_ends s r (Some why) reply g = λ h text e other. refl

whole_ends : (s : Session) (r : Request) (text : Option Pairs) → Ends (whole_text s r text)
whole_ends s r text = text_cases Ends s r text (record {
  refused = λ why reason h told e other. refl;
  plain = λ pairs is open_ none. accepts (pairs_answered s r pairs) refl;
  exchange = λ c p said pairs is demanded none verdict short.
      accepts (exchange_answered c said (record s { progress = p }) (allowed_move p r) (rest_of pairs)) refl;
})

gather_ends : (s : Session) (r : Request) (segment : Segment) (more : Bool)
    → Ends (if more then gather s r (segment_bytes segment) else whole_text (record s { gathered = [] }) r (text_ending s.gathered segment))
gather_ends s r segment true = accepts (gather s r (segment_bytes segment)) refl
gather_ends s r segment false = whole_ends (record s { gathered = [] }) r (text_ending s.gathered segment)

segment_ends : (s : Session) (r : Request) (segment : Segment) → Ends (segment_taken s r segment)
segment_ends s r segment = by_cases (nat_lt 16384 (length s.gathered + length (segment_bytes segment)))
    (λ e. rw e (λ h text f other. refl)) (λ e. rw e (gather_ends s r segment r.continues))

login_ends : (s : Session) (head : Head) (segment : Segment) → Ends (login_in s head segment)
login_ends s (LoginRequest r) segment =
    refused_ends (numbers_settled s r) r (first_reason (request_refusals s r)) (segment_taken (entered s r) r segment) (segment_ends (entered s r) r segment)
login_ends s _ segment = λ h text e other. absurd (cc e)

-- so does a message, which touches no block
pub refused_login : (protected : Bool) (s : Machine) (disk : Disk) (m : Message) (h : Response) (text : Pairs) → s.session.phase ≡ phases.Login
    → (target_step protected s disk m).answers ≡ login_response_message h text ∷ [] → (h.status_class ≡ 0 → ⊥)
    → ((target_step protected s disk m).machine.session.phase ≡ phases.Closed) × ((target_step protected s disk m).executed ≡ [])
    × ((target_step protected s disk m).disk ≡ disk)
refused_login protected s disk m h text e =
    let open_ : is_machine_closed s ≡ false = ap is_closed_phase e in
    let P : TargetStep → Type 0 = λ r. r.answers ≡ login_response_message h text ∷ [] → (h.status_class ≡ 0 → ⊥)
    → (r.machine.session.phase ≡ phases.Closed) × (r.executed ≡ []) × (r.disk ≡ disk) in
    by_cases (is_over_limit s m.segment) (λ f. rw (open_, f) (λ a other. (refl, refl, refl)))
    (λ f. rw (open_, f) (subst (λ (p : Phase). P (phase_step (reliable protected) p s disk m)) (sym e)
    (λ a other. (login_ends s.session m.head m.segment h text a other, refl, refl))))

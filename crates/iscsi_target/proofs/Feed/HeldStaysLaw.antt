-- What a login settled stays, whatever comes.
use Rattle.std.proofs.Common.{◌≡◌, ◌∙◌, ℕ, ◌+◌, List, [], ◌∷◌, ◌++◌, Bool, true, false, length, Option, Some, None, refl, sym, ap, subst}
use Rattle.std.proofs.Common.{arith}
use Rattle.std.specs.Prelude.{nat_lt, nat_le, not, ◌==◌, if◌then◌else◌, unwrap_or}
use Rattle.std.proofs.lemmas.Bool.{eqb-false, leb-true}
use Rattle.scsi_disk.specs.Disk.{Disk}
use Rattle.scsi_disk.specs.Plan.{first_reason}
use Rattle.iscsi_target_session.proofs.RefusalLemmas.{request_accepted}
use Rattle.iscsi_text.specs.Text.{Pairs}
use Rattle.iscsi_pdu.specs.declared.head.Head.{Head}
use Rattle.iscsi_pdu.specs.declared.head.Head.TheVariants.{LoginRequest}
use Rattle.iscsi_pdu.specs.declared.head.login_request.LoginRequest.{LoginRequest as Request}
use Rattle.iscsi_stream.specs.Segment.{Segment, segment_bytes}
use Rattle.iscsi_stream.specs.Stream.{Message}
use Rattle.iscsi_login.specs.declared.phase.Phase.{Phase}
use Rattle.iscsi_login.specs.declared.phase.Phase.TheVariants as phases
use Rattle.iscsi_login.specs.declared.stage.Stage.{Stage}
use Rattle.iscsi_login.specs.declared.stage.Stage.TheVariants as stages
use Rattle.iscsi_target_session.specs.Configured.{TargetSettings}
use Rattle.iscsi_target_session.specs.Session.{Session, Reply}
use Rattle.iscsi_target_session.specs.declared.status.Status.{Status}
use Rattle.iscsi_target_session.specs.Login.{stage_named, is_same_stage, is_due_stage, stage_after, phase_at, entered, numbers_settled, request_refusals}
use Rattle.iscsi_target_session.specs.Login.{refuse_or, allowed_move, gather, whole_text, text_ending, segment_taken, on_login_request, login_in}
use Rattle.iscsi_target.specs.State.{Machine, TargetStep, opening_machine}
use Rattle.iscsi_target.specs.Execution.{reliable}
use Rattle.iscsi_login.specs.Stage.{is_closed_phase}
use Rattle.iscsi_target.specs.Machine.{target_step, answers, is_machine_closed, is_over_limit, phase_step}
use Rattle.iscsi_target_session.proofs.CaseLemmas.{by_cases}
use Rattle.iscsi_target_session.proofs.ExchangeLemmas.{text_cases}
use Rattle.iscsi_target.proofs.Steps.AppendLemmas.{answers_append}
use Rattle.iscsi_target.proofs.Steps.KeepingLemmas.{IsLater, Stays, step_stays}

-- ---- a login that goes on isn't in the last stage

abbrev IsLast : Stage → Type 0
IsLast stages.Full = Unit {0}
IsLast _ = ⊥

-- a session in its login
abbrev Goes : Session → Type 0
Goes s = s.phase ≡ phases.Login → IsLast s.stage → ⊥

at_phase : (stage : Stage) → phase_at stage ≡ phases.Login → IsLast stage → ⊥
at_phase stages.Security e l = l
at_phase stages.Operational e l = l
at_phase stages.Full e l = absurd cc

refused_goes : (s : Session) (r : Request) (why : Option Status) (reply : Reply) → (why ≡ None → Goes reply.session) → Goes (refuse_or why s r reply).session
refused_goes s r None reply g = g refl
refused_goes s r (Some why) reply g = λ e. absurd cc

whole_goes : (s : Session) (r : Request) (text : Option Pairs) → Goes (whole_text s r text).session
whole_goes s r text = text_cases (λ x. Goes x.session) s r text (record {
  refused = λ why reason e. absurd cc;
  plain = λ pairs is open_ none. at_phase (stage_after s r);
  exchange = λ c p said pairs is demanded none verdict short. at_phase (stage_after s (allowed_move p r));
})

gather_goes : (s : Session) (r : Request) (segment : Segment) (more : Bool) → (IsLast s.stage → ⊥)
    → Goes (if more then gather s r (segment_bytes segment) else whole_text (record s { gathered = [] }) r (text_ending s.gathered segment)).session
gather_goes s r segment true g = λ e. g
gather_goes s r segment false g = whole_goes (record s { gathered = [] }) r (text_ending s.gathered segment)

segment_goes : (s : Session) (r : Request) (segment : Segment) → (IsLast s.stage → ⊥) → Goes (segment_taken s r segment).session
segment_goes s r segment g = by_cases (nat_lt 16384 (length s.gathered + length (segment_bytes segment)))
    (λ e. rw e (λ closed. absurd cc))
    (λ e. rw e (gather_goes s r segment r.continues g))

-- a request in the last stage is refused
same_stage : (stage : Stage) (named : Option Stage) → (IsLast stage → ⊥) → is_same_stage stage named ≡ true → IsLast (unwrap_or named stage) → ⊥
same_stage stages.Security (Some stages.Security) g e l = l
same_stage stages.Operational (Some stages.Operational) g e l = l
same_stage stages.Full named g e l = g tt
same_stage stages.Security (Some stages.Operational) g e l = l
same_stage stages.Security (Some stages.Full) g e l = absurd cc
same_stage stages.Security None g e l = l
same_stage stages.Operational (Some stages.Security) g e l = l
same_stage stages.Operational (Some stages.Full) g e l = absurd cc
same_stage stages.Operational None g e l = l

first_stage : (n : ℕ) (stage : Stage) → nat_le n 1 ≡ true → IsLast (unwrap_or (stage_named n) stage) → ⊥
first_stage n stage e l =
    by_cases (n == 0) (λ a. rw a at l)
    (λ a. by_cases (n == 1) (λ b. rw (a, b) at l)
    (λ b. absurd (omega (arith, leb-true n 1 e, eqb-false n 0 a, eqb-false n 1 b))))

due_goes : (s : Session) (r : Request) → (IsLast s.stage → ⊥) → is_due_stage s r ≡ true → IsLast (entered s r).stage → ⊥
due_goes s r g e =
    by_cases s.begun (λ b. same_stage s.stage (stage_named r.current_stage) g (rw b at e)) (λ b. first_stage r.current_stage s.stage (rw b at e))

not_false : (b : Bool) → not b ≡ false → b ≡ true
not_false true e = refl
not_false false e = absurd cc

request_goes : (s : Session) (r : Request) (segment : Segment) → (IsLast s.stage → ⊥) → Goes (on_login_request s r segment).session
request_goes s r segment g =
    refused_goes (numbers_settled s r) r (first_reason (request_refusals s r)) (segment_taken (entered s r) r segment)
    (λ none. segment_goes (entered s r) r segment (due_goes s r g (not_false (is_due_stage s r) (request_accepted s r none).due_stage)))

login_goes : (s : Session) (head : Head) (segment : Segment) → (IsLast s.stage → ⊥) → Goes (login_in s head segment).session
login_goes s (LoginRequest r) segment g = request_goes s r segment g
login_goes s _ segment g = λ e. absurd cc

-- ---- messages

later_goes : (s : Session) → IsLater s.phase → Goes s
later_goes s later e l = subst IsLater e later

step_goes : (protected : Bool) (s : Machine) (disk : Disk) (m : Message) → Goes s.session → Goes (target_step protected s disk m).machine.session
step_goes protected s disk m g = by_phase s.session.phase refl
  where
    by_phase : (p : Phase) → s.session.phase ≡ p → Goes (target_step protected s disk m).machine.session
    by_phase phases.Login e =
        let open_ : is_machine_closed s ≡ false = ap is_closed_phase e in
        by_cases (is_over_limit s m.segment) (λ f. rw (open_, f) (λ closed. absurd cc))
        (λ f. rw (open_, f) (subst (λ (p : Phase). Goes (phase_step (reliable protected) p s disk m).machine.session) (sym e)
        (login_goes s.session m.head m.segment (g e))))
    by_phase phases.Full e =
        let later : IsLater s.session.phase = subst IsLater (sym e) tt in
        later_goes (target_step protected s disk m).machine.session ((step_stays (reliable protected) s disk m later).later later)
    by_phase phases.Closed e =
        let later : IsLater s.session.phase = subst IsLater (sym e) tt in
        later_goes (target_step protected s disk m).machine.session ((step_stays (reliable protected) s disk m later).later later)

answers_go : (protected : Bool) (s : Machine) (disk : Disk) (ms : List Message) → Goes s.session → Goes (answers protected s disk ms).machine.session
unfolding answers
answers_go protected s disk [] g = g
answers_go protected s disk (m ∷ ms) g = answers_go protected (target_step protected s disk m).machine (target_step protected s disk m).disk ms
    (step_goes protected s disk m g)

answers_stay : (protected : Bool) (s : Machine) (disk : Disk) (ms : List Message) → IsLater s.session.phase → Stays s (answers protected s disk ms).machine
unfolding answers
answers_stay protected s disk [] later = record { stage = refl; held = refl; has_text = refl; name = refl; progress = refl; later = λ l. l }
answers_stay protected s disk (m ∷ ms) later =
    let x : Stays s (target_step protected s disk m).machine = step_stays (reliable protected) s disk m later in
    let y : Stays (target_step protected s disk m).machine (answers protected (target_step protected s disk m).machine (target_step protected s disk m).disk
    ms).machine =
    answers_stay protected (target_step protected s disk m).machine (target_step protected s disk m).disk ms (x.later later) in
    record {
      stage = y.stage ∙ x.stage;
      held = y.held ∙ x.held;
      has_text = y.has_text ∙ x.has_text;
      name = y.name ∙ x.name;
      progress = y.progress
          ∙ x.progress;
      later = λ l. y.later (x.later l);
    }

later_of : (s : Session) (p : Phase) → s.phase ≡ p → Goes s → s.stage ≡ stages.Full → IsLater s.phase
later_of s phases.Login e g f = absurd (g e (subst IsLast (sym f) tt))
later_of s phases.Full e g f = subst IsLater (sym e) tt
later_of s phases.Closed e g f = subst IsLater (sym e) tt

pub held_stays : (protected : Bool) (settings : TargetSettings) (n : ℕ) (disk : Disk) (ms more : List Message)
    → (answers protected (opening_machine settings n) disk ms).machine.session.stage ≡ stages.Full
    → ((answers protected (opening_machine settings n) disk (ms ++ more)).machine.session.stage ≡ stages.Full)
    × ((answers protected (opening_machine settings n) disk (ms ++ more)).machine.session.held
    ≡ (answers protected (opening_machine settings n) disk ms).machine.session.held)
held_stays protected settings n disk ms more full =
    let r : TargetStep = answers protected (opening_machine settings n) disk ms in
    let e = answers_append protected (opening_machine settings n) disk ms more in
    let x : Stays r.machine (answers protected r.machine r.disk more).machine =
    answers_stay protected r.machine r.disk more (later_of r.machine.session r.machine.session.phase refl
    (answers_go protected (opening_machine settings n) disk ms (λ e l. l)) full) in (
      ap (λ (q : TargetStep). q.machine.session.stage) e ∙ x.stage ∙ full,
      ap (λ (q : TargetStep). q.machine.session.held) e ∙ x.held,
    )

-- What an initiator does with an answer in its login.
use Rattle.std.proofs.Common.{◌≡◌, ◌⊎◌, inl, inr, ℕ, Bool, true, false, List, [], ◌∷◌, Option, Some, None, refl, sym, ap, ◌∙◌, subst}
use Rattle.std.specs.Prelude.{not, ◌==◌, if◌then◌else◌, unwrap_or}
use Rattle.std.proofs.lemmas.Bool.{cond_both}
use Rattle.iscsi_text.specs.Text.{Pairs}
use Rattle.iscsi_pdu.specs.declared.head.Head.TheVariants as heads
use Rattle.iscsi_pdu.specs.declared.head.login_response.LoginResponse.{LoginResponse}
use Rattle.iscsi_stream.specs.Segment.{Text}
use Rattle.iscsi_stream.specs.Stream.{Message}
use Rattle.iscsi_stream.proofs.ReadyLemmas.{apart}
use Rattle.iscsi_login.specs.declared.phase.Phase.{Phase}
use Rattle.iscsi_login.specs.declared.phase.Phase.TheVariants as phases
use Rattle.iscsi_login.specs.Answer.{initiator_holds}
use Rattle.iscsi_login.specs.Check.{bad_key}
use Rattle.iscsi_initiator.specs.declared.fault.InitiatorFault.TheVariants.{Refused}
use Rattle.iscsi_initiator.specs.State.{InitiatorSession}
use Rattle.iscsi_initiator.specs.Steps.{InitiatorStep, fails, rule_broken}
use Rattle.iscsi_initiator.specs.Login.{initiator_login_step, login_answered, login_answer_in_turn, is_expected, is_mid_text_answer, moves_on, login_text_answered, answer_judged, begins_stage, following_stage}
use Rattle.iscsi_initiator.specs.Login.{login_counted, sends_more, offered}
use Rattle.iscsi_initiator.specs.Machine.{initiator_step, step_in}
use Rattle.iscsi_initiator.proofs.StepLemmas.{step_is}

-- the message of an answer
abbrev pub answering : LoginResponse → Pairs → Message
answering h pairs = record { head = heads.LoginResponse h; segment = Text pairs }

-- the session is closed in the stage where it was
pub record Closes (m : InitiatorSession) (r : InitiatorStep) : Type 0 where
  pub phase : r.machine.phase ≡ phases.Closed
  pub stage : r.machine.stage ≡ m.stage

started_in : (m : InitiatorSession) (message : Message) (b : Bool) → m.started ≡ b → b ≡ true
    → (if m.started then initiator_login_step m message.head message.segment else rule_broken m 1) ≡ initiator_login_step m message.head message.segment
started_in m message true is t = rw is refl
started_in m message false is t = absurd (cc t)

pub receives : (m : InitiatorSession) (h : LoginResponse) (pairs : Pairs) → m.phase ≡ phases.Login → m.started ≡ true → h.initiator_task_tag ≡ 0
    → initiator_step m (answering h pairs) ≡ login_answered m h (Text pairs)
receives m h pairs p s tag =
    step_is m (answering h pairs) ∙ ap (λ (x : Phase). step_in x m (answering h pairs)) p
    ∙ started_in m (answering h pairs) m.started refl s
    ∙ rw tag refl

-- an answer of another class refuses the login
pub receives_refusal : (m : InitiatorSession) (h : LoginResponse) (pairs : Pairs) → m.phase ≡ phases.Login → m.started ≡ true → h.initiator_task_tag ≡ 0
    → (h.status_class == 0) ≡ false
    → Closes m (initiator_step m (answering h pairs))
receives_refusal m h pairs p s tag class =
    subst (Closes m) (sym (receives m h pairs p s tag)) (rw class (record { phase = refl; stage = refl }))

-- an answer in the midst of a text is a fault, or the next part goes
pub receives_more : (m : InitiatorSession) (h : LoginResponse) (pairs : Pairs) (byte : ℕ) (bytes : List ℕ) → m.phase ≡ phases.Login → m.started ≡ true
    → h.initiator_task_tag ≡ 0 → h.status_class ≡ 0
    → m.unsent_text ≡ byte ∷ bytes → Closes m (initiator_step m (answering h pairs)) ⊎ (initiator_step m (answering h pairs) ≡ sends_more (login_counted m h))
receives_more m h pairs byte bytes p s tag class left =
    let P : InitiatorStep → Type 0 = λ r. Closes m r ⊎ (r ≡ sends_more (login_counted m h)) in
    let shut : (r : ℕ) → P (rule_broken m r) = λ r. inl (record { phase = refl; stage = refl }) in
    let number : Bool = not (is_expected m.exp_stat_sn (unwrap_or h.stat_sn 0)) in
    let turn : P (login_answer_in_turn m.unsent_text m h (Text pairs)) =
    subst (λ (l : List ℕ). P (login_answer_in_turn l m h (Text pairs))) (sym left)
    (cond_both (is_mid_text_answer m h (Text pairs)) (sends_more (login_counted m h)) (rule_broken m 7) P
    (λ is. inr refl) (λ is. shut 7)) in
    subst P (sym (receives m h pairs p s tag))
    (cond_both (not (h.status_class == 0)) (fails m (Refused h.status_class h.status_detail))
    (if number then rule_broken m 6 else login_answer_in_turn m.unsent_text m h (Text pairs)) P
    (λ is. absurd (apart is (ap (λ (n : ℕ). not (n == 0)) class)))
    (λ is. cond_both number (rule_broken m 6) (login_answer_in_turn m.unsent_text m h (Text pairs)) P (λ is. shut 6) (λ is. turn)))

-- the session that goes on with a good answer
abbrev pub with_answer : InitiatorSession → LoginResponse → Pairs → InitiatorSession
with_answer m h pairs = record (login_counted m h) { held = initiator_holds None pairs m.held }

judges : (o : Option (List ℕ)) (m : InitiatorSession) (h : LoginResponse) (pairs : Pairs)
    → Closes m (answer_judged o m h pairs) ⊎ (answer_judged o m h pairs ≡ begins_stage (following_stage m.stage) (with_answer m h pairs))
judges (Some key) m h pairs = inl (record { phase = refl; stage = refl })
judges None m h pairs = inr refl

-- an answer to a whole text is a fault, or the login enters the next stage
pub receives_answer : (m : InitiatorSession) (h : LoginResponse) (pairs : Pairs) → m.phase ≡ phases.Login → m.started ≡ true → h.initiator_task_tag ≡ 0 →
    h.status_class ≡ 0
    → m.unsent_text ≡ [] → Closes m (initiator_step m (answering h pairs))
    ⊎ (initiator_step m (answering h pairs) ≡ begins_stage (following_stage m.stage) (with_answer m h pairs))
receives_answer m h pairs p s tag class left =
    let P : InitiatorStep → Type 0 = λ r. Closes m r ⊎ (r ≡ begins_stage (following_stage m.stage) (with_answer m h pairs)) in
    let shut : (r : ℕ) → P (rule_broken m r) = λ r. inl (record { phase = refl; stage = refl }) in
    let number : Bool = not (is_expected m.exp_stat_sn (unwrap_or h.stat_sn 0)) in
    let turn : P (login_answer_in_turn m.unsent_text m h (Text pairs)) =
    subst (λ (l : List ℕ). P (login_answer_in_turn l m h (Text pairs))) (sym left)
    (cond_both (moves_on m h) (login_text_answered m h (Text pairs)) (rule_broken m 7) P
    (λ is. judges (bad_key (offered m) pairs) m h pairs) (λ is. shut 7)) in
    subst P (sym (receives m h pairs p s tag))
    (cond_both (not (h.status_class == 0)) (fails m (Refused h.status_class h.status_detail))
    (if number then rule_broken m 6 else login_answer_in_turn m.unsent_text m h (Text pairs)) P
    (λ is. absurd (apart is (ap (λ (n : ℕ). not (n == 0)) class)))
    (λ is. cond_both number (rule_broken m 6) (login_answer_in_turn m.unsent_text m h (Text pairs)) P (λ is. shut 6) (λ is. turn)))

-- an answer to a whole text that stays in the stage is a fault
pub receives_stay : (m : InitiatorSession) (h : LoginResponse) (pairs : Pairs) → m.phase ≡ phases.Login → m.started ≡ true → h.initiator_task_tag ≡ 0 →
    h.transits ≡ false → m.unsent_text ≡ [] → Closes m (initiator_step m (answering h pairs))
receives_stay m h pairs p s tag stays left =
    let P : InitiatorStep → Type 0 = λ r. Closes m r in
    let shut : (r : ℕ) → P (rule_broken m r) = λ r. record { phase = refl; stage = refl } in
    let number : Bool = not (is_expected m.exp_stat_sn (unwrap_or h.stat_sn 0)) in
    let turn : P (login_answer_in_turn m.unsent_text m h (Text pairs)) =
    subst (λ (l : List ℕ). P (login_answer_in_turn l m h (Text pairs))) (sym left) (rw stays (shut 7)) in
    subst P (sym (receives m h pairs p s tag))
    (cond_both (not (h.status_class == 0)) (fails m (Refused h.status_class h.status_detail))
    (if number then rule_broken m 6 else login_answer_in_turn m.unsent_text m h (Text pairs)) P
    (λ is. record { phase = refl; stage = refl })
    (λ is. cond_both number (rule_broken m 6) (login_answer_in_turn m.unsent_text m h (Text pairs)) P (λ is. shut 6) (λ is. turn)))

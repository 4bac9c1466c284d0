-- Full feature phase comes by a right response, where one is demanded.
use Rattle.std.proofs.Common.{arith, leb-true, ◌≡◌, ◌⊎◌, inl, inr, ◌∙◌, ℕ, zero, suc, ◌+◌, Bool, true, false, List, [], ◌∷◌, length, Option, Some, None, refl, sym, ap, subst}
use Rattle.std.specs.Prelude.{nat_lt, nat_le, not, ◌&&◌, if◌then◌else◌, unwrap_or, codes}
use Rattle.scsi_disk.specs.Disk.{Disk}
use Rattle.scsi_disk.specs.Plan.{first_reason}
use Rattle.iscsi_target_session.proofs.RefusalLemmas.{request_accepted}
use Rattle.iscsi_text.specs.Text.{Pairs}
use Rattle.iscsi_pdu.specs.declared.head.Head.{Head}
use Rattle.iscsi_pdu.specs.declared.head.Head.TheVariants.{LoginRequest}
use Rattle.iscsi_pdu.specs.declared.head.login_request.LoginRequest.{LoginRequest as Request}
use Rattle.iscsi_stream.specs.Segment.{Segment, segment_bytes}
use Rattle.iscsi_stream.specs.Stream.{Message}
use Rattle.iscsi_login.specs.Stage.{is_closed_phase}
use Rattle.iscsi_login.specs.declared.phase.Phase.{Phase}
use Rattle.iscsi_login.specs.declared.phase.Phase.TheVariants as phases
use Rattle.iscsi_login.specs.declared.stage.Stage.{Stage}
use Rattle.iscsi_login.specs.declared.stage.Stage.TheVariants as stages
use Rattle.iscsi_access.specs.Chap.{Chap}
use Rattle.iscsi_access.specs.Exchange.{judge}
use Rattle.iscsi_access.specs.Laws.{AnswersChallenge}
use Rattle.iscsi_access.specs.declared.verdict.Progress.{Progress}
use Rattle.iscsi_access.specs.declared.verdict.Progress.TheVariants.{Unasked, Chosen, Challenged, Passed}
use Rattle.iscsi_access.specs.declared.verdict.Said.{Said}
use Rattle.iscsi_access.specs.declared.verdict.Verdict.TheVariants.{Goes, Refused}
use Rattle.iscsi_access.proofs.PassingLemmas.{passed_by, passed_stays}
use Rattle.iscsi_target_session.specs.Configured.{TargetSettings}
use Rattle.iscsi_target_session.specs.Session.{Session, Reply}
use Rattle.iscsi_target_session.specs.declared.status.Status.{Status}
use Rattle.iscsi_target_session.specs.LoginText.{is_operational, initiator_for, name_in, login_value}
use Rattle.iscsi_target_session.specs.Login.{login_in, on_login_request, refuse_or, segment_taken, whole_text, text_ending, gather, numbers_settled, entered, request_refusals}
use Rattle.iscsi_target_session.specs.Login.{exchange_answered, verdict_for, rest_of, allowed_move, has_passed, phase_at, stage_after, stage_named, is_same_stage, is_due_stage}
use Rattle.iscsi_target_session.proofs.CaseLemmas.{by_cases}
use Rattle.iscsi_target_session.proofs.ExchangeLemmas.{text_cases}
use Rattle.iscsi_target.specs.State.{Machine, TargetStep, opening_machine}
use Rattle.iscsi_target.specs.Execution.{Device, reliable}
use Rattle.iscsi_target.specs.Machine.{MayStep, MayAnswer, target_step, step_on, then_stepped, phase_step, answers, is_machine_closed, is_over_limit}
use Rattle.iscsi_target.specs.Access.{HasResponded}
use Rattle.iscsi_target.proofs.Access.AllowedLaw.{closed_stays, behind_none, may_execute_none}
use Rattle.iscsi_target.proofs.Steps.KeepingLemmas.{IsLater, step_settings, step_stays}

-- the text has a right response, and the session is that of the initiator that may give it
record Right (c : Chap) (text : Option Pairs) (n : Session) : Type 0 where
  pairs : Pairs
  is : text ≡ Some pairs
  has_text : n.has_text ≡ true
  right : AnswersChallenge c n.initiator_name pairs

-- How the exchange comes to its end, and that no session is in full feature phase before. Who logs in is settled by the
-- first text.
record Guards (c : Chap) (s : Session) (text : Option Pairs) (n : Session) : Type 0 where
  has_text : s.has_text ≡ true → n.has_text ≡ true
  name : s.has_text ≡ true → n.initiator_name ≡ s.initiator_name
  passes : n.progress ≡ Passed → (s.progress ≡ Passed) ⊎ Right c text n
  full : (s.stage ≡ stages.Full → s.progress ≡ Passed) → n.stage ≡ stages.Full → n.progress ≡ Passed
  live : (s.phase ≡ phases.Full → s.progress ≡ Passed) → (s.stage ≡ stages.Full → s.progress ≡ Passed) → n.phase ≡ phases.Full → n.progress ≡ Passed

-- what a session keeps of it
record Same (s n : Session) : Type 0 where
  progress : n.progress ≡ s.progress
  stage : n.stage ≡ s.stage
  has_text : n.has_text ≡ s.has_text
  name : n.initiator_name ≡ s.initiator_name

-- where none of it changes
unmoved : (c : Chap) (s : Session) (text : Option Pairs) (n : Session) → Same s n → (n.phase ≡ phases.Full → s.phase ≡ phases.Full) → Guards c s text n
unmoved c s text n k was = record {
  has_text = λ e. k.has_text ∙ e;
  name = λ e. k.name;
  passes = λ e. inl (sym k.progress ∙ e);
  full = λ h e. k.progress ∙ h (sym k.stage ∙ e);
  live = λ a h e. k.progress ∙ a (was e);
}

all_same : (s : Session) → Same s s
all_same s = record { progress = refl; stage = refl; has_text = refl; name = refl }

at_full : (a : Stage) → phase_at a ≡ phases.Full → a ≡ stages.Full
at_full stages.Full e = refl
at_full stages.Security e = absurd (cc e)
at_full stages.Operational e = absurd (cc e)

-- ---- a text

verdict_passed : (c : Chap) (b : Bool) (before : Progress) (name : List ℕ) (pairs : Pairs) (p : Progress) (said : Said)
    → (if b then Refused else judge c before name pairs) ≡ Goes p said → p ≡ Passed → (before ≡ Passed) ⊎ AnswersChallenge c name pairs
verdict_passed c true before name pairs p said e is = absurd (cc e)
verdict_passed c false before name pairs p said e is = passed_by c before name pairs said (e ∙ ap (λ (q : Progress). Goes q said) is)

verdict_stays : (c : Chap) (b : Bool) (before : Progress) (name : List ℕ) (pairs : Pairs) (p : Progress) (said : Said)
    → (if b then Refused else judge c before name pairs) ≡ Goes p said → before ≡ Passed → p ≡ Passed
verdict_stays c true before name pairs p said e is = absurd (cc e)
verdict_stays c false before name pairs p said e is = passed_stays c name pairs p said (sym (ap (λ (q : Progress). judge c q name pairs) is) ∙ e)

-- no stage comes before
moves : (s : Session) (r : Request) (p : Progress) → (s.progress ≡ Passed → p ≡ Passed) → (s.stage ≡ stages.Full → s.progress ≡ Passed)
    → stage_after s (allowed_move p r) ≡ stages.Full → p ≡ Passed
moves s r Passed stays h e = refl
moves s r Unasked stays h e = stays (h e)
moves s r Chosen stays h e = stays (h e)
moves s r (Challenged algorithm) stays h e = stays (h e)

settled : (taken : Bool) (before name : List ℕ) → taken ≡ true → (if taken then before else name) ≡ before
settled true before name e = refl
settled false before name e = absurd (cc e)

exchange_guards : (c : Chap) (p : Progress) (said : Said) (s : Session) (r : Request) (pairs : Pairs) → verdict_for c s pairs ≡ Goes p said
    → Guards c s (Some pairs) (exchange_answered c said (record s { progress = p }) (allowed_move p r) (rest_of pairs)).session
exchange_guards c p said s r pairs is =
    let b : Bool = is_operational s.stage && not (has_passed s.progress) in
    let name : List ℕ = initiator_for s (rest_of pairs) in
    record {
      has_text = λ e. refl;
      name = settled s.has_text s.initiator_name (name_in (login_value (codes "InitiatorName") (rest_of pairs)));
      passes = λ q. elim (verdict_passed c b s.progress name pairs p said is q) [
        | inl was ↦ inl was
        | inr right ↦ inr (record { pairs = pairs; is = refl; has_text = refl; right = right })
      ];
      full = λ h q. moves s r p (verdict_stays c b s.progress name pairs p said is) h q;
      live = λ a h q. moves s r p (verdict_stays c b s.progress name pairs p said is) h (at_full (stage_after s (allowed_move p r)) q);
    }

whole_guards : (c : Chap) (s : Session) (r : Request) (text : Option Pairs) → s.settings.extras.chap ≡ Some c → Guards c s text (whole_text s r text).session
whole_guards c s r text d = text_cases (λ x. Guards c s text x.session) s r text (record {
  refused = λ why reason. unmoved c s text _ (record { progress = refl; stage = refl; has_text = refl; name = refl }) (λ e. absurd (cc e));
  plain = λ pairs is open_ none. absurd (let bad : Some c ≡ None = sym d ∙ open_ in cc bad);
  exchange = λ other p said pairs is demanded none verdict short.
      let same : other ≡ c = (let e : Some other ≡ Some c = sym demanded ∙ d in cc e) in
      subst (λ (t : Option Pairs). Guards c s t (exchange_answered other said (record s { progress = p }) (allowed_move p r) (rest_of pairs)).session) (sym is)
      (exchange_guards_of c other p said s r pairs same verdict);
})
  where
    exchange_guards_of : (c other : Chap) (p : Progress) (said : Said) (s : Session) (r : Request) (pairs : Pairs) → other ≡ c
        → verdict_for other s pairs ≡ Goes p said
        → Guards c s (Some pairs) (exchange_answered other said (record s { progress = p }) (allowed_move p r) (rest_of pairs)).session
    exchange_guards_of c other p said s r pairs same verdict =
        subst (λ (x : Chap). Guards x s (Some pairs) (exchange_answered other said (record s { progress = p }) (allowed_move p r) (rest_of pairs)).session) same
        (exchange_guards other p said s r pairs verdict)

-- gathered bytes are none of it
regathered : (c : Chap) (s : Session) (text : Option Pairs) (n : Session) → Guards c (record s { gathered = [] }) text n → Guards c s text n
regathered c s text n g = record { has_text = g.has_text; name = g.name; passes = g.passes; full = g.full; live = g.live }

gather_guards : (c : Chap) (s : Session) (r : Request) (segment : Segment) (more : Bool) → s.settings.extras.chap ≡ Some c
    → Guards c s (text_ending s.gathered segment)
    (if more then gather s r (segment_bytes segment) else whole_text (record s { gathered = [] }) r (text_ending s.gathered segment)).session
gather_guards c s r segment true e = unmoved c s _ _ (record { progress = refl; stage = refl; has_text = refl; name = refl }) (λ f. f)
gather_guards c s r segment false e = regathered c s (text_ending s.gathered segment) _
    (whole_guards c (record s { gathered = [] }) r (text_ending s.gathered segment) e)

segment_guards : (c : Chap) (s : Session) (r : Request) (segment : Segment) → s.settings.extras.chap ≡ Some c
    → Guards c s (text_ending s.gathered segment) (segment_taken s r segment).session
segment_guards c s r segment e = by_cases (nat_lt 16384 (length s.gathered + length (segment_bytes segment)))
    (λ f. rw f (unmoved c s (text_ending s.gathered segment) _ (record { progress = refl; stage = refl; has_text = refl; name = refl }) (λ g. absurd (cc g))))
    (λ f. rw f (gather_guards c s r segment r.continues e))

-- ---- a request

-- what a request changes before its text is looked at is none of it
record Begun (s t : Session) : Type 0 where
  settings : t.settings ≡ s.settings
  gathered : t.gathered ≡ s.gathered
  phase : t.phase ≡ s.phase
  same : Same s t

begun_by : (begun : Bool) (s t : Session) → Begun s t → Begun s (if begun then s else t)
begun_by true s t b = record { settings = refl; gathered = refl; phase = refl; same = all_same s }
begun_by false s t b = b

numbered_begun : (s : Session) (r : Request) → Begun s (numbers_settled s r)
numbered_begun s r = begun_by s.begun s (record s { begun = true; exp_cmd_sn = r.cmd_sn; isid = r.isid })
    (record { settings = refl; gathered = refl; phase = refl; same = record { progress = refl; stage = refl; has_text = refl; name = refl } })

same_full : (a : Stage) (o : Option Stage) → is_same_stage a o ≡ true → unwrap_or o a ≡ stages.Full → a ≡ stages.Full
same_full stages.Full o e f = refl
same_full stages.Security None e f = absurd (cc f)
same_full stages.Security (Some stages.Security) e f = absurd (cc f)
same_full stages.Security (Some stages.Operational) e f = absurd (cc f)
same_full stages.Security (Some stages.Full) e f = absurd (cc e)
same_full stages.Operational None e f = absurd (cc f)
same_full stages.Operational (Some stages.Security) e f = absurd (cc f)
same_full stages.Operational (Some stages.Operational) e f = absurd (cc f)
same_full stages.Operational (Some stages.Full) e f = absurd (cc e)

first_full : (n : ℕ) (a : Stage) → nat_le n 1 ≡ true → unwrap_or (stage_named n) a ≡ stages.Full → a ≡ stages.Full
first_full zero a e f = absurd (cc f)
first_full (suc zero) a e f = absurd (cc f)
first_full (suc (suc n)) a e f = absurd (omega (arith, leb-true (suc (suc n)) 1 e))

due_full : (s : Session) (r : Request) (begun : Bool)
    → (if begun then is_same_stage s.stage (stage_named r.current_stage) else nat_le r.current_stage 1) ≡ true
    → unwrap_or (stage_named r.current_stage) s.stage ≡ stages.Full → s.stage ≡ stages.Full
due_full s r true e f = same_full s.stage (stage_named r.current_stage) e f
due_full s r false e f = first_full r.current_stage s.stage e f

unnot : (b : Bool) → not b ≡ false → b ≡ true
unnot true e = refl
unnot false e = absurd (cc e)

entered_stage : (s : Session) (r : Request) → (entered s r).stage ≡ unwrap_or (stage_named r.current_stage) s.stage
entered_stage s r = refl

-- the stage that a request enters is full feature phase only where the session was there
enters : (s : Session) (r : Request) → first_reason (request_refusals s r) ≡ None → (entered s r).stage ≡ stages.Full → s.stage ≡ stages.Full
enters s r none e =
    due_full s r s.begun (unnot (is_due_stage s r) (request_accepted s r none).due_stage) (sym (entered_stage s r) ∙ e)

by_none : (c : Chap) (s t : Session) (r : Request) (text : Option Pairs) (why : Option Status) (reply : Reply) → Same s t
    → (why ≡ None → Guards c s text reply.session) → Guards c s text (refuse_or why t r reply).session
by_none c s t r text None reply same g = g refl
by_none c s t r text (Some why) reply same g =
    unmoved c s text _ (record { progress = same.progress; stage = same.stage; has_text = same.has_text; name = same.name }) (λ e. absurd (cc e))

request_guards : (c : Chap) (s : Session) (r : Request) (segment : Segment) → s.settings.extras.chap ≡ Some c
    → Guards c s (text_ending s.gathered segment) (on_login_request s r segment).session
request_guards c s r segment e =
    let b : Begun s (numbers_settled s r) = numbered_begun s r in
    let g : Guards c (entered s r) (text_ending (entered s r).gathered segment) (segment_taken (entered s r) r segment).session =
    segment_guards c (entered s r) r segment (ap (λ (p : TargetSettings). p.extras.chap) b.settings ∙ e) in
    by_none c s (numbers_settled s r) r (text_ending s.gathered segment) (first_reason (request_refusals s r)) (segment_taken (entered s r) r segment) b.same
    (λ none. record {
      has_text = λ f. g.has_text (b.same.has_text ∙ f);
      name = λ f. g.name (b.same.has_text ∙ f) ∙ b.same.name;
      passes = λ q. elim (g.passes q) [
        | inl was ↦ inl (sym b.same.progress ∙ was)
        | inr x ↦ inr (record {
          pairs = x.pairs;
          is = sym (ap (λ (l : List ℕ). text_ending l segment) b.gathered) ∙ x.is;
          has_text = x.has_text;
          right = x.right;
        })
      ];
      full = λ h q. g.full (λ f. b.same.progress ∙ h (enters s r none f)) q;
      live = λ a h q. g.live (λ f. b.same.progress ∙ a (sym b.phase ∙ f)) (λ f. b.same.progress ∙ h (enters s r none f)) q;
    })

login_guards : (c : Chap) (s : Session) (head : Head) (segment : Segment) → s.settings.extras.chap ≡ Some c
    → Guards c s (text_ending s.gathered segment) (login_in s head segment).session
login_guards c s (LoginRequest r) segment e = request_guards c s r segment e
login_guards c s _ segment e =
    unmoved c s (text_ending s.gathered segment) _ (record { progress = refl; stage = refl; has_text = refl; name = refl }) (λ f. absurd (cc f))

-- ---- a message

later_guards : (device : Device) (c : Chap) (s : Machine) (disk : Disk) (m : Message) → IsLater s.session.phase
    → ((step_on device s disk m).machine.session.phase ≡ phases.Full → s.session.phase ≡ phases.Full)
    → Guards c s.session (text_ending s.session.gathered m.segment) (step_on device s disk m).machine.session
later_guards device c s disk m l was =
    let x = step_stays device s disk m l in
    unmoved c s.session _ _ (record { progress = x.progress; stage = x.stage; has_text = x.has_text; name = x.name }) was

step_guards : (device : Device) (c : Chap) (s : Machine) (disk : Disk) (m : Message) → s.session.settings.extras.chap ≡ Some c
    → Guards c s.session (text_ending s.session.gathered m.segment) (step_on device s disk m).machine.session
step_guards device c s disk m d = by_phase s.session.phase refl
  where
    by_phase : (p : Phase) → s.session.phase ≡ p → Guards c s.session (text_ending s.session.gathered m.segment) (step_on device s disk m).machine.session
    by_phase phases.Login e =
        let open_ : is_machine_closed s ≡ false = ap is_closed_phase e in
        by_cases (is_over_limit s m.segment)
        (λ f. rw (open_, f) (unmoved c s.session (text_ending s.session.gathered m.segment) _
        (record { progress = refl; stage = refl; has_text = refl; name = refl }) (λ g. absurd (cc g))))
        (λ f. rw (open_, f) (subst (λ (p : Phase). Guards c s.session (text_ending s.session.gathered m.segment)
        (phase_step device p s disk m).machine.session) (sym e) (login_guards c s.session m.head m.segment d)))
    by_phase phases.Full e = later_guards device c s disk m (subst IsLater (sym e) tt) (λ f. e)
    by_phase phases.Closed e =
        later_guards device c s disk m (subst IsLater (sym e) tt)
        (λ f. sym (ap (λ (r : TargetStep). r.machine.session.phase) (closed_stays device s disk m e)) ∙ f)

may_guards : (protected : Bool) (c : Chap) (s : Machine) (disk : Disk) (before : ℕ) (m : Message) (r : TargetStep) (after : ℕ)
    → MayStep protected s disk before m r after → s.session.settings.extras.chap ≡ Some c
    → Guards c s.session (text_ending s.session.gathered m.segment) r.machine.session
may_guards protected c s disk before m r after x d =
    subst (λ (r : TargetStep). Guards c s.session (text_ending s.session.gathered m.segment) r.machine.session) (sym x.is)
    (step_guards x.device c s disk m d)

-- before full feature phase a store makes no difference
same_before : (device other : Device) (s : Machine) (disk : Disk) (m : Message) (p : Phase) → s.session.phase ≡ p → (p ≡ phases.Full → ⊥)
    → step_on device s disk m ≡ step_on other s disk m
same_before device other s disk m phases.Full e never = absurd (never refl)
same_before device other s disk m phases.Closed e never = closed_stays device s disk m e ∙ sym (closed_stays other s disk m e)
same_before device other s disk m phases.Login e never =
    let open_ : is_machine_closed s ≡ false = ap is_closed_phase e in
    by_cases (is_over_limit s m.segment) (λ f. rw (open_, f) refl)
    (λ f. rw (open_, f) (subst (λ (p : Phase). phase_step device p s disk m ≡ phase_step other p s disk m) (sym e) refl))

-- ---- any messages

-- what holds of a session at each message
pub record Held (c : Chap) (s : Session) : Type 0 where
  pub demands : s.settings.extras.chap ≡ Some c
  pub stage : s.stage ≡ stages.Full → s.progress ≡ Passed
  pub phase : s.phase ≡ phases.Full → s.progress ≡ Passed

-- a session that took a text keeps its name
pub record Kept (c : Chap) (s n : Session) : Type 0 where
  pub held : Held c s → Held c n
  pub has_text : s.has_text ≡ true → n.has_text ≡ true
  pub name : s.has_text ≡ true → n.initiator_name ≡ s.initiator_name

pub all_kept_here : (c : Chap) (s : Session) → Kept c s s
all_kept_here c s = record { held = λ h. h; has_text = λ e. e; name = λ e. refl }

pub then_kept : (c : Chap) (s t n : Session) → Kept c s t → Kept c t n → Kept c s n
then_kept c s t n x y = record {
  held = λ h. y.held (x.held h);
  has_text = λ e. y.has_text (x.has_text e);
  name = λ e. y.name (x.has_text e) ∙ x.name e;
}

may_keep : (protected : Bool) (c : Chap) (s : Machine) (disk : Disk) (before : ℕ) (m : Message) (r : TargetStep) (after : ℕ)
    → MayStep protected s disk before m r after → s.session.settings.extras.chap ≡ Some c → Kept c s.session r.machine.session
may_keep protected c s disk before m r after x d =
    let g : Guards c s.session (text_ending s.session.gathered m.segment) r.machine.session = may_guards protected c s disk before m r after x d in
    let same : r.machine.session.settings ≡ s.session.settings =
    ap (λ (r : TargetStep). r.machine.session.settings) x.is ∙ step_settings x.device s disk m in
    record {
      held = λ h. record {
        demands = ap (λ (p : TargetSettings). p.extras.chap) same ∙ d;
        stage = g.full h.stage;
        phase = g.live h.phase h.stage;
      };
      has_text = g.has_text;
      name = g.name;
    }

pub all_kept : (protected : Bool) (c : Chap) (s : Machine) (disk : Disk) (before : ℕ) (ms : List Message) (r : TargetStep) (after : ℕ)
    → MayAnswer protected s disk before ms r after → Held c s.session → Kept c s.session r.machine.session
unfolding MayAnswer
all_kept protected c s disk before [] r after may h =
    subst (λ (x : TargetStep). Kept c s.session x.machine.session) (sym may.0) (all_kept_here c s.session)
all_kept protected c s disk before (m ∷ ms) r after may h =
    let k : Kept c s.session may.0.machine.session = may_keep protected c s disk before m may.0 may.2 may.3 h.demands in
    subst (λ (x : TargetStep). Kept c s.session x.machine.session) (sym may.5)
    (then_kept c s.session may.0.machine.session may.1.machine.session k
    (all_kept protected c may.0.machine may.0.disk may.2 ms may.1 after may.4 (k.held h)))

-- the session had come to its end of the exchange before, or one of these messages ended the text
abbrev pub Responded : Bool → Chap → Machine → Disk → List ℕ → List Message → Type 0
Responded protected c s disk name ms = (s.session.progress ≡ Passed) ⊎ HasResponded protected s disk c name ms

-- behind a message that leads where one over a store that doesn't fail does
text_behind : (protected : Bool) (c : Chap) (s : Machine) (disk : Disk) (name : List ℕ) (m : Message) (ms : List Message) (first : TargetStep)
    → first ≡ target_step protected s disk m → HasResponded protected first.machine first.disk c name ms → HasResponded protected s disk c name (m ∷ ms)
unfolding answers
text_behind protected c s disk name m ms first same x = record {
  before = m ∷ x.before;
  message = x.message;
  after = x.after;
  split = ap (λ (l : List Message). m ∷ l) x.split;
  pairs = x.pairs;
  text = subst (λ (f : TargetStep). text_ending (answers protected f.machine f.disk x.before).machine.session.gathered x.message.segment ≡ Some x.pairs) same
      x.text;
  right = x.right;
}

text_here : (protected : Bool) (c : Chap) (s : Machine) (disk : Disk) (m : Message) (ms : List Message) (n last : Session)
    → Right c (text_ending s.session.gathered m.segment) n → Kept c n last → HasResponded protected s disk c last.initiator_name (m ∷ ms)
unfolding answers
text_here protected c s disk m ms n last x k = record {
  before = [];
  message = m;
  after = ms;
  split = refl;
  pairs = x.pairs;
  text = x.is;
  right = subst (λ (name : List ℕ). AnswersChallenge c name x.pairs) (sym (k.name x.has_text)) x.right;
}

behind : (protected : Bool) (c : Chap) (s : Machine) (disk : Disk) (before : ℕ) (m : Message) (ms : List Message) (first : TargetStep) (now : ℕ) (last : Session)
    → MayStep protected s disk before m first now → Held c s.session → Kept c first.machine.session last → (p : Phase) → s.session.phase ≡ p
    → Responded protected c first.machine first.disk last.initiator_name ms → Responded protected c s disk last.initiator_name (m ∷ ms)
behind protected c s disk before m ms first now last x h k phases.Full e r = inl (h.phase e)
behind protected c s disk before m ms first now last x h k p e (inl passed) =
    elim ((may_guards protected c s disk before m first now x h.demands).passes passed) [
      | inl was ↦ inl was
      | inr right ↦ inr (text_here protected c s disk m ms first.machine.session last right k)
    ]
behind protected c s disk before m ms first now last x h k phases.Login e (inr r) =
    inr (text_behind protected c s disk last.initiator_name m ms first
    (x.is ∙ same_before x.device (reliable protected) s disk m phases.Login e (λ f. absurd (cc f))) r)
behind protected c s disk before m ms first now last x h k phases.Closed e (inr r) =
    inr (text_behind protected c s disk last.initiator_name m ms first
    (x.is ∙ same_before x.device (reliable protected) s disk m phases.Closed e (λ f. absurd (cc f))) r)

-- the name is that of a session that these messages, or more, lead to
pub passed : (protected : Bool) (c : Chap) (s : Machine) (disk : Disk) (before : ℕ) (ms : List Message) (r : TargetStep) (after : ℕ) (last : Session)
    → MayAnswer protected s disk before ms r after → Held c s.session → Kept c r.machine.session last → r.machine.session.progress ≡ Passed
    → Responded protected c s disk last.initiator_name ms
unfolding MayAnswer
passed protected c s disk before [] r after last may h k e = inl (subst (λ (x : TargetStep). x.machine.session.progress ≡ Passed) may.0 e)
passed protected c s disk before (m ∷ ms) r after last may h k e =
    let first : TargetStep = may.0 in
    let later : TargetStep = may.1 in
    let held : Held c first.machine.session = (may_keep protected c s disk before m first may.2 may.3 h.demands).held h in
    let rest : Kept c later.machine.session last = subst (λ (x : TargetStep). Kept c x.machine.session last) may.5 k in
    behind protected c s disk before m ms first may.2 last may.3 h
    (then_kept c first.machine.session later.machine.session last (all_kept protected c first.machine first.disk may.2 ms later after may.4 held) rest)
    s.session.phase refl
    (passed protected c first.machine first.disk may.2 ms later after last may.4 held rest
    (subst (λ (x : TargetStep). x.machine.session.progress ≡ Passed) may.5 e))

executed_at : (protected : Bool) (c : Chap) (s : Machine) (disk : Disk) (before : ℕ) (m : Message) (ms : List Message) (first later : TargetStep) (now : ℕ)
    (last : Session) → MayStep protected s disk before m first now → Held c s.session → Kept c first.machine.session last → (p : Phase) → s.session.phase ≡ p
    → ((then_stepped first later).executed ≡ [] → ⊥)
    → ((later.executed ≡ [] → ⊥) → Responded protected c first.machine first.disk last.initiator_name ms)
    → Responded protected c s disk last.initiator_name (m ∷ ms)
executed_at protected c s disk before m ms first later now last x h k phases.Full e some more = inl (h.phase e)
executed_at protected c s disk before m ms first later now last x h k phases.Login e some more =
    behind protected c s disk before m ms first now last x h k phases.Login e
    (more (behind_none first later (may_execute_none protected s disk before m first now x phases.Login e (λ f. absurd (cc f))) some))
executed_at protected c s disk before m ms first later now last x h k phases.Closed e some more =
    behind protected c s disk before m ms first now last x h k phases.Closed e
    (more (behind_none first later (may_execute_none protected s disk before m first now x phases.Closed e (λ f. absurd (cc f))) some))

pub executed : (protected : Bool) (c : Chap) (s : Machine) (disk : Disk) (before : ℕ) (ms : List Message) (r : TargetStep) (after : ℕ) (last : Session)
    → MayAnswer protected s disk before ms r after → Held c s.session → Kept c r.machine.session last → (r.executed ≡ [] → ⊥)
    → Responded protected c s disk last.initiator_name ms
unfolding MayAnswer
executed protected c s disk before [] r after last may h k some = absurd (some (ap (λ (x : TargetStep). x.executed) may.0))
executed protected c s disk before (m ∷ ms) r after last may h k some =
    let first : TargetStep = may.0 in
    let later : TargetStep = may.1 in
    let held : Held c first.machine.session = (may_keep protected c s disk before m first may.2 may.3 h.demands).held h in
    let rest : Kept c later.machine.session last = subst (λ (x : TargetStep). Kept c x.machine.session last) may.5 k in
    executed_at protected c s disk before m ms first later may.2 last may.3 h
    (then_kept c first.machine.session later.machine.session last (all_kept protected c first.machine first.disk may.2 ms later after may.4 held) rest)
    s.session.phase refl (subst (λ (x : TargetStep). x.executed ≡ [] → ⊥) may.5 some)
    (λ more. executed protected c first.machine first.disk may.2 ms later after last may.4 held rest more)

-- ---- the law

pub opening_held : (settings : TargetSettings) (n : ℕ) (c : Chap) → settings.extras.chap ≡ Some c → Held c (opening_machine settings n).session
opening_held settings n c d = record { demands = d; stage = λ f. absurd (cc f); phase = λ f. absurd (cc f) }

unpassed : (protected : Bool) (settings : TargetSettings) (n : ℕ) (disk : Disk) (name : List ℕ) (ms : List Message) (c : Chap)
    → Responded protected c (opening_machine settings n) disk name ms → HasResponded protected (opening_machine settings n) disk c name ms
unpassed protected settings n disk name ms c (inl was) = absurd (cc was)
unpassed protected settings n disk name ms c (inr h) = h

pub full_if_answered : (protected : Bool) (settings : TargetSettings) (n : ℕ) (disk : Disk) (before after : ℕ) (ms : List Message) (r : TargetStep) (c : Chap)
    → settings.extras.chap ≡ Some c → MayAnswer protected (opening_machine settings n) disk before ms r after → r.machine.session.stage ≡ stages.Full
    → HasResponded protected (opening_machine settings n) disk c r.machine.session.initiator_name ms
full_if_answered protected settings n disk before after ms r c d may e =
    let s : Machine = opening_machine settings n in
    let h : Held c s.session = opening_held settings n c d in
    unpassed protected settings n disk r.machine.session.initiator_name ms c
    (passed protected c s disk before ms r after r.machine.session may h (all_kept_here c r.machine.session)
    (((all_kept protected c s disk before ms r after may h).held h).stage e))

pub executed_if_answered : (protected : Bool) (settings : TargetSettings) (n : ℕ) (disk : Disk) (before after : ℕ) (ms : List Message) (r : TargetStep)
    (c : Chap) → settings.extras.chap ≡ Some c → MayAnswer protected (opening_machine settings n) disk before ms r after → (r.executed ≡ [] → ⊥)
    → HasResponded protected (opening_machine settings n) disk c r.machine.session.initiator_name ms
executed_if_answered protected settings n disk before after ms r c d may some =
    unpassed protected settings n disk r.machine.session.initiator_name ms c
    (executed protected c (opening_machine settings n) disk before ms r after r.machine.session may (opening_held settings n c d)
    (all_kept_here c r.machine.session) some)

-- The exchange of a login, request by request: how it ends for both ends.
use Rattle.std.proofs.Common.{◌≡◌, ◌⊎◌, inl, inr, ℕ, false, List, [], ◌∷◌, ◌++◌, map, Option, Some, refl, sym, ap, ◌∙◌, subst, append_assoc}
use Rattle.scsi_disk.specs.Disk.{Disk}
use Rattle.iscsi_stream.specs.declared.logins.Logins.{Logins}
use Rattle.iscsi_stream.specs.Segment.{logins_after}
use Rattle.iscsi_stream.specs.Stream.{Message, ReadsAs}
use Rattle.iscsi_stream.specs.Canonical.{canon, canonical_bytes}
use Rattle.iscsi_stream.proofs.OneMeaningLaw.{no_pdu_none}
use Rattle.iscsi_login.specs.declared.phase.Phase.{Phase}
use Rattle.iscsi_login.specs.declared.phase.Phase.TheVariants as phases
use Rattle.iscsi_login.specs.declared.stage.Stage.TheVariants as stages
use Rattle.iscsi_target.specs.State as target
use Rattle.iscsi_target.specs.Machine as target_machine
use Rattle.iscsi_target.specs.Machine.{answers}
use Rattle.iscsi_initiator.specs.declared.request.Request.{Request}
use Rattle.iscsi_initiator.specs.declared.request.Done.{Done}
use Rattle.iscsi_initiator.specs.declared.request.SubmitFault.{SubmitFault}
use Rattle.iscsi_initiator.specs.declared.request.SubmitFault.TheVariants as refusals
use Rattle.iscsi_initiator.specs.State as initiator
use Rattle.iscsi_login.specs.Stage.{is_closed_phase}
use Rattle.iscsi_initiator.specs.Steps.{InitiatorStep}
use Rattle.iscsi_initiator.specs.Machine.{initiator_step, outcome_handed_out}
use Rattle.iscsi_initiator.specs.Submitted.{SubmitStep, submitted, or_accepted, refusal_in}
use Rattle.iscsi_initiator.specs.Laws as history
use Rattle.iscsi_initiator.proofs.HeldLaws.{held_stays}
use Rattle.iscsi_initiator.proofs.OneOutcomeLaw.{closed_step}
use Rattle.iscsi_pair.specs.World.{Opening, IsOpening}
use Rattle.iscsi_pair.specs.Traffic.{session_after_all, sent, coming}
use Rattle.iscsi_initiator.specs.Laws.{SessionInput, Comes, Asks, Takes, met}
use Rattle.iscsi_pair.proofs.Ends.InitiatorEnds.{begun}
use Rattle.iscsi_pair.proofs.Wire.PrefixLemmas.{IsFirst, first_is}
use Rattle.iscsi_pair.proofs.Login.InitiatorStep.{Closes}
use Rattle.iscsi_pair.proofs.Login.RoundAgrees.{Agreed, Asking, Asks_on, Round, asking_readable, round}
use Rattle.iscsi_initiator.specs.Configured.{IsStart}
use Rattle.iscsi_target.proofs.Steps.KeepingLemmas.{Stays, IsLater}
use Rattle.iscsi_pair.proofs.Ends.TargetHeldStays.{held_stays as target_stays}

-- ---- what an initiator keeps

-- a request that is refused changes nothing
pub refused : (p : Phase) (m : initiator.InitiatorSession) (request : Request) (fault : SubmitFault) → m.phase ≡ p → refusal_in p m request ≡ Some fault
    → submitted m request ≡ record { machine = m; output = []; refusal = Some fault }
unfolding submitted
refused p m request fault is e =
    ap (λ (o : Option SubmitFault). or_accepted o m request) (ap (λ (x : Phase). refusal_in x m request) is ∙ e)

-- a closed session stays in its stage
after_closed : (m : initiator.InitiatorSession) (input : SessionInput) → m.phase ≡ phases.Closed → ((met m input).phase ≡ phases.Closed)
    × ((met m input).stage ≡ m.stage)
after_closed m (Comes message) e =
    let q = closed_step m message (ap is_closed_phase e) in
    (ap (λ (s : InitiatorStep). s.machine.phase) q ∙ e, ap (λ (s : InitiatorStep). s.machine.stage) q)
after_closed m (Asks request) e =
    let q = refused phases.Closed m request refusals.Closed e refl in
    (ap (λ (s : SubmitStep). s.machine.phase) q ∙ e, ap (λ (s : SubmitStep). s.machine.stage) q)
after_closed m Takes e = (e, refl)

pub closed_stays : (m : initiator.InitiatorSession) (inputs : List SessionInput) → m.phase ≡ phases.Closed
    → ((session_after_all m inputs).phase ≡ phases.Closed) × ((session_after_all m inputs).stage ≡ m.stage)
closed_stays m [] e = (e, refl)
closed_stays m (input ∷ inputs) e =
    let q = after_closed m input e in
    let r = closed_stays (met m input) inputs q.0 in
    (r.0, r.1 ∙ q.1)

run_inputs : (m : initiator.InitiatorSession) (inputs : List SessionInput) → history.run m (map history.Meets inputs) ≡ session_after_all m inputs
run_inputs m [] = refl
run_inputs m (input ∷ inputs) = run_inputs (met m input) inputs

run_append : (m : initiator.InitiatorSession) (a b : List history.InitiatorEvent) → history.run m (a ++ b) ≡ history.run (history.run m a) b
run_append m [] b = refl
run_append m (e ∷ a) b = run_append (history.session_after m e) a b

-- the session is one that a new one comes to
pub record IsReached (c : Opening) (m : initiator.InitiatorSession) : Type 0 where
  pub events : List history.InitiatorEvent
  pub is : m ≡ history.run (initiator.new_session c.initiator) events

pub reached_more : (c : Opening) (m : initiator.InitiatorSession) (message : Message) → IsReached c m → IsReached c (initiator_step m message).machine
reached_more c m message r = record {
  events = r.events ++ history.Meets (Comes message) ∷ [];
  is = ap (λ (x : initiator.InitiatorSession). (initiator_step x message).machine) r.is
      ∙ sym (run_append (initiator.new_session c.initiator) r.events (history.Meets (Comes message)
      ∷ []));
}

-- what is held after the login stays
pub full_stays : (c : Opening) (m : initiator.InitiatorSession) (inputs : List SessionInput) → IsOpening c → IsReached c m → m.stage ≡ stages.Full
    → ((session_after_all m inputs).stage ≡ stages.Full) × ((session_after_all m inputs).held ≡ m.held)
full_stays c m inputs o r full =
    let first : initiator.InitiatorSession = history.run (initiator.new_session c.initiator) r.events in
    let h = held_stays c.initiator o.initiator.in_range.start r.events (map history.Meets inputs)
    (ap (λ (x : initiator.InitiatorSession). x.stage) (sym r.is) ∙ full) in
    let same : session_after_all m inputs ≡ history.run first (map history.Meets inputs) =
    ap (λ (x : initiator.InitiatorSession). session_after_all x inputs) r.is
    ∙ sym (run_inputs first inputs) in (
      ap (λ (x : initiator.InitiatorSession). x.stage) same ∙ h.0,
      ap (λ (x : initiator.InitiatorSession). x.held) same ∙ h.1
          ∙ ap (λ (x : initiator.InitiatorSession). x.held) (sym r.is),
    )

-- ---- what was read

-- no bytes are read as no messages
pub nothing_read : (limit : ℕ) (logins : Logins) (given : List ℕ) → ReadsAs limit logins given [] → given ≡ []
unfolding ReadsAs
nothing_read limit logins given e = e

pub not_empty : (limit : ℕ) (back : Logins) (given y : List ℕ) (a : Message) (ms : List Message) → ReadsAs limit back given (a ∷ ms) → given ++ y ≡ [] → ⊥
unfolding ReadsAs
not_empty limit back given y a ms p e =
    let b = p.0 in
    no_pdu_none limit b.bytes b.segment (b.rest ++ y) a.head (sym e ∙ ap (λ (x : List ℕ). x ++ y) b.whole ∙ append_assoc b.bytes b.rest y) b.means b.within

-- more is said than the answers to these messages only behind the login
abbrev pub OnlyLater : List Message → target.TargetStep → Type 0
OnlyLater extra r = (extra ≡ []) ⊎ (r.machine.session.phase ≡ phases.Full)

none_said : (k : ℕ) (back : Logins) (taken_ y : List ℕ) (m : Message) (ms extra : List Message) (t : target.Machine) → t.session.phase ≡ phases.Login
    → (extra ≡ []) ⊎ (t.session.phase ≡ phases.Full)
    → ReadsAs k back taken_ (m ∷ ms) → taken_ ++ y ≡ canon extra → ⊥
none_said k back taken_ y m ms extra t login (inl none) q f = not_empty k back taken_ y m ms q (f ∙ ap canon none)
none_said k back taken_ y m ms extra t login (inr full) q f = (let bad : phases.Login ≡ phases.Full = sym login ∙ full in absurd cc)

-- ---- the exchange

-- What stays throughout: the configurations, what the target says behind its login, and the most bytes of a segment at
-- either end. What is left over of the bytes for the target and of those for the initiator stays too.
pub record Way : Type 0 where
  pub opening : Opening
  pub extra : List Message
  pub target_limit : ℕ
  pub initiator_limit : ℕ
  pub left_there : List ℕ
  pub left_here : List ℕ

-- The initiator waits for the answer to a request. The target reads this and what the initiator sends then, and the
-- initiator what the target answers.
pub record LoginExchange (w : Way) (inputs : List SessionInput) (i : initiator.InitiatorSession) (t : target.Machine) (disk : Disk) (ms : List Message) : Type
    0 where
  pub there : Logins
  pub here : Logins
  pub request : Message
  pub asking : Asking w.opening i t there request
  pub first : here.response ≡ false
  pub reached : IsReached w.opening i
  pub given : List ℕ
  pub reads : ReadsAs w.target_limit there given ms
  pub sends : given ++ w.left_there ≡ canonical_bytes request ++ canon (sent i inputs)
  pub received : List ℕ
  pub receives : ReadsAs w.initiator_limit here received (coming inputs)
  pub answered : received ++ w.left_here ≡ canon ((answers false t disk ms).answers ++ w.extra)
  pub only : OnlyLater w.extra (answers false t disk ms)

-- what both ends keep from request to request
abbrev pub Kept : Type 1
Kept = initiator.InitiatorSession → target.Machine → Type 0

-- An answer closes the session, where one may, or both ends have completed the login, or the next request keeps it.
abbrev pub Turns : Opening → Type 0 → Kept → Type 0
Turns c MayClose P = (i : initiator.InitiatorSession) (t : target.Machine) (there : Logins) (r : Message) (disk : Disk) → Asking c i t there r → P i t
    → (turn : Round c i (target_machine.target_step false t disk r) (logins_after there r.head))
    → (MayClose × Closes i (initiator_step i turn.answer))
    ⊎ (Agreed (initiator_step i turn.answer) (target_machine.target_step false t disk r).machine
    ⊎ (Asks_on c (initiator_step i turn.answer) (target_machine.target_step false t disk r).machine (logins_after there r.head)
    × P (initiator_step i turn.answer).machine (target_machine.target_step false t disk r).machine))

-- How it ends: the initiator receives no more, an answer has closed its session in the login, or both have completed it.
pub data Ended (w : Way) (MayClose : Type 0) (P : Kept) (r : target.Machine) (m : initiator.InitiatorSession) : Type 0 where
  Waiting : (t : target.Machine) (disk : Disk) (ms : List Message) → P m t → LoginExchange w [] m t disk ms → r ≡ (answers false t disk ms).machine
      → Ended w MayClose P r m
  Closing : MayClose → m.phase ≡ phases.Closed → IsStart m.stage → Ended w MayClose P r m
  Agreeing : r.session.stage ≡ stages.Full → r.session.held ≡ m.held → m.stage ≡ stages.Full → Ended w MayClose P r m

-- an input that is no message, and at which nothing is sent, makes no difference
skipped : (w : Way) (input : SessionInput) (inputs : List SessionInput) (i : initiator.InitiatorSession) (t : target.Machine) (disk : Disk) (ms : List Message)
    → LoginExchange w (input ∷ inputs) i t disk ms → coming (input ∷ inputs) ≡ coming inputs → canon (sent i (input ∷ inputs)) ≡ canon (sent i inputs)
    → LoginExchange w inputs i t disk ms
skipped w input inputs i t disk ms x come same = record {
  there = x.there;
  here = x.here;
  request = x.request;
  asking = x.asking;
  first = x.first;
  reached = x.reached;
  given = x.given;
  reads = x.reads;
  sends = x.sends ∙ ap (λ (xs : List ℕ). canonical_bytes x.request ++ xs) same;
  received = x.received;
  receives = subst (ReadsAs w.initiator_limit x.here x.received) come x.receives;
  answered = x.answered;
  only = x.only;
}

-- so it ends
pub exchange_ends : (inputs : List SessionInput) (w : Way) (MayClose : Type 0) (P : Kept) (i : initiator.InitiatorSession) (t : target.Machine) (disk : Disk)
    (ms : List Message) → IsOpening w.opening → Turns w.opening MayClose P → P i t → LoginExchange w inputs i t disk ms
    → Ended w MayClose P (answers false t disk ms).machine (session_after_all i inputs)
unfolding answers
exchange_ends [] w MayClose P i t disk ms o turns p x = Waiting t disk ms p x refl
exchange_ends (Takes ∷ inputs) w MayClose P i t disk ms o turns p x =
    let same : outcome_handed_out i ≡ i = ap (λ (d : Option Done). record i { done = d }) (sym x.asking.no_outcome) in
    subst (λ (m : initiator.InitiatorSession). Ended w MayClose P (answers false t disk ms).machine (session_after_all m inputs)) (sym same)
    (exchange_ends inputs w MayClose P i t disk ms o turns p
    (skipped w Takes inputs i t disk ms x refl (ap (λ (m : initiator.InitiatorSession). canon (sent m inputs)) same)))
exchange_ends (Asks request ∷ inputs) w MayClose P i t disk ms o turns p x =
    let s = refused phases.Login i request refusals.NotReady x.asking.phase refl in
    subst (λ (m : SubmitStep). Ended w MayClose P (answers false t disk ms).machine (session_after_all m.machine inputs)) (sym s)
    (exchange_ends inputs w MayClose P i t disk ms o turns p
    (skipped w (Asks request) inputs i t disk ms x refl (ap (λ (m : SubmitStep). canon (m.output ++ sent m.machine inputs)) s)))
exchange_ends (Comes m ∷ inputs) w MayClose P i t disk [] o turns p x =
    absurd (none_said w.initiator_limit x.here x.received w.left_here m (coming inputs) w.extra t x.asking.logs_in.phase x.only x.receives x.answered)
exchange_ends (Comes m ∷ inputs) w MayClose P i t disk (n ∷ ms) o turns p x =
    let c : Opening = w.opening in
    let r : Message = x.request in
    let one : (n ≡ r) × IsFirst w.target_limit x.there w.left_there (canon (sent i (Comes m ∷ inputs))) r ms =
    first_is w.target_limit x.there x.given w.left_there (canon (sent i (Comes m ∷ inputs))) n r ms
    (asking_readable c i t x.there r o x.asking) x.reads x.sends in
    let turn : Round c i (target_machine.target_step false t disk r) (logins_after x.there r.head) = round c i t x.there r disk o x.asking in
    let now : target.TargetStep = target_machine.target_step false t disk r in
    let later : target.TargetStep = answers false now.machine now.disk ms in
    let said : canon ((answers false t disk (n ∷ ms)).answers ++ w.extra) ≡ canonical_bytes turn.answer ++ canon (later.answers ++ w.extra) =
    ap (λ (v : Message). canon ((answers false t disk (v ∷ ms)).answers ++ w.extra)) one.0
    ∙ ap (λ (xs : List Message). canon ((xs ++ later.answers) ++ w.extra)) turn.is in
    let two : (m ≡ turn.answer) × IsFirst w.initiator_limit x.here w.left_here (canon (later.answers ++ w.extra)) turn.answer (coming inputs) =
    first_is w.initiator_limit x.here x.received w.left_here (canon (later.answers ++ w.extra)) m turn.answer (coming inputs)
    (turn.readable x.here x.first) x.receives (x.answered ∙ said) in
    let only : OnlyLater w.extra later = subst (λ (v : Message). OnlyLater w.extra (answers false t disk (v ∷ ms))) one.0 x.only in
    let s : InitiatorStep = initiator_step i turn.answer in
    let sent_is : one.1.given ++ w.left_there ≡ canon (s.output ++ sent s.machine inputs) =
    one.1.rest ∙ ap (λ (v : Message). canon (sent i (Comes v ∷ inputs))) two.0 in
    let reach_ : IsReached c s.machine = reached_more c i turn.answer x.reached in
    let core : Ended w MayClose P later.machine (session_after_all s.machine inputs) = elim (turns i t x.there r disk x.asking p turn) [
      | inl shut ↦ (let stays = closed_stays s.machine inputs shut.1.phase in
          Closing shut.0 stays.0 (subst IsStart (sym (stays.1 ∙ shut.1.stage)) x.asking.stage))
      | inr on ↦ elim on [
        | inl agreed ↦ (let keeps : Stays now.machine later.machine = target_stays now.machine now.disk ms (subst IsLater (sym agreed.target_phase) tt) in
            let full = full_stays c s.machine inputs o reach_ agreed.stage in
            Agreeing (keeps.stage ∙ agreed.target_stage) (keeps.held ∙ agreed.held ∙ sym full.1) full.0)
        | inr next ↦ exchange_ends inputs w MayClose P s.machine now.machine now.disk ms o turns next.1 (record {
          there = logins_after x.there r.head;
          here = logins_after x.here turn.answer.head;
          request = next.0.request;
          asking = next.0.asking;
          first = turn.last x.here x.first;
          reached = reach_;
          given = one.1.given;
          reads = one.1.reads;
          sends = sent_is ∙ ap (λ (xs : List Message). canon (xs ++ sent s.machine inputs)) next.0.is;
          received = two.1.given;
          receives = two.1.reads;
          answered = two.1.rest;
          only = only;
        })
      ]
    ] in
    subst (λ (v : Message). Ended w MayClose P (answers false t disk (v ∷ ms)).machine (session_after_all i (Comes m ∷ inputs))) (sym one.0)
    (subst (λ (v : Message). Ended w MayClose P (answers false t disk (r ∷ ms)).machine (session_after_all i (Comes v ∷ inputs))) (sym two.0) core)

-- ---- nothing is kept

-- nothing in particular
abbrev pub anything : Kept
anything i t = Unit {0}

-- where nothing is to be kept, an answer may close the session
pub any_turns : (c : Opening) → Turns c (Unit {0}) anything
any_turns c i t there r disk a p turn = elim turn.leads [
  | inl closes ↦ inl (tt, closes)
  | inr on ↦ elim on [
    | inl agreed ↦ inr (inl agreed)
    | inr next ↦ inr (inr (next, tt))
  ]
]

-- ---- the start

pub first_reached : (c : Opening) → IsReached c (begun c)
first_reached c = record { events = history.Starts ∷ []; is = refl }

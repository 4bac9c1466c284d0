-- Where both ends suit each other, none fails before its login is completed.
use Rattle.std.proofs.Common.{◌≡◌, ◌≢◌, ◌<◌, ◌≤◌, ◌⊎◌, inl, inr, ℕ, true, false, List, [], ◌∷◌, ◌++◌, length, take, Option, Some, None, Result, Ok, Err, refl}
use Rattle.std.proofs.Common.{sym, ap, ◌∙◌, subst, append_assoc, arith}
use Rattle.std.proofs.lemmas.Bool.{or_parts}
use Rattle.std.specs.Result.{result_err}
use Rattle.std.proofs.lemmas.List.{append-nil, length-append, take-append-le}
use Rattle.scsi_disk.specs.Disk.{disk_of}
use Rattle.iscsi_pdu.specs.declared.head.Head.{Head}
use Rattle.iscsi_pdu.specs.Meaning.{IsHeader}
use Rattle.iscsi_pdu.proofs.HeaderLemmas.{IsHeader-unique}
use Rattle.iscsi_stream.specs.declared.fault.StreamFault.{StreamFault}
use Rattle.iscsi_stream.specs.declared.fault.StreamFault.TheVariants as stream
use Rattle.iscsi_stream.specs.Segment.{no_login, segment_bytes}
use Rattle.iscsi_stream.specs.Stream.{Message, ReadsAs}
use Rattle.iscsi_stream.specs.Canonical.{canon, canonical_bytes}
use Rattle.iscsi_stream.specs.Framing.{Framing, HasTaken, FramerFeedFails, settled}
use Rattle.iscsi_stream.proofs.OneMeaningLaw.{starts}
use Rattle.iscsi_stream.proofs.HeadLemmas.{bad_header}
use Rattle.iscsi_stream.proofs.SettledBytesLemmas.{settled-short, length-settled}
use Rattle.iscsi_stream.proofs.ReadyLemmas.{apart}
use Rattle.iscsi_login.specs.declared.stage.Stage.TheVariants as stages
use Rattle.iscsi_target.specs.declared.fault.TargetFault.{TargetFault}
use Rattle.iscsi_target.specs.declared.fault.TargetFault.TheVariants as target_faults
use Rattle.iscsi_target.specs.State as target
use Rattle.iscsi_initiator.specs.declared.fault.InitiatorFault.TheVariants as faults
use Rattle.iscsi_initiator.specs.declared.fault.InitiatorFault.{InitiatorFault}
use Rattle.iscsi_initiator.specs.declared.request.Request.{Request}
use Rattle.iscsi_initiator.specs.declared.request.Refused.{Refused}
use Rattle.iscsi_initiator.specs.declared.request.SubmitFault.{SubmitFault}
use Rattle.iscsi_initiator.specs.Calls as calls
use Rattle.iscsi_initiator.specs.Calls.{InitiatorConnection}
use Rattle.iscsi_initiator.specs.State as initiator
use Rattle.iscsi_initiator.specs.Login.{start_step}
use Rattle.iscsi_pair.specs.declared.step.EndFault.{EndFault}
use Rattle.iscsi_pair.specs.declared.step.EndFault.TheVariants as ends
use Rattle.iscsi_pair.specs.World.{World, Opening, IsOpening, IsInTime, SuitEachOther, PairEvent, feed_fault, submit_fault, ToTarget, ToInitiator, Submits, Takes, PairEventStep}
use Rattle.iscsi_pair.specs.World.{PairRuns, RunsInTime, MovesToTarget, MovesToInitiator, RequestHandedIn, new_pair, target_ran_out, initiator_ran_out, keeps_no_memory}
use Rattle.iscsi_pair.specs.Traffic.{Traffic, target_said, session_after_all, sent, coming}
use Rattle.iscsi_initiator.specs.Laws.{SessionInput}
use Rattle.iscsi_pair.proofs.Ends.TargetRun.{TargetFront, front_output, TargetEnded, TargetBroken, TargetFailed}
use Rattle.iscsi_pair.proofs.Ends.InitiatorEnds.{InitiatorFront, InitiatorEnded, InitiatorBroken, InitiatorFailed, begun, all_sent}
use Rattle.iscsi_pair.proofs.Ends.BothRuns.{Sides}
use Rattle.iscsi_pair.proofs.Login.RoundAgrees.{Asks_on, first_asks}
use Rattle.iscsi_pair.proofs.Login.Exchange.{Way, first_reached}
use Rattle.iscsi_pair.proofs.Login.RoundProgress.{first_suited}
use Rattle.iscsi_pair.proofs.Login.NoFailure.{Waits, AreWell, stay_well}

-- ---- a framer refuses no good message

-- the first 48 bytes of what stands there are those of what was fed
pub front_of : (held rest piece bytes behind : List ℕ) → held ≡ settled rest → length held < 48 → 48 ≤ length (held ++ piece)
    → bytes ≡ rest ++ (piece ++ behind)
    → (take 48 bytes ≡ take 48 (held ++ piece)) × (48 ≤ length bytes)
front_of held rest piece bytes behind h short long b =
    let n : length rest ≡ length held = sym (length-settled rest) ∙ ap length (sym h) in
    let same : held ≡ rest = h ∙ settled-short rest (omega (arith, n, short)) in
    let whole : bytes ≡ (held ++ piece) ++ behind = b ∙ sym (append_assoc rest piece behind) ∙ ap (λ (x : List ℕ). (x ++ piece) ++ behind) (sym same) in
    let size = ap length whole in
    let all = length-append (held ++ piece) behind in
    (ap (take 48) whole ∙ take-append-le 48 (held ++ piece) behind long, omega (arith, size, all, long))

refuses_none : (fault : StreamFault) (v : Framing) (front : List ℕ) (ms : List Message) (piece bytes behind : List ℕ) → (h : HasTaken front ms v)
    → 8192 ≤ v.limit → fault ≢ stream.NoMemory
    → FramerFeedFails v piece fault → bytes ≡ h.rest ++ (piece ++ behind) → Waits bytes → ⊥
refuses_none stream.NoMemory v front ms piece bytes behind h le some f b w = some refl
refuses_none (stream.Head fault place) v front ms piece bytes behind h le some f b w =
    let e = front_of v.held h.rest piece bytes behind h.held f.1.before f.1.reached b in
    elim w [
      | inl none ↦ absurd (let n = ap length none in let m = e.1 in omega (arith, n, m))
      | inr s ↦ (let q = starts bytes (canonical_bytes s.message) s.more s.message.head (segment_bytes s.message.segment) s.is s.readable.means in
          bad_header (take 48 (v.held ++ piece)) s.message.head (length (segment_bytes s.message.segment)) fault
          (subst (λ (x : List ℕ). IsHeader x s.message.head (length (segment_bytes s.message.segment))) e.0 q.0) f.2)
    ]
refuses_none (stream.OverLimit place) v front ms piece bytes behind h le some f b w =
    let head : Head = f.1.0 in
    let len : ℕ = f.1.1 in
    let c = f.1.2 in
    let e = front_of v.held h.rest piece bytes behind h.held c.reaches.before c.reaches.reached b in
    elim w [
      | inl none ↦ absurd (let n = ap length none in let m = e.1 in omega (arith, n, m))
      | inr s ↦ (let q = starts bytes (canonical_bytes s.message) s.more s.message.head (segment_bytes s.message.segment) s.is s.readable.means in
          let u = IsHeader-unique (take 48 (v.held ++ piece)) head s.message.head len (length (segment_bytes s.message.segment)) c.header
          (subst (λ (x : List ℕ). IsHeader x s.message.head (length (segment_bytes s.message.segment))) e.0 q.0) in
          let short = s.short in
          let over = f.1.3 in
          let same = u.1 in
          absurd (omega (arith, short, over, same, le)))
    ]
refuses_none (stream.Truncated place) v front ms piece bytes behind h le some f b w = f
refuses_none stream.Failed v front ms piece bytes behind h le some f b w = (let bad : true ≡ false = sym f ∙ h.live in absurd cc)

-- ---- worlds

all_well : (c : Opening) (inputs : List SessionInput) (ms : List Message) (l k : ℕ) (given x taken_ y : List ℕ) → IsOpening c → SuitEachOther c
    → ReadsAs l no_login given ms
    → given ++ x ≡ canon (all_sent c inputs)
    → ReadsAs k no_login taken_ (coming inputs) → taken_ ++ y ≡ canon (target_said c ms).answers
    → AreWell (session_after_all (begun c) inputs) (target_said c ms) x y
all_well c inputs ms l k given x taken_ y o suits p e q f =
    let a : Asks_on c (start_step (initiator.new_session c.initiator)) (target.opening_machine c.target c.first_stat_sn) no_login = first_asks c o in
    let way : Way = record {
      opening = c;
      extra = [];
      target_limit = l;
      initiator_limit = k;
      left_there = x;
      left_here = y;
    } in
    stay_well inputs way (begun c) (target.opening_machine c.target c.first_stat_sn) (disk_of c.blocks) ms o suits refl (first_suited c o)
    (record {
      there = no_login;
      here = no_login;
      request = a.request;
      asking = a.asking;
      first = refl;
      reached = first_reached c;
      given = given;
      reads = p;
      sends = e ∙ ap (λ (m : List Message). canon (m ++ sent (begun c) inputs)) a.is;
      received = taken_;
      receives = q;
      answered = f ∙ ap canon (sym (append-nil (target_said c ms).answers));
      only = inl refl;
    })

-- what was queued begins with what was read of what was moved
read_first : (moved queue queued given rest lost whole : List ℕ) → moved ≡ given ++ rest → moved ++ queue ≡ queued → queued ++ lost ≡ whole
    → given ++ (rest ++ (queue ++ lost)) ≡ whole
read_first moved queue queued given rest lost whole m q w =
    sym (append_assoc given rest (queue ++ lost)) ∙ ap (λ (x : List ℕ). x ++ (queue ++ lost)) (sym m) ∙ sym (append_assoc moved queue lost)
    ∙ ap (λ (x : List ℕ). x ++ lost) q ∙ w

-- what both ends have done, where the target's messages and the initiator's inputs are these
both_well : (c : Opening) (u : Traffic) (w : World) (inputs : List SessionInput) (ms : List Message) (l k : ℕ) (given rest taken_ more lost : List ℕ)
    → IsOpening c
    → SuitEachOther c → Sides c u w
    → ReadsAs l no_login given ms → u.moved_to_target ≡ given ++ rest → u.queued_for_target ++ lost ≡ canon (all_sent c inputs)
    → ReadsAs k no_login taken_ (coming inputs) → u.moved_to_initiator ≡ taken_ ++ more → u.queued_for_initiator ≡ canon (target_said c ms).answers
    → AreWell (session_after_all (begun c) inputs) (target_said c ms) (rest ++ (w.to_target ++ lost)) (more ++ (w.to_initiator ++ []))
both_well c u w inputs ms l k given rest taken_ more lost o suits s p m e q n f =
    all_well c inputs ms l k given (rest ++ (w.to_target ++ lost)) taken_ (more ++ (w.to_initiator ++ [])) o suits p
    (read_first u.moved_to_target w.to_target u.queued_for_target given rest lost (canon (all_sent c inputs)) m s.to_target e) q
    (read_first u.moved_to_initiator w.to_initiator u.queued_for_initiator taken_ more [] (canon (target_said c ms).answers) n s.to_initiator
    (append-nil u.queued_for_initiator ∙ f))

target_ended : (c : Opening) (u : Traffic) (w : World) → IsOpening c → SuitEachOther c → Sides c u w
    → TargetEnded c u.moved_to_target u.queued_for_initiator w.target
    → w.target.machine.session.stage ≡ stages.Full
target_ended c u w o suits s e =
    let i : InitiatorFront c u.moved_to_initiator u.queued_for_target w.initiator = s.initiator.front in
    let well = both_well c u w i.inputs e.messages e.limit i.limit e.given e.rest i.given i.rest i.lost o suits s e.reads e.whole i.output i.reads i.whole
    e.output in
    elim well.target [
      | inl full ↦ e.stage ∙ full
      | inr on ↦ absurd (apart e.closed on.0)
    ]

target_broken : (fault : StreamFault) (c : Opening) (u : Traffic) (w : World) → IsOpening c → SuitEachOther c → Sides c u w
    → TargetBroken fault c u.moved_to_target u.queued_for_initiator w.target → w.target.machine.session.stage ≡ stages.Full
target_broken fault c u w o suits s e =
    let i : InitiatorFront c u.moved_to_initiator u.queued_for_target w.initiator = s.initiator.front in
    let rest : List ℕ = e.taken.rest ++ (e.piece ++ e.more) in
    let whole : u.moved_to_target ≡ e.taken.given ++ rest = e.whole ∙ ap (λ (x : List ℕ). x ++ (e.piece ++ e.more)) e.taken.whole
    ∙ append_assoc e.taken.given e.taken.rest (e.piece ++ e.more) in
    let well = both_well c u w i.inputs e.messages e.framing.limit i.limit e.taken.given rest i.given i.rest i.lost o suits s e.taken.reads whole i.output
    i.reads i.whole e.output in
    let enough : 8192 ≤ e.framing.limit = (let n = e.limit in omega (arith, n)) in
    elim well.target [
      | inl full ↦ e.stage ∙ full
      | inr on ↦ absurd (refuses_none fault e.framing e.front e.messages e.piece (rest ++ (w.to_target ++ i.lost)) (e.more ++ (w.to_target ++ i.lost)) e.taken
          enough e.some e.refused
          (append_assoc e.taken.rest (e.piece ++ e.more) (w.to_target ++ i.lost) ∙ ap (λ (x : List ℕ). e.taken.rest ++ x)
          (append_assoc e.piece e.more (w.to_target ++ i.lost))) on.1)
    ]

initiator_ended : (c : Opening) (u : Traffic) (w : World) → IsOpening c → SuitEachOther c → Sides c u w → target_ran_out w.target_fault ≡ false
    → InitiatorEnded c u.moved_to_initiator u.queued_for_target w.initiator → w.initiator.machine.stage ≡ stages.Full
initiator_ended c u w o suits s there e =
    let t : TargetFront c u.moved_to_target u.queued_for_initiator w.target w.target_fault = s.target.front in
    let said_ : u.queued_for_initiator ≡ canon (target_said c t.messages).answers =
    front_output c u.moved_to_target u.queued_for_initiator w.target w.target_fault t
    there in
    let well = both_well c u w e.inputs t.messages t.limit e.limit t.given t.rest e.given e.rest e.lost o suits s t.reads t.whole e.output e.reads e.whole
    said_ in
    elim well.initiator [
      | inl full ↦ e.stage ∙ full
      | inr on ↦ absurd (apart e.closed on.0)
    ]

initiator_broken : (fault : StreamFault) (c : Opening) (u : Traffic) (w : World) → IsOpening c → SuitEachOther c → Sides c u w → target_ran_out w.target_fault
    ≡ false
    → InitiatorBroken fault c u.moved_to_initiator u.queued_for_target w.initiator → w.initiator.machine.stage ≡ stages.Full
initiator_broken fault c u w o suits s there e =
    let t : TargetFront c u.moved_to_target u.queued_for_initiator w.target w.target_fault = s.target.front in
    let said_ : u.queued_for_initiator ≡ canon (target_said c t.messages).answers =
    front_output c u.moved_to_target u.queued_for_initiator w.target w.target_fault t
    there in
    let rest : List ℕ = e.taken.rest ++ (e.piece ++ e.more) in
    let whole : u.moved_to_initiator ≡ e.taken.given ++ rest = e.whole ∙ ap (λ (x : List ℕ). x ++ (e.piece ++ e.more)) e.taken.whole
    ∙ append_assoc e.taken.given e.taken.rest (e.piece ++ e.more) in
    let well = both_well c u w e.inputs t.messages t.limit e.framing.limit t.given t.rest e.taken.given rest [] o suits s t.reads t.whole
    (append-nil u.queued_for_target ∙ e.output) e.taken.reads whole said_ in
    let enough : 8192 ≤ e.framing.limit = (let n = e.limit in omega (arith, n)) in
    elim well.initiator [
      | inl full ↦ e.stage ∙ full
      | inr on ↦ absurd (refuses_none fault e.framing e.front (coming e.inputs) e.piece (rest ++ (w.to_initiator ++ [])) (e.more ++ (w.to_initiator ++ []))
          e.taken enough e.some e.refused
          (append_assoc e.taken.rest (e.piece ++ e.more) (w.to_initiator ++ []) ∙ ap (λ (x : List ℕ). e.taken.rest ++ x)
          (append_assoc e.piece e.more (w.to_initiator ++ []))) on.1)
    ]

-- an end that has failed had completed its login, unless memory ran out
target_by : (fault : Option TargetFault) (c : Opening) (u : Traffic) (w : World) → IsOpening c → SuitEachOther c → Sides c u w
    → TargetFailed fault c u.moved_to_target u.queued_for_initiator w.target → target_ran_out fault ≡ false
    → (fault ≡ None) ⊎ (w.target.machine.session.stage ≡ stages.Full)
target_by None c u w o suits s f well = inl refl
target_by (Some target_faults.NoMemory) c u w o suits s f well = absurd (cc well)
target_by (Some (target_faults.Stream fault)) c u w o suits s f well = inr (target_broken fault c u w o suits s f)
target_by (Some (target_faults.Protocol rule)) c u w o suits s f well = inr (target_ended c u w o suits s f)
target_by (Some target_faults.Closed) c u w o suits s f well = inr (target_ended c u w o suits s f)

initiator_by : (fault : Option EndFault) (c : Opening) (u : Traffic) (w : World) → IsOpening c → SuitEachOther c → Sides c u w → target_ran_out w.target_fault
    ≡ false
    → InitiatorFailed fault c u.moved_to_initiator u.queued_for_target w.initiator → initiator_ran_out fault ≡ false
    → ((f : SubmitFault) → fault ≡ Some (ends.Submit f) → w.initiator.machine.stage ≡ stages.Full) → (fault ≡ None) ⊎ (w.initiator.machine.stage ≡ stages.Full)
initiator_by None c u w o suits s there f well kept = inl refl
initiator_by (Some (ends.Submit fault)) c u w o suits s there f well kept = inr (kept fault refl)
initiator_by (Some (ends.Feed faults.NoMemory)) c u w o suits s there f well kept = absurd (cc well)
initiator_by (Some (ends.Feed (faults.Stream fault))) c u w o suits s there f well kept = inr (initiator_broken fault c u w o suits s there f)
initiator_by (Some (ends.Feed (faults.Protocol rule))) c u w o suits s there f well kept = inr (initiator_ended c u w o suits s there f)
initiator_by (Some (ends.Feed (faults.Refused class detail))) c u w o suits s there f well kept = inr (initiator_ended c u w o suits s there f)
initiator_by (Some (ends.Feed (faults.BadAnswer key))) c u w o suits s there f well kept = inr (initiator_ended c u w o suits s there f)
initiator_by (Some (ends.Feed faults.Closed)) c u w o suits s there f well kept = inr (initiator_ended c u w o suits s there f)

-- ---- requests in their time

-- a refusal that is kept came after the login was completed
abbrev KeptLate : World → Type 0
KeptLate w = (f : SubmitFault) → w.initiator_fault ≡ Some (ends.Submit f) → w.initiator.machine.stage ≡ stages.Full

same_late : (old new : World) → new.initiator ≡ old.initiator → new.initiator_fault ≡ old.initiator_fault → KeptLate old → KeptLate new
same_late old new i f k fault e = ap (λ (x : InitiatorConnection). x.machine.stage) i ∙ k fault (sym f ∙ e)

no_submit : (o : Option InitiatorFault) (f : SubmitFault) → feed_fault o ≡ Some (ends.Submit f) → ⊥
no_submit None f e = cc e
no_submit (Some fault) f e = cc e

to_target_late : (fault : Option TargetFault) (moved : List ℕ) (old new : World) → MovesToTarget fault moved old new → KeptLate old → KeptLate new
to_target_late fault [] old new e k = same_late old new (ap (λ (w : World). w.initiator) e) (ap (λ (w : World). w.initiator_fault) e) k
to_target_late None (byte ∷ bytes) old new e k = same_late old new e.initiator e.other_fault k
to_target_late (Some fault) (byte ∷ bytes) old new e k = same_late old new (ap (λ (w : World). w.initiator) e) (ap (λ (w : World). w.initiator_fault) e) k

to_initiator_late : (fault : Option EndFault) (moved : List ℕ) (old new : World) → MovesToInitiator fault moved old new → KeptLate old → KeptLate new
to_initiator_late fault [] old new e k = same_late old new (ap (λ (w : World). w.initiator) e) (ap (λ (w : World). w.initiator_fault) e) k
to_initiator_late None (byte ∷ bytes) old new e k = λ f is. absurd (no_submit (result_err e.result) f (sym e.fault ∙ is))
to_initiator_late (Some fault) (byte ∷ bytes) old new e k = same_late old new (ap (λ (w : World). w.initiator) e) (ap (λ (w : World). w.initiator_fault) e) k

asked_late : (result : Result (Unit {0}) Refused) (request : Request) (old new : World)
    → calls.InitiatorSubmitPost result old.initiator request new.initiator old.to_target new.to_target → new.initiator_fault ≡ submit_fault (result_err result)
    → old.initiator.machine.stage ≡ stages.Full → KeptLate new
asked_late (Ok done) request old new e fault full f is = absurd (let bad : None ≡ Some (ends.Submit f) = sym fault ∙ is in cc)
asked_late (Err refused) request old new e fault full f is = ap (λ (x : InitiatorConnection). x.machine.stage) e.connection ∙ full

asks_late : (fault : Option EndFault) (request : Request) (old new : World) → RequestHandedIn fault request old new → old.initiator.machine.stage ≡ stages.Full
    → KeptLate old → KeptLate new
asks_late None request old new e full k = asked_late e.result request old new e.submitted e.fault full
asks_late (Some fault) request old new e full k = same_late old new (ap (λ (w : World). w.initiator) e) (ap (λ (w : World). w.initiator_fault) e) k

happens_late : (old : World) (event : PairEvent) (new : World) → PairEventStep old event new → IsInTime event old → KeptLate old → KeptLate new
happens_late old (ToTarget n) new e t k = to_target_late old.target_fault (take n old.to_target) old new e k
happens_late old (ToInitiator n) new e t k = to_initiator_late old.initiator_fault (take n old.to_initiator) old new e k
happens_late old (Submits request) new e t k = asks_late old.initiator_fault request old new e t k
happens_late old Takes new e t k = λ f is. ap (λ (w : World). w.initiator.machine.stage) e ∙ k f (ap (λ (w : World). w.initiator_fault) (sym e) ∙ is)

runs_late : (old : World) (events : List PairEvent) (new : World) → RunsInTime old events new → KeptLate old → KeptLate new
unfolding RunsInTime
runs_late old [] new r k = subst KeptLate (sym r) k
runs_late old (event ∷ events) new r k = runs_late r.0 events new r.3 (happens_late old event r.0 r.1 r.2 k)

-- a run in time is a run
pub in_time : (old : World) (events : List PairEvent) (new : World) → RunsInTime old events new → PairRuns old events new
unfolding RunsInTime PairRuns
in_time old [] new r = r
in_time old (event ∷ events) new r = (r.0, r.1, in_time r.0 events new r.3)

pub none_fails : (c : Opening) (events : List PairEvent) (u : Traffic) (w : World) → IsOpening c → SuitEachOther c → RunsInTime (new_pair c) events w
    → Sides c u w
    → keeps_no_memory w ≡ false
    → ((w.target_fault ≡ None) ⊎ (w.target.machine.session.stage ≡ stages.Full)) × ((w.initiator_fault ≡ None) ⊎ (w.initiator.machine.stage ≡ stages.Full))
none_fails c events u w o suits r s well =
    let m = or_parts (target_ran_out w.target_fault) (initiator_ran_out w.initiator_fault) well in (
      target_by w.target_fault c u w o suits s s.target.failed m.0,
      initiator_by w.initiator_fault c u w o suits s m.0 s.initiator.failed m.1 (runs_late (new_pair c) events w r (λ f is. absurd (cc is))),
    )

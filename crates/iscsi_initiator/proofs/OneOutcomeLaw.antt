-- A call of feed or of submit has one outcome.
use Rattle.std.proofs.Common.{◌≡◌, ◌≢◌, inl, inr, ℕ, Bool, true, false, List, [], ◌∷◌, ◌++◌, take, drop, Option, Some, None, Result, Ok, Err, refl, sym, ap}
use Rattle.std.proofs.Common.{subst, ◌∙◌, arith, append_assoc}
use Rattle.std.proofs.lemmas.List.{drop_all, take-append-drop}
use Rattle.iscsi_stream.specs.declared.fault.StreamFault.{StreamFault}
use Rattle.iscsi_stream.specs.declared.fault.StreamFault.TheVariants as broken
use Rattle.iscsi_stream.specs.Stream.{Message}
use Rattle.iscsi_stream.specs.Canonical.{canon}
use Rattle.iscsi_stream.specs.Framing.{HasTaken}
use Rattle.iscsi_stream.proofs.FrontLemmas.{Receiver, Sight, ReceivesUpTo, ReceiveAlike, IsLeft}
use Rattle.iscsi_stream.proofs.FrontLemmas.{framer_receives, framer_leaves, framer_refuses, receive_alike, sight}
use Rattle.iscsi_stream.proofs.OneEndingLaw.{Outcome, Ended, Over, GoesOn, Breaks, Call, call, EndAlike, end_of, end_alike}
use Rattle.iscsi_stream.proofs.ReadyLemmas.{apart}
use Rattle.iscsi_login.specs.declared.phase.Phase.{Phase}
use Rattle.iscsi_login.specs.declared.phase.Phase.TheVariants as phases
use Rattle.iscsi_initiator.specs.declared.fault.InitiatorFault.{InitiatorFault}
use Rattle.iscsi_initiator.specs.declared.fault.InitiatorFault.TheVariants as faults
use Rattle.iscsi_initiator.specs.declared.request.Refused.{Refused}
use Rattle.iscsi_initiator.specs.declared.request.Request.{Request}
use Rattle.iscsi_initiator.specs.declared.request.SubmitFault.{SubmitFault}
use Rattle.iscsi_initiator.specs.declared.request.SubmitFault.TheVariants as refusals
use Rattle.iscsi_initiator.specs.State.{InitiatorSession, is_session_closed}
use Rattle.iscsi_login.specs.Stage.{is_closed_phase}
use Rattle.iscsi_initiator.specs.Steps.{InitiatorStep, closed_session, quiet}
use Rattle.iscsi_initiator.specs.Machine.{initiator_step, step_in, steps, then_steps}
use Rattle.iscsi_initiator.specs.Submitted.{or_accepted, refusal_in, submitted}
use Rattle.iscsi_initiator.specs.Calls.{InitiatorsAlike, CalledAlike, PieceClosesSession, InitiatorConnection, InitiatorFeedPost, HadMemory, ReceivedPdus, ReceivesWholePiece, ClosedInitiatorStays, StreamEnds, InitiatorSubmitPost}
use Rattle.iscsi_initiator.specs.Calls.{refused_for}
use Rattle.iscsi_initiator.proofs.StepLemmas.{step_is}
use Rattle.iscsi_initiator.proofs.ReceivingLemmas.{next_if}

-- ---- what messages lead to

quiet_in : (p : Phase) (m : InitiatorSession) (x : Message) → p ≡ m.phase → is_session_closed m ≡ true → step_in p m x ≡ quiet m
quiet_in phases.Login m x e c = absurd (let bad : false ≡ true = ap (λ (q : Phase). is_session_closed (record m { phase = q })) e ∙ c in cc)
quiet_in phases.Full m x e c = absurd (let bad : false ≡ true = ap (λ (q : Phase). is_session_closed (record m { phase = q })) e ∙ c in cc)
quiet_in phases.Closed m x e c = refl

-- a closed session does nothing with messages
pub closed_step : (m : InitiatorSession) (x : Message) → is_session_closed m ≡ true → initiator_step m x ≡ quiet m
closed_step m x c = step_is m x ∙ quiet_in m.phase m x refl c

pub closed_quiet : (m : InitiatorSession) (ms : List Message) → is_session_closed m ≡ true → steps m ms ≡ quiet m
unfolding steps
closed_quiet m [] c = refl
closed_quiet m (x ∷ ms) c =
    let e : initiator_step m x ≡ quiet m = closed_step m x c in
    let over : is_session_closed (initiator_step m x).machine ≡ true = ap (λ (s : InitiatorStep). is_session_closed s.machine) e ∙ c in
    rw over e

next_stays : (shut : Bool) (a b c : InitiatorStep) → is_session_closed a.machine ≡ shut → (is_session_closed b.machine ≡ true → c ≡ b)
    → is_session_closed (next_if shut a b).machine ≡ true →
    next_if shut a c ≡ next_if shut a b
next_stays true a b c is same over = refl
next_stays false a b c is same over = ap (then_steps a) (same over)

steps_stay : (m : InitiatorSession) (first more : List Message) → is_session_closed (steps m first).machine ≡ true → steps m (first ++ more) ≡ steps m first
unfolding steps
steps_stay m [] more over = closed_quiet m more over
steps_stay m (x ∷ first) more over =
    let s : InitiatorStep = initiator_step m x in
    next_stays (is_session_closed s.machine) s (steps s.machine first) (steps s.machine (first ++ more)) refl (steps_stay s.machine first more) over

receiver : InitiatorSession → Receiver InitiatorStep
receiver m = record { to = steps m; over = λ s. is_session_closed s.machine; stays = steps_stay m }

-- ---- what ended a call

-- what is answered where the session is over
abbrev outcome : Option InitiatorFault → Result Phase InitiatorFault
outcome None = Ok phases.Closed
outcome (Some fault) = Err fault

-- what a call leaves behind messages that lead to this
abbrev leaves : InitiatorStep → Outcome InitiatorSession (Result Phase InitiatorFault)
leaves s = record {
  is_over = is_session_closed;
  session = s.machine;
  ended = outcome s.fault;
  going = Ok s.machine.phase;
  shut = closed_session s.machine;
  broken = λ fault. Err (faults.Stream fault);
  shut_is = refl;
}

-- A call received these PDUs of the stream, and ended so.
record Run (stream : List ℕ) (ms : List Message) (old : InitiatorConnection) (now : Call InitiatorSession (Result Phase InitiatorFault))
    (output written : List ℕ) : Type 0 where
  messages : List Message
  sight : Sight
  receives : ReceivesUpTo (receiver old.machine) old.framing.limit stream ms messages sight
  output_is : written ≡ output ++ canon (steps old.machine messages).output
  ended : Ended (leaves (steps old.machine messages)) sight now.result now.session now.framing

run_so : (stream : List ℕ) (ms : List Message) (old : InitiatorConnection) (piece : List ℕ) (result : Result Phase InitiatorFault) (new : InitiatorConnection)
    (output written : List ℕ)
    → (t : HasTaken stream ms old.framing) (h : ReceivedPdus old piece) → written ≡ output ++ canon (steps old.machine h.messages).output
    → Ended (leaves (steps old.machine h.messages)) (sight (stream ++ take h.count piece) (ms ++ h.messages) h.framing (h.moves stream ms t)
    (drop h.count piece)) result new.machine new.framing
    → Run (stream ++ piece) ms old (call result new.machine new.framing) output written
unfolding receiver
run_so stream ms old piece result new output written t h out e =
    let s : List ℕ = stream ++ take h.count piece in
    let now : HasTaken s (ms ++ h.messages) h.framing = h.moves stream ms t in
    let x : Sight = sight s (ms ++ h.messages) h.framing now (drop h.count piece) in
    let whole : stream ++ piece ≡ s ++ drop h.count piece =
    ap (λ (y : List ℕ). stream ++ y) (sym (take-append-drop h.count piece)) ∙ sym (append_assoc stream (take h.count piece) (drop h.count piece)) in
    record {
      messages = h.messages;
      sight = x;
      receives = framer_receives (receiver old.machine) old.framing.limit (stream ++ piece) s (drop h.count piece) ms h.messages h.framing now h.limit whole
          (end_of (leaves (steps old.machine h.messages)) x result new.machine new.framing e);
      output_is = out;
      ended = e;
    }

all_received : (stream : List ℕ) (ms : List Message) (old : InitiatorConnection) (piece : List ℕ) (phase : Phase) (new : InitiatorConnection)
    (output written : List ℕ)
    → HasTaken stream ms old.framing → (h : ReceivedPdus old piece) → ReceivesWholePiece h new output written phase →
    Run (stream ++ piece) ms old (call (Ok phase) new.machine new.framing) output written
all_received stream ms old piece phase new output written t h a =
    let s : List ℕ = stream ++ take h.count piece in
    let now : HasTaken s (ms ++ h.messages) h.framing = h.moves stream ms t in
    let x : Sight = sight s (ms ++ h.messages) h.framing now (drop h.count piece) in
    run_so stream ms old piece (Ok phase) new output written t h a.output
    (GoesOn a.live (ap Ok a.answered) (ap (λ (y : InitiatorConnection). y.machine) a.connection)
    (subst (λ (y : InitiatorConnection). IsLeft x y.framing) (sym a.connection) (framer_leaves s (ms
    ++ h.messages) h.framing (drop h.count piece) now a.unready (drop_all h.count piece (omega (arith, a.all))))))

was_closed : (stream : List ℕ) (ms : List Message) (old : InitiatorConnection) (piece : List ℕ) (result : Result Phase InitiatorFault)
    (fault : Option InitiatorFault)
    (new : InitiatorConnection) (output written : List ℕ)
    → HasTaken stream ms old.framing → (h : ReceivedPdus old piece) → PieceClosesSession h new output written fault → result ≡ outcome fault →
    Run (stream ++ piece) ms old (call result new.machine new.framing) output written
was_closed stream ms old piece result fault new output written t h a e =
    run_so stream ms old piece result new output written t h a.output (Over a.closes (e ∙ ap outcome (sym a.cause)) a.machine)

was_refused : (stream : List ℕ) (ms : List Message) (old : InitiatorConnection) (piece : List ℕ) (fault : StreamFault) (new : InitiatorConnection)
    (output written : List ℕ)
    → HasTaken stream ms old.framing → (h : ReceivedPdus old piece) → (fault ≡ broken.NoMemory → ⊥) → StreamEnds h new output written fault →
    Run (stream ++ piece) ms old (call (Err (faults.Stream fault)) new.machine new.framing) output written
was_refused stream ms old piece fault new output written t h none a =
    run_so stream ms old piece (Err (faults.Stream fault)) new output written t h a.output
    (Breaks fault a.live refl a.machine (framer_refuses (stream ++ take h.count piece)
    (ms ++ h.messages) h.framing (drop h.count piece) fault (h.moves stream ms t) none a.refused))

-- an open session
run_of : (stream : List ℕ) (ms : List Message) (old : InitiatorConnection) (piece : List ℕ) (result : Result Phase InitiatorFault) (new : InitiatorConnection)
    (output written : List ℕ)
    → HasTaken stream ms old.framing → is_session_closed old.machine ≡ false → InitiatorFeedPost result old piece new output written
    → result ≢ Err faults.NoMemory →
    Run (stream ++ piece) ms old (call result new.machine new.framing) output written
run_of stream ms old piece (Ok phase) new output written t live f memory =
    elim f.1.1 [
      | inl a ↦ all_received stream ms old piece phase new output written t f.1.0 a
      | inr a ↦ was_closed stream ms old piece (Ok phase) None new output written t f.1.0 a.0 (ap Ok a.1)
    ]
run_of stream ms old piece (Err faults.NoMemory) new output written t live f memory = absurd (memory refl)
run_of stream ms old piece (Err (faults.Stream broken.NoMemory)) new output written t live f memory = absurd f
run_of stream ms old piece (Err (faults.Stream (broken.Head fault place))) new output written t live f memory =
    was_refused stream ms old piece (broken.Head fault place) new output written t f.0 (λ e. absurd cc) f.1
run_of stream ms old piece (Err (faults.Stream (broken.OverLimit place))) new output written t live f memory =
    was_refused stream ms old piece (broken.OverLimit place) new output written t f.0 (λ e. absurd cc) f.1
run_of stream ms old piece (Err (faults.Stream (broken.Truncated place))) new output written t live f memory =
    was_refused stream ms old piece (broken.Truncated place) new output written t f.0 (λ e. absurd cc) f.1
run_of stream ms old piece (Err (faults.Stream broken.Failed)) new output written t live f memory =
    was_refused stream ms old piece broken.Failed new output written t f.0 (λ e. absurd cc) f.1
run_of stream ms old piece (Err (faults.Protocol rule)) new output written t live f memory =
    was_closed stream ms old piece (Err (faults.Protocol rule)) (Some (faults.Protocol rule)) new output written t f.0 f.1 refl
run_of stream ms old piece (Err (faults.Refused status detail)) new output written t live f memory =
    was_closed stream ms old piece (Err (faults.Refused status detail)) (Some (faults.Refused status detail)) new output written t f.0 f.1 refl
run_of stream ms old piece (Err (faults.BadAnswer key)) new output written t live f memory =
    was_closed stream ms old piece (Err (faults.BadAnswer key)) (Some (faults.BadAnswer key)) new output written t f.0 f.1 refl
run_of stream ms old piece (Err faults.Closed) new output written t live f memory = absurd (apart f.closed live)

-- ---- two calls

run_alike : (stream : List ℕ) (ms : List Message) (old : InitiatorConnection) (result other : Result Phase InitiatorFault) (new now : InitiatorConnection)
    (output written rewritten : List ℕ)
    → Run stream ms old (call result new.machine new.framing) output written → Run stream ms old (call other now.machine now.framing) output rewritten →
    CalledAlike result other new now written rewritten
unfolding receiver
run_alike stream ms old result other new now output written rewritten a b =
    let h : ReceiveAlike (receiver old.machine) a.messages b.messages a.sight b.sight =
    receive_alike (receiver old.machine) old.framing.limit stream ms a.messages b.messages a.sight b.sight a.receives b.receives in
    let e : EndAlike is_session_closed (call result new.machine new.framing) (call other now.machine now.framing) =
    end_alike (leaves (steps old.machine a.messages)) a.sight b.sight result other new.machine now.machine new.framing now.framing h.sight a.ended
    (subst (λ (s : InitiatorStep). Ended (leaves s) b.sight other now.machine now.framing) h.same b.ended) in
    record {
      answered = e.answered;
      alike = record { machine = e.session_is; framing = e.framing };
      output = b.output_is ∙ ap (λ (s : InitiatorStep). output ++ canon s.output) h.same ∙ sym a.output_is;
    }

-- ---- a closed session

-- it neither goes on nor fails
pub not_live : (old : InitiatorConnection) (ms : List Message) → is_session_closed old.machine ≡ true → is_session_closed (steps old.machine ms).machine ≡ false
    → ⊥
not_live old ms over live = apart (ap (λ (s : InitiatorStep). is_session_closed s.machine) (closed_quiet old.machine ms over) ∙ over) live

pub no_fault : (old : InitiatorConnection) (ms : List Message) (fault : InitiatorFault) → is_session_closed old.machine ≡ true → (steps old.machine ms).fault
    ≡ Some fault → ⊥
no_fault old ms fault over cause =
    let bad : None ≡ Some fault = sym (ap (λ (s : InitiatorStep). s.fault) (closed_quiet old.machine ms over)) ∙ cause in absurd cc

-- it stays, and says so
stays_closed : (old : InitiatorConnection) (piece : List ℕ) (result : Result Phase InitiatorFault) (new : InitiatorConnection) (output written : List ℕ)
    → is_session_closed old.machine ≡ true → InitiatorFeedPost result old piece new output written → result ≢ Err faults.NoMemory → (result ≡ Err faults.Closed)
    × ClosedInitiatorStays old new output written
stays_closed old piece (Ok phase) new output written over f memory = absurd (apart over f.0)
stays_closed old piece (Err faults.NoMemory) new output written over f memory = absurd (memory refl)
stays_closed old piece (Err (faults.Stream broken.NoMemory)) new output written over f memory = absurd f
stays_closed old piece (Err (faults.Stream (broken.Head fault place))) new output written over f memory = absurd (not_live old f.0.messages over f.1.live)
stays_closed old piece (Err (faults.Stream (broken.OverLimit place))) new output written over f memory = absurd (not_live old f.0.messages over f.1.live)
stays_closed old piece (Err (faults.Stream (broken.Truncated place))) new output written over f memory = absurd (not_live old f.0.messages over f.1.live)
stays_closed old piece (Err (faults.Stream broken.Failed)) new output written over f memory = absurd (not_live old f.0.messages over f.1.live)
stays_closed old piece (Err (faults.Protocol rule)) new output written over f memory = absurd (no_fault old f.0.messages (faults.Protocol rule) over f.1.cause)
stays_closed old piece (Err (faults.Refused status detail)) new output written over f memory =
    absurd (no_fault old f.0.messages (faults.Refused status detail) over f.1.cause)
stays_closed old piece (Err (faults.BadAnswer key)) new output written over f memory = absurd (no_fault old f.0.messages (faults.BadAnswer key) over f.1.cause)
stays_closed old piece (Err faults.Closed) new output written over f memory = (refl, f)

-- ---- the law

-- what a call leaves: the connection, and what was written
pub record Called : Type 0 where
  pub connection : InitiatorConnection
  pub written : List ℕ

by_state : (shut : Bool) (stream : List ℕ) (ms : List Message) (old same : InitiatorConnection) (piece output : List ℕ)
    (result other : Result Phase InitiatorFault)
    (one two : Called)
    → is_session_closed old.machine ≡ shut → (is_session_closed old.machine ≡ false → HasTaken stream ms old.framing) → InitiatorsAlike old same
    → InitiatorFeedPost result old piece one.connection output one.written
    → result ≢ Err faults.NoMemory
    → InitiatorFeedPost other same piece two.connection output two.written → other ≢ Err faults.NoMemory → CalledAlike result other one.connection
    two.connection one.written two.written
by_state true stream ms old same piece output result other one two over t like f memory g memory' =
    let p = stays_closed old piece result one.connection output one.written over f memory in
    let q = stays_closed same piece other two.connection output two.written (ap is_session_closed like.machine ∙ over) g memory' in
    record {
      answered = q.0 ∙ sym p.0;
      alike = record {
        machine = ap (λ (x : InitiatorConnection). x.machine) q.1.connection ∙ like.machine ∙ ap (λ (x : InitiatorConnection). x.machine) (sym p.1.connection);
        framing = λ live. absurd (apart (ap (λ (x : InitiatorConnection). is_session_closed x.machine) p.1.connection ∙ over) live);
      };
      output = q.1.output ∙ sym p.1.output;
    }
by_state false stream ms old same piece output result other one two live t like f memory g memory' =
    let is : same ≡ old = λ i. record { machine = like.machine i; framing = like.framing live i } in
    run_alike (stream ++ piece) ms old result other one.connection two.connection output one.written two.written
    (run_of stream ms old piece result one.connection output one.written (t live) live f memory)
    (run_of stream ms old piece other two.connection output two.written (t live) live
    (subst (λ (x : InitiatorConnection). InitiatorFeedPost other x piece two.connection output two.written)
    is g) memory')

pub one_feed : (stream piece output written rewritten : List ℕ) (ms : List Message) (old same a b : InitiatorConnection)
    (result other : Result Phase InitiatorFault)
    → (is_session_closed old.machine ≡ false → HasTaken stream ms old.framing) → InitiatorsAlike old same → InitiatorFeedPost result old piece a output written
    → result ≢ Err faults.NoMemory
    → InitiatorFeedPost other same piece b output rewritten → other ≢ Err faults.NoMemory
    → CalledAlike result other a b written rewritten
one_feed stream piece output written rewritten ms old same a b result other t like f memory g memory' =
    by_state (is_session_closed old.machine) stream ms old same piece output result other (record { connection = a; written = written })
    (record { connection = b; written = rewritten }) refl t like f memory g memory'

-- ---- a request

pub closed_phase : (p : Phase) → is_closed_phase p ≡ true → p ≡ phases.Closed
closed_phase phases.Login over = absurd cc
closed_phase phases.Full over = absurd cc
closed_phase phases.Closed over = refl

-- a closed session accepts none
closed_refuses : (m : InitiatorSession) (request : Request) → is_session_closed m ≡ true → (submitted m request).refusal ≡ Some refusals.Closed
unfolding submitted
closed_refuses m request over = ap (λ (p : Phase). (or_accepted (refusal_in p m request) m request).refusal) (closed_phase m.phase over)

was_open : (shut : Bool) (m : InitiatorSession) (request : Request) → is_session_closed m ≡ shut → (submitted m request).refusal ≡ None → is_session_closed m
    ≡ false
was_open true m request over none = (let bad : Some refusals.Closed ≡ None = sym (closed_refuses m request over) ∙ none in absurd cc)
was_open false m request live none = live

named : (fault : SubmitFault) → fault ≢ refusals.NoMemory → refused_for fault ≡ Some fault
named refusals.Closed memory = refl
named refusals.NotReady memory = refl
named refusals.Busy memory = refl
named refusals.Shut memory = refl
named refusals.TooLong memory = refl
named refusals.NoMemory memory = absurd (memory refl)

same_fault : (a b : SubmitFault) → Some b ≡ Some a → b ≡ a
same_fault a b e = cc

none_some : (fault : SubmitFault) → None ≡ Some fault → ⊥
none_some fault e = absurd cc

both_refused : (request : Request) (a b : Refused) → a.request ≡ request → b.request ≡ request → b.fault ≡ a.fault → b ≡ a
both_refused request a b e f fault = λ i. record { fault = fault i; request = (f ∙ sym e) i }

pub one_submit : (request : Request) (output written rewritten : List ℕ) (old same a b : InitiatorConnection) (result other : Result (Unit {0}) Refused)
    → InitiatorsAlike old same → InitiatorSubmitPost result old request a output written → HadMemory result
    → InitiatorSubmitPost other same request b output rewritten → HadMemory other
    → CalledAlike result other a b written rewritten
one_submit request output written rewritten old same a b (Ok _) (Ok _) like f memory g memory' =
    let live : is_session_closed old.machine ≡ false = was_open (is_session_closed old.machine) old.machine request refl f.none in
    record {
      answered = refl;
      alike = record {
        machine = ap (λ (x : InitiatorConnection). x.machine) g.connection ∙ ap (λ (x : InitiatorSession). (submitted x request).machine) like.machine
            ∙ ap (λ (x : InitiatorConnection). x.machine) (sym f.connection);
        framing = λ open_. ap (λ (x : InitiatorConnection). x.framing) g.connection ∙ like.framing live
            ∙ ap (λ (x : InitiatorConnection). x.framing) (sym f.connection);
      };
      output = g.output ∙ ap (λ (x : InitiatorSession). output ++ canon (submitted x request).output) like.machine ∙ sym f.output;
    }
one_submit request output written rewritten old same a b (Err p) (Err q) like f memory g memory' =
    let cause : Some q.fault ≡ Some p.fault =
    sym (named q.fault memory') ∙ sym g.cause ∙ ap (λ (x : InitiatorSession). (submitted x request).refusal) like.machine ∙ f.cause ∙ named p.fault memory in
    record {
      answered = ap Err (both_refused request p q f.same g.same (same_fault p.fault q.fault cause));
      alike = record {
        machine = ap (λ (x : InitiatorConnection). x.machine) g.connection ∙ like.machine ∙ ap (λ (x : InitiatorConnection). x.machine) (sym f.connection);
        framing = λ live. ap (λ (x : InitiatorConnection). x.framing) g.connection
            ∙ like.framing (ap (λ (x : InitiatorConnection). is_session_closed x.machine) (sym f.connection)
            ∙ live)
            ∙ ap (λ (x : InitiatorConnection). x.framing) (sym f.connection);
      };
      output = g.output ∙ sym f.output;
    }
one_submit request output written rewritten old same a b (Ok _) (Err q) like f memory g memory' =
    absurd (none_some q.fault (sym f.none ∙ ap (λ (x : InitiatorSession). (submitted x request).refusal) (sym like.machine) ∙ g.cause ∙ named q.fault memory'))
one_submit request output written rewritten old same a b (Err p) (Ok _) like f memory g memory' =
    absurd (none_some p.fault (sym g.none ∙ ap (λ (x : InitiatorSession). (submitted x request).refusal) like.machine ∙ f.cause ∙ named p.fault memory))

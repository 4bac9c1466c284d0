-- An initiator in a run: requests, outcomes and pieces.
use Rattle.std.proofs.Common.{◌≡◌, ℕ, Bool, true, false, List, [], ◌∷◌, ◌++◌, Option, Some, None, Result, Ok, Err, refl, sym}
use Rattle.std.proofs.Common.{ap, ◌∙◌, subst, append_assoc}
use Rattle.std.specs.Result.{result_err}
use Rattle.std.proofs.lemmas.List.{append-nil}
use Rattle.iscsi_stream.specs.Segment.{no_login}
use Rattle.iscsi_stream.specs.Stream.{Message, ReadsAs}
use Rattle.iscsi_stream.specs.Canonical.{canon}
use Rattle.iscsi_stream.specs.Framing.{Framing, HasTaken, is_ready}
use Rattle.iscsi_stream.proofs.ReadyLemmas.{apart}
use Rattle.iscsi_login.specs.declared.phase.Phase.{Phase}
use Rattle.iscsi_login.specs.declared.phase.Phase.TheVariants as phases
use Rattle.iscsi_initiator.specs.declared.request.Request.{Request}
use Rattle.iscsi_initiator.specs.declared.request.Refused.{Refused}
use Rattle.iscsi_initiator.specs.declared.request.SubmitFault.{SubmitFault}
use Rattle.iscsi_initiator.specs.State.{InitiatorSession, new_session, is_session_closed}
use Rattle.iscsi_login.specs.Stage.{is_closed_phase}
use Rattle.iscsi_initiator.specs.Login.{start_step}
use Rattle.iscsi_initiator.specs.Machine.{outcome_handed_out}
use Rattle.iscsi_initiator.specs.Submitted.{submitted, or_accepted, submit_refusal, refusal_in}
use Rattle.iscsi_initiator.specs.Calls.{InitiatorConnection, InitiatorSubmitPost, SubmitAccepted}
use Rattle.iscsi_initiator.specs.Calls.{after_taking, initiator_limit}
use Rattle.iscsi_pair.proofs.Ends.InitiatorClose.{asked_phase}
use Rattle.iscsi_pair.specs.declared.step.EndFault.{EndFault}
use Rattle.iscsi_pair.specs.World.{Opening, submit_fault}
use Rattle.iscsi_pair.specs.Traffic.{session_after_all, sent, coming, demanded}
use Rattle.iscsi_initiator.specs.Laws.{SessionInput, Asks, Takes}
use Rattle.iscsi_stream.proofs.WritingLemmas.{canon_append}
use Rattle.iscsi_pair.proofs.Ends.InitiatorEnds.{after_append, sent_append, coming_append, demanded_append, begun, all_sent, InitiatorFront, follows_more, InitiatorLives, InitiatorOver, streams, InitiatorSide, fault_taken, lives_front}

-- ---- a request, and the taking of an outcome

-- the outcome is taken
pub initiator_took_outcome : (past : List SessionInput) (c : Opening) (acts : List SessionInput) (moved out : List ℕ) (i : InitiatorConnection)
    (fault : Option EndFault)
    → InitiatorSide past c acts (streams moved out) i fault
    → InitiatorSide past c (acts ++ Takes ∷ []) (streams moved out) (after_taking i) fault
initiator_took_outcome past c acts moved out i fault s =
    let f : InitiatorFront c moved out i = s.front in
    let coming_same : (inputs : List SessionInput) → coming inputs ≡ coming (inputs ++ Takes ∷ []) = λ inputs. sym (append-nil (coming inputs))
    ∙ sym (coming_append inputs (Takes ∷ [])) in
    let sent_same : (inputs : List SessionInput) → canon (all_sent c inputs) ≡ canon (all_sent c (inputs ++ Takes ∷ [])) = λ inputs.
    ap (λ (x : List Message). canon ((start_step (new_session c.initiator)).output ++ x)) (sym (append-nil (sent (begun c) inputs))
    ∙ sym (sent_append (begun c) inputs (Takes ∷ []))) in
    let order_same : (inputs : List SessionInput) → demanded inputs ≡ acts → demanded (inputs ++ Takes ∷ []) ≡ acts ++ Takes ∷ [] = λ inputs e.
    demanded_append inputs (Takes ∷ []) ∙ ap (λ (x : List SessionInput). x ++ Takes ∷ []) e in
    record {
      front = record {
        limit = f.limit;
        inputs = f.inputs;
        given = f.given;
        rest = f.rest;
        lost = f.lost;
        whole = f.whole;
        reads = f.reads;
        output = f.output;
        stage = f.stage;
        held = f.held;
      };
      failed = fault_taken fault c moved out i s.failed;
      over = λ none over. (let l : InitiatorOver past c acts moved out i = s.over none over in record {
        full = l.full;
        inputs = l.inputs ++ Takes ∷ [];
        given = l.given;
        rest = l.rest;
        whole = l.whole;
        reads = subst (λ (xs : List Message). ReadsAs (initiator_limit c.initiator) no_login l.given xs) (coming_same l.inputs) l.reads;
        order = order_same l.inputs l.order;
        follows = follows_more past l.inputs (Takes ∷ []) l.follows;
        machine = ap outcome_handed_out l.machine ∙ sym (after_append (begun c) l.inputs (Takes ∷ []));
        output = l.output ∙ sent_same l.inputs;
      });
      lives = λ none live. (let l : InitiatorLives past c acts moved out i = s.lives none live in record {
        inputs = l.inputs ++ Takes ∷ [];
        taken = subst (λ (xs : List Message). HasTaken moved xs i.framing) (coming_same l.inputs) l.taken;
        order = order_same l.inputs l.order;
        follows = follows_more past l.inputs (Takes ∷ []) l.follows;
        machine = ap outcome_handed_out l.machine ∙ sym (after_append (begun c) l.inputs (Takes ∷ []));
        output = l.output ∙ sent_same l.inputs;
        unready = l.unready;
        limit = l.limit;
      });
    }

-- a closed session accepts no request
refused_closed : (p : Phase) (m : InitiatorSession) (request : Request) → p ≡ m.phase → is_session_closed m ≡ true → refusal_in p m request ≡ None → ⊥
refused_closed phases.Login m request e c n = absurd (cc n)
refused_closed phases.Closed m request e c n = absurd (cc n)
refused_closed phases.Full m request e c n = absurd (let bad : false ≡ true = ap (λ (q : Phase). is_session_closed (record m { phase = q })) e ∙ c in cc)

or_refusal : (o : Option SubmitFault) (m : InitiatorSession) (request : Request) → o ≡ submit_refusal m request → (or_accepted o m request).refusal ≡ None
    → submit_refusal m request ≡ None
or_refusal None m request e n = sym e
or_refusal (Some fault) m request e n = absurd (cc n)

not_closed : (b : Bool) (m : InitiatorSession) (request : Request) → is_session_closed m ≡ b → (submitted m request).refusal ≡ None → is_session_closed m
    ≡ false
unfolding submitted
not_closed true m request c n = absurd (refused_closed m.phase m request refl c (or_refusal (submit_refusal m request) m request refl n))
not_closed false m request c n = c

accepts_side : (past : List SessionInput) (c : Opening) (acts : List SessionInput) (moved prior before after : List ℕ) (old new : InitiatorConnection)
    (request : Request)
    → InitiatorSide past c acts (streams moved (prior ++ before)) old None
    → SubmitAccepted old request new before after → InitiatorSide past c (acts ++ Asks request ∷ []) (streams moved (prior ++ after)) new None
accepts_side past c acts moved prior before after old new request s e =
    let l : InitiatorLives past c acts moved (prior ++ before) old = s.lives refl (not_closed _ old.machine request refl e.none) in
    let first : List Message = (start_step (new_session c.initiator)).output in
    let now : InitiatorSession = session_after_all (begun c) l.inputs in
    let more : InitiatorLives past c (acts ++ Asks request ∷ []) moved (prior ++ after) new = record {
      inputs = l.inputs ++ Asks request ∷ [];
      taken = subst (λ (v : Framing). HasTaken moved (coming (l.inputs ++ Asks request ∷ [])) v)
          (sym (ap (λ (x : InitiatorConnection). x.framing) e.connection))
          (subst (λ (xs : List Message). HasTaken moved xs old.framing) (sym (append-nil (coming l.inputs)) ∙ sym (coming_append l.inputs (Asks request ∷ [])))
          l.taken);
      order = demanded_append l.inputs (Asks request ∷ []) ∙ ap (λ (x : List SessionInput). x ++ Asks request ∷ []) l.order;
      follows = follows_more past l.inputs (Asks request ∷ []) l.follows;
      machine = ap (λ (x : InitiatorConnection). x.machine) e.connection ∙ ap (λ (m : InitiatorSession). (submitted m request).machine) l.machine
          ∙ sym (after_append (begun c) l.inputs (Asks request ∷ []));
      output = ap (λ (x : List ℕ). prior ++ x) e.output ∙ sym (append_assoc prior before (canon (submitted old.machine request).output))
          ∙ ap (λ (x : List ℕ). x ++ canon (submitted old.machine request).output) l.output
          ∙ sym (canon_append (all_sent c l.inputs) (submitted old.machine request).output)
          ∙ ap canon (append_assoc first (sent (begun c) l.inputs) (submitted old.machine request).output
          ∙ ap (λ (x : List Message). first ++ (sent (begun c) l.inputs ++ x)) (ap (λ (m : InitiatorSession). (submitted m request).output) l.machine
          ∙ sym (append-nil (submitted now request).output))
          ∙ ap (λ (x : List Message). first ++ x) (sym (sent_append (begun c) l.inputs (Asks request ∷ []))));
      unready = ap (λ (x : InitiatorConnection). is_ready x.framing) e.connection ∙ l.unready;
      limit = ap (λ (x : InitiatorConnection). x.framing.limit) e.connection ∙ l.limit;
    } in
    let live : is_session_closed old.machine ≡ false = not_closed _ old.machine request refl e.none in
    let open_ : is_session_closed new.machine ≡ false =
    ap (λ (x : InitiatorConnection). is_session_closed x.machine) e.connection ∙ ap is_closed_phase (asked_phase old.machine request) ∙ live in
    record {
      front = lives_front past c (acts ++ Asks request ∷ []) moved (prior ++ after) new more;
      failed = tt;
      over = λ none over. absurd (apart over open_);
      lives = λ none live. more;
    }

-- a request was handed in
pub initiator_asked : (result : Result (Unit {0}) Refused) (past : List SessionInput) (c : Opening) (acts : List SessionInput)
    (moved prior before after : List ℕ)
    (old new : InitiatorConnection) (request : Request) → InitiatorSide past c acts (streams moved (prior ++ before)) old None
    → InitiatorSubmitPost result old request new before after → InitiatorSide past c (acts ++ Asks request ∷ []) (streams moved (prior ++ after)) new
    (submit_fault (result_err result))
initiator_asked (Ok done) past c acts moved prior before after old new request s e = accepts_side past c acts moved prior before after old new request s e
initiator_asked (Err refused) past c acts moved prior before after old new request s e = record {
  front = subst (λ (x : List ℕ). InitiatorFront c moved (prior ++ x) new) (sym e.output)
      (subst (λ (x : InitiatorConnection). InitiatorFront c moved (prior ++ before) x)
      (sym e.connection) s.front);
  failed = tt;
  over = λ none over. absurd (cc none);
  lives = λ none live. absurd (cc none);
}

-- an end that has failed drops what is demanded
pub failed_drops : (past : List SessionInput) (c : Opening) (acts more : List SessionInput) (moved out : List ℕ) (i : InitiatorConnection)
    (fault : Option EndFault) (kept : EndFault)
    → fault ≡ Some kept → InitiatorSide past c acts (streams moved out) i fault
    → InitiatorSide past c (acts ++ more) (streams moved out) i fault
failed_drops past c acts more moved out i fault kept is s = record {
  front = s.front;
  failed = s.failed;
  over = λ none over. absurd (let bad : Some kept ≡ None = sym is ∙ none in cc);
  lives = λ none live. absurd (let bad : Some kept ≡ None = sym is ∙ none in cc);
}

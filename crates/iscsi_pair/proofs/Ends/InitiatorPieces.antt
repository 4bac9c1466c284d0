-- A piece that reaches an initiator.
use Rattle.std.proofs.Common.{◌≡◌, ◌≢◌, ℕ, Bool, true, false, List, [], ◌++◌, take, drop, map, Option, Some, None, Result, Ok, Err, inl, inr, refl, sym}
use Rattle.std.proofs.Common.{ap, ◌∙◌, subst, append_assoc, arith}
use Rattle.std.specs.Result.{result_err}
use Rattle.std.proofs.lemmas.List.{append-nil, take-append-drop, take_all}
use Rattle.iscsi_stream.specs.Segment.{no_login}
use Rattle.iscsi_stream.specs.Stream.{Message, ReadsAs}
use Rattle.iscsi_stream.specs.Canonical.{canon}
use Rattle.iscsi_stream.specs.declared.fault.StreamFault.{StreamFault}
use Rattle.iscsi_stream.specs.declared.fault.StreamFault.TheVariants as stream
use Rattle.iscsi_stream.specs.Framing.{Framing, HasTaken, is_ready}
use Rattle.iscsi_stream.proofs.ReadyLemmas.{apart}
use Rattle.iscsi_login.specs.declared.phase.Phase.{Phase}
use Rattle.iscsi_initiator.specs.declared.fault.InitiatorFault.{InitiatorFault}
use Rattle.iscsi_initiator.specs.declared.fault.InitiatorFault.TheVariants as faults
use Rattle.iscsi_initiator.specs.State.{InitiatorSession, new_session, is_session_closed}
use Rattle.iscsi_initiator.specs.Steps.{InitiatorStep}
use Rattle.iscsi_initiator.specs.Login.{start_step}
use Rattle.iscsi_initiator.specs.Machine.{steps}
use Rattle.iscsi_initiator.specs.Calls.{InitiatorConnection, ReceivedPdus, received_steps, InitiatorFeedPost, ReceivesWholePiece, PieceClosesSession, StreamEnds, ClosedInitiatorStays}
use Rattle.iscsi_initiator.specs.Calls.{initiator_limit}
use Rattle.iscsi_initiator.proofs.OneOutcomeLaw.{no_fault, not_live}
use Rattle.iscsi_pair.proofs.Ends.InitiatorClose.{IsFullStage, steps_well}
use Rattle.iscsi_pair.specs.declared.step.EndFault.{EndFault}
use Rattle.iscsi_pair.specs.World.{Opening, feed_fault}
use Rattle.iscsi_pair.specs.Traffic.{session_after_all, sent, coming, demanded}
use Rattle.iscsi_initiator.specs.Laws.{SessionInput, Comes}
use Rattle.iscsi_stream.proofs.WritingLemmas.{canon_append}
use Rattle.iscsi_pair.proofs.Ends.InitiatorEnds.{after_append, sent_append, coming_append, demanded_append, demanded_messages, coming_messages, AreSteps, are_steps, begun, all_sent, InitiatorFront, Follows, follows_more, InitiatorLives, InitiatorOver, InitiatorEnded, InitiatorBroken, InitiatorFailed, Streams, streams, InitiatorSide, front_taken, front_drops, ended_drops, lives_front, full_stage}

-- ---- a piece

-- all that it has taken, where these bytes came last, and what it has sent, where its messages led so
pub record ComesOn (past : List SessionInput) (c : Opening) (acts : List SessionInput) (s : Streams) (r : InitiatorStep) (v : Framing) : Type 0 where
  pub is : List SessionInput
  pub taken : HasTaken s.moved (coming is) v
  pub order : demanded is ≡ acts
  pub follows : Follows past is
  pub machine : r.machine ≡ session_after_all (begun c) is
  pub output : s.out ++ canon r.output ≡ canon (all_sent c is)

come_on : (past : List SessionInput) (c : Opening) (acts : List SessionInput) (moved out more : List ℕ) (i : InitiatorConnection)
    (l : InitiatorLives past c acts moved out i)
    (ms : List Message) (v : Framing)
    → ((stream : List ℕ) (xs : List Message) → HasTaken stream xs i.framing → HasTaken (stream ++ more) (xs ++ ms) v)
    → ComesOn past c acts (streams (moved ++ more) out) (steps i.machine ms) v
come_on past c acts moved out more i l ms v moves =
    let a : AreSteps i.machine ms = are_steps i.machine ms in
    let first : List Message = (start_step (new_session c.initiator)).output in
    let now : InitiatorSession = session_after_all (begun c) l.inputs in
    record {
      is = l.inputs ++ map Comes ms;
      taken = subst (λ (xs : List Message). HasTaken (moved ++ more) xs v)
          (ap (λ (xs : List Message). coming l.inputs ++ xs) (sym (coming_messages ms)) ∙ sym (coming_append l.inputs (map Comes ms)))
          (moves moved (coming l.inputs) l.taken);
      order = demanded_append l.inputs (map Comes ms) ∙ ap (λ (x : List SessionInput). demanded l.inputs ++ x) (demanded_messages ms)
          ∙ append-nil (demanded l.inputs)
          ∙ l.order;
      follows = follows_more past l.inputs (map Comes ms) l.follows;
      machine = sym a.machine ∙ ap (λ (m : InitiatorSession). session_after_all m (map Comes ms)) l.machine
          ∙ sym (after_append (begun c) l.inputs (map Comes ms));
      output = ap (λ (x : List ℕ). x ++ canon (steps i.machine ms).output) l.output
          ∙ sym (canon_append (all_sent c l.inputs) (steps i.machine ms).output)
          ∙ ap canon (append_assoc first (sent (begun c) l.inputs) (steps i.machine ms).output
          ∙ ap (λ (x : List Message). first ++ (sent (begun c) l.inputs ++ x))
          (sym a.output ∙ ap (λ (m : InitiatorSession). sent m (map Comes ms)) l.machine)
          ∙ ap (λ (x : List Message). first ++ x) (sym (sent_append (begun c) l.inputs (map Comes ms))));
    }

-- what is left where a call received some messages, and wrote what they lead to but for what was lost
received_front : (past : List SessionInput) (c : Opening) (acts : List SessionInput) (moved prior before bytes after lost : List ℕ)
    (old new : InitiatorConnection)
    → InitiatorLives past c acts moved (prior ++ before) old → (h : ReceivedPdus old bytes)
    → after ++ lost ≡ before ++ canon (received_steps old bytes h).output → new.machine.stage ≡ (received_steps old bytes h).machine.stage
    → new.machine.held ≡ (received_steps old bytes h).machine.held
    → InitiatorFront c (moved ++ bytes) (prior ++ after) new
received_front past c acts moved prior before bytes after lost old new l h out stage held =
    let o = come_on past c acts moved (prior ++ before) (take h.count bytes) old l h.messages h.framing h.moves in
    let all : (moved ++ take h.count bytes) ++ drop h.count bytes ≡ moved ++ bytes =
    append_assoc moved (take h.count bytes) (drop h.count bytes) ∙ ap (λ (x : List ℕ). moved ++ x) (take-append-drop h.count bytes) in
    subst (λ (x : List ℕ). InitiatorFront c x (prior ++ after) new) all
    (front_taken c (moved ++ take h.count bytes) (drop h.count bytes) (prior ++ after) lost o.is h.framing new o.taken
    (append_assoc prior after lost ∙ ap (λ (x : List ℕ). prior ++ x) out ∙ sym (append_assoc prior before (canon (received_steps old bytes h).output))
    ∙ o.output)
    (stage ∙ ap (λ (m : InitiatorSession). m.stage) o.machine) (held ∙ ap (λ (m : InitiatorSession). m.held) o.machine))

receives_all : (past : List SessionInput) (c : Opening) (acts : List SessionInput) (moved prior before bytes after : List ℕ) (old new : InitiatorConnection)
    (phase : Phase)
    → InitiatorLives past c acts moved (prior ++ before) old → (h : ReceivedPdus old bytes)
    → ReceivesWholePiece h new before after phase → InitiatorLives past c acts (moved ++ bytes) (prior ++ after) new
receives_all past c acts moved prior before bytes after old new phase l h e =
    let o = come_on past c acts moved (prior ++ before) (take h.count bytes) old l h.messages h.framing h.moves in
    let whole : take h.count bytes ≡ bytes = take_all h.count bytes (omega (arith, e.all)) in
    record {
      inputs = o.is;
      taken = subst (λ (v : Framing). HasTaken (moved ++ bytes) (coming o.is) v) (sym (ap (λ (x : InitiatorConnection). x.framing) e.connection))
          (subst (λ (x : List ℕ). HasTaken (moved ++ x) (coming o.is) h.framing) whole o.taken);
      order = o.order;
      follows = o.follows;
      machine = ap (λ (x : InitiatorConnection). x.machine) e.connection ∙ o.machine;
      output = ap (λ (x : List ℕ). prior ++ x) e.output ∙ sym (append_assoc prior before (canon (received_steps old bytes h).output)) ∙ o.output;
      unready = ap (λ (x : InitiatorConnection). is_ready x.framing) e.connection ∙ e.unready;
      limit = ap (λ (x : InitiatorConnection). x.framing.limit) e.connection ∙ h.limit ∙ l.limit;
    }

-- where the session ends without a fault, it has reached its last stage
ends_full : (past : List SessionInput) (c : Opening) (acts : List SessionInput) (moved prior before bytes after : List ℕ) (old new : InitiatorConnection)
    → InitiatorLives past c acts moved (prior ++ before) old → is_session_closed old.machine ≡ false → (h : ReceivedPdus old bytes)
    → PieceClosesSession h new before after None → InitiatorOver past c acts (moved ++ bytes) (prior ++ after) new
ends_full past c acts moved prior before bytes after old new l live h e =
    let o = come_on past c acts moved (prior ++ before) (take h.count bytes) old l h.messages h.framing h.moves in
    record {
      full = ap (λ (m : InitiatorSession). m.stage) e.machine ∙ (steps_well old.machine h.messages live
          (subst IsFullStage (sym l.machine) (full_stage c l.inputs))).quiet_end e.cause e.closes;
      inputs = o.is;
      given = o.taken.given;
      rest = o.taken.rest ++ drop h.count bytes;
      whole = ap (λ (x : List ℕ). moved ++ x) (sym (take-append-drop h.count bytes)) ∙ sym (append_assoc moved (take h.count bytes) (drop h.count bytes))
          ∙ ap (λ (x : List ℕ). x ++ drop h.count bytes) o.taken.whole ∙ append_assoc o.taken.given o.taken.rest (drop h.count bytes);
      reads = subst (λ (k : ℕ). ReadsAs k no_login o.taken.given (coming o.is)) (h.limit ∙ l.limit) o.taken.reads;
      order = o.order;
      follows = o.follows;
      machine = e.machine ∙ o.machine;
      output = ap (λ (x : List ℕ). prior ++ x) e.output ∙ sym (append_assoc prior before (canon (received_steps old bytes h).output)) ∙ o.output;
    }

-- a session that a message closed
closes_ended : (past : List SessionInput) (c : Opening) (acts : List SessionInput) (moved prior before bytes after : List ℕ) (old new : InitiatorConnection)
    (fault : Option InitiatorFault) → InitiatorLives past c acts moved (prior ++ before) old → (h : ReceivedPdus old bytes)
    → PieceClosesSession h new before after fault → InitiatorEnded c (moved ++ bytes) (prior ++ after) new
closes_ended past c acts moved prior before bytes after old new fault l h e =
    let o = come_on past c acts moved (prior ++ before) (take h.count bytes) old l h.messages h.framing h.moves in
    record {
      limit = h.framing.limit;
      inputs = o.is;
      given = o.taken.given;
      rest = o.taken.rest ++ drop h.count bytes;
      lost = [];
      whole = ap (λ (x : List ℕ). moved ++ x) (sym (take-append-drop h.count bytes)) ∙ sym (append_assoc moved (take h.count bytes) (drop h.count bytes))
          ∙ ap (λ (x : List ℕ). x ++ drop h.count bytes) o.taken.whole ∙ append_assoc o.taken.given o.taken.rest (drop h.count bytes);
      reads = o.taken.reads;
      output = append-nil (prior ++ after) ∙ ap (λ (x : List ℕ). prior ++ x) e.output
          ∙ sym (append_assoc prior before (canon (received_steps old bytes h).output))
          ∙ o.output;
      stage = ap (λ (m : InitiatorSession). m.stage) e.machine ∙ ap (λ (m : InitiatorSession). m.stage) o.machine;
      closed = sym (ap is_session_closed o.machine) ∙ e.closes;
    }

-- what was written before the last call, and before and behind it what waits
pub record Outgoing : Type 0 where
  pub prior : List ℕ
  pub before : List ℕ
  pub after : List ℕ

closes_side : (past : List SessionInput) (c : Opening) (acts : List SessionInput) (moved : List ℕ) (out : Outgoing) (bytes : List ℕ)
    (old new : InitiatorConnection)
    (fault : Option InitiatorFault) (kept : Option EndFault) → InitiatorLives past c acts moved (out.prior ++ out.before) old → (h : ReceivedPdus old bytes)
    → (kept ≡ None → InitiatorOver past c acts (moved ++ bytes) (out.prior ++ out.after) new) → (InitiatorEnded c (moved ++ bytes) (out.prior ++ out.after) new
    → InitiatorFailed kept c (moved ++ bytes) (out.prior ++ out.after) new)
    → PieceClosesSession h new out.before out.after fault → InitiatorSide past c acts (streams (moved ++ bytes) (out.prior ++ out.after)) new kept
closes_side past c acts moved out bytes old new fault kept l h full why e = record {
  failed = why (closes_ended past c acts moved out.prior out.before bytes out.after old new fault l h e);
  over = λ none over. full none;
  front = received_front past c acts moved out.prior out.before bytes out.after [] old new l h (append-nil out.after ∙ e.output)
      (ap (λ (m : InitiatorSession). m.stage) e.machine)
      (ap (λ (m : InitiatorSession). m.held) e.machine);
  lives = λ none live. absurd (apart (ap is_session_closed e.machine ∙ e.closes) live);
}

-- a stream that was refused
stream_broken : (past : List SessionInput) (c : Opening) (acts : List SessionInput) (moved prior before bytes after : List ℕ) (old new : InitiatorConnection)
    (fault : StreamFault)
    → InitiatorLives past c acts moved (prior ++ before) old → (h : ReceivedPdus old bytes) → fault ≢ stream.NoMemory
    → StreamEnds h new before after fault → InitiatorBroken fault c (moved ++ bytes) (prior ++ after) new
stream_broken past c acts moved prior before bytes after old new fault l h some e =
    let o = come_on past c acts moved (prior ++ before) (take h.count bytes) old l h.messages h.framing h.moves in
    record {
      inputs = o.is;
      framing = h.framing;
      front = moved ++ take h.count bytes;
      taken = o.taken;
      limit = h.limit ∙ l.limit;
      piece = drop h.count bytes;
      more = [];
      whole = ap (λ (x : List ℕ). moved ++ x) (sym (take-append-drop h.count bytes)) ∙ sym (append_assoc moved (take h.count bytes) (drop h.count bytes))
          ∙ ap (λ (x : List ℕ). (moved ++ take h.count bytes) ++ x) (sym (append-nil (drop h.count bytes)));
      refused = e.refused;
      some = some;
      output = ap (λ (x : List ℕ). prior ++ x) e.output ∙ sym (append_assoc prior before (canon (received_steps old bytes h).output)) ∙ o.output;
      stage = ap (λ (m : InitiatorSession). m.stage) e.machine ∙ ap (λ (m : InitiatorSession). m.stage) o.machine;
    }

stream_side : (past : List SessionInput) (c : Opening) (acts : List SessionInput) (moved : List ℕ) (out : Outgoing) (bytes : List ℕ)
    (old new : InitiatorConnection)
    (fault : StreamFault)
    (kept : EndFault) → InitiatorLives past c acts moved (out.prior ++ out.before) old → (h : ReceivedPdus old bytes) → fault ≢ stream.NoMemory
    → (InitiatorBroken fault c (moved ++ bytes) (out.prior ++ out.after) new → InitiatorFailed (Some kept) c (moved ++ bytes) (out.prior ++ out.after) new)
    → StreamEnds h new out.before out.after fault → InitiatorSide past c acts (streams (moved ++ bytes) (out.prior ++ out.after)) new (Some kept)
stream_side past c acts moved out bytes old new fault kept l h some why e = record {
  failed = why (stream_broken past c acts moved out.prior out.before bytes out.after old new fault l h some e);
  over = λ none over. absurd (cc none);
  front = received_front past c acts moved out.prior out.before bytes out.after [] old new l h (append-nil out.after ∙ e.output)
      (ap (λ (m : InitiatorSession). m.stage) e.machine)
      (ap (λ (m : InitiatorSession). m.held) e.machine);
  lives = λ none live. absurd (cc none);
}

stays_side : (past : List SessionInput) (c : Opening) (acts : List SessionInput) (moved prior before bytes after : List ℕ) (old new : InitiatorConnection)
    (kept : EndFault)
    → InitiatorSide past c acts (streams moved (prior ++ before)) old None
    → (InitiatorEnded c (moved ++ bytes) (prior ++ after) new → InitiatorFailed (Some kept) c (moved ++ bytes) (prior ++ after) new)
    → ClosedInitiatorStays old new before after → InitiatorSide past c acts (streams (moved ++ bytes) (prior ++ after)) new (Some kept)
stays_side past c acts moved prior before bytes after old new kept s why e = record {
  failed = why (let l : InitiatorOver past c acts moved (prior ++ before) old = s.over refl e.closed in
      let there : InitiatorEnded c moved (prior ++ before) old = record {
        limit = initiator_limit c.initiator;
        inputs = l.inputs;
        given = l.given;
        rest = l.rest;
        lost = [];
        whole = l.whole;
        reads = l.reads;
        output = append-nil (prior ++ before) ∙ l.output;
        stage = ap (λ (m : InitiatorSession). m.stage) l.machine;
        closed = sym (ap is_session_closed l.machine) ∙ e.closed;
      } in
      subst (λ (x : List ℕ). InitiatorEnded c (moved ++ bytes) (prior ++ x) new) (sym e.output)
      (subst (λ (x : InitiatorConnection). InitiatorEnded c (moved ++ bytes) (prior ++ before) x) (sym e.connection)
      (ended_drops c moved bytes (prior ++ before) old
      there)));
  over = λ none over. absurd (cc none);
  front = subst (λ (x : List ℕ). InitiatorFront c (moved ++ bytes) (prior ++ x) new) (sym e.output)
      (subst (λ (x : InitiatorConnection). InitiatorFront c (moved ++ bytes) (prior ++ before) x) (sym e.connection)
      (front_drops c moved bytes (prior ++ before) old
      s.front));
  lives = λ none live. absurd (cc none);
}

-- a session that received messages and is open, or failed at the last, was open
was_open : (b : Bool) (old : InitiatorConnection) (bytes : List ℕ) (h : ReceivedPdus old bytes) → is_session_closed old.machine ≡ b
    → is_session_closed (received_steps old bytes h).machine ≡ false → is_session_closed old.machine ≡ false
was_open true old bytes h is live = absurd (not_live old h.messages is live)
was_open false old bytes h is live = is

failed_open : (b : Bool) (old : InitiatorConnection) (bytes : List ℕ) (h : ReceivedPdus old bytes) (fault : InitiatorFault) → is_session_closed old.machine ≡ b
    → (received_steps old bytes h).fault ≡ Some fault → is_session_closed old.machine ≡ false
failed_open true old bytes h fault is cause = absurd (no_fault old h.messages fault is cause)
failed_open false old bytes h fault is cause = is

stream_fails : (fault : StreamFault) (past : List SessionInput) (c : Opening) (acts : List SessionInput) (moved prior before bytes after : List ℕ)
    (old new : InitiatorConnection)
    → InitiatorSide past c acts (streams moved (prior ++ before)) old None
    → InitiatorFeedPost (Err (faults.Stream fault)) old bytes new before after → (kept : EndFault)
    → (InitiatorBroken fault c (moved ++ bytes) (prior ++ after) new
    → InitiatorFailed (Some kept) c (moved ++ bytes) (prior ++ after) new)
    → InitiatorSide past c acts (streams (moved ++ bytes) (prior ++ after)) new (Some kept)
stream_fails stream.NoMemory past c acts moved prior before bytes after old new s e kept why = absurd e
stream_fails (stream.Head fault place) past c acts moved prior before bytes after old new s e kept why =
    stream_side past c acts moved (record { prior = prior; before = before; after = after }) bytes old new (stream.Head fault place) kept
    (s.lives refl (was_open _ old bytes e.0 refl e.1.live)) e.0
    (λ n. cc n) why e.1
stream_fails (stream.OverLimit place) past c acts moved prior before bytes after old new s e kept why =
    stream_side past c acts moved (record { prior = prior; before = before; after = after }) bytes old new (stream.OverLimit place) kept
    (s.lives refl (was_open _ old bytes e.0 refl e.1.live)) e.0
    (λ n. cc n) why e.1
stream_fails (stream.Truncated place) past c acts moved prior before bytes after old new s e kept why =
    stream_side past c acts moved (record { prior = prior; before = before; after = after }) bytes old new (stream.Truncated place) kept
    (s.lives refl (was_open _ old bytes e.0 refl e.1.live)) e.0
    (λ n. cc n) why e.1
stream_fails stream.Failed past c acts moved prior before bytes after old new s e kept why =
    stream_side past c acts moved (record { prior = prior; before = before; after = after }) bytes old new stream.Failed kept
    (s.lives refl (was_open _ old bytes e.0 refl e.1.live)) e.0 (λ n. cc n)
    why e.1

closes_fails : (fault : InitiatorFault) (past : List SessionInput) (c : Opening) (acts : List SessionInput) (moved : List ℕ) (out : Outgoing) (bytes : List ℕ)
    (old new : InitiatorConnection)
    → InitiatorSide past c acts (streams moved (out.prior ++ out.before)) old None
    → (e : (h : ReceivedPdus old bytes) × PieceClosesSession h new out.before out.after (Some fault)) → (kept : EndFault)
    → (InitiatorEnded c (moved ++ bytes) (out.prior ++ out.after) new → InitiatorFailed (Some kept) c (moved ++ bytes) (out.prior ++ out.after) new)
    → InitiatorSide past c acts (streams (moved ++ bytes) (out.prior ++ out.after)) new (Some kept)
closes_fails fault past c acts moved out bytes old new s e kept why =
    closes_side past c acts moved out bytes old new (Some fault) (Some kept) (s.lives refl (failed_open _ old bytes e.0 fault refl e.1.cause))
    e.0 (λ none. absurd (cc none)) why e.1

-- the initiator received these bytes
pub initiator_received : (result : Result Phase InitiatorFault) (past : List SessionInput) (c : Opening) (acts : List SessionInput)
    (moved prior before bytes after : List ℕ)
    (old new : InitiatorConnection) → InitiatorSide past c acts (streams moved (prior ++ before)) old None
    → InitiatorFeedPost result old bytes new before after → InitiatorSide past c acts (streams (moved ++ bytes) (prior ++ after)) new
    (feed_fault (result_err result))
initiator_received (Ok phase) past c acts moved prior before bytes after old new s e =
    elim e.1.1 [
      | inl all ↦ (let l : InitiatorLives past c acts (moved ++ bytes) (prior ++ after) new = receives_all past c acts moved prior before bytes after old new
          phase
          (s.lives refl e.0) e.1.0 all in
          record {
            front = lives_front past c acts (moved ++ bytes) (prior ++ after) new l;
            failed = tt;
            over =
                λ none over. absurd (apart over (ap (λ (x : InitiatorConnection). is_session_closed x.machine) all.connection ∙ all.live));
            lives = λ none live. l;
          })
      | inr over ↦ closes_side past c acts moved (record { prior = prior; before = before; after = after }) bytes old new None None (s.lives refl e.0) e.1.0
          (λ none. ends_full past c acts moved prior before bytes after old new (s.lives refl e.0) e.0 e.1.0 over.0) (λ x. tt) over.0
    ]
initiator_received (Err faults.NoMemory) past c acts moved prior before bytes after old new s e =
    let l : InitiatorLives past c acts moved (prior ++ before) old = s.lives refl (was_open _ old bytes e.0 refl e.1.live) in
    record {
      front = received_front past c acts moved prior before bytes after (canon (received_steps old bytes e.0).output) old new l e.0
          (ap (λ (x : List ℕ). x ++ canon (received_steps old bytes e.0).output) e.1.output)
          (ap (λ (m : InitiatorSession). m.stage) e.1.machine) (ap (λ (m : InitiatorSession). m.held) e.1.machine);
      failed = tt;
      over = λ none over. absurd (cc none);
      lives = λ none live. absurd (cc none);
    }
initiator_received (Err (faults.Stream fault)) past c acts moved prior before bytes after old new s e =
    stream_fails fault past c acts moved prior before bytes after old new s e _ (λ x. x)
initiator_received (Err (faults.Protocol rule)) past c acts moved prior before bytes after old new s e =
    closes_fails (faults.Protocol rule) past c acts moved (record { prior = prior; before = before; after = after }) bytes old new s e _ (λ x. x)
initiator_received (Err (faults.Refused class detail)) past c acts moved prior before bytes after old new s e =
    closes_fails (faults.Refused class detail) past c acts moved (record { prior = prior; before = before; after = after }) bytes old new s e _ (λ x. x)
initiator_received (Err (faults.BadAnswer key)) past c acts moved prior before bytes after old new s e =
    closes_fails (faults.BadAnswer key) past c acts moved (record { prior = prior; before = before; after = after }) bytes old new s e _ (λ x. x)
initiator_received (Err faults.Closed) past c acts moved prior before bytes after old new s e = stays_side past c acts moved prior before bytes after old new
    _ s
    (λ x. x) e

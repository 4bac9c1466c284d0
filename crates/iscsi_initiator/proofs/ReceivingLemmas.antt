-- A piece of a stream, one PDU after another.
use Rattle.std.proofs.Common.{◌≡◌, inl, inr, ◌∙◌, ℕ, List, [], ◌∷◌, ◌++◌, Bool, true, false, length, take, drop, Option, Some, None, true≢false, refl, sym, ap}
use Rattle.std.proofs.Common.{subst, arith, append-nil, append_assoc}
use Rattle.std.specs.Prelude.{if◌then◌else◌, Result, Ok, Err}
use Rattle.std.proofs.lemmas.List.{length-append, take_at, drop_at}
use Rattle.std.proofs.lemmas.List.Concat.{flat_map-append}
use Rattle.iscsi_stream.specs.declared.fault.StreamFault.{StreamFault}
use Rattle.iscsi_stream.specs.declared.fault.StreamFault.TheVariants as stream
use Rattle.iscsi_stream.specs.Stream.{Message}
use Rattle.iscsi_stream.specs.Canonical.{canon, canonical_bytes}
use Rattle.iscsi_stream.specs.Framing.{Framing, FramerTakes, FramerMoves, FramerFeedFails, is_ready, pdu_given_up, message_of}
use Rattle.iscsi_stream.proofs.TakingLemmas.{moves_none, moves_gave, moves_then, taken_more, moves_taken}
use Rattle.iscsi_stream.proofs.PassingLemmas.{unready_after}
use Rattle.iscsi_login.specs.declared.phase.Phase.{Phase}
use Rattle.iscsi_login.specs.declared.phase.Phase.TheVariants as phases
use Rattle.iscsi_initiator.specs.declared.fault.InitiatorFault.{InitiatorFault}
use Rattle.iscsi_initiator.specs.declared.fault.InitiatorFault.TheVariants as faults
use Rattle.iscsi_initiator.specs.State.{InitiatorSession, is_session_closed}
use Rattle.iscsi_initiator.specs.Steps.{InitiatorStep, closed_session, quiet}
use Rattle.iscsi_initiator.specs.Machine.{initiator_step, steps, then_steps}
use Rattle.iscsi_initiator.specs.Calls.{InitiatorConnection, ReceivedPdus, InitiatorFeedPost, PieceClosesSession, StreamEnds}
use Rattle.std.proofs.lemmas.Option.{none-some}
use Rattle.iscsi_initiator.proofs.FaultLemmas.{IsTargets, step_shuts}
use Rattle.iscsi_initiator.specs.inner.Inside.{initiator_connection, IsReceived, ReceivesPdu, InitiatorShutsReady, InitiatorRestFails, FedUntil, FeedMemoryRanOut, has_run_out}

-- ---- one message more

-- what one message more leads to
record IsNext (m : InitiatorSession) (ms : List Message) (x : Message) : Type 0 where
  pub machine : (steps m (ms ++ x ∷ [])).machine ≡ (initiator_step (steps m ms).machine x).machine
  pub output : (steps m (ms ++ x ∷ [])).output ≡ (steps m ms).output ++ (initiator_step (steps m ms).machine x).output
  pub fault : is_session_closed (initiator_step (steps m ms).machine x).machine ≡ true → (steps m (ms ++ x ∷ [])).fault
      ≡ (initiator_step (steps m ms).machine x).fault

abbrev pub next_if : Bool → InitiatorStep → InitiatorStep → InitiatorStep
next_if shut a b = if shut then a else then_steps a b

last_machine : (shut : Bool) (s : InitiatorStep) → (next_if shut s (quiet s.machine)).machine ≡ s.machine
last_machine true s = refl
last_machine false s = refl

last_output : (shut : Bool) (s : InitiatorStep) → (next_if shut s (quiet s.machine)).output ≡ s.output
last_output true s = refl
last_output false s = append-nil s.output

last_fault : (shut : Bool) (s : InitiatorStep) → shut ≡ true → (next_if shut s (quiet s.machine)).fault ≡ s.fault
last_fault true s e = refl
last_fault false s e = absurd (true≢false (sym e))

-- what goes on did not end before
went_on : (shut : Bool) (a b : InitiatorStep) → is_session_closed a.machine ≡ shut → is_session_closed (next_if shut a b).machine ≡ false → shut ≡ false
went_on true a b is live = absurd (true≢false (sym is ∙ live))
went_on false a b is live = refl

next_is : (m : InitiatorSession) (ms : List Message) (x : Message) → is_session_closed (steps m ms).machine ≡ false → IsNext m ms x
unfolding steps
next_is m [] x live = record {
  machine = last_machine (is_session_closed (initiator_step m x).machine) (initiator_step m x);
  output = last_output (is_session_closed (initiator_step m x).machine) (initiator_step m x);
  fault = last_fault (is_session_closed (initiator_step m x).machine) (initiator_step m x);
}
next_is m (y ∷ ms) x live =
    let s : InitiatorStep = initiator_step m y in
    let open_yet : is_session_closed s.machine ≡ false = went_on (is_session_closed s.machine) s (steps s.machine ms) refl live in
    let as_next : (ks : List Message) → next_if (is_session_closed s.machine) s (steps s.machine ks)
    ≡ then_steps s (steps s.machine ks) = λ ks. ap (λ (b : Bool). next_if b s (steps s.machine ks)) open_yet in
    let now : (steps m (y ∷ ms)).machine ≡ (steps s.machine ms).machine = ap (λ (t : InitiatorStep). t.machine) (as_next ms) in
    let n : IsNext s.machine ms x = next_is s.machine ms x (sym (ap is_session_closed now) ∙ live) in
    record {
      machine = ap (λ (t : InitiatorStep). t.machine) (as_next (ms ++ x ∷ [])) ∙ n.machine
          ∙ ap (λ (k : InitiatorSession). (initiator_step k x).machine) (sym now);
      output = ap (λ (t : InitiatorStep). t.output) (as_next (ms ++ x ∷ [])) ∙ ap (λ (o : List Message). s.output ++ o) n.output
          ∙ sym (append_assoc s.output (steps s.machine ms).output (initiator_step (steps s.machine ms).machine x).output)
          ∙ ap (λ (o : List Message). o ++ (initiator_step (steps s.machine ms).machine x).output) (sym (ap (λ (t : InitiatorStep). t.output) (as_next ms)))
          ∙ ap (λ (k : InitiatorSession). (steps m (y ∷ ms)).output ++ (initiator_step k x).output) (sym now);
      fault = λ e. ap (λ (t : InitiatorStep). t.fault) (as_next (ms ++ x ∷ []))
          ∙ n.fault (ap (λ (k : InitiatorSession). is_session_closed (initiator_step k x).machine) (sym now) ∙ e)
          ∙ ap (λ (k : InitiatorSession). (initiator_step k x).fault) (sym now);
    }

-- ---- the piece so far

-- a session over a stream, and what is written of its output
pub record Standing : Type 0 where
  pub connection : InitiatorConnection
  pub written : List ℕ

-- these two together
abbrev pub standing : InitiatorConnection → List ℕ → Standing
standing c written = record { connection = c; written = written }

-- the bytes of the piece before the rest were taken, and their PDUs received
pub record ReceivedUpTo (old : Standing) (piece rest : List ℕ) (now : Standing) : Type 0 where
  pub front : List ℕ
  pub parts : piece ≡ front ++ rest
  pub messages : List Message
  pub moves : FramerMoves old.connection.framing now.connection.framing front messages
  pub limit : now.connection.framing.limit ≡ old.connection.framing.limit
  pub unready : is_ready now.connection.framing ≡ false
  pub machine_is : now.connection.machine ≡ (steps old.connection.machine messages).machine
  pub output_is : now.written ≡ old.written ++ canon (steps old.connection.machine messages).output

-- and the session goes on
pub record GoesUpTo (old : Standing) (piece rest : List ℕ) (now : Standing) : Type 0 where
  pub received : ReceivedUpTo old piece rest now
  pub live : is_session_closed now.connection.machine ≡ false

-- the last PDU led to this fault, or to none; one that closes the session is the last
pub record ReceivedAs (old : Standing) (piece rest : List ℕ) (now : Standing) (fault : Option InitiatorFault) : Type 0 where
  pub received : ReceivedUpTo old piece rest now
  pub fault_is : is_session_closed now.connection.machine ≡ true → (steps old.connection.machine received.messages).fault ≡ fault
  pub targets : (f : InitiatorFault) → fault ≡ Some f → IsTargets f

pub received_none : (old : InitiatorConnection) (piece before : List ℕ) → is_ready old.framing ≡ false → is_session_closed old.machine ≡ false →
    GoesUpTo (standing old before) piece piece (standing old before)
unfolding steps
received_none old piece before unready live = record {
  received = record {
    front = [];
    parts = refl;
    messages = [];
    moves = moves_none old.framing;
    limit = refl;
    unready = unready;
    machine_is = refl;
    output_is = sym (append-nil before);
  };
  live = live;
}

received_bytes : (old : InitiatorConnection) (piece rest before : List ℕ) (now : InitiatorConnection) (written : List ℕ) (n : ℕ) (framing : Framing)
    → GoesUpTo (standing old before) piece rest (standing now written) → FramerTakes now.framing rest n framing → is_ready framing ≡ false →
    ReceivedUpTo (standing old before) piece (drop n rest) (standing (initiator_connection now.machine framing) written)
received_bytes old piece rest before now written n framing g t unready = let h = g.received in record {
  front = h.front ++ take n rest;
  parts = taken_more piece h.front rest n h.parts;
  messages = h.messages;
  moves = moves_taken old.framing now.framing framing h.front n rest h.messages h.moves t;
  limit = ap (λ (v : Framing). v.limit) t.gathered ∙ h.limit;
  unready = unready;
  machine_is = h.machine_is;
  output_is = h.output_is;
}

received_pdu : (old : InitiatorConnection) (piece rest before : List ℕ) (now : InitiatorConnection) (written : List ℕ) (n : ℕ) (framing : Framing)
    (fault : Option InitiatorFault)
    (new : InitiatorConnection) (after : List ℕ)
    → GoesUpTo (standing old before) piece rest (standing now written) → FramerTakes now.framing rest n framing →
    IsReceived (initiator_connection now.machine framing) fault new written after →
    ReceivedAs (standing old before) piece (drop n rest) (standing new after) fault
received_pdu old piece rest before now written n framing fault new after g t a =
    let h = g.received in
    let x : Message = message_of framing a.head a.segment in
    let s : InitiatorStep = steps old.machine h.messages in
    let next : IsNext old.machine h.messages x = next_is old.machine h.messages x (ap is_session_closed (sym h.machine_is) ∙ g.live) in
    let same : initiator_step now.machine x ≡ initiator_step s.machine x = ap (λ (k : InitiatorSession). initiator_step k x) h.machine_is in
    let machine : new.machine ≡ (initiator_step s.machine x).machine = a.did.machine ∙ ap (λ (r : InitiatorStep). r.machine) same in
    record {
      received = record {
        front = h.front ++ take n rest;
        parts = taken_more piece h.front rest n h.parts;
        messages = h.messages ++ x ∷ [];
        moves =
            subst (λ (v : Framing). FramerMoves old.framing v (h.front ++ take n rest) (h.messages ++ x ∷ [])) (sym a.framing_is)
            (subst (λ (y : List ℕ). FramerMoves old.framing (pdu_given_up framing a.head) y (h.messages ++ x ∷ [])) (append-nil (h.front ++ take n rest))
            (moves_then old.framing framing (pdu_given_up framing a.head) (h.front ++ take n rest) [] h.messages (x ∷ [])
            (moves_taken old.framing now.framing framing h.front n rest h.messages h.moves t) (moves_gave framing a.head a.segment a.means)));
        limit = ap (λ (v : Framing). v.limit) a.framing_is ∙ ap (λ (v : Framing). v.limit) t.gathered ∙ h.limit;
        unready = ap is_ready a.framing_is ∙ unready_after framing a.head;
        machine_is = machine ∙ sym next.machine;
        output_is =
            a.did.output ∙ ap (λ (r : InitiatorStep). written ++ canon r.output) same
            ∙ ap (λ (y : List ℕ). y ++ canon (initiator_step s.machine x).output) h.output_is
            ∙ append_assoc before (canon s.output) (canon (initiator_step s.machine x).output)
            ∙ ap (λ (y : List ℕ). before ++ y) (sym (flat_map-append canonical_bytes s.output (initiator_step s.machine x).output))
            ∙ ap (λ (o : List Message). before ++ canon o) (sym next.output);
      };
      fault_is = λ e. next.fault (ap is_session_closed (sym machine) ∙ e) ∙ ap (λ (r : InitiatorStep). r.fault) (sym same) ∙ sym a.did.fault_is;
      targets = λ f e. (step_shuts now.machine x).shuts f (sym a.did.fault_is ∙ e);
    }

pub received_ready : (old : InitiatorConnection) (piece rest before : List ℕ) (now : InitiatorConnection) (written : List ℕ) (n : ℕ) (framing : Framing)
    (fault : Option InitiatorFault) (new : InitiatorConnection) (after : List ℕ)
    → GoesUpTo (standing old before) piece rest (standing now written) → FramerTakes now.framing rest n framing →
    ReceivesPdu (initiator_connection now.machine framing) fault new written after →
    ReceivedAs (standing old before) piece (drop n rest) (standing new after) fault
received_ready old piece rest before now written n framing fault new after g t (inl u) =
    subst (λ (c : InitiatorConnection). ReceivedAs (standing old before) piece (drop n rest) (standing c after) fault) (sym u.connection_is)
    (subst (λ (w : List ℕ). ReceivedAs (standing old before) piece (drop n rest) (standing (initiator_connection now.machine framing) w) fault)
    (sym u.output_is)
    (record {
      received = received_bytes old piece rest before now written n framing g t u.unready;
      fault_is = λ e. absurd (true≢false (sym e ∙ g.live));
      targets = λ f e. absurd (none-some f (sym u.fault_is ∙ e));
    }))
received_ready old piece rest before now written n framing fault new after g t (inr a) =
    received_pdu old piece rest before now written n framing fault new after g t a

-- ---- where a call ends

abbrev pub received_of : (old : InitiatorConnection) (piece rest : List ℕ) (now : InitiatorConnection) (before written : List ℕ) →
    ReceivedUpTo (standing old before) piece rest (standing now written)
    → ReceivedPdus old piece
received_of old piece rest now before written h = record {
  count = length h.front;
  some = (let parts = ap length h.parts in omega (arith, parts, length-append h.front rest));
  messages = h.messages;
  framing = now.framing;
  limit = h.limit;
  moves = subst (λ (x : List ℕ). FramerMoves old.framing now.framing x h.messages) (sym (ap (take (length h.front)) h.parts
      ∙ take_at h.front rest (length h.front) refl)) h.moves;
}

pub ends_live : (old : InitiatorConnection) (piece rest before : List ℕ) (now : InitiatorConnection) (written : List ℕ) (phase : Phase)
    → GoesUpTo (standing old before) piece rest (standing now written) → is_session_closed old.machine ≡ false → phase ≡ now.machine.phase → length rest ≡ 0 →
    InitiatorFeedPost (Ok phase) old piece now before written
ends_live old piece rest before now written phase g first is none =
    let h = g.received in (
      first,
      (
        received_of old piece rest now before written h,
        inl (record {
          all = (let parts = ap length h.parts in omega (arith, parts, none, length-append h.front rest));
          live = ap is_session_closed (sym h.machine_is) ∙ g.live;
          unready = h.unready;
          connection = ap (λ (m : InitiatorSession). record now { machine = m }) h.machine_is;
          output = h.output_is;
          answered = is ∙ ap (λ (m : InitiatorSession). m.phase) h.machine_is;
        }),
      ),
    )

closes_at : (old : InitiatorConnection) (piece rest before : List ℕ) (now : InitiatorConnection) (written : List ℕ) (fault : Option InitiatorFault)
    (a : ReceivedAs (standing old before) piece rest (standing now written) fault) → is_session_closed now.machine ≡ true
    → PieceClosesSession (received_of old piece rest now before written a.received) now before written fault
closes_at old piece rest before now written fault a shut = let h = a.received in record {
  closes = ap is_session_closed (sym h.machine_is) ∙ shut;
  machine = h.machine_is;
  output = h.output_is;
  cause = a.fault_is shut;
}

-- the last PDU closed the session on request
pub ends_closed : (old : InitiatorConnection) (piece rest before : List ℕ) (now : InitiatorConnection) (written : List ℕ) (fault : Option InitiatorFault)
    → ReceivedAs (standing old before) piece rest (standing now written) fault → is_session_closed old.machine ≡ false → fault ≡ None
    → is_session_closed now.machine ≡ true →
    InitiatorFeedPost (Ok phases.Closed) old piece now before written
ends_closed old piece rest before now written fault a first none shut = (
  first,
  (
    received_of old piece rest now before written a.received,
    inr (
      subst
          (λ (f : Option InitiatorFault). PieceClosesSession (received_of old piece rest now before written a.received) now before written f) none
          (closes_at old piece rest before now written fault a shut),
      refl,
    ),
  ),
)

-- the last PDU closed the session by a fault
pub ends_fault : (old : InitiatorConnection) (piece rest before : List ℕ) (now : InitiatorConnection) (written : List ℕ) (fault : InitiatorFault)
    → ReceivedAs (standing old before) piece rest (standing now written) (Some fault) → is_session_closed now.machine ≡ true →
    FedUntil (Err fault) old piece now before written
ends_fault old piece rest before now written fault a shut = of_targets fault (a.targets fault refl)
    (received_of old piece rest now before written a.received, closes_at old piece rest before now written (Some fault) a shut)
  where
    of_targets : (f : InitiatorFault) → IsTargets f → (received : ReceivedPdus old piece) × PieceClosesSession received now before written (Some f) →
        FedUntil (Err f) old piece now before written
    of_targets (faults.Protocol rule) is ends = ends
    of_targets (faults.Refused class detail) is ends = ends
    of_targets (faults.BadAnswer key) is ends = ends
    of_targets faults.NoMemory is ends = absurd is
    of_targets (faults.Stream fault) is ends = absurd is
    of_targets faults.Closed is ends = absurd is

still_there : (old : InitiatorConnection) (piece rest before : List ℕ) (now : InitiatorConnection) (written : List ℕ) →
    ReceivedUpTo (standing old before) piece rest (standing now written) →
    take (length before) written ≡ before
still_there old piece rest before now written h = ap (take (length before)) h.output_is
    ∙ take_at before (canon (steps old.machine h.messages).output) (length before) refl

ran_out : (old : InitiatorConnection) (piece rest before : List ℕ) (now : InitiatorConnection) (written : List ℕ) (new : InitiatorConnection) →
    (g : GoesUpTo (standing old before) piece rest (standing now written)) → new.machine ≡ closed_session now.machine
    → FeedMemoryRanOut old piece (received_of old piece rest now before written g.received) new before written
ran_out old piece rest before now written new g is = record {
  live = ap is_session_closed (sym g.received.machine_is) ∙ g.live;
  machine = is ∙ ap closed_session g.received.machine_is;
  front = still_there old piece rest before now written g.received;
}

-- the framer refuses what follows
pub ends_refused : (old : InitiatorConnection) (piece rest before : List ℕ) (now : InitiatorConnection) (written : List ℕ) (fault : InitiatorFault)
    (new : InitiatorConnection)
    → GoesUpTo (standing old before) piece rest (standing now written) → InitiatorRestFails now.framing rest fault → new.machine ≡ closed_session now.machine →
    FedUntil (Err fault) old piece new before written
ends_refused old piece rest before now written faults.NoMemory new g fails is = (
  received_of old piece rest now before written g.received,
  ran_out old piece rest before now written new g is,
)
ends_refused old piece rest before now written (faults.Stream fault) new g fails is = refused fault fails.0 fails.1
  where
    ends : (f : StreamFault) → FramerFeedFails now.framing rest f → (received : ReceivedPdus old piece) × StreamEnds received new before written f
    ends f e = (
      received_of old piece rest now before written g.received,
      record {
        live = ap is_session_closed (sym g.received.machine_is) ∙ g.live;
        refused = subst (λ (x : List ℕ). FramerFeedFails now.framing x f) (sym (ap (drop (length g.received.front)) g.received.parts
            ∙ drop_at g.received.front rest (length g.received.front) refl)) e;
        machine = is ∙ ap closed_session g.received.machine_is;
        output = g.received.output_is;
      },
    )

    refused : (f : StreamFault) → (f ≡ stream.NoMemory → ⊥) → FramerFeedFails now.framing rest f → FedUntil (Err (faults.Stream f)) old piece new before written
    refused stream.NoMemory apart e = absurd (apart refl)
    refused (stream.Head f place) apart e = ends (stream.Head f place) e
    refused (stream.OverLimit place) apart e = ends (stream.OverLimit place) e
    refused (stream.Truncated place) apart e = ends (stream.Truncated place) e
    refused stream.Failed apart e = ends stream.Failed e
ends_refused old piece rest before now written (faults.Protocol rule) new g fails is = absurd fails
ends_refused old piece rest before now written (faults.Refused class detail) new g fails is = absurd fails
ends_refused old piece rest before now written (faults.BadAnswer key) new g fails is = absurd fails
ends_refused old piece rest before now written faults.Closed new g fails is = absurd fails

-- memory ran out at a PDU
pub ends_shut : (old : InitiatorConnection) (piece rest before : List ℕ) (now : InitiatorConnection) (written : List ℕ) (framing : Framing)
    (new : InitiatorConnection) (after : List ℕ)
    → GoesUpTo (standing old before) piece rest (standing now written) → InitiatorShutsReady (initiator_connection now.machine framing) new written after →
    FedUntil (Err faults.NoMemory) old piece new before after
ends_shut old piece rest before now written framing new after g s =
    subst (λ (w : List ℕ). FedUntil (Err faults.NoMemory) old piece new before w) (sym s.output_is)
    (received_of old piece rest now before written g.received, ran_out old piece rest before now written new g s.machine)

-- ---- what a call leaves

pub fed_as : (result : Result Phase InitiatorFault) (old : InitiatorConnection) (piece : List ℕ) (new : InitiatorConnection) (before after : List ℕ)
    → has_run_out result ≡ false
    → FedUntil result old piece new before after → InitiatorFeedPost result old piece new before after
fed_as (Ok phase) old piece new before after apart fed = fed
fed_as (Err faults.NoMemory) old piece new before after apart fed = absurd (true≢false apart)
fed_as (Err (faults.Stream fault)) old piece new before after apart fed = fed
fed_as (Err (faults.Protocol rule)) old piece new before after apart fed = fed
fed_as (Err (faults.Refused class detail)) old piece new before after apart fed = fed
fed_as (Err (faults.BadAnswer key)) old piece new before after apart fed = fed
fed_as (Err faults.Closed) old piece new before after apart fed = fed

pub fed_cut : (result : Result Phase InitiatorFault) (old : InitiatorConnection) (piece : List ℕ) (new : InitiatorConnection) (before written after : List ℕ)
    → has_run_out result
    ≡ true → after ≡ take (length before) written
    → FedUntil result old piece new before written → InitiatorFeedPost result old piece new before after
fed_cut (Ok phase) old piece new before written after out cut fed = absurd (true≢false (sym out))
fed_cut (Err faults.NoMemory) old piece new before written after out cut fed = (
  fed.0,
  record { live = fed.1.live; machine = fed.1.machine; output = cut ∙ fed.1.front },
)
fed_cut (Err (faults.Stream fault)) old piece new before written after out cut fed = absurd (true≢false (sym out))
fed_cut (Err (faults.Protocol rule)) old piece new before written after out cut fed = absurd (true≢false (sym out))
fed_cut (Err (faults.Refused class detail)) old piece new before written after out cut fed = absurd (true≢false (sym out))
fed_cut (Err (faults.BadAnswer key)) old piece new before written after out cut fed = absurd (true≢false (sym out))
fed_cut (Err faults.Closed) old piece new before written after out cut fed = absurd (true≢false (sym out))

-- What a call keeps from PDU to PDU, and where it ends.
use Rattle.std.proofs.Common.{◌≡◌, ◌≤◌, ◌<◌, Bool, ◌⊎◌, inl, inr, ◌∙◌, ℕ, ◌-◌, List, [], ◌∷◌, ◌++◌, true, false, length, take, drop, Some, None}
use Rattle.std.proofs.Common.{refl, sym, ap, subst, arith, append-nil, append_assoc}
use Rattle.std.specs.Prelude.{Result, Ok, Err}
use Rattle.std.proofs.lemmas.List.{length-append, length-take, take-append-drop, take_at, take_all, drop_all}
use Rattle.std.proofs.lemmas.List.Concat.{flat_map-append}
use Rattle.scsi_disk.specs.Disk.{Disk}
use Rattle.iscsi_stream.specs.Stream.{Message}
use Rattle.iscsi_stream.specs.Canonical.{canon, canonical_bytes}
use Rattle.iscsi_stream.specs.Framing.{Framing, FramerTakes, FramerMoves, FramerFeedFails, is_ready, pdu_given_up, message_of, settled, holding}
use Rattle.iscsi_stream.proofs.ReadyLemmas.{ready_of}
use Rattle.iscsi_stream.specs.declared.fault.StreamFault.TheVariants as stream
use Rattle.iscsi_stream.proofs.TakingLemmas.{moves_none, moves_gave, moves_then, moves_taken}
use Rattle.iscsi_stream.proofs.PassingLemmas.{takes_some}
use Rattle.iscsi_login.specs.declared.phase.Phase.{Phase}
use Rattle.iscsi_target.specs.declared.fault.TargetFault.{TargetFault}
use Rattle.iscsi_target.specs.declared.fault.TargetFault.TheVariants as faults
use Rattle.iscsi_login.specs.declared.phase.Phase.TheVariants as phases
use Rattle.iscsi_target_session.specs.Session.{Session}
use Rattle.iscsi_target.specs.declared.tasks.Task.{Task}
use Rattle.iscsi_target.specs.State.{Machine, TargetStep, unchanged, closed_machine}
use Rattle.iscsi_target.specs.State.{writes_joined}
use Rattle.iscsi_target.specs.Machine.{Next, Dropped, Answered, Queued, full_met, done_first, MayAnswer, MayStop}
use Rattle.iscsi_target.specs.Machine.{ExecutionsRun, is_machine_closed}
use Rattle.iscsi_target.specs.Laws.{joined_stepped}
use Rattle.iscsi_target.specs.Feed.{AsksForMemory, Scene, scene, call_progress, remainder, TargetConnection, Store, AnswersPdus, StopsForMemory, CallLeaves, IsShut, CallEnds, FeedsFirstBytes, FeedsOnePdu, IsLive}
use Rattle.iscsi_target.specs.Advances.{store_of}
use Rattle.iscsi_target.specs.inner.Inside.{Moment, moment, target_connection, GivesUpMessage, TasksRanOut, NextRanOut, MessageRanOut}
use Rattle.iscsi_target.specs.inner.Inside.{TargetShutsReady, TargetRestFails, TakesOnePdu, FeedOneFails}
use Rattle.iscsi_target.proofs.Writes.JoiningLemmas.{ones, SameNext, next_then, next_back, met_same, first_same}
use Rattle.iscsi_target.proofs.Turns.ServingLemmas.{runs_as, runs_rise}
use Rattle.iscsi_target.proofs.Steps.TurnLemmas.{with_tasks}
use Rattle.iscsi_login.specs.Stage.{is_closed_phase}
use Rattle.iscsi_target.proofs.Steps.KeepingLemmas.{queued_phase}
use Rattle.iscsi_target.proofs.Steps.ClosingLemmas.{may_close}
use Rattle.iscsi_target.proofs.Feed.FeedStepLemmas.{FedUpTo, GoesUpTo, fed_none, fed_one}

-- ---- where a call ends

abbrev pub count_of : List ℕ → List ℕ → ℕ
count_of piece rest = length piece - length rest

count_is : (piece front rest : List ℕ) → piece ≡ front ++ rest → length piece - length rest ≡ length front
count_is piece front rest e = omega (arith, ap length e, length-append front rest)

pub front_is : (piece front rest : List ℕ) → piece ≡ front ++ rest → take (length piece - length rest) piece ≡ front
front_is piece front rest e = ap (λ (n : ℕ). take n piece) (count_is piece front rest e) ∙ ap (take (length front)) e ∙ take_at front rest (length front) refl

rest_is : (piece front rest : List ℕ) → piece ≡ front ++ rest → drop (length piece - length rest) piece ≡ rest
rest_is piece front rest e =
    let n : ℕ = length piece - length rest in
    let whole : front ++ drop n piece ≡ front ++ rest = ap (λ (x : List ℕ). x ++ drop n piece) (sym (front_is piece front rest e)) ∙ take-append-drop n piece
    ∙ e in
    cancel front (drop n piece) rest whole
  where
    cancel : (a b c : List ℕ) → a ++ b ≡ a ++ c → b ≡ c
    cancel [] b c e = e
    cancel (x ∷ a) b c e = cancel a b c (ap (drop 1) e)

-- what stands of the PDUs that were answered
pub leaves_to : (protected : Bool) (old : TargetConnection) (before : Store) (output piece rest : List ℕ) (now : TargetConnection) (after : Store)
    (written : List ℕ)
    (result : Result Phase TargetFault) (new : Machine)
    → (f : FedUpTo protected (scene old before output) piece rest (scene now after written))
    → (result ≡ Err faults.NoMemory → IsShut f.stepped.machine new × AsksForMemory now.framing (drop (count_of piece rest) piece))
    → CallLeaves protected result output (remainder now.framing (drop (count_of piece rest) piece) f.stepped f.answered.failures) new after written
leaves_to protected old before output piece rest now after written (Ok phase) new f shut = record
    { failures = f.counted; disk = f.disk; output_is = f.output_is }
leaves_to protected old before output piece rest now after written (Err faults.NoMemory) new f shut = record {
  front = unchanged f.stepped.machine f.stepped.disk;
  stops = inl (refl, (let e = f.counted in omega (arith, e)), (shut refl).1);
  shut = (shut refl).0;
  disk = f.disk;
  output_is = f.output_is ∙ ap (λ (ms : List Message). output ++ canon ms) (sym (append-nil f.stepped.answers));
}
leaves_to protected old before output piece rest now after written (Err (faults.Stream fault)) new f shut =
    record { failures = f.counted; disk = f.disk; output_is = f.output_is }
leaves_to protected old before output piece rest now after written (Err (faults.Protocol rule)) new f shut =
    record { failures = f.counted; disk = f.disk; output_is = f.output_is }
leaves_to protected old before output piece rest now after written (Err faults.Closed) new f shut =
    record { failures = f.counted; disk = f.disk; output_is = f.output_is }

abbrev feeds_to : (protected : Bool) → (old : TargetConnection) (before : Store) (output piece rest : List ℕ) (now : TargetConnection) (after : Store)
    (written : List ℕ)
    (result : Result Phase TargetFault) (new : TargetConnection)
    → (f : FedUpTo protected (scene old before output) piece rest (scene now after written))
    → (result ≡ Err faults.NoMemory → IsShut f.stepped.machine new.machine × AsksForMemory now.framing (drop (count_of piece rest) piece))
    → CallEnds piece result now.framing (count_of piece rest) f.stepped new
    → FeedsFirstBytes protected (scene old before output) piece result (scene new after written)
feeds_to protected old before output piece rest now after written result new f shut ends = record {
  framing = now.framing;
  count = count_of piece rest;
  some = omega arith;
  messages = f.messages;
  stepped = f.stepped;
  answered = subst (λ (x : List ℕ). AnswersPdus protected old before x (call_progress now.framing f.messages f.stepped) after)
      (sym (front_is piece f.front rest f.parts)) f.answered;
  leaves = leaves_to protected old before output piece rest now after written result new.machine f shut;
  ends = ends;
}

shut_as : (a b : Machine) → writes_joined a ≡ writes_joined b → closed_machine a ≡ closed_machine b
shut_as a b e = ap closed_machine e

pub closed_as : (a b : Machine) → writes_joined a ≡ writes_joined b → is_machine_closed a ≡ is_machine_closed b
closed_as a b e = ap is_machine_closed e

live_stepped : (protected : Bool) (old : TargetConnection) (before : Store) (output piece rest : List ℕ) (now : TargetConnection) (after : Store)
    (written : List ℕ) →
    (g : GoesUpTo protected (scene old before output) piece rest (scene now after written)) → IsLive g.fed.stepped
live_stepped protected old before output piece rest now after written g = record {
  rule = g.rule;
  live = sym (closed_as now.machine g.fed.stepped.machine g.fed.machine_is) ∙ g.live;
}

ends_refused : (protected : Bool) (old : TargetConnection) (before : Store) (output piece rest : List ℕ) (now : TargetConnection) (after : Store)
    (written : List ℕ) (fault : TargetFault)
    (new : TargetConnection)
    → GoesUpTo protected (scene old before output) piece rest (scene now after written) → TargetRestFails now.framing rest fault → new.machine
    ≡ closed_machine now.machine →
    FeedsFirstBytes protected (scene old before output) piece (Err fault) (scene new after written)
ends_refused protected old before output piece rest now after written faults.NoMemory new g fails is =
    feeds_to protected old before output piece rest now after written (Err faults.NoMemory) new g.fed (λ _. (
      is ∙ shut_as now.machine g.fed.stepped.machine g.fed.machine_is,
      inl (subst (λ (x : List ℕ). FramerFeedFails now.framing x stream.NoMemory) (sym (rest_is piece g.fed.front rest g.fed.parts)) fails),
    ))
    (live_stepped protected old before output piece rest now after written g)
ends_refused protected old before output piece rest now after written (faults.Stream fault) new g fails is =
    feeds_to protected old before output piece rest now after written (Err (faults.Stream fault)) new g.fed (λ e. absurd cc) (
      live_stepped protected old before output piece rest now after written g,
      fails.0,
      subst (λ (x : List ℕ). FramerFeedFails now.framing x fault) (sym (rest_is piece g.fed.front rest g.fed.parts)) fails.1,
      is ∙ shut_as now.machine g.fed.stepped.machine g.fed.machine_is,
    )
ends_refused protected old before output piece rest now after written (faults.Protocol rule) new g fails is = absurd fails
ends_refused protected old before output piece rest now after written faults.Closed new g fails is = absurd fails

-- memory ran out at a PDU

-- what comes of a PDU is the same with the pieces of each write joined
pub same_next : (a b : Machine) (count : ℕ) (m : Message) → writes_joined a ≡ writes_joined b → SameNext (full_met a count m).next (full_met b count m).next
same_next a b count m e =
    next_then (full_met a count m).next (full_met (writes_joined a) count m).next (full_met b count m).next
    (next_back (full_met (writes_joined a) count m).next (full_met a count m).next (met_same a count m).next)
    (subst (λ (x : Machine). SameNext (full_met x count m).next (full_met b count m).next) (sym e) (met_same b count m).next)

-- the tasks that were queued, and those of the definitions
record Queues (x : Next) (session : Session) (tasks : List Task) : Type 0 where
  to : List Task
  is : x ≡ Queued session to
  same : ones tasks ≡ ones to

queues : (session : Session) (tasks : List Task) (x : Next) → SameNext (Queued session tasks) x → Queues x session tasks
queues session tasks (Queued s ts) h = record { to = ts; is = ap (λ (y : Session). Queued y ts) (sym h.0); same = h.1 }
queues session tasks Dropped h = absurd h
queues session tasks (Answered r) h = absurd h

-- nothing was done, or some tasks of the PDU
record Front (protected : Bool) (r : TargetStep) (m : Message) (before : ℕ) (output : List ℕ) (new : Moment) : Type 0 where
  front : TargetStep
  stops : ((front ≡ unchanged r.machine r.disk) × (before ≤ new.store.failures)) ⊎ MayStop protected r.machine r.disk before m front new.store.failures
  shut : closed_machine new.machine ≡ closed_machine front.machine
  disk : new.store.disk ≡ front.disk
  output_is : new.output ≡ output ++ canon front.answers

gives_front : (protected : Bool) (r : TargetStep) (m : Message) (old new : Machine) (disk now : Disk) (fb fa : ℕ) (before after : List ℕ)
    → writes_joined old ≡ writes_joined r.machine → disk
    ≡ r.disk → GivesUpMessage (moment old (store_of disk fb) before) (moment new (store_of now fa) after)
    → Front protected r m fb before (moment new (store_of now fa) after)
gives_front protected r m old new disk now fb fa before after e d g = record {
  front = unchanged r.machine r.disk;
  stops = inl (refl, g.rises);
  shut = g.machine ∙ shut_as old r.machine e;
  disk = g.disk_is ∙ d;
  output_is = g.unwritten ∙ sym (append-nil before);
}

stops_front : (protected : Bool) (r : TargetStep) (m : Message) (old : Machine) (to : Moment) (from : Store) (before : List ℕ)
    (session : Session) (tasks : List Task) →
    writes_joined old ≡ writes_joined r.machine → from.disk ≡ r.disk
    → old.session.phase ≡ phases.Full → (full_met old from.disk.count m).next ≡ Queued session tasks
    → TasksRanOut protected (moment (with_tasks session tasks) from before) to →
    Front protected r m from.failures before to
stops_front protected r m old to from before session tasks e d full queued h =
    let q : Queues (full_met r.machine r.disk.count m).next session tasks =
    queues session tasks (full_met r.machine r.disk.count m).next
    (subst (λ (x : Next). SameNext x (full_met r.machine r.disk.count m).next) queued
    (subst (λ (x : Disk). SameNext (full_met old from.disk.count m).next (full_met r.machine x.count m).next) d
    (same_next old r.machine from.disk.count m e))) in
    let a : TargetStep = done_first h.done h.device session from.disk tasks in
    let b : TargetStep = done_first h.done h.device session r.disk q.to in
    let same : joined_stepped a ≡ joined_stepped b =
    (first_same h.done h.device session from.disk tasks q.to q.same).is ∙ ap (λ (x : Disk). joined_stepped (done_first h.done h.device session x q.to)) d in
    record {
      front = b;
      stops = inr (record {
        full = ap (λ (x : Machine). x.session.phase) (sym e) ∙ full;
        session = session;
        tasks = q.to;
        queued = q.is;
        done = h.done;
        device = h.device;
        is = refl;
        live = ap (λ (x : TargetStep). is_machine_closed x.machine) (sym same)
            ∙ h.live (ap is_closed_phase (queued_phase old from.disk.count m session tasks queued ∙ full));
        failures = h.failures;
        runs = runs_as protected h.device from.failures h.failures a b same h.runs;
        rises = h.rises;
      });
      shut = h.machine ∙ ap (λ (x : TargetStep). closed_machine x.machine) same;
      disk = h.disk_is ∙ ap (λ (x : TargetStep). x.disk) same;
      output_is = h.output ∙ ap (λ (x : TargetStep). before ++ canon x.answers) same;
    }

-- where memory ran out, the same of a target that is alike
pub stop_as : (protected : Bool) (s t : Machine) (disk now : Disk) (before : ℕ) (m : Message) (r : TargetStep) (after : ℕ) → writes_joined s ≡ writes_joined t
    → disk ≡ now →
    MayStop protected s disk before m r after
    → (q : TargetStep) × MayStop protected t now before m q after × (joined_stepped r ≡ joined_stepped q)
stop_as protected s t disk now before m r after e d h =
    let q : Queues (full_met t now.count m).next h.session h.tasks =
    queues h.session h.tasks (full_met t now.count m).next
    (subst (λ (x : Next). SameNext x (full_met t now.count m).next) h.queued
    (subst (λ (x : Disk). SameNext (full_met s disk.count m).next (full_met t x.count m).next) d (same_next s t disk.count m e))) in
    let a : TargetStep = done_first h.done h.device h.session disk h.tasks in
    let b : TargetStep = done_first h.done h.device h.session now q.to in
    let same : joined_stepped a ≡ joined_stepped b =
    (first_same h.done h.device h.session disk h.tasks q.to q.same).is ∙ ap (λ (x : Disk). joined_stepped (done_first h.done h.device h.session x q.to)) d in (
      b,
      record {
        full = ap (λ (x : Machine). x.session.phase) (sym e) ∙ h.full;
        session = h.session;
        tasks = q.to;
        queued = q.is;
        done = h.done;
        device = h.device;
        is = refl;
        live = ap (λ (x : TargetStep). is_machine_closed x.machine) (sym (ap joined_stepped h.is ∙ same)) ∙ h.live;
        failures = h.failures;
        runs = runs_as protected h.device before h.failures a b same (subst
            (λ (x : TargetStep). ExecutionsRun protected h.device before x.executed h.failures) h.is h.runs);
        rises = h.rises;
      },
      ap joined_stepped h.is ∙ same,
    )

halts_by : (protected : Bool) (r : TargetStep) (m : Message) (old new : Machine) (disk now : Disk) (fb fa : ℕ) (before after : List ℕ) (x : Next)
    → writes_joined old ≡ writes_joined r.machine →
    disk ≡ r.disk
    → old.session.phase ≡ phases.Full → (full_met old disk.count m).next ≡ x
    → NextRanOut protected x (moment old (store_of disk fb) before) (moment new (store_of now fa) after) →
    Front protected r m fb before (moment new (store_of now fa) after)
halts_by protected r m old new disk now fb fa before after (Queued session tasks) e d full is h =
    stops_front protected r m old (moment new (store_of now fa) after) (store_of disk fb) before session tasks e d full is h
halts_by protected r m old new disk now fb fa before after Dropped e d full is h = gives_front protected r m old new disk now fb fa before after e d h
halts_by protected r m old new disk now fb fa before after (Answered q) e d full is h = gives_front protected r m old new disk now fb fa before after e d h

halts_front : (protected : Bool) (r : TargetStep) (m : Message) (old new : Machine) (disk now : Disk) (fb fa : ℕ) (before after : List ℕ)
    → writes_joined old ≡ writes_joined r.machine → disk
    ≡ r.disk → MessageRanOut protected m (moment old (store_of disk fb) before) (moment new (store_of now fa) after)
    → Front protected r m fb before (moment new (store_of now fa) after)
halts_front protected r m old new disk now fb fa before after e d (inl g) = gives_front protected r m old new disk now fb fa before after e d g
halts_front protected r m old new disk now fb fa before after e d (inr h) =
    halts_by protected r m old new disk now fb fa before after (full_met old disk.count m).next e d h.0 refl h.1

-- the rest of the piece begins with the PDU
pub rest_moves : (old now framing : Framing) (rest : List ℕ) (n : ℕ) (m : Message) (next : Framing) → FramerTakes now rest n framing
    → FramerMoves framing next [] (m ∷ []) →
    FramerMoves now next (take n rest) (m ∷ [])
rest_moves old now framing rest n m next t g =
    subst (λ (x : List ℕ). FramerMoves now next x (m ∷ [])) (append-nil (take n rest))
    (moves_then now framing next (take n rest) [] [] (m ∷ []) (moves_taken now now framing [] n rest [] (moves_none now) t) g)

rises_after : (protected : Bool) (front : TargetStep) (r : TargetStep) (m : Message) (before after : ℕ)
    → ((front ≡ unchanged r.machine r.disk) × (before ≤ after))
    ⊎ MayStop protected r.machine r.disk before m front after → before ≤ after
rises_after protected front r m before after (inl h) = h.1
rises_after protected front r m before after (inr h) = let a = h.rises in let b = runs_rise protected h.device before front.executed h.failures h.runs
    in omega (arith, a, b)

ends_shut : (protected : Bool) (from : Scene) (piece rest : List ℕ) (here : Scene)
    (n : ℕ) (framing : Framing)
    (to : Scene)
    → GoesUpTo protected from piece rest here → FramerTakes here.connection.framing rest n framing →
    TargetShutsReady protected (scene (target_connection here.connection.machine framing) here.store here.output) to
    → FeedsFirstBytes protected from piece (Err faults.NoMemory) to
ends_shut protected from piece rest here n framing to g t s =
    let f = g.fed in
    let m : Message = message_of framing s.head s.segment in
    let x : Front protected f.stepped m here.store.failures here.output (moment to.connection.machine to.store to.output) =
    halts_front protected f.stepped m here.connection.machine to.connection.machine here.store.disk to.store.disk here.store.failures to.store.failures
    here.output to.output f.machine_is f.disk s.halts in
    let high : here.store.failures ≤ to.store.failures = rises_after protected x.front f.stepped m here.store.failures to.store.failures x.stops in
    let counted : here.store.failures ≡ f.answered.failures = f.counted in
    let moves : FramerMoves here.connection.framing (pdu_given_up framing s.head) (take n rest) (m ∷ []) =
    rest_moves from.connection.framing here.connection.framing framing rest n m (pdu_given_up framing s.head) t (moves_gave framing s.head s.segment s.means) in
    let next : FramerMoves here.connection.framing (pdu_given_up framing s.head) (take n (drop (count_of piece rest) piece)) (m ∷ []) =
    subst (λ (y : List ℕ). FramerMoves here.connection.framing (pdu_given_up framing s.head) (take n y) (m ∷ [])) (sym (rest_is piece f.front rest f.parts))
    moves in
    let last : AnswersPdus protected from.connection from.store f.front (call_progress here.connection.framing f.messages f.stepped) to.store = record {
      taken = f.answered.taken;
      ready = f.answered.ready;
      failures = f.answered.failures;
      may = f.answered.may;
      works = λ e. (let low = f.rises in f.answered.works (omega (arith, e, low, high)));
      limit = f.answered.limit;
    } in
    record {
      framing = here.connection.framing;
      count = count_of piece rest;
      some = omega arith;
      messages = f.messages;
      stepped = f.stepped;
      answered =
          subst (λ (y : List ℕ). AnswersPdus protected from.connection from.store y (call_progress here.connection.framing f.messages f.stepped) to.store)
          (sym (front_is piece f.front rest f.parts)) last;
      leaves = record {
        front = x.front;
        stops = elim x.stops [
          | inl h ↦ inl (h.0, omega (arith, counted, h.1), inr (m, pdu_given_up framing s.head, n, next))
          | inr h ↦ inr (record {
            message = m;
            next = pdu_given_up framing s.head;
            limit = ap (λ (v : Framing). v.limit) t.gathered;
            count = n;
            taken = next;
            stops = subst (λ (k : ℕ). MayStop protected f.stepped.machine f.stepped.disk k m x.front to.store.failures) counted h;
          })
        ];
        shut = s.closed_ ∙ x.shut;
        disk = x.disk;
        output_is = x.output_is ∙ ap (λ (y : List ℕ). y ++ canon x.front.answers) f.output_is
            ∙ append_assoc from.output (canon f.stepped.answers) (canon x.front.answers)
            ∙ ap (λ (y : List ℕ). from.output ++ y) (sym (flat_map-append canonical_bytes f.stepped.answers x.front.answers));
      };
      ends = live_stepped protected from.connection from.store from.output piece rest here.connection here.store here.output g;
    }

pub ends_broken : (protected : Bool) (old : TargetConnection) (before : Store) (output piece rest : List ℕ) (now : TargetConnection) (after : Store)
    (written : List ℕ) (rule : ℕ)
    → (f : FedUpTo protected (scene old before output) piece rest (scene now after written)) → f.stepped.rule ≡ Some rule → writes_joined now.machine
    ≡ now.machine →
    FeedsFirstBytes protected (scene old before output) piece (Err (faults.Protocol rule)) (scene now after written)
ends_broken protected old before output piece rest now after written rule f broken whole =
    feeds_to protected old before output piece rest now after written (Err (faults.Protocol rule)) now f (λ e. absurd cc) (
      broken,
      sym whole ∙ f.machine_is,
      may_close protected old.machine before.disk before.failures f.messages f.stepped f.answered.failures rule f.answered.may broken,
    )

pub ends_closed : (protected : Bool) (old : TargetConnection) (before : Store) (output piece rest : List ℕ) (now : TargetConnection) (after : Store)
    (written : List ℕ) (phase : Phase)
    → (f : FedUpTo protected (scene old before output) piece rest (scene now after written)) → f.stepped.rule ≡ None → writes_joined now.machine ≡ now.machine
    → phase
    ≡ now.machine.session.phase → is_machine_closed now.machine ≡ true
    → FeedsFirstBytes protected (scene old before output) piece (Ok phase) (scene now after written)
ends_closed protected old before output piece rest now after written phase f rule whole is over =
    feeds_to protected old before output piece rest now after written (Ok phase) now f (λ e. absurd cc) (
      rule,
      sym whole ∙ f.machine_is,
      is ∙ ap (λ (s : Machine). s.session.phase) f.machine_is,
      inl (sym (closed_as now.machine f.stepped.machine f.machine_is) ∙ over),
    )

pub ends_live : (protected : Bool) (old : TargetConnection) (before : Store) (output piece rest : List ℕ) (now : TargetConnection) (after : Store)
    (written : List ℕ) (phase : Phase)
    → GoesUpTo protected (scene old before output) piece rest (scene now after written) → writes_joined now.machine ≡ now.machine → phase
    ≡ now.machine.session.phase
    → length rest ≡ 0 →
    FeedsFirstBytes protected (scene old before output) piece (Ok phase) (scene now after written)
ends_live protected old before output piece rest now after written phase g whole is none =
    let f = g.fed in
    feeds_to protected old before output piece rest now after written (Ok phase) now f (λ e. absurd cc) (
      g.rule,
      sym whole ∙ f.machine_is,
      is ∙ ap (λ (s : Machine). s.session.phase) f.machine_is,
      inr (record { live = (live_stepped protected old before output piece rest now after written g).live; all = omega (arith, none); framing_is = refl }),
    )

-- the failures that were counted don't fall
pub may_rise : (protected : Bool) (s : Machine) (disk : Disk) (before : ℕ) (ms : List Message) (r : TargetStep) (after : ℕ)
    → MayAnswer protected s disk before ms r after → before ≤ after
unfolding MayAnswer
may_rise protected s disk before [] r after e = omega (arith, e.1)
may_rise protected s disk before (m ∷ ms) r after e =
    let a = runs_rise protected e.3.device before e.0.executed e.2 e.3.runs in
    let b = may_rise protected e.0.machine e.0.disk e.2 ms e.1 after e.4 in
    omega (arith, a, b)

pub short_rises : (protected : Bool) (output : List ℕ) (framing : Framing) (rest : List ℕ) (r : TargetStep) (counted : ℕ) (new : Machine)
    (after : Store) (written : List ℕ) →
    StopsForMemory protected output (remainder framing rest r counted) new after written → counted ≤ after.failures
short_rises protected output framing rest r counted new after written h = elim h.stops [
  | inl none ↦ none.1
  | inr at ↦ rises_after protected h.front r at.message counted after.failures (inr at.stops)
]

-- no bytes could be taken, or no PDU answered
pub ends_failed : (protected : Bool) (from : Scene) (piece rest : List ℕ) (here : Scene)
    (fault : TargetFault)
    (to : Scene)
    → GoesUpTo protected from piece rest here
    → FeedOneFails protected here rest fault to →
    FeedsFirstBytes protected from piece (Err fault) to
ends_failed protected from piece rest here fault to g (inl r) =
    subst (λ (s : Store). FeedsFirstBytes protected from piece (Err fault) (scene to.connection s to.output)) (sym r.store_is)
    (subst (λ (x : List ℕ). FeedsFirstBytes protected from piece (Err fault) (scene to.connection here.store x)) (sym r.output_is)
    (ends_refused protected from.connection from.store from.output piece rest here.connection here.store here.output fault to.connection g r.fails r.machine))
ends_failed protected from piece rest here fault to g (inr r) =
    subst (λ (x : TargetFault). FeedsFirstBytes protected from piece (Err x) to) (sym r.memory)
    (ends_shut protected from piece rest here r.count r.framing to g r.takes r.shuts)

-- ---- one PDU

pub front_taken : (v w : Framing) (piece : List ℕ) (n : ℕ) → FramerTakes v piece n w → FramerTakes v (take n piece) n w
front_taken v w piece n t =
    let size : length (take n piece) ≡ n = omega (arith, length-take n piece, t.bound) in
    record {
      live = t.live;
      bound = omega (arith, size);
      gathered = t.gathered ∙ ap (λ (x : List ℕ). holding v (settled (v.held ++ x))) (sym (take_all n (take n piece) (omega (arith, size))));
      begun = t.begun;
      stops = λ lt. absurd (omega (arith, size, lt));
    }

unfoldable pub feeds_one : (protected : Bool) (old : TargetConnection) (before : Store) (output piece : List ℕ) (n : ℕ) (phase : Phase) (new : TargetConnection)
    (after : Store) (written : List ℕ)
    → n ≤ length piece → (0 < length piece → 0 < n)
    → (f : FedUpTo protected (scene old before output) (take n piece) [] (scene new after written))
    → f.stepped.rule ≡ None →
    length f.messages ≤ 1
    → (n < length piece → length f.messages ≡ 1) → writes_joined new.machine ≡ new.machine → phase ≡ new.machine.session.phase → (over : Bool) →
    is_machine_closed new.machine ≡ over →
    FeedsOnePdu protected (scene old before output) piece n phase (scene new after written)
feeds_one protected old before output piece n phase new after written bound some f rule few stops whole is true over = record {
  bound = bound;
  some = some;
  fed = feeds_to protected old before output (take n piece) [] new after written (Ok phase) new f (λ e. absurd cc) (
    rule,
    sym whole ∙ f.machine_is,
    is ∙ ap (λ (s : Machine). s.session.phase) f.machine_is,
    inl (sym (closed_as new.machine f.stepped.machine f.machine_is) ∙ over),
  );
  one = few;
  stops = stops;
}
feeds_one protected old before output piece n phase new after written bound some f rule few stops whole is false live = record {
  bound = bound;
  some = some;
  fed = feeds_to protected old before output (take n piece) [] new after written (Ok phase) new f (λ e. absurd cc) (
    rule,
    sym whole ∙ f.machine_is,
    is ∙ ap (λ (s : Machine). s.session.phase) f.machine_is,
    inr (record { live = sym (closed_as new.machine f.stepped.machine f.machine_is) ∙ live; all = omega arith; framing_is = refl }),
  );
  one = few;
  stops = stops;
}

pub next_fed : (protected : Bool) (old : TargetConnection) (before : Store) (output piece : List ℕ) (n : ℕ) (phase : Phase) (new : TargetConnection)
    (after : Store) (written : List ℕ)
    → is_ready old.framing ≡ false → is_machine_closed old.machine ≡ false
    → TakesOnePdu protected (scene old before output) piece n None (scene new after written)
    → writes_joined new.machine ≡ new.machine → phase ≡ new.machine.session.phase
    → FeedsOnePdu protected (scene old before output) piece n phase (scene new after written)
unfolding fed_none
next_fed protected old before output piece n phase new after written unready live t whole is =
    let front : TakesOnePdu protected (scene old before output) (take n piece) n None (scene new after written) =
    record { framing = t.framing; takes = front_taken old.framing t.framing piece n t.takes; answers = t.answers } in
    let none : [] ≡ drop n (take n piece) = sym (drop_all n (take n piece) (omega (arith, length-take n piece))) in
    let f = fed_one protected (scene old before output) (take n piece) (take n piece) [] (scene old before output) n None (scene new after written)
    (fed_none protected old before output (take n piece) unready live) front none in
    feeds_one protected old before output piece n phase new after written t.takes.bound
    (takes_some old.framing piece n t.framing unready t.takes) f.fed f.rule f.few
    (λ lt. f.full (ready_of t.framing.failed t.framing.held (ap (λ (v : Framing). v.failed) t.takes.gathered ∙ t.takes.live) (t.takes.stops lt))) whole is
    (is_machine_closed new.machine) refl

-- What both ends keep on whole messages holds in every world of a served run, however the bytes are cut.
use Rattle.std.proofs.Common.{◌≡◌, ◌≢◌, inl, inr, ℕ, Bool, true, false, List, [], ◌∷◌, ◌++◌, length, take, drop, Option, Some, None, Result, Ok, Err, refl, sym}
use Rattle.std.proofs.Common.{ap, ◌∙◌, subst, append_assoc}
use Rattle.std.specs.Result.{result_err}
use Rattle.std.proofs.lemmas.Bool.{or_parts}
use Rattle.std.proofs.lemmas.List.{append-nil}
use Rattle.scsi_disk.specs.Disk.{Disk, disk_of}
use Rattle.iscsi_stream.specs.declared.fault.StreamFault.{StreamFault}
use Rattle.iscsi_stream.specs.declared.fault.StreamFault.TheVariants as stream
use Rattle.iscsi_stream.specs.declared.logins.Logins.{Logins}
use Rattle.iscsi_stream.specs.Segment.{no_login}
use Rattle.iscsi_stream.specs.Stream.{Message, ReadsAs, logins_after_all}
use Rattle.iscsi_stream.specs.Canonical.{canon}
use Rattle.iscsi_stream.specs.Framing.{Framing, HasTaken, FramerFeedFails, is_ready}
use Rattle.iscsi_stream.proofs.TakingLemmas.{at_opening}
use Rattle.iscsi_stream.proofs.ReadyLemmas.{apart, not_whole-nil}
use Rattle.iscsi_login.specs.declared.phase.Phase.{Phase}
use Rattle.iscsi_target_session.specs.Session as target_session
use Rattle.iscsi_target.specs.State as target
use Rattle.iscsi_target.specs.Machine as target_machine
use Rattle.iscsi_target.specs.Machine.{answers}
use Rattle.iscsi_target.specs.Feed as target_calls
use Rattle.iscsi_initiator.specs.declared.fault.InitiatorFault.{InitiatorFault}
use Rattle.iscsi_initiator.specs.declared.fault.InitiatorFault.TheVariants as faults
use Rattle.iscsi_initiator.specs.declared.request.Done.{Done}
use Rattle.iscsi_initiator.specs.declared.request.Request.{Request}
use Rattle.iscsi_initiator.specs.declared.request.Request.TheVariants as requests
use Rattle.iscsi_initiator.specs.declared.request.Refused.{Refused}
use Rattle.iscsi_initiator.specs.declared.request.SubmitFault.{SubmitFault}
use Rattle.iscsi_initiator.specs.declared.request.SubmitFault.TheVariants as refusals
use Rattle.iscsi_initiator.specs.State as initiator
use Rattle.iscsi_initiator.specs.State.{is_session_closed}
use Rattle.iscsi_initiator.specs.Steps as initiator_steps
use Rattle.iscsi_initiator.specs.Login.{start_step}
use Rattle.iscsi_initiator.specs.Machine.{steps, outcome_handed_out}
use Rattle.iscsi_initiator.specs.Submitted.{submitted, accepted, or_accepted, submit_refusal}
use Rattle.iscsi_initiator.specs.Laws.{listed}
use Rattle.iscsi_initiator.specs.Calls as calls
use Rattle.iscsi_initiator.specs.Calls.{received_steps}
use Rattle.iscsi_pair.specs.declared.step.EndFault.{EndFault}
use Rattle.iscsi_pair.specs.declared.step.EndFault.TheVariants as ends
use Rattle.iscsi_pair.specs.World.{World, Opening, PairEvent, ToTarget, ToInitiator, Submits, Takes, InitiatorReceives, MovesToInitiator, RequestHandedIn, PairEventStep, new_pair}
use Rattle.iscsi_pair.specs.World.{feed_fault, submit_fault, target_ran_out, initiator_ran_out, keeps_no_memory}
use Rattle.iscsi_pair.specs.Served.{IsServed, IsAccepted, RunsServed, requests_of, requests_in, pair_outcome_in}
use Rattle.iscsi_pair.proofs.Login.NoFailure.{both_none}
use Rattle.iscsi_pair.proofs.Ends.InitiatorEnds.{begun, begun_open}
use Rattle.iscsi_pair.proofs.Request.Invariant.{SoFar, limits, AreWritten, History, Relation, Sends, IsKept, between, so_far, limits_of}
use Rattle.iscsi_pair.proofs.Run.QueueReading.{written_reads, refuses_nothing, Unread, Way, MovesOn, moves_on, still_unread, none_more, way_sends, way_none}
use Rattle.iscsi_pair.proofs.Run.CarriedBytes.{open_none, Talks, talk_on, ReceivesOn, Improves, initiator_received, initiator_received_first}
use Rattle.iscsi_pair.proofs.Run.CarriedBytes.{over_none, Stands, Keeps, talks_of, no_bytes, front_moves}
use Rattle.iscsi_pair.proofs.Run.CarriedBytes.{some_moves, to_target}

-- ---- bytes reach the initiator

-- what a call of the initiator read, and how the rest stands
record InitiatorTurn {c : Opening} {P : Relation} {h : History} {old : World} (Q : Relation) (s : Stands c P h old) (v : Framing) (unreceived more : List ℕ)
    (r : initiator_steps.InitiatorStep) : Type 0 where
  fault : r.fault ≡ None
  left : List Message
  talks : Talks (calls.initiator_limit c.initiator) Q (between r.machine s.session s.disk left) (s.out ++ r.output)
      (so_far (logins_after_all s.there r.output) s.here h)
  unread : is_ready v ≡ false → Unread (calls.initiator_limit c.initiator) v (unreceived ++ more) left s.here
  none : is_session_closed r.machine ≡ true → (left ≡ []) × (unreceived ++ more ≡ [])
  refuses : (f : StreamFault) → f ≢ stream.NoMemory → FramerFeedFails v unreceived f → ⊥
  to_target : Way (target_machine.is_machine_closed s.session) (target_session.target_limit c.target) old.target.framing (old.to_target ++ canon r.output)
      (s.out ++ r.output)
      (logins_after_all s.there r.output)

-- what the target's side has on its way where more is sent
target_way : (c : Opening) (P Q : Relation) (h : History) (old : World) (s : Stands c P h old) (most : ℕ) (i : initiator.InitiatorSession)
    (more back : List Message)
    (so : SoFar)
    → Talks most Q (between i s.session s.disk back) (s.out ++ more) so → AreWritten (target_session.target_limit c.target) s.there more
    → Way (target_machine.is_machine_closed s.session) (target_session.target_limit c.target) old.target.framing (old.to_target ++ canon more) (s.out ++ more)
    (logins_after_all s.there more)
target_way c P Q h old s most i more back so talks written =
    way_sends (target_machine.is_machine_closed s.session) (target_session.target_limit c.target) old.target.framing old.to_target s.out s.there more
    s.to_target written
    (λ over. (both_none s.out more (open_none s.session s.disk (s.out ++ more) talks.received.open_ over)).1)

-- these messages, and others behind them, are received so
abbrev Receives : (c : Opening) (P Q : Relation) (h : History) (old : World) → Stands c P h old → List Message → Type 0
Receives c P Q h old s ms = (left : List Message)
    → Talks (calls.initiator_limit c.initiator) P (between old.initiator.machine s.session s.disk (ms ++ left)) s.out (so_far s.there s.here h)
    → ReceivesOn (limits_of c) Q (between old.initiator.machine s.session s.disk left) (steps old.initiator.machine ms) s.out (so_far s.there s.here h)

-- a call of the initiator is such a turn
initiator_turn : (c : Opening) (P Q : Relation) (h : History) (old : World) (k : ℕ) (moved : List ℕ) → Keeps c Q → (s : Stands c P h old)
    → Unread (calls.initiator_limit c.initiator) old.initiator.framing old.to_initiator s.back s.here → moved ≡ take k old.to_initiator
    → (f : calls.ReceivedPdus old.initiator moved) → Receives c P Q h old s f.messages
    → InitiatorTurn Q s f.framing (drop f.count moved) (drop (length moved) old.to_initiator) (received_steps old.initiator moved f)
initiator_turn c P Q h old k moved kept s u m f receives =
    let r : initiator_steps.InitiatorStep = steps old.initiator.machine f.messages in
    let piece : List ℕ = take f.count moved in
    let more : List ℕ = drop f.count moved ++ drop (length moved) old.to_initiator in
    let q : old.to_initiator ≡ piece ++ more = front_moves k f.count old.to_initiator moved m in
    let t : HasTaken (u.stream ++ piece) (u.received ++ f.messages) f.framing = f.moves u.stream u.received u.taken in
    let bound : f.framing.limit ≡ calls.initiator_limit c.initiator = f.limit ∙ u.limit_is in
    let on : MovesOn (calls.initiator_limit c.initiator) u.received s.back f.messages t.rest more =
    moves_on (calls.initiator_limit c.initiator) old.initiator.framing old.to_initiator s.back s.here piece more f.messages f.framing u q t bound in
    let talks : Talks (calls.initiator_limit c.initiator) P (between old.initiator.machine s.session s.disk (f.messages ++ on.left)) s.out
    (so_far s.there s.here h) =
    subst (λ (x : List Message). Talks (calls.initiator_limit c.initiator) P (between old.initiator.machine s.session s.disk x) s.out (so_far s.there s.here h))
    on.whole
    (talks_of c P h old s) in
    let has : ReceivesOn (limits_of c) Q (between old.initiator.machine s.session s.disk on.left) r s.out (so_far s.there s.here h) =
    receives on.left talks in
    record {
      fault = has.fault;
      left = on.left;
      talks = has.talks;
      unread = λ ready. still_unread (calls.initiator_limit c.initiator) old.initiator.framing old.to_initiator s.back s.here piece more f.messages on.left
          f.framing u q
          t bound ready on.whole;
      none = λ over.
          let left = over_none (target_session.target_limit c.target) (calls.initiator_limit c.initiator) Q kept r.machine s.session s.disk (s.out ++ r.output)
          on.left
          (logins_after_all s.there r.output) s.here h has.talks over in
          (left, none_more (calls.initiator_limit c.initiator) u.received s.back f.messages t.rest more on left);
      refuses = λ fault some fails. refuses_nothing fault f.framing (u.stream ++ piece) (u.received ++ f.messages) (drop f.count moved) (t.rest ++ more)
          (drop (length moved) old.to_initiator)
          (logins_after_all no_login (u.received ++ f.messages)) on.left t some fails refl
          (subst (λ (n : ℕ). ReadsAs n (logins_after_all no_login (u.received ++ f.messages)) (t.rest ++ more) on.left) (sym bound) on.reads);
      to_target = target_way c P Q h old s (calls.initiator_limit c.initiator) r.machine r.output on.left
          (so_far (logins_after_all s.there r.output) s.here h) has.talks
          has.written;
    }

-- what a step of the initiator changes of a world
record Changes (old new : World) (machine : initiator.InitiatorSession) (output : List Message) : Type 0 where
  target_well : new.target_fault ≡ None
  initiator_well : new.initiator_fault ≡ None
  target : new.target ≡ old.target
  blocks : new.blocks ≡ old.blocks
  initiator : new.initiator.machine ≡ machine
  queue : new.to_target ≡ old.to_target ++ canon output

-- the initiator is where a step has led that sent more
initiator_stands : (c : Opening) (P Q : Relation) (h g : History) (old new : World) (s : Stands c P h old) (i : initiator.InitiatorSession)
    (output left : List Message)
    → Changes old new i output
    → Talks (calls.initiator_limit c.initiator) Q (between i s.session s.disk left) (s.out ++ output) (so_far (logins_after_all s.there output) s.here g)
    → Way (target_machine.is_machine_closed s.session) (target_session.target_limit c.target) old.target.framing (old.to_target ++ canon output)
    (s.out ++ output)
    (logins_after_all s.there output)
    → Way (is_session_closed new.initiator.machine) (calls.initiator_limit c.initiator) new.initiator.framing new.to_initiator left s.here → Stands c Q g new
initiator_stands c P Q h g old new s i output left e talks there back = record {
  target_well = e.target_well;
  initiator_well = e.initiator_well;
  session = s.session;
  disk = s.disk;
  out = s.out ++ output;
  back = left;
  there = logins_after_all s.there output;
  here = s.here;
  machine = ap (λ (x : target_calls.TargetConnection). x.machine) e.target ∙ s.machine;
  disk_is = ap disk_of e.blocks ∙ s.disk_is;
  to_target = subst (λ (x : target_calls.TargetConnection). Way (target_machine.is_machine_closed s.session) (target_session.target_limit c.target) x.framing
      new.to_target
      (s.out ++ output) (logins_after_all s.there output)) (sym e.target)
      (subst (λ (x : List ℕ). Way (target_machine.is_machine_closed s.session) (target_session.target_limit c.target) old.target.framing x (s.out ++ output)
      (logins_after_all s.there output)) (sym e.queue) there);
  to_initiator = back;
  received = talks.received;
  kept = subst (λ (x : initiator.InitiatorSession). Q (between x (answers false s.session s.disk (s.out ++ output)).machine
      (answers false s.session s.disk (s.out ++ output)).disk
      (left ++ (answers false s.session s.disk (s.out ++ output)).answers))
      (so_far (logins_after_all s.there output) (logins_after_all s.here (answers false s.session s.disk (s.out ++ output)).answers) g)) (sym e.initiator)
      talks.kept;
}

-- a turn that goes on
goes_on : (c : Opening) (P Q : Relation) (h : History) (old new : World) (moved : List ℕ) (phase : Phase) → (s : Stands c P h old)
    → (f : calls.ReceivedPdus old.initiator moved)
    → InitiatorTurn Q s f.framing (drop f.count moved) (drop (length moved) old.to_initiator) (received_steps old.initiator moved f)
    → calls.ReceivesWholePiece f new.initiator old.to_target new.to_target phase → new.target_fault ≡ None → new.initiator_fault ≡ None
    → new.target ≡ old.target → new.blocks ≡ old.blocks
    → new.to_initiator ≡ drop (length moved) old.to_initiator → Stands c Q h new
goes_on c P Q h old new moved phase s f t e there well target_ blocks dropped =
    let r : initiator_steps.InitiatorStep = received_steps old.initiator moved f in
    initiator_stands c P Q h h old new s r.machine r.output t.left
    (record {
      target_well = there;
      initiator_well = well;
      target = target_;
      blocks = blocks;
      initiator = ap (λ (x : calls.InitiatorConnection). x.machine) e.connection;
      queue = e.output;
    }) t.talks t.to_target
    (inl (
      ap (λ (x : calls.InitiatorConnection). is_session_closed x.machine) e.connection ∙ e.live,
      subst (λ (x : calls.InitiatorConnection). Unread (calls.initiator_limit c.initiator) x.framing new.to_initiator t.left s.here) (sym e.connection)
          (subst (λ (x : List ℕ). Unread (calls.initiator_limit c.initiator) f.framing x t.left s.here)
          (no_bytes f.count moved (drop (length moved) old.to_initiator)
          e.all ∙ sym dropped) (t.unread e.unready)),
    ))

-- a turn that closes the session
closes : (c : Opening) (P Q : Relation) (h : History) (old new : World) (moved : List ℕ) (fault : Option InitiatorFault) → (s : Stands c P h old)
    → (f : calls.ReceivedPdus old.initiator moved)
    → InitiatorTurn Q s f.framing (drop f.count moved) (drop (length moved) old.to_initiator) (received_steps old.initiator moved f)
    → calls.PieceClosesSession f new.initiator old.to_target new.to_target fault → new.target_fault ≡ None → new.initiator_fault ≡ None
    → new.target ≡ old.target → new.blocks ≡ old.blocks
    → new.to_initiator ≡ drop (length moved) old.to_initiator → Stands c Q h new
closes c P Q h old new moved fault s f t e there well target_ blocks dropped =
    let r : initiator_steps.InitiatorStep = received_steps old.initiator moved f in
    let none = t.none e.closes in
    initiator_stands c P Q h h old new s r.machine r.output t.left
    (record { target_well = there; initiator_well = well; target = target_; blocks = blocks; initiator = e.machine; queue = e.output }) t.talks t.to_target
    (inr (ap is_session_closed e.machine ∙ e.closes, dropped ∙ (both_none (drop f.count moved) (drop (length moved) old.to_initiator) none.1).1, none.0))

-- no message of a turn leads to a fault
not_caused : (c : Opening) (P : Relation) (h : History) (old : World) (moved : List ℕ) (fault : InitiatorFault) (new : calls.InitiatorConnection)
    (after : List ℕ)
    → (s : Stands c P h old) → (f : calls.ReceivedPdus old.initiator moved)
    → InitiatorTurn P s f.framing (drop f.count moved) (drop (length moved) old.to_initiator) (received_steps old.initiator moved f)
    → calls.PieceClosesSession f new old.to_target after (Some fault) → ⊥
not_caused c P h old moved fault new after s f t e = (let bad : None ≡ Some fault = sym t.fault ∙ e.cause in absurd cc)

-- what the calls of an initiator read
abbrev Turns : (c : Opening) (P : Relation) (h : History) (old : World) → Stands c P h old → List ℕ → Type 0
Turns c P h old s moved = (f : calls.ReceivedPdus old.initiator moved)
    → InitiatorTurn P s f.framing (drop f.count moved) (drop (length moved) old.to_initiator) (received_steps old.initiator moved f)

-- the framer refuses nothing
stream_fails : (fault : StreamFault) (c : Opening) (P : Relation) (h : History) (old : World) (moved : List ℕ) (new : calls.InitiatorConnection)
    (after : List ℕ)
    → (s : Stands c P h old) → Turns c P h old s moved
    → calls.InitiatorFeedPost (Err (faults.Stream fault)) old.initiator moved new old.to_target after → ⊥
stream_fails stream.NoMemory c P h old moved new after s t e = e
stream_fails (stream.Head f place) c P h old moved new after s t e = (t e.0).refuses (stream.Head f place) (λ bad. cc bad) e.1.refused
stream_fails (stream.OverLimit place) c P h old moved new after s t e = (t e.0).refuses (stream.OverLimit place) (λ bad. cc bad) e.1.refused
stream_fails (stream.Truncated place) c P h old moved new after s t e = (t e.0).refuses (stream.Truncated place) (λ bad. cc bad) e.1.refused
stream_fails stream.Failed c P h old moved new after s t e = (t e.0).refuses stream.Failed (λ bad. cc bad) e.1.refused

-- however the call ends
initiator_ends : (result : Result Phase InitiatorFault) (c : Opening) (P : Relation) (h : History) (old new : World) (moved : List ℕ) → (s : Stands c P h old)
    → Turns c P h old s moved → is_session_closed old.initiator.machine ≡ false
    → calls.InitiatorFeedPost result old.initiator moved new.initiator old.to_target new.to_target → new.initiator_fault ≡ feed_fault (result_err result)
    → initiator_ran_out new.initiator_fault ≡ false
    → new.target_fault ≡ None → new.target ≡ old.target → new.blocks ≡ old.blocks → new.to_initiator ≡ drop (length moved) old.to_initiator → Stands c P h new
initiator_ends (Ok phase) c P h old new moved s t live e fault memory there target_ blocks dropped =
    elim e.1.1 [
      | inl all ↦ goes_on c P P h old new moved phase s e.1.0 (t e.1.0) all there fault target_ blocks dropped
      | inr over ↦ closes c P P h old new moved None s e.1.0 (t e.1.0) over.0 there fault target_ blocks dropped
    ]
initiator_ends (Err faults.NoMemory) c P h old new moved s t live e fault memory there target_ blocks dropped =
    absurd (apart (ap initiator_ran_out fault) memory)
initiator_ends (Err (faults.Stream f)) c P h old new moved s t live e fault memory there target_ blocks dropped =
    absurd (stream_fails f c P h old moved new.initiator new.to_target s t e)
initiator_ends (Err (faults.Protocol rule)) c P h old new moved s t live e fault memory there target_ blocks dropped =
    absurd (not_caused c P h old moved (faults.Protocol rule) new.initiator new.to_target s e.0 (t e.0) e.1)
initiator_ends (Err (faults.Refused class detail)) c P h old new moved s t live e fault memory there target_ blocks dropped =
    absurd (not_caused c P h old moved (faults.Refused class detail) new.initiator new.to_target s e.0 (t e.0) e.1)
initiator_ends (Err (faults.BadAnswer key)) c P h old new moved s t live e fault memory there target_ blocks dropped =
    absurd (not_caused c P h old moved (faults.BadAnswer key) new.initiator new.to_target s e.0 (t e.0) e.1)
initiator_ends (Err faults.Closed) c P h old new moved s t live e fault memory there target_ blocks dropped = absurd (apart e.closed live)

-- bytes reached the initiator
initiator_receives : (c : Opening) (P : Relation) (h : History) (old new : World) (k : ℕ) (byte : ℕ) (bytes : List ℕ) → Keeps c P → Stands c P h old
    → byte ∷ bytes ≡ take k old.to_initiator
    → InitiatorReceives (byte ∷ bytes) old new → initiator_ran_out new.initiator_fault ≡ false → Stands c P h new
initiator_receives c P h old new k byte bytes kept s m e memory =
    elim s.to_initiator [
      | inl on ↦
          initiator_ends e.result c P h old new (byte ∷ bytes) s (λ f. initiator_turn c P P h old k (byte ∷ bytes) kept s on.1 m f
          (λ left talks. initiator_received (target_session.target_limit c.target) (calls.initiator_limit c.initiator) P kept old.initiator.machine s.session
          s.disk s.out
          f.messages left s.there s.here h talks)) on.0 e.fed e.fault memory
          (e.other_fault ∙ s.target_well) e.target e.blocks e.dropped
      | inr over ↦ absurd (let none : byte ∷ bytes ≡ [] = some_moves k old.to_initiator (byte ∷ bytes) m over.1 in cc)
    ]

-- ---- all bytes reach the initiator, and a message waited

-- the first of them is received as the one relation says, the others as the other one does
receives_first : (ms : List Message) (c : Opening) (P Q : Relation) (h : History) (old : World) → Keeps c Q → Improves (limits_of c) P Q
    → (s : Stands c P h old) → (ms ≡ [] → ⊥) → Receives c P Q h old s ms
receives_first [] c P Q h old kept better s some = λ left talks. absurd (some refl)
receives_first (m ∷ ms) c P Q h old kept better s some = λ left talks.
    initiator_received_first (limits (target_session.target_limit c.target) (calls.initiator_limit c.initiator)) P Q kept better old.initiator.machine
    s.session s.disk s.out m ms left (so_far s.there s.here h) talks

-- where no message was received nothing changed
none_steps : (i : initiator.InitiatorSession) (ms : List Message) → ms ≡ [] → (steps i ms).machine ≡ i
unfolding steps
none_steps i [] e = refl
none_steps i (m ∷ ms) e = absurd (cc e)

-- where all bytes moved and none is left in the framer, no message waits but those that were received
none_waits_more : (c : Opening) (P : Relation) (h : History) (old : World) (k : ℕ) (moved : List ℕ) → (s : Stands c P h old)
    → Unread (calls.initiator_limit c.initiator) old.initiator.framing old.to_initiator s.back s.here → moved ≡ take k old.to_initiator
    → drop (length moved) old.to_initiator ≡ [] → (f : calls.ReceivedPdus old.initiator moved) → f.count ≡ length moved → is_ready f.framing ≡ false
    → f.messages ≡ [] → s.back ≡ []
none_waits_more c P h old k moved s u m none f all ready nil =
    let piece : List ℕ = take f.count moved in
    let more : List ℕ = drop f.count moved ++ drop (length moved) old.to_initiator in
    let q : old.to_initiator ≡ piece ++ more = front_moves k f.count old.to_initiator moved m in
    let t : HasTaken (u.stream ++ piece) (u.received ++ f.messages) f.framing = f.moves u.stream u.received u.taken in
    let bound : f.framing.limit ≡ calls.initiator_limit c.initiator = f.limit ∙ u.limit_is in
    let on : MovesOn (calls.initiator_limit c.initiator) u.received s.back f.messages t.rest more =
    moves_on (calls.initiator_limit c.initiator) old.initiator.framing old.to_initiator s.back s.here piece more f.messages f.framing u q t bound in
    let unread : Unread (calls.initiator_limit c.initiator) f.framing more on.left s.here =
    still_unread (calls.initiator_limit c.initiator) old.initiator.framing old.to_initiator s.back s.here piece more f.messages on.left f.framing u q t
    bound ready on.whole in
    let left : on.left ≡ [] = way_none false (calls.initiator_limit c.initiator) f.framing more on.left s.here (inl (refl, unread))
    (no_bytes f.count moved (drop (length moved) old.to_initiator) all ∙ none) in
    on.whole ∙ ap (λ (x : List Message). x ++ on.left) nil ∙ left

some_ends : (result : Result Phase InitiatorFault) (c : Opening) (P Q : Relation) (h : History) (old new : World) (k : ℕ) (moved : List ℕ) → Keeps c Q
    → Improves (limits_of c) P Q → (s : Stands c P h old)
    → Unread (calls.initiator_limit c.initiator) old.initiator.framing old.to_initiator s.back s.here → moved ≡ take k old.to_initiator
    → drop (length moved) old.to_initiator ≡ [] → (s.back ≡ [] → ⊥)
    → calls.InitiatorFeedPost result old.initiator moved new.initiator old.to_target new.to_target → new.initiator_fault ≡ feed_fault (result_err result)
    → new.initiator_fault ≡ None → new.target_fault ≡ None → new.target ≡ old.target → new.blocks ≡ old.blocks
    → new.to_initiator ≡ drop (length moved) old.to_initiator → is_session_closed old.initiator.machine ≡ false → Stands c Q h new
some_ends (Err fault_) c P Q h old new k moved kept better s u m none waits e fault well there target_ blocks dropped live =
    absurd (let bad : None ≡ Some (ends.Feed fault_) = sym well ∙ fault in cc)
some_ends (Ok phase) c P Q h old new k moved kept better s u m none waits e fault well there target_ blocks dropped live =
    elim e.1.1 [
      | inl all ↦ goes_on c P Q h old new moved phase s e.1.0
          (initiator_turn c P Q h old k moved kept s u m e.1.0 (receives_first e.1.0.messages c P Q h old kept better s
          (λ nil. waits (none_waits_more c P h old k moved s u m none e.1.0 all.all all.unready nil))))
          all there well target_ blocks dropped
      | inr over ↦ closes c P Q h old new moved None s e.1.0
          (initiator_turn c P Q h old k moved kept s u m e.1.0 (receives_first e.1.0.messages c P Q h old kept better s
          (λ nil. apart (ap is_session_closed (sym (none_steps old.initiator.machine e.1.0.messages nil)) ∙ over.0.closes) live)))
          over.0 there well target_ blocks dropped
    ]

-- so one was received at least
pub receives_some : (c : Opening) (P Q : Relation) (h : History) (old new : World) (k : ℕ) (moved : List ℕ) → Keeps c Q → Improves (limits_of c) P Q
    → (s : Stands c P h old) → moved ≡ take k old.to_initiator → drop (length moved) old.to_initiator ≡ [] → (s.back ≡ [] → ⊥)
    → InitiatorReceives moved old new → new.initiator_fault ≡ None → Stands c Q h new
receives_some c P Q h old new k moved kept better s m none waits e well =
    elim s.to_initiator [
      | inl on ↦ some_ends e.result c P Q h old new k moved kept better s on.1 m none waits e.fed e.fault well (e.other_fault ∙ s.target_well) e.target e.blocks
          e.dropped on.0
      | inr over ↦ absurd (waits over.2)
    ]

-- bytes moved to the initiator
to_initiator : (fault : Option EndFault) (moved : List ℕ) (c : Opening) (P : Relation) (h : History) (old new : World) (k : ℕ) → Keeps c P → Stands c P h old
    → fault ≡ None → moved ≡ take k old.to_initiator
    → MovesToInitiator fault moved old new → initiator_ran_out new.initiator_fault ≡ false → Stands c P h new
to_initiator fault [] c P h old new k kept s none m e memory = subst (Stands c P h) (sym e) s
to_initiator None (byte ∷ bytes) c P h old new k kept s none m e memory = initiator_receives c P h old new k byte bytes kept s m e memory
to_initiator (Some fault) (byte ∷ bytes) c P h old new k kept s none m e memory = absurd (cc none)

-- ---- requests and outcomes

-- a request that is accepted closes no session
accepted_open : (m : initiator.InitiatorSession) (request : Request) → is_session_closed (accepted m request).machine ≡ is_session_closed m
accepted_open m (requests.In lun cdb expected) = refl
accepted_open m (requests.Out lun cdb bytes) = refl
accepted_open m (requests.Ping bytes) = refl
accepted_open m (requests.Text bytes) = refl
accepted_open m requests.Logout = refl

-- nor does one that is refused
or_accepted_open : (r : Option SubmitFault) (m : initiator.InitiatorSession) (request : Request) → is_session_closed (or_accepted r m request).machine
    ≡ is_session_closed m
or_accepted_open None m request = accepted_open m request
or_accepted_open (Some fault) m request = refl

-- a request closes no session
submitted_open : (m : initiator.InitiatorSession) (request : Request) → is_session_closed (submitted m request).machine ≡ is_session_closed m
unfolding submitted
submitted_open m request = or_accepted_open (submit_refusal m request) m request

-- the history behind a request
abbrev requested : History → Request → History
requested h request = record h { requests = h.requests ++ request ∷ [] }

-- a request was accepted
accepts : (c : Opening) (P : Relation) (h : History) (old new : World) (request : Request) → Keeps c P → (s : Stands c P h old) → IsServed request
    → calls.SubmitAccepted old.initiator request new.initiator old.to_target new.to_target → new.target_fault ≡ None → new.initiator_fault ≡ None
    → new.target ≡ old.target → new.blocks ≡ old.blocks
    → new.to_initiator ≡ old.to_initiator → Stands c P (requested h request) new
accepts c P h old new request kept s served e there well target_ blocks queue =
    let i : initiator.InitiatorSession = old.initiator.machine in
    let out : List Message = (submitted i request).output in
    let a : target.TargetStep = answers false s.session s.disk s.out in
    let sends : Sends (limits_of c) P (between (submitted i request).machine a.machine a.disk (s.back ++ a.answers)) out
    (so_far s.there (logins_after_all s.here a.answers) (requested h request)) =
    kept.asks i a.machine a.disk (s.back ++ a.answers) s.there (logins_after_all s.here a.answers) h request s.kept served e.none in
    let talks : Talks (calls.initiator_limit c.initiator) P (between (submitted i request).machine s.session s.disk s.back) (s.out ++ out)
    (so_far (logins_after_all s.there out) s.here (requested h request)) =
    talk_on (target_session.target_limit c.target) (calls.initiator_limit c.initiator) P (submitted i request).machine s.session s.disk s.out out s.back s.there
    s.here
    (requested h request) s.received sends in
    initiator_stands c P P h (requested h request) old new s (submitted i request).machine out s.back
    (record {
      target_well = there;
      initiator_well = well;
      target = target_;
      blocks = blocks;
      initiator = ap (λ (x : calls.InitiatorConnection). x.machine) e.connection;
      queue = e.output;
    }) talks
    (target_way c P P h old s (calls.initiator_limit c.initiator) (submitted i request).machine out s.back
    (so_far (logins_after_all s.there out) s.here (requested h request)) talks
    sends.written)
    (subst (λ (x : calls.InitiatorConnection). Way (is_session_closed x.machine) (calls.initiator_limit c.initiator) x.framing new.to_initiator s.back s.here)
    (sym e.connection)
    (subst (λ (x : List ℕ). Way (is_session_closed (submitted i request).machine) (calls.initiator_limit c.initiator) old.initiator.framing x s.back s.here)
    (sym queue)
    (subst (λ (b : Bool). Way b (calls.initiator_limit c.initiator) old.initiator.framing old.to_initiator s.back s.here) (sym (submitted_open i request))
    s.to_initiator)))

-- a request that the machine accepts is refused when out of memory alone
not_refused : (fault : SubmitFault) (e : Option EndFault) (r : Option SubmitFault) → e ≡ Some (ends.Submit fault) → initiator_ran_out e ≡ false
    → r ≡ calls.refused_for fault → r ≡ None → ⊥
not_refused refusals.NoMemory e r is memory cause none = apart (ap initiator_ran_out is) memory
not_refused refusals.Closed e r is memory cause none = (let bad : Some refusals.Closed ≡ None = sym cause ∙ none in absurd cc)
not_refused refusals.NotReady e r is memory cause none = (let bad : Some refusals.NotReady ≡ None = sym cause ∙ none in absurd cc)
not_refused refusals.Busy e r is memory cause none = (let bad : Some refusals.Busy ≡ None = sym cause ∙ none in absurd cc)
not_refused refusals.Shut e r is memory cause none = (let bad : Some refusals.Shut ≡ None = sym cause ∙ none in absurd cc)
not_refused refusals.TooLong e r is memory cause none = (let bad : Some refusals.TooLong ≡ None = sym cause ∙ none in absurd cc)

-- however the call of submit ends
asked_of : (result : Result (Unit {0}) Refused) (c : Opening) (P : Relation) (h : History) (old new : World) (request : Request) → Keeps c P
    → (s : Stands c P h old) → IsServed request
    → (submitted old.initiator.machine request).refusal ≡ None → calls.InitiatorSubmitPost result old.initiator request new.initiator old.to_target
    new.to_target
    → new.initiator_fault ≡ submit_fault (result_err result)
    → initiator_ran_out new.initiator_fault ≡ false → new.target_fault ≡ None → new.target ≡ old.target → new.blocks ≡ old.blocks
    → new.to_initiator ≡ old.to_initiator → Stands c P (requested h request) new
asked_of (Ok d) c P h old new request kept s served none e fault memory there target_ blocks queue =
    accepts c P h old new request kept s served e there fault target_ blocks queue
asked_of (Err refused) c P h old new request kept s served none e fault memory there target_ blocks queue =
    absurd (not_refused refused.fault new.initiator_fault (submitted old.initiator.machine request).refusal fault memory e.cause none)

-- a request was handed in
asks : (fault : Option EndFault) (request : Request) (c : Opening) (P : Relation) (h : History) (old new : World) → Keeps c P → (s : Stands c P h old)
    → fault ≡ None → IsServed request
    → (submitted old.initiator.machine request).refusal ≡ None → RequestHandedIn fault request old new → initiator_ran_out new.initiator_fault ≡ false
    → Stands c P (requested h request) new
asks None request c P h old new kept s well served none e memory =
    asked_of e.result c P h old new request kept s served none e.submitted e.fault memory (e.other_fault ∙ s.target_well) e.target e.blocks e.queue
asks (Some fault) request c P h old new kept s well served none e memory = absurd (cc well)

-- the history behind an outcome
abbrev given_out : History → Option Done → History
given_out h d = record h { outcomes = h.outcomes ++ listed d }

-- the relation holds once the outcome is taken, if there is one
takes_one : (d : Option Done) (c : Opening) (P : Relation) → Keeps c P
    → (i : initiator.InitiatorSession) (t : target.Machine) (disk : Disk) (back : List Message) (there here : Logins) (h : History)
    → i.done ≡ d → P (between i t disk back) (so_far there here h) → P (between (outcome_handed_out i) t disk back) (so_far there here (given_out h d))
takes_one None c P k i t disk back there here h is p =
    subst (λ (m : initiator.InitiatorSession). P (between m t disk back) (so_far there here (given_out h None)))
    (ap (λ (d : Option Done). record i { done = d }) is)
    (subst (λ (o : List Done). P (between i t disk back) (so_far there here (record h { outcomes = o }))) (sym (append-nil h.outcomes)) p)
takes_one (Some d) c P k i t disk back there here h is p = k.takes i t disk back there here h d p is

-- the outcome is taken
takes : (c : Opening) (P : Relation) (h : History) (old : World) → Keeps c P → (s : Stands c P h old)
    → Stands c P (given_out h old.initiator.machine.done) (record old { initiator = calls.after_taking old.initiator })
takes c P h old k s =
    let a : target.TargetStep = answers false s.session s.disk s.out in
    record {
      target_well = s.target_well;
      initiator_well = s.initiator_well;
      session = s.session;
      disk = s.disk;
      out = s.out;
      back = s.back;
      there = s.there;
      here = s.here;
      machine = s.machine;
      disk_is = s.disk_is;
      to_target = s.to_target;
      to_initiator = s.to_initiator;
      received = s.received;
      kept = takes_one old.initiator.machine.done c P k old.initiator.machine a.machine a.disk (s.back ++ a.answers) s.there (logins_after_all s.here a.answers)
          h refl
          s.kept;
    }

-- ---- runs

-- the history behind a run
abbrev pub later_history : History → List Request → List Done → History
later_history h requests outcomes = record { requests = h.requests ++ requests; outcomes = h.outcomes ++ outcomes }

-- the same history, told otherwise
same_history : (c : Opening) (P : Relation) (h : History) (w : World) (requests : List Request) (outcomes : List Done) → h.requests ≡ requests
    → h.outcomes ≡ outcomes → Stands c P h w
    → Stands c P (record { requests = requests; outcomes = outcomes }) w
same_history c P h w requests outcomes p q s =
    subst (λ (x : List Request). Stands c P (record { requests = x; outcomes = outcomes }) w) p
    (subst (λ (x : List Done). Stands c P (record { requests = h.requests; outcomes = x }) w) q s)

-- nothing was asked or taken
nothing_later : (c : Opening) (P : Relation) (h : History) (w : World) → Stands c P h w → Stands c P (later_history h [] []) w
nothing_later c P h w s = same_history c P h w (h.requests ++ []) (h.outcomes ++ []) (sym (append-nil h.requests)) (sym (append-nil h.outcomes)) s

-- one event
pub happens : (c : Opening) (P : Relation) (h : History) (old : World) (event : PairEvent) (new : World) → Keeps c P → Stands c P h old
    → PairEventStep old event new
    → IsAccepted event old → keeps_no_memory new ≡ false
    → Stands c P (later_history h (requests_in event) (pair_outcome_in event old)) new
happens c P h old (ToTarget n) new k s e accepted_ memory =
    nothing_later c P h new (to_target old.target_fault (take n old.to_target) c P h old new n k s s.target_well refl e
    (or_parts (target_ran_out new.target_fault) (initiator_ran_out new.initiator_fault) memory).0)
happens c P h old (ToInitiator n) new k s e accepted_ memory =
    nothing_later c P h new
    (to_initiator old.initiator_fault (take n old.to_initiator) c P h old new n k s s.initiator_well refl e
    (or_parts (target_ran_out new.target_fault) (initiator_ran_out new.initiator_fault) memory).1)
happens c P h old (Submits request) new k s e accepted_ memory =
    same_history c P (requested h request) new (h.requests ++ request ∷ []) (h.outcomes ++ []) refl (sym (append-nil h.outcomes))
    (asks old.initiator_fault request c P h old new k s s.initiator_well accepted_.0 accepted_.1 e
    (or_parts (target_ran_out new.target_fault) (initiator_ran_out new.initiator_fault) memory).1)
happens c P h old Takes new k s e accepted_ memory =
    same_history c P (given_out h old.initiator.machine.done) new (h.requests ++ []) (h.outcomes ++ listed old.initiator.machine.done)
    (sym (append-nil h.requests)) refl
    (subst (Stands c P (given_out h old.initiator.machine.done)) (sym e) (takes c P h old k s))

-- and any number of them
pub more : (c : Opening) (P : Relation) (h : History) (old : World) (events : List PairEvent) (new : World) (later : List Done)
    → IsKept (limits_of c) P → Stands c P h old
    → RunsServed old events new later → Stands c P (record { requests = h.requests ++ requests_of events; outcomes = h.outcomes ++ later }) new
unfolding RunsServed
more c P h old [] new later k s r =
    same_history c P h new (h.requests ++ []) (h.outcomes ++ later) (sym (append-nil h.requests)) (sym (append-nil h.outcomes)
    ∙ ap (λ (x : List Done). h.outcomes ++ x) (sym r.1)) (subst (Stands c P h) (sym r.0) s)
more c P h old (event ∷ events) new later k s r =
    let g : History = later_history h (requests_in event) (pair_outcome_in event old) in
    same_history c P (later_history g (requests_of events) r.1) new (h.requests ++ (requests_in event ++ requests_of events)) (h.outcomes ++ later)
    (append_assoc h.requests (requests_in event) (requests_of events))
    (append_assoc h.outcomes (pair_outcome_in event old) r.1 ∙ ap (λ (x : List Done). h.outcomes ++ x) (sym r.5))
    (more c P g r.0 events new r.1 k (happens c P h old event r.0 k s r.2 r.3 r.4) r.6)

-- a new pair stands so
opening_stands : (c : Opening) (P : Relation) → Sends (limits_of c) P (between (begun c) (target.opening_machine c.target c.first_stat_sn) (disk_of c.blocks)
    [])
    (start_step (initiator.new_session c.initiator)).output (so_far no_login no_login (record { requests = []; outcomes = [] }))
    → Stands c P (record { requests = []; outcomes = [] }) (new_pair c)
unfolding ReadsAs
opening_stands c P s =
    let out : List Message = (start_step (initiator.new_session c.initiator)).output in
    record {
      target_well = refl;
      initiator_well = refl;
      session = target.opening_machine c.target c.first_stat_sn;
      disk = disk_of c.blocks;
      out = out;
      back = [];
      there = logins_after_all no_login out;
      here = no_login;
      machine = refl;
      disk_is = refl;
      to_target = inl (
        refl,
        record {
          stream = [];
          received = [];
          taken = at_opening (target_session.target_limit c.target);
          limit_is = refl;
          unready = not_whole-nil;
          reads = written_reads (target_session.target_limit c.target) no_login out s.written;
          logins_is = refl;
        },
      );
      to_initiator = inl (
        begun_open c,
        record {
          stream = [];
          received = [];
          taken = at_opening (calls.initiator_limit c.initiator);
          limit_is = refl;
          unready = not_whole-nil;
          reads = refl;
          logins_is =
              refl;
        },
      );
      received = s.received;
      kept = s.kept;
    }

-- where the relation is kept, and holds once the first text is sent, it holds in every world of a served run
pub carried : (c : Opening) (P : Relation) → IsKept (limits_of c) P
    → Sends (limits_of c) P (between (begun c) (target.opening_machine c.target c.first_stat_sn) (disk_of c.blocks) [])
    (start_step (initiator.new_session c.initiator)).output (so_far no_login no_login (record { requests = []; outcomes = [] }))
    → (events : List PairEvent) (w : World) (outcomes : List Done) → RunsServed (new_pair c) events w outcomes
    → Stands c P (record { requests = requests_of events; outcomes = outcomes }) w
carried c P k s events w outcomes r = more c P (record { requests = []; outcomes = [] }) (new_pair c) events w outcomes k (opening_stands c P s) r

-- where nothing is queued nothing waits, in parts or whole
pub none_waits : (c : Opening) (P : Relation) (h : History) (w : World) (s : Stands c P h w) → w.to_target ≡ [] → w.to_initiator ≡ []
    → (s.out ≡ []) × (s.back ≡ [])
none_waits c P h w s p q = (
  way_none (target_machine.is_machine_closed s.session) (target_session.target_limit c.target) w.target.framing w.to_target s.out s.there s.to_target p,
  way_none (is_session_closed w.initiator.machine) (calls.initiator_limit c.initiator) w.initiator.framing w.to_initiator s.back s.here s.to_initiator q,
)

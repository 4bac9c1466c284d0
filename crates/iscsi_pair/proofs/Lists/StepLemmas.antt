-- Events between two ends of which neither has a begun PDU: where each leads.
use Rattle.std.proofs.Common.{◌≡◌, ◌<◌, ◌≤◌, ◌⊎◌, inl, inr, ℕ, ◌+◌, min, max, Bool, true, false, List, [], ◌∷◌, ◌++◌, length, take, drop, None, Ok, refl, sym}
use Rattle.std.proofs.Common.{ap, ◌∙◌, subst, append_assoc, arith}
use Rattle.std.proofs.Math.Seq.{drop-append_seam, drop-length}
use Rattle.std.proofs.lemmas.List.{append-nil, drop_at, length-append, nil_from_length, take_all, take_at}
use Rattle.scsi_disk.specs.Disk.{Disk, disk_of}
use Rattle.iscsi_stream.specs.declared.logins.Logins.{Logins}
use Rattle.iscsi_stream.specs.Segment.{no_login, logins_after}
use Rattle.iscsi_stream.specs.Stream.{Message, ReadsAs, logins_after_all, pdu_len}
use Rattle.iscsi_stream.specs.Canonical.{canon, canonical_bytes}
use Rattle.iscsi_stream.specs.Framing.{Framing, FramerMoves, begun_len, is_ready, last_place, length_at, longest_of, settled}
use Rattle.iscsi_stream.proofs.HeadLemmas.{means-length}
use Rattle.iscsi_stream.proofs.GatheringLemmas.{begun_len-short}
use Rattle.iscsi_stream.proofs.SettledBytesLemmas.{settled-short, length-settled}
use Rattle.iscsi_stream.proofs.ReadyLemmas.{not_whole-nil}
use Rattle.iscsi_stream.proofs.WritingLemmas.{canon_append}
use Rattle.iscsi_login.specs.declared.phase.Phase.{Phase}
use Rattle.iscsi_login.specs.declared.phase.Phase.TheVariants as phases
use Rattle.iscsi_login.specs.Stage.{is_closed_phase}
use Rattle.iscsi_target_session.specs.Session as target_session
use Rattle.iscsi_target.specs.State as target
use Rattle.iscsi_target.specs.State.{Execution, writes_joined}
use Rattle.iscsi_target.specs.Execution.{reliable}
use Rattle.iscsi_target.specs.Laws.{joined_stepped}
use Rattle.iscsi_target.specs.Machine as target_machine
use Rattle.iscsi_target.specs.Machine.{MayAnswer, ExecutionsRun, answers}
use Rattle.iscsi_target.specs.Feed as target_calls
use Rattle.iscsi_target.proofs.Writes.JoiningLemmas.{answers_joined}
use Rattle.iscsi_initiator.specs.declared.request.Request.{Request}
use Rattle.iscsi_initiator.specs.State as initiator
use Rattle.iscsi_initiator.specs.State.{is_session_closed}
use Rattle.iscsi_initiator.specs.Machine.{initiator_step, steps}
use Rattle.iscsi_initiator.specs.Submitted.{submitted}
use Rattle.iscsi_initiator.specs.Calls as calls
use Rattle.iscsi_initiator.specs.Calls.{received_steps}
use Rattle.iscsi_initiator.specs.declared.request.Done.{Done}
use Rattle.iscsi_pair.specs.World.{World, Opening, PairEvent, ToTarget, ToInitiator, Submits, TargetReceives, InitiatorReceives, MovesToTarget, MovesToInitiator}
use Rattle.iscsi_pair.specs.World.{PairEventStep, keeps_no_memory, reliable_store}
use Rattle.iscsi_pair.specs.Served.{IsAccepted, RunsServed, requests_of, requests_in, pair_outcome_in}
use Rattle.iscsi_pair.proofs.Request.Invariant.{AreWritten, IsWritten}
use Rattle.iscsi_pair.proofs.Run.QueueReading.{after_all_append, reads_joined, written_reads}
use Rattle.iscsi_stream.proofs.TakingLemmas.{length_at-front}

-- ---- framers that hold nothing

-- where a framer with no begun PDU is: its place, and the room of its buffer
pub record Spot : Type 0 where
  pub place : ℕ
  pub room : ℕ

-- the beginning of a stream
abbrev pub first_spot : Spot
first_spot = record { place = 0; room = 0 }

-- a framer with no begun PDU
abbrev pub clean : ℕ → Spot → Logins → Framing
clean limit at logins =
    record { limit = limit; place = at.place; logins = logins; held = []; room = at.room; failed = false }

-- where it is behind these messages
abbrev pub spot_after : Spot → List Message → Spot
spot_after at ms = record {
  place = min (at.place + length (canon ms)) last_place;
  room = max at.room (longest_of ms (canon ms));
}

place_sum : (place given bytes last : ℕ) → place ≡ min given last → min (place + bytes) last ≡ min (given + bytes) last
place_sum place given bytes last e = omega (arith, e)

-- the longest segment of PDUs and of those behind them
longest_more : (limit : ℕ) (logins : Logins) (given : List ℕ) (ms : List Message) (bytes : List ℕ) (more : List Message)
    → ReadsAs limit logins given ms
    → longest_of (ms ++ more) (given ++ bytes) ≡ max (longest_of ms given) (longest_of more bytes)
unfolding ReadsAs longest_of
longest_more limit logins given [] bytes more reads =
    let same : longest_of more (given ++ bytes) ≡ longest_of more bytes = ap (λ (x : List ℕ). longest_of more (x ++ bytes)) reads in
    omega (arith, same)
longest_more limit logins given (k ∷ ms) bytes more reads =
    let b = reads.0 in
    let pdu = b.bytes in
    let long : 48 ≤ length pdu = omega (arith, b.means.size) in
    let n : length_at pdu ≡ length b.segment = sym (means-length pdu k.head b.segment b.means) in
    let size : pdu_len (length_at pdu) ≡ length pdu = ap pdu_len n ∙ sym b.means.size in
    let first : length_at given ≡ length_at pdu = ap length_at b.whole ∙ length_at-front pdu b.rest long in
    let whole : given ++ bytes ≡ pdu ++ (b.rest ++ bytes) = ap (λ (x : List ℕ). x ++ bytes) b.whole ∙ append_assoc pdu b.rest bytes in
    let first' : length_at (given ++ bytes) ≡ length_at pdu = ap length_at whole ∙ length_at-front pdu (b.rest ++ bytes) long in
    let behind : drop (pdu_len (length_at given)) given ≡ b.rest =
    ap (λ (j : ℕ). drop (pdu_len j) given) first ∙ ap (λ (j : ℕ). drop j given) size
    ∙ ap (drop (length pdu)) b.whole ∙ drop_at pdu b.rest (length pdu) refl in
    let behind' : drop (pdu_len (length_at (given ++ bytes))) (given ++ bytes) ≡ b.rest ++ bytes =
    ap (λ (j : ℕ). drop (pdu_len j) (given ++ bytes)) first' ∙ ap (λ (j : ℕ). drop j (given ++ bytes)) size
    ∙ ap (drop (length pdu)) whole ∙ drop_at pdu (b.rest ++ bytes) (length pdu) refl in
    let later = longest_more limit (logins_after logins k.head) b.rest ms bytes more reads.1 in
    omega (arith, first, first', ap (longest_of ms) behind, ap (longest_of (ms ++ more)) behind', later)

none_rests : (rest : List ℕ) → [] ≡ settled rest → rest ≡ []
none_rests rest e = nil_from_length rest (sym (ap length e ∙ length-settled rest))

-- it takes whole PDUs, and holds nothing then
clean_moves : (limit : ℕ) (at : Spot) (logins : Logins) (ms : List Message) → ReadsAs limit logins (canon ms) ms
    → FramerMoves (clean limit at logins) (clean limit (spot_after at ms) (logins_after_all logins ms)) (canon ms) ms
clean_moves limit at logins ms r = λ stream received t.
    let bytes : List ℕ = canon ms in
    let none : t.rest ≡ [] = none_rests t.rest t.held in
    let all : stream ≡ t.given = t.whole ∙ ap (λ (x : List ℕ). t.given ++ x) none ∙ append-nil t.given in
    let nothing : begun_len [] ≡ 0 = begun_len-short [] (omega arith) in
    record {
      given = t.given ++ bytes;
      rest = [];
      whole = ap (λ (x : List ℕ). x ++ bytes) all ∙ sym (append-nil (t.given ++ bytes));
      reads = reads_joined limit no_login t.given received bytes ms t.reads (subst (λ (l : Logins). ReadsAs limit l bytes ms) t.logins r);
      place = place_sum at.place (length t.given) (length bytes) last_place t.place ∙ ap (λ (n : ℕ). min n last_place) (sym (length-append t.given bytes));
      logins = ap (λ (l : Logins). logins_after_all l ms) t.logins ∙ sym (after_all_append no_login received ms);
      held = sym (settled-short [] (omega arith));
      room = omega (arith, t.room, ap begun_len none, nothing, longest_more limit no_login t.given received bytes ms t.reads);
      begun = λ long. absurd (omega (arith, long));
      live = refl;
    }

-- ---- worlds

-- a world in which no end has failed and none has a begun PDU
abbrev pub level : Opening → initiator.InitiatorSession → target.Machine → List ℕ → Spot → Spot → Logins → Logins → List ℕ → List ℕ → World
level c i t blocks place place_back there here out back = record {
  target = record { machine = writes_joined t; framing = clean (target_session.target_limit c.target) place there };
  blocks = blocks;
  initiator = record { machine = i; framing = clean (calls.initiator_limit c.initiator) place_back here };
  to_target = out;
  to_initiator = back;
  target_fault = None;
  initiator_fault = None;
}

-- a message has a header
pub long_message : (most : ℕ) (logins : Logins) (m : Message) → IsWritten most logins m → 0 < length (canonical_bytes m)
long_message most logins m w = (let size = w.readable.means.size in omega (arith, size))

long_messages : (most : ℕ) (logins : Logins) (m : Message) (ms : List Message) → IsWritten most logins m → 0 < length (canon (m ∷ ms))
long_messages most logins m ms w =
    let one = long_message most logins m w in
    let all = length-append (canonical_bytes m) (canon ms) in
    omega (arith, one, all)

-- ---- messages reach the target

-- a store that never fails counts no failure
reliable_runs : (es : List Execution) → ExecutionsRun false (reliable false) 0 es 0
reliable_runs [] = refl
reliable_runs (e ∷ es) = (0, record { rises = omega arith; works = λ same. refl; fails = λ lt. absurd (omega (arith, lt)) }, reliable_runs es)

reliable_answers : (s : target.Machine) (disk : Disk) (ms : List Message) → MayAnswer false s disk 0 ms (answers false s disk ms) 0
unfolding MayAnswer answers
reliable_answers s disk [] = (refl, refl)
reliable_answers s disk (m ∷ ms) =
    let first : target.TargetStep = target_machine.target_step false s disk m in (
      first,
      answers false first.machine first.disk ms,
      0,
      record { device = reliable false; is = refl; runs = reliable_runs first.executed },
      reliable_answers first.machine first.disk ms,
      refl,
    )

pub moves_there : (moved : List ℕ) (old new : World) → 0 < length moved → TargetReceives moved old new → MovesToTarget None moved old new
moves_there [] old new some h = absurd (omega (arith, some))
moves_there (byte ∷ bytes) old new some h = h

ends_by : (shut : Bool) (bytes : List ℕ) (v : Framing) (r : target.TargetStep) (new : target_calls.TargetConnection)
    → target_machine.is_machine_closed r.machine ≡ shut → new.framing ≡ v
    → (target_machine.is_machine_closed r.machine ≡ true) ⊎ target_calls.SessionGoesOn bytes v (length bytes) r new
ends_by true bytes v r new is same = inl is
ends_by false bytes v r new is same = inr (record { live = is; all = refl; framing_is = same })

-- all that is queued for it comes at once
pub target_receives : (c : Opening) (i : initiator.InitiatorSession) (t : target.Machine) (blocks : List ℕ) (place place_back : Spot) (there here : Logins)
    (m : Message) (ms : List Message) (back after_blocks : List ℕ)
    → target_machine.is_machine_closed t ≡ false → AreWritten (target_session.target_limit c.target) there (m ∷ ms)
    → (answers false t (disk_of blocks) (m ∷ ms)).rule ≡ None
    → disk_of after_blocks ≡ (answers false t (disk_of blocks) (m ∷ ms)).disk
    → PairEventStep (level c i t blocks place place_back there here (canon (m ∷ ms)) back) (ToTarget (length (canon (m ∷ ms))))
    (level c i (answers false t (disk_of blocks) (m ∷ ms)).machine after_blocks (spot_after place (m ∷ ms)) place_back (logins_after_all there (m ∷ ms)) here []
    (back ++ canon (answers false t (disk_of blocks) (m ∷ ms)).answers))
target_receives c i t blocks place place_back there here m ms back after_blocks open_ written rule disk =
    let limit : ℕ = target_session.target_limit c.target in
    let out : List Message = m ∷ ms in
    let bytes : List ℕ = canon out in
    let a : target.TargetStep = answers false t (disk_of blocks) out in
    let r : target.TargetStep = answers false (writes_joined t) (disk_of blocks) out in
    let same : joined_stepped r ≡ joined_stepped a = answers_joined false t (disk_of blocks) out in
    let old : World = level c i t blocks place place_back there here bytes back in
    let new : World = level c i a.machine after_blocks (spot_after place out) place_back (logins_after_all there out) here [] (back ++ canon a.answers) in
    let all : take (length bytes) bytes ≡ bytes = take_all (length bytes) bytes (omega arith) in
    let v : Framing = clean limit (spot_after place out) (logins_after_all there out) in
    let feeds : target_calls.FeedsFirstBytes false (target_calls.scene old.target (reliable_store blocks) back) bytes (Ok r.machine.session.phase)
    (target_calls.scene new.target (reliable_store after_blocks) (back ++ canon a.answers)) = record {
      framing = v;
      count = length bytes;
      some = omega arith;
      messages = out;
      stepped = r;
      answered = record {
        taken = subst (λ (x : List ℕ). FramerMoves (clean limit place there) v x out) (sym all)
            (clean_moves limit place there out (written_reads limit there out written));
        limit = refl;
        ready = not_whole-nil;
        failures = 0;
        may = reliable_answers (writes_joined t) (disk_of blocks) out;
        works = λ well. refl;
      };
      leaves = record {
        failures = refl;
        disk = disk ∙ sym (ap (λ (x : target.TargetStep). x.disk) same);
        output_is =
            ap (λ (x : target.TargetStep). back ++ canon x.answers) (sym same);
      };
      ends = (
        ap (λ (x : target.TargetStep). x.rule) same ∙ rule,
        sym (ap (λ (x : target.TargetStep). x.machine) same),
        refl,
        ends_by (target_machine.is_machine_closed r.machine) bytes v r new.target refl refl,
      );
    } in
    let receives : TargetReceives bytes old new = record {
      result = Ok r.machine.session.phase;
      fed = subst
          (λ (b : Bool). target_calls.FeedPostIfClosed false b (target_calls.scene old.target (reliable_store blocks) back) bytes (Ok r.machine.session.phase)
          (target_calls.scene new.target (reliable_store after_blocks) (back ++ canon a.answers))) (sym open_) feeds;
      dropped = sym (drop-length bytes);
      initiator = refl;
      fault = refl;
      other_fault = refl;
    } in
    subst (λ (x : List ℕ). MovesToTarget None x old new) (sym all) (moves_there bytes old new (long_messages limit there m ms written.0) receives)

-- ---- a message reaches the initiator

-- one message is one step
record OneStep (i : initiator.InitiatorSession) (m : Message) : Type 0 where
  machine : (steps i (m ∷ [])).machine ≡ (initiator_step i m).machine
  output : (steps i (m ∷ [])).output ≡ (initiator_step i m).output
  fault : (steps i (m ∷ [])).fault ≡ None

one_step : (b : Bool) (i : initiator.InitiatorSession) (m : Message) → is_session_closed (initiator_step i m).machine ≡ b → (initiator_step i m).fault ≡ None
    → OneStep i m
unfolding steps
one_step true i m is well = record { machine = rw is refl; output = rw is refl; fault = rw is well }
one_step false i m is well = record { machine = rw is refl; output = rw is (append-nil (initiator_step i m).output); fault = rw is refl }

closed_is : (phase : Phase) → is_closed_phase phase ≡ true → phase ≡ phases.Closed
closed_is phases.Closed e = refl
closed_is phases.Login e = absurd cc
closed_is phases.Full e = absurd cc

pub moves_here : (moved : List ℕ) (old new : World) → 0 < length moved → InitiatorReceives moved old new → MovesToInitiator None moved old new
moves_here [] old new some h = absurd (omega (arith, some))
moves_here (byte ∷ bytes) old new some h = h

-- the call ends with the message, whether that closes the session or not
initiator_ends : (shut : Bool) (old new : calls.InitiatorConnection) (bytes : List ℕ) (h : calls.ReceivedPdus old bytes) (before written : List ℕ)
    → is_session_closed (received_steps old bytes h).machine ≡ shut
    → h.count ≡ length bytes → is_ready h.framing ≡ false → new.machine ≡ (received_steps old bytes h).machine → new.framing ≡ h.framing
    → written ≡ before ++ canon (received_steps old bytes h).output
    → (received_steps old bytes h).fault ≡ None
    → calls.ReceivesWholePiece h new before written (received_steps old bytes h).machine.phase
    ⊎ (calls.PieceClosesSession h new before written None × ((received_steps old bytes h).machine.phase ≡ phases.Closed))
initiator_ends true old new bytes h before written is count ready machine framing output fault =
    inr (record { closes = is; machine = machine; output = output; cause = fault }, closed_is (received_steps old bytes h).machine.phase is)
initiator_ends false old new bytes h before written is count ready machine framing output fault =
    inl (record {
      all = count;
      live = is;
      unready = ready;
      connection = λ j. record { machine = machine j; framing = framing j };
      output =
          output;
      answered = refl;
    })

-- the next of those that are queued for it
pub initiator_receives : (c : Opening) (i : initiator.InitiatorSession) (t : target.Machine) (blocks : List ℕ) (place place_back : Spot) (there here : Logins)
    (out : List ℕ) (m : Message) (more : List Message)
    → is_session_closed i ≡ false → (initiator_step i m).fault ≡ None → IsWritten (calls.initiator_limit c.initiator) here m
    → PairEventStep (level c i t blocks place place_back there here out (canon (m ∷ more))) (ToInitiator (length (canon (m ∷ []))))
    (level c (initiator_step i m).machine t blocks place (spot_after place_back (m ∷ [])) there (logins_after here m.head)
    (out ++ canon (initiator_step i m).output)
    (canon more))
initiator_receives c i t blocks place place_back there here out m more live well written =
    let limit : ℕ = calls.initiator_limit c.initiator in
    let bytes : List ℕ = canon (m ∷ []) in
    let old : World = level c i t blocks place place_back there here out (canon (m ∷ more)) in
    let new : World = level c (initiator_step i m).machine t blocks place (spot_after place_back (m ∷ [])) there (logins_after here m.head)
    (out ++ canon (initiator_step i m).output)
    (canon more) in
    let both : canon (m ∷ more) ≡ bytes ++ canon more = canon_append (m ∷ []) more in
    let first : take (length bytes) (canon (m ∷ more)) ≡ bytes = ap (take (length bytes)) both ∙ take_at bytes (canon more) (length bytes) refl in
    let one : OneStep i m = one_step (is_session_closed (initiator_step i m).machine) i m refl well in
    let v : Framing = clean limit (spot_after place_back (m ∷ [])) (logins_after here m.head) in
    let h : calls.ReceivedPdus old.initiator bytes = record {
      count = length bytes;
      some = omega arith;
      messages = m ∷ [];
      framing = v;
      moves = subst (λ (x : List ℕ). FramerMoves (clean limit place_back here) v x (m ∷ [])) (sym (take_all (length bytes) bytes (omega arith)))
          (clean_moves limit place_back here (m ∷ []) (written_reads limit here (m ∷ []) (written, tt)));
      limit = refl;
    } in
    let output : out ++ canon (initiator_step i m).output ≡ out ++ canon (steps i (m ∷ [])).output =
    ap (λ (x : List Message). out ++ canon x) (sym one.output) in
    let receives : InitiatorReceives bytes old new = record {
      result = Ok (steps i (m ∷ [])).machine.phase;
      fed = (
        live,
        (
          h,
          initiator_ends (is_session_closed (steps i (m ∷ [])).machine) old.initiator new.initiator bytes h out new.to_target refl refl not_whole-nil
              (sym one.machine) refl output one.fault,
        ),
      );
      dropped = sym (ap (drop (length bytes)) both ∙ drop-append_seam bytes (canon more));
      target = refl;
      blocks = refl;
      fault = refl;
      other_fault = refl;
    } in
    subst (λ (x : List ℕ). MovesToInitiator None x old new) (sym first) (moves_here bytes old new (long_messages limit here m [] written) receives)

-- ---- a request is handed in

pub initiator_asked : (c : Opening) (i : initiator.InitiatorSession) (t : target.Machine) (blocks : List ℕ) (place place_back : Spot) (there here : Logins)
    (out back : List ℕ) (request : Request)
    → (submitted i request).refusal ≡ None
    → PairEventStep (level c i t blocks place place_back there here out back) (Submits request)
    (level c (submitted i request).machine t blocks place place_back there here (out ++ canon (submitted i request).output) back)
initiator_asked c i t blocks place place_back there here out back request e = record {
  result = Ok tt;
  submitted = record { none = e; connection = refl; output = refl };
  target = refl;
  blocks = refl;
  queue = refl;
  fault = refl;
  other_fault = refl;
}

-- ---- one event more

pub requests_append : (a b : List PairEvent) → requests_of (a ++ b) ≡ requests_of a ++ requests_of b
requests_append [] b = refl
requests_append (event ∷ a) b = ap (λ (x : List Request). requests_in event ++ x) (requests_append a b)
    ∙ sym (append_assoc (requests_in event) (requests_of a) (requests_of b))

pub served_more : (old : World) (events : List PairEvent) (mid : World) (outcomes : List Done) (event : PairEvent) (new : World)
    → RunsServed old events mid outcomes → PairEventStep mid event new → IsAccepted event mid
    → keeps_no_memory new ≡ false → RunsServed old (events ++ event ∷ []) new (outcomes ++ pair_outcome_in event mid)
unfolding RunsServed
served_more old [] mid outcomes event new r e ok well = (
  new,
  [],
  subst (λ (x : World). PairEventStep x event new) r.0 e,
  subst (IsAccepted event) r.0 ok,
  well,
  ap (λ (x : List Done). x ++ pair_outcome_in event mid) r.1 ∙ ap (pair_outcome_in event) r.0 ∙ sym (append-nil (pair_outcome_in event old)),
  (refl, refl),
)
served_more old (first ∷ events) mid outcomes event new r e ok well = (
  r.0,
  r.1 ++ pair_outcome_in event mid,
  r.2,
  r.3,
  r.4,
  ap (λ (x : List Done). x ++ pair_outcome_in event mid) r.5 ∙ append_assoc (pair_outcome_in first old) r.1 (pair_outcome_in event mid),
  served_more r.0 events mid r.1 event new r.6 e ok well,
)

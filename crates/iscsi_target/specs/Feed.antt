-- What the calls of a target do: a stream that comes in pieces (RFC 7143, section 11). One file, since each
-- call is told by the ones before it.
--
-- `protected` says of the store that it refuses each write.
use Rattle.std.specs.Prelude.{◌≡◌, ◌≢◌, ◌≤◌, ◌<◌, ◌⊎◌, ℕ, Bool, true, false, List, [], ◌∷◌, ◌++◌, length, take, drop, Some, None, Result, Ok, Err}
use Rattle.std.specs.List.{flat_map}
use Rattle.scsi_disk.specs.Disk.{Disk}
use Rattle.iscsi_pdu.specs.declared.head.Head.{Head}
use Rattle.iscsi_pdu.specs.declared.head.HeadFault.{HeadFault}
use Rattle.iscsi_pdu.specs.Meaning.{IsHeader, head_fault}
use Rattle.iscsi_stream.specs.declared.fault.StreamFault.TheVariants as stream
use Rattle.iscsi_stream.specs.Stream.{Message}
use Rattle.iscsi_stream.specs.Canonical.{canon}
use Rattle.iscsi_stream.specs.Framing as framing
use Rattle.iscsi_stream.specs.Framing.{Framing, FramerMoves, FramerFeedFails, FinishFails, HasTaken, is_ready}
use Rattle.iscsi_login.specs.declared.phase.Phase.{Phase}
use Rattle.iscsi_target.specs.declared.fault.TargetFault.{TargetFault}
use Rattle.iscsi_target.specs.declared.fault.TargetFault.TheVariants as faults
use Rattle.iscsi_target_session.specs.Configured.{TargetSettings}
use Rattle.iscsi_target_session.specs.Session.{target_limit}
use Rattle.iscsi_target.specs.State.{Machine, TargetStep, closed_machine, opening_machine, unchanged}
use Rattle.iscsi_target.specs.State.{writes_joined}
use Rattle.iscsi_target.specs.Machine.{is_machine_closed, answers, MayAnswer, MayStop}

-- A target between two calls: its session, and what it has of the next PDU.
pub record TargetConnection : Type 0 where
  pub machine : Machine
  pub framing : Framing

-- A target to which nothing came.
abbrev pub opening_target : TargetSettings → ℕ → TargetConnection
opening_target settings first_stat_sn = record {
  machine = opening_machine settings first_stat_sn;
  framing = framing.opening_framing (target_limit settings);
}

-- A store: its blocks, and how often its device failed.
pub record Store : Type 0 where
  pub disk : Disk
  pub failures : ℕ

-- A target at work: its parts, its store, and what was written so far.
pub record Scene : Type 0 where
  pub connection : TargetConnection
  pub store : Store
  pub output : List ℕ

-- The parts of a target at work.
abbrev pub scene : TargetConnection → Store → List ℕ → Scene
scene connection store output = record {
  connection = connection;
  store = store;
  output = output;
}

-- What a target begins with: its settings, its first StatSN, and the blocks (section 11.4.11).
pub record Beginning : Type 0 where
  pub settings : TargetSettings
  pub first_stat_sn : ℕ
  pub disk : Disk

-- The parts of what a target begins with.
abbrev pub beginning : TargetSettings → ℕ → Disk → Beginning
beginning settings first_stat_sn disk = record {
  settings = settings;
  first_stat_sn = first_stat_sn;
  disk = disk;
}

-- What these messages lead to from there.
abbrev pub answers_from : Bool → Beginning → List Message → TargetStep
answers_from protected start messages =
    answers protected (opening_machine start.settings start.first_stat_sn) start.disk messages

-- ---- a call of feed

-- How far a call came: what it has of the next PDU, the PDUs that were completed, and what they led
-- to.
pub record CallProgress : Type 0 where
  pub framing : Framing
  pub messages : List Message
  pub stepped : TargetStep

-- The parts of how far a call came.
abbrev pub call_progress : Framing → List Message → TargetStep → CallProgress
call_progress framing messages stepped = record {
  framing = framing;
  messages = messages;
  stepped = stepped;
}

-- A call took bytes that complete these PDUs, and answered them one after another. Each execution did
-- what the order does if no failure was counted at it, and failed if one was. If no failure was
-- counted at all, the answers are those of the machine.
pub record AnswersPdus (protected : Bool) (old : TargetConnection) (before : Store)
    (bytes : List ℕ) (now : CallProgress)
    (after : Store) : Type 0 where
  pub taken : FramerMoves old.framing now.framing bytes now.messages
  pub limit : now.framing.limit ≡ old.framing.limit
  pub ready : is_ready now.framing ≡ false
  -- the failures that were counted behind the last of them
  pub failures : ℕ
  pub may : MayAnswer protected old.machine before.disk before.failures
      now.messages now.stepped failures
  pub works : after.failures ≡ before.failures
      → now.stepped ≡ answers protected old.machine before.disk now.messages

-- The session is closed by a fault, with what it held and the stage that it was in.
abbrev pub IsShut : Machine → Machine → Type 0
IsShut machine new = new ≡ closed_machine machine

-- The session goes on, and the whole piece was taken.
pub record SessionGoesOn (piece : List ℕ) (framing : Framing) (n : ℕ) (r : TargetStep)
    (new : TargetConnection) : Type 0 where
  pub live : is_machine_closed r.machine ≡ false
  pub all : n ≡ length piece
  pub framing_is : new.framing ≡ framing

-- No rule was broken, and the session isn't closed.
pub record IsLive (r : TargetStep) : Type 0 where
  pub rule : r.rule ≡ None
  pub live : is_machine_closed r.machine ≡ false

-- The call returns what the last PDU led to, and what follows it.
abbrev pub CallEnds : List ℕ → Result Phase TargetFault → Framing → ℕ → TargetStep
    → TargetConnection → Type 0
-- it goes on; or it was closed, and the rest of the piece is dropped
CallEnds piece (Ok phase) framing n r new =
    (r.rule ≡ None) × (new.machine ≡ writes_joined r.machine) × (phase ≡ r.machine.session.phase)
    × ((is_machine_closed r.machine ≡ true) ⊎ SessionGoesOn piece framing n r new)
-- memory was refused at the next PDU
CallEnds piece (Err faults.NoMemory) framing n r new = IsLive r
-- the rest of the stream so far begins with what the framer refuses
CallEnds piece (Err (faults.Stream fault)) framing n r new =
    IsLive r × (fault ≢ stream.NoMemory) × FramerFeedFails framing (drop n piece) fault
    × IsShut r.machine new.machine
-- the last PDU broke a rule, which closed the session
CallEnds piece (Err (faults.Protocol rule)) framing n r new =
    (r.rule ≡ Some rule) × (new.machine ≡ writes_joined r.machine)
    × (is_machine_closed r.machine ≡ true)
CallEnds piece (Err faults.Closed) framing n r new = ⊥

-- The blocks and what was written are those of the PDUs that were answered; no failure was counted
-- behind them.
pub record OutputStands (output : List ℕ) (r : TargetStep) (counted : ℕ) (after : Store)
    (written : List ℕ) : Type 0 where
  pub failures : after.failures ≡ counted
  pub disk : after.disk ≡ r.disk
  pub output_is : written ≡ output ++ canon r.answers

-- The next PDU, of which some tasks were done.
pub record PartlyDonePdu (protected : Bool) (framing : Framing) (rest : List ℕ)
    (r : TargetStep) (counted : ℕ)
    (front : TargetStep) (after : ℕ) : Type 0 where
  pub message : Message
  pub next : Framing
  pub count : ℕ
  pub taken : FramerMoves framing next (take count rest) (message ∷ [])
  pub limit : next.limit ≡ framing.limit
  pub stops : MayStop protected r.machine r.disk counted message front after

-- Where a call stands behind the PDUs that it answered. The parts are what the call has of the next
-- PDU, what is left of the piece, what the answered PDUs led to, and the failures that were counted.
pub record Remainder : Type 0 where
  pub framing : Framing
  pub rest : List ℕ
  pub stepped : TargetStep
  pub counted : ℕ

-- The parts of where a call stands.
abbrev pub remainder : Framing → List ℕ → TargetStep → ℕ → Remainder
remainder framing rest stepped counted = record {
  framing = framing;
  rest = rest;
  stepped = stepped;
  counted = counted;
}

-- What follows asks for memory: a header is whole, for its segment, or a PDU is.
abbrev pub AsksForMemory : Framing → List ℕ → Type 0
AsksForMemory framing rest =
    FramerFeedFails framing rest stream.NoMemory
    ⊎ ((message : Message) × (next : Framing) × (count : ℕ)
    × FramerMoves framing next (take count rest) (message ∷ []))

-- Memory ran out behind the PDUs that were answered, where what follows asks for it: nothing more
-- was done, or some tasks of the next PDU. The session is closed.
pub record StopsForMemory (protected : Bool) (output : List ℕ) (at : Remainder)
    (new : Machine) (after : Store)
    (written : List ℕ) : Type 0 where
  pub front : TargetStep
  pub stops :
      ((front ≡ unchanged at.stepped.machine at.stepped.disk) × (at.counted ≤ after.failures)
      × AsksForMemory at.framing at.rest)
      ⊎ PartlyDonePdu protected at.framing at.rest at.stepped at.counted front after.failures
  pub shut : IsShut front.machine new
  pub disk : after.disk ≡ front.disk
  pub output_is : written ≡ output ++ canon (at.stepped.answers ++ front.answers)

-- What a call left, by what it answers.
abbrev pub CallLeaves : Bool → Result Phase TargetFault → List ℕ → Remainder → Machine → Store
    → List ℕ
    → Type 0
CallLeaves protected (Err faults.NoMemory) output at new after written =
    StopsForMemory protected output at new after written
CallLeaves protected _ output at new after written =
    OutputStands output at.stepped at.counted after written

-- A call in a session that isn't closed took the first bytes of the piece, and answered the PDUs
-- that they complete.
pub record FeedsFirstBytes (protected : Bool) (old : Scene) (piece : List ℕ)
    (result : Result Phase TargetFault)
    (new : Scene) : Type 0 where
  pub framing : Framing
  pub count : ℕ
  pub some : count ≤ length piece
  pub messages : List Message
  pub stepped : TargetStep
  pub answered : AnswersPdus protected old.connection old.store (take count piece)
      (call_progress framing messages stepped) new.store
  pub leaves : CallLeaves protected result old.output
      (remainder framing (drop count piece) stepped answered.failures)
      new.connection.machine new.store new.output
  pub ends : CallEnds piece result framing count stepped new.connection

-- A closed session stays as it is.
pub record ClosedTargetStays (old : Scene) (result : Result Phase TargetFault) (new : Scene) : Type
    0 where
  pub result_is : result ≡ Err faults.Closed
  pub connection : new.connection ≡ old.connection
  pub store : new.store ≡ old.store
  pub output_is : new.output ≡ old.output

-- What a call of feed does, by whether the session is closed.
abbrev pub FeedPostIfClosed : Bool → Bool → Scene → List ℕ → Result Phase TargetFault → Scene
    → Type 0
FeedPostIfClosed protected true old piece result new = ClosedTargetStays old result new
FeedPostIfClosed protected false old piece result new =
    FeedsFirstBytes protected old piece result new

-- What a call of feed does with a piece of the stream.
abbrev pub TargetFeedPost : Bool → Scene → List ℕ → Result Phase TargetFault → Scene → Type 0
TargetFeedPost protected old piece result new = FeedPostIfClosed protected
    (is_machine_closed old.connection.machine) old piece result new

-- ---- a call of feed_next

-- A call in a session that isn't closed took the first n bytes, did with them what feed does, and
-- answered one PDU at most. The call took the bytes up to the end of that PDU, or the whole piece.
pub record FeedsOnePdu (protected : Bool) (old : Scene) (piece : List ℕ) (n : ℕ) (phase : Phase)
    (new : Scene) : Type 0 where
  pub bound : n ≤ length piece
  pub some : 0 < length piece → 0 < n
  pub fed : FeedsFirstBytes protected old (take n piece) (Ok phase) new
  pub one : length fed.messages ≤ 1
  pub stops : n < length piece → length fed.messages ≡ 1

-- A call that fails is one of feed with the piece.
abbrev pub FeedNextFails : Bool → Scene → List ℕ → Result (ℕ × Phase) TargetFault → Scene → Type 0
FeedNextFails protected old piece (Ok done) new = FeedsOnePdu protected old piece done.0 done.1 new
FeedNextFails protected old piece (Err fault) new =
    FeedsFirstBytes protected old piece (Err fault) new

-- What a call of feed_next does, by whether the session is closed.
abbrev pub FeedNextPostIfClosed : Bool → Bool → Scene → List ℕ → Result (ℕ × Phase) TargetFault
    → Scene
    → Type 0
FeedNextPostIfClosed protected true old piece result new =
    (result ≡ Err faults.Closed) × (new.connection ≡ old.connection) × (new.store ≡ old.store)
    × (new.output ≡ old.output)
FeedNextPostIfClosed protected false old piece result new =
    FeedNextFails protected old piece result new

-- What a call of feed_next does with a piece of the stream.
abbrev pub FeedNextPost : Bool → Scene → List ℕ → Result (ℕ × Phase) TargetFault → Scene → Type 0
FeedNextPost protected old piece result new = FeedNextPostIfClosed protected
    (is_machine_closed old.connection.machine) old piece result new

-- ---- a call of finish

-- What a call of finish does: the stream ends between two PDUs, or within one.
abbrev pub TargetFinishPost : TargetConnection → Result (Unit {0}) TargetFault → TargetConnection
    → Type 0
TargetFinishPost old (Ok _) new =
    (is_machine_closed old.machine ≡ false) × (new ≡ old) × (old.framing.held ≡ [])
TargetFinishPost old (Err faults.Closed) new = (is_machine_closed old.machine ≡ true) × (new ≡ old)
TargetFinishPost old (Err (faults.Stream fault)) new =
    (is_machine_closed old.machine ≡ false) × FinishFails old.framing fault
    × IsShut old.machine new.machine
TargetFinishPost old (Err faults.NoMemory) new = ⊥
TargetFinishPost old (Err (faults.Protocol rule)) new = ⊥

-- ---- a whole stream, in whatever pieces

-- From the opening state this stream was taken, and these bytes were written.
pub record HasAnswered (protected : Bool) (start : Beginning) (stream : List ℕ)
    (now : TargetConnection) (disk_now : Disk)
    (written : List ℕ) : Type 0 where
  pub messages : List Message
  pub taken : HasTaken stream messages now.framing
  pub machine : now.machine ≡ writes_joined (answers_from protected start messages).machine
  pub disk_is : disk_now ≡ (answers_from protected start messages).disk
  pub output_is : written ≡ canon (answers_from protected start messages).answers

-- The stream that comes in these pieces.
abbrev pub stream_of : List (List ℕ) → List ℕ
stream_of pieces = flat_map (λ piece. piece) pieces

-- Memory was there, and the device didn't fail.
pub record GoesWell (result : Result Phase TargetFault) (before after : Store) : Type 0 where
  pub memory : result ≢ Err faults.NoMemory
  pub device : after.failures ≡ before.failures

-- Calls of feed with pieces of a stream, one after another, which all go well.
unfoldable pub FeedsAllPieces : Bool → Scene → List (List ℕ) → Scene → Type 0
FeedsAllPieces protected old [] new =
    (new.connection ≡ old.connection) × (new.store ≡ old.store) × (new.output ≡ old.output)
FeedsAllPieces protected old (piece ∷ pieces) new =
    (result : Result Phase TargetFault) × (now : TargetConnection) × (store : Store)
    × (out : List ℕ)
    × TargetFeedPost protected old piece result (scene now store out)
    × GoesWell result old.store store
    × FeedsAllPieces protected (scene now store out) pieces new

-- The target is where these messages lead to from the opening state, and so are the blocks and what
-- was written. The program keeps the bytes of each write as one piece.
pub record TargetReaches (protected : Bool) (start : Beginning) (messages : List Message)
    (now : TargetConnection)
    (disk_now : Disk) (written : List ℕ) : Type 0 where
  pub machine : now.machine ≡ writes_joined (answers_from protected start messages).machine
  pub disk_is : disk_now ≡ (answers_from protected start messages).disk
  pub output_is : written ≡ canon (answers_from protected start messages).answers

-- The blocks and what was written are those that these messages lead to from the opening state.
pub record StoreAndOutputReached (protected : Bool) (start : Beginning) (messages : List Message)
    (disk_now : Disk)
    (written : List ℕ) : Type 0 where
  pub disk_is : disk_now ≡ (answers_from protected start messages).disk
  pub output_is : written ≡ canon (answers_from protected start messages).answers

-- Bytes begin with a header that a target refuses: no PDU has it, or its segment is longer than the
-- framer takes (sections 11.2 and 13.12).
abbrev pub RefusesHeader : ℕ → List ℕ → Type 0
RefusesHeader limit bytes =
    (48 ≤ length bytes)
    × (((fault : HeadFault) × (head_fault (take 48 bytes) ≡ Some fault))
    ⊎ ((head : Head) × (len : ℕ) × IsHeader (take 48 bytes) head len × (limit < len)))

-- The session is where these messages lead to from the opening state, or was closed there. It is
-- closed where they close it, and where the rest begins with a header that is refused.
pub record TargetReachesOrClosed (protected : Bool) (start : Beginning) (messages : List Message)
    (rest : List ℕ)
    (now : Machine) : Type 0 where
  pub machine : closed_machine now ≡ closed_machine (answers_from protected start messages).machine
  pub goes_on : is_machine_closed now ≡ false → now
      ≡ writes_joined (answers_from protected start messages).machine
  pub ends : is_machine_closed now ≡ true →
      (is_machine_closed (answers_from protected start messages).machine ≡ true)
      ⊎ RefusesHeader (target_limit start.settings) rest
  pub refuses : RefusesHeader (target_limit start.settings) rest → is_machine_closed now ≡ true

-- Two sessions hold the same values, are in the same stage and phase, and are equal while they go
-- on.
pub record SameSession (a b : Machine) : Type 0 where
  pub held : b.session.held ≡ a.session.held
  pub stage : b.session.stage ≡ a.session.stage
  pub phase : b.session.phase ≡ a.session.phase
  pub goes_on : is_machine_closed a ≡ false → b ≡ a

-- ---- one outcome

-- Two targets that do the same from now on: while the session goes on they have the same of the
-- next PDU too.
pub record TargetsAlike (a b : TargetConnection) : Type 0 where
  pub machine : b.machine ≡ a.machine
  pub framing : is_machine_closed a.machine ≡ false → b.framing ≡ a.framing

-- Two calls of feed that answered the same, and left the same.
pub record CallsAlike (result other : Result Phase TargetFault) (a b : Scene) : Type 0 where
  pub answered : other ≡ result
  pub alike : TargetsAlike a.connection b.connection
  pub disk : b.store.disk ≡ a.store.disk
  pub output : b.output ≡ a.output

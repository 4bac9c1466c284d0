-- What the calls of an initiator do: a stream that comes in pieces, and requests (RFC 7143,
-- sections 4 and 11).
use Rattle.std.specs.Prelude.{◌≡◌, ◌≢◌, ℕ, ◌≤◌, ◌⊎◌, true, false, List, [], ◌++◌, length, take, drop, Option, Some, None, Result, Ok, Err}
use Rattle.iscsi_stream.specs.declared.fault.StreamFault.{StreamFault}
use Rattle.iscsi_stream.specs.declared.fault.StreamFault.TheVariants as stream
use Rattle.iscsi_stream.specs.Stream.{Message}
use Rattle.iscsi_stream.specs.Canonical.{canon}
use Rattle.iscsi_stream.specs.Framing as framings
use Rattle.iscsi_stream.specs.Framing.{Framing, is_ready, FramerMoves, FramerFeedFails, FinishFails}
use Rattle.iscsi_login.specs.declared.phase.Phase.{Phase}
use Rattle.iscsi_login.specs.declared.phase.Phase.TheVariants as phases
use Rattle.iscsi_login.specs.Held.{longest_taken}
use Rattle.iscsi_initiator.specs.declared.fault.InitiatorFault.{InitiatorFault}
use Rattle.iscsi_initiator.specs.declared.fault.InitiatorFault.TheVariants as faults
use Rattle.iscsi_initiator.specs.declared.request.Request.{Request}
use Rattle.iscsi_initiator.specs.declared.request.Refused.{Refused}
use Rattle.iscsi_initiator.specs.declared.request.SubmitFault.{SubmitFault}
use Rattle.iscsi_initiator.specs.declared.request.SubmitFault.TheVariants as refusals
use Rattle.iscsi_initiator.specs.State.{InitiatorSettings, InitiatorSession, new_session, is_session_closed}
use Rattle.iscsi_initiator.specs.Steps.{InitiatorStep, closed_session}
use Rattle.iscsi_initiator.specs.Login.{start_step}
use Rattle.iscsi_initiator.specs.Machine.{steps, outcome_handed_out}
use Rattle.iscsi_initiator.specs.Submitted.{submitted}

-- An initiator between two calls: its session, and what it has of the next PDU.
pub record InitiatorConnection : Type 0 where
  pub machine : InitiatorSession
  pub framing : Framing

-- The longest segment that an initiator with these settings takes (section 13.12).
abbrev pub initiator_limit : InitiatorSettings → ℕ
initiator_limit settings = longest_taken settings.proposal.prefs

-- An initiator to which nothing came.
abbrev pub opening_initiator : InitiatorSettings → InitiatorConnection
opening_initiator settings = record {
  machine = new_session settings;
  framing = framings.opening_framing (initiator_limit settings);
}

-- ---- one step

-- The call left what the step leaves, and appended what it sends.
pub record StepDone (stepped : InitiatorStep) (old new : InitiatorConnection) (before after : List ℕ) : Type 0 where
  pub machine : new.machine ≡ stepped.machine
  pub output : after ≡ before ++ canon stepped.output
  pub framing : new.framing ≡ old.framing

-- Memory ran out: nothing is written, and the session is closed.
pub record OutOfMemory (old new : InitiatorConnection) (before after : List ℕ) : Type 0 where
  pub live : is_session_closed old.machine ≡ false
  pub machine : new.machine ≡ closed_session old.machine
  pub output : after ≡ before

-- A closed session stays as it is.
pub record ClosedInitiatorStays (old new : InitiatorConnection) (before after : List ℕ) : Type
    0 where
  pub closed : is_session_closed old.machine ≡ true
  pub connection : new ≡ old
  pub output : after ≡ before

-- What a call of start does (section 6.3).
abbrev pub InitiatorStartPost : Result (Unit {0}) InitiatorFault → InitiatorConnection → InitiatorConnection → List ℕ → List ℕ → Type 0
InitiatorStartPost (Ok _) old new before after =
    (is_session_closed old.machine ≡ false) × StepDone (start_step old.machine) old new before after
    × ((start_step old.machine).fault ≡ None)
InitiatorStartPost (Err faults.NoMemory) old new before after = OutOfMemory old new before after
InitiatorStartPost (Err faults.Closed) old new before after =
    ClosedInitiatorStays old new before after
InitiatorStartPost (Err fault) old new before after =
    (is_session_closed old.machine ≡ false) × StepDone (start_step old.machine) old new before after
    × ((start_step old.machine).fault ≡ Some fault)

-- ---- a call of feed

-- What a call received of its piece: n bytes, which complete PDUs of these meanings.
pub record ReceivedPdus (old : InitiatorConnection) (piece : List ℕ) : Type 0 where
  pub count : ℕ
  pub some : count ≤ length piece
  pub messages : List Message
  pub framing : Framing
  pub moves : FramerMoves old.framing framing (take count piece) messages
  pub limit : framing.limit ≡ old.framing.limit

-- The steps that these PDUs lead to.
abbrev pub received_steps : (old : InitiatorConnection) (piece : List ℕ) → ReceivedPdus old piece
    → InitiatorStep
received_steps old piece received = steps old.machine received.messages

-- The whole piece is received, and the session is open.
pub record ReceivesWholePiece {old : InitiatorConnection} {piece : List ℕ}
    (received : ReceivedPdus old piece)
    (new : InitiatorConnection) (before after : List ℕ) (phase : Phase) : Type 0 where
  pub all : received.count ≡ length piece
  pub live : is_session_closed (received_steps old piece received).machine ≡ false
  pub unready : is_ready received.framing ≡ false
  pub connection : new
      ≡ record { machine = (received_steps old piece received).machine; framing = received.framing }
  pub output : after ≡ before ++ canon (received_steps old piece received).output
  pub answered : phase ≡ (received_steps old piece received).machine.phase

-- The last PDU that is received closes the session; the rest of the piece is dropped.
pub record PieceClosesSession {old : InitiatorConnection} {piece : List ℕ}
    (received : ReceivedPdus old piece)
    (new : InitiatorConnection) (before after : List ℕ) (fault : Option InitiatorFault) : Type
    0 where
  pub closes : is_session_closed (received_steps old piece received).machine ≡ true
  pub machine : new.machine ≡ (received_steps old piece received).machine
  pub output : after ≡ before ++ canon (received_steps old piece received).output
  pub cause : (received_steps old piece received).fault ≡ fault

-- What follows the PDUs that are received is refused by the framer.
pub record StreamEnds {old : InitiatorConnection} {piece : List ℕ}
    (received : ReceivedPdus old piece)
    (new : InitiatorConnection) (before after : List ℕ) (fault : StreamFault) : Type 0 where
  pub live : is_session_closed (received_steps old piece received).machine ≡ false
  pub refused : FramerFeedFails received.framing (drop received.count piece) fault
  pub machine : new.machine ≡ closed_session (received_steps old piece received).machine
  pub output : after ≡ before ++ canon (received_steps old piece received).output

-- Memory ran out behind some PDUs: nothing is written, and the session is closed.
pub record MemoryEnds {old : InitiatorConnection} {piece : List ℕ}
    (received : ReceivedPdus old piece)
    (new : InitiatorConnection) (before after : List ℕ) : Type 0 where
  pub live : is_session_closed (received_steps old piece received).machine ≡ false
  pub machine : new.machine ≡ closed_session (received_steps old piece received).machine
  pub output : after ≡ before

-- What a call of feed does with a piece of the stream. No fault of the stream is `NoMemory`.
abbrev pub InitiatorFeedPost : Result Phase InitiatorFault → (old : InitiatorConnection) (piece : List ℕ) → InitiatorConnection → List ℕ → List ℕ → Type 0
InitiatorFeedPost (Ok phase) old piece new before after = (is_session_closed old.machine ≡ false)
    × ((received : ReceivedPdus old piece) × (ReceivesWholePiece received new before after phase
    ⊎ (PieceClosesSession received new before after None × (phase ≡ phases.Closed))))
InitiatorFeedPost (Err faults.NoMemory) old piece new before after =
    (received : ReceivedPdus old piece) × MemoryEnds received new before after
InitiatorFeedPost (Err (faults.Stream stream.NoMemory)) old piece new before after = ⊥
InitiatorFeedPost (Err (faults.Stream fault)) old piece new before after =
    (received : ReceivedPdus old piece) × StreamEnds received new before after fault
InitiatorFeedPost (Err faults.Closed) old piece new before after =
    ClosedInitiatorStays old new before after
InitiatorFeedPost (Err fault) old piece new before after =
    (received : ReceivedPdus old piece) × PieceClosesSession received new before after (Some fault)

-- ---- a call of submit

-- A request was accepted, and is written.
pub record SubmitAccepted (old : InitiatorConnection) (request : Request)
    (new : InitiatorConnection)
    (before after : List ℕ) : Type 0 where
  pub none : (submitted old.machine request).refusal ≡ None
  pub connection : new ≡ record old { machine = (submitted old.machine request).machine }
  pub output : after ≡ before ++ canon (submitted old.machine request).output

-- What the machine refuses the request for; `NoMemory` comes last.
abbrev pub refused_for : SubmitFault → Option SubmitFault
refused_for refusals.NoMemory = None
refused_for fault = Some fault

-- A request was refused, and comes back.
pub record HandsBack (old : InitiatorConnection) (request : Request) (new : InitiatorConnection)
    (before after : List ℕ) (refused : Refused) : Type 0 where
  pub same : refused.request ≡ request
  pub cause : (submitted old.machine request).refusal ≡ refused_for refused.fault
  pub connection : new ≡ old
  pub output : after ≡ before

-- What a call of submit does.
abbrev pub InitiatorSubmitPost : Result (Unit {0}) Refused → InitiatorConnection → Request → InitiatorConnection → List ℕ → List ℕ → Type 0
InitiatorSubmitPost (Ok _) old request new before after =
    SubmitAccepted old request new before after
InitiatorSubmitPost (Err refused) old request new before after =
    HandsBack old request new before after refused

-- ---- the other calls

-- What a call of finish does: the stream ends between two PDUs, or within one.
abbrev pub InitiatorFinishPost : Result (Unit {0}) InitiatorFault → InitiatorConnection
    → InitiatorConnection → Type 0
InitiatorFinishPost (Ok _) old new =
    (is_session_closed old.machine ≡ false) × (old.framing.held ≡ []) × (new ≡ old)
InitiatorFinishPost (Err faults.Closed) old new =
    (is_session_closed old.machine ≡ true) × (new ≡ old)
InitiatorFinishPost (Err (faults.Stream fault)) old new =
    (is_session_closed old.machine ≡ false) × FinishFails old.framing fault
    × (new.machine ≡ closed_session old.machine)
InitiatorFinishPost (Err _) old new = ⊥

-- The outcome is taken.
abbrev pub after_taking : InitiatorConnection → InitiatorConnection
after_taking old = record old { machine = outcome_handed_out old.machine }

-- ---- one outcome

-- Two initiators that do the same from now on: while the session goes on they have the same of the
-- next PDU too.
pub record InitiatorsAlike (a b : InitiatorConnection) : Type 0 where
  pub machine : b.machine ≡ a.machine
  pub framing : is_session_closed a.machine ≡ false → b.framing ≡ a.framing

-- Two calls that answered the same, and left and wrote the same.
pub record CalledAlike {R : Type 0} (result other : R) (a b : InitiatorConnection)
    (written rewritten : List ℕ) : Type 0 where
  pub answered : other ≡ result
  pub alike : InitiatorsAlike a b
  pub output : rewritten ≡ written

-- The request wasn't refused when out of memory.
abbrev pub HadMemory : Result (Unit {0}) Refused → Type 0
HadMemory (Ok done) = Unit {0}
HadMemory (Err refused) = refused.fault ≢ refusals.NoMemory

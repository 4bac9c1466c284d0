-- What holds of every run of the initiator's machine.
use Rattle.std.specs.Prelude.{◌⊎◌, ◌≡◌, ◌≤◌, ℕ, ◌+◌, if◌then◌else◌, List, [], ◌∷◌, ◌++◌, length, Option, Some, None}
use Rattle.scsi_cdb.specs.declared.residual.Residual.{Residual}
use Rattle.iscsi_stream.specs.Stream.{Message}
use Rattle.iscsi_login.specs.declared.stage.Stage.TheVariants as stages
use Rattle.iscsi_login.specs.declared.phase.Phase.TheVariants as phases
use Rattle.iscsi_initiator.specs.declared.request.Done.{Done}
use Rattle.iscsi_initiator.specs.declared.request.Done.TheVariants as done
use Rattle.iscsi_initiator.specs.declared.request.Request.{Request}
use Rattle.iscsi_initiator.specs.declared.request.Request.TheVariants as requests
use Rattle.iscsi_initiator.specs.declared.request.SubmitFault.{SubmitFault}
use Rattle.iscsi_initiator.specs.declared.outstanding.Outstanding.TheVariants as opens
use Rattle.iscsi_initiator.specs.Progress.{ReadProgress}
use Rattle.iscsi_initiator.specs.State.{InitiatorSettings, InitiatorSession, new_session, is_session_closed}
use Rattle.iscsi_initiator.specs.Steps.{closed_session}
use Rattle.iscsi_initiator.specs.Login.{start_step}
use Rattle.iscsi_initiator.specs.Machine.{initiator_step, outcome_handed_out}
use Rattle.iscsi_initiator.specs.Submitted.{submitted, submit_refusal}
use Rattle.iscsi_stream.specs.Pieces.{TilesFrom, data_pieces, piece_data}

-- ---- runs

-- What a session meets once it is started: a message comes, a request is handed in, or the outcome
-- is taken.
pub data SessionInput : Type 0 where
  Comes : Message → SessionInput
  Asks : Request → SessionInput
  Takes : SessionInput

-- What happens to a session: it is started, it meets one of these, or a faulty stream or want of
-- memory ends it.
pub data InitiatorEvent : Type 0 where
  Starts : InitiatorEvent
  Meets : SessionInput → InitiatorEvent
  Ends : InitiatorEvent

-- The session after what it meets.
abbrev pub met : InitiatorSession → SessionInput → InitiatorSession
met m (Comes message) = (initiator_step m message).machine
met m (Asks request) = (submitted m request).machine
met m Takes = outcome_handed_out m

-- The session after an event.
abbrev pub session_after : InitiatorSession → InitiatorEvent → InitiatorSession
session_after m Starts = if is_session_closed m then m else (start_step m).machine
session_after m (Meets input) = met m input
session_after m Ends = closed_session m

-- The session after events.
abbrev pub run : InitiatorSession → List InitiatorEvent → InitiatorSession
run m [] = m
run m (event ∷ events) = run (session_after m event) events

-- The request, unless it is refused.
abbrev pub accepted_if : Option SubmitFault → Request → List Request
accepted_if None request = request ∷ []
accepted_if (Some fault) request = []

-- The request that an event hands in, if it is accepted.
abbrev pub accepted_in : InitiatorSession → InitiatorEvent → List Request
accepted_in m (Meets (Asks request)) = accepted_if (submit_refusal m request) request
accepted_in m _ = []

-- The requests that are accepted.
abbrev pub accepted_requests : InitiatorSession → List InitiatorEvent → List Request
accepted_requests m [] = []
accepted_requests m (event ∷ events) = accepted_in m event ++ accepted_requests (session_after m event) events

-- The outcome, if there is one.
abbrev pub listed : Option Done → List Done
listed None = []
listed (Some outcome) = outcome ∷ []

-- The outcome that an event takes, if there is one.
abbrev pub outcome_given_in : InitiatorSession → InitiatorEvent → List Done
outcome_given_in m (Meets Takes) = listed m.done
outcome_given_in m _ = []

-- The outcomes that are taken.
abbrev pub outcomes_given : InitiatorSession → List InitiatorEvent → List Done
outcomes_given m [] = []
outcomes_given m (event ∷ events) =
    outcome_given_in m event ++ outcomes_given (session_after m event) events

-- ---- what is agreed stays

-- Once the login is completed, what is held never changes (section 6.3).
abbrev pub HeldStays : InitiatorSettings → Type 0
HeldStays settings = (events more : List InitiatorEvent) →
    (run (new_session settings) events).stage ≡ stages.Full →
    ((run (run (new_session settings) events) more).stage ≡ stages.Full)
    × ((run (run (new_session settings) events) more).held
    ≡ (run (new_session settings) events).held)

-- ---- outcomes

-- An outcome of this kind of request: a read has no more than was expected, a write no data
-- (section 11.4).
abbrev pub IsOutcomeOf : Request → Done → Type 0
IsOutcomeOf (requests.In lun cdb expected) (done.Command response status sense bytes residual) =
    length bytes ≤ expected
IsOutcomeOf (requests.Out lun cdb sent) (done.Command response status sense bytes residual) =
    bytes ≡ []
IsOutcomeOf (requests.Ping sent) (done.Ping bytes) = Unit {0}
IsOutcomeOf (requests.Text sent) (done.Text bytes) = Unit {0}
IsOutcomeOf requests.Logout done.Closed = Unit {0}
IsOutcomeOf _ _ = ⊥

-- Each request has its outcome, in order; the last one may still wait for it.
abbrev pub AreOutcomesOf : List Request → List Done → Type 0
AreOutcomesOf requests [] = length requests ≤ 1
AreOutcomesOf [] (outcome ∷ outcomes) = ⊥
AreOutcomesOf (request ∷ requests) (outcome ∷ outcomes) =
    IsOutcomeOf request outcome × AreOutcomesOf requests outcomes

-- The k-th outcome is one of the k-th accepted request's kind.
abbrev pub OutcomesInOrder : InitiatorSettings → Type 0
OutcomesInOrder settings = (events : List InitiatorEvent) →
    AreOutcomesOf (accepted_requests (new_session settings) events)
    (outcomes_given (new_session settings) events
    ++ listed (run (new_session settings) events).done)

-- ---- pieces

-- A sequence of Data-Out PDUs carries these bytes, from this offset on (section 11.7).
pub record IsSequence (offset : ℕ) (bytes : List ℕ) (messages : List Message) : Type 0 where
  pub tiles : TilesFrom offset (data_pieces messages) (offset + length bytes)
  pub carries : piece_data (data_pieces messages) ≡ bytes

-- ---- what a read receives

-- The session after these messages.
abbrev pub receives : InitiatorSession → List Message → InitiatorSession
receives m [] = m
receives m (message ∷ messages) = receives (initiator_step m message).machine messages

-- The outstanding read has received these bytes (section 11.7).
pub record IsReceiving (m : InitiatorSession) (bytes : List ℕ) : Type 0 where
  pub reading : ReadProgress
  pub is : m.outstanding ≡ Some (opens.In reading)
  pub received : reading.received ≡ bytes

-- The read is completed, and these bytes are its data (sections 11.4 and 11.7).
pub record HasReceived (m : InitiatorSession) (bytes : List ℕ) : Type 0 where
  pub response : ℕ
  pub status : ℕ
  pub sense : List ℕ
  pub residual : Residual
  pub none : m.outstanding ≡ None
  pub outcome : m.done ≡ Some (done.Command response status sense bytes residual)

-- What came for an outstanding read, until a fault closed the session if one did: its Data-In tile
-- its data, and each lies where the last one ended. What is received, or what the outcome has, are
-- the bytes of these Data-In (section 11.7.5). A closed session receives nothing.
pub record TilesRead (m : InitiatorSession) (messages : List Message) : Type 0 where
  pub received : List Message
  pub rest : List Message
  pub parts : messages ≡ received ++ rest
  pub live : (receives m received).phase ≡ phases.Full
  pub all : (receives m messages).phase ≡ phases.Full → rest ≡ []
  pub tiles : TilesFrom 0 (data_pieces received) (length (piece_data (data_pieces received)))
  pub carries : IsReceiving (receives m messages) (piece_data (data_pieces received))
      ⊎ HasReceived (receives m messages) (piece_data (data_pieces received))

-- So it is of every read.
abbrev pub ReadsTile : Type 0
ReadsTile = (m : InitiatorSession) (messages : List Message) → m.phase ≡ phases.Full →
    IsReceiving m [] → TilesRead m messages

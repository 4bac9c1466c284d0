-- A job: the requests of a session, in their order, each with what came of it (RFC 7143, section 11).
use Rattle.std.specs.Prelude.{◌≡◌, ℕ, Bool, false, ◌==◌, ◌||◌, if◌then◌else◌, nat_lt, List, [], length, Option, Some, None}
use Rattle.iscsi_initiator.specs.declared.request.Done.{Done}
use Rattle.iscsi_initiator.specs.declared.request.Done.TheVariants as done
use Rattle.iscsi_initiator.specs.declared.request.Request.{Request}
use Rattle.iscsi_initiator.specs.declared.request.Request.TheVariants as requests
use Rattle.iscsi_job.specs.declared.item.Asked.{Asked}
use Rattle.iscsi_job.specs.declared.item.Asked.TheVariants as asked
use Rattle.iscsi_job.specs.declared.item.Ended.{Ended}
use Rattle.iscsi_job.specs.declared.item.Ended.TheVariants as ended
use Rattle.iscsi_job.specs.declared.item.Outcome.{Outcome}
use Rattle.iscsi_job.specs.declared.item.Moves.TheVariants as moves

-- A request, the bytes that were sent with it, how it ended, and the sense and the data that came.
pub record Item : Type 0 where
  pub asked : Asked
  pub sent : List ℕ
  pub ended : Option Ended
  pub sense : List ℕ
  pub received : List ℕ

-- A request of a recording: its tag, and where its PDU stands in the initiator's stream.
pub record NotedRequest : Type 0 where
  pub tag : ℕ
  pub place : ℕ
  pub pdu : ℕ
  pub item : Item

-- a write that was asked for with so many bytes, and sent so many, lacks some
abbrev pub sends_fewer : Asked → ℕ → Bool
sends_fewer (asked.Command lun cdb moves.Out n) sent = nat_lt sent n
sends_fewer _ sent = false

-- a request is a write of which not all data were sent
abbrev pub lacks_data : Item → Bool
lacks_data item = sends_fewer item.asked (length item.sent)

-- a command says that it moves data, and expects none
abbrev pub moves_no_bytes : Asked → Bool
moves_no_bytes (asked.Command lun cdb moves.In n) = n == 0
moves_no_bytes (asked.Command lun cdb moves.Out n) = n == 0
moves_no_bytes _ = false

-- what an initiator is asked for, for a request with these bytes; it has nothing for task management
abbrev pub request_with : Asked → List ℕ → Option Request
request_with (asked.Command lun cdb moves.Nothing n) sent = Some (requests.In lun cdb n)
request_with (asked.Command lun cdb moves.In n) sent = Some (requests.In lun cdb n)
request_with (asked.Command lun cdb moves.Out n) sent = Some (requests.Out lun cdb sent)
request_with asked.Ping sent = Some (requests.Ping sent)
request_with asked.Text sent = Some (requests.Text sent)
request_with asked.Logout sent = Some requests.Logout
request_with (asked.Task function) sent = None

-- what an initiator is asked for to do a request again, if it can be asked for it
abbrev pub request_again : Item → Option Request
request_again item =
    if lacks_data item || moves_no_bytes item.asked then None else request_with item.asked item.sent

-- an outcome says what an initiator gave: how it ended, the sense and the data
abbrev pub OutcomeIs : Outcome → Ended → List ℕ → List ℕ → Type 0
OutcomeIs outcome end sense bytes =
    (outcome.ended ≡ end) × (outcome.sense.now ≡ sense) × (outcome.«data».now ≡ bytes)

abbrev pub DoneAs : Done → Outcome → Type 0
DoneAs (done.Command response status sense bytes residual) outcome =
    OutcomeIs outcome (ended.Command response status residual) sense bytes
DoneAs (done.Ping bytes) outcome = OutcomeIs outcome ended.Ping [] bytes
DoneAs (done.Text bytes) outcome = OutcomeIs outcome ended.Text [] bytes
DoneAs done.Closed outcome = OutcomeIs outcome ended.Closed [] []

-- What a PDU of the target says of a job, by its kind (RFC 7143, section 11).
use Rattle.std.specs.Prelude.{ℕ, false, not, ◌+◌, ◌&&◌, ◌==◌, nat_lt, if◌then◌else◌, List, ◌++◌, length, Option, Some, None, unwrap_or}
use Rattle.iscsi_pdu.specs.declared.head.Head.{Head}
use Rattle.iscsi_pdu.specs.declared.head.Head.TheVariants as heads
use Rattle.iscsi_pdu.specs.declared.head.data_in.DataIn.{DataIn}
use Rattle.iscsi_pdu.specs.declared.head.scsi_response.ScsiResponse.{ScsiResponse}
use Rattle.iscsi_pdu.specs.declared.head.text_response.TextResponse.{TextResponse}
use Rattle.iscsi_initiator.specs.Full.{residual, sense_of}
use Rattle.iscsi_job.specs.declared.fault.Reason.{Reason}
use Rattle.iscsi_job.specs.declared.fault.Reason.TheVariants as reason
use Rattle.iscsi_job.specs.declared.item.Asked.{Asked}
use Rattle.iscsi_job.specs.declared.item.Asked.TheVariants as asked
use Rattle.iscsi_job.specs.declared.item.Ended.{Ended}
use Rattle.iscsi_job.specs.declared.item.Ended.TheVariants as ended
use Rattle.iscsi_job.specs.declared.item.Moves.TheVariants as moves
use Rattle.iscsi_job.specs.Jobs.{Item}

-- What a PDU makes of the request that it answers, and why it has no place in a job, if it has none.
pub record AnsweredItem : Type 0 where
  pub item : Item
  pub refusal : Option Reason

-- the PDU has no place in a job
abbrev pub refuses : Item → Reason → AnsweredItem
refuses item why = record { item = item; refusal = Some why }

-- the request is this one now
abbrev pub item_goes_on : Item → AnsweredItem
item_goes_on item = record { item = item; refusal = None }

-- the request has ended so
abbrev pub ends : Item → Ended → AnsweredItem
ends item end = item_goes_on (record item { ended = Some end })

-- how a read ends by its last Data-In (section 11.7.4)
abbrev pub data_end : DataIn → Ended
data_end h = ended.Command 0 (unwrap_or h.status 0)
    (residual (unwrap_or h.overflow false) (unwrap_or h.underflow false) (unwrap_or h.residual 0))

-- Data of a read stand where the data before them end, and are no more than expected. With a status
-- they end it (section 11.7; own rule).
abbrev pub item_on_data : Item → ℕ → DataIn → List ℕ → AnsweredItem
item_on_data item n h bytes =
    if (h.buffer_offset == length item.received) && not (nat_lt n (length item.received + length bytes))
    then (if h.has_status then ends (record item { received = item.received ++ bytes }) (data_end h)
    else item_goes_on (record item { received = item.received ++ bytes }))
    else refuses item reason.Order

-- a response ends its command, with its sense (section 11.4)
abbrev pub on_sense : Option (List ℕ) → Item → ScsiResponse → AnsweredItem
on_sense None item h = refuses item reason.Sense
on_sense (Some sense) item h = ends (record item { sense = item.sense ++ sense })
    (ended.Command h.response (unwrap_or h.status 0)
    (residual h.overflow h.underflow (unwrap_or h.residual 0)))

-- the answer to a text is one PDU (section 11.11; own rule)
abbrev pub item_on_text : Item → TextResponse → List ℕ → AnsweredItem
item_on_text item h bytes =
    if h.is_final && not h.continues
    then ends (record item { received = item.received ++ bytes }) ended.Text
    else refuses item reason.Parts

-- what a PDU makes of the request that it answers, by its kind and what was asked
abbrev pub item_answered_by : Head → Asked → Item → List ℕ → AnsweredItem
item_answered_by (heads.DataIn h) (asked.Command lun cdb moves.In n) item bytes =
    item_on_data item n h bytes
item_answered_by (heads.DataIn h) (asked.Command lun cdb moves.Nothing n) item bytes =
    item_on_data item n h bytes
item_answered_by (heads.ScsiResponse h) (asked.Command lun cdb way n) item bytes =
    on_sense (sense_of bytes) item h
item_answered_by (heads.NopIn h) asked.Ping item bytes =
    ends (record item { received = item.received ++ bytes }) ended.Ping
item_answered_by (heads.TextResponse h) asked.Text item bytes = item_on_text item h bytes
item_answered_by (heads.LogoutResponse h) asked.Logout item bytes = ends item ended.Closed
item_answered_by (heads.TaskResponse h) (asked.Task function) item bytes = ends item (ended.Task h.response)
item_answered_by _ _ item bytes = refuses item reason.Unasked

abbrev pub item_answered : Item → Head → List ℕ → AnsweredItem
item_answered item head bytes = item_answered_by head item.asked item bytes

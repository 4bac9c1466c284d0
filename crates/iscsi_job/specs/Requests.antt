-- What a PDU of the initiator says of a job, by its kind (RFC 7143, section 11).
use Rattle.std.specs.Prelude.{ℕ, Bool, not, ◌+◌, ◌&&◌, ◌||◌, ◌==◌, nat_lt, if◌then◌else◌, List, [], length, Option, Some, None}
use Rattle.scsi_cdb.specs.Blocks.{canonical}
use Rattle.iscsi_pdu.specs.Fields.{reserved_tag}
use Rattle.iscsi_pdu.specs.declared.head.Head.{Head}
use Rattle.iscsi_pdu.specs.declared.head.Head.TheVariants as heads
use Rattle.iscsi_pdu.specs.declared.head.scsi_command.ScsiCommand.{ScsiCommand}
use Rattle.iscsi_pdu.specs.declared.head.text_request.TextRequest.{TextRequest}
use Rattle.iscsi_job.specs.declared.fault.Reason.{Reason}
use Rattle.iscsi_job.specs.declared.fault.Reason.TheVariants as reason
use Rattle.iscsi_job.specs.declared.item.Asked.{Asked}
use Rattle.iscsi_job.specs.declared.item.Asked.TheVariants as asked
use Rattle.iscsi_job.specs.declared.item.Moves.{Moves}
use Rattle.iscsi_job.specs.declared.item.Moves.TheVariants as moves
use Rattle.iscsi_job.specs.declared.requests.Heard.{Heard}
use Rattle.iscsi_job.specs.declared.requests.Heard.TheVariants as heard
use Rattle.iscsi_job.specs.Jobs.{Item}

-- which way the data of a command go: bit W says to the target, and bit R from it
abbrev pub way : ScsiCommand → Moves
way h = if h.write then moves.Out else (if h.read then moves.In else moves.Nothing)

-- how many bytes a command expects either way; none without R and W
abbrev pub expected : ScsiCommand → ℕ
expected h = if h.read || h.write then h.expected_data_transfer_length else 0

-- A command asks for its descriptor block at its unit. It has no more immediate data than it sends,
-- and data of one direction (section 11.3; own rule).
abbrev pub commanded : ScsiCommand → List ℕ → Heard
commanded h bytes =
    if h.read && h.write then heard.Refuses reason.Bidirectional
    else (if nat_lt (if h.write then expected h else 0) (length bytes) then heard.Refuses reason.Order
    else heard.Asks h.initiator_task_tag
    (asked.Command h.lun (canonical h.cdb) (way h) (expected h)))

-- A text asks by one PDU (section 11.10; own rule).
abbrev pub texted : TextRequest → Heard
texted h =
    if h.is_final && (not h.continues && (h.target_transfer_tag == reserved_tag))
    then heard.Asks h.initiator_task_tag asked.Text else heard.Refuses reason.Parts

-- what a PDU of the initiator says of a job
abbrev pub said_by : Head → List ℕ → Heard
said_by (heads.ScsiCommand h) bytes = commanded h bytes
said_by (heads.DataOut h) bytes = heard.Gives h.initiator_task_tag h.buffer_offset
said_by (heads.NopOut h) bytes =
    if h.initiator_task_tag == reserved_tag then heard.Nothing
    else heard.Asks h.initiator_task_tag asked.Ping
said_by (heads.TextRequest h) bytes = texted h
said_by (heads.LogoutRequest h) bytes = heard.Asks h.initiator_task_tag asked.Logout
said_by (heads.TaskRequest h) bytes = heard.Asks h.initiator_task_tag (asked.Task h.function)
said_by (heads.LoginRequest h) bytes = heard.Nothing
said_by _ bytes = heard.Refuses reason.Kind

-- a request that these bytes were sent with, and of which nothing came yet
abbrev pub asked_item : Asked → List ℕ → Item
asked_item what bytes = record { asked = what; sent = bytes; ended = None; sense = []; received = [] }

abbrev pub gives_to : Asked → Item → ℕ → List ℕ → Option Reason
gives_to (asked.Command lun cdb moves.Out n) item offset bytes =
    if (offset == length item.sent) && not (nat_lt n (length item.sent + length bytes)) then None
    else Some reason.Order
gives_to _ item offset bytes = Some reason.Unasked

-- Data of a write at their offset: they stand where the data before them end, and are no more than
-- was to be sent (sections 11.7.5 and 13.19; own rule). Other requests send none so.
abbrev pub gives : Item → ℕ → List ℕ → Option Reason
gives item offset bytes = gives_to item.asked item offset bytes

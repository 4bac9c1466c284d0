-- The field table of the PDUs (RFC 7143, section 11): a list of rows for each kind. Bits of no row,
-- and of a row whose condition does not hold, are free. `always` is a field that every
-- PDU of the kind has, and `only_if` one with a condition.
use Rattle.std.specs.Prelude.{ℕ, Bool, not, ◌==◌, ◌||◌, List, [], ◌∷◌}
use Rattle.scsi_cdb.specs.declared.cdb.Cdb.{Cdb}
use Rattle.scsi_cdb.specs.Layout.{Row, always, only_if}
use Rattle.scsi_cdb.specs.Layout.Row.{bit, bits, bytes, raw}
use Rattle.scsi_cdb.specs.Blocks.{canonical}
use Rattle.iscsi_pdu.specs.declared.head.nop_out.NopOut.{NopOut}
use Rattle.iscsi_pdu.specs.declared.head.scsi_command.ScsiCommand.{ScsiCommand}
use Rattle.iscsi_pdu.specs.declared.head.task_request.TaskRequest.{TaskRequest}
use Rattle.iscsi_pdu.specs.declared.head.login_request.LoginRequest.{LoginRequest}
use Rattle.iscsi_pdu.specs.declared.head.text_request.TextRequest.{TextRequest}
use Rattle.iscsi_pdu.specs.declared.head.data_out.DataOut.{DataOut}
use Rattle.iscsi_pdu.specs.declared.head.logout_request.LogoutRequest.{LogoutRequest}
use Rattle.iscsi_pdu.specs.declared.head.nop_in.NopIn.{NopIn}
use Rattle.iscsi_pdu.specs.declared.head.scsi_response.ScsiResponse.{ScsiResponse}
use Rattle.iscsi_pdu.specs.declared.head.task_response.TaskResponse.{TaskResponse}
use Rattle.iscsi_pdu.specs.declared.head.login_response.LoginResponse.{LoginResponse}
use Rattle.iscsi_pdu.specs.declared.head.text_response.TextResponse.{TextResponse}
use Rattle.iscsi_pdu.specs.declared.head.data_in.DataIn.{DataIn}
use Rattle.iscsi_pdu.specs.declared.head.logout_response.LogoutResponse.{LogoutResponse}
use Rattle.iscsi_pdu.specs.declared.head.ready_to_transfer.ReadyToTransfer.{ReadyToTransfer}
use Rattle.iscsi_pdu.specs.declared.head.async_message.AsyncMessage.{AsyncMessage}
use Rattle.iscsi_pdu.specs.declared.head.reject.Reject.{Reject}

-- the tag that names no task and no transfer (RFC 7143, sections 11.2.1.8 and 11.7.4)
abbrev pub reserved_tag : ℕ
reserved_tag = 0xffff_ffff

-- a tag other than the reserved one (RFC 7143, section 11.7.4)
abbrev pub is_tag : ℕ → Bool
is_tag target_transfer_tag = not (target_transfer_tag == reserved_tag)

-- NOP-Out, RFC 7143, section 11.18
abbrev pub nop_out : NopOut → List Row
nop_out h =
    bit 0 0x40 (always h.immediate)
    ∷ bytes 8 15 (only_if (is_tag h.target_transfer_tag) h.lun)
    ∷ bytes 16 19 (always h.initiator_task_tag)
    ∷ bytes 20 23 (always h.target_transfer_tag)
    ∷ bytes 24 27 (always h.cmd_sn)
    ∷ bytes 28 31 (always h.exp_stat_sn)
    ∷ []

-- SCSI Command, RFC 7143, section 11.3; its descriptor block, bytes 32 to 47, has a table of its
-- own
abbrev pub scsi_command : ScsiCommand → List Row
scsi_command h =
    bit 0 0x40 (always h.immediate)
    ∷ bit 1 0x80 (always h.is_final)
    ∷ bit 1 0x40 (always h.read)
    ∷ bit 1 0x20 (always h.write)
    ∷ bits 1 0x07 (always h.attribute)
    ∷ bytes 8 15 (always h.lun)
    ∷ bytes 16 19 (always h.initiator_task_tag)
    ∷ bytes 20 23 (always h.expected_data_transfer_length)
    ∷ bytes 24 27 (always h.cmd_sn)
    ∷ bytes 28 31 (always h.exp_stat_sn)
    ∷ []

-- Task Management Function Request, RFC 7143, section 11.5; each field is kept whatever the
-- function (own rule)
abbrev pub task_request : TaskRequest → List Row
task_request h =
    bit 0 0x40 (always h.immediate)
    ∷ bits 1 0x7f (always h.function)
    ∷ bytes 8 15 (always h.lun)
    ∷ bytes 16 19 (always h.initiator_task_tag)
    ∷ bytes 20 23 (always h.referenced_task_tag)
    ∷ bytes 24 27 (always h.cmd_sn)
    ∷ bytes 28 31 (always h.exp_stat_sn)
    ∷ bytes 32 35 (always h.ref_cmd_sn)
    ∷ bytes 36 39 (always h.exp_data_sn)
    ∷ []

-- Login Request, RFC 7143, section 11.12
abbrev pub login_request : LoginRequest → List Row
login_request h =
    bit 1 0x80 (always h.transits)
    ∷ bit 1 0x40 (always h.continues)
    ∷ bits 1 0x0c (always h.current_stage)
    ∷ bits 1 0x03 (only_if h.transits h.next_stage)
    ∷ bytes 2 2 (always h.version_max)
    ∷ bytes 3 3 (always h.version_min)
    ∷ raw 8 13 (always h.isid)
    ∷ bytes 14 15 (always h.tsih)
    ∷ bytes 16 19 (always h.initiator_task_tag)
    ∷ bytes 20 21 (always h.connection_id)
    ∷ bytes 24 27 (always h.cmd_sn)
    ∷ bytes 28 31 (always h.exp_stat_sn)
    ∷ []

-- Text Request, RFC 7143, section 11.10; the condition of the LUN is own rule
abbrev pub text_request : TextRequest → List Row
text_request h =
    bit 0 0x40 (always h.immediate)
    ∷ bit 1 0x80 (always h.is_final)
    ∷ bit 1 0x40 (always h.continues)
    ∷ bytes 8 15 (only_if (is_tag h.target_transfer_tag) h.lun)
    ∷ bytes 16 19 (always h.initiator_task_tag)
    ∷ bytes 20 23 (always h.target_transfer_tag)
    ∷ bytes 24 27 (always h.cmd_sn)
    ∷ bytes 28 31 (always h.exp_stat_sn)
    ∷ []

-- SCSI Data-Out, RFC 7143, section 11.7
abbrev pub data_out : DataOut → List Row
data_out h =
    bit 1 0x80 (always h.is_final)
    ∷ bytes 8 15 (only_if (is_tag h.target_transfer_tag) h.lun)
    ∷ bytes 16 19 (always h.initiator_task_tag)
    ∷ bytes 20 23 (always h.target_transfer_tag)
    ∷ bytes 28 31 (always h.exp_stat_sn)
    ∷ bytes 36 39 (always h.data_sn)
    ∷ bytes 40 43 (always h.buffer_offset)
    ∷ []

-- Logout Request, RFC 7143, section 11.14
abbrev pub logout_request : LogoutRequest → List Row
logout_request h =
    bit 0 0x40 (always h.immediate)
    ∷ bits 1 0x7f (always h.reason)
    ∷ bytes 16 19 (always h.initiator_task_tag)
    ∷ bytes 20 21 (only_if (not (h.reason == 0)) h.connection_id)
    ∷ bytes 24 27 (always h.cmd_sn)
    ∷ bytes 28 31 (always h.exp_stat_sn)
    ∷ []

-- NOP-In, RFC 7143, section 11.19
abbrev pub nop_in : NopIn → List Row
nop_in h =
    bytes 8 15 (only_if (is_tag h.target_transfer_tag) h.lun)
    ∷ bytes 16 19 (always h.initiator_task_tag)
    ∷ bytes 20 23 (always h.target_transfer_tag)
    ∷ bytes 24 27 (always h.stat_sn)
    ∷ bytes 28 31 (always h.exp_cmd_sn)
    ∷ bytes 32 35 (always h.max_cmd_sn)
    ∷ []

-- SCSI Response, RFC 7143, section 11.4; the SNACK tag, bytes 20 to 23, means nothing at recovery
-- level 0 (own rule)
abbrev pub scsi_response : ScsiResponse → List Row
scsi_response h =
    bit 1 0x10 (always h.bidirectional_overflow)
    ∷ bit 1 0x08 (always h.bidirectional_underflow)
    ∷ bit 1 0x04 (always h.overflow)
    ∷ bit 1 0x02 (always h.underflow)
    ∷ bytes 2 2 (always h.response)
    ∷ bytes 3 3 (only_if (h.response == 0) h.status)
    ∷ bytes 16 19 (always h.initiator_task_tag)
    ∷ bytes 24 27 (always h.stat_sn)
    ∷ bytes 28 31 (always h.exp_cmd_sn)
    ∷ bytes 32 35 (always h.max_cmd_sn)
    ∷ bytes 36 39 (only_if (h.response == 0) h.exp_data_sn)
    ∷ bytes 40 43 (only_if (h.bidirectional_overflow || h.bidirectional_underflow) h.bidirectional_residual)
    ∷ bytes 44 47 (only_if (h.overflow || h.underflow) h.residual)
    ∷ []

-- Task Management Function Response, RFC 7143, section 11.6
abbrev pub task_response : TaskResponse → List Row
task_response h =
    bytes 2 2 (always h.response)
    ∷ bytes 16 19 (always h.initiator_task_tag)
    ∷ bytes 24 27 (always h.stat_sn)
    ∷ bytes 28 31 (always h.exp_cmd_sn)
    ∷ bytes 32 35 (always h.max_cmd_sn)
    ∷ []

-- Login Response, RFC 7143, section 11.13
abbrev pub login_response : LoginResponse → List Row
login_response h =
    bit 1 0x80 (always h.transits)
    ∷ bit 1 0x40 (always h.continues)
    ∷ bits 1 0x0c (always h.current_stage)
    ∷ bits 1 0x03 (only_if h.transits h.next_stage)
    ∷ bytes 2 2 (always h.version_max)
    ∷ bytes 3 3 (always h.version_active)
    ∷ raw 8 13 (always h.isid)
    ∷ bytes 14 15 (always h.tsih)
    ∷ bytes 16 19 (always h.initiator_task_tag)
    ∷ bytes 24 27 (only_if (h.status_class == 0) h.stat_sn)
    ∷ bytes 28 31 (always h.exp_cmd_sn)
    ∷ bytes 32 35 (always h.max_cmd_sn)
    ∷ bytes 36 36 (always h.status_class)
    ∷ bytes 37 37 (always h.status_detail)
    ∷ []

-- Text Response, RFC 7143, section 11.11; the condition of the LUN is own rule
abbrev pub text_response : TextResponse → List Row
text_response h =
    bit 1 0x80 (always h.is_final)
    ∷ bit 1 0x40 (always h.continues)
    ∷ bytes 8 15 (only_if (is_tag h.target_transfer_tag) h.lun)
    ∷ bytes 16 19 (always h.initiator_task_tag)
    ∷ bytes 20 23 (always h.target_transfer_tag)
    ∷ bytes 24 27 (always h.stat_sn)
    ∷ bytes 28 31 (always h.exp_cmd_sn)
    ∷ bytes 32 35 (always h.max_cmd_sn)
    ∷ []

-- SCSI Data-In, RFC 7143, section 11.7; the condition of the LUN is own rule
abbrev pub data_in : DataIn → List Row
data_in h =
    bit 1 0x80 (always h.is_final)
    ∷ bit 1 0x40 (always h.acknowledge)
    ∷ bit 1 0x04 (only_if h.has_status h.overflow)
    ∷ bit 1 0x02 (only_if h.has_status h.underflow)
    ∷ bit 1 0x01 (always h.has_status)
    ∷ bytes 3 3 (only_if h.has_status h.status)
    ∷ bytes 8 15 (only_if (is_tag h.target_transfer_tag) h.lun)
    ∷ bytes 16 19 (always h.initiator_task_tag)
    ∷ bytes 20 23 (always h.target_transfer_tag)
    ∷ bytes 24 27 (only_if h.has_status h.stat_sn)
    ∷ bytes 28 31 (always h.exp_cmd_sn)
    ∷ bytes 32 35 (always h.max_cmd_sn)
    ∷ bytes 36 39 (always h.data_sn)
    ∷ bytes 40 43 (always h.buffer_offset)
    ∷ bytes 44 47 (only_if h.has_status h.residual)
    ∷ []

-- Logout Response, RFC 7143, section 11.15
abbrev pub logout_response : LogoutResponse → List Row
logout_response h =
    bytes 2 2 (always h.response)
    ∷ bytes 16 19 (always h.initiator_task_tag)
    ∷ bytes 24 27 (always h.stat_sn)
    ∷ bytes 28 31 (always h.exp_cmd_sn)
    ∷ bytes 32 35 (always h.max_cmd_sn)
    ∷ bytes 40 41 (always h.time2wait)
    ∷ bytes 42 43 (always h.time2retain)
    ∷ []

-- Ready To Transfer, RFC 7143, section 11.8
abbrev pub ready_to_transfer : ReadyToTransfer → List Row
ready_to_transfer h =
    bytes 8 15 (always h.lun)
    ∷ bytes 16 19 (always h.initiator_task_tag)
    ∷ bytes 20 23 (always h.target_transfer_tag)
    ∷ bytes 24 27 (always h.stat_sn)
    ∷ bytes 28 31 (always h.exp_cmd_sn)
    ∷ bytes 32 35 (always h.max_cmd_sn)
    ∷ bytes 36 39 (always h.r2t_sn)
    ∷ bytes 40 43 (always h.buffer_offset)
    ∷ bytes 44 47 (always h.desired_data_transfer_length)
    ∷ []

-- Asynchronous Message, RFC 7143, section 11.9
abbrev pub async_message : AsyncMessage → List Row
async_message h =
    bytes 8 15 (only_if (h.async_event == 0 || h.async_event == 5) h.lun)
    ∷ bytes 24 27 (always h.stat_sn)
    ∷ bytes 28 31 (always h.exp_cmd_sn)
    ∷ bytes 32 35 (always h.max_cmd_sn)
    ∷ bytes 36 36 (always h.async_event)
    ∷ bytes 37 37 (always h.async_vendor_code)
    ∷ bytes 38 39 (always h.parameter1)
    ∷ bytes 40 41 (always h.parameter2)
    ∷ bytes 42 43 (always h.parameter3)
    ∷ []

-- Reject, RFC 7143, section 11.17; bytes 36 to 39 mean nothing at recovery level 0 (own rule)
abbrev pub reject : Reject → List Row
reject h =
    bytes 2 2 (always h.reason)
    ∷ bytes 24 27 (always h.stat_sn)
    ∷ bytes 28 31 (always h.exp_cmd_sn)
    ∷ bytes 32 35 (always h.max_cmd_sn)
    ∷ []

-- the row of a SCSI Command's descriptor block, as it is written (RFC 7143, section 11.3.5)
abbrev pub block_rows : Cdb → List Row
block_rows cdb = raw 32 47 (always (canonical cdb)) ∷ []

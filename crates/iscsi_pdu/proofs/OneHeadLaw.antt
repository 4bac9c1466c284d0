-- Bytes have one head.
use Rattle.std.proofs.Common.{◌≡◌, ℕ, List}
use Rattle.scsi_cdb.specs.Layout.{RowsHold}
use Rattle.iscsi_pdu.specs.declared.head.nop_out.NopOut.{NopOut}
use Rattle.iscsi_pdu.specs.declared.head.scsi_command.ScsiCommand.{ScsiCommand}
use Rattle.iscsi_pdu.specs.declared.head.task_request.TaskRequest.{TaskRequest}
use Rattle.iscsi_pdu.specs.declared.head.login_request.LoginRequest.{LoginRequest}
use Rattle.iscsi_pdu.specs.declared.head.text_request.TextRequest.{TextRequest}
use Rattle.iscsi_pdu.specs.declared.head.data_out.DataOut.{DataOut}
use Rattle.iscsi_pdu.specs.declared.head.logout_request.LogoutRequest.{LogoutRequest}
use Rattle.iscsi_pdu.specs.declared.head.nop_in.NopIn.{NopIn}
use Rattle.iscsi_pdu.specs.declared.head.scsi_response.ScsiResponse.{ScsiResponse}
use Rattle.iscsi_pdu.specs.declared.head.task_response.TaskResponse.{TaskResponse}
use Rattle.iscsi_pdu.specs.declared.head.login_response.LoginResponse.{LoginResponse}
use Rattle.iscsi_pdu.specs.declared.head.text_response.TextResponse.{TextResponse}
use Rattle.iscsi_pdu.specs.declared.head.data_in.DataIn.{DataIn}
use Rattle.iscsi_pdu.specs.declared.head.logout_response.LogoutResponse.{LogoutResponse}
use Rattle.iscsi_pdu.specs.declared.head.ready_to_transfer.ReadyToTransfer.{ReadyToTransfer}
use Rattle.iscsi_pdu.specs.declared.head.async_message.AsyncMessage.{AsyncMessage}
use Rattle.iscsi_pdu.specs.declared.head.reject.Reject.{Reject}
use Rattle.iscsi_pdu.specs.Fields.{nop_out, scsi_command, task_request, login_request, text_request, data_out, logout_request, nop_in, scsi_response}
use Rattle.iscsi_pdu.specs.Fields.{task_response, login_response, text_response, data_in, logout_response, ready_to_transfer, async_message, reject}

pub nop_out-unique : (b : List ℕ) (x y : NopOut) → RowsHold b (nop_out x) → RowsHold b (nop_out y) → x ≡ y
nop_out-unique b x y p q = let e : ◌≡◌ {A = NopOut} (record x { immediate = x.immediate }) (record y { immediate = y.immediate }) = cc in e

pub scsi_command-unique : (b : List ℕ) (x y : ScsiCommand) → RowsHold b (scsi_command x) → RowsHold b (scsi_command y) → x.cdb ≡ y.cdb → x ≡ y
scsi_command-unique b x y p q c = let e : ◌≡◌ {A = ScsiCommand} (record x { immediate = x.immediate }) (record y { immediate = y.immediate }) = cc in e

pub task_request-unique : (b : List ℕ) (x y : TaskRequest) → RowsHold b (task_request x) → RowsHold b (task_request y) → x ≡ y
task_request-unique b x y p q = let e : ◌≡◌ {A = TaskRequest} (record x { immediate = x.immediate }) (record y { immediate = y.immediate }) = cc in e

pub login_request-unique : (b : List ℕ) (x y : LoginRequest) → RowsHold b (login_request x) → RowsHold b (login_request y) → x ≡ y
login_request-unique b x y p q = let e : ◌≡◌ {A = LoginRequest} (record x { transits = x.transits }) (record y { transits = y.transits }) = cc in e

pub text_request-unique : (b : List ℕ) (x y : TextRequest) → RowsHold b (text_request x) → RowsHold b (text_request y) → x ≡ y
text_request-unique b x y p q = let e : ◌≡◌ {A = TextRequest} (record x { immediate = x.immediate }) (record y { immediate = y.immediate }) = cc in e

pub data_out-unique : (b : List ℕ) (x y : DataOut) → RowsHold b (data_out x) → RowsHold b (data_out y) → x ≡ y
data_out-unique b x y p q = let e : ◌≡◌ {A = DataOut} (record x { is_final = x.is_final }) (record y { is_final = y.is_final }) = cc in e

pub logout_request-unique : (b : List ℕ) (x y : LogoutRequest) → RowsHold b (logout_request x) → RowsHold b (logout_request y) → x ≡ y
logout_request-unique b x y p q = let e : ◌≡◌ {A = LogoutRequest} (record x { immediate = x.immediate }) (record y { immediate = y.immediate }) = cc in e

pub nop_in-unique : (b : List ℕ) (x y : NopIn) → RowsHold b (nop_in x) → RowsHold b (nop_in y) → x ≡ y
nop_in-unique b x y p q = let e : ◌≡◌ {A = NopIn} (record x { initiator_task_tag = x.initiator_task_tag })
    (record y { initiator_task_tag = y.initiator_task_tag }) = cc in e

pub scsi_response-unique : (b : List ℕ) (x y : ScsiResponse) → RowsHold b (scsi_response x) → RowsHold b (scsi_response y) → x ≡ y
scsi_response-unique b x y p q = let e : ◌≡◌ {A = ScsiResponse} (record x { bidirectional_overflow = x.bidirectional_overflow })
    (record y { bidirectional_overflow = y.bidirectional_overflow }) = cc in e

pub task_response-unique : (b : List ℕ) (x y : TaskResponse) → RowsHold b (task_response x) → RowsHold b (task_response y) → x ≡ y
task_response-unique b x y p q = let e : ◌≡◌ {A = TaskResponse} (record x { response = x.response }) (record y { response = y.response }) = cc in e

pub login_response-unique : (b : List ℕ) (x y : LoginResponse) → RowsHold b (login_response x) → RowsHold b (login_response y) → x ≡ y
login_response-unique b x y p q = let e : ◌≡◌ {A = LoginResponse} (record x { transits = x.transits }) (record y { transits = y.transits }) = cc in e

pub text_response-unique : (b : List ℕ) (x y : TextResponse) → RowsHold b (text_response x) → RowsHold b (text_response y) → x ≡ y
text_response-unique b x y p q = let e : ◌≡◌ {A = TextResponse} (record x { is_final = x.is_final }) (record y { is_final = y.is_final }) = cc in e

pub data_in-unique : (b : List ℕ) (x y : DataIn) → RowsHold b (data_in x) → RowsHold b (data_in y) → x ≡ y
data_in-unique b x y p q = let e : ◌≡◌ {A = DataIn} (record x { is_final = x.is_final }) (record y { is_final = y.is_final }) = cc in e

pub logout_response-unique : (b : List ℕ) (x y : LogoutResponse) → RowsHold b (logout_response x) → RowsHold b (logout_response y) → x ≡ y
logout_response-unique b x y p q = let e : ◌≡◌ {A = LogoutResponse} (record x { response = x.response }) (record y { response = y.response }) = cc in e

pub ready_to_transfer-unique : (b : List ℕ) (x y : ReadyToTransfer) → RowsHold b (ready_to_transfer x) → RowsHold b (ready_to_transfer y) → x ≡ y
ready_to_transfer-unique b x y p q = let e : ◌≡◌ {A = ReadyToTransfer} (record x { lun = x.lun }) (record y { lun = y.lun }) = cc in e

pub async_message-unique : (b : List ℕ) (x y : AsyncMessage) → RowsHold b (async_message x) → RowsHold b (async_message y) → x ≡ y
async_message-unique b x y p q = let e : ◌≡◌ {A = AsyncMessage} (record x { stat_sn = x.stat_sn }) (record y { stat_sn = y.stat_sn }) = cc in e

pub reject-unique : (b : List ℕ) (x y : Reject) → RowsHold b (reject x) → RowsHold b (reject y) → x ≡ y
reject-unique b x y p q = let e : ◌≡◌ {A = Reject} (record x { reason = x.reason }) (record y { reason = y.reason }) = cc in e

-- A request is handed in (RFC 7143, sections 4.2 and 11.3).
use Rattle.std.specs.Prelude.{ℕ, Bool, true, false, not, ◌+◌, ◌==◌, ◌&&◌, ◌||◌, nat_lt, if◌then◌else◌, List, [], ◌∷◌, length, take, drop, min, Option, Some, None, is_some}
use Rattle.iscsi_pdu.specs.declared.head.Head.{Head}
use Rattle.iscsi_pdu.specs.declared.head.Head.TheVariants as heads
use Rattle.iscsi_pdu.specs.declared.head.scsi_command.ScsiCommand.{ScsiCommand}
use Rattle.iscsi_pdu.specs.declared.head.nop_out.NopOut.{NopOut}
use Rattle.iscsi_pdu.specs.declared.head.text_request.TextRequest.{TextRequest}
use Rattle.iscsi_pdu.specs.declared.head.logout_request.LogoutRequest.{LogoutRequest}
use Rattle.iscsi_pdu.specs.Serial.{next_sn, is_within}
use Rattle.iscsi_stream.specs.Segment.{Bytes}
use Rattle.iscsi_stream.specs.Stream.{Message}
use Rattle.iscsi_text.specs.declared.negotiated.NegKey.TheVariants.{InitialR2T, ImmediateData}
use Rattle.iscsi_login.specs.declared.phase.Phase.{Phase}
use Rattle.iscsi_login.specs.declared.phase.Phase.TheVariants as phases
use Rattle.iscsi_login.specs.Held.{is_on, unasked}
use Rattle.iscsi_initiator.specs.declared.request.Request.{Request}
use Rattle.iscsi_initiator.specs.declared.request.Request.TheVariants.{In, Out, Ping, Text, Logout}
use Rattle.iscsi_initiator.specs.declared.request.SubmitFault.{SubmitFault}
use Rattle.iscsi_initiator.specs.declared.request.SubmitFault.TheVariants as refusals
use Rattle.iscsi_initiator.specs.declared.outstanding.Outstanding.{Outstanding}
use Rattle.iscsi_initiator.specs.declared.outstanding.Outstanding.TheVariants as opens
use Rattle.iscsi_initiator.specs.State.{InitiatorSession, next_tag, sent_exp_stat_sn}
use Rattle.iscsi_pdu.specs.Fields.{reserved_tag}
use Rattle.scsi_cdb.specs.Blocks.{record_of}
use Rattle.iscsi_initiator.specs.Full.{sequence}

-- The session after a request, what is sent, and why it is refused, if it is.
pub record SubmitStep : Type 0 where
  pub machine : InitiatorSession
  pub output : List Message
  pub refusal : Option SubmitFault

-- ---- refusals, in their order

-- The most bytes that one command moves (own rule).
abbrev pub most_bytes : ℕ
most_bytes = 4194304

-- The request has or asks for more bytes than may go (section 13.12; that of commands is own rule).
abbrev pub is_request_too_long : InitiatorSession → Request → Bool
is_request_too_long m (In lun cdb expected) = nat_lt most_bytes expected
is_request_too_long m (Out lun cdb bytes) = nat_lt most_bytes (length bytes)
is_request_too_long m (Ping bytes) = nat_lt m.held.target_max_recv (length bytes)
is_request_too_long m (Text bytes) = nat_lt m.held.target_max_recv (length bytes)
is_request_too_long m Logout = false

-- Why a request is refused in full feature phase (own rule).
abbrev pub refusal_when_full : InitiatorSession → Request → Option SubmitFault
refusal_when_full m request =
    if is_some m.outstanding || is_some m.done then Some refusals.Busy
    else (if not (is_within m.cmd_sn m.window.exp.0 m.window.max.0) then Some refusals.Shut
    else (if is_request_too_long m request then Some refusals.TooLong else None))

-- Why a request is refused, by the phase.
abbrev pub refusal_in : Phase → InitiatorSession → Request → Option SubmitFault
refusal_in phases.Closed m request = Some refusals.Closed
refusal_in phases.Login m request = Some refusals.NotReady
refusal_in phases.Full m request = refusal_when_full m request

-- Why a request is refused, if it is.
abbrev pub submit_refusal : InitiatorSession → Request → Option SubmitFault
submit_refusal m request = refusal_in m.phase m request

-- ---- requests that are accepted

-- The session with a new request, whose tag and CmdSN are the next (section 4.2.2.1).
abbrev pub request_begun : InitiatorSession → Outstanding → InitiatorSession
request_begun m request = record m {
  initiator_task_tag = next_tag m.initiator_task_tag;
  cmd_sn = next_sn m.cmd_sn;
  outstanding = Some request;
}

-- A request is accepted, and these go out.
abbrev pub accepts : InitiatorSession → List Message → SubmitStep
accepts m messages = record { machine = m; output = messages; refusal = None }

-- The bytes that the command itself carries (section 13.11).
abbrev pub immediate_data : InitiatorSession → List ℕ → List ℕ
immediate_data m bytes =
    if is_on m.held ImmediateData
    then take (min (unasked m.held (length bytes)) m.held.target_max_recv) bytes else []

-- Bytes of the first burst are left, and follow without being asked for (section 13.10).
abbrev pub has_more : InitiatorSession → List ℕ → Bool
has_more m bytes =
    not (is_on m.held InitialR2T)
    && nat_lt (length (immediate_data m bytes)) (unasked m.held (length bytes))

-- The bytes that follow the command without being asked for (section 13.10).
abbrev pub unsolicited : InitiatorSession → List ℕ → List ℕ
unsolicited m bytes =
    if has_more m bytes then drop (length (immediate_data m bytes)) (take (unasked m.held (length bytes)) bytes) else []

-- A request is accepted: it is outstanding, and one PDU goes out (section 4.2.2.1).
abbrev pub begins : InitiatorSession → Outstanding → Head → List ℕ → SubmitStep
begins m request head bytes =
    accepts (request_begun m request) (record { head = head; segment = Bytes bytes } ∷ [])

-- The head of a command of simple order that moves nothing (sections 11.3 and 11.3.1).
abbrev pub command_head : InitiatorSession → Bool → ℕ → List ℕ → ScsiCommand
command_head m is_final lun cdb = record {
  immediate = false;
  is_final = is_final;
  read = false;
  write = false;
  attribute = 1;
  lun = lun;
  initiator_task_tag = next_tag m.initiator_task_tag;
  expected_data_transfer_length = 0;
  cmd_sn = m.cmd_sn;
  exp_stat_sn = sent_exp_stat_sn m;
  cdb = record_of cdb;
}

-- A command that may read begins (section 11.3).
abbrev pub reads : InitiatorSession → ℕ → List ℕ → ℕ → SubmitStep
reads m lun cdb expected =
    begins m (opens.In (record { expected = expected; received = []; next_data_sn = 0 }))
    (heads.ScsiCommand (record (command_head m true lun cdb) {
      read = not (expected == 0);
      expected_data_transfer_length = expected;
    })) []

-- The session with a new command that may write (section 11.3).
abbrev pub write_begun : InitiatorSession → List ℕ → InitiatorSession
write_begun m bytes = request_begun m (opens.Out (record {
  bytes = bytes;
  sent = length (immediate_data m bytes) + length (unsolicited m bytes);
  next_r2t_sn = 0;
}))

-- A command that may write begins: it, with its immediate data, and the unsolicited data (sections
-- 11.3 and 11.7).
abbrev pub write_submitted : InitiatorSession → ℕ → List ℕ → List ℕ → SubmitStep
write_submitted m lun cdb bytes =
    accepts (write_begun m bytes)
    (record {
      head = heads.ScsiCommand (record (command_head m (not (has_more m bytes)) lun cdb) {
        write = not (length bytes == 0);
        expected_data_transfer_length = length bytes;
      });
      segment = Bytes (immediate_data m bytes);
    } ∷ sequence (write_begun m bytes) None reserved_tag (length (immediate_data m bytes))
    (unsolicited m bytes))

-- The head of a ping (section 11.18).
abbrev pub ping_head : InitiatorSession → NopOut
ping_head m = record {
  immediate = false;
  lun = None;
  initiator_task_tag = next_tag m.initiator_task_tag;
  target_transfer_tag = reserved_tag;
  cmd_sn = m.cmd_sn;
  exp_stat_sn = sent_exp_stat_sn m;
}

-- The head of a text request (section 11.10).
abbrev pub text_request_head : InitiatorSession → TextRequest
text_request_head m = record {
  immediate = false;
  is_final = true;
  continues = false;
  lun = None;
  initiator_task_tag = next_tag m.initiator_task_tag;
  target_transfer_tag = reserved_tag;
  cmd_sn = m.cmd_sn;
  exp_stat_sn = sent_exp_stat_sn m;
}

-- The head of a logout of the whole session (section 11.14).
abbrev pub logout_request_head : InitiatorSession → LogoutRequest
logout_request_head m = record {
  immediate = false;
  reason = 0;
  initiator_task_tag = next_tag m.initiator_task_tag;
  connection_id = None;
  cmd_sn = m.cmd_sn;
  exp_stat_sn = sent_exp_stat_sn m;
}

-- A request that is accepted begins (section 11).
abbrev pub accepted : InitiatorSession → Request → SubmitStep
accepted m (In lun cdb expected) = reads m lun cdb expected
accepted m (Out lun cdb bytes) = write_submitted m lun cdb bytes
accepted m (Ping bytes) = begins m opens.Ping (heads.NopOut (ping_head m)) bytes
accepted m (Text bytes) = begins m opens.Text (heads.TextRequest (text_request_head m)) bytes
accepted m Logout = begins m opens.Logout (heads.LogoutRequest (logout_request_head m)) []

-- A refused request changes and sends nothing.
abbrev pub or_accepted : Option SubmitFault → InitiatorSession → Request → SubmitStep
or_accepted None m request = accepted m request
or_accepted (Some fault) m request = record { machine = m; output = []; refusal = Some fault }

-- A request is handed in (section 4.2).
unfoldable pub submitted : InitiatorSession → Request → SubmitStep
submitted m request = or_accepted (submit_refusal m request) m request

-- The initiator in full feature phase (RFC 7143, sections 4.2 and 11).
use Rattle.std.specs.Prelude.{ℕ, Bool, true, false, not, ◌+◌, ◌*◌, ◌==◌, ◌&&◌, nat_le, nat_lt, if◌then◌else◌, List, [], ◌∷◌, ◌++◌, length, take, drop, Option, Some, None, unwrap_or}
use Rattle.std.specs.Bool.{then_some}
use Rattle.scsi_cdb.specs.declared.residual.Residual.{Residual}
use Rattle.scsi_cdb.specs.declared.residual.Residual.TheVariants.{Exact, Under, Over}
use Rattle.iscsi_pdu.specs.declared.head.Head.{Head}
use Rattle.iscsi_pdu.specs.declared.head.Head.TheVariants as heads
use Rattle.iscsi_pdu.specs.declared.head.nop_out.NopOut.{NopOut}
use Rattle.iscsi_pdu.specs.declared.head.nop_in.NopIn.{NopIn}
use Rattle.iscsi_pdu.specs.declared.head.scsi_response.ScsiResponse.{ScsiResponse}
use Rattle.iscsi_pdu.specs.declared.head.text_response.TextResponse.{TextResponse}
use Rattle.iscsi_pdu.specs.declared.head.data_in.DataIn.{DataIn}
use Rattle.iscsi_pdu.specs.declared.head.data_out.DataOut.{DataOut}
use Rattle.iscsi_pdu.specs.declared.head.ready_to_transfer.ReadyToTransfer.{ReadyToTransfer}
use Rattle.iscsi_pdu.specs.Fields.{is_tag, reserved_tag}
use Rattle.iscsi_pdu.specs.Serial.{moved, next_sn}
use Rattle.iscsi_stream.specs.Segment.{Bytes}
use Rattle.iscsi_stream.specs.Stream.{Message}
use Rattle.iscsi_login.specs.Held.{max_burst}
use Rattle.iscsi_initiator.specs.declared.request.Done.{Done}
use Rattle.iscsi_initiator.specs.declared.request.Done.TheVariants as done
use Rattle.iscsi_initiator.specs.declared.outstanding.Outstanding.{Outstanding}
use Rattle.iscsi_initiator.specs.declared.outstanding.Outstanding.TheVariants.{In, Out, Ping, Text, Logout}
use Rattle.iscsi_initiator.specs.declared.target_pdu.Answer.{Answer}
use Rattle.iscsi_initiator.specs.declared.target_pdu.Answer.TheVariants as answers
use Rattle.iscsi_initiator.specs.declared.target_pdu.Content.{Content}
use Rattle.iscsi_initiator.specs.declared.target_pdu.Content.TheVariants as contents
use Rattle.iscsi_initiator.specs.declared.target_pdu.Counters.{Counters}
use Rattle.iscsi_initiator.specs.declared.target_pdu.TargetPdu.{TargetPdu}
use Rattle.iscsi_initiator.specs.TargetPdu.{target_pdu}
use Rattle.iscsi_initiator.specs.State.{InitiatorSession, serial, sent_exp_stat_sn}
use Rattle.iscsi_initiator.specs.Progress.{ReadProgress, WriteProgress}
use Rattle.iscsi_initiator.specs.Login.{is_expected}
use Rattle.iscsi_initiator.specs.Steps.{InitiatorStep, closed_session, rule_broken, quiet, step_sending}
use Rattle.iscsi_stream.specs.Pieces.{chunks}
use Rattle.iscsi_pdu.specs.Rules.{data_out_of_order, kind_not_due, rejected, segment_too_long, status_out_of_order, text_at_fault}

-- ---- which PDUs are due

-- A PDU that is due, with what it is due to (section 11.2.1.8). UnsolicitedNopIn is a NOP-In that
-- answers no ping, Response an answer to a command that has received these bytes.
pub data DuePdu : Type 0 where
  UnsolicitedNopIn : NopIn → DuePdu
  Pong : DuePdu
  Data : ReadProgress → DataIn → DuePdu
  R2t : WriteProgress → ReadyToTransfer → DuePdu
  Response : List ℕ → ScsiResponse → DuePdu
  TextAnswer : TextResponse → DuePdu
  LogoutAnswer : DuePdu
  Async : DuePdu
  RejectPdu : DuePdu

-- What an answer is due to, by the outstanding request and the answer's kind (section 11).
abbrev pub due_to : Option Outstanding → Answer → Option DuePdu
due_to (Some Ping) answers.Ping = Some Pong
due_to (Some (In r)) (answers.Data h) = Some (Data r h)
due_to (Some (In r)) (answers.Response h) = Some (Response r.received h)
due_to (Some (Out w)) (answers.R2t h) = Some (R2t w h)
due_to (Some (Out w)) (answers.Response h) = Some (Response [] h)
due_to (Some Text) (answers.Text h) = Some (TextAnswer h)
due_to (Some Logout) answers.Logout = Some LogoutAnswer
due_to _ _ = None

-- What a PDU is due to, if it is due; what answers the outstanding request has its tag (section
-- 11.2.1.8).
abbrev pub due : InitiatorSession → Content → Option DuePdu
due m (contents.UnsolicitedNopIn h) = Some (UnsolicitedNopIn h)
due m contents.Async = Some Async
due m contents.Reject = Some RejectPdu
due m (contents.Tagged tag answer) =
    if tag == m.initiator_task_tag then due_to m.outstanding answer else None

-- ---- what each of them counts

-- A StatSN that has to be the expected one is (section 4.2.2.2).
abbrev pub is_in_turn : Option ℕ → Option ℕ → Bool
is_in_turn expected None = true
is_in_turn expected (Some stat_sn) = is_expected expected stat_sn

-- The number expected after it (section 4.2.2.2).
abbrev pub stat_sn_after : Option ℕ → Option ℕ → Option ℕ
stat_sn_after expected None = expected
stat_sn_after expected (Some stat_sn) = Some (next_sn stat_sn)

-- The session once a PDU's numbers are counted (sections 4.2.2.1 and 4.2.2.2).
abbrev pub update_counters : InitiatorSession → Counters → InitiatorSession
update_counters m counters = record m {
  exp_stat_sn = stat_sn_after m.exp_stat_sn counters.stat_sn;
  window = moved m.window (serial counters.exp_cmd_sn) (serial counters.max_cmd_sn);
}

-- ---- what each of them does

-- The outstanding request has this outcome (section 11).
abbrev pub completes : InitiatorSession → Done → InitiatorStep
completes m outcome = quiet (record m { outstanding = None; done = Some outcome })

-- The residual that a response names; overflow is looked at first (sections 11.4.1 and 11.4.5).
abbrev pub residual : Bool → Bool → ℕ → Residual
residual true under n = Over n
residual false true n = Under n
residual false false n = Exact

-- The head of a NOP-Out that answers and asks for nothing (section 11.18).
abbrev pub nop_answer : InitiatorSession → NopIn → NopOut
nop_answer m h = record {
  immediate = true;
  lun = h.lun;
  initiator_task_tag = reserved_tag;
  target_transfer_tag = h.target_transfer_tag;
  cmd_sn = m.cmd_sn;
  exp_stat_sn = sent_exp_stat_sn m;
}

-- A NOP-In of the target's own is answered where it has a transfer tag (section 11.19).
abbrev pub on_nop_in : InitiatorSession → NopIn → InitiatorStep
on_nop_in m h =
    if is_tag h.target_transfer_tag
    then step_sending m (record { head = heads.NopOut (nop_answer m h); segment = Bytes [] } ∷ [])
    else quiet m

-- The read has received these bytes more (section 11.7).
abbrev pub has_received : InitiatorSession → ReadProgress → List ℕ → InitiatorSession
has_received m r bytes = record m {
  outstanding = Some (In (record r {
    received = r.received ++ bytes;
    next_data_sn = next_sn r.next_data_sn;
  }));
}

-- The next DataSN, the next offset, and no byte more than expected (sections 11.7.4 and 11.7.5).
abbrev pub fits_reading : ReadProgress → DataIn → List ℕ → Bool
fits_reading r h bytes =
    (h.data_sn == r.next_data_sn) && (h.buffer_offset == length r.received)
    && nat_le (length r.received + length bytes) r.expected

-- A field without a value counts as 0 (section 11.7.3).
abbrev pub read_outcome : List ℕ → DataIn → Done
read_outcome received h = done.Command 0 (unwrap_or h.status 0) [] received
    (residual (unwrap_or h.overflow false) (unwrap_or h.underflow false) (unwrap_or h.residual 0))

-- Data of a read; with a status they complete it (section 11.7).
abbrev pub on_data : InitiatorSession → ReadProgress → DataIn → List ℕ → InitiatorStep
on_data m r h bytes =
    if not (fits_reading r h bytes) then rule_broken m data_out_of_order
    else (if h.has_status then completes m (read_outcome (r.received ++ bytes) h)
    else quiet (has_received m r bytes))

-- No piece follows (section 11.7.1).
abbrev pub is_last_piece : List (List ℕ) → Bool
is_last_piece [] = true
is_last_piece (piece ∷ pieces) = false

-- Data-Out PDUs with these pieces: DataSN and offset go on, and the last alone is final (section
-- 11.7).
abbrev pub data_outs : DataOut → List (List ℕ) → List Message
data_outs h [] = []
data_outs h (piece ∷ more) =
    record {
      head = heads.DataOut (record h { is_final = is_last_piece more });
      segment =
          Bytes piece;
    }
    ∷ data_outs (record h {
      data_sn = next_sn h.data_sn;
      buffer_offset = h.buffer_offset + length piece;
    }) more

-- One sequence of Data-Out PDUs: these bytes from this offset on (section 11.7).
abbrev pub sequence : InitiatorSession → Option ℕ → ℕ → ℕ → List ℕ → List Message
sequence m lun target_transfer_tag offset bytes =
    data_outs (record {
      is_final = false;
      lun = lun;
      initiator_task_tag = m.initiator_task_tag;
      target_transfer_tag = target_transfer_tag;
      exp_stat_sn = sent_exp_stat_sn m;
      data_sn = 0;
      buffer_offset = offset;
    }) (chunks m.held.target_max_recv bytes)

-- The next R2TSN, the next offset, 1 to MaxBurstLength bytes, all within the data (section 11.8).
abbrev pub fits_writing : InitiatorSession → WriteProgress → ReadyToTransfer → Bool
fits_writing m w h =
    (h.r2t_sn == w.next_r2t_sn) && (h.buffer_offset == w.sent)
    && nat_le 1 h.desired_data_transfer_length
    && nat_le h.desired_data_transfer_length (max_burst m.held)
    && nat_le (w.sent + h.desired_data_transfer_length) (length w.bytes)

-- The write has sent n bytes more, on one R2T more (section 11.8).
abbrev pub has_sent : InitiatorSession → WriteProgress → ℕ → InitiatorSession
has_sent m w n = record m {
  outstanding = Some (Out (record w { sent = w.sent + n; next_r2t_sn = next_sn w.next_r2t_sn }));
}

-- An R2T is answered with one sequence (section 11.8).
abbrev pub on_r2t : InitiatorSession → WriteProgress → ReadyToTransfer → InitiatorStep
on_r2t m w h =
    if fits_writing m w h
    then step_sending (has_sent m w h.desired_data_transfer_length)
    (sequence m (then_some (is_tag h.target_transfer_tag) h.lun) h.target_transfer_tag w.sent
    (take h.desired_data_transfer_length (drop w.sent w.bytes)))
    else rule_broken m data_out_of_order

-- The sense bytes behind their length; none where the segment is empty (section 11.4.7).
abbrev pub sense_of : List ℕ → Option (List ℕ)
sense_of [] = Some []
sense_of (high ∷ []) = None
sense_of (high ∷ low ∷ bytes) =
    then_some (nat_le (high * 256 + low) (length bytes)) (take (high * 256 + low) bytes)

-- A response completes its command, unless its sense is cut off (section 11.4).
abbrev pub outcome_with : Option (List ℕ) → InitiatorSession → List ℕ → ScsiResponse → InitiatorStep
outcome_with None m received h = rule_broken m data_out_of_order
outcome_with (Some sense) m received h =
    completes m (done.Command h.response (unwrap_or h.status 0) sense received
    (residual h.overflow h.underflow (unwrap_or h.residual 0)))

-- An answer to a text is to be whole (section 11.11.1; own rule).
abbrev pub on_text : InitiatorSession → TextResponse → List ℕ → InitiatorStep
on_text m h bytes =
    if h.is_final && not h.continues then completes m (done.Text bytes)
    else rule_broken m text_at_fault

-- What a PDU does once its numbers are counted (section 11).
abbrev pub on_due : InitiatorSession → DuePdu → List ℕ → InitiatorStep
on_due m (UnsolicitedNopIn h) bytes = on_nop_in m h
on_due m Pong bytes = completes m (done.Ping bytes)
on_due m (Data r h) bytes = on_data m r h bytes
on_due m (R2t w h) bytes = on_r2t m w h
on_due m (Response received h) bytes = outcome_with (sense_of bytes) m received h
on_due m (TextAnswer h) bytes = on_text m h bytes
on_due m LogoutAnswer bytes = completes (closed_session m) done.Closed
on_due m Async bytes = quiet m
on_due m RejectPdu bytes = rule_broken m rejected

-- Kind and tag come first, then the length of the segment, then StatSN (section 7.7; own rule).
abbrev pub takes : Option DuePdu → Counters → InitiatorSession → List ℕ → InitiatorStep
takes None counters m bytes = rule_broken m kind_not_due
takes (Some d) counters m bytes =
    if nat_lt m.held.initiator_max_recv (length bytes) then rule_broken m segment_too_long
    else (if not (is_in_turn m.exp_stat_sn counters.stat_sn)
    then rule_broken m status_out_of_order
    else on_due (update_counters m counters) d bytes)

-- A PDU of the target, unless its kind has no place there (section 11).
abbrev pub pdu_step : Option TargetPdu → InitiatorSession → List ℕ → InitiatorStep
pdu_step None m bytes = rule_broken m kind_not_due
pdu_step (Some pdu) m bytes = takes (due m pdu.content) pdu.counters m bytes

-- A message in full feature phase (section 4.2).
abbrev pub initiator_full_step : InitiatorSession → Head → List ℕ → InitiatorStep
initiator_full_step m head bytes = pdu_step (target_pdu head) m bytes

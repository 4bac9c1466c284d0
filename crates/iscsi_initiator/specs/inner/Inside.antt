-- What the functions of a session and of its stream see (RFC 7143, section 4).
use Rattle.std.specs.Prelude.{◌≡◌, ◌≢◌, ◌⊎◌, ℕ, Bool, true, false, not, nat_lt, length, take, if◌then◌else◌, List, [], ◌++◌, Option, None, Some, Result, Err, IfOk, OnOk, OnErr}
use Rattle.iscsi_pdu.specs.declared.head.data_out.DataOut.{DataOut}
use Rattle.iscsi_pdu.specs.declared.head.data_in.DataIn.{DataIn}
use Rattle.iscsi_pdu.specs.declared.head.ready_to_transfer.ReadyToTransfer.{ReadyToTransfer}
use Rattle.iscsi_pdu.specs.Meaning.{HeadFits, Means}
use Rattle.iscsi_pdu.specs.declared.head.Head.{Head}
use Rattle.iscsi_pdu.specs.declared.head.Head.TheVariants as heads
use Rattle.iscsi_stream.specs.declared.fault.StreamFault.{StreamFault}
use Rattle.iscsi_stream.specs.declared.fault.StreamFault.TheVariants as stream
use Rattle.iscsi_stream.specs.Framing.{Framing, FramerFeedFails, is_ready, pdu_given_up, message_of}
use Rattle.iscsi_stream.specs.Canonical.{canon}
use Rattle.iscsi_login.specs.declared.phase.Phase.{Phase}
use Rattle.iscsi_initiator.specs.declared.fault.InitiatorFault.TheVariants as faults
use Rattle.iscsi_initiator.specs.declared.fault.InitiatorFault.{InitiatorFault}
use Rattle.iscsi_initiator.specs.declared.outstanding.Outstanding.{Outstanding}
use Rattle.iscsi_initiator.specs.declared.outstanding.Outstanding.TheVariants as opens
use Rattle.iscsi_initiator.specs.declared.target_pdu.Content.{Content}
use Rattle.iscsi_initiator.specs.declared.target_pdu.Content.TheVariants as contents
use Rattle.iscsi_initiator.specs.State.{InitiatorSession, is_session_closed, next_tag, sent_exp_stat_sn}
use Rattle.iscsi_pdu.specs.Fields.{reserved_tag}
use Rattle.iscsi_initiator.specs.Steps.{InitiatorStep, closed_session, rule_broken}
use Rattle.iscsi_initiator.specs.Machine.{initiator_step}
use Rattle.iscsi_initiator.specs.Calls.{InitiatorConnection, ReceivedPdus, received_steps, InitiatorFeedPost}
use Rattle.iscsi_initiator.specs.Submitted.{immediate_data}
use Rattle.iscsi_initiator.specs.Full.{is_in_turn, on_data, on_r2t}
use Rattle.iscsi_pdu.specs.Rules.{kind_not_due, segment_too_long, status_out_of_order}

-- The step was taken: the session, the output and the fault are its own.
pub record StepTaken (stepped : InitiatorStep) (fault : Option InitiatorFault)
    (new : InitiatorSession)
    (before after : List ℕ) : Type 0 where
  pub machine : new ≡ stepped.machine
  pub output : after ≡ before ++ canon stepped.output
  pub fault_is : fault ≡ stepped.fault

-- What a message counts before it is answered is rolled back.
abbrev pub counters_rolled_back : InitiatorSession → InitiatorSession → InitiatorSession
counters_rolled_back old new = record new { exp_stat_sn = old.exp_stat_sn; window = old.window }

-- What was done with a message: the step was taken; without memory all is as it was.
pub record SessionStepPost {E : Type 0} (stepped : InitiatorStep)
    (result : Result (Option InitiatorFault) E)
    (old new : InitiatorSession) (before after : List ℕ) : Type 0 where
  pub ok : IfOk result (λ fault. StepTaken stepped fault new before after)
  pub err : OnErr result (new ≡ old)
  pub unwritten : OnErr result (after ≡ before)

-- The same, but without memory the message's numbers may be counted.
pub record CountedStepPost {E : Type 0} (stepped : InitiatorStep)
    (result : Result (Option InitiatorFault) E)
    (old new : InitiatorSession) (before after : List ℕ) : Type 0 where
  pub ok : IfOk result (λ fault. StepTaken stepped fault new before after)
  pub err : OnErr result (counters_rolled_back old new ≡ old)
  pub unwritten : OnErr result (after ≡ before)

-- A step that leads to no fault was taken; without memory all is as it was.
pub record SendStepPost {E : Type 0} (stepped : InitiatorStep) (result : Result (Unit {0}) E)
    (old new : InitiatorSession) (before after : List ℕ) : Type 0 where
  pub ok : OnOk result (StepTaken stepped None new before after)
  pub err : OnErr result (new ≡ old)
  pub unwritten : OnErr result (after ≡ before)

-- The fault of a message that is due, if the message breaks a rule. The length of its segment is
-- judged first, then the StatSN, which has to be the expected one (sections 4.2.2.2 and 13.12).
abbrev pub due_fault : InitiatorSession → ℕ → Option ℕ → Option InitiatorFault
due_fault m len stat_sn =
    if nat_lt m.held.initiator_max_recv len then Some (faults.Protocol segment_too_long)
    else (if not (is_in_turn m.exp_stat_sn stat_sn)
    then Some (faults.Protocol status_out_of_order) else None)

-- What is written of a PDU's head fits the table.
abbrev pub FitsContent : Content → Type 0
FitsContent (contents.UnsolicitedNopIn h) = HeadFits (heads.NopIn h)
FitsContent _ = Unit {0}

-- The bytes that the outstanding request has received (section 11.7).
abbrev pub received_by : Option Outstanding → List ℕ
received_by (Some (opens.In r)) = r.received
received_by _ = []

-- Data whose numbers are counted, by the outstanding request (section 11.7).
abbrev pub data_received : Option Outstanding → InitiatorSession → DataIn → List ℕ → InitiatorStep
data_received (Some (opens.In r)) m h bytes = on_data m r h bytes
data_received _ m h bytes = rule_broken m kind_not_due

-- An R2T whose numbers are counted, by the outstanding request (section 11.8).
abbrev pub r2t_received : Option Outstanding → InitiatorSession → ReadyToTransfer → InitiatorStep
r2t_received (Some (opens.Out w)) m h = on_r2t m w h
r2t_received _ m h = rule_broken m kind_not_due

-- The session with this outstanding request.
abbrev pub with_outstanding : InitiatorSession → Outstanding → InitiatorSession
with_outstanding m request = record m { outstanding = Some request }

-- The head of the first unsolicited Data-Out of a write of these bytes (section 11.7).
abbrev pub unsolicited_head : InitiatorSession → List ℕ → DataOut
unsolicited_head m bytes = record {
  is_final = false;
  lun = None;
  initiator_task_tag = next_tag m.initiator_task_tag;
  target_transfer_tag = reserved_tag;
  exp_stat_sn = sent_exp_stat_sn m;
  data_sn = 0;
  buffer_offset = length (immediate_data m bytes);
}

-- ---- the stream

-- The two parts of an initiator between two calls.
abbrev pub initiator_connection : InitiatorSession → Framing → InitiatorConnection
initiator_connection machine framing = record { machine = machine; framing = framing }

-- No PDU is ready, and nothing was done.
pub record InitiatorUnready (old : InitiatorConnection) (fault : Option InitiatorFault)
    (new : InitiatorConnection)
    (before after : List ℕ) : Type 0 where
  pub unready : is_ready old.framing ≡ false
  pub connection_is : new ≡ old
  pub output_is : after ≡ before
  pub fault_is : fault ≡ None

-- The PDU that is ready was received, and the framer is free for the next one.
pub record IsReceived (old : InitiatorConnection) (fault : Option InitiatorFault)
    (new : InitiatorConnection)
    (before after : List ℕ) : Type 0 where
  pub head : Head
  pub segment : List ℕ
  pub means : Means old.framing.held head segment
  pub framing_is : new.framing ≡ pdu_given_up old.framing head
  pub did : StepTaken (initiator_step old.machine (message_of old.framing head segment)) fault new.machine before after

-- The PDU that is ready was received, if one is.
abbrev pub ReceivesPdu : InitiatorConnection → Option InitiatorFault → InitiatorConnection → List ℕ
    → List ℕ → Type 0
ReceivesPdu old fault new before after =
    InitiatorUnready old fault new before after ⊎ IsReceived old fault new before after

-- Memory ran out at the PDU that is ready: the session is closed, and the PDU is dropped.
pub record InitiatorShutsReady (old new : InitiatorConnection) (before after : List ℕ) : Type
    0 where
  pub machine : new.machine ≡ closed_session old.machine
  pub unready : is_ready new.framing ≡ false
  pub output_is : after ≡ before

-- The rest of a stream is refused so.
abbrev pub InitiatorRestFails : Framing → List ℕ → InitiatorFault → Type 0
InitiatorRestFails framing rest faults.NoMemory = Unit {0}
InitiatorRestFails framing rest (faults.Stream fault) =
    (fault ≢ stream.NoMemory) × FramerFeedFails framing rest fault
InitiatorRestFails framing rest _ = ⊥

-- A stream's `NoMemory` is the initiator's own.
abbrev pub initiator_stream_fault : StreamFault → InitiatorFault
initiator_stream_fault stream.NoMemory = faults.NoMemory
initiator_stream_fault (stream.Head fault place) = faults.Stream (stream.Head fault place)
initiator_stream_fault (stream.OverLimit place) = faults.Stream (stream.OverLimit place)
initiator_stream_fault (stream.Truncated place) = faults.Stream (stream.Truncated place)
initiator_stream_fault stream.Failed = faults.Stream stream.Failed

-- Memory ran out behind some PDUs, and what was written before stands.
pub record FeedMemoryRanOut (old : InitiatorConnection) (piece : List ℕ)
    (received : ReceivedPdus old piece)
    (new : InitiatorConnection) (before after : List ℕ) : Type 0 where
  pub live : is_session_closed (received_steps old piece received).machine ≡ false
  pub machine : new.machine ≡ closed_session (received_steps old piece received).machine
  pub front : take (length before) after ≡ before

-- Memory ran out in a call of feed.
abbrev pub has_run_out : Result Phase InitiatorFault → Bool
has_run_out (Err faults.NoMemory) = true
has_run_out _ = false

-- What a call of feed does, but where memory runs out the end of what is written is not taken back.
abbrev pub FedUntil : Result Phase InitiatorFault → (old : InitiatorConnection) (piece : List ℕ) → InitiatorConnection → List ℕ → List ℕ → Type 0
FedUntil (Err faults.NoMemory) old piece new before after =
    (received : ReceivedPdus old piece) × FeedMemoryRanOut old piece received new before after
FedUntil result old piece new before after = InitiatorFeedPost result old piece new before after

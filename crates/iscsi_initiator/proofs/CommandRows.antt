-- Worked commands, computed.
use Rattle.std.proofs.Common.{◌≡◌, refl, ℕ, Bool, true, false, List, [], ◌∷◌, length, map, Some, None, take}
use Rattle.std.specs.Prelude.{replicate, if◌then◌else◌}
use Rattle.scsi_cdb.specs.declared.cdb.Cdb.TheVariants.{Write10}
use Rattle.scsi_cdb.specs.declared.residual.Residual.TheVariants.{Under}
use Rattle.scsi_cdb.specs.Layout.{bits_at, number_at, put_bit, put_number, put_bytes, put_raw}
use Rattle.scsi_cdb.specs.Blocks.{record_of}
use Rattle.iscsi_pdu.specs.declared.head.Head.{Head}
use Rattle.iscsi_pdu.specs.declared.head.Head.TheVariants as heads
use Rattle.iscsi_pdu.specs.Meaning.{whole, header}
use Rattle.iscsi_stream.specs.Segment.{Bytes, segment_bytes}
use Rattle.iscsi_stream.specs.Stream.{Message}
use Rattle.iscsi_stream.specs.Canonical.{canonical_bytes}
use Rattle.iscsi_text.specs.declared.negotiated.Answered.TheVariants.{Number, Flag, NoneItem}
use Rattle.iscsi_login.specs.declared.phase.Phase.TheVariants as phases
use Rattle.iscsi_login.specs.declared.stage.Stage.TheVariants.{Security, Full}
use Rattle.iscsi_initiator.specs.declared.fault.InitiatorFault.TheVariants.{Protocol}
use Rattle.iscsi_initiator.specs.declared.request.Request.TheVariants as requests
use Rattle.iscsi_initiator.specs.declared.request.Done.TheVariants as done
use Rattle.iscsi_initiator.specs.State.{InitiatorSession, new_session}
use Rattle.iscsi_initiator.specs.Steps.{InitiatorStep}
use Rattle.iscsi_initiator.specs.Machine.{initiator_step}
use Rattle.iscsi_initiator.specs.Submitted.{submitted, SubmitStep}
use Rattle.iscsi_initiator.proofs.Rows.{loop_settings, started}

-- the first request, byte for byte
start_header : map (λ (m : Message). take 48 (canonical_bytes m)) started.output ≡
    (0x43 ∷ 0x81 ∷ 0 ∷ 0 ∷ 0 ∷ 0 ∷ 0 ∷ 0x6e ∷ 0x40 ∷ 0 ∷ 0 ∷ 1 ∷ 0 ∷ 0 ∷ 0 ∷ 0 ∷ 0 ∷ 0 ∷ 0 ∷ 0 ∷ 0 ∷ 0 ∷ 0 ∷ 0
    ∷ 0 ∷ 0 ∷ 0 ∷ 1 ∷ 0 ∷ 0 ∷ 0 ∷ 0 ∷ 0 ∷ 0 ∷ 0 ∷ 0 ∷ 0 ∷ 0 ∷ 0 ∷ 0 ∷ 0 ∷ 0 ∷ 0 ∷ 0 ∷ 0 ∷ 0 ∷ 0 ∷ 0 ∷ []) ∷ []
unfolding segment_bytes whole header put_bit put_number put_bytes put_raw
start_header = refl

-- a session with bursts of 1,024 bytes and segments of 512
abbrev ready : InitiatorSession
ready = record (new_session (loop_settings Security 8192)) {
  started = true;
  phase = phases.Full;
  stage = Full;
  exp_stat_sn = Some 3;
  window = record { exp = record { 0 = 1 }; max = record { 0 = 1 } };
  held = record {
    values = Number 1 ∷ Flag false ∷ Flag true ∷ Number 1024 ∷ Number 65536 ∷ Number 2 ∷ Number 20 ∷ Number 1 ∷ Flag true ∷ Flag true ∷ Number 0 ∷ NoneItem ∷
        NoneItem ∷ NoneItem ∷ [];
    initiator_max_recv = 8192;
    target_max_recv = 512;
  };
}

-- F, DataSN, offset and length of what is sent
abbrev bit : Bool → ℕ
bit b = if b then 1 else 0

abbrev shape_of : Head → List ℕ → List ℕ
shape_of (heads.ScsiCommand h) bytes = 1 ∷ bit h.is_final ∷ h.initiator_task_tag ∷ h.cmd_sn ∷ h.exp_stat_sn ∷ h.expected_data_transfer_length ∷ length bytes ∷
    []
shape_of (heads.DataOut h) bytes = 5 ∷ bit h.is_final ∷ h.initiator_task_tag ∷ h.target_transfer_tag ∷ h.exp_stat_sn ∷ h.data_sn ∷ h.buffer_offset ∷ length
    bytes ∷ []
shape_of _ bytes = []

abbrev shape : Message → List ℕ
shape m = shape_of m.head (segment_bytes m.segment)

abbrev write8 : List ℕ
write8 = 0x2a ∷ 0 ∷ 0 ∷ 0 ∷ 0 ∷ 0 ∷ 0 ∷ 0 ∷ 8 ∷ 0 ∷ 0 ∷ 0 ∷ 0 ∷ 0 ∷ 0 ∷ 0 ∷ []

its_record : record_of write8 ≡ Write10 (record { options = 0; logical_block_address = 0; group_number = 0; blocks = 8; control = 0 })
unfolding record_of number_at bits_at
its_record = refl

abbrev wrote : SubmitStep
wrote = submitted ready (requests.Out 0 write8 (replicate 4096 0x5a))

abbrev r2t : ℕ → ℕ → ℕ → Message
r2t n offset desired_data_transfer_length = record {
  head = heads.ReadyToTransfer
      (record {
        lun = 0;
        initiator_task_tag = 1;
        target_transfer_tag = n;
        stat_sn = 3;
        exp_cmd_sn = 2;
        max_cmd_sn = 1;
        r2t_sn = n;
        buffer_offset = offset;
        desired_data_transfer_length = desired_data_transfer_length;
      });
  segment = Bytes [];
}

first_burst_out : map shape wrote.output ≡ (1 ∷ 0 ∷ 1 ∷ 1 ∷ 3 ∷ 4096 ∷ 512 ∷ []) ∷ (5 ∷ 1 ∷ 1 ∷ 0xffffffff ∷ 3 ∷ 0 ∷ 512 ∷ 512 ∷ []) ∷ []
unfolding submitted segment_bytes
first_burst_out = refl

abbrev solicited : InitiatorStep
solicited = initiator_step wrote.machine (r2t 0 1024 1024)

second_burst_out : map shape solicited.output ≡ (5 ∷ 0 ∷ 1 ∷ 0 ∷ 3 ∷ 0 ∷ 1024 ∷ 512 ∷ []) ∷ (5 ∷ 1 ∷ 1 ∷ 0 ∷ 3 ∷ 1 ∷ 1536 ∷ 512 ∷ []) ∷ []
unfolding submitted initiator_step segment_bytes
second_burst_out = refl

-- DataSN begins again in each sequence
third_burst_out : map shape (initiator_step solicited.machine (r2t 1 2048 1024)).output ≡ (5 ∷ 0 ∷ 1 ∷ 1 ∷ 3 ∷ 0 ∷ 2048 ∷ 512 ∷ []) ∷
    (5 ∷ 1 ∷ 1 ∷ 1 ∷ 3 ∷ 1 ∷ 2560 ∷ 512 ∷ []) ∷ []
unfolding submitted initiator_step segment_bytes
third_burst_out = refl

too_far : (initiator_step solicited.machine (r2t 1 2048 2049)).fault ≡ Some (Protocol 3)
unfolding submitted initiator_step segment_bytes
too_far = refl

abbrev read1 : List ℕ
read1 = 0x28 ∷ 0 ∷ 0 ∷ 0 ∷ 0 ∷ 0 ∷ 0 ∷ 0 ∷ 1 ∷ 0 ∷ 0 ∷ 0 ∷ 0 ∷ 0 ∷ 0 ∷ 0 ∷ []

abbrev data_in : ℕ → ℕ → List ℕ → Message
data_in n offset bytes = record {
  head = heads.DataIn (record {
    is_final = true;
    acknowledge = false;
    overflow = None;
    underflow = None;
    has_status = false;
    status = None;
    lun = None;
    initiator_task_tag = 1;
    target_transfer_tag = 0xffffffff;
    stat_sn = None;
    exp_cmd_sn = 2;
    max_cmd_sn = 2;
    data_sn = n;
    buffer_offset = offset;
    residual = None;
  });
  segment = Bytes bytes;
}

abbrev response : ℕ → Message
response stat_sn = record {
  head = heads.ScsiResponse (record {
    bidirectional_overflow = false;
    bidirectional_underflow = false;
    overflow = false;
    underflow = true;
    response = 0;
    status = Some 0;
    initiator_task_tag = 1;
    stat_sn = stat_sn;
    exp_cmd_sn = 2;
    max_cmd_sn = 2;
    exp_data_sn = Some 2;
    bidirectional_residual = None;
    residual = Some 1;
  });
  segment = Bytes [];
}

abbrev reading : InitiatorSession
reading = (submitted ready (requests.In 0 read1 5)).machine

abbrev read_done : InitiatorStep
read_done = initiator_step (initiator_step (initiator_step reading (data_in 0 0 (1 ∷ 2 ∷ []))).machine (data_in 1 2 (3 ∷ 4 ∷ []))).machine (response 3)

read_outcome : (read_done.machine.done ≡ Some (done.Command 0 0 [] (1 ∷ 2 ∷ 3 ∷ 4 ∷ []) (Under 1))) × (read_done.machine.outstanding ≡ None)
    × (read_done.machine.exp_stat_sn ≡ Some 4)
unfolding submitted initiator_step segment_bytes
read_outcome = (refl, refl, refl)

wrong_offset : (initiator_step (initiator_step reading (data_in 0 0 (1 ∷ 2 ∷ []))).machine (data_in 1 3 (3 ∷ []))).fault ≡ Some (Protocol 3)
unfolding submitted initiator_step segment_bytes
wrong_offset = refl

not_due : (initiator_step ready (response 3)).fault ≡ Some (Protocol 1)
unfolding initiator_step segment_bytes
not_due = refl

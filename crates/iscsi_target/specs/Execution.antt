-- The execution of an order: its data in Data-In PDUs, and its response (RFC 7143, sections 11.4
-- and 11.7).
use Rattle.std.specs.Prelude.{ℕ, ◌+◌, Bool, true, false, List, [], ◌∷◌, ◌++◌, length, Option, Some, None}
use Rattle.std.specs.List.{flat_map}
use Rattle.scsi_cdb.specs.Sense.{sense_bytes}
use Rattle.scsi_cdb.specs.declared.sense.Sense.{Sense}
use Rattle.scsi_cdb.specs.declared.residual.Residual.{Residual}
use Rattle.scsi_cdb.specs.declared.residual.Residual.TheVariants.{Exact, Under, Over}
use Rattle.scsi_disk.specs.Disk.{Disk}
use Rattle.scsi_disk.specs.Effect.{Effect, effect}
use Rattle.scsi_disk.specs.declared.order.Order.{Order}
use Rattle.scsi_disk.specs.declared.order.Outcome.{Outcome}
use Rattle.scsi_unit.specs.LogicalUnit.{LogicalUnit}
use Rattle.scsi_unit.specs.Telling.{outcome_with_unit}
use Rattle.iscsi_pdu.specs.declared.head.Head.{Head}
use Rattle.iscsi_pdu.specs.declared.head.Head.TheVariants as heads
use Rattle.iscsi_stream.specs.Stream.{Message}
use Rattle.iscsi_login.specs.Held.{max_burst}
use Rattle.iscsi_target_session.specs.Session.{Session, answer_message, stat_sn_advanced, max_cmd_sn_with, data_in_length}
use Rattle.iscsi_target.specs.State.{Machine, Execution, TargetStep, unit_of, waiting_tasks}
use Rattle.iscsi_stream.specs.Pieces.{Pieces, piece_data, chunks}
use Rattle.iscsi_pdu.specs.Fields.{reserved_tag}

-- What a store does with the n-th order of a message, from 0, and its data.
abbrev pub Device : Type 0
Device = ℕ → Disk → Order → List ℕ → Effect

-- A store that doesn't fail does each time what the order does.
abbrev pub reliable : Bool → Device
reliable protected n = effect protected

-- What is left of it behind one order.
abbrev pub device_next : Device → Device
device_next device n = device (n + 1)

-- What is left of it behind these orders.
abbrev pub device_after : List Execution → Device → Device
device_after [] device = device
device_after (e ∷ es) device = device_after es (device_next device)

-- ---- data that a command returns

-- The parts of a run, of which the last is marked (section 11.7.1).
abbrev pub marked_parts : List (List ℕ) → List (List ℕ × Bool)
marked_parts [] = []
marked_parts (part ∷ []) = (part, true) ∷ []
marked_parts (part ∷ next ∷ more) = (part, false) ∷ marked_parts (next ∷ more)

-- A run of data in parts, each as long as a Data-In may be, but for the last (section 13.12).
abbrev pub sequence_parts : Session → List ℕ → List (List ℕ × Bool)
sequence_parts s run = marked_parts (chunks (data_in_length s) run)

-- Data in runs of MaxBurstLength bytes (sections 11.7.1 and 13.13).
abbrev pub data_in_parts : Session → List ℕ → List (List ℕ × Bool)
data_in_parts s bytes = flat_map (sequence_parts s) (chunks (max_burst s.held) bytes)

-- The head of a Data-In, while n tasks wait; the status comes in a response of its own (section
-- 11.7; own rule).
abbrev pub data_in_head : Session → ℕ → ℕ → ℕ → ℕ → Bool → Head
data_in_head s waiting tag data_sn offset is_final = heads.DataIn (record {
  is_final = is_final;
  acknowledge = false;
  overflow = None;
  underflow = None;
  has_status = false;
  status = None;
  lun = None;
  initiator_task_tag = tag;
  target_transfer_tag = reserved_tag;
  stat_sn = None;
  exp_cmd_sn = s.exp_cmd_sn;
  max_cmd_sn = max_cmd_sn_with s waiting;
  data_sn = data_sn;
  buffer_offset = offset;
  residual = None;
})

-- The Data-In of these parts, from a DataSN and an offset on (sections 11.7.4 and 11.7.5).
abbrev pub data_ins : Session → ℕ → ℕ → ℕ → ℕ → List (List ℕ × Bool) → List Message
data_ins s waiting tag data_sn offset [] = []
data_ins s waiting tag data_sn offset (part ∷ more) =
    answer_message (data_in_head s waiting tag data_sn offset part.1) part.0
    ∷ data_ins s waiting tag (data_sn + 1) (offset + length part.0) more

-- ---- the response

-- The command had fewer bytes than were expected (section 11.4.1).
abbrev pub is_under : Residual → Bool
is_under (Under n) = true
is_under _ = false

-- The command had more bytes than were expected (section 11.4.1).
abbrev pub is_over : Residual → Bool
is_over (Over n) = true
is_over _ = false

-- By how many (section 11.4.5).
abbrev pub residual_count : Residual → Option ℕ
residual_count Exact = None
residual_count (Under n) = Some n
residual_count (Over n) = Some n

-- The head of the response to a command that gave n Data-In (section 11.4).
abbrev pub response_head : Session → ℕ → ℕ → Outcome → ℕ → Head
response_head s waiting tag outcome count = heads.ScsiResponse (record {
  bidirectional_overflow = false;
  bidirectional_underflow = false;
  overflow = is_over outcome.residual;
  underflow = is_under outcome.residual;
  response = 0;
  status = Some outcome.status;
  initiator_task_tag = tag;
  stat_sn = s.stat_sn;
  exp_cmd_sn = s.exp_cmd_sn;
  max_cmd_sn = max_cmd_sn_with s waiting;
  exp_data_sn = Some count;
  bidirectional_residual = None;
  residual = residual_count outcome.residual;
})

-- The sense data behind their length (section 11.4.7).
abbrev pub sense_segment : Option Sense → List ℕ
sense_segment None = []
sense_segment (Some sense) = 0x00 ∷ 0x12 ∷ sense_bytes sense

-- The Data-In of a command, and then its response (section 11.4).
abbrev pub command_answers : Session → ℕ → ℕ → Outcome → List (List ℕ × Bool) → List Message
command_answers s waiting tag outcome given =
    data_ins s waiting tag 0 0 given
    ++ answer_message (response_head s waiting tag outcome (length given))
    (sense_segment outcome.sense)
    ∷ []

-- An order was executed with this effect: its data go out, and its response (section 11.4).
abbrev pub send_outcome : Machine → Execution → Effect → TargetStep
send_outcome s e effect = record {
  machine = record s { session = stat_sn_advanced s.session };
  disk = effect.disk;
  answers =
      command_answers s.session (waiting_tasks s.tasks) e.initiator_task_tag effect.outcome
      (data_in_parts s.session effect.outcome.bytes);
  rule = None;
  accepted = [];
  executed = e ∷ [];
}

-- What an order led to, where the disk of n blocks may tell more of itself: that changes no block.
abbrev pub as_told : Option LogicalUnit → ℕ → Order → Effect → Effect
as_told unit count order after =
    record after { outcome = outcome_with_unit unit count order after.outcome }

-- What was executed led to, over a store that doesn't fail.
abbrev pub effect_of : Bool → Execution → Effect
effect_of protected e =
    as_told e.unit e.disk.count e.order (effect protected e.disk e.order (piece_data e.pieces))

-- An order of a task is executed, with the data of these pieces (section 11.4).
abbrev pub execute : Device → Machine → Disk → ℕ → Order → Pieces → TargetStep
execute device s disk tag order pieces =
    send_outcome s
    (record {
      initiator_task_tag = tag;
      disk = disk;
      unit = unit_of s.session;
      order = order;
      pieces = pieces;
    })
    (as_told (unit_of s.session) disk.count order (device 0 disk order (piece_data pieces)))

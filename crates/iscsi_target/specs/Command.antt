-- SCSI commands, and the data that writes take (RFC 7143, sections 11.3, 11.7 and 11.8).
use Rattle.std.specs.Prelude.{ℕ, Bool, false, not, ◌&&◌, ◌||◌, nat_lt, nat_le, if◌then◌else◌, List, [], ◌∷◌, Option}
use Rattle.scsi_disk.specs.Disk.{Disk}
use Rattle.scsi_disk.specs.Plan.{plan_of}
use Rattle.scsi_disk.specs.declared.deed.Deed.TheVariants as deeds
use Rattle.scsi_disk.specs.declared.order.Order.{Order}
use Rattle.scsi_disk.specs.declared.order.Plan.{Plan}
use Rattle.scsi_disk.specs.declared.order.Plan.TheVariants.{Take}
use Rattle.scsi_unit.specs.LogicalUnit.{LogicalUnit}
use Rattle.scsi_unit.specs.Deeds.{meant}
use Rattle.iscsi_pdu.specs.declared.head.scsi_command.ScsiCommand.{ScsiCommand}
use Rattle.iscsi_pdu.specs.declared.head.Head.{Head}
use Rattle.iscsi_pdu.specs.declared.head.Head.TheVariants as heads
use Rattle.iscsi_stream.specs.Segment.{segment_bytes}
use Rattle.iscsi_stream.specs.Stream.{Message}
use Rattle.iscsi_text.specs.declared.negotiated.NegKey.TheVariants as keys
use Rattle.iscsi_login.specs.Held.{Held, is_on, unasked}
use Rattle.iscsi_target_session.specs.Session.{Session, answer_message, max_cmd_sn_with}
use Rattle.iscsi_target_session.specs.declared.inbound.InboundRequest.{InboundRequest}
use Rattle.iscsi_target_session.specs.declared.inbound.Asks.{Asks}
use Rattle.iscsi_target_session.specs.declared.inbound.Asks.TheVariants as asks
use Rattle.iscsi_target.specs.Write.{Write}
use Rattle.iscsi_target.specs.declared.tasks.Task.{Task}
use Rattle.iscsi_target.specs.declared.tasks.Task.TheVariants.{Command, Data, Request}
use Rattle.iscsi_target.specs.State.{Machine, TargetStep, unchanged, waiting_tasks}
use Rattle.iscsi_target.specs.declared.due.Due.TheVariants.{Nothing, Unsolicited}
use Rattle.iscsi_target.specs.Transfer.{bytes_received, with_piece, is_whole_write, with_r2t, desired, is_nothing_due}
use Rattle.iscsi_target.specs.Execution.{Device, execute}

-- ---- a command

-- What a command says (section 11.3).
abbrev pub order_said : ScsiCommand → Order
order_said h = record {
  cdb = h.cdb;
  lun = h.lun;
  read = h.read;
  write = h.write;
  expected = h.expected_data_transfer_length;
  deed = deeds.Write;
}

-- What a command orders of the disk, which may tell more of itself than the profile has (section 11.3).
abbrev pub order_of : Option LogicalUnit → ScsiCommand → Order
order_of unit h = meant unit (order_said h)

-- Immediate data come that may not be there, or too many of them (section 13.11).
abbrev pub is_bad_segment : Held → ScsiCommand → ℕ → Bool
is_bad_segment held h n =
    nat_lt 0 n
    && (not h.write || (not (is_on held keys.ImmediateData) || nat_lt (unasked held h.expected_data_transfer_length) n))

-- More data are announced where none may come unasked (section 13.10).
abbrev pub is_bad_announcement : Held → ScsiCommand → ℕ → Bool
is_bad_announcement held h n =
    h.write && (not h.is_final && (is_on held keys.InitialR2T || nat_le (unasked held h.expected_data_transfer_length) n))

-- A command with n immediate bytes breaks the rules of the first burst (sections 13.10, 13.11
-- and 13.14).
abbrev pub breaks_burst_rules : Held → ScsiCommand → ℕ → Bool
breaks_burst_rules held h n = is_bad_segment held h n || is_bad_announcement held h n

-- ---- a write

-- The head of the next R2T, while n tasks wait (section 11.8).
abbrev pub r2t_head : Session → ℕ → Write → Head
r2t_head s waiting w = heads.ReadyToTransfer (record {
  lun = w.order.lun;
  initiator_task_tag = w.initiator_task_tag;
  target_transfer_tag = w.r2t_count;
  stat_sn = s.stat_sn;
  exp_cmd_sn = s.exp_cmd_sn;
  max_cmd_sn = max_cmd_sn_with s waiting;
  r2t_sn = w.r2t_count;
  buffer_offset = bytes_received w;
  desired_data_transfer_length = desired s.held w;
})

-- The write is the first task, before those that there are (section 4.2.2.1).
abbrev pub led_by : Write → Machine → Machine
led_by w s = record s { tasks = Data w ∷ s.tasks }

-- An R2T is sent, which advances no StatSN (section 11.8).
abbrev pub send_r2t : Machine → Disk → Write → TargetStep
send_r2t s disk w = record (unchanged (led_by (with_r2t s.session.held w) s) disk) {
  answers = answer_message (r2t_head s.session (waiting_tasks (led_by w s).tasks) w) [] ∷ [];
}

-- The first task is a write, with these behind it. The write is executed when all its bytes are
-- there; else an R2T is sent if no sequence is due (sections 4.2.5.2 and 11.8). All blocks are
-- written at once (own rule).
abbrev pub proceed : Device → Machine → Disk → Write → TargetStep
proceed device s disk w =
    if is_whole_write w then execute device s disk w.initiator_task_tag w.order w.pieces
    else if is_nothing_due w.due then send_r2t s disk w
    else unchanged (led_by w s) disk

-- The write of n bytes that a command with this order and these immediate bytes opens (section 11.3).
abbrev pub write_opened : ScsiCommand → Order → ℕ → List ℕ → Write
write_opened h order total bytes = record {
  initiator_task_tag = h.initiator_task_tag;
  immediate = h.immediate;
  order = order;
  total = total;
  pieces = with_piece [] 0 bytes;
  due = if h.is_final then Nothing else Unsolicited 0;
  r2t_count = 0;
}

-- ---- a request that comes

-- A request with n bytes breaks the rules of the first burst (sections 13.10, 13.11 and 13.14).
abbrev pub breaks_rules : Held → ℕ → Asks → Bool
breaks_rules held n (asks.Command h) = breaks_burst_rules held h n
breaks_rules held n (asks.Session request) = false

-- The task of a command with these immediate bytes, by its order and plan. A write takes its data while
-- it waits, and any other command takes none; so does one that is refused (sections 11.3 and 11.4; own
-- rule).
abbrev pub task_planned : ScsiCommand → Order → List ℕ → Plan → Task
task_planned h order bytes (Take total) = Data (write_opened h order total bytes)
task_planned h order bytes _ = Command h.initiator_task_tag order

-- The task of a command with these immediate bytes, on a disk of n blocks that may tell more of itself
-- (section 11.3).
abbrev pub task_for : Option LogicalUnit → ℕ → ScsiCommand → List ℕ → Task
task_for unit count h bytes =
    task_planned h (order_of unit h) bytes (plan_of (order_of unit h) count)

-- The task of a request, by what it asks for (section 11.3).
abbrev pub task_by : Option LogicalUnit → ℕ → Message → Option ℕ → Asks → Task
task_by unit count m tag (asks.Command h) = task_for unit count h (segment_bytes m.segment)
task_by unit count m tag (asks.Session request) =
    Request (record { initiator_task_tag = tag; message = m; request = request })

-- A request, in its PDU, that is presented to a disk of so many blocks.
pub record Presented : Type 0 where
  pub blocks : ℕ
  pub message : Message
  pub request : InboundRequest

-- The request of a PDU is presented to a disk of n blocks.
abbrev pub presented : ℕ → Message → InboundRequest → Presented
presented n m r = record { blocks = n; message = m; request = r }

-- The task of a request, on a disk that may tell more of itself (section 11.3).
abbrev pub task_of : Option LogicalUnit → Presented → Task
task_of unit p = task_by unit p.blocks p.message p.request.initiator_task_tag p.request.asks

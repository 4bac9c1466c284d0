-- The words of the laws: what holds of every list of messages (RFC 7143, sections 4.2, 11.7 and
-- 11.8).
--
-- `protected` says of the store that it refuses each write.
use Rattle.std.specs.Prelude.{◌≡◌, ◌⊎◌, ℕ, ◌+◌, ◌<◌, ◌^◌, ◌%◌, Bool, true, false, List, [], ◌∷◌, ◌++◌, length, map, slice_index, Option, Some, None}
use Rattle.std.specs.List.{flat_map}
use Rattle.scsi_disk.specs.Disk.{Disk}
use Rattle.scsi_disk.specs.Effect.{Effect, effect, guarded, StoreFailureLeaves}
use Rattle.scsi_disk.specs.Plan.{plan_of}
use Rattle.scsi_disk.specs.Runs.{Supplied}
use Rattle.scsi_disk.specs.declared.order.Order.{Order}
use Rattle.scsi_disk.specs.declared.order.Outcome.{Outcome}
use Rattle.scsi_unit.specs.LogicalUnit.{LogicalUnit}
use Rattle.iscsi_pdu.specs.declared.head.Head.{Head}
use Rattle.iscsi_pdu.specs.declared.head.Head.TheVariants as heads
use Rattle.iscsi_stream.specs.Segment.{segment_bytes}
use Rattle.iscsi_stream.specs.Stream.{Message}
use Rattle.iscsi_login.specs.declared.phase.Phase.TheVariants as phases
use Rattle.iscsi_target_session.specs.Inbound.{inbound, IsRequest}
use Rattle.iscsi_target_session.specs.declared.inbound.Inbound.{Inbound}
use Rattle.iscsi_target_session.specs.declared.inbound.Inbound.TheVariants as inbounds
use Rattle.iscsi_target_session.specs.declared.inbound.InboundRequest.{InboundRequest}
use Rattle.iscsi_target.specs.declared.tasks.Task.{Task}
use Rattle.iscsi_target.specs.declared.tasks.Task.TheVariants as kinds
use Rattle.iscsi_target.specs.State.{Machine, Execution, TargetStep, max_cmd_sn, unit_of}
use Rattle.iscsi_stream.specs.Pieces.{piece_data}
use Rattle.iscsi_pdu.specs.Serial.{is_within}
use Rattle.iscsi_target.specs.Transfer.{with_piece}
use Rattle.iscsi_target.specs.State.{writes_joined}
use Rattle.iscsi_target.specs.Execution.{effect_of, is_over, is_under, residual_count, sense_segment}
use Rattle.iscsi_target.specs.Command.{order_of}
use Rattle.iscsi_target.specs.Machine.{is_machine_closed, is_segment_too_long, may_ask}

-- ---- numbers

-- The k-th is the first and k, round the circle of 2^32 (section 4.2.2).
abbrev pub CountOn : ℕ → List ℕ → Type 0
CountOn n numbers = (k : ℕ) → k < length numbers → slice_index numbers k ≡ (n + k) % 2 ^ 32

-- The numbers that there are.
abbrev pub given_number : Option ℕ → List ℕ
given_number None = []
given_number (Some n) = n ∷ []

-- The StatSN of an answer that carries and advances it (section 4.2.2.2).
abbrev pub stat_sn_of : Head → Option ℕ
stat_sn_of (heads.LoginResponse h) = h.stat_sn
stat_sn_of (heads.NopIn h) = Some h.stat_sn
stat_sn_of (heads.ScsiResponse h) = Some h.stat_sn
stat_sn_of (heads.TaskResponse h) = Some h.stat_sn
stat_sn_of (heads.TextResponse h) = Some h.stat_sn
stat_sn_of (heads.LogoutResponse h) = Some h.stat_sn
stat_sn_of (heads.Reject h) = Some h.stat_sn
stat_sn_of _ = None

-- The StatSN of the answers that carry and advance it (section 4.2.2.2).
abbrev pub stat_sns : List Message → List ℕ
stat_sns ms = flat_map (λ m. given_number (stat_sn_of m.head)) ms

-- The CmdSN of a request that isn't immediate (section 4.2.2.1).
abbrev pub cmd_sn_if : Bool → ℕ → Option ℕ
cmd_sn_if true n = None
cmd_sn_if false n = Some n

-- The CmdSN of a PDU, if it is a request that isn't immediate (section 4.2.2.1).
abbrev pub cmd_sn_in : Option Inbound → Option ℕ
cmd_sn_in (Some (inbounds.Request r)) = cmd_sn_if r.immediate r.cmd_sn
cmd_sn_in _ = None

-- The CmdSN of a request that isn't immediate (section 4.2.2.1).
abbrev pub cmd_sn_of : Head → Option ℕ
cmd_sn_of head = cmd_sn_in (inbound head)

-- The CmdSN of the requests that aren't immediate (section 4.2.2.1).
abbrev pub cmd_sns : List Message → List ℕ
cmd_sns ms = flat_map (λ m. given_number (cmd_sn_of m.head)) ms

-- A number of 32 bits, if there is one (section 11).
abbrev pub FitsNumber : Option ℕ → Type 0
FitsNumber None = Unit {0}
FitsNumber (Some n) = n < 2 ^ 32

-- The CmdSN that a login begins with (section 11.12.8).
abbrev pub login_cmd_sn : Head → Option ℕ
login_cmd_sn (heads.LoginRequest h) = Some h.cmd_sn
login_cmd_sn _ = None

-- CmdSN is a number of 32 bits, as in each PDU (section 11).
pub record HasCmdSn (m : Message) : Type 0 where
  pub request : FitsNumber (cmd_sn_of m.head)
  pub login : FitsNumber (login_cmd_sn m.head)

-- ---- one disk

-- A command by its tag and what it orders (section 11.3).
abbrev pub TaggedOrder : Type 0
TaggedOrder = ℕ × Order

-- The command of a request, if it is one, to a disk that may tell more of itself (section 11.3).
abbrev pub order_asked : Option LogicalUnit → Head → List TaggedOrder
order_asked unit (heads.ScsiCommand h) = (h.initiator_task_tag, order_of unit h) ∷ []
order_asked unit _ = []

-- The commands among requests (section 11.3).
abbrev pub orders_asked : Option LogicalUnit → List Message → List TaggedOrder
orders_asked unit ms = flat_map (λ m. order_asked unit m.head) ms

-- The command that was executed (section 11.3).
abbrev pub order_done : Execution → TaggedOrder
order_done e = (e.initiator_task_tag, e.order)

-- The commands that were executed (section 11.3).
abbrev pub orders_done : List Execution → List TaggedOrder
orders_done es = map order_done es

-- An order that was executed, with its data (section 11.3).
abbrev pub supplied : Execution → Supplied
supplied e = (e.order, piece_data e.pieces)

-- What was executed did what the order does, or what it may do where the device fails, and left
-- this.
abbrev pub MayLeave : Bool → Execution → Effect → Type 0
MayLeave protected e after =
    (after ≡ effect protected e.disk e.order (piece_data e.pieces))
    ⊎ StoreFailureLeaves (guarded protected e.order.deed (plan_of e.order e.disk.count)) e.disk e.order
    (piece_data e.pieces) after

-- What was executed, one after another, leads from one disk to another, each on the disk that the
-- one before left.
unfoldable pub ExecutionsLead : Bool → Disk → List Execution → Disk → Type 0
ExecutionsLead protected disk [] last = last ≡ disk
ExecutionsLead protected disk (e ∷ es) last =
    (after : Effect) × (e.disk ≡ disk) × MayLeave protected e after
    × ExecutionsLead protected after.disk es last

-- The command of a task, if it is one (section 11.3).
abbrev pub order_waiting : Task → List TaggedOrder
order_waiting (kinds.Command tag order) = (tag, order) ∷ []
order_waiting (kinds.Data w) = (w.initiator_task_tag, w.order) ∷ []
order_waiting (kinds.Request kept) = []

-- The commands among tasks (section 11.3).
abbrev pub orders_waiting : List Task → List TaggedOrder
orders_waiting tasks = flat_map order_waiting tasks

-- The tag of the command that an answer is the response to (section 11.4).
abbrev pub response_tag : Head → List ℕ
response_tag (heads.ScsiResponse h) = h.initiator_task_tag ∷ []
response_tag _ = []

-- The tags of the commands whose response went out (section 11.4).
abbrev pub response_tags : List Message → List ℕ
response_tags ms = flat_map (λ m. response_tag m.head) ms

-- What the response to a command says (section 11.4). It gives the command's tag, that the target is
-- done with it, its status, by how many bytes it had more or fewer than were expected, and the sense
-- data behind their length.
pub record ToldResponse : Type 0 where
  pub initiator_task_tag : ℕ
  pub response : ℕ
  pub status : Option ℕ
  pub overflow : Bool
  pub underflow : Bool
  pub residual : Option ℕ
  pub sense : List ℕ

-- What an answer says, if it is the response to a command (section 11.4).
abbrev pub answer_told : Head → List ℕ → List ToldResponse
answer_told (heads.ScsiResponse h) segment = record {
  initiator_task_tag = h.initiator_task_tag;
  response = h.response;
  status = h.status;
  overflow = h.overflow;
  underflow = h.underflow;
  residual = h.residual;
  sense = segment;
} ∷ []
answer_told _ segment = []

-- What the responses among answers say (section 11.4).
abbrev pub told_in : List Message → List ToldResponse
told_in ms = flat_map (λ m. answer_told m.head (segment_bytes m.segment)) ms

-- What is to be told of this outcome: response 0, completed at the target (section 11.4.3).
abbrev pub told_of : ℕ → Outcome → ToldResponse
told_of tag outcome = record {
  initiator_task_tag = tag;
  response = 0;
  status = Some outcome.status;
  overflow = is_over outcome.residual;
  underflow = is_under outcome.residual;
  residual = residual_count outcome.residual;
  sense = sense_segment outcome.sense;
}

-- What is to be told of what was executed, over a store that doesn't fail (section 11.4).
abbrev pub due_for : Bool → Execution → ToldResponse
due_for protected e = told_of e.initiator_task_tag (effect_of protected e).outcome

-- The commands that were accepted are those that were executed, in their order, and then those of
-- the tasks that there are, unless the session is closed (section 4.2.2.1).
pub record AreInOrder (r : TargetStep) : Type 0 where
  pub more : List TaggedOrder
  pub order : orders_asked (unit_of r.machine.session) r.accepted ≡ orders_done r.executed ++ more
  pub open_ : is_machine_closed r.machine ≡ false
      → more ≡ orders_waiting r.machine.tasks

-- ---- tasks in their turn

-- What the first has answered and executed, the second has first.
pub record BeginsAs (first all : TargetStep) : Type 0 where
  pub answers : List Message
  pub wrote : all.answers ≡ first.answers ++ answers
  pub executed : List Execution
  pub did : all.executed ≡ first.executed ++ executed

-- ---- the window

-- A request that isn't immediate came outside the window, and may come in its phase and length
-- (section 4.2.2.1).
pub record IsOutside (s : Machine) (m : Message) : Type 0 where
  pub phase : s.session.phase ≡ phases.Full
  pub request : InboundRequest
  pub came : IsRequest request m.head
  pub may : may_ask s.session.session_type request.asks ≡ true
  pub size : is_segment_too_long s m ≡ false
  pub numbered : request.immediate ≡ false
  pub outside : is_within request.cmd_sn s.session.exp_cmd_sn (max_cmd_sn s) ≡ false

-- ---- pieces joined

-- What was executed, with its bytes as one piece.
abbrev pub joined_execution : Execution → Execution
joined_execution e = record e { pieces = with_piece [] 0 (piece_data e.pieces) }

-- What a message does, with the bytes of each write as one piece.
abbrev pub joined_stepped : TargetStep → TargetStep
joined_stepped r = record r {
  machine = writes_joined r.machine;
  executed = map joined_execution r.executed;
}

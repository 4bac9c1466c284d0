-- The target machine: what each PDU leads to, over whole messages (RFC 7143, sections 4 to 11). One file,
-- since it is one step, from the PDU to its answers.
--
-- `target_step` is one message, and `answers` any number of them. What comes of a PDU in full feature phase
-- (`full_met`) is apart from the tasks that are done (`done_in_turn`). A login stands in `Login`,
-- SCSI commands in `Command`, the other requests in `Requests` and `TextRequests`.
--
-- `protected` says of the store that it refuses each write.
use Rattle.std.specs.Prelude.{◌≡◌, ◌≤◌, ℕ, zero, suc, Bool, true, false, not, ◌==◌, ◌||◌, ◌&&◌, is_some, nat_lt, if◌then◌else◌, List, [], ◌∷◌, ◌++◌, length, Option, Some, None}
use Rattle.std.specs.List.{list_any}
use Rattle.scsi_disk.specs.Disk.{Disk}
use Rattle.scsi_disk.specs.Effect.{OrderExecuted}
use Rattle.iscsi_pdu.specs.Serial.{next_sn, is_within}
use Rattle.iscsi_pdu.specs.Rules.{kind_not_due, segment_too_long, data_out_of_order, command_out_of_turn, too_many_immediate}
use Rattle.iscsi_pdu.specs.declared.head.data_out.DataOut.{DataOut}
use Rattle.iscsi_pdu.specs.declared.head.task_request.TaskRequest.{TaskRequest}
use Rattle.iscsi_stream.specs.Pieces.{piece_data}
use Rattle.iscsi_stream.specs.Segment.{Segment, Bytes, Text, segment_bytes}
use Rattle.iscsi_stream.specs.Stream.{Message}
use Rattle.iscsi_login.specs.declared.phase.Phase.{Phase}
use Rattle.iscsi_login.specs.declared.phase.Phase.TheVariants as phases
use Rattle.iscsi_text.specs.declared.negotiated.Session.{Session as SessionType}
use Rattle.iscsi_login.specs.Held.{first_burst}
use Rattle.iscsi_login.specs.Stage.{is_closed_phase}
use Rattle.iscsi_target_session.specs.Session.{Session, Reply, target_limit}
use Rattle.iscsi_target_session.specs.Inbound.{inbound}
use Rattle.iscsi_target_session.specs.declared.inbound.Inbound.{Inbound}
use Rattle.iscsi_target_session.specs.declared.inbound.Inbound.TheVariants as inbounds
use Rattle.iscsi_target_session.specs.declared.inbound.InboundRequest.{InboundRequest}
use Rattle.iscsi_target_session.specs.declared.inbound.Asks.{Asks}
use Rattle.iscsi_target_session.specs.declared.inbound.Asks.TheVariants as asks
use Rattle.iscsi_target_session.specs.declared.inbound.SessionRequest.TheVariants as requests
use Rattle.iscsi_target.specs.Write.{Write}
use Rattle.iscsi_target.specs.declared.tasks.Task.{Task}
use Rattle.iscsi_target.specs.declared.tasks.Task.TheVariants.{Command, Data, Request}
use Rattle.iscsi_target.specs.State.{Machine, Execution, TargetStep, on, unchanged, shut_down, unit_of, waiting_tasks, max_cmd_sn}
use Rattle.iscsi_target_session.specs.Rejecting.{message_rejected, reject_and_close}
use Rattle.iscsi_target_session.specs.LoginText.{is_normal}
use Rattle.iscsi_target_session.specs.Login.{target_login_step}
use Rattle.iscsi_target.specs.Transfer.{data_out_taken}
use Rattle.iscsi_target.specs.Execution.{Device, reliable, device_next, device_after, execute}
use Rattle.iscsi_target_session.specs.Requests.{on_nop_out, on_task_request, request_answered}
use Rattle.iscsi_target.specs.Command.{Presented, presented, proceed, task_of, breaks_rules}

-- ---- tasks in their turn

-- The first task, with those behind it (section 4.2.2.1).
abbrev pub task_begun : Device → Machine → Disk → Task → TargetStep
task_begun device s disk (Command tag order) = execute device s disk tag order []
task_begun device s disk (Data w) = proceed device s disk w
task_begun device s disk (Request kept) =
    on disk s.tasks (request_answered s.session (waiting_tasks s.tasks) kept.message kept.request)

-- With these behind it the task stays the first: a write whose data are not all there.
abbrev pub stays : List Task → TargetStep → Bool
stays more r = nat_lt (length more) (length r.machine.tasks)

-- The session is over.
abbrev pub is_machine_closed : Machine → Bool
is_machine_closed s = is_closed_phase s.session.phase

-- There is a task.
abbrev pub is_busy : List Task → Bool
is_busy [] = false
is_busy (task ∷ more) = true

-- The rule that was broken first.
abbrev pub first_rule : Option ℕ → Option ℕ → Option ℕ
first_rule None later = later
first_rule (Some rule) later = Some rule

-- What came first, and what came then.
abbrev pub then_stepped : TargetStep → TargetStep → TargetStep
then_stepped first later = record {
  machine = later.machine;
  disk = later.disk;
  answers = first.answers ++ later.answers;
  rule = first_rule first.rule later.rule;
  accepted = first.accepted ++ later.accepted;
  executed = first.executed ++ later.executed;
}

-- So many of the tasks in their order, as far as they are done.
unfoldable pub done_first : ℕ → Device → Session → Disk → List Task → TargetStep
done_first zero device s disk tasks =
    unchanged (record { session = s; tasks = tasks }) disk
done_first (suc k) device s disk [] = unchanged (record { session = s; tasks = [] }) disk
done_first (suc k) device s disk (task ∷ more) =
    let r : TargetStep = task_begun device (record { session = s; tasks = more }) disk task in
    if stays more r || is_machine_closed r.machine then r
    else then_stepped r
    (done_first k (device_after r.executed device) r.machine.session r.disk more)

-- Tasks in their order, up to a write whose data are not all there, or to the end of the session
-- (section 4.2.2.1; own rule).
abbrev pub done_in_turn : Device → Session → Disk → List Task → TargetStep
done_in_turn device s disk tasks = done_first (length tasks) device s disk tasks

-- ---- what comes of a PDU

-- What comes of a PDU: it is dropped, it is answered at once, or a task begins or goes on, and
-- tasks are done in their turn.
pub data Next : Type 0 where
  Dropped : Next
  Answered : Reply → Next
  Queued : Session → List Task → Next

-- What comes of a PDU, and the request that was accepted as a task, if it is one.
pub record Met : Type 0 where
  pub accepted : List Message
  pub next : Next

-- No request is accepted as a task.
abbrev pub plainly : Next → Met
plainly next = record { accepted = []; next = next }

-- The request is accepted as a task (section 4.2.2.1).
abbrev pub accepting : Message → Next → Met
accepting m next = record { accepted = m ∷ []; next = next }

-- The PDU broke the rule.
abbrev pub broken : Machine → ℕ → Message → Next
broken s rule m = Answered (reject_and_close s.session (waiting_tasks s.tasks) rule m)

-- ---- a Data-Out

-- The write of a task with this tag, if there is one (section 11.7).
abbrev pub write_of : List Task → ℕ → Option Write
write_of [] tag = None
write_of (Data w ∷ more) tag =
    if w.initiator_task_tag == tag then Some w else write_of more tag
write_of (task ∷ more) tag = write_of more tag

-- The tasks with this write in place of the one with its tag.
abbrev pub with_write : Write → List Task → List Task
with_write v [] = []
with_write v (Data w ∷ more) =
    if w.initiator_task_tag == v.initiator_task_tag then Data v ∷ more
    else Data w ∷ with_write v more
with_write v (task ∷ more) = task ∷ with_write v more

-- The write with the Data-Out, or none where that wasn't due (section 11.7).
abbrev pub data_taken : Machine → Message → Option Write → Next
data_taken s m None = broken s data_out_of_order m
data_taken s m (Some v) = Queued s.session (with_write v s.tasks)

-- The write with its tag takes a Data-Out; where there is none it is dropped (section 11.7; own
-- rule).
abbrev pub data_for : Machine → Message → DataOut → List ℕ → Option Write → Next
data_for s m h bytes None = Dropped
data_for s m h bytes (Some w) =
    data_taken s m (data_out_taken (first_burst s.session.held) w h bytes)

-- A Data-Out (section 11.7).
abbrev pub on_data_out : Machine → Message → DataOut → List ℕ → Next
on_data_out s m h bytes = data_for s m h bytes (write_of s.tasks h.initiator_task_tag)

-- ---- a request

-- The tag of a task; a ping may have none (sections 11.2.1.8 and 11.18).
abbrev pub task_tag : Task → Option ℕ
task_tag (Command tag order) = Some tag
task_tag (Data w) = Some w.initiator_task_tag
task_tag (Request kept) = kept.initiator_task_tag

-- Both are there, and alike.
abbrev pub is_same_tag : Option ℕ → Option ℕ → Bool
is_same_tag (Some a) (Some b) = a == b
is_same_tag _ _ = false

-- A task has the tag (section 11.2.1.8).
abbrev pub is_tag_of : List Task → Option ℕ → Bool
is_tag_of tasks tag = list_any (λ task. is_same_tag (task_tag task) tag) tasks

-- A request that was accepted becomes the last task if its tag is no task's and it keeps the rules
-- of the first burst (sections 11.2.1.8 and 13.14). The order of these two checks is own rule.
abbrev pub admitted : Machine → Presented → Next
admitted s p =
    if is_tag_of s.tasks p.request.initiator_task_tag then broken s kind_not_due p.message
    else if breaks_rules s.session.held (length (segment_bytes p.message.segment)) p.request.asks
    then broken s data_out_of_order p.message
    else Queued s.session (s.tasks ++ task_of (unit_of s.session) p ∷ [])

-- ---- an immediate request

-- A task that the task management function means is open: the one with that tag, or any (section
-- 11.5.1).
abbrev pub is_meant : List Task → TaskRequest → Bool
is_meant tasks h =
    if h.function == 1 then is_tag_of tasks (Some h.referenced_task_tag) else is_busy tasks

-- There is no room for it (section 4.2.2.1).
abbrev pub no_room : Machine → Message → Reply
no_room s m = message_rejected s.session (waiting_tasks s.tasks) too_many_immediate m

-- There is room for a ping and for task management alone (section 4.2.2.1).
abbrev pub answered_beside : Machine → Message → Asks → Reply
answered_beside s m (asks.Session (requests.Ping h)) =
    on_nop_out s.session (waiting_tasks s.tasks) h (segment_bytes m.segment)
answered_beside s m (asks.Session (requests.Task h)) =
    on_task_request s.session (waiting_tasks s.tasks) (is_meant s.tasks h) h
answered_beside s m _ = no_room s m

-- There is room beside the tasks where the disk tells more than the profile has, for a tag that is no
-- task's (section 4.2.2.1; how much room there is, is own rule).
abbrev pub has_task_room : Machine → Option ℕ → Bool
has_task_room s tag = is_some (unit_of s.session) && not (is_tag_of s.tasks tag)

-- An immediate request while there is a task is answered beside it, or rejected (section 4.2.2.1).
abbrev pub beside : Machine → Message → InboundRequest → Reply
beside s m r =
    if has_task_room s r.initiator_task_tag then answered_beside s m r.asks else no_room s m

-- An immediate request takes no CmdSN; while there is a task it becomes none (section 4.2.2.1).
abbrev pub immediate_request : Machine → Presented → Met
immediate_request s p =
    if is_busy s.tasks then plainly (Answered (beside s p.message p.request))
    else accepting p.message (admitted s p)

-- The CmdSN that was due is taken (section 4.2.2.1).
abbrev pub advanced : Machine → Machine
advanced s = record s {
  session = record s.session { exp_cmd_sn = next_sn s.session.exp_cmd_sn };
}

-- A request outside the window is dropped; one inside it has the CmdSN that is due (section
-- 4.2.2.1; that another one is a fault is own rule).
abbrev pub request_in_turn : Machine → Presented → Met
request_in_turn s p =
    if not (is_within p.request.cmd_sn s.session.exp_cmd_sn (max_cmd_sn s)) then plainly Dropped
    else if not (p.request.cmd_sn == s.session.exp_cmd_sn)
    then plainly (broken s command_out_of_turn p.message)
    else accepting p.message (admitted (advanced s) p)

-- ---- full feature phase

-- A session of discovery takes no command and no task management (section 4.2.4; own rule).
abbrev pub may_ask : SessionType → Asks → Bool
may_ask session (asks.Command h) = is_normal session
may_ask session (asks.Session (requests.Task h)) = is_normal session
may_ask session (asks.Session _) = true

-- Nor does it take data (section 4.2.4; own rule).
abbrev pub may_come : SessionType → Inbound → Bool
may_come session (inbounds.Request r) = may_ask session r.asks
may_come session (inbounds.Data h) = is_normal session

-- What may come; a Data-Out has no CmdSN (section 4.2.2.1).
abbrev pub due_met : Machine → ℕ → Message → Inbound → Met
due_met s count m (inbounds.Data h) = plainly (on_data_out s m h (segment_bytes m.segment))
due_met s count m (inbounds.Request r) =
    if r.immediate then immediate_request s (presented count m r)
    else request_in_turn s (presented count m r)

-- The segment has more bytes than the target takes (section 13.12).
abbrev pub is_segment_too_long : Machine → Message → Bool
is_segment_too_long s m = nat_lt s.session.held.target_max_recv (length (segment_bytes m.segment))

-- A PDU by what it is to a target: that it may come is judged before its length, and that before its
-- CmdSN (section 4.2.4; the order is own rule).
abbrev pub inbound_met : Machine → ℕ → Message → Option Inbound → Met
inbound_met s count m None = plainly (broken s kind_not_due m)
inbound_met s count m (Some pdu) =
    if not (may_come s.session.session_type pdu) then plainly (broken s kind_not_due m)
    else if is_segment_too_long s m then plainly (broken s segment_too_long m)
    else due_met s count m pdu

-- A PDU in full feature phase (section 4.2.4).
abbrev pub full_met : Machine → ℕ → Message → Met
full_met s count m = inbound_met s count m (inbound m.head)

-- What comes of it, over a store that does so with orders.
abbrev pub next_step : Device → Machine → Disk → Next → TargetStep
next_step device s disk Dropped = unchanged s disk
next_step device s disk (Answered r) = on disk s.tasks r
next_step device s disk (Queued session tasks) = done_in_turn device session disk tasks

-- These requests were accepted (section 4.2.2.1).
abbrev pub having_accepted : List Message → TargetStep → TargetStep
having_accepted ms r = record r { accepted = ms }

-- A PDU in full feature phase, over a store that does so with orders (section 4.2.4).
abbrev pub target_full_step : Device → Machine → Disk → Message → TargetStep
target_full_step device s disk m =
    having_accepted (full_met s disk.count m).accepted
    (next_step device s disk (full_met s disk.count m).next)

-- ---- one message

-- A segment is longer than the framer takes.
abbrev pub is_over_limit : Machine → Segment → Bool
is_over_limit s (Bytes bytes) = nat_lt (target_limit s.session.settings) (length bytes)
is_over_limit s (Text pairs) = false

-- A message, by the phase; a closed session answers nothing (sections 4.2.3 and 4.2.4).
abbrev pub phase_step : Device → Phase → Machine → Disk → Message → TargetStep
phase_step device phases.Login s disk m = on disk s.tasks (target_login_step s.session m)
phase_step device phases.Full s disk m = target_full_step device s disk m
phase_step device phases.Closed s disk m = unchanged s disk

-- One message, over a store that does so with orders; one over the limit closes the session (own
-- rule).
abbrev pub step_on : Device → Machine → Disk → Message → TargetStep
step_on device s disk m =
    if is_machine_closed s then unchanged s disk
    else if is_over_limit s m.segment then shut_down s disk
    else phase_step device s.session.phase s disk m

-- One message, over a store that doesn't fail.
abbrev pub target_step : Bool → Machine → Disk → Message → TargetStep
target_step protected s disk m = step_on (reliable protected) s disk m

-- ---- messages one after another

-- Any messages, over a store that doesn't fail.
unfoldable pub answers : Bool → Machine → Disk → List Message → TargetStep
answers protected s disk [] = unchanged s disk
answers protected s disk (m ∷ ms) =
    then_stepped (target_step protected s disk m)
    (answers protected (target_step protected s disk m).machine
    (target_step protected s disk m).disk ms)

-- ---- a store that may fail

-- The orders were executed one after another, from one count of the store's failures to another.
-- Each execution did what the order does if the count stayed, and failed if the count rose.
abbrev pub ExecutionsRun : Bool → Device → ℕ → List Execution → ℕ → Type 0
ExecutionsRun protected device before [] after = after ≡ before
ExecutionsRun protected device before (e ∷ es) after =
    (now : ℕ)
    × OrderExecuted protected before now e.disk e.order (piece_data e.pieces)
    (device 0 e.disk e.order (piece_data e.pieces))
    × ExecutionsRun protected (device_next device) now es after

-- One message, over a store that may fail, whose failures were counted before and behind it.
pub record MayStep (protected : Bool) (s : Machine) (disk : Disk) (before : ℕ)
    (m : Message) (r : TargetStep)
    (after : ℕ) : Type 0 where
  pub device : Device
  pub is : r ≡ step_on device s disk m
  pub runs : ExecutionsRun protected device before r.executed after

-- One message at which memory ran out, over a store that may fail. Some of the tasks were done, in
-- their order, and the one at which memory ran out changed nothing. No task before that one ended the
-- session, as a broken rule and a logout do.
pub record MayStop (protected : Bool) (s : Machine) (disk : Disk) (before : ℕ)
    (m : Message) (r : TargetStep)
    (after : ℕ) : Type 0 where
  pub full : s.session.phase ≡ phases.Full
  pub session : Session
  pub tasks : List Task
  pub queued : (full_met s disk.count m).next ≡ Queued session tasks
  pub done : ℕ
  pub device : Device
  pub is : r ≡ done_first done device session disk tasks
  pub live : is_machine_closed r.machine ≡ false
  -- the failures that were counted behind the last of them
  pub failures : ℕ
  pub runs : ExecutionsRun protected device before r.executed failures
  pub rises : failures ≤ after

-- Any messages, over a store that may fail.
unfoldable pub MayAnswer : Bool → Machine → Disk → ℕ → List Message → TargetStep → ℕ → Type 0
MayAnswer protected s disk before [] r after = (r ≡ unchanged s disk) × (after ≡ before)
MayAnswer protected s disk before (m ∷ ms) r after =
    (first : TargetStep) × (later : TargetStep) × (now : ℕ)
    × MayStep protected s disk before m first now
    × MayAnswer protected first.machine first.disk now ms later after
    × (r ≡ then_stepped first later)

-- What the parts of this crate do, as its own functions see it. One file, since the parts cite each other.
use Rattle.std.specs.Prelude.{Bool, ◌≡◌, ◌≢◌, ◌⊎◌, ℕ, ◌<◌, ◌≤◌, Option, Some, None, false, true, if◌then◌else◌, List, [], ◌++◌, length, map, insert, remove, slice_index_or, Result, IfOk, OnOk, OnErr, ◌^◌}
use Rattle.std.specs.List.{AllByRecursion}
use Rattle.iscsi_stream.specs.Canonical.{canon}
use Rattle.scsi_disk.specs.Effect.{OrderExecuted}
use Rattle.scsi_disk.specs.declared.order.Order.{Order}
use Rattle.scsi_disk.specs.declared.order.Outcome.{Outcome}
use Rattle.scsi_unit.specs.LogicalUnit.{LogicalUnit}
use Rattle.scsi_unit.specs.Telling.{outcome_with_unit}
use Rattle.iscsi_target.specs.Write.{Write}
use Rattle.iscsi_target.specs.declared.tasks.Task.{Task}
use Rattle.iscsi_target.specs.declared.tasks.Task.TheVariants.{Data}
use Rattle.iscsi_target.specs.State.{Machine, TargetStep, closed_machine, waiting_tasks}
use Rattle.iscsi_target.specs.Queue.{tasks_behind, TakePlaces, IsPending, IsUnasked}
use Rattle.iscsi_target.specs.State.{writes_joined, joined_task}
use Rattle.iscsi_target.specs.Execution.{Device, reliable}
use Rattle.iscsi_pdu.specs.Rules.{kind_not_due, data_out_of_order}
use Rattle.iscsi_stream.specs.Segment.{segment_bytes}
use Rattle.iscsi_target.specs.Command.{breaks_rules, presented}
use Rattle.iscsi_target.specs.Machine.{Met, Next, Dropped, Answered, Queued, is_tag_of, beside, admitted, advanced, broken, on_data_out, ExecutionsRun, write_of, with_write, done_first, done_in_turn, next_step, full_met, is_machine_closed, step_on}
use Rattle.iscsi_target.specs.Feed.{TargetConnection, Store, Scene, scene}
use Rattle.iscsi_target_session.specs.Inbound.{IsRequest}
use Rattle.iscsi_target_session.specs.declared.inbound.InboundRequest.{InboundRequest}
use Rattle.iscsi_target.specs.declared.admission.Admission.{Admission}
use Rattle.iscsi_target.specs.declared.admission.Admission.TheVariants as admissions
use Rattle.iscsi_pdu.specs.declared.head.Head.{Head}
use Rattle.iscsi_pdu.specs.declared.head.Head.TheVariants as heads
use Rattle.iscsi_stream.specs.Stream.{Message}
use Rattle.iscsi_login.specs.declared.phase.Phase.TheVariants as phases
use Rattle.iscsi_pdu.specs.Meaning.{Means}
use Rattle.iscsi_stream.specs.declared.fault.StreamFault.{StreamFault}
use Rattle.iscsi_stream.specs.declared.fault.StreamFault.TheVariants as stream
use Rattle.iscsi_stream.specs.Framing.{Framing, FramerTakes, FramerFeedFails, is_ready, pdu_given_up, message_of}
use Rattle.iscsi_target.specs.declared.fault.TargetFault.{TargetFault}
use Rattle.iscsi_target.specs.declared.fault.TargetFault.TheVariants as faults

-- ---- tasks as a program keeps them

-- The first alone may be an immediate one, and the bytes of each write stand as one piece.
pub record AreInPlace (tasks : List Task) : Type 0 where
  pub places : TakePlaces (tasks_behind tasks)
  pub joined : map joined_task tasks ≡ tasks

-- The write with this tag stands at this place; put back there it is the one in its place.
pub record IsWriteAt (tag : ℕ) (tasks : List Task) (place : ℕ) : Type 0 where
  pub write : Write
  pub within : place < length tasks
  pub at_place : (other : Task) → slice_index_or tasks place other ≡ Data write
  pub found : write_of tasks tag ≡ Some write
  pub back : (v : Write) → v.initiator_task_tag ≡ tag
      → insert (remove tasks place) place (Data v) ≡ with_write v tasks

-- ---- tasks between two PDUs

-- The first task is a write that waits for data, and no R2T was sent for one behind it (section
-- 11.8).
pub record AreKept (tasks : List Task) : Type 0 where
  pub pending : IsPending tasks
  pub unasked : AllByRecursion IsUnasked (tasks_behind tasks)

-- The rule that a request breaks as it is accepted, if it breaks one (sections 11.2.1.8 and 13.14).
abbrev pub rule_at_acceptance : Machine → Message → InboundRequest → Option ℕ
rule_at_acceptance s m r =
    if is_tag_of s.tasks r.initiator_task_tag then Some kind_not_due
    else if breaks_rules s.session.held (length (segment_bytes m.segment)) r.asks
    then Some data_out_of_order
    else None

-- ---- what is judged of a PDU

-- What comes of a PDU of which this is judged, on a disk of n blocks.
abbrev pub comes_of : Machine → ℕ → Message → Admission → Next
comes_of s count m admissions.Outside = Dropped
comes_of s count m (admissions.Breaks rule) = broken s rule m
comes_of s count m (admissions.Beside r) = Answered (beside s m r)
comes_of s count m (admissions.Data h) = on_data_out s m h (segment_bytes m.segment)
comes_of s count m (admissions.AtOnce r) = admitted s (presented count m r)
comes_of s count m (admissions.InTurn r) = admitted (advanced s) (presented count m r)

-- What holds besides: the PDU is that Data-Out or that request, and there is no task, or a place of
-- the window is free and the request isn't immediate (section 4.2.2.1).
abbrev pub MayCome : Machine → Message → Admission → Type 0
MayCome s m admissions.Outside = Unit {0}
MayCome s m (admissions.Breaks rule) = Unit {0}
MayCome s m (admissions.Beside r) = IsRequest r m.head
MayCome s m (admissions.Data h) = m.head ≡ heads.DataOut h
MayCome s m (admissions.AtOnce r) = IsRequest r m.head × (s.tasks ≡ [])
MayCome s m (admissions.InTurn r) =
    IsRequest r m.head × (waiting_tasks s.tasks ≤ 7) × (r.immediate ≡ false)

-- The checks found what comes of the PDU, however many blocks the disk has.
pub record IsChecked (s : Machine) (m : Message) (met : ℕ → Met) (found : Admission)
    : Type 0 where
  pub comes : (count : ℕ) → (met count).next ≡ comes_of s count m found
  pub may : MayCome s m found

-- ---- a step

-- What was done with a message that leaves the disk: it was answered so, or memory ran out. If
-- memory ran out, the target is as it was but for what a closed one drops.
pub record DisklessPost {E : Type 0} (r : TargetStep) (result : Result (Option ℕ) E)
    (old new : Machine)
    (before after : List ℕ) : Type 0 where
  pub machine : OnOk result (new ≡ r.machine)
  pub output : OnOk result (after ≡ before ++ canon r.answers)
  pub rule_is : IfOk result (λ rule. rule ≡ r.rule)
  pub err : OnErr result (closed_machine new ≡ closed_machine old)
  pub unwritten : OnErr result (after ≡ before)

-- A machine at work: it, its store, and what was written so far.
pub record Moment : Type 0 where
  pub machine : Machine
  pub store : Store
  pub output : List ℕ

-- The parts of a machine at work.
abbrev pub moment : Machine → Store → List ℕ → Moment
moment machine store output = record { machine = machine; store = store; output = output }

-- What any message leads to, behind this output and over a store whose failures were counted before
-- and after, execution by execution.
pub record MessageServed (protected : Bool) (failures : ℕ) (before : List ℕ)
    (step : Device → TargetStep) (broken : Option ℕ)
    (new : Moment) : Type 0 where
  pub device : Device
  pub rises : failures ≤ new.store.failures
  pub works : new.store.failures ≡ failures → device ≡ reliable protected
  pub runs : ExecutionsRun protected device failures (step device).executed new.store.failures
  pub machine : writes_joined new.machine ≡ writes_joined (step device).machine
  pub disk_is : new.store.disk ≡ (step device).disk
  pub output : new.output ≡ before ++ canon (step device).answers
  pub rule_is : broken ≡ (step device).rule

-- A message was not answered: nothing was written, no block changed, and but for what a closed
-- session drops the session is as it was.
pub record GivesUpMessage (old new : Moment) : Type 0 where
  pub machine : closed_machine new.machine ≡ closed_machine old.machine
  pub rises : old.store.failures ≤ new.store.failures
  pub disk_is : new.store.disk ≡ old.store.disk
  pub unwritten : new.output ≡ old.output

-- An order without data led to this outcome, over a store, of a disk that may tell more of itself.
pub record OrderLedTo (protected : Bool) (unit : Option LogicalUnit) (order : Order) (before after : Store)
    (outcome : Outcome) : Type 0 where
  pub given : Outcome
  pub executes : OrderExecuted protected before.failures after.failures before.disk order []
      (record { disk = after.disk; outcome = given })
  pub is : outcome ≡ outcome_with_unit unit before.disk.count order given
  pub few : length outcome.bytes < 2 ^ 32

-- What was done with a task, over a store: it was handled so, or memory ran out.
pub record TaskPost {E : Type 0} (protected : Bool) (step : Device → TargetStep)
    (result : Result (Option ℕ) E)
    (old new : Moment) : Type 0 where
  pub ok : IfOk result (λ rule. MessageServed protected old.store.failures old.output step rule new)
  pub err : OnErr result (GivesUpMessage old new)

-- What the first tasks of a machine at work lead to, n of them.
abbrev pub first_done : ℕ → Device → Moment → TargetStep
first_done done device old =
    done_first done device old.machine.session old.store.disk old.machine.tasks

-- Memory ran out at one of its tasks: those before it were done, and it changed nothing. None of
-- them ended the session.
pub record TasksRanOut (protected : Bool) (old new : Moment) : Type 0 where
  pub done : ℕ
  pub device : Device
  pub live : is_machine_closed old.machine ≡ false
      → is_machine_closed (first_done done device old).machine ≡ false
  -- the failures that were counted behind the last of them
  pub failures : ℕ
  pub runs : ExecutionsRun protected device old.store.failures
      (first_done done device old).executed failures
  pub rises : failures ≤ new.store.failures
  pub machine : closed_machine new.machine ≡ closed_machine (first_done done device old).machine
  pub disk_is : new.store.disk ≡ (first_done done device old).disk
  pub output : new.output ≡ old.output ++ canon (first_done done device old).answers

-- What was done with its tasks in their turn, over a store.
pub record TasksPost {E : Type 0} (protected : Bool) (result : Result (Option ℕ) E)
    (old new : Moment) : Type 0 where
  pub ok : IfOk result (λ rule. MessageServed protected old.store.failures old.output
      (λ device. done_in_turn device old.machine.session old.store.disk old.machine.tasks) rule new)
  pub err : OnErr result (TasksRanOut protected old new)

-- Memory ran out at what comes of a PDU: at one of the tasks, or before anything was done.
abbrev pub NextRanOut : Bool → Next → Moment → Moment → Type 0
NextRanOut protected (Queued session tasks) old new =
    TasksRanOut protected (moment (record { session = session; tasks = tasks }) old.store
    old.output) new
NextRanOut protected _ old new = GivesUpMessage old new

-- What was done with a PDU of which this comes, over a store.
pub record NextPost {E : Type 0} (protected : Bool) (next : Next)
    (result : Result (Option ℕ) E) (old new : Moment)
    : Type 0 where
  pub ok : IfOk result (λ rule. MessageServed protected old.store.failures old.output
      (λ device. next_step device old.machine old.store.disk next) rule new)
  pub err : OnErr result (NextRanOut protected next old new)

-- Memory ran out at a message: at one of the tasks that it leads to, or before anything was done.
abbrev pub MessageRanOut : Bool → Message → Moment → Moment → Type 0
MessageRanOut protected m old new =
    GivesUpMessage old new
    ⊎ ((old.machine.session.phase ≡ phases.Full)
    × NextRanOut protected (full_met old.machine old.store.disk.count m).next old new)

-- What was done with a message, over a store.
pub record MessagePost {E : Type 0} (protected : Bool) (m : Message)
    (result : Result (Option ℕ) E) (old new : Moment)
    : Type 0 where
  pub ok : IfOk result (λ rule. MessageServed protected old.store.failures old.output
      (λ device. step_on device old.machine old.store.disk m) rule new)
  pub err : OnErr result (MessageRanOut protected m old new)

-- ---- the next PDU

-- The two parts of a target between two calls.
abbrev pub target_connection : Machine → Framing → TargetConnection
target_connection machine framing = record { machine = machine; framing = framing }

-- The machine of a target at work.
abbrev pub moment_of : Scene → Moment
moment_of at = moment at.connection.machine at.store at.output

-- No PDU is ready, and nothing was done.
pub record TargetUnready (old : Scene) (broken : Option ℕ) (new : Scene) : Type 0 where
  pub unready : is_ready old.connection.framing ≡ false
  pub connection_is : new.connection ≡ old.connection
  pub store_is : new.store ≡ old.store
  pub output_is : new.output ≡ old.output
  pub rule_is : broken ≡ None

-- The PDU that is ready was answered, and the framer is free for the next one.
pub record IsAnswered (protected : Bool) (old : Scene) (broken : Option ℕ)
    (new : Scene) : Type 0 where
  pub head : Head
  pub segment : List ℕ
  pub ready : is_ready old.connection.framing ≡ true
  pub means : Means old.connection.framing.held head segment
  pub framing_is : new.connection.framing ≡ pdu_given_up old.connection.framing head
  pub serves : MessageServed protected old.store.failures old.output
      (λ device. step_on device old.connection.machine old.store.disk
      (message_of old.connection.framing head segment)) broken (moment_of new)

-- The PDU that is ready was answered, if one is.
abbrev pub AnswersReady : Bool → Scene → Option ℕ → Scene → Type 0
AnswersReady protected old broken new = TargetUnready old broken new
    ⊎ IsAnswered protected old broken new

-- Memory ran out at the PDU that is ready: the session is closed, and the PDU is dropped.
pub record TargetShutsReady (protected : Bool) (old new : Scene) : Type 0 where
  pub head : Head
  pub segment : List ℕ
  pub means : Means old.connection.framing.held head segment
  pub unready : is_ready new.connection.framing ≡ false
  pub limit : new.connection.framing.limit ≡ old.connection.framing.limit
  pub settings :
      new.connection.machine.session.settings ≡ old.connection.machine.session.settings
  pub closed_ : new.connection.machine ≡ closed_machine new.connection.machine
  pub halts : MessageRanOut protected (message_of old.connection.framing head segment)
      (moment_of old)
      (moment_of new)

-- The rest of a stream is refused so.
abbrev pub TargetRestFails : Framing → List ℕ → TargetFault → Type 0
TargetRestFails framing rest faults.NoMemory = FramerFeedFails framing rest stream.NoMemory
TargetRestFails framing rest (faults.Stream fault) =
    (fault ≢ stream.NoMemory) × FramerFeedFails framing rest fault
TargetRestFails framing rest (faults.Protocol rule) = ⊥
TargetRestFails framing rest faults.Closed = ⊥

-- Bytes were taken up to the end of a PDU or of the piece, and the PDU was answered if it is whole.
pub record TakesOnePdu (protected : Bool) (old : Scene) (piece : List ℕ) (n : ℕ)
    (broken : Option ℕ) (new : Scene)
    : Type 0 where
  pub framing : Framing
  pub takes : FramerTakes old.connection.framing piece n framing
  pub answers : AnswersReady protected
      (scene (target_connection old.connection.machine framing) old.store old.output) broken new

-- The bytes are refused: the session is closed.
pub record AreRefused (old : Scene) (piece : List ℕ) (fault : TargetFault) (new : Scene)
    : Type 0 where
  pub fails : TargetRestFails old.connection.framing piece fault
  pub machine : new.connection.machine ≡ closed_machine old.connection.machine
  pub store_is : new.store ≡ old.store
  pub output_is : new.output ≡ old.output

-- Memory ran out at the PDU that they complete.
pub record FeedRanOut (protected : Bool) (old : Scene) (piece : List ℕ)
    (fault : TargetFault) (new : Scene)
    : Type 0 where
  pub memory : fault ≡ faults.NoMemory
  pub framing : Framing
  pub count : ℕ
  pub takes : FramerTakes old.connection.framing piece count framing
  pub shuts : TargetShutsReady protected
      (scene (target_connection old.connection.machine framing) old.store old.output) new

-- Why no bytes could be taken, or no PDU answered.
abbrev pub FeedOneFails : Bool → Scene → List ℕ → TargetFault → Scene → Type 0
FeedOneFails protected old piece fault new = AreRefused old piece fault new
    ⊎ FeedRanOut protected old piece fault new

-- A stream's `NoMemory` is the target's own.
abbrev pub target_stream_fault : StreamFault → TargetFault
target_stream_fault stream.NoMemory = faults.NoMemory
target_stream_fault (stream.Head fault place) = faults.Stream (stream.Head fault place)
target_stream_fault (stream.OverLimit place) = faults.Stream (stream.OverLimit place)
target_stream_fault (stream.Truncated place) = faults.Stream (stream.Truncated place)
target_stream_fault stream.Failed = faults.Stream stream.Failed

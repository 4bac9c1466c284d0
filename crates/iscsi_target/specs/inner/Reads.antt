-- Data that go out part by part, and what is read for them. No reader of a session's contract needs these.
use Rattle.std.specs.Prelude.{Bool, ◌≡◌, ℕ, ◌+◌, ◌-◌, ◌*◌, ◌/◌, ◌%◌, ◌^◌, ◌<◌, ◌≤◌, List, [], ◌++◌, length, take, drop, Result, IsErrOf}
use Rattle.scsi_disk.specs.Disk.{Disk}
use Rattle.scsi_disk.specs.Lasting.{Within}
use Rattle.scsi_disk.specs.declared.store.StoreFault.{StoreFault}
use Rattle.scsi_disk.specs.declared.store.StoreFault.TheVariants.{Device}
use Rattle.scsi_disk.specs.Effect.{OrderExecuted}
use Rattle.scsi_disk.specs.inner.Reading.{WereRead}
use Rattle.scsi_disk.specs.declared.order.Order.{Order}
use Rattle.scsi_disk.specs.declared.order.Outcome.{Outcome}
use Rattle.iscsi_pdu.specs.Meaning.{whole}
use Rattle.iscsi_pdu.specs.declared.head.Head.{Head}
use Rattle.iscsi_stream.specs.Canonical.{canon}
use Rattle.iscsi_login.specs.Held.{max_burst}
use Rattle.iscsi_target_session.specs.Session.{Session, data_in_length}
use Rattle.iscsi_target.specs.State.{Machine, waiting_tasks}
use Rattle.iscsi_target.specs.Feed.{Store}
use Rattle.iscsi_target.specs.Execution.{sequence_parts, data_in_parts, data_ins, command_answers}
use Rattle.iscsi_target.specs.declared.machine.data_in.Sent.{Sent}
use Rattle.iscsi_target.specs.declared.machine.source.Source.{Source}
use Rattle.iscsi_target.specs.declared.machine.source.Source.TheVariants.{Bytes, Blocks}

-- Data-In and sequences are of whole blocks (sections 13.12 and 13.13).
pub record TakesBlocks (s : Session) : Type 0 where
  pub segment : data_in_length s % 512 ≡ 0
  pub burst : max_burst s.held % 512 ≡ 0

-- A store was read, if anything was done to it.
pub record IsStoreRead (before after : Store) (kept_before kept_after : ℕ → List ℕ → Type 0) : Type 0 where
  pub disk : after.disk ≡ before.disk
  pub kept : Within kept_before kept_after
  pub rises : before.failures ≤ after.failures

-- The same of a call that appends what it reads: what the output held stays in front, and `Device` is
-- returned only if a failure was counted.
pub record ReadsOnto {T : Type 0} (before after : Store) (kept_before kept_after : ℕ → List ℕ → Type 0)
    (old new : List ℕ) (result : Result T StoreFault) : Type 0 where
  pub read : IsStoreRead before after kept_before kept_after
  pub front : take (length old) new ≡ old
  pub device : IsErrOf result Device → before.failures < after.failures

-- ---- the source of data

-- How many bytes a source has.
abbrev pub source_len : Source → ℕ
source_len (Bytes bytes) = length bytes.now
source_len (Blocks range) = 512 * range.count

-- The source has n bytes from an offset on; of blocks, which lie on a disk of so many, they are whole
-- ones, with numbers below 2^64.
abbrev pub HasPart : Source → ℕ → ℕ → ℕ → Type 0
HasPart (Bytes bytes) blocks offset count = offset + count ≤ length bytes.now
HasPart (Blocks range) blocks offset count =
    (offset % 512 ≡ 0) × (count % 512 ≡ 0) × (offset + count ≤ 512 * range.count)
    × (range.first + range.count ≤ blocks) × (range.first + range.count < 2 ^ 64)

-- The source can be cut into parts of n bytes.
abbrev pub CanBeCut : Source → ℕ → Type 0
CanBeCut (Bytes bytes) size = Unit {0}
CanBeCut (Blocks range) size = size % 512 ≡ 0

-- A source, over a disk whose store's failures were counted before and after.
pub record GivenSource : Type 0 where
  pub source : Source
  pub disk : Disk
  pub before : ℕ
  pub after : ℕ

-- Such a source.
abbrev pub given_by_source : Source → Disk → ℕ → ℕ → GivenSource
given_by_source source disk before after =
    record { source = source; disk = disk; before = before; after = after }

-- These are n bytes of a source from an offset on; blocks were read.
abbrev pub IsPart : Source → Disk → ℕ → ℕ → ℕ → ℕ → List ℕ → Type 0
IsPart (Bytes all) disk before after offset count bytes =
    (after ≡ before) × (length bytes ≡ count) × (bytes ≡ take count (drop offset all.now))
IsPart (Blocks range) disk before after offset count bytes =
    (offset % 512 ≡ 0) × (count % 512 ≡ 0)
    × WereRead disk (range.first + offset / 512) (count / 512) before after bytes

-- These bytes are n of what is given, from an offset on.
abbrev pub IsGivenPart : GivenSource → ℕ → ℕ → List ℕ → Type 0
IsGivenPart from offset count bytes =
    IsPart from.source from.disk from.before from.after offset count bytes

-- ---- what goes out

-- What a machine appends for the command with a tag: what the output held before, and then.
pub record ReadReply : Type 0 where
  pub machine : Machine
  pub tag : ℕ
  pub old : List ℕ
  pub new : List ℕ

-- Such a reply.
abbrev pub reply : Machine → ℕ → List ℕ → List ℕ → ReadReply
reply machine tag old new = record { machine = machine; tag = tag; old = old; new = new }

-- n bytes from an offset on were appended behind a head.
pub record SendsPart (head : Head) (from : GivenSource) (offset count : ℕ) (old new : List ℕ)
    : Type 0 where
  pub bytes : List ℕ
  pub is_of : IsGivenPart from offset count bytes
  pub output : new ≡ old ++ whole head bytes

-- The bytes up to an end were appended as a sequence of Data-In, behind others (section 11.7).
pub record SendsSequence (to : ReadReply) (from : GivenSource) (before sent : Sent) (end : ℕ)
    : Type 0 where
  pub bytes : List ℕ
  pub is_of : IsGivenPart from before.bytes (end - before.bytes) bytes
  pub count : sent.count ≡ before.count + length (sequence_parts to.machine.session bytes)
  pub carried : sent.bytes ≡ end
  pub few : sent.count ≤ sent.bytes
  pub output : to.new ≡ to.old ++ canon (data_ins to.machine.session
      (waiting_tasks to.machine.tasks) to.tag before.count before.bytes
      (sequence_parts to.machine.session bytes))

-- All bytes were appended as n Data-In (section 11.7).
pub record SendsData (to : ReadReply) (from : GivenSource) (count : ℕ) : Type 0 where
  pub bytes : List ℕ
  pub is_of : IsGivenPart from 0 (source_len from.source) bytes
  pub counted : count ≡ length (data_in_parts to.machine.session bytes)
  pub output : to.new ≡ to.old ++ canon (data_ins to.machine.session
      (waiting_tasks to.machine.tasks) to.tag 0 0 (data_in_parts to.machine.session bytes))

-- All bytes were appended, and a response (section 11.4).
pub record SendsAnswers (to : ReadReply) (outcome : Outcome) (from : GivenSource) : Type 0 where
  pub bytes : List ℕ
  pub is_of : IsGivenPart from 0 (source_len from.source) bytes
  pub output : to.new ≡ to.old ++ canon (command_answers to.machine.session
      (waiting_tasks to.machine.tasks) to.tag outcome (data_in_parts to.machine.session bytes))

-- An order without data was executed over a store, and its answers were appended (section 11.4).
pub record AnswersRead (protected : Bool) (to : ReadReply) (order : Order)
    (before after : Store) : Type 0 where
  pub outcome : Outcome
  pub executes : OrderExecuted protected before.failures after.failures before.disk order []
      (record { disk = after.disk; outcome = outcome })
  pub output : to.new ≡ to.old ++ canon (command_answers to.machine.session
      (waiting_tasks to.machine.tasks) to.tag outcome
      (data_in_parts to.machine.session outcome.bytes))

-- A target's session over a stream: what it leaves, and where it ends (RFC 7143, sections 6 and
-- 11).
--
-- `protected` says of the store that it refuses each write.
use Rattle.std.specs.Prelude.{Bool, ◌≡◌, ◌⊎◌, ◌≤◌, ◌<◌, ℕ, true, false, List, [], ◌∷◌, ◌++◌, length, take, min, Option, Some, None, Result, Ok, Err, codes}
use Rattle.std.specs.Io.KnownBytes.{Appends, Consumes, IsAtEnd}
use Rattle.scsi_disk.specs.Disk.{Disk}
use Rattle.iscsi_pdu.specs.declared.head.Head.{Head}
use Rattle.iscsi_pdu.specs.Meaning.{AreBytes, IsHeader, head_fault}
use Rattle.iscsi_stream.specs.declared.fault.StreamFault.{StreamFault}
use Rattle.iscsi_stream.specs.declared.fault.StreamFault.TheVariants as stream
use Rattle.iscsi_stream.specs.Segment.{no_login}
use Rattle.iscsi_stream.specs.Stream.{Message, ReadsAs, NoPdu, SplitsStream, longest_segment}
use Rattle.iscsi_stream.specs.Framing.{IsBegun, last_place}
use Rattle.iscsi_login.specs.Negotiation.{standard_preferences}
use Rattle.iscsi_target.specs.declared.fault.TargetFault.{TargetFault}
use Rattle.iscsi_target.specs.declared.fault.TargetFault.TheVariants as faults
use Rattle.iscsi_target_session.specs.Configured.{TargetSettings, no_extras}
use Rattle.iscsi_target_session.specs.Session.{target_limit}
use Rattle.iscsi_stream.specs.Canonical.{canon}
use Rattle.iscsi_target.specs.State.{TargetStep, opening_machine, unchanged}
use Rattle.iscsi_target.specs.Machine.{answers, is_machine_closed, MayStop}
use Rattle.iscsi_target.specs.Feed.{TargetConnection, Store, StoreAndOutputReached, beginning, opening_target}
use Rattle.iscsi_target.specs.Advances.{TargetAdvances, store_of}
use Rattle.iscsi_target.specs.Crash.{CrashesFed}
use Rattle.iscsi_serve.specs.declared.session_fault.SessionFault.{SessionFault}
use Rattle.iscsi_serve.specs.declared.session_fault.SessionFault.TheVariants as session

-- What the target of the programs is configured with.
abbrev pub target_settings : TargetSettings
target_settings = record {
  name = codes "iqn.2026-01.example:disk";
  group = 1;
  tsih = 1;
  preferences = standard_preferences;
  extras = no_extras;
}

-- A target's fault as the end of its session; its `NoMemory` is the session's own.
abbrev pub ended_by : TargetFault → SessionFault
ended_by faults.NoMemory = session.NoMemory
ended_by (faults.Stream fault) = session.Target (faults.Stream fault)
ended_by (faults.Protocol rule) = session.Target (faults.Protocol rule)
ended_by faults.Closed = session.Target faults.Closed

-- The target has answered all PDUs of what was read, of its longest prefix in the profile: what is
-- written and the blocks are those that they lead to.
abbrev pub ServesAllPdus : Bool → TargetSettings → Disk → List ℕ → Disk → List ℕ → Type 0
ServesAllPdus protected settings disk read disk_now written =
    (ms : List Message) (given rest : List ℕ) → SplitsStream longest_segment read ms given rest
    → StoreAndOutputReached protected (beginning settings 1 disk) ms disk_now written

-- The first PDUs of what was read, within the limit of the target's framer, and what follows them.
pub record ServedPdus (settings : TargetSettings) (read : List ℕ) : Type 0 where
  pub messages : List Message
  pub given : List ℕ
  pub rest : List ℕ
  pub whole : read ≡ given ++ rest
  pub reads : ReadsAs (target_limit settings) no_login given messages

-- What these PDUs lead to.
abbrev pub led : Bool → (settings : TargetSettings) → Disk → (read : List ℕ)
    → ServedPdus settings read
    → TargetStep
led protected settings disk read receives = answers protected (opening_machine settings 1)
    disk receives.messages

-- Some tasks of the PDU behind those that were answered were done, in their order, over a device
-- that did not fail.
pub record DoesSome (protected : Bool) (settings : TargetSettings) (disk : Disk) (read : List ℕ)
    (receives : ServedPdus settings read)
    (front : TargetStep) : Type 0 where
  pub message : Message
  -- what was read begins with these PDUs and that one
  pub more : ServedPdus settings read
  pub behind : more.messages ≡ receives.messages ++ message ∷ []
  pub failures : ℕ
  pub stops : MayStop protected (led protected settings disk read receives).machine
      (led protected settings disk read receives).disk
      failures message front failures

-- The answers to some first PDUs of what was read are written, whole, and the blocks are those that
-- these PDUs lead to. Of the PDU behind them some tasks may have been done, whole.
pub record ServesFirstPdus (protected : Bool) (settings : TargetSettings) (disk : Disk)
    (read : List ℕ) (disk_now : Disk)
    (written : List ℕ) : Type 0 where
  pub receives : ServedPdus settings read
  pub front : TargetStep
  pub stops : (front ≡ unchanged (led protected settings disk read receives).machine
      (led protected settings disk read receives).disk)
      ⊎ DoesSome protected settings disk read receives front
  pub disk_is : disk_now ≡ front.disk
  pub output_is : written ≡ canon ((led protected settings disk read receives).answers
      ++ front.answers)

-- A front of what was due is written: of the answers to all PDUs of a front of what was read, or to
-- some first ones of them. The blocks are those that these lead to.
pub record ServesFront (protected : Bool) (settings : TargetSettings) (disk : Disk)
    (read : List ℕ) (disk_now : Disk)
    (written : List ℕ) : Type 0 where
  pub front : List ℕ
  pub behind : List ℕ
  pub whole : read ≡ front ++ behind
  pub due : List ℕ
  pub served : ServesAllPdus protected settings disk front disk_now due
      ⊎ ServesFirstPdus protected settings disk front disk_now due
  pub count : ℕ
  pub written_is : written ≡ take count due

-- What a session leaves where it ends; no fault wraps the want of memory.
abbrev pub SessionServed : Bool → TargetSettings → Disk → Result (Unit {0}) SessionFault → List ℕ
    → Disk → List ℕ
    → Type 0
SessionServed protected settings disk (Ok done) read disk_now written =
    ServesAllPdus protected settings
    disk read disk_now written
SessionServed protected settings disk (Err (session.Target (faults.Stream fault))) read disk_now
    written =
    ServesAllPdus protected settings disk read disk_now written
SessionServed protected settings disk (Err (session.Target (faults.Protocol rule))) read disk_now
    written =
    ServesAllPdus protected settings disk read disk_now written
SessionServed protected settings disk (Err session.Read) read disk_now written =
    ServesAllPdus protected settings disk read disk_now written
SessionServed protected settings disk (Err session.NoMemory) read disk_now written =
    ServesFirstPdus protected settings disk read disk_now written
SessionServed protected settings disk (Err (session.Target faults.NoMemory)) read disk_now written =
    ⊥
SessionServed protected settings disk (Err (session.Target faults.Closed)) read disk_now written = ⊥
SessionServed protected settings disk (Err session.Sync) read disk_now written =
    ServesFront protected settings disk read disk_now written
SessionServed protected settings disk (Err session.Write) read disk_now written =
    ServesFront protected settings disk read disk_now written

-- The session was closed by the first PDUs of what was read, and none of them broke a rule. It was
-- closed by a logout or a refused login (RFC 7143, sections 11.13 and 11.14).
abbrev pub IsSessionOver : Bool → TargetSettings → Disk → List ℕ → Type 0
IsSessionOver protected settings disk read = (receives : ServedPdus settings read)
    × ((led protected settings disk read receives).rule ≡ None)
    × (is_machine_closed (led protected settings disk read receives).machine ≡ true)

-- The session goes on, and no rule was broken, behind the PDUs that what was read has.
abbrev pub SessionGoesOnBehind : Bool → (settings : TargetSettings) → Disk → (read : List ℕ)
    → ServedPdus settings read
    → Type 0
SessionGoesOnBehind protected settings disk read receives
    = ((led protected settings disk read receives).rule ≡ None)
    × (is_machine_closed (led protected settings disk read receives).machine ≡ false)

-- The bytes behind PDUs are what the framer refuses, or a PDU that is begun and not whole; the
-- fault names their place.
abbrev pub ServedRestFails : ℕ → StreamFault → List ℕ → List ℕ → Type 0
ServedRestFails limit (stream.Head fault place) given rest = (48 ≤ length rest)
    × (head_fault (take 48 rest) ≡ Some fault) × (place ≡ min (length given) last_place)
ServedRestFails limit (stream.OverLimit place) given rest = (48 ≤ length rest)
    × ((head : Head) × (len : ℕ) × IsHeader (take 48 rest) head len × (limit < len))
    × (place ≡ min (length given) last_place)
ServedRestFails limit (stream.Truncated place) given rest = (0 < length rest)
    × IsBegun limit rest × NoPdu limit rest × (place ≡ min (length given) last_place)
ServedRestFails limit stream.NoMemory given rest = ⊥
ServedRestFails limit stream.Failed given rest = ⊥

-- Why a session ends, by the PDUs of what was read; where memory ran out, or a sync or a write
-- failed, nothing is stated of it.
abbrev pub SessionEndsBy : Bool → TargetSettings → Disk → Result (Unit {0}) SessionFault → List ℕ
    → Type 0
-- it was closed, or what was read ends behind its last PDU
SessionEndsBy protected settings disk (Ok done) read = IsSessionOver protected settings disk read
    ⊎ ((receives : ServedPdus settings read) × SessionGoesOnBehind protected settings disk read
    receives
    × (receives.rest ≡ []))
-- the last PDU broke this rule
SessionEndsBy protected settings disk (Err (session.Target (faults.Protocol rule))) read =
    (receives : ServedPdus settings read) × ((led protected settings disk read receives).rule
    ≡ Some rule)
-- the bytes behind the PDUs are refused
SessionEndsBy protected settings disk (Err (session.Target (faults.Stream fault))) read =
    (receives : ServedPdus settings read) × SessionGoesOnBehind protected settings disk read
    receives
    × ServedRestFails (target_limit settings) fault receives.given receives.rest
-- no fault came before the read that failed
SessionEndsBy protected settings disk (Err session.Read) read =
    (receives : ServedPdus settings read) × SessionGoesOnBehind protected settings disk read
    receives
    × IsBegun (target_limit settings) receives.rest × NoPdu (target_limit settings) receives.rest
SessionEndsBy protected settings disk (Err session.NoMemory) read = Unit {0}
SessionEndsBy protected settings disk (Err (session.Target faults.NoMemory)) read = ⊥
SessionEndsBy protected settings disk (Err session.Sync) read = Unit {0}
SessionEndsBy protected settings disk (Err session.Write) read = Unit {0}
SessionEndsBy protected settings disk (Err (session.Target faults.Closed)) read = ⊥

-- A PDU that is begun and not whole is a fault once the reader has told its end, and not before.
abbrev pub EndsCut : Result (Unit {0}) SessionFault → Option (List ℕ) → Type 0
EndsCut (Err (session.Target (faults.Stream (stream.Truncated place)))) left = IsAtEnd left
EndsCut _ left = Unit {0}

-- ---- a sync that failed

-- These bytes led a target and its store from here to there; of the failures that were counted some
-- may be those of syncs.
pub record SyncedAdvances (protected : Bool) (old : TargetConnection) (before : Store)
    (bytes : List ℕ) (new : TargetConnection)
    (after : Store) : Type 0 where
  pub failures : ℕ
  pub few : failures ≤ after.failures
  pub advances : TargetAdvances protected old before bytes new (store_of after.disk failures)

-- They did so, or the session was closed by them.
abbrev pub GoesOnOrClosed : Bool → TargetConnection → Store → List ℕ → TargetConnection → Store
    → Type 0
GoesOnOrClosed protected old before bytes new after =
    (is_machine_closed new.machine ≡ true) ⊎ SyncedAdvances protected old before bytes new after

-- What a session with these settings over a store read and wrote.
pub record SessionExchange : Type 0 where
  pub settings : TargetSettings
  pub store : Store
  pub read : List ℕ
  pub written : List ℕ

-- Such an exchange.
abbrev pub exchange : TargetSettings → Store → List ℕ → List ℕ → SessionExchange
exchange settings store read written =
    record { settings = settings; store = store; read = read; written = written }

-- What was written are the answers to all PDUs of a front of what was read, where the store was
-- this one and a crash left this. A crash at last leaves of each block what it would have left then,
-- or what a command of a PDU behind that front leaves of it.
pub record SentBefore (protected : Bool) (all : SessionExchange) (store : Store)
    (kept : ℕ → List ℕ → Type 0) (last : Store)
    (left : ℕ → List ℕ → Type 0) : Type 0 where
  pub front : List ℕ
  pub behind : List ℕ
  pub whole : all.read ≡ front ++ behind
  -- where the session stood then
  pub target : TargetConnection
  pub stands : GoesOnOrClosed protected (opening_target all.settings 1)
      all.store front target store
  pub answered : store.failures ≡ all.store.failures
      → ServesAllPdus protected all.settings all.store.disk front store.disk all.written
  pub few : store.failures ≤ last.failures
  pub crash : CrashesFed protected target store behind last kept left

-- ---- the end

-- A session that ended well has read its reader to the end, or was closed.
abbrev pub EndsWell : Bool → TargetSettings → Disk → Option (List ℕ) → Option (List ℕ) → Type 0
EndsWell protected settings disk before after =
    IsAtEnd after ⊎ ((read : List ℕ) × Consumes before after read
    × IsSessionOver protected settings disk read)

-- ---- a session over a stream

-- What is around a session at a moment: what may still be read and what was written, as far as these
-- are known, the store, and what a crash leaves of each of its blocks.
pub record Around : Type 1 where
  pub remaining : Option (List ℕ)
  pub contents : Option (List ℕ)
  pub store : Store
  pub kept : ℕ → List ℕ → Type 0

-- These four together.
abbrev pub around : Option (List ℕ) → Option (List ℕ) → Store → (ℕ → List ℕ → Type 0) → Around
around remaining contents store kept =
    record { remaining = remaining; contents = contents; store = store; kept = kept }

-- A session has read this and written that, and ended so. A crash leaves each block as before, or as
-- a command of a PDU of what was read leaves it.
abbrev pub ServesStream : Bool → TargetSettings → Result (Unit {0}) SessionFault → Around → Around
    → Type 0
ServesStream protected settings result old new = (read : List ℕ) × (written : List ℕ)
    × Consumes old.remaining new.remaining read
    × Appends old.contents new.contents written × AreBytes written
    × (new.store.failures ≡ old.store.failures
    → SessionServed protected settings old.store.disk result read new.store.disk written
    × SessionEndsBy protected settings old.store.disk result read)
    × CrashesFed protected (opening_target settings 1) old.store read
    new.store old.kept new.kept

-- The last answers that a session has written left this store, of which a crash leaves that.
abbrev pub WroteBefore : Bool → TargetSettings → Around → Store → (ℕ → List ℕ → Type 0) → Around
    → Type 0
WroteBefore protected settings old store kept new = (read : List ℕ) × (written : List ℕ)
    × Consumes old.remaining new.remaining read × Appends old.contents new.contents written
    × SentBefore protected (exchange settings old.store read written) store kept new.store new.kept

-- What the parts of a session do: bytes that came are fed, and their answers are written or wait. No
-- reader of its contract needs these.
--
-- `protected` says of the store that it refuses each write.
use Rattle.std.specs.Prelude.{Bool, ◌≡◌, ◌≤◌, ℕ, List, [], ◌++◌, Option, Err}
use Rattle.std.specs.Io.KnownBytes.{Appends}
use Rattle.iscsi_pdu.specs.Meaning.{AreBytes}
use Rattle.iscsi_stream.specs.Normalising.{WroteFront}
use Rattle.iscsi_login.specs.Negotiation.{ArePreferencesInRange}
use Rattle.iscsi_stream.specs.declared.fault.StreamFault.{StreamFault}
use Rattle.iscsi_stream.specs.declared.fault.StreamFault.TheVariants as stream
use Rattle.iscsi_target.specs.declared.fault.TargetFault.TheVariants as faults
use Rattle.iscsi_target_session.specs.Configured.{TargetSettings}
use Rattle.iscsi_target.specs.Feed.{TargetConnection, Store, FeedsAllPieces, opening_target, stream_of, scene}
use Rattle.iscsi_target.specs.Crash.{CrashesFed}
use Rattle.iscsi_serving.specs.Executed.{HasExecuted}
use Rattle.iscsi_serve.specs.Session.{IsSessionOver, SessionEndsBy, ServesFirstPdus, ServesFront, GoesOnOrClosed}
use Rattle.iscsi_serve.specs.declared.session_fault.SessionFault.{SessionFault}
use Rattle.iscsi_serve.specs.declared.session_fault.SessionFault.TheVariants as session

-- A target, its store, what a writer got, and the answers that wait.
pub record ServedTarget : Type 0 where
  pub target : TargetConnection
  pub store : Store
  pub contents : Option (List ℕ)
  pub waiting : List ℕ

-- These four together.
abbrev pub service : TargetConnection → Store → Option (List ℕ) → List ℕ → ServedTarget
service target store contents waiting = record {
  target = target;
  store = store;
  contents = contents;
  waiting = waiting;
}

-- This stream was fed in pieces, from the first store on, and led to what is now. Of the answers
-- some were sent, behind what the writer had got at the start, and the others wait. What is said of
-- the answers holds if no failure was counted.
pub record ServedUpTo (protected : Bool) (settings : TargetSettings) (first : Store)
    (stream : List ℕ)
    (start : Option (List ℕ)) (now : ServedTarget) : Type 0 where
  pub pieces : List (List ℕ)
  pub whole : stream ≡ stream_of pieces
  pub sent : List ℕ
  pub appended : Appends start now.contents sent
  pub bytes : AreBytes sent
  pub rises : first.failures ≤ now.store.failures
  pub fed : now.store.failures ≡ first.failures
      → FeedsAllPieces protected (scene (opening_target settings 1) first []) pieces
      (scene now.target now.store (sent ++ now.waiting))
  pub executed : HasExecuted protected first.disk now.store.disk

-- The store was synced, or the sync failed: no block has changed.
pub record StoreSynced (before after : Store) : Type 0 where
  pub disk : after.disk ≡ before.disk
  pub rises : before.failures ≤ after.failures

-- The answers that waited were not all sent: none where the sync failed, and a front of them where
-- a write did.
abbrev pub HoldsBack : SessionFault → Option (List ℕ) → Option (List ℕ) → List ℕ → Type 0
HoldsBack session.Sync contents now waiting = now ≡ contents
HoldsBack session.Write contents now waiting = WroteFront contents now waiting
HoldsBack session.NoMemory contents now waiting = ⊥
HoldsBack session.Read contents now waiting = ⊥
HoldsBack (session.Target fault) contents now waiting = ⊥

-- What was served up to here is served with these bytes more.
abbrev pub ServiceGoesOn : Bool → ServedTarget → List ℕ → ServedTarget → Type 0
ServiceGoesOn protected old bytes new =
    (settings : TargetSettings) (first : Store) (stream : List ℕ) (start : Option (List ℕ))
    → ServedUpTo protected settings first stream start old
    → ServedUpTo protected settings first (stream ++ bytes) start new

-- These bytes close the session, where no failure was counted up to this store.
abbrev pub BytesCloseSession : Bool → ServedTarget → List ℕ → Store → Type 0
BytesCloseSession protected old bytes after =
    (settings : TargetSettings) (first : Store) (stream : List ℕ) (start : Option (List ℕ))
    → ServedUpTo protected settings first stream start old
    → after.failures ≡ first.failures → IsSessionOver protected settings first.disk
    (stream ++ bytes)

-- A front of what was due was sent, behind some of these bytes, and the blocks are those that commands
-- left.
abbrev pub SendsFrontAlone : Bool → ServedTarget → List ℕ → ServedTarget → Type 0
SendsFrontAlone protected old bytes new =
    (settings : TargetSettings) (first : Store) (stream : List ℕ) (start : Option (List ℕ))
    → ServedUpTo protected settings first stream start old
    → (sent : List ℕ) × Appends start new.contents sent × AreBytes sent
    × HasExecuted protected first.disk new.store.disk
    × (ArePreferencesInRange settings.preferences → new.store.failures ≡ first.failures
    → ServesFront protected settings first.disk (stream ++ bytes) new.store.disk sent)

-- These bytes are why the session ends so, where no failure was counted up to this store.
abbrev pub TellsSessionEnd : Bool → ServedTarget → List ℕ → SessionFault → Store → Type 0
TellsSessionEnd protected old bytes fault after =
    (settings : TargetSettings) (first : Store) (stream : List ℕ) (start : Option (List ℕ))
    → ServedUpTo protected settings first stream start old
    → after.failures ≡ first.failures → SessionEndsBy protected settings first.disk
    (Err fault) (stream ++ bytes)

-- The answers to some first PDUs were sent, and the blocks are those that commands left.
abbrev pub ServiceRanOut : Bool → ServedTarget → List ℕ → ServedTarget → Type 0
ServiceRanOut protected old bytes new =
    (settings : TargetSettings) (first : Store) (stream : List ℕ) (start : Option (List ℕ))
    → ServedUpTo protected settings first stream start old
    → (sent : List ℕ) × Appends start new.contents sent × AreBytes sent
    × HasExecuted protected first.disk new.store.disk
    × (new.store.failures ≡ first.failures
    → ServesFirstPdus protected settings first.disk (stream ++ bytes) new.store.disk sent)

-- When the last answers left, some first bytes were served, the store was this one, and a crash
-- left this. A crash at last leaves of each block what it would have left then, or what a command
-- of a PDU behind them leaves of it.
pub record LeftLast (protected : Bool) (old : ServedTarget) (bytes : List ℕ) (store : Store)
    (kept : ℕ → List ℕ → Type 0)
    (new : ServedTarget) (left : ℕ → List ℕ → Type 0) : Type 0 where
  pub front : List ℕ
  pub behind : List ℕ
  pub whole : bytes ≡ front ++ behind
  pub target : TargetConnection
  pub goes : ServiceGoesOn protected old front (service target store new.contents [])
  pub stands : GoesOnOrClosed protected old.target old.store front target store
  pub few : store.failures ≤ new.store.failures
  pub crash : CrashesFed protected target store behind new.store kept left

-- The fault is not that a stream ends within a PDU: more of it may come.
abbrev pub IsUncut : StreamFault → Type 0
IsUncut (stream.Truncated place) = ⊥
IsUncut _ = Unit {0}

-- What is left where a session ends by a fault at these bytes.
abbrev pub SessionFaultLeaves : Bool → ServedTarget → List ℕ → SessionFault → ServedTarget → Type 0
SessionFaultLeaves protected old bytes session.NoMemory new = ServiceRanOut protected old bytes new
SessionFaultLeaves protected old bytes (session.Target faults.NoMemory) new = ⊥
SessionFaultLeaves protected old bytes (session.Target (faults.Stream fault)) new =
    ServiceGoesOn protected old bytes new × TellsSessionEnd protected old bytes
    (session.Target (faults.Stream fault)) new.store
    × IsUncut fault
SessionFaultLeaves protected old bytes (session.Target (faults.Protocol rule)) new =
    ServiceGoesOn protected old bytes new × TellsSessionEnd protected old bytes
    (session.Target (faults.Protocol rule)) new.store
SessionFaultLeaves protected old bytes (session.Target faults.Closed) new = ⊥
SessionFaultLeaves protected old bytes session.Read new = ⊥
SessionFaultLeaves protected old bytes session.Sync new = SendsFrontAlone protected old bytes new
SessionFaultLeaves protected old bytes session.Write new = SendsFrontAlone protected old bytes new

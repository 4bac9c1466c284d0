-- Several sessions over one store, in whatever order their PDUs come (RFC 7143, section 4.2).
--
-- `protected` says of the store that it refuses each write.
use Rattle.std.specs.Prelude.{◌≡◌, ◌⊎◌, ◌≤◌, ℕ, Bool, true, false, ◌==◌, List, [], ◌∷◌, ◌++◌, length, Option, None, Some, Result, OnOk}
use Rattle.std.specs.List.{flat_map}
use Rattle.iscsi_stream.specs.Stream.{Message}
use Rattle.iscsi_stream.specs.Canonical.{canon}
use Rattle.iscsi_target_session.specs.Configured.{TargetSettings}
use Rattle.iscsi_target.specs.declared.fault.TargetFault.{TargetFault}
use Rattle.iscsi_target.specs.State.{Machine, Execution, TargetStep, closed_machine, writes_joined, opening_machine, unchanged}
use Rattle.iscsi_target.specs.Machine.{is_machine_closed, answers, MayAnswer, MayStop}
use Rattle.iscsi_target.specs.Feed.{Store}
use Rattle.iscsi_target.specs.Asking.{NoneAsks}
use Rattle.iscsi_sessions.specs.Slots.{SessionTable, Slot, slot_asks, has_cache_at, notes_asking, slot_at, slot_waiting}

-- ---- a turn

-- The machine of each slot that has a session.
abbrev pub Slots : Type 0
Slots = ℕ → Option Machine

-- Bytes came for a slot. A turn has the store that the slot's session met, the PDUs that the bytes
-- completed, and what these PDUs did. It also has what was done of the PDU behind them, if memory
-- ran out there, and the store behind the turn.
pub record Turn : Type 0 where
  pub slot : ℕ
  pub before : Store
  pub messages : List Message
  pub stepped : TargetStep
  pub front : TargetStep
  pub after : Store

-- What the turn answered.
abbrev pub answers_of : Turn → List Message
answers_of t = t.stepped.answers ++ t.front.answers

-- What the turn executed.
abbrev pub executed_of : Turn → List Execution
executed_of t = t.stepped.executed ++ t.front.executed

-- Behind the PDUs nothing was done, or some tasks of the next PDU, at which memory ran out.
abbrev pub IsTaskFront : Bool → TargetStep → ℕ → TargetStep → ℕ → Type 0
IsTaskFront protected r counted front after =
    ((front ≡ unchanged r.machine r.disk) × (counted ≤ after))
    ⊎ ((m : Message) × MayStop protected r.machine r.disk counted m front after)

-- The turn is the machine's own, on the store that it met. It did what the machine may do if the
-- device fails. If no failure was counted, it did exactly what the machine does. A closed session
-- takes no turn.
pub record IsOwn (protected : Bool) (s : Machine) (t : Turn) : Type 0 where
  pub live : is_machine_closed s ≡ false
  pub counted : ℕ
  pub may : MayAnswer protected s t.before.disk t.before.failures t.messages t.stepped counted
  pub works : t.after.failures ≡ t.before.failures
      → t.stepped ≡ answers protected s t.before.disk t.messages
  pub front : IsTaskFront protected t.stepped counted t.front t.after.failures
  pub disk : t.after.disk ≡ t.front.disk

-- The session behind a turn: as its PDUs left it, or closed by a fault behind them.
abbrev pub IsLeftSession : Machine → Machine → Type 0
IsLeftSession s new = (new ≡ writes_joined s) ⊎ (new ≡ closed_machine s)

-- The session behind the end of its stream: as it was, or closed.
abbrev pub IsEnded : Machine → Machine → Type 0
IsEnded s new = (new ≡ s) ⊎ (new ≡ closed_machine s)

-- No other slot changes.
abbrev pub OthersStay : ℕ → Slots → Slots → Type 0
OthersStay slot slots after = (k : ℕ) → (slot == k) ≡ false → after k ≡ slots k

-- One turn of one slot: it is its machine's own on the store as it is, and no other session
-- changes.
pub record IsTurn (protected : Bool) (slots : Slots) (store : Store) (t : Turn) (after : Slots)
    (last : Store) : Type 0 where
  pub met : t.before ≡ store
  pub machine : Machine
  pub had : slots t.slot ≡ Some machine
  pub own : IsOwn protected machine t
  pub left : Machine
  pub is_left : IsLeftSession t.front.machine left
  pub has : after t.slot ≡ Some left
  pub others : OthersStay t.slot slots after
  pub last_is : last ≡ t.after

-- ---- a table's life

-- What happens in a table: a session gets a free slot, takes a turn, has the store synced for its
-- answers if these have to wait for it, has its stream ended, or leaves.
pub data SlotEvent : Type 0 where
  Comes : ℕ → TargetSettings → SlotEvent
  Takes : Turn → SlotEvent
  Syncs : ℕ → SlotEvent
  Ends : ℕ → SlotEvent
  Goes : ℕ → SlotEvent

-- The machine of the slot goes from one to another, and no other session changes.
pub record MachineMoves (slot : ℕ) (slots after : Slots) (P : Machine → Machine → Type 0) : Type
    0 where
  pub machine : Machine
  pub had : slots slot ≡ Some machine
  pub left : Machine
  pub does : P machine left
  pub has : after slot ≡ Some left
  pub others : OthersStay slot slots after

-- This happens, and the blocks change by turns alone. A sync may count failures.
abbrev pub SlotEventStep : Bool → Slots → Store → SlotEvent → Slots → Store → Type 0
SlotEventStep protected slots store (Comes slot settings) after last =
    (slots slot ≡ None) × (after slot ≡ Some (opening_machine settings 1))
    × OthersStay slot slots after × (last ≡ store)
SlotEventStep protected slots store (Takes t) after last = IsTurn protected slots store t after last
SlotEventStep protected slots store (Syncs slot) after last =
    ((k : ℕ) → after k ≡ slots k) × (last.disk ≡ store.disk) × (store.failures ≤ last.failures)
SlotEventStep protected slots store (Ends slot) after last = MachineMoves slot slots after IsEnded
    × (last ≡ store)
SlotEventStep protected slots store (Goes slot) after last =
    (after slot ≡ None) × OthersStay slot slots after × (last ≡ store)

-- Any events, in whatever order.
unfoldable pub SlotEventsRun : Bool → Slots → Store → List SlotEvent → Slots → Store → Type 0
SlotEventsRun protected slots store [] after last = ((k : ℕ) → after k ≡ slots k) × (last ≡ store)
SlotEventsRun protected slots store (e ∷ es) after last =
    (mid : Slots) × (now : Store) × SlotEventStep protected slots store e mid now
    × SlotEventsRun protected mid now es after last

-- What an event executed.
abbrev pub executed_by : SlotEvent → List Execution
executed_by (Takes t) = executed_of t
executed_by _ = []

-- What was executed, whichever session had it done, in order.
abbrev pub executed_in : List SlotEvent → List Execution
executed_in es = flat_map executed_by es

-- ---- one session's part

-- The slot of an event.
abbrev pub slot_of : SlotEvent → ℕ
slot_of (Comes slot settings) = slot
slot_of (Takes t) = t.slot
slot_of (Syncs slot) = slot
slot_of (Ends slot) = slot
slot_of (Goes slot) = slot

-- The event, if it is there.
abbrev pub event_if : Bool → SlotEvent → List SlotEvent → List SlotEvent
event_if true e es = e ∷ es
event_if false e es = es

-- The events of one slot, in order.
abbrev pub slot_events : ℕ → List SlotEvent → List SlotEvent
slot_events slot [] = []
slot_events slot (e ∷ es) = event_if (slot_of e == slot) e (slot_events slot es)

-- These events are one session's, from a machine on: each goes on from where the last one left it,
-- over the blocks that it met.
unfoldable pub SessionEvents : Bool → Machine → List SlotEvent → Machine → Type 0
SessionEvents protected s [] last = last ≡ s
SessionEvents protected s (Takes t ∷ es) last =
    (mid : Machine) × IsOwn protected s t × IsLeftSession t.front.machine mid
    × SessionEvents protected mid es last
SessionEvents protected s (Syncs slot ∷ es) last = SessionEvents protected s es last
SessionEvents protected s (Ends slot ∷ es) last = (mid : Machine) × IsEnded s mid
    × SessionEvents protected mid es last
SessionEvents protected s (Comes slot settings ∷ es) last = ⊥
SessionEvents protected s (Goes slot ∷ es) last = ⊥

-- The event leaves the session of the slot there.
abbrev pub KeepsSession : Bool → SlotEvent → Type 0
KeepsSession false e = Unit {0}
KeepsSession true (Takes t) = Unit {0}
KeepsSession true (Syncs slot) = Unit {0}
KeepsSession true (Ends slot) = Unit {0}
KeepsSession true (Comes slot settings) = ⊥
KeepsSession true (Goes slot) = ⊥

-- In these events one session has the slot throughout.
abbrev pub KeepsSlot : ℕ → List SlotEvent → Type 0
KeepsSlot slot [] = Unit {0}
KeepsSlot slot (e ∷ es) = KeepsSession (slot_of e == slot) e × KeepsSlot slot es

-- ---- slots of a table

-- The machine of what is in a slot.
abbrev pub machine_in : Option Slot → Option Machine
machine_in None = None
machine_in (Some s) = Some s.connection.machine

-- The machine of each slot of a table.
abbrev pub machines : SessionTable → Slots
machines table place = machine_in (slot_at table place)

-- One turn was taken at a slot, of at most one PDU where there is no fault, and its answers wait
-- there, behind those that did.
pub record TakesTurn (protected : Bool) (slot : ℕ) (old : SessionTable) (before : Store)
    (result : Result ℕ TargetFault)
    (new : SessionTable) (after : Store) : Type 0 where
  pub turn : Turn
  pub slot_is : turn.slot ≡ slot
  pub one : OnOk result (length turn.messages ≤ 1)
  pub is_turn : IsTurn protected (machines old) before turn (machines new) after
  pub answers_are : slot_waiting (slot_at new slot)
      ≡ slot_waiting (slot_at old slot) ++ canon (answers_of turn)
  -- Over a disk with a write cache: where the slot does not ask, no command asks that the turn
  -- executed, or whose answer waited before.
  pub asks : OnOk result (has_cache_at (slot_at old slot) ≡ true
      → notes_asking (slot_at new slot) ≡ false
      → (slot_asks (slot_at old slot) ≡ false) × NoneAsks (executed_of turn))
  -- The disk has a write cache if it had one.
  pub cache : OnOk result (has_cache_at (slot_at new slot) ≡ has_cache_at (slot_at old slot))

-- This happened in the table, and no block changed.
abbrev pub HappensIn : SlotEvent → SessionTable → SessionTable → Type 0
HappensIn e old new =
    (protected : Bool) (store : Store) → SlotEventStep protected (machines old) store
    e (machines new) store

-- No session changed.
abbrev pub SameMachines : SessionTable → SessionTable → Type 0
SameMachines old new = (place : ℕ) → machines new place ≡ machines old place

-- What happens in the table of a service, as events of that table (RFC 7143, section 4.2).
--
-- `protected` says of the store that it refuses each write.
use Rattle.std.specs.Prelude.{Bool, ◌≡◌, ◌<◌, ◌≤◌, ℕ, zero, suc, ◌+◌, true, false, ◌==◌, nat_lt, if◌then◌else◌, List, [], ◌∷◌, length, None}
use Rattle.std.specs.List.{AllByRecursion}
use Rattle.iscsi_target.specs.Feed.{Store}
use Rattle.iscsi_sessions.specs.Slots.{SessionTable, slot_at}
use Rattle.iscsi_sessions.specs.Turns.{SlotEvent, Comes, Ends, Goes, KeepsSession, SlotEventsRun, Slots, Syncs, Takes, machines, slot_of}
use Rattle.iscsi_event_loop.specs.declared.budget.Budget.{Budget}
use Rattle.iscsi_serving.specs.Access.{Door}
use Rattle.iscsi_event_loop.specs.Admitting.{ComesBy}
use Rattle.iscsi_event_loop.specs.Giving.{GivesNothing, given_at, most_given, most_waiting_at}

-- ---- how much is taken

-- So many at one slot, and none at another.
abbrev pub only_at_slot : ℕ → ℕ → ℕ → ℕ
only_at_slot slot n k = if nat_lt k slot then 0 else if nat_lt slot k then 0 else n

-- How many PDUs an event takes at a slot. A turn takes one, or a part of one.
abbrev pub pdus_by : ℕ → SlotEvent → ℕ
pdus_by k (Takes turn) = only_at_slot turn.slot 1 k
pdus_by k (Comes slot settings) = 0
pdus_by k (Syncs slot) = 0
pdus_by k (Ends slot) = 0
pdus_by k (Goes slot) = 0

-- How many PDUs events take at a slot.
abbrev pub taken_at : ℕ → List SlotEvent → ℕ
taken_at k [] = 0
taken_at k (e ∷ es) = pdus_by k e + taken_at k es

-- How many PDUs a turn of a slot takes at most (own rule).
abbrev pub most_pdus : ℕ
most_pdus = 8

-- ---- in the whole table

-- The event is at one of the first n slots.
abbrev pub IsAmong : ℕ → SlotEvent → Type 0
IsAmong count e = slot_of e < count

-- The slots of a service, and who may come there.
pub record Room : Type 0 where
  pub table : SessionTable
  pub door : Door

-- There are as many slots, for the same.
abbrev pub IsSameRoom : Room → Room → Type 0
IsSameRoom old new =
    (length new.table.slots ≡ length old.table.slots) × (new.door ≡ old.door)

-- The events are at the slots of a room, and whoever comes is let in there.
abbrev pub AreAdmitted : Room → List SlotEvent → Type 0
AreAdmitted room es =
    AllByRecursion (IsAmong (length room.table.slots)) es × AllByRecursion (ComesBy room.door) es

-- Some events at the slots of a room, of those who are let in, lead from it and its store to another
-- one, which has as many.
unfoldable pub RunsWithin : Bool → Room → Store → Room → Store → Type 0
RunsWithin protected old before new after = IsSameRoom old new
    × (es : List SlotEvent) × AreAdmitted old es
    × SlotEventsRun protected (machines old.table) before es (machines new.table) after

-- Some events do so, and take so many PDUs at each slot at most.
unfoldable pub RunsFew : Bool → (ℕ → ℕ) → Room → Store → Room → Store → Type 0
RunsFew protected most old before new after = IsSameRoom old new
    × (es : List SlotEvent) × AreAdmitted old es
    × SlotEventsRun protected (machines old.table) before es (machines new.table) after
    × ((k : ℕ) → taken_at k es ≤ most k)

-- Some events do so whatever the store, leave it as it is, take no PDU, and give no peer anything.
unfoldable pub RunsIdle : Room → Room → Type 0
RunsIdle old new =
    GivesNothing old.table new.table × ((protected : Bool) (store : Store)
    → RunsFew protected (λ k. 0) old store new store)

-- ---- at one slot

-- Every other slot is as it was.
abbrev pub OthersAreKept : ℕ → SessionTable → SessionTable → Type 0
OthersAreKept slot old new = (k : ℕ) → (slot == k) ≡ false → slot_at new k ≡ slot_at old k

-- The event is one of the session at a slot, of n, which keeps it.
abbrev pub IsSlotEvent : ℕ → ℕ → SlotEvent → Type 0
IsSlotEvent slot count e = (slot_of e ≡ slot) × IsAmong count e × KeepsSession true e

-- Some events of the session at one slot lead from a table and its store to another one, which has
-- as many slots. Every other slot is as it was, and P holds of the events.
abbrev pub HappensAt : Bool → ℕ → SessionTable → Store → (List SlotEvent → Type 0) → SessionTable → Store → Type 0
HappensAt protected slot old before P new after = OthersAreKept slot old new
    × (length new.slots ≡ length old.slots)
    × (es : List SlotEvent) × AllByRecursion (IsSlotEvent slot (length old.slots)) es
    × SlotEventsRun protected (machines old) before es (machines new) after
    × P es

-- A turn of the session at one slot. It takes as many PDUs at most as its budget says. It gives
-- the peer as many bytes at most in all writes but the last one, and in that one what waited.
unfoldable pub SlotTurns : Bool → ℕ → Budget → SessionTable → Store → SessionTable → Store → Type 0
SlotTurns protected slot budget old before new after = HappensAt protected slot old before
    (λ es. ((k : ℕ) → taken_at k es ≤ only_at_slot slot budget.pdus k)
    × (given_at slot old es new ≤ budget.given + most_waiting_at slot old es))
    new after

-- ---- at one slot after another

-- The room with these slots.
abbrev pub with_table : SessionTable → Room → Room
with_table table room = record room { table = table }

-- A slot has such a turn, and then sessions come and go.
unfoldable pub TurnOf : Bool → ℕ → Budget → Room → Store → Room → Store → Type 0
TurnOf protected slot budget old before new after =
    (left : SessionTable) × SlotTurns protected slot budget old.table before left after
    × RunsIdle (with_table left old) new

-- A budget is no more than eight PDUs and 262,144 bytes.
abbrev pub IsSmall : Budget → Type 0
IsSmall budget = (budget.pdus ≤ most_pdus) × (budget.given ≤ most_given)

-- Sessions come and go, and then each of the first n slots has such a turn, one after another.
unfoldable pub InTurns : Bool → ℕ → Room → Store → Room → Store → Type 0
InTurns protected zero old before new after = RunsIdle old new × (after ≡ before)
InTurns protected (suc n) old before new after = (met : Room) × (now : Store) × (budget : Budget)
    × IsSmall budget × InTurns protected n old before met now
    × TurnOf protected n budget met now new after

-- Slots have such turns, each of them one at most.
unfoldable pub RunsInTurns : Bool → Room → Store → Room → Store → Type 0
RunsInTurns protected old before new after = (n : ℕ) × InTurns protected n old before new after

-- ---- from free slots on

-- No session has a slot.
abbrev pub no_sessions : Slots
no_sessions place = None

-- What a service of n slots did: its events at these slots, and the sessions in the end. The events
-- lead from free slots and one store to those sessions and the other store. Whoever came was let in at
-- this door.
pub record Served (protected : Bool) (count : ℕ) (door : Door) (before after : Store) : Type
    0 where
  pub events : List SlotEvent
  pub few : AllByRecursion (IsAmong count) events
  pub admitted : AllByRecursion (ComesBy door) events
  pub slots : Slots
  pub runs : SlotEventsRun protected no_sessions before events slots after

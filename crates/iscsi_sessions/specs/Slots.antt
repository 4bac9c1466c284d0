-- What a table of slots holds, and what its calls do. A table is for several sessions of a target at
-- a time, over one store (RFC 7143, section 4.2; which slot may be read and fed is own rule).
--
-- `protected` says of the store that it refuses each write.
use Rattle.std.specs.Prelude.{◌≡◌, ℕ, Bool, true, false, not, ◌==◌, ◌&&◌, ◌||◌, nat_lt, List, [], length, drop, get_or, set, replicate, Option, None, Some, Result, Ok, Err}
use Rattle.iscsi_login.specs.declared.phase.Phase.{Phase}
use Rattle.iscsi_target_session.specs.Configured.{TargetSettings}
use Rattle.iscsi_target.specs.declared.fault.TargetFault.{TargetFault}
use Rattle.iscsi_target.specs.Machine.{is_machine_closed}
use Rattle.iscsi_target.specs.Asking.{NotesAsking, has_cache}
use Rattle.iscsi_target.specs.Feed.{TargetConnection, Store, FeedNextPost, TargetFinishPost, opening_target, scene}

-- ---- a slot

-- A session with what it has still to write and to take.
pub record Slot : Type 0 where
  pub connection : TargetConnection
  -- the answers that are not written
  pub waiting : List ℕ
  -- the peer was offered what waits, and has not taken all of it
  pub offered : Bool
  -- what was read and not taken
  pub unfed : List ℕ
  -- over a disk with a write cache: a command behind which all that was written is to last may have
  -- been executed, whose answers are not all written
  pub asks : Bool

-- A session to which nothing came, whose first StatSN is 1 (section 4.2.2.2; own rule).
abbrev pub opening_slot : TargetSettings → Slot
opening_slot settings = record {
  connection = opening_target settings 1;
  waiting = [];
  offered = false;
  unfed = [];
  asks = false;
}

-- What the session is doing (section 6.3).
abbrev pub phase_of : Slot → Phase
phase_of s = s.connection.machine.session.phase

-- The session goes on, and all its answers are written.
abbrev pub is_slot_idle : Slot → Bool
is_slot_idle s = length s.waiting == 0 && not (is_machine_closed s.connection.machine)

-- More may be read: all that was read is taken, and all answers are written.
abbrev pub may_read : Slot → Bool
may_read s = is_slot_idle s && length s.unfed == 0

-- More answers may be gathered, to be written together: none waits, or they have less than 65,536
-- bytes and were not offered to the peer.
abbrev pub has_answer_room : Slot → Bool
has_answer_room s = length s.waiting == 0 || (not s.offered && nat_lt (length s.waiting) 65536)

-- What waits may have the answer to a command that asks that what was written lasts.
abbrev pub still_asks : Slot → Bool
still_asks s = s.asks && not (length s.waiting == 0)

-- The next PDU may be taken: something that was read is not, the session goes on, and there is room
-- for answers.
abbrev pub may_take : Slot → Bool
may_take s =
    has_answer_room s && not (is_machine_closed s.connection.machine) && not (length s.unfed == 0)

-- The most bytes that are read at a time.
abbrev pub most_read : ℕ
most_read = 262_144

-- The slot with what was read.
abbrev pub slot_with_read : List ℕ → Slot → Slot
slot_with_read piece s = record s { unfed = piece }

-- The slot when its answers were offered, and n bytes of them written.
abbrev pub with_sent : ℕ → Slot → Slot
with_sent count s = record s { waiting = drop count s.waiting; offered = true }

-- What is not taken behind a call that took `count` bytes; behind a fault it is dropped.
abbrev pub unfed_left : Result ℕ TargetFault → List ℕ → List ℕ
unfed_left (Ok count) unfed = drop count unfed
unfed_left (Err fault) unfed = []

-- What a call of feed_next answers, by what it took and the phase behind it.
abbrev pub with_phase : Phase → Result ℕ TargetFault → Result (ℕ × Phase) TargetFault
with_phase phase (Ok count) = Ok (count, phase)
with_phase phase (Err fault) = Err fault

-- One call of feed_next with what was not taken; its answers wait behind those that did.
pub record SlotFeedsNext (protected : Bool) (old : Slot) (before : Store)
    (result : Result ℕ TargetFault) (new : Slot)
    (after : Store) : Type 0 where
  pub fed : FeedNextPost protected (scene old.connection before old.waiting) old.unfed
      (with_phase (phase_of new) result) (scene new.connection after new.waiting)
  pub offered : new.offered ≡ false
  pub unfed : new.unfed ≡ unfed_left result old.unfed
  -- where the slot does not ask, no command asks that the call executed
  pub asks : NotesAsking protected (scene old.connection before old.waiting) old.unfed
      (with_phase (phase_of new) result) (scene new.connection after new.waiting)
      (still_asks old) new.asks

-- The stream ended; what waits stays.
pub record SlotFinishes (old : Slot) (result : Result (Unit {0}) TargetFault)
    (new : Slot) : Type 0 where
  pub finishes : TargetFinishPost old.connection result new.connection
  pub waiting : new.waiting ≡ old.waiting
  pub offered : new.offered ≡ old.offered
  pub unfed : new.unfed ≡ old.unfed
  pub asks : new.asks ≡ old.asks

-- ---- a table

-- Slots, each free or with a session.
pub record SessionTable : Type 0 where
  pub slots : List (Option Slot)
  -- the slot whose answers may be written: the store is synced, as far as they have to wait for that
  pub settled : Option ℕ
  -- a sync failed, so what commands wrote may be lost
  pub lost : Bool

-- So many slots, all free.
abbrev pub free_slots : ℕ → SessionTable
free_slots n = record { slots = replicate n None; settled = None; lost = false }

-- What is in a slot; none where it is free, or there is no such slot.
abbrev pub slot_at : SessionTable → ℕ → Option Slot
slot_at table place = get_or table.slots place None

-- The table with this in a slot.
abbrev pub with_slot : SessionTable → ℕ → Option Slot → SessionTable
with_slot table place slot = record table { slots = set table.slots place slot }

-- Of a slot that may be free: more may be read there.
abbrev pub may_read_at : Option Slot → Bool
may_read_at None = false
may_read_at (Some s) = may_read s

-- Of a slot that may be free: the next PDU may be taken there.
abbrev pub may_take_at : Option Slot → Bool
may_take_at None = false
may_take_at (Some s) = may_take s

-- More may be read at a slot. Nothing is, once a sync failed.
abbrev pub table_may_read : SessionTable → ℕ → Bool
table_may_read table place = not table.lost && may_read_at (slot_at table place)

-- The next PDU may be taken at a slot. None is, once a sync failed.
abbrev pub table_may_take : SessionTable → ℕ → Bool
table_may_take table place = not table.lost && may_take_at (slot_at table place)

-- The name of the initiator there, as its login gave it; no byte before that.
abbrev pub initiator_at : Option Slot → List ℕ
initiator_at None = []
initiator_at (Some s) = s.connection.machine.session.initiator_name

-- The CmdSN that the next numbered request there is to have; 0 if nobody is there.
abbrev pub expected_command_at : Option Slot → ℕ
expected_command_at None = 0
expected_command_at (Some s) = s.connection.machine.session.exp_cmd_sn

-- What waits to be written there.
abbrev pub slot_waiting : Option Slot → List ℕ
slot_waiting None = []
slot_waiting (Some s) = s.waiting

-- What waits there may have the answer to a command that asks that what was written lasts.
abbrev pub slot_asks : Option Slot → Bool
slot_asks None = false
slot_asks (Some s) = still_asks s

-- It is noted there that a command asks so.
abbrev pub notes_asking : Option Slot → Bool
notes_asking None = false
notes_asking (Some s) = s.asks

-- The disk of the session there has a write cache.
abbrev pub has_cache_at : Option Slot → Bool
has_cache_at None = false
has_cache_at (Some s) = has_cache s.connection.machine

-- What waits at a slot is offered to its peer only once the store is synced. It may do without where
-- the disk has a write cache and the session goes on, unless the slot asks (SBC-3, section 4.15; that a
-- session which is over asks, too, is own rule).
abbrev pub must_sync : Option Slot → Bool
must_sync None = true
must_sync (Some s) =
    not (has_cache s.connection.machine) || (s.asks || is_machine_closed s.connection.machine)

-- One session did so, and every other slot is as it was.
pub record SlotChanges (place : ℕ) (old new : SessionTable) (P : Slot → Slot → Type 0) : Type 0 where
  pub before : Slot
  pub after : Slot
  pub was : slot_at old place ≡ Some before
  pub now : new.slots ≡ set old.slots place (Some after)
  pub lost : new.lost ≡ old.lost
  pub does : P before after

-- One turn: the session of a slot took a PDU, over the store of all.
abbrev pub SlotTakesPdu : Bool → ℕ → SessionTable → Store → Result ℕ TargetFault → SessionTable → Store → Type 0
SlotTakesPdu protected place old before result new after =
    SlotChanges place old new (λ was now. SlotFeedsNext protected was before result now after)

-- A service of several sessions at a time: what it has, and when it is done.
use Rattle.std.specs.Prelude.{◌≡◌, ℕ, ◌<◌, Bool, true, false, nat_le, length, Option, None, Some, is_some}
use Rattle.iscsi_sessions.specs.Slots.{SessionTable, slot_at}
use Rattle.iscsi_event_loop.specs.Running.{Room}

-- The slots and who may have one, how many connections or logins were counted, and how many are to be;
-- none: any number.
pub record ServerState : Type 0 where
  pub room : Room
  pub counted : ℕ
  pub most : Option ℕ

-- So many were counted as are to be.
abbrev pub has_all : Option ℕ → ℕ → Bool
has_all (Some most) counted = nat_le most counted
has_all None counted = false

-- No session has a slot.
abbrev pub IsEmpty : SessionTable → Type 0
IsEmpty table =
    (slot : ℕ) → slot < length table.slots → is_some (slot_at table slot) ≡ false

-- All were counted, and their sessions are over.
abbrev pub IsServiceDone : ServerState → Type 0
IsServiceDone service = (has_all service.most service.counted ≡ true) × IsEmpty service.room.table

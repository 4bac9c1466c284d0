-- Which connection makes room for another one (own rule).
use Rattle.std.specs.Prelude.{◌≡◌, ◌<◌, ◌≤◌, ℕ, Bool, true, false, nat_lt, List, length, get_or, Option, None, Some, is_some}
use Rattle.iscsi_login.specs.declared.phase.Phase.{Phase}
use Rattle.iscsi_login.specs.declared.phase.Phase.TheVariants as phases
use Rattle.iscsi_sessions.specs.Slots.{SessionTable, Slot, phase_of, slot_at}

-- The phase is that of a login.
abbrev pub is_login_phase : Phase → Bool
is_login_phase phases.Login = true
is_login_phase _ = false

-- A guest has the slot: a connection that has not logged in.
abbrev pub is_guest : Option Slot → Bool
is_guest None = false
is_guest (Some s) = is_login_phase (phase_of s)

-- The slot makes room: all slots are taken, and of those that guests have it is the one that was
-- taken first, whoever else has logged in. Arrivals are numbered, slot by slot.
pub record MakesRoom (table : SessionTable) (arrivals : List ℕ) (slot : ℕ) : Type 0 where
  pub full : (k : ℕ) → k < length table.slots → is_some (slot_at table k) ≡ true
  pub guest : is_guest (slot_at table slot) ≡ true
  pub first : (k : ℕ) → is_guest (slot_at table k) ≡ true
      → get_or arrivals slot 0 ≤ get_or arrivals k 0

-- The connection of a slot came before that of another one, if there is one.
abbrev pub comes_first : List ℕ → ℕ → Option ℕ → Bool
comes_first arrivals slot None = true
comes_first arrivals slot (Some other) =
    nat_lt (get_or arrivals slot 0) (get_or arrivals other 0)

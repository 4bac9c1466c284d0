-- Which connection makes room, slot by slot.
use Rattle.std.proofs.Common.{◌≡◌, ◌≤◌, ◌<◌, ℕ, true, false, List, Option, None, Some, arith}
use Rattle.std.proofs.Common.{get_or, is_some}
use Rattle.iscsi_sessions.specs.Slots.{SessionTable, slot_at}
use Rattle.iscsi_event_loop.specs.inner.Room.{is_guest}

-- of the slots before this one
pub record OldestIn (table : SessionTable) (arrivals : List ℕ) (slot oldest : ℕ) : Type 0 where
  pub guest : is_guest (slot_at table oldest) ≡ true
  pub first : (k : ℕ) → k < slot → is_guest (slot_at table k) ≡ true → get_or arrivals oldest 0 ≤ get_or arrivals k 0

abbrev pub IsOldest : SessionTable → List ℕ → ℕ → Option ℕ → Type 0
IsOldest table arrivals slot None = (k : ℕ) → k < slot → is_guest (slot_at table k) ≡ false
IsOldest table arrivals slot (Some oldest) = OldestIn table arrivals slot oldest

abbrev pub OldestBefore : SessionTable → List ℕ → ℕ → Option ℕ → Type 0
OldestBefore table arrivals slot oldest = ((k : ℕ) → k < slot → is_some (slot_at table k) ≡ true) × IsOldest table arrivals slot oldest

pub oldest_first : (table : SessionTable) (arrivals : List ℕ) → OldestBefore table arrivals 0 None
oldest_first table arrivals = ((λ k lt. absurd (omega (arith, lt))), (λ k lt. absurd (omega (arith, lt))))

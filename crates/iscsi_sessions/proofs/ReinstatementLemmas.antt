-- The slots up to one, of which none holds a session that is taken over.
use Rattle.std.proofs.Common.{◌≡◌, ◌<◌, ◌≤◌, inl, inr, ℕ, ◌+◌, Bool, true, false, ◌==◌, length, Option, None, Some, refl, sym, ap, subst, ◌∙◌, arith}
use Rattle.std.specs.Prelude.{not, ◌&&◌}
use Rattle.std.proofs.lemmas.Bool.{cases_lt}
use Rattle.std.proofs.lemmas.List.{get_or_past}
use Rattle.iscsi_sessions.specs.Slots.{SessionTable, Slot, slot_at}
use Rattle.iscsi_sessions.specs.Reinstatement.{takes_over_at, takes_place_of}

-- no session of the first n slots is taken over
abbrev pub NoneBefore : SessionTable → ℕ → ℕ → Type 0
NoneBefore table slot n = (k : ℕ) → k < n → takes_place_of table slot k ≡ false

pub none_first : (table : SessionTable) (slot : ℕ) → NoneBefore table slot 0
none_first table slot k lt = let bad : ⊥ = omega (arith, lt) in absurd bad

pub none_next : (table : SessionTable) (slot n : ℕ) → NoneBefore table slot n → takes_place_of table slot n ≡ false → NoneBefore table slot (n + 1)
none_next table slot n before here k lt = elim (cases_lt k n) [
  | inl less ↦ before k less
  | inr ge ↦ let e : k ≡ n = omega (arith, lt, ge) in subst (λ (j : ℕ). takes_place_of table slot j ≡ false) (sym e) here
]

from_free : (o : Option Slot) → takes_over_at o None ≡ false
from_free None = refl
from_free (Some s) = refl

and_false : (b : Bool) → (b && false) ≡ false
and_false true = refl
and_false false = refl

past_last : (table : SessionTable) (slot k : ℕ) → length table.slots ≤ k → takes_place_of table slot k ≡ false
past_last table slot k le =
    ap (λ (o : Option Slot). not (k == slot) && takes_over_at (slot_at table slot) o) (get_or_past table.slots k None le)
    ∙ ap (λ (b : Bool). not (k == slot) && b) (from_free (slot_at table slot)) ∙ and_false (not (k == slot))

pub none_at_all : (table : SessionTable) (slot n : ℕ) → NoneBefore table slot n → length table.slots ≤ n → (k : ℕ) → takes_place_of table slot k ≡ false
none_at_all table slot n before le k = elim (cases_lt k n) [
  | inl less ↦ before k less
  | inr ge ↦ past_last table slot k (omega (arith, le, ge))
]

-- What stands at a place of a list that was changed at one place, or got one more at its end.
use Rattle.std.proofs.Common.{◌≡◌, ◌≢◌, ℕ, zero, suc, ◌<◌, ◌≤◌, List, [], ◌∷◌, length, set, refl, ap, arith}
use Rattle.std.specs.Prelude.{slice_get, Some, None}

pub get_set_same : {X : Type 0} (xs : List X) (k : ℕ) (x : X) → k < length xs
    → slice_get (set xs k x) k ≡ Some x
get_set_same [] k x h = absurd (omega (arith, h))
get_set_same (y ∷ ys) zero x h = refl
get_set_same (y ∷ ys) (suc k) x h = get_set_same ys k x (omega (arith, h))

pub get_set_other : {X : Type 0} (xs : List X) (i k : ℕ) (x : X) → k ≢ i
    → slice_get (set xs i x) k ≡ slice_get xs k
get_set_other [] i k x h = refl
get_set_other (y ∷ ys) zero zero x h = absurd (h refl)
get_set_other (y ∷ ys) zero (suc k) x h = refl
get_set_other (y ∷ ys) (suc i) zero x h = refl
get_set_other (y ∷ ys) (suc i) (suc k) x h = get_set_other ys i k x (λ e. h (ap suc e))

pub get_behind : {X : Type 0} (xs : List X) (k : ℕ) → length xs ≤ k → slice_get xs k ≡ None
get_behind [] k l = refl
get_behind (x ∷ xs) zero l = absurd (omega (arith, l))
get_behind (x ∷ xs) (suc k) l = get_behind xs k (omega (arith, l))

-- Words.
use Rattle.std.proofs.Common.{◌≡◌, Bool, List, [], ◌∷◌, map, refl, ap}
use Rattle.std.specs.Prelude.{◌||◌}
use Rattle.std.specs.List.{list_any}

-- one of the values passes, if one of what they are of does
pub any_mapped : {A B : Type 0} (test : B → Bool) (value : A → B) (xs : List A) → list_any test (map value xs) ≡ list_any (λ x. test (value x)) xs
any_mapped test value [] = refl
any_mapped test value (x ∷ xs) = ap (λ (t : Bool). test (value x) || t) (any_mapped test value xs)

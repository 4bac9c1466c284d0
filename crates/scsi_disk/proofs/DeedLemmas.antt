-- Bytes that are held against others.
use Rattle.std.proofs.Common.{◌≡◌, ◌∙◌, ℕ, zero, suc, ◌+◌, ◌<◌, ◌≤◌, Bool, true, false, cond, eqb, min, List, [], ◌∷◌, length, drop, Option, Some, None, refl, sym, ap, arith}
use Rattle.std.proofs.Common.{get_or, inl, inr}
use Rattle.std.proofs.lemmas.Bool.{cases_lt, eq-eqb, ne_eqb}
use Rattle.std.proofs.lemmas.List.{drop_all, drop_more}
use Rattle.scsi_disk.specs.Deed.{first_other}

here : (n i : ℕ) (xs ys : List ℕ) → i < length xs → i < length ys → first_other n (drop i xs) (drop i ys)
    ≡ cond (eqb (get_or xs i 0) (get_or ys i 0)) (first_other (n + 1) (drop (i + 1) xs) (drop (i + 1) ys)) (Some n)
unfolding first_other
here n i xs ys a b = λ j. first_other n (drop_more xs i 0 a j) (drop_more ys i 0 b j)

-- where two bytes are alike, the first other one is behind them
pub alike_here : (n i : ℕ) (xs ys : List ℕ) → i < length xs → i < length ys → get_or xs i 0 ≡ get_or ys i 0
    → first_other n (drop i xs) (drop i ys) ≡ first_other (n + 1) (drop (i + 1) xs) (drop (i + 1) ys)
alike_here n i xs ys a b e =
    here n i xs ys a b ∙ ap (λ (t : Bool). cond t (first_other (n + 1) (drop (i + 1) xs) (drop (i + 1) ys)) (Some n)) (eq-eqb (get_or xs i 0) (get_or ys i 0) e)

-- else it is there
pub other_here : (n i : ℕ) (xs ys : List ℕ) → i < length xs → i < length ys → (get_or xs i 0 ≡ get_or ys i 0 → ⊥)
    → first_other n (drop i xs) (drop i ys) ≡ Some n
other_here n i xs ys a b e =
    here n i xs ys a b ∙ ap (λ (t : Bool). cond t (first_other (n + 1) (drop (i + 1) xs) (drop (i + 1) ys)) (Some n)) (ne_eqb (get_or xs i 0) (get_or ys i 0) e)

none_left : (n : ℕ) (xs : List ℕ) → first_other n xs [] ≡ None
unfolding first_other
none_left n [] = refl
none_left n (x ∷ xs) = refl

none_due : (n : ℕ) (ys : List ℕ) → first_other n [] ys ≡ None
unfolding first_other
none_due n [] = refl
none_due n (y ∷ ys) = refl

-- past the end of either there is none
pub ended : (n i : ℕ) (xs ys : List ℕ) → min (length xs) (length ys) ≤ i → first_other n (drop i xs) (drop i ys) ≡ None
ended n i xs ys end = elim (cases_lt i (length xs)) [
  | inl lt ↦ ap (first_other n (drop i xs)) (drop_all i ys (omega (arith, lt, end))) ∙ none_left n (drop i xs)
  | inr ge ↦ ap (λ (t : List ℕ). first_other n t (drop i ys)) (drop_all i xs ge) ∙ none_due n (drop i ys)
]

-- What an array's `map` gives.
use Rattle.std.proofs.Common.{◌≡◌, ℕ, zero, suc, ◌+◌, ◌<◌, List, ◌∷◌, length, map, drop, get_or, sym, ap, subst, ◌∙◌, add-one, arith}
use Rattle.std.proofs.Math.Seq.{drop-cons}
use Rattle.std.proofs.lemmas.List.{drop_all}
use mathlib.Core.List.{map-id}
use Rattle.std.specs.Array.{MapsFrom, IsMapOf}
use denote.Param.Members.{Mut, Called}

-- a closure that stays as it is, and gives what s sees as what h gives
module _ {F A B C : Type 0} (g : Mut F (A × Unit {0}) B) (s : B → C) (h : A → C) (f : F) (gives : (a : A) (b : B) (q : F) → Called g f (a, tt) b q →
    (s b ≡ h a) × (q ≡ f)) where
  seen_from : (xs : List A) (ys : List B) (i n : ℕ) → i + n ≡ length xs → length ys ≡ length xs → MapsFrom g f xs ys i n →
      map s (drop i ys) ≡ map h (drop i xs)
  seen_from xs ys i zero end same each =
      ap (map s) (drop_all i ys (omega (arith, end, same))) ∙ sym (ap (map h) (drop_all i xs (omega (arith, end))))
  seen_from xs ys i (suc n) end same (q, x, y, (_, at), (_, is), called, more) =
      let (value, kept) = gives x y q called in
      let bound : i < length xs = omega (arith, end) in
      let rest : map s (drop (i + 1) ys) ≡ map h (drop (i + 1) xs) =
      seen_from xs ys (i + 1) n (omega (arith, end)) same (subst (λ p. MapsFrom g p xs ys (i + 1) n) kept more) in
      ap (map s) (drop-cons ys i y (omega (arith, bound, same)))
      ∙ ap (λ v. v ∷ map s (drop (suc i) ys)) (ap s (is y) ∙ value ∙ ap h (sym (at x)))
      ∙ ap (λ vs. h (get_or xs i x) ∷ vs) (subst (λ k. map s (drop k ys) ≡ map h (drop k xs)) (add-one i) rest)
      ∙ sym (ap (map h) (drop-cons xs i x bound))

  pub maps_seen : (xs : List A) (ys : List B) (n : ℕ) → n ≡ length xs → IsMapOf g f xs ys n → map s ys ≡ map h xs
  maps_seen xs ys n long is = seen_from xs ys 0 n (omega (arith, long)) (is.long ∙ long) is.each

module _ {F A B : Type 0} (g : Mut F (A × Unit {0}) B) (h : A → B) (f : F) (gives : (a : A) (b : B) (q : F) → Called g f (a, tt) b q → (b ≡ h a)
    × (q ≡ f)) where
  pub maps : (xs : List A) (ys : List B) (n : ℕ) → n ≡ length xs → IsMapOf g f xs ys n → ys ≡ map h xs
  maps xs ys n long is = sym (map-id ys) ∙ maps_seen g (λ y. y) h f gives xs ys n long is

-- Pairs of unlike keys, sorted.
use Rattle.std.proofs.Common.{◌≡◌, ℕ, ◌≤◌, Bool, true, cond, List, [], ◌∷◌, length, sum_by, IsPermutation, refl, sym, ap, ◌∙◌, inl, inr, ◌⊎◌, arith}
use Rattle.std.specs.List.{AllByRecursion}
use Rattle.std.specs.Str.{bytes_eq}
use Rattle.std.proofs.lemmas.List.Sums.{sum_by-cons}
use Rattle.std.proofs.lemmas.List.Elements.{All-from_recursion, recursion_from_All}
use Rattle.std.proofs.lemmas.List.Sorted.{IsPermutation-map, All-permutation, sum_by-IsPermutation}
use Rattle.iscsi_text.specs.declared.pair.Pair.{Pair}
use Rattle.iscsi_text.specs.Value.{Typed}
use Rattle.iscsi_text.specs.Text.{Pairs, values_of, IsInOrder}
use Rattle.iscsi_text.specs.Shown.{shown, all_shown}
use Rattle.iscsi_text.specs.Reading.{in_order}
use Rattle.iscsi_text.proofs.KeyLemmas.{bytes_eq_same, bytes_eq_other}
use Rattle.iscsi_text.proofs.PairLemmas.{values_of-same, values_of-other, key_cases}
use Rattle.iscsi_text.proofs.OrderLemmas.{arranged_is}
use Rattle.iscsi_login.specs.inner.Inside.{all_new}
use Rattle.iscsi_login.proofs.OfferMeaningLaw.{at_most_one}

-- how many values a key has
by_test : Bool → ℕ
by_test t = cond t 1 0

abbrev one : List ℕ → List ℕ × Typed → ℕ
one key p = by_test (bytes_eq p.0 key)

count : (key : List ℕ) (ps : Pairs) → sum_by (one key) ps ≡ length (values_of key ps)
unfolding by_test
count key [] = refl
count key (p ∷ ps) = elim (key_cases p.0 key) [
  | inl same ↦ omega (
    arith,
    sum_by-cons (one key) p ps,
    ap by_test (bytes_eq_same p.0 key same),
    ap length (values_of-same key p ps same),
    count key ps,
  )
  | inr other ↦ omega (
    arith,
    sum_by-cons (one key) p ps,
    ap by_test (bytes_eq_other p.0 key other),
    ap length (values_of-other key p ps other),
    count key ps,
  )
]

nothing : (vs : List Typed) → length vs ≤ 0 → vs ≡ []
nothing [] le = refl
nothing (v ∷ vs) le = absurd (omega (arith, le))

-- a pair of the key has all its values
abbrev Has : List ℕ → List Typed → List ℕ × Typed → Type 0
Has key values p = p.0 ≡ key → values ≡ p.1 ∷ []

has_each : (key : List ℕ) (values : List Typed) (ps : Pairs) → length values ≤ 1 → (values_of key ps ≡ values) ⊎ (values_of key ps ≡ []) →
    AllByRecursion (Has key values) ps
has_each key values [] short is = tt
has_each key values (p ∷ ps) short is = elim (key_cases p.0 key) [
  | inl same ↦ elim is [
    | inl all ↦
        let whole : p.1 ∷ values_of key ps ≡ values = sym (values_of-same key p ps same) ∙ all in
        let none : values_of key ps ≡ [] = nothing (values_of key ps) (omega (arith, short, ap length whole)) in
        ((λ _. sym whole ∙ ap (λ vs. p.1 ∷ vs) none), has_each key values ps short (inr none))
    | inr none ↦ absurd (omega (arith, ap length (values_of-same key p ps same), ap length none))
  ]
  | inr other ↦ (
    (λ same. absurd (other same)),
    has_each key values ps short (elim is [
      | inl all ↦ inl (sym (values_of-other key p ps other) ∙ all)
      | inr none ↦ inr (sym (values_of-other key p ps other) ∙ none)
    ]),
  )
]

values_back : (key : List ℕ) (values : List Typed) (ps : Pairs) → AllByRecursion (Has key values) ps → length (values_of key ps) ≡ length values →
    values_of key ps ≡ values
values_back key [] [] all long = refl
values_back key (v ∷ vs) [] all long = absurd (omega (arith, long))
values_back key values (p ∷ ps) all long = elim (key_cases p.0 key) [
  | inl same ↦
      let whole : values ≡ p.1 ∷ [] = all.0 same in
      let none : values_of key ps ≡ [] = nothing (values_of key ps) (omega (arith, long, ap length (values_of-same key p ps same), ap length whole)) in
      values_of-same key p ps same ∙ ap (λ vs. p.1 ∷ vs) none ∙ sym whole
  | inr other ↦ values_of-other key p ps other ∙ values_back key values ps all.1 (sym (ap length (values_of-other key p ps other)) ∙ long)
]

-- whatever the order, a key has the same value
same_values : (key : List ℕ) (ps qs : Pairs) → all_new ps ≡ true → IsPermutation ps qs → values_of key qs ≡ values_of key ps
same_values key ps qs new is =
    let values = values_of key ps in
    let each = All-from_recursion (Has key values) ps (has_each key values ps (at_most_one key ps new) (inl refl)) in
    values_back key values qs (recursion_from_All (Has key values) qs (All-permutation (Has key values) ps qs is each))
    (sym (count key qs) ∙ sum_by-IsPermutation (one key) ps qs is ∙ count key ps)

pub sorted_is : (xs ys : List Pair) → all_new (all_shown xs) ≡ true → IsPermutation xs ys → IsInOrder (all_shown ys) → all_shown ys ≡ in_order (all_shown xs)
sorted_is xs ys new is order = arranged_is (all_shown xs) (all_shown ys) (record {
  in_order = order;
  same = λ key. same_values key (all_shown xs) (all_shown ys) new (IsPermutation-map shown xs ys is);
})

-- Pairs in order, against the pairs that they arrange.
use Rattle.std.proofs.Common.{◌≡◌, ℕ, ◌<◌, true, List, [], ◌∷◌, ◌++◌, length, refl, sym, ap, subst, ◌∙◌, inl, inr, arith}
use Rattle.std.specs.List.{AllByRecursion}
use Rattle.std.specs.List.Sorted.{IsPermutation}
use Rattle.std.proofs.lemmas.List.Sorted.{IsPermutation-refl, IsPermutation-cons, IsPermutation-middle, IsPermutation-trans, IsPermutation-sym}
use Rattle.iscsi_text.specs.Value.{Typed}
use Rattle.iscsi_text.specs.Text.{Pairs, values_of, key_le, IsInOrder}
use Rattle.iscsi_text.proofs.KeyLemmas.{key_le_refl, key_le_both}
use Rattle.iscsi_text.proofs.PairLemmas.{values_of-append, values_of-same, values_of-other, key_cases}

-- the first pair of a key, taken out
pub record Taken (key : List ℕ) (v : Typed) (ps : Pairs) : Type 0 where
  pub before : Pairs
  pub after : Pairs
  pub whole : ps ≡ before ++ (key, v) ∷ after
  pub first : values_of key before ≡ []

pub taken : (key : List ℕ) (v : Typed) (vs : List Typed) (ps : Pairs) → values_of key ps ≡ v ∷ vs → Taken key v ps
taken key v vs [] some = cc
taken key v vs (p ∷ ps) some = elim (key_cases p.0 key) [
  | inl same ↦
      let here = sym (values_of-same key p ps same) ∙ some in
      let value : p.1 ≡ v = cc in
      record { before = []; after = ps; whole = ap (λ (q : List ℕ × Typed). q ∷ ps) (λ i. (same i, value i)); first = refl }
  | inr other ↦
      let rest = taken key v vs ps (sym (values_of-other key p ps other) ∙ some) in
      record {
        before = p ∷ rest.before;
        after = rest.after;
        whole = ap (λ qs. p ∷ qs) rest.whole;
        first = values_of-other key p rest.before other
            ∙ rest.first;
      }
]

-- and the values without it
taken_rest : (p : List ℕ × Typed) (ps qs : Pairs) (t : Taken p.0 p.1 qs) → ((key : List ℕ) → values_of key (p ∷ ps) ≡ values_of key qs) → (key : List ℕ) →
    values_of key ps ≡ values_of key (t.before ++ t.after)
taken_rest p ps qs t same key =
    let all = same key ∙ ap (values_of key) t.whole ∙ values_of-append key t.before (p ∷ t.after) in
    elim (key_cases p.0 key) [
      | inl here ↦
          let none : values_of key t.before ≡ [] = subst (λ k. values_of k t.before ≡ []) here t.first in
          let left = values_of-same key p ps here in
          let right = values_of-same key p t.after here in
          let heads : p.1 ∷ values_of key ps ≡ p.1 ∷ values_of key t.after = sym left ∙ all ∙ ap (λ vs. vs ++ values_of key (p ∷ t.after)) none ∙ right in
          let tails : values_of key ps ≡ values_of key t.after = cc in
          tails ∙ sym (values_of-append key t.before t.after ∙ ap (λ vs. vs ++ values_of key t.after) none)
      | inr other ↦ sym (values_of-other key p ps other) ∙ all ∙ ap (λ vs. values_of key t.before ++ vs) (values_of-other key p t.after other)
          ∙ sym (values_of-append key t.before t.after)
    ]

-- the same values of each key: the same pairs in another order
pub permuted : (ps qs : Pairs) → ((key : List ℕ) → values_of key ps ≡ values_of key qs) → IsPermutation ps qs
permuted [] [] same = IsPermutation-refl []
permuted [] (q ∷ qs) same = let e = same q.0 ∙ values_of-same q.0 q qs refl in cc
permuted (p ∷ ps) qs same =
    let t = taken p.0 p.1 (values_of p.0 ps) qs (sym (same p.0) ∙ values_of-same p.0 p ps refl) in
    let rest = permuted ps (t.before ++ t.after) (taken_rest p ps qs t same) in
    subst (IsPermutation (p ∷ ps)) (sym t.whole) (IsPermutation-trans (p ∷ ps) (p ∷ (t.before ++ t.after)) (t.before ++ p ∷ t.after)
    (IsPermutation-cons p ps (t.before ++ t.after) rest) (IsPermutation-sym (t.before ++ p ∷ t.after) (p ∷ (t.before ++ t.after))
    (IsPermutation-middle t.before p t.after)))

-- in order, the first key is at most each
pub first_least : (p : List ℕ × Typed) (ps : Pairs) → IsInOrder (p ∷ ps) → (key : List ℕ) → 0 < length (values_of key (p ∷ ps)) → key_le p.0 key ≡ true
first_least p ps order key some = elim (key_cases p.0 key) [
  | inl same ↦ subst (λ k. key_le p.0 k ≡ true) same (key_le_refl p.0)
  | inr other ↦ within p.0 ps order.0 key (omega (arith, ap length (values_of-other key p ps other)))
]
  where
    within : (k : List ℕ) (ps : Pairs) → AllByRecursion (λ q. key_le k q.0 ≡ true) ps → (key : List ℕ) → 0 < length (values_of key ps) → key_le k key ≡ true
    within k [] all key some = absurd (omega arith)
    within k (q ∷ ps) all key some = elim (key_cases q.0 key) [
      | inl same ↦ subst (λ x. key_le k x ≡ true) same all.0
      | inr other ↦ within k ps all.1 key (omega (arith, ap length (values_of-other key q ps other)))
    ]

-- one arrangement
pub one_order : (ps qs : Pairs) → IsInOrder ps → IsInOrder qs → ((key : List ℕ) → values_of key ps ≡ values_of key qs) → ps ≡ qs
one_order [] [] a b same = refl
one_order [] (q ∷ qs) a b same = let e = same q.0 ∙ values_of-same q.0 q qs refl in cc
one_order (p ∷ ps) [] a b same = let e = sym (same p.0) ∙ values_of-same p.0 p ps refl in cc
one_order (p ∷ ps) (q ∷ qs) a b same =
    let below : key_le p.0 q.0 ≡ true = first_least p ps a q.0 (omega (arith, ap length (same q.0 ∙ values_of-same q.0 q qs refl))) in
    let above : key_le q.0 p.0 ≡ true = first_least q qs b p.0 (omega (arith, ap length (sym (same p.0) ∙ values_of-same p.0 p ps refl))) in
    let key : q.0 ≡ p.0 = sym (key_le_both p.0 q.0 below above) in
    let heads : p.1 ∷ values_of p.0 ps ≡ q.1 ∷ values_of p.0 qs = sym (values_of-same p.0 p ps refl) ∙ same p.0 ∙ values_of-same p.0 q qs key in
    let value : p.1 ≡ q.1 = cc in
    let pair : p ≡ q = λ i. (sym key i, value i) in
    let whole : (k : List ℕ) → values_of k (p ∷ ps) ≡ values_of k (p ∷ qs) = λ k. same k ∙ ap (λ (r : List ℕ × Typed). values_of k (r ∷ qs)) (sym pair) in
    let tails : (k : List ℕ) → values_of k ps ≡ values_of k qs = λ k. elim (key_cases p.0 k) [
      | inl here ↦ (let both : p.1 ∷ values_of k ps ≡ p.1 ∷ values_of k qs = sym (values_of-same k p ps here) ∙ whole k ∙ values_of-same k p qs here in cc)
      | inr other ↦ sym (values_of-other k p ps other) ∙ whole k ∙ values_of-other k p qs other
    ] in
    ap (λ rs. p ∷ rs) (one_order ps qs a.1 b.1 tails) ∙ ap (λ (r : List ℕ × Typed). r ∷ qs) pair

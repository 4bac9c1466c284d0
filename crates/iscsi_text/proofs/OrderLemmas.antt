-- Pairs put in the order of their keys.
use Rattle.std.proofs.Common.{◌≡◌, ◌≢◌, ℕ, Bool, true, false, cond, List, [], ◌∷◌, refl, sym, ap, subst, ◌∙◌, inl, inr}
use Rattle.std.specs.List.{AllByRecursion}
use Rattle.iscsi_text.specs.Value.{Typed}
use Rattle.iscsi_text.specs.Text.{Pairs, values_of, key_le, IsInOrder, ArrangesPairs}
use Rattle.iscsi_text.proofs.KeyLemmas.{key_le_refl, key_le_trans, key_le_other}
use Rattle.iscsi_text.proofs.PairLemmas.{values_of-same, values_of-other, key_cases}
use Rattle.iscsi_text.proofs.ArrangementLemmas.{one_order}
use Rattle.iscsi_text.specs.Reading.{placed, in_order}

-- the first of two pairs with different keys may come second
values_swapped : (key : List ℕ) (p q : List ℕ × Typed) (ps : Pairs) → p.0 ≢ q.0 → values_of key (q ∷ p ∷ ps) ≡ values_of key (p ∷ q ∷ ps)
values_swapped key p q ps apart = elim (key_cases p.0 key) [
  | inl here ↦
      let other : q.0 ≢ key = λ same. apart (here ∙ sym same) in
      values_of-other key q (p ∷ ps) other ∙ values_of-same key p ps here ∙ ap (λ vs. p.1 ∷ vs) (sym (values_of-other key q ps other))
      ∙ sym (values_of-same key p (q ∷ ps) here)
  | inr away ↦ elim (key_cases q.0 key) [
    | inl here ↦ values_of-same key q (p ∷ ps) here ∙ ap (λ vs. q.1 ∷ vs) (values_of-other key p ps away)
        ∙ sym (values_of-other key p (q ∷ ps) away ∙ values_of-same key q ps here)
    | inr other ↦ values_of-other key q (p ∷ ps) other ∙ values_of-other key p ps away
        ∙ sym (values_of-other key p (q ∷ ps) away ∙ values_of-other key q ps other)
  ]
]

values_behind : (key : List ℕ) (q : List ℕ × Typed) (ps qs : Pairs) → values_of key ps ≡ values_of key qs → values_of key (q ∷ ps) ≡ values_of key (q ∷ qs)
values_behind key q ps qs same = elim (key_cases q.0 key) [
  | inl here ↦ values_of-same key q ps here ∙ ap (λ vs. q.1 ∷ vs) same ∙ sym (values_of-same key q qs here)
  | inr other ↦ values_of-other key q ps other ∙ same ∙ sym (values_of-other key q qs other)
]

apart_from_order : (a b : List ℕ) → key_le a b ≡ false → a ≢ b
apart_from_order a b above same = let le = subst (λ k. key_le a k ≡ true) same (key_le_refl a) in cc

values_placed : (key : List ℕ) (p : List ℕ × Typed) (qs : Pairs) → values_of key (placed p qs) ≡ values_of key (p ∷ qs)
values_placed key p [] = refl
values_placed key p (q ∷ qs) = by (values_placed key p qs) (key_le p.0 q.0) refl
  where
    by : values_of key (placed p qs) ≡ values_of key (p ∷ qs) → (t : Bool) → key_le p.0 q.0 ≡ t → values_of key (cond t (p ∷ q ∷ qs) (q ∷ placed p qs))
        ≡ values_of key (p ∷ q ∷ qs)
    by rest true e = refl
    by rest false e = values_behind key q (placed p qs) (p ∷ qs) rest ∙ values_swapped key p q qs (apart_from_order p.0 q.0 e)

pub values_in_order : (key : List ℕ) (ps : Pairs) → values_of key (in_order ps) ≡ values_of key ps
values_in_order key [] = refl
values_in_order key (p ∷ ps) = values_placed key p (in_order ps) ∙ values_behind key p (in_order ps) ps (values_in_order key ps)

abbrev AllFrom : List ℕ → Pairs → Type 0
AllFrom key ps = AllByRecursion (λ q. key_le key q.0 ≡ true) ps

pub all_from : (a b : List ℕ) (ps : Pairs) → key_le a b ≡ true → AllFrom b ps → AllFrom a ps
all_from a b [] le all = tt
all_from a b (p ∷ ps) le all = (key_le_trans a b p.0 le all.0, all_from a b ps le all.1)

all_placed : (P : List ℕ × Typed → Type 0) (p : List ℕ × Typed) (qs : Pairs) → P p → AllByRecursion P qs → AllByRecursion P (placed p qs)
all_placed P p [] here all = (here, tt)
all_placed P p (q ∷ qs) here all = by (all_placed P p qs here all.1) (key_le p.0 q.0)
  where
    by : AllByRecursion P (placed p qs) → (t : Bool) → AllByRecursion P (cond t (p ∷ q ∷ qs) (q ∷ placed p qs))
    by rest true = (here, all)
    by rest false = (all.0, rest)

placed_in_order : (p : List ℕ × Typed) (qs : Pairs) → IsInOrder qs → IsInOrder (placed p qs)
placed_in_order p [] order = (tt, tt)
placed_in_order p (q ∷ qs) order = by (placed_in_order p qs order.1) (key_le p.0 q.0) refl
  where
    by : IsInOrder (placed p qs) → (t : Bool) → key_le p.0 q.0 ≡ t → IsInOrder (cond t (p ∷ q ∷ qs) (q ∷ placed p qs))
    by rest true e = ((e, all_from p.0 q.0 qs e order.0), order)
    by rest false e = (all_placed (λ r. key_le q.0 r.0 ≡ true) p qs (key_le_other p.0 q.0 e) order.0, rest)

pub in_order_is : (ps : Pairs) → IsInOrder (in_order ps)
in_order_is [] = tt
in_order_is (p ∷ ps) = placed_in_order p (in_order ps) (in_order_is ps)

pub all_in_order : (P : List ℕ × Typed → Type 0) (ps : Pairs) → AllByRecursion P ps → AllByRecursion P (in_order ps)
all_in_order P [] all = tt
all_in_order P (p ∷ ps) all = all_placed P p (in_order ps) all.0 (all_in_order P ps all.1)

-- the arrangement is this one
pub arranged_is : (ps arranged : Pairs) → ArrangesPairs ps arranged → arranged ≡ in_order ps
arranged_is ps arranged is = one_order arranged (in_order ps) is.in_order (in_order_is ps) (λ key. is.same key ∙ sym (values_in_order key ps))

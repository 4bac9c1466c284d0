-- Pairs but those of some keys.
use Rattle.std.proofs.Common.{◌≡◌, ◌≤◌, Bool, true, false, not, cond, refl, sym, inl, inr, ◌∙◌, List, [], ◌∷◌, length, map, Bor, ℕ, arith, ap}
use Rattle.std.specs.Prelude.{◌||◌}
use Rattle.std.specs.List.{filter, list_any, AllByRecursion}
use Rattle.std.specs.Str.{bytes_eq}
use Rattle.std.proofs.lemmas.List.{length-append}
use Rattle.iscsi_text.specs.declared.pair.Pair.{Pair}
use Rattle.iscsi_text.specs.Key.{is_among}
use Rattle.iscsi_text.specs.Value.{Typed}
use Rattle.iscsi_text.specs.Text.{Pairs, values_of, without, key_le, IsInOrder, IsMeaning, IsPair}
use Rattle.iscsi_text.specs.Canonical.{canonical_text, pair_text}
use Rattle.iscsi_text.specs.Shown.{shown, all_shown}
use Rattle.iscsi_text.proofs.PairLemmas.{key_cases, values_of-same, values_of-other}

-- a test of pairs keeps some of them
module _ (test : List ℕ × Typed → Bool) where
  -- each key has at most its values
  pub values_kept : (key : List ℕ) (ps : Pairs) → length (values_of key (filter test ps)) ≤ length (values_of key ps)
  values_kept key [] = omega arith
  values_kept key (p ∷ ps) = by (test p) (values_kept key ps)
    where
      by : (t : Bool) → length (values_of key (filter test ps)) ≤ length (values_of key ps)
          → length (values_of key (cond t (p ∷ filter test ps) (filter test ps))) ≤ length (values_of key (p ∷ ps))
      by true rest = elim (key_cases p.0 key) [
        | inl same ↦ omega (arith, rest, ap length (values_of-same key p ps same), ap length (values_of-same key p (filter test ps) same))
        | inr apart ↦ omega (arith, rest, ap length (values_of-other key p ps apart), ap length (values_of-other key p (filter test ps) apart))
      ]
      by false rest = elim (key_cases p.0 key) [
        | inl same ↦ omega (arith, rest, ap length (values_of-same key p ps same))
        | inr apart ↦ omega (arith, rest, ap length (values_of-other key p ps apart))
      ]

  pub all_kept : (P : List ℕ × Typed → Type 0) (ps : Pairs) → AllByRecursion P ps → AllByRecursion P (filter test ps)
  all_kept P [] all = tt
  all_kept P (p ∷ ps) all = by (test p) (all_kept P ps all.1)
    where
      by : (t : Bool) → AllByRecursion P (filter test ps) → AllByRecursion P (cond t (p ∷ filter test ps) (filter test ps))
      by true rest = (all.0, rest)
      by false rest = rest

  order_kept : (ps : Pairs) → IsInOrder ps → IsInOrder (filter test ps)
  order_kept [] order = tt
  order_kept (p ∷ ps) order = by (test p) (order_kept ps order.1)
    where
      by : (t : Bool) → IsInOrder (filter test ps) → IsInOrder (cond t (p ∷ filter test ps) (filter test ps))
      by true rest = (all_kept (λ q. key_le p.0 q.0 ≡ true) ps order.0, rest)
      by false rest = rest

  pub meaning_kept : (ps : Pairs) → IsMeaning ps → IsMeaning (filter test ps)
  meaning_kept ps is = record {
    in_order = order_kept ps is.in_order;
    single = λ key other. omega (arith, values_kept key ps, is.single key other);
    each = all_kept IsPair ps is.each;
  }

  pub text_kept : (ps : Pairs) → length (canonical_text (filter test ps)) ≤ length (canonical_text ps)
  text_kept [] = omega arith
  text_kept (p ∷ ps) = by (test p) (text_kept ps)
    where
      by : (t : Bool) → length (canonical_text (filter test ps)) ≤ length (canonical_text ps)
          → length (canonical_text (cond t (p ∷ filter test ps) (filter test ps))) ≤ length (canonical_text (p ∷ ps))
      by true rest = omega (
        arith,
        rest,
        length-append (pair_text p) (canonical_text ps),
        length-append (pair_text p) (canonical_text (filter test ps)),
      )
      by false rest = omega (arith, rest, length-append (pair_text p) (canonical_text ps))

-- pairs as they lie in memory
pub shown_without : (keys : List (List ℕ)) (xs : List Pair) → all_shown (filter (λ x. not (is_among keys x.key.now)) xs) ≡ without keys (all_shown xs)
shown_without keys [] = refl
shown_without keys (x ∷ xs) = by (not (is_among keys x.key.now)) (shown_without keys xs)
  where
    by : (t : Bool) → all_shown (filter (λ y. not (is_among keys y.key.now)) xs) ≡ without keys (all_shown xs)
        → all_shown (cond t (x ∷ filter (λ y. not (is_among keys y.key.now)) xs) (filter (λ y. not (is_among keys y.key.now)) xs))
        ≡ cond t (shown x ∷ without keys (all_shown xs)) (without keys (all_shown xs))
    by true rest = ap (λ ps. shown x ∷ ps) rest
    by false rest = rest

-- keys as they lie in memory
pub among_shown : (names : List (Bor (List ℕ))) (key : List ℕ) → list_any (λ name. bytes_eq name.now key) names ≡ is_among (map (λ name. name.now) names) key
among_shown [] key = refl
among_shown (name ∷ names) key = ap (λ b. bytes_eq name.now key || b) (among_shown names key)

-- none of these keys is left
pub left_out : (keys : List (List ℕ)) (key : List ℕ) → is_among keys key ≡ true → (ps : Pairs) → values_of key (without keys ps) ≡ []
left_out keys key among [] = refl
left_out keys key among (p ∷ ps) = by (is_among keys p.0) refl (left_out keys key among ps)
  where
    by : (t : Bool) → is_among keys p.0 ≡ t → values_of key (without keys ps) ≡ []
        → values_of key (cond (not t) (p ∷ without keys ps) (without keys ps)) ≡ []
    by true e rest = rest
    by false e rest = values_of-other key p (without keys ps)
        (λ same. let is : is_among keys p.0 ≡ true = ap (is_among keys) same ∙ among in let bad : true ≡ false = sym is ∙ e in cc bad) ∙ rest

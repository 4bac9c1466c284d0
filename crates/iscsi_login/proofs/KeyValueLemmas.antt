-- Pairs that are found or not, and the values of their keys.
use Rattle.std.proofs.Common.{◌≡◌, ℕ, Bool, true, false, cond, Bor, List, [], ◌∷◌, Option, Some, None, find, refl, sym, ap, subst, ◌∙◌, inl, inr}
use Rattle.std.specs.List.{AllByRecursion}
use Rattle.std.specs.Option.{option_map, IfSome}
use Rattle.iscsi_text.specs.declared.pair.Pair.{Pair}
use Rattle.iscsi_text.specs.Value.{Typed}
use Rattle.iscsi_text.specs.Text.{Pairs, values_of}
use Rattle.iscsi_text.specs.Shown.{shown, all_shown}
use Rattle.iscsi_text.proofs.PairLemmas.{values_of-same, values_of-other, key_cases}
use Rattle.iscsi_login.specs.Check.{key_or}

-- the key of the first pair that passes, read where the pairs lie
pub find_shown : (test : List ℕ × Typed → Bool) (xs : List Pair) → option_map (λ p. p.key.now) (find (λ p. test (shown p)) xs)
    ≡ key_or (find test (all_shown xs)) None
find_shown test [] = refl
find_shown test (x ∷ xs) = by (find_shown test xs) (test (shown x))
  where
    by : option_map (λ p. p.key.now) (find (λ p. test (shown p)) xs) ≡ key_or (find test (all_shown xs)) None → (t : Bool) →
        option_map (λ p. p.key.now) (cond t (Some x) (find (λ p. test (shown p)) xs)) ≡ key_or (cond t (Some (shown x)) (find test (all_shown xs))) None
    by rest true = refl
    by rest false = rest

-- what is found passes, and has what each element has
pub found_passes : {X : Type 0} (test : X → Bool) (xs : List X) → IfSome (find test xs) (λ x. test x ≡ true)
found_passes test [] = tt
found_passes test (x ∷ xs) = by (found_passes test xs) (test x) refl
  where
    by : IfSome (find test xs) (λ x. test x ≡ true) → (t : Bool) → test x ≡ t → IfSome (cond t (Some x) (find test xs)) (λ x. test x ≡ true)
    by rest true is = is
    by rest false is = rest

pub found_has : {X : Type 0} (P : X → Type 0) (test : X → Bool) (xs : List X) → AllByRecursion P xs → IfSome (find test xs) P
found_has P test [] all = tt
found_has P test (x ∷ xs) all = by (found_has P test xs all.1) (test x)
  where
    by : IfSome (find test xs) P → (t : Bool) → IfSome (cond t (Some x) (find test xs)) P
    by rest true = all.0
    by rest false = rest

-- nothing is found exactly where no element passes
pub none_passes : {X : Type 0} (test : X → Bool) (xs : List X) → find test xs ≡ None → AllByRecursion (λ x. test x ≡ false) xs
none_passes test [] e = tt
none_passes test (x ∷ xs) e = by (none_passes test xs) (test x) refl e
  where
    by : (find test xs ≡ None → AllByRecursion (λ x. test x ≡ false) xs) → (t : Bool) → test x ≡ t → cond t (Some x) (find test xs) ≡ None → (test x ≡ false)
        × AllByRecursion (λ x. test x ≡ false) xs
    by rest true is e = cc
    by rest false is e = (is, rest e)

pub none_found : {X : Type 0} (test : X → Bool) (xs : List X) → AllByRecursion (λ x. test x ≡ false) xs → find test xs ≡ None
none_found test [] all = refl
none_found test (x ∷ xs) all = ap (λ b. cond b (Some x) (find test xs)) all.0 ∙ none_found test xs all.1

pub all_from : {X : Type 0} (P Q : X → Type 0) (xs : List X) → ((x : X) → P x → Q x) → AllByRecursion P xs → AllByRecursion Q xs
all_from P Q [] one all = tt
all_from P Q (x ∷ xs) one all = (one x all.0, all_from P Q xs one all.1)

-- what holds of each pair holds of each value of each key
pub each_value : (P : List ℕ × Typed → Type 0) (ps : Pairs) → AllByRecursion P ps → (key : List ℕ) → AllByRecursion (λ v. P (key, v)) (values_of key ps)
each_value P [] all key = tt
each_value P (p ∷ ps) all key = elim (key_cases p.0 key) [
  | inl same ↦ subst (AllByRecursion (λ v. P (key, v))) (sym (values_of-same key p ps same)) (subst (λ k. P (k, p.1)) same all.0, each_value P ps all.1 key)
  | inr other ↦ subst (AllByRecursion (λ v. P (key, v))) (sym (values_of-other key p ps other)) (each_value P ps all.1 key)
]

pub each_pair : (P : List ℕ × Typed → Type 0) (ps : Pairs) → ((key : List ℕ) → AllByRecursion (λ v. P (key, v)) (values_of key ps)) → AllByRecursion P ps
each_pair P [] each = tt
each_pair P (p ∷ ps) each =
    let here : AllByRecursion (λ v. P (p.0, v)) (p.1 ∷ values_of p.0 ps) =
    subst (AllByRecursion (λ v. P (p.0, v))) (values_of-same p.0 p ps refl) (each p.0) in (
      here.0,
      each_pair P ps (λ key. elim (key_cases p.0 key) [
        | inl same ↦ (rest_of key (values_of-same key p ps same) (each key))
        | inr other ↦ subst (AllByRecursion (λ v. P (key, v))) (values_of-other key p ps other) (each key)
      ]),
    )
  where
    rest_of : (key : List ℕ) → values_of key (p ∷ ps) ≡ p.1 ∷ values_of key ps → AllByRecursion (λ v. P (key, v)) (values_of key (p ∷ ps)) →
        AllByRecursion (λ v. P (key, v)) (values_of key ps)
    rest_of key e all = let whole : AllByRecursion (λ v. P (key, v)) (p.1 ∷ values_of key ps) = subst (AllByRecursion (λ v. P (key, v))) e all in whole.1

-- the first of two that is there
pub first_of_two : (o : Option (List ℕ × Typed)) (key : List ℕ) (other : Option (List ℕ)) → Some key ≡ key_or o None → Some key ≡ key_or o other
first_of_two None key other e = cc
first_of_two (Some p) key other e = e

pub second_of_two : (o : Option (List ℕ × Typed)) (r other : Option (List ℕ)) → None ≡ key_or o None → r ≡ other → r ≡ key_or o other
second_of_two None r other e same = same
second_of_two (Some p) r other e same = cc

pub neither : (a b : Option (List ℕ × Typed)) → key_or a (key_or b None) ≡ None → (a ≡ None) × (b ≡ None)
neither None None e = (refl, refl)
neither None (Some q) e = cc
neither (Some p) b e = cc

-- a fact of the bytes of a slice that may be there
pub some_shown : (P : List ℕ → Type 0) (r : Option (Bor (List ℕ))) (o : Option (List ℕ)) → option_map (λ s. s.now) r ≡ o → IfSome o P → IfSome r (λ s. P s.now)
some_shown P None o same is = tt
some_shown P (Some s) o same is = let back : IfSome (option_map (λ s. s.now) (Some s)) P = subst (λ p. IfSome p P) (sym same) is in back

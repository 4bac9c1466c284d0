-- Pairs after a stable sort by their keys, and pairs that are in order as they come.
use Rattle.std.proofs.Common.{◌≡◌, ℕ, zero, suc, ◌+◌, ◌<◌, Bool, true, false, not, ◌&&◌, List, [], ◌∷◌, length, map, get_or}
use Rattle.std.proofs.Common.{refl, sym, ap, subst, ◌∙◌, inl, inr, ◌↔◌, arith}
use Rattle.std.specs.List.{filter, IsAllAdjacentAnswer}
use Rattle.std.specs.Prelude.{IsTrue}
use Rattle.std.specs.List.Sorted.{IsSortedBy, ties}
use Rattle.std.specs.Str.{bytes_eq}
use Rattle.std.specs.Ordering.{nat_cmp, is_lt, is_le, ordering_reverse, match_ordering}
use Rattle.std.specs.Cmp.Lexicographic.{slice_cmp}
use Rattle.std.specs.declared.cmp.Ordering.{Ordering}
use Rattle.std.specs.declared.cmp.Ordering.TheVariants.{Less, Equal, Greater}
use Rattle.std.proofs.lemmas.Cmp.{nat_list_cmp_total, tied_itself}
use Rattle.std.proofs.lemmas.Bool.{false≢true}
use Rattle.std.proofs.lemmas.Map.Lookups.{exact_bytes}
use Rattle.iscsi_text.specs.declared.pair.Pair.{Pair}
use Rattle.iscsi_text.specs.Key.{target_address}
use Rattle.iscsi_text.specs.Value.{Typed, typed}
use Rattle.iscsi_text.specs.Text.{values_of, key_le, IsInOrder, IsSingle}
use Rattle.iscsi_text.specs.Shown.{shown, all_shown}
use Rattle.iscsi_text.specs.inner.Inside.{follows}
use Rattle.iscsi_text.proofs.KeyLemmas.{key_le_both, bytes_eq_same, bytes_eq_other, same_key}
use Rattle.iscsi_text.proofs.PairLemmas.{values_of-same, values_of-shown, key_cases}
use Rattle.iscsi_text.proofs.ArrangementLemmas.{first_least}
use Rattle.iscsi_text.proofs.OrderLemmas.{all_from}
use Rattle.iscsi_text.proofs.ReadingLemmas.{single_cons, single_rest}

-- the test that a sort by key makes
abbrev less : Pair → Pair → Bool
less x y = is_lt (slice_cmp nat_cmp x.key.now y.key.now)

-- ---- order

turned : (r s : Ordering) → r ≡ ordering_reverse s → is_lt r ≡ false → is_le s ≡ true
turned Less s e h = cc
turned Equal Equal e h = refl
turned Equal Less e h = cc
turned Equal Greater e h = cc
turned Greater Less e h = refl
turned Greater Equal e h = cc
turned Greater Greater e h = cc

-- what a sort says of neighbours
not_less : (a b : List ℕ) → is_lt (slice_cmp nat_cmp b a) ≡ false → key_le a b ≡ true
not_less a b h = turned (slice_cmp nat_cmp b a) (slice_cmp nat_cmp a b) (nat_list_cmp_total.antisymm b a) h

-- the next place, behind one more pair
next : (x : Pair) (xs : List Pair) (k : ℕ) (d : Pair) → get_or (x ∷ xs) (suc k + 1) d ≡ get_or xs (k + 1) d
next x xs k d = ap (λ (i : ℕ). get_or (x ∷ xs) i d) {x = suc k + 1} {y = suc (k + 1)} (omega arith)

-- each key is at most the next, so at most those behind it
in_order_from_neighbours : (xs : List Pair) → ((k : ℕ) (d : Pair) → k + 1 < length xs → key_le (get_or xs k d).key.now (get_or xs (k + 1) d).key.now
    ≡ true) → IsInOrder (all_shown xs)
in_order_from_neighbours [] up = tt
in_order_from_neighbours (x ∷ []) up = (tt, tt)
in_order_from_neighbours (x ∷ y ∷ xs) up =
    let rest = in_order_from_neighbours (y ∷ xs) (λ k d lt. subst (λ (q : Pair). key_le (get_or (y ∷ xs) k d).key.now q.key.now ≡ true)
    (next x (y ∷ xs) k d) (up (suc k) d (omega arith))) in
    let first : key_le x.key.now y.key.now ≡ true = up 0 x (omega arith) in
    ((first, all_from x.key.now y.key.now (all_shown xs) first rest.0), rest)

pub sorted_in_order : (xs : List Pair) → IsSortedBy less xs → IsInOrder (all_shown xs)
sorted_in_order xs sorted = in_order_from_neighbours xs (λ k d lt. not_less (get_or xs k d).key.now (get_or xs (k + 1) d).key.now
    (sorted k d (omega arith) lt))

-- ---- values

tied_is : (r : Ordering) → r ≡ Equal → not (is_lt (ordering_reverse r)) && not (is_lt r) ≡ true
tied_is Equal e = refl
tied_is Less e = cc
tied_is Greater e = cc

untied_is : (r : Ordering) → (r ≡ Equal → ⊥) → not (is_lt (ordering_reverse r)) && not (is_lt r) ≡ false
untied_is Equal never = absurd (never refl)
untied_is Less never = refl
untied_is Greater never = refl

-- two keys tie where they are the same
tie_is_same : (key other : List ℕ) → bytes_eq other key ≡ (not (is_lt (slice_cmp nat_cmp key other)) && not (is_lt (slice_cmp nat_cmp other key)))
tie_is_same key other =
    let back = nat_list_cmp_total.antisymm key other in
    let turn : (not (is_lt (ordering_reverse (slice_cmp nat_cmp other key))) && not (is_lt (slice_cmp nat_cmp other key)))
    ≡ (not (is_lt (slice_cmp nat_cmp key other)) && not (is_lt (slice_cmp nat_cmp other key))) =
    ap (λ r. not (is_lt r) && not (is_lt (slice_cmp nat_cmp other key))) (sym back) in
    elim (key_cases other key) [
      | inl same ↦ bytes_eq_same other key same ∙ sym (tied_is (slice_cmp nat_cmp other key) (subst (λ k. slice_cmp nat_cmp other k ≡ Equal) same
          (tied_itself nat_list_cmp_total other))) ∙ turn
      | inr apart ↦ bytes_eq_other other key apart ∙ sym (untied_is (slice_cmp nat_cmp other key) (λ e. apart (exact_bytes other key e))) ∙ turn
    ]

filter_like : {X : Type 0} (p q : X → Bool) → ((x : X) → p x ≡ q x) → (xs : List X) → filter p xs ≡ filter q xs
filter_like p q same xs i = filter (λ x. same x i) xs

-- a stable sort leaves the values of a key in their order
pub same_values : (xs ys : List Pair) → ((x : Pair) → filter (ties less x) ys ≡ filter (ties less x) xs) → length ys ≡ length xs → (key : List ℕ) →
    values_of key (all_shown ys) ≡ values_of key (all_shown xs)
same_values [] [] stable len key = refl
same_values [] (y ∷ ys) stable len key = absurd (omega (arith, len))
same_values (x ∷ xs) ys stable len key =
    let at : Pair = record { key = record { ref_ptr = x.key.ref_ptr; now = key }; value = x.value } in
    let one = λ (zs : List Pair). filter_like (λ p. bytes_eq p.key.now key) (ties less at) (λ p. tie_is_same key p.key.now) zs in
    values_of-shown key ys ∙ ap (map (λ (p : Pair). typed p.value)) (one ys ∙ stable at ∙ sym (one (x ∷ xs))) ∙ sym (values_of-shown key (x ∷ xs))

-- ---- pairs that ascend

-- how two keys lie where the second pair may follow
up : (p q : List ℕ × Typed) → follows p q ≡ true → key_le p.0 q.0 ≡ true
up p q h = by (slice_cmp nat_cmp p.0 q.0) h
  where
    by : (r : Ordering) → match_ordering r true (bytes_eq p.0 target_address) false ≡ true → is_le r ≡ true
    by Less h = refl
    by Equal h = refl
    by Greater h = cc

again : (p q : List ℕ × Typed) → follows p q ≡ true → p.0 ≡ q.0 → p.0 ≡ target_address
again p q h same = by (slice_cmp nat_cmp p.0 q.0) (subst (λ k. slice_cmp nat_cmp p.0 k ≡ Equal) same (tied_itself nat_list_cmp_total p.0)) h
  where
    by : (r : Ordering) → r ≡ Equal → match_ordering r true (bytes_eq p.0 target_address) false ≡ true → p.0 ≡ target_address
    by Less e h = cc
    by Equal e h = same_key p.0 target_address h
    by Greater e h = cc

may_follow : (p q : List ℕ × Typed) → key_le p.0 q.0 ≡ true → (p.0 ≡ q.0 → p.0 ≡ target_address) → follows p q ≡ true
may_follow p q le same = by (slice_cmp nat_cmp p.0 q.0) refl le
  where
    by : (r : Ordering) → slice_cmp nat_cmp p.0 q.0 ≡ r → is_le r ≡ true → match_ordering r true (bytes_eq p.0 target_address) false ≡ true
    by Less e h = refl
    by Equal e h = bytes_eq_same p.0 target_address (same (exact_bytes p.0 q.0 e))
    by Greater e h = cc

ascending : (xs : List Pair) → ((k : ℕ) (d : Pair) → k + 1 < length xs → true ≡ follows (shown (get_or xs k d)) (shown (get_or xs (k + 1) d))) →
    IsInOrder (all_shown xs) × IsSingle (all_shown xs)
ascending xs all = (in_order_from_neighbours xs (λ k d lt. up (shown (get_or xs k d)) (shown (get_or xs (k + 1) d)) (sym (all k d lt))), single xs all)
  where
    single : (xs : List Pair) → ((k : ℕ) (d : Pair) → k + 1 < length xs → true ≡ follows (shown (get_or xs k d)) (shown (get_or xs (k + 1) d))) →
        IsSingle (all_shown xs)
    single [] all = λ key other. omega arith
    single (x ∷ []) all = single_cons (shown x) [] (λ key other. omega arith) (λ some. omega (arith, some.0))
    single (x ∷ y ∷ xs) all =
        let behind : (k : ℕ) (d : Pair) → k + 1 < length (y ∷ xs) → true ≡ follows (shown (get_or (y ∷ xs) k d)) (shown (get_or (y ∷ xs) (k + 1) d)) =
        λ k d lt. subst (λ (q : Pair). true ≡ follows (shown (get_or (y ∷ xs) k d)) (shown q)) (next x (y ∷ xs) k d) (all (suc k) d (omega arith)) in
        let rest = single (y ∷ xs) behind in
        let order = in_order_from_neighbours (y ∷ xs) (λ k d lt. up (shown (get_or (y ∷ xs) k d)) (shown (get_or (y ∷ xs) (k + 1) d)) (sym (behind k d lt)))
        in
        let first : follows (shown x) (shown y) ≡ true = sym (all 0 x (omega arith)) in
        single_cons (shown x) (all_shown (y ∷ xs)) rest (λ some.
        let below = first_least (shown y) (all_shown xs) order x.key.now some.0 in
        some.1 (again (shown x) (shown y) first (key_le_both x.key.now y.key.now (up (shown x) (shown y) first) below)))

-- and the way back
neighbours_follow : (xs : List Pair) (k : ℕ) (d : Pair) → IsInOrder (all_shown xs) → IsSingle (all_shown xs) → k + 1 < length xs →
    follows (shown (get_or xs k d)) (shown (get_or xs (k + 1) d)) ≡ true
neighbours_follow [] k d order single lt = absurd (omega arith)
neighbours_follow (x ∷ []) k d order single lt = absurd (omega arith)
neighbours_follow (x ∷ y ∷ xs) zero d order single lt = may_follow (shown x) (shown y) order.0.0 (λ same. elim (key_cases x.key.now target_address) [
  | inl is ↦ is
  | inr other ↦ absurd (omega (
    arith,
    single x.key.now other,
    ap length (values_of-same x.key.now (shown x) (all_shown (y ∷ xs)) refl),
    ap length (values_of-same x.key.now (shown y) (all_shown xs) (sym same)),
  ))
])
neighbours_follow (x ∷ y ∷ xs) (suc k) d order single lt =
    subst (λ (q : Pair). follows (shown (get_or (y ∷ xs) k d)) (shown q) ≡ true) (sym (next x (y ∷ xs) k d))
    (neighbours_follow (y ∷ xs) k d order.1 (single_rest (shown x) (all_shown (y ∷ xs)) single) (omega arith))

-- so the test of neighbours tells both
pub ascends_is : (xs : List Pair) (r : Bool) → IsAllAdjacentAnswer (λ p q b. b ≡ follows (shown p) (shown q)) xs r →
    IsTrue r ↔ (IsInOrder (all_shown xs) × IsSingle (all_shown xs))
ascends_is xs true all = ((λ _. ascending xs all), (λ _. refl))
ascends_is [] false all = absurd (omega (arith, all.1))
ascends_is (x ∷ xs) false all = (
  λ e. absurd (false≢true e),
  λ is. absurd (false≢true (all.2 x ∙ neighbours_follow (x ∷ xs) all.0 x is.0 is.1 all.1)),
)

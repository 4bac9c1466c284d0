-- Pairs in the order of their keys.
use Rattle.std.proofs.Common.{◌≡◌, ◌≢◌, ℕ, zero, suc, ◌-◌, ◌<◌, ◌≤◌, Bool, true, false, cond, List, [], ◌∷◌, ◌++◌, length, map, take, drop, get_or, slice_get}
use Rattle.std.proofs.Common.{Option, refl, sym, ap, subst, ◌∙◌, inl, inr, ◌⊎◌, arith}
use Rattle.std.specs.List.{filter, AllByRecursion, AllWithin, insert}
use Rattle.std.specs.List.Sorted.{IsPartitionedBy, IsPartitionPoint}
use Rattle.std.specs.Str.{bytes_eq}
use Rattle.std.specs.Option.{option_map}
use Rattle.std.proofs.lemmas.Option.{slice_get-map}
use Rattle.std.proofs.lemmas.List.{append-nil, map-append, length-map, length-take-le, get_or-take, get_or-map, take-append-drop}
use Rattle.std.proofs.lemmas.List.Elements.{filter-append}
use Rattle.iscsi_text.specs.declared.pair.Pair.{Pair}
use Rattle.iscsi_text.specs.Key.{target_address}
use Rattle.iscsi_text.specs.Value.{Typed, typed}
use Rattle.iscsi_text.specs.Text.{Pairs, values_of, key_le, IsInOrder}
use Rattle.iscsi_text.specs.Shown.{shown, all_shown}
use Rattle.iscsi_text.specs.inner.Inside.{InsertsPair}
use Rattle.iscsi_text.proofs.KeyLemmas.{key_le_refl, key_le_trans, key_le_other, key_le_both, same_key, bytes_eq_same, bytes_eq_other}

pub values_of-append : (key : List ℕ) (xs ys : Pairs) → values_of key (xs ++ ys) ≡ values_of key xs ++ values_of key ys
values_of-append key xs ys = ap (map (λ p. p.1)) (filter-append (λ p. bytes_eq p.0 key) xs ys)
    ∙ map-append _ (filter (λ p. bytes_eq p.0 key) xs) (filter (λ p. bytes_eq p.0 key) ys)

-- the values of another key, and of this one
pub values_of-other : (key : List ℕ) (p : List ℕ × Typed) (ps : Pairs) → p.0 ≢ key → values_of key (p ∷ ps) ≡ values_of key ps
values_of-other key p ps apart = ap (λ b. map (λ (q : List ℕ × Typed). q.1) (cond b (p ∷ filter (λ q. bytes_eq q.0 key) ps)
    (filter (λ q. bytes_eq q.0 key) ps))) (bytes_eq_other p.0 key apart)

pub values_of-same : (key : List ℕ) (p : List ℕ × Typed) (ps : Pairs) → p.0 ≡ key → values_of key (p ∷ ps) ≡ p.1 ∷ values_of key ps
values_of-same key p ps is = ap (λ b. map (λ (q : List ℕ × Typed). q.1) (cond b (p ∷ filter (λ q. bytes_eq q.0 key) ps) (filter (λ q. bytes_eq q.0 key) ps)))
    (bytes_eq_same p.0 key is)

-- either way, for a case split
pub key_cases : (a b : List ℕ) → (a ≡ b) ⊎ (a ≢ b)
key_cases a b = by (bytes_eq a b) refl
  where
    by : (t : Bool) → bytes_eq a b ≡ t → (a ≡ b) ⊎ (a ≢ b)
    by true e = inl (same_key a b e)
    by false e = inr (λ same. let yes = bytes_eq_same a b same in cc)

-- greater keys are other keys
absent_behind : (key : List ℕ) (ps : Pairs) → AllByRecursion (λ q. key_le q.0 key ≡ false) ps → values_of key ps ≡ []
absent_behind key [] all = refl
absent_behind key (p ∷ ps) all = values_of-other key p ps (λ same. let le : key_le p.0 key ≡ true = subst (λ k. key_le p.0 k ≡ true) same (key_le_refl p.0) in
    let above = all.0 in cc) ∙ absent_behind key ps all.1

-- where the last of the keys up to this one is another key, each is
absent_before : (key : List ℕ) (ps : Pairs) → IsInOrder ps → AllByRecursion (λ q. key_le q.0 key ≡ true) ps →
    ((d : List ℕ × Typed) → 0 < length ps → (get_or ps (length ps - 1) d).0 ≢ key) → values_of key ps ≡ []
absent_before key [] order all last = refl
absent_before key (p ∷ []) order all last = values_of-other key p [] (last p (omega arith))
absent_before key (p ∷ q ∷ ps) order all last =
    let none = absent_before key (q ∷ ps) order.1 all.1 (λ d some. subst (λ (i : ℕ). (get_or (p ∷ q ∷ ps) i d).0 ≢ key) {x = length (p ∷ q ∷ ps) - 1} {y =
    suc (length (q ∷ ps) - 1)} (omega arith) (last d (omega arith))) in
    values_of-other key p (q ∷ ps) (λ same.
    let q_same : q.0 ≡ key = key_le_both q.0 key all.1.0 (subst (λ k. key_le k q.0 ≡ true) same order.0.0) in
    let there = values_of-same key q ps q_same in
    cc) ∙ none

all_insert : (P : List ℕ × Typed → Type 0) (xs ys : Pairs) (p : List ℕ × Typed) → AllByRecursion P (xs ++ ys) → P p → AllByRecursion P (xs ++ p ∷ ys)
all_insert P [] ys p all here = (here, all)
all_insert P (x ∷ xs) ys p all here = (all.0, all_insert P xs ys p all.1 here)

all_le_behind : (p : List ℕ × Typed) (ps : Pairs) → AllByRecursion (λ q. key_le q.0 p.0 ≡ false) ps → AllByRecursion (λ q. key_le p.0 q.0 ≡ true) ps
all_le_behind p [] all = tt
all_le_behind p (q ∷ ps) all = (key_le_other q.0 p.0 all.0, all_le_behind p ps all.1)

-- a pair between those up to it and those above
in_order_insert : (front back : Pairs) (p : List ℕ × Typed) → IsInOrder (front ++ back) → AllByRecursion (λ q. key_le q.0 p.0 ≡ true) front →
    AllByRecursion (λ q. key_le q.0 p.0 ≡ false) back → IsInOrder (front ++ p ∷ back)
in_order_insert [] back p order low high = (all_le_behind p back high, order)
in_order_insert (q ∷ front) back p order low high = (
  all_insert (λ r. key_le q.0 r.0 ≡ true) front back p order.0 low.0,
  in_order_insert front back p order.1 low.1 high,
)

in_order_front : (front back : Pairs) → IsInOrder (front ++ back) → IsInOrder front
in_order_front [] back order = tt
in_order_front (p ∷ front) back order = (all_front (λ q. key_le p.0 q.0 ≡ true) front back order.0, in_order_front front back order.1)
  where
    all_front : (P : List ℕ × Typed → Type 0) (xs ys : Pairs) → AllByRecursion P (xs ++ ys) → AllByRecursion P xs
    all_front P [] ys all = tt
    all_front P (x ∷ xs) ys all = (all.0, all_front P xs ys all.1)

values_insert : (front back : Pairs) (p : List ℕ × Typed) → AllByRecursion (λ q. key_le q.0 p.0 ≡ false) back → (key : List ℕ) →
    values_of key (front ++ p ∷ back) ≡ values_of key (front ++ back) ++ values_of key (p ∷ [])
values_insert front back p high key = elim (key_cases p.0 key) [
  | inl same ↦
      let none : values_of key back ≡ [] = subst (λ k. values_of k back ≡ []) same (absent_behind p.0 back high) in
      let whole = values_of-append key front back in
      let more = values_of-append key front (p ∷ back) in
      let here = values_of-same key p back same in
      let alone = values_of-same key p [] same in
      more ∙ ap (λ vs. values_of key front ++ vs) (here ∙ ap (λ vs. p.1 ∷ vs) none)
      ∙ ap (λ vs. vs ++ p.1 ∷ []) (sym (whole ∙ ap (λ vs. values_of key front ++ vs) none ∙ append-nil _))
      ∙ ap (λ vs. values_of key (front ++ back) ++ vs) (sym alone)
  | inr other ↦
      let here = values_of-other key p back other in
      let alone = values_of-other key p [] other in
      values_of-append key front (p ∷ back) ∙ ap (λ vs. values_of key front ++ vs) here ∙ sym (values_of-append key front back)
      ∙ sym (ap (λ vs. values_of key (front ++ back) ++ vs) alone ∙ append-nil _)
]

-- the pair goes behind front, the pairs whose keys are no greater
pub inserted : (front back : Pairs) (p : List ℕ × Typed) → IsInOrder (front ++ back) → AllByRecursion (λ q. key_le q.0 p.0 ≡ true) front →
    AllByRecursion (λ q. key_le q.0 p.0 ≡ false) back
    → (p.0 ≢ target_address → (d : List ℕ × Typed) → 0 < length front → (get_or front (length front - 1) d).0 ≢ p.0) →
    InsertsPair (front ++ back) p (front ++ p ∷ back)
inserted front back p order low high last = record {
  in_order = in_order_insert front back p order low high;
  values = values_insert front back p high;
  single = λ other. values_of-append p.0 front back ∙ ap (λ vs. vs ++ values_of p.0 back)
      (absent_before p.0 front (in_order_front front back order) low (last other)) ∙ absent_behind p.0 back high;
}

-- The places of a partition, for pairs as they lie in memory.
pub at_all : (k : List ℕ) (xs : List Pair) (j : ℕ) (d : Pair) → AllByRecursion (λ q. key_le k q.0 ≡ true) (all_shown xs) → j < length xs →
    key_le k (get_or xs j d).key.now ≡ true
at_all k [] j d all lt = absurd (omega arith)
at_all k (x ∷ xs) zero d all lt = all.0
at_all k (x ∷ xs) (suc j) d all lt = at_all k xs j d all.1 (omega arith)

pub in_order_partition : (key : List ℕ) (xs : List Pair) → IsInOrder (all_shown xs) → IsPartitionedBy (λ y. key_le y.key.now key) xs
in_order_partition key [] order i j d le lt h = absurd (omega arith)
in_order_partition key (x ∷ xs) order zero zero d le lt h = h
in_order_partition key (x ∷ xs) order zero (suc j) d le lt h = key_le_trans x.key.now (get_or xs j d).key.now key
    (at_all x.key.now xs j d order.0 (omega arith)) h
in_order_partition key (x ∷ xs) order (suc i) zero d le lt h = absurd (omega arith)
in_order_partition key (x ∷ xs) order (suc i) (suc j) d le lt h = in_order_partition key xs order.1 i j d (omega arith) (omega arith) h

front_shown : (key : List ℕ) (xs : List Pair) (i : ℕ) → AllWithin (λ y. key_le y.key.now key ≡ true) xs 0 i → i ≤ length xs →
    AllByRecursion (λ q. key_le q.0 key ≡ true) (all_shown (take i xs))
front_shown key xs zero all le = tt
front_shown key [] (suc i) all le = absurd (omega arith)
front_shown key (x ∷ xs) (suc i) all le = (
  all 0 x (omega arith) (omega arith),
  front_shown key xs i (λ k d low high. all (suc k) d (omega arith) (omega arith))
      (omega arith),
)

back_shown : (key : List ℕ) (xs : List Pair) (i : ℕ) → AllWithin (λ y. key_le y.key.now key ≡ false) xs i (length xs) →
    AllByRecursion (λ q. key_le q.0 key ≡ false) (all_shown (drop i xs))
back_shown key [] zero all = tt
back_shown key [] (suc i) all = tt
back_shown key (x ∷ xs) zero all = (all 0 x (omega arith) (omega arith), back_shown key xs zero (λ k d low high. all (suc k) d (omega arith) (omega arith)))
back_shown key (x ∷ xs) (suc i) all = back_shown key xs i (λ k d low high. all (suc k) d (omega arith) (omega arith))

-- the last of the first i
last_shown : (xs : List Pair) (i : ℕ) (d : List ℕ × Typed) (e : Pair) → 0 < i → i ≤ length xs →
    get_or (all_shown (take i xs)) (length (all_shown (take i xs)) - 1) d ≡ shown (get_or xs (i - 1) e)
last_shown xs i d e some le =
    let size : length (all_shown (take i xs)) ≡ i = length-map (take i xs) shown ∙ length-take-le i xs le in
    ap (λ (k : ℕ). get_or (all_shown (take i xs)) (k - 1) d) size
    ∙ get_or-map shown (take i xs) (i - 1) e d (let t : length (take i xs) ≡ i = length-take-le i xs le in omega arith)
    ∙ ap shown (get_or-take i xs (i - 1) e (omega arith))

pub placed : (xs : List Pair) (pair : Pair) (i : ℕ) → IsInOrder (all_shown xs) → i ≤ length xs
    → IsPartitionPoint (λ y. key_le y.key.now pair.key.now ≡ true) (λ y. key_le y.key.now pair.key.now ≡ false) xs i
    → (pair.key.now ≢ target_address → 0 < i → (get_or xs (i - 1) pair).key.now ≢ pair.key.now) →
    InsertsPair (all_shown xs) (shown pair) (all_shown (insert xs i pair))
placed xs pair i order le parts last =
    let whole : all_shown xs ≡ all_shown (take i xs) ++ all_shown (drop i xs) = ap all_shown (sym (take-append-drop i xs))
    ∙ map-append shown (take i xs) (drop i xs) in
    let new : all_shown (insert xs i pair) ≡ all_shown (take i xs) ++ shown pair ∷ all_shown (drop i xs) = map-append shown (take i xs) (pair ∷ drop i xs) in
    let size : length (all_shown (take i xs)) ≡ i = length-map (take i xs) shown ∙ length-take-le i xs le in
    let done = inserted (all_shown (take i xs)) (all_shown (drop i xs)) (shown pair) (subst IsInOrder whole order) (front_shown pair.key.now xs i parts.0 le)
    (back_shown pair.key.now xs i parts.1)
    (λ other d some same. last other (omega arith) (sym (ap (λ (q : List ℕ × Typed). q.0) (last_shown xs i d pair (omega arith) le)) ∙ same)) in
    subst (λ ps. InsertsPair ps (shown pair) (all_shown (insert xs i pair))) (sym whole)
    (subst (λ ps. InsertsPair (all_shown (take i xs) ++ all_shown (drop i xs)) (shown pair) ps) (sym new) done)

-- a key that stands at some place has a value
pub present : (xs : List Pair) (key : List ℕ) (i : ℕ) (d : Pair) → i < length xs → (get_or xs i d).key.now ≡ key → 0 < length (values_of key (all_shown xs))
present [] key i d lt same = absurd (omega arith)
present (x ∷ xs) key zero d lt same = omega (arith, ap length (values_of-same key (shown x) (all_shown xs) same))
present (x ∷ xs) key (suc i) d lt same = elim (key_cases x.key.now key) [
  | inl here ↦ omega (arith, ap length (values_of-same key (shown x) (all_shown xs) here))
  | inr other ↦ omega (arith, ap length (values_of-other key (shown x) (all_shown xs) other), present xs key i d (omega arith) same)
]

-- the values of a key, read where the pairs lie
pub values_of-shown : (key : List ℕ) (xs : List Pair) → values_of key (all_shown xs) ≡ map (λ p. typed p.value) (filter (λ p. bytes_eq p.key.now key) xs)
values_of-shown key [] = refl
values_of-shown key (x ∷ xs) = by (bytes_eq x.key.now key) (values_of-shown key xs)
  where
    by : (t : Bool) → values_of key (all_shown xs) ≡ map (λ p. typed p.value) (filter (λ p. bytes_eq p.key.now key) xs) →
        map (λ p. p.1) (cond t (shown x ∷ filter (λ p. bytes_eq p.0 key) (all_shown xs)) (filter (λ p. bytes_eq p.0 key) (all_shown xs)))
        ≡ map (λ p. typed p.value) (cond t (x ∷ filter (λ p. bytes_eq p.key.now key) xs) (filter (λ p. bytes_eq p.key.now key) xs))
    by true rest = ap (λ vs. typed x.value ∷ vs) rest
    by false rest = rest

-- what `nth` found among them
pub value_at : (key : List ℕ) (xs : List Pair) (i : ℕ) (r : Option Pair) → r ≡ slice_get (filter (λ p. bytes_eq p.key.now key) xs) i →
    option_map (λ p. typed p.value) r ≡ slice_get (values_of key (all_shown xs)) i
value_at key xs i r found = ap (option_map (λ (p : Pair). typed p.value)) found ∙
    sym (slice_get-map (λ (p : Pair). typed p.value) (filter (λ p. bytes_eq p.key.now key) xs) i) ∙ ap (λ vs. slice_get vs i) (sym (values_of-shown key xs))

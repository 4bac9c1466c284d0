-- How many extents are kept.
use Rattle.std.specs.List.{AllByRecursion}
use Rattle.std.proofs.Common.{◌≡◌, ◌≢◌, ℕ, zero, suc, ◌+◌, ◌-◌, ◌/◌, ◌*◌, ◌<◌, ◌≤◌, Bool, true, false, cond, nat_lt, List, [], ◌∷◌, map, length, Option, Some, None}
use Rattle.std.proofs.Common.{refl, sym, ◌∙◌, ap, ◌⊎◌, inl, inr, arith, rules, is_some, subst}
use Rattle.std.proofs.lemmas.Bool.Decides.{nat_tests}
use Rattle.std.specs.Ordering.{nat_cmp, eq_by_cmp, is_eq}
use Rattle.std.proofs.Common.{Less}
use Rattle.std.specs.Cmp.{nat_cmp_total}
use Rattle.std.specs.FinMap.{FinMap, get, find, from_entries, insert, remove, len, get-insert, get-remove, len-insert, len-remove, len-empty, same_map, nat_cmp-IsAntisymmetric, get-from_entries}
use Rattle.std.specs.BTreeMap.{is_at, keys}
use Rattle.std.specs.List.Sorted.{IsStrictlySortedBy}
use Rattle.scsi_disk.specs.Sparse.{Extents, missing_extents, asked_extents}

at_either_way : (k q : ℕ) → eq_by_cmp nat_cmp q k ≡ is_at (nat_cmp k) q
at_either_way k q = grind (arith, nat_tests)

one_more : (b : Bool) (n : ℕ) → cond b n (n + 1) ≡ n + cond b 0 1
one_more true n = omega arith
one_more false n = refl

one_less : (b : Bool) (n : ℕ) → cond b (n - 1) n ≤ n
one_less true n = omega arith
one_less false n = omega arith

-- an extent that was inserted is one more, if it wasn't there
pub kept_inserted : (m n : FinMap nat_cmp (List ℕ)) (k : ℕ) (v : List ℕ) → ((q : ℕ) → get n q ≡ cond (is_at (nat_cmp k) q) (Some v) (get m q))
    → len n ≡ len m + cond (is_some (get m k)) 0 1
kept_inserted m n k v h =
    ap len (same_map nat_cmp_total nat_cmp-IsAntisymmetric n (insert m k v)
    (λ q. h q ∙ ap (λ b. cond b (Some v) (get m q)) (sym (at_either_way k q)) ∙ sym (get-insert nat_cmp_total m k v q)))
    ∙ len-insert nat_cmp_total m k v ∙ one_more (is_some (get m k)) (len m)

-- without one there are no more
pub kept_removed : (m n : FinMap nat_cmp (List ℕ)) (k : ℕ) → ((q : ℕ) → get n q ≡ cond (is_at (nat_cmp k) q) None (get m q)) → len n ≤ len m
kept_removed m n k h =
    let same : len n ≡ cond (is_some (get m k)) (len m - 1) (len m) =
    ap len (same_map nat_cmp_total nat_cmp-IsAntisymmetric n (remove m k)
    (λ q. h q ∙ ap (λ b. cond b None (get m q)) (sym (at_either_way k q)) ∙ sym (get-remove nat_cmp_total m k q)))
    ∙ len-remove nat_cmp_total m k in
    subst (λ x. x ≤ len m) (sym same) (one_less (is_some (get m k)) (len m))

-- the others are as they were
pub others_as_before : (m n : FinMap nat_cmp (List ℕ)) (k : ℕ) (v : List ℕ) → ((q : ℕ) → get n q ≡ cond (is_at (nat_cmp k) q) (Some v) (get m q))
    → (q : ℕ) → q ≢ k → get n q ≡ get m q
others_as_before m n k v h q differs =
    let apart : is_at (nat_cmp k) q ≡ false = grind (arith, nat_tests) in
    h q ∙ ap (λ b. cond b (Some v) (get m q)) apart

-- the first of some extents, and the others
pub missing_first : (m : FinMap nat_cmp (List ℕ)) (k n : ℕ) → k < n → missing_extents m k (n - k) ≡ cond (is_some (get m k)) 0 1 + missing_extents m (k + 1) (n - (k + 1))
unfolding missing_extents
missing_first m k n lt = ap (missing_extents m k) (let e : n - k ≡ suc (n - (k + 1)) = omega arith in e)

pub missing_none : (m : FinMap nat_cmp (List ℕ)) (k : ℕ) → missing_extents m k (k - k) ≡ 0
unfolding missing_extents
missing_none m k = ap (missing_extents m k) (let e : k - k ≡ 0 = omega arith in e)

pub asked_none : (s : Extents) (first : ℕ) → asked_extents s first 0 ≡ 0
unfolding asked_extents
asked_none s first = refl

pub asked_some : (s : Extents) (first count : ℕ) → 0 < count → asked_extents s first count
    ≡ missing_extents s.extents (first / 64) ((first + count - 1) / 64 + 1 - first / 64)
unfolding asked_extents
asked_some s first zero some = absurd (omega arith)
asked_some s first (suc n) some = ap (λ p. missing_extents s.extents (first / 64) (p / 64 + 1 - first / 64)) (let e : first + n ≡ first + suc n - 1 = omega arith in e)

-- once the first of them is there, one less is missing
pub next_kept : (m : FinMap nat_cmp (List ℕ)) (k n was new all : ℕ) → k < n → was + missing_extents m k (n - k) ≤ all
    → new ≤ was + cond (is_some (get m k)) 0 1 → new + missing_extents m (k + 1) (n - (k + 1)) ≤ all
next_kept m k n was new all lt before one = (let e = missing_first m k n lt in omega (arith, e, before, one))

-- the same for how many are missing so far
pub next_missing : (m : FinMap nat_cmp (List ℕ)) (k n was all : ℕ) (b : Bool) → k < n → was + missing_extents m k (n - k) ≡ all → is_some (get m k) ≡ b
    → was + cond b 0 1 + missing_extents m (k + 1) (n - (k + 1)) ≡ all
next_missing m k n was all b lt before is =
    let e = missing_first m k n lt in
    let same = ap {B = ℕ} (λ t. cond t 0 1) is in
    omega (arith, e, before, same)

-- one that is there is written, and none is added
pub kept_written : (m n : FinMap nat_cmp (List ℕ)) (k : ℕ) (v old : List ℕ) → ((q : ℕ) → get n q ≡ cond (is_at (nat_cmp k) q) (Some v) (get m q))
    → get m k ≡ Some old → len n ≡ len m
kept_written m n k v old h before =
    let e = kept_inserted m n k v h in
    let there = ap {B = ℕ} (λ (o : Option (List ℕ)). cond (is_some o) 0 1) before in
    omega (arith, e, there)

none_found : (k : ℕ) (es : List (ℕ × List ℕ)) → AllByRecursion (λ y. nat_cmp k y ≡ Less) (map (λ e. e.0) es) → is_some (find nat_cmp k es) ≡ false
none_found k [] all = refl
none_found k (e ∷ es) all = ap (λ r. is_some (cond (is_eq r) (Some e.1) (find nat_cmp k es))) all.0 ∙ none_found k es all.1

-- entries in order are as many as what the map of them has
pub len_of_entries : (es : List (ℕ × List ℕ)) → IsStrictlySortedBy nat_cmp (map (λ e. e.0) es) → len (from_entries {R = nat_cmp} es) ≡ length es
unfolding IsStrictlySortedBy
len_of_entries [] sorted = len-empty nat_cmp (List ℕ)
len_of_entries (e ∷ es) sorted =
    let new = ap is_some (get-from_entries nat_cmp_total es e.0) ∙ none_found e.0 es sorted.0 in
    let more = len-insert nat_cmp_total (from_entries es) e.0 e.1 ∙ ap (λ b. cond b (len (from_entries {R = nat_cmp} es)) (len (from_entries {R = nat_cmp} es) + 1)) new in
    let before = len_of_entries es sorted.1 in
    omega (arith, more, before)

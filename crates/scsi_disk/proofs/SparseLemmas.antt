-- Blocks in extents.
use Rattle.std.proofs.Common.{subst, drop, All, ◌≡◌, ℕ, zero, suc, ◌+◌, ◌-◌, ◌*◌, ◌/◌, ◌%◌, ◌^◌, ◌<◌, ◌≤◌, Bool, true, false, cond, nat_lt, List, [], ◌∷◌, ◌++◌}
use Rattle.std.proofs.Common.{length, take, replicate, Option, Some, None, refl, sym, ◌∙◌, ap, ◌⊎◌, inl, inr, arith, rules, is_some, IsSome}
use Rattle.std.proofs.lemmas.Bool.Decides.{nat_tests}
use mathlib.Core.Path.{fun_ext}
use Rattle.std.specs.Ordering.{nat_cmp}
use Rattle.std.specs.Cmp.{nat_cmp_total}
use Rattle.std.proofs.lemmas.List.Elements.{All-take, All-drop}
use Rattle.std.specs.FinMap.{FinMap, get, find, from_entries, get-from_entries, empty, get-empty}
use Rattle.std.specs.Map.{lookup}
use Rattle.std.specs.BTreeMap.{is_at}
use Rattle.std.proofs.lemmas.Bool.{cases_lt, cases_order}
use Rattle.std.proofs.lemmas.List.{length-replicate, replicate-append-replicate}
use borrow.Author.Tests.{lt-ltb, le-ltb}
use Rattle.scsi_disk.specs.Disk.{IsDisk, cut, zeros, zero_blocks, overlaid, disk_written}
use Rattle.scsi_disk.specs.Sparse.{Extents, AreZeros, HasBlocks, extent_block, extents_disk}
use Rattle.scsi_disk.specs.inner.Sparse.{AreExtents, IsBlank}
use Rattle.std.proofs.lemmas.Slice.{take-put_mid}
use Rattle.std.proofs.Math.Nat.{mul-le-mul_left}
use borrow.Rule.Slice.PartMut.{put_mid}
use Rattle.scsi_disk.specs.Disk.{joined_blocks}
use Rattle.scsi_disk.proofs.BlockLemmas.{length-cut, same_disk, cut-zeros_at}
use Rattle.scsi_disk.proofs.OverlayLemmas.{overlaid_below, overlaid_past, overlaid_like, zeros_over}
use Rattle.scsi_disk.proofs.PlanLemmas.{joined-add}

find_at : (es : List (ℕ × List ℕ)) (q : ℕ) → find nat_cmp q es ≡ lookup (is_at (nat_cmp q)) es
find_at [] q = refl
find_at (e ∷ es) q = ap (cond (is_at (nat_cmp q) e.0) (Some e.1)) (find_at es q)

-- what the map of the entries has is what a look-up finds
pub get_at : (es : List (ℕ × List ℕ)) (q : ℕ) → get (from_entries {R = nat_cmp} es) q ≡ lookup (is_at (nat_cmp q)) es
get_at es q = get-from_entries nat_cmp_total es q ∙ find_at es q

length-block_in : (o : Option (List ℕ)) (m : ℕ) → ((bytes : List ℕ) → o ≡ Some bytes → length bytes ≡ 32768) → m < 64 → length (extent_block 512 o m) ≡ 512
unfolding extent_block
length-block_in None m whole few = length-replicate {A = ℕ} 512 0
length-block_in (Some bytes) m whole few = length-cut 512 bytes m (let e = whole bytes refl in omega arith)

pub sparse_is_disk : (s : Extents) → AreExtents s.count s.extents → IsDisk (extents_disk s)
sparse_is_disk s are = record {
  some = are.some;
  inside = λ n lt. rw (lt-ltb n s.count lt) (length-block_in (get s.extents (n / 64)) (n % 64) (are.whole (n / 64)) (omega arith));
  outside = λ n ge. rw (le-ltb n s.count ge) refl;
}

zeros_at : (size count m n : ℕ) → (if_in : ℕ → Option (List ℕ)) → ((k : ℕ) → if_in k ≡ None) → cond (nat_lt n count) (extent_block size (if_in m) (n % 64)) []
    ≡ zero_blocks size count n
unfolding extent_block zero_blocks
zeros_at size count m n if_in none = ap (λ o. cond (nat_lt n count) (extent_block size o (n % 64)) []) (none m)

pub fresh : (count : ℕ) → extents_disk (record { count = count; extents = empty }) ≡ zeros count
fresh count = same_disk _ _ refl (fun_ext (λ n. zeros_at 512 count (n / 64) n (get {R = nat_cmp} empty) (λ k. get-empty nat_cmp k))) refl

pub none_yet : (count : ℕ) (es : List (ℕ × List ℕ)) → es ≡ [] → 0 < count → count ≤ 2 ^ 40 → AreExtents count (from_entries es)
none_yet count es none some few = record {
  some = some;
  few = few;
  whole = λ n bytes e. absurd (let h : Some bytes ≡ None = sym e ∙ ap (λ l. get (from_entries {R = nat_cmp} l) n) none ∙ get-empty nat_cmp n in cc);
}

-- block n, by the extent that holds it
pub found : (count : ℕ) (es : List (ℕ × List ℕ)) (n : ℕ) (o : Option (List ℕ)) → o ≡ lookup (is_at (nat_cmp (n / 64))) es → n < count
    → (extents_disk (record { count = count; extents = from_entries es })).block n ≡ extent_block 512 o (n % 64)
found count es n o e lt = rw (lt-ltb n count lt) (ap (λ p. extent_block 512 p (n % 64)) (get_at es (n / 64) ∙ sym e))

pub block_in-some : (bytes : List ℕ) (m : ℕ) → extent_block 512 (Some bytes) m ≡ cut 512 bytes m
unfolding extent_block
block_in-some bytes m = refl

pub block_in-none : (size m : ℕ) → extent_block size None m ≡ replicate size 0
unfolding extent_block
block_in-none size m = refl

pub joined-none : (block : ℕ → List ℕ) (first : ℕ) → joined_blocks block first 0 ≡ []
unfolding joined_blocks
joined-none block first = refl

-- a front that was read, and the blocks behind it
pub joined_next : (size : ℕ) (xs ys : List ℕ) (block : ℕ → List ℕ) (first i c k : ℕ) → ys ≡ joined_blocks block (first + i) c → length ys ≡ size * c → size * i
    ≤ length xs
    → take (size * i) xs ≡ joined_blocks block first i → take (size * (i + c)) (put_mid (size * i) k xs ys) ≡ joined_blocks block first (i + c)
joined_next size xs ys block first i c k is long room before =
    let end : size * (i + c) ≡ size * i + length ys = omega arith in
    take-put_mid (size * i) k xs ys (size * (i + c)) end room ∙ ap (λ t. t ++ ys) before ∙ ap (λ t. joined_blocks block first i ++ t) is
    ∙ sym (joined-add block first i c)

joined-like : (f g : ℕ → List ℕ) (a b c : ℕ) → ((i : ℕ) → i < c → f (a + i) ≡ g (b + i)) → joined_blocks f a c ≡ joined_blocks g b c
unfolding joined_blocks
joined-like f g a b zero same = refl
joined-like f g a b (suc c) same =
    let here : f a ≡ g b = ap f (let e : a ≡ a + 0 = omega arith in e) ∙ same 0 (omega arith) ∙ ap g (let e : b + 0 ≡ b = omega arith in e) in
    ap (λ t. t ++ joined_blocks f (a + 1) c) here
    ∙ ap (λ t. g b ++ t) (joined-like f g (a + 1) (b + 1) c (λ i lt.
    ap f (let e : a + 1 + i ≡ a + (i + 1) = omega arith in e) ∙ same (i + 1) (omega arith) ∙ ap g (let e : b + (i + 1) ≡ b + 1 + i = omega arith in e)))

joined-blank : (size b c : ℕ) → joined_blocks (λ _. replicate size 0) b c ≡ replicate (size * c) 0
unfolding joined_blocks
joined-blank size b zero = ap (λ k. replicate k 0) (let e : 0 ≡ size * zero = omega arith in e)
joined-blank size b (suc c) =
    ap (λ t. replicate size 0 ++ t) (joined-blank size (b + 1) c) ∙ replicate-append-replicate size (size * c) 0
    ∙ ap (λ k. replicate k 0) (let e : size + size * c ≡ size * suc c = omega arith in e)

-- c blocks from n on lie in one extent, which is this
module _ (count : ℕ) (es : List (ℕ × List ℕ)) (n c : ℕ) (o : Option (List ℕ)) (is : o ≡ lookup (is_at (nat_cmp (n / 64))) es)
    (one : n % 64 + c ≤ 64) (inside : n + c ≤ count) where
  in_run : (i : ℕ) → i < c → (extents_disk (record { count = count; extents = from_entries es })).block (n + i) ≡ extent_block 512 o (n % 64 + i)
  in_run i lt =
      let extent : (n + i) / 64 ≡ n / 64 = omega arith in
      let at : (n + i) % 64 ≡ n % 64 + i = omega arith in
      found count es (n + i) o (is ∙ sym (ap (λ k. lookup (is_at (nat_cmp k)) es) extent)) (omega arith) ∙ ap (extent_block 512 o) at

  pub run_there : (bytes : List ℕ) → o ≡ Some bytes → joined_blocks (cut 512 bytes) (n % 64) c
      ≡ joined_blocks (extents_disk (record { count = count; extents = from_entries es })).block n c
  run_there bytes e =
      sym (joined-like (extents_disk (record { count = count; extents = from_entries es })).block (cut 512 bytes) n (n % 64) c (λ i lt.
      in_run i lt ∙ ap (λ p. extent_block 512 p (n % 64 + i)) e ∙ block_in-some bytes (n % 64 + i)))

  pub run_missing : o ≡ None → replicate (512 * c) 0 ≡ joined_blocks (extents_disk (record { count = count; extents = from_entries es })).block n c
  run_missing e =
      sym (joined-like (extents_disk (record { count = count; extents = from_entries es })).block (λ _. replicate 512 0) n 0 c (λ i lt.
      in_run i lt ∙ ap (λ p. extent_block 512 p (n % 64 + i)) e ∙ block_in-none 512 (n % 64 + i))
      ∙ joined-blank 512 0 c)

  -- where it isn't there, a write of 00 changes nothing
  pub run_cleared : (ys : List ℕ) → o ≡ None → ys ≡ replicate (512 * c) 0
      → disk_written n ys (extents_disk (record { count = count; extents = from_entries es }))
      ≡ extents_disk (record { count = count; extents = from_entries es })
  run_cleared ys e blank =
      same_disk _ _ refl (fun_ext (zeros_over 512 n c ys (extents_disk (record { count = count; extents = from_entries es })).block (omega arith) blank (λ i lt.
      in_run i lt ∙ ap (λ p. extent_block 512 p (n % 64 + i)) e ∙ block_in-none 512 (n % 64 + i)))) refl

blank_at : (size blocks : ℕ) (bytes : List ℕ) (n : ℕ) → bytes ≡ replicate (size * blocks) 0 → n < blocks → extent_block size (Some bytes) n
    ≡ extent_block size None n
unfolding extent_block zero_blocks
blank_at size blocks bytes n is lt = ap (λ b. cut size b n) is ∙ cut-zeros_at size blocks n ∙ ap (λ b. cond b (replicate size 0) []) (lt-ltb n blocks lt)

pub blank : (blocks : ℕ) (bytes : List ℕ) → blocks ≡ 64 → bytes ≡ replicate (512 * blocks) 0 → IsBlank bytes
blank blocks bytes e is = λ n lt. blank_at 512 blocks bytes n is (omega arith)

-- bytes that are all 00
pub all_zeros : (bytes : List ℕ) → AreZeros bytes → bytes ≡ replicate (length bytes) 0
all_zeros [] zeros = refl
all_zeros (x ∷ xs) zeros =
    let first : x ≡ 0 = zeros 0 0 (omega arith) in
    let rest = all_zeros xs (λ k d lt. zeros (suc k) d (omega (arith, lt))) in
    ap (λ y. y ∷ xs) first ∙ ap (λ t. 0 ∷ t) rest

pub all_blank : (blocks : ℕ) (bytes : List ℕ) → blocks ≡ 64 → length bytes ≡ 512 * blocks → AreZeros bytes → IsBlank bytes
all_blank blocks bytes e long zeros = blank blocks bytes e (all_zeros bytes zeros ∙ ap (λ n. replicate n 0) long)

-- what the extents are after an insert
pub get_inserted : (es fs : List (ℕ × List ℕ)) (k : ℕ) (v : List ℕ) → ((q : ℕ) → lookup (is_at (nat_cmp q)) fs
    ≡ cond (is_at (nat_cmp k) q) (Some v) (lookup (is_at (nat_cmp q)) es))
    → (q : ℕ) → get (from_entries {R = nat_cmp} fs) q ≡ cond (is_at (nat_cmp k) q) (Some v) (get (from_entries {R = nat_cmp} es) q)
get_inserted es fs k v h q = get_at fs q ∙ h q ∙ ap (cond (is_at (nat_cmp k) q) (Some v)) (sym (get_at es q))

either : (b : Bool) (v bytes : List ℕ) (o : Option (List ℕ)) → cond b (Some v) o ≡ Some bytes → (v ≡ bytes) ⊎ (o ≡ Some bytes)
either true v bytes o e = inl (let h : Some v ≡ Some bytes = e in cc)
either false v bytes o e = inr e

pub inserted : (count : ℕ) (m n : FinMap nat_cmp (List ℕ)) (k : ℕ) (v : List ℕ) → ((q : ℕ) → get n q ≡ cond (is_at (nat_cmp k) q) (Some v) (get m q))
    → length v ≡ 32768 → AreExtents count m → AreExtents count n
inserted count m n k v h long are = record {
  some = are.some;
  few = are.few;
  whole = λ q bytes e. elim (either (is_at (nat_cmp k) q) v bytes (get m q) (sym (h q) ∙ e)) [ inl p ↦ sym (ap length p) ∙ long | inr p ↦ are.whole q bytes p ];
}

same_blocks : (b : Bool) (m : Option (List ℕ)) (v : List ℕ) (n : ℕ) → IsBlank v → n < 64 → (b ≡ true → m ≡ None) → extent_block 512 (cond b (Some v) m) n
    ≡ extent_block 512 m n
same_blocks true m v n blank lt none = blank n lt ∙ sym (ap (λ o. extent_block 512 o n) (none refl))
same_blocks false m v n blank lt none = refl

-- nothing is seen of an extent of 00 that was missing
pub unseen : (count : ℕ) (m n : FinMap nat_cmp (List ℕ)) (k : ℕ) (v : List ℕ) → ((q : ℕ) → get n q ≡ cond (is_at (nat_cmp k) q) (Some v) (get m q))
    → IsBlank v → ((q : ℕ) → is_at (nat_cmp k) q ≡ true → get m q ≡ None) → extents_disk (record { count = count; extents = n })
    ≡ extents_disk (record { count = count; extents = m })
unseen count m n k v h blank none = same_disk _ _ refl (fun_ext (λ p.
    ap (λ o. cond (nat_lt p count) (extent_block 512 o (p % 64)) []) (h (p / 64))
    ∙ ap (λ t. cond (nat_lt p count) t []) (same_blocks (is_at (nat_cmp k) (p / 64)) (get m (p / 64)) v (p % 64) blank (omega arith) (none (p / 64))))) refl

at_key : (k q : ℕ) → is_at (nat_cmp k) q ≡ true → k ≡ q
at_key k q e = grind (arith, nat_tests)

at_itself : (k : ℕ) → is_at (nat_cmp k) k ≡ true
at_itself k = grind (arith, nat_tests)

none_of : (o : Option (List ℕ)) → is_some o ≡ false → o ≡ None
none_of None e = refl
none_of (Some x) e = absurd (let h : true ≡ false = e in cc)

pub missing : (es : List (ℕ × List ℕ)) (k : ℕ) → is_some (lookup (is_at (nat_cmp k)) es) ≡ false → (q : ℕ) → is_at (nat_cmp k) q ≡ true →
    get (from_entries {R = nat_cmp} es) q ≡ None
missing es k none q t =
    get_at es q ∙ ap (λ x. lookup (is_at (nat_cmp x)) es) (sym (at_key k q t)) ∙ none_of (lookup (is_at (nat_cmp k)) es) none

pub is_there : (o : Option (List ℕ)) (v : List ℕ) → o ≡ Some v → IsSome o
is_there o v e = rw e (search rules)

pub stays : (b : Bool) (v : List ℕ) (o p : Option (List ℕ)) → p ≡ cond b (Some v) o → IsSome o → IsSome p
stays true v o p e some = is_there p v e
stays false v o p e some = rw e some

pub is_inserted : (m n : FinMap nat_cmp (List ℕ)) (k : ℕ) (v : List ℕ) → ((q : ℕ) → get n q ≡ cond (is_at (nat_cmp k) q) (Some v) (get m q)) → IsSome (get n k)
is_inserted m n k v h = is_there (get n k) v (h k ∙ ap (λ b. cond b (Some v) (get m k)) (at_itself k))

pub is_kept : (es : List (ℕ × List ℕ)) (k : ℕ) → is_some (lookup (is_at (nat_cmp k)) es) ≡ true → IsSome (get (from_entries {R = nat_cmp} es) k)
is_kept es k e = rw (get_at es k) (let h = e in search rules)

not_at : (k q : ℕ) → (q < k) ⊎ (k < q) → is_at (nat_cmp k) q ≡ false
not_at k q (inl low) = grind (arith, nat_tests)
not_at k q (inr high) = grind (arith, nat_tests)

-- what the extents are after a removal
pub get_removed : (es fs : List (ℕ × List ℕ)) (k : ℕ) → ((q : ℕ) → lookup (is_at (nat_cmp q)) fs ≡ cond (is_at (nat_cmp k) q) None
    (lookup (is_at (nat_cmp q)) es))
    → (q : ℕ) → get (from_entries {R = nat_cmp} fs) q ≡ cond (is_at (nat_cmp k) q) None (get (from_entries {R = nat_cmp} es) q)
get_removed es fs k h q = get_at fs q ∙ h q ∙ ap (cond (is_at (nat_cmp k) q) None) (sym (get_at es q))

still_there : (b : Bool) (o : Option (List ℕ)) (bytes : List ℕ) → cond b None o ≡ Some bytes → o ≡ Some bytes
still_there true o bytes e = absurd (let h : None ≡ Some bytes = e in cc)
still_there false o bytes e = e

gone : (b : Bool) (o p : Option (List ℕ)) → p ≡ cond b None o → b ≡ true → p ≡ None
gone true o p e t = e
gone false o p e t = absurd (let h : false ≡ true = t in cc)

put_back : (b : Bool) (v : List ℕ) (o p : Option (List ℕ)) → p ≡ cond b None o → (b ≡ true → o ≡ Some v) → o ≡ cond b (Some v) p
put_back true v o p e is = is refl
put_back false v o p e is = sym e

-- the extents m without the one of key k
module _ (m n : FinMap nat_cmp (List ℕ)) (k : ℕ) (h : (q : ℕ) → get n q ≡ cond (is_at (nat_cmp k) q) None (get m q)) where
  pub removed : (count : ℕ) → AreExtents count m → AreExtents count n
  removed count are = record {
    some = are.some;
    few = are.few;
    whole = λ q bytes e. are.whole q bytes (still_there (is_at (nat_cmp k) q) (get m q) bytes (sym (h q) ∙ e));
  }

  -- nothing is seen of a removed extent of 00
  pub unseen_gone : (count : ℕ) (v : List ℕ) → get m k ≡ Some v → IsBlank v → extents_disk (record { count = count; extents = n })
      ≡ extents_disk (record { count = count; extents = m })
  unseen_gone count v before blank = sym (unseen count n m k v
      (λ q. put_back (is_at (nat_cmp k) q) v (get m q) (get n q) (h q) (λ t. ap (λ x. get m x) (sym (at_key k q t)) ∙ before)) blank
      (λ q t. gone (is_at (nat_cmp k) q) (get m q) (get n q) (h q) t))

  pub others_stay : (j : ℕ) → IsSome (get m j) → (j ≡ k) ⊎ IsSome (get n j)
  others_stay j some = elim (cases_order j k) [
    | inl same ↦ inl same
    | inr differ ↦ inr (subst (λ (o : Option (List ℕ)). IsSome o) (sym (h j ∙ ap (λ b. cond b None (get m j)) (not_at k j differ))) some)
  ]

-- the extents where the one of block p has been written from that block on
module _ (count p c : ℕ) (m n : FinMap nat_cmp (List ℕ)) (old new ys : List ℕ)
    (h : (q : ℕ) → get n q ≡ cond (is_at (nat_cmp (p / 64)) q) (Some new) (get m q)) (before : get m (p / 64) ≡ Some old)
    (parts : cut 512 new ≡ overlaid 512 (p % 64) ys (cut 512 old)) (long : length ys ≡ 512 * c) (one : p % 64 + c ≤ 64) (inside : p + c ≤ count) where
  abbrev block : ℕ → List ℕ
  block = (extents_disk (record { count = count; extents = m })).block

  past : (j : ℕ) → p + c ≤ j → overlaid 512 p ys block j ≡ block j
  past j far =
      let behind : c ≤ j - p = omega arith in
      overlaid_past 512 p ys block j (omega arith) (omega (arith, mul-le-mul_left 512 behind))

  -- in that extent
  here : (j : ℕ) → j < count → p / 64 ≡ j / 64 → extent_block 512 (get n (j / 64)) (j % 64) ≡ overlaid 512 p ys block j
  here j lt at =
      let extent : get n (j / 64) ≡ Some new = h (j / 64) ∙ ap (λ b. cond b (Some new) (get m (j / 64)))
      (ap (is_at (nat_cmp (p / 64))) (sym at) ∙ at_itself (p / 64)) in
      let was : cut 512 old (j % 64) ≡ block j =
      sym (ap (λ b. cond b (extent_block 512 (get m (j / 64)) (j % 64)) []) (lt-ltb j count lt)
      ∙ ap (λ o. extent_block 512 o (j % 64)) (ap (λ k. get m k) (sym at) ∙ before) ∙ block_in-some old (j % 64)) in
      let low : nat_lt (j % 64) (p % 64) ≡ nat_lt j p = grind (arith, nat_tests) in
      ap (λ o. extent_block 512 o (j % 64)) extent ∙ block_in-some new (j % 64) ∙ ap (λ f. f (j % 64)) parts
      ∙ overlaid_like 512 (p % 64) p (j % 64) j ys (cut 512 old) block low (omega arith) was

  -- in another
  elsewhere : (j : ℕ) → (j / 64 < p / 64) ⊎ (p / 64 < j / 64) → extent_block 512 (get n (j / 64)) (j % 64) ≡ extent_block 512 (get m (j / 64)) (j % 64)
  elsewhere j differ = ap (λ o. extent_block 512 o (j % 64)) (h (j / 64) ∙ ap (λ b. cond b (Some new) (get m (j / 64))) (not_at (p / 64) (j / 64) differ))

  outside : (j : ℕ) → (j / 64 < p / 64) ⊎ (p / 64 < j / 64) → overlaid 512 p ys block j ≡ block j
  outside j (inl low) = overlaid_below 512 p ys block j (omega arith)
  outside j (inr high) = past j (omega arith)

  run_written_at : (j : ℕ) → (extents_disk (record { count = count; extents = n })).block j ≡ overlaid 512 p ys block j
  run_written_at j =
      elim (cases_lt j count) [
        | inl lt ↦ elim (cases_order (p / 64) (j / 64)) [
          | inl same ↦ ap (λ b. cond b (extent_block 512 (get n (j / 64)) (j % 64)) []) (lt-ltb j count lt) ∙ here j lt same
          | inr differ ↦
              let away : (j / 64 < p / 64) ⊎ (p / 64 < j / 64) = elim differ [ inl low ↦ inr low | inr high ↦ inl high ] in
              ap (λ t. cond (nat_lt j count) t []) (elsewhere j away) ∙ sym (outside j away)
        ]
        | inr ge ↦
            ap (λ b. cond b (extent_block 512 (get n (j / 64)) (j % 64)) []) (le-ltb j count ge)
            ∙ sym (past j (omega arith) ∙ ap (λ b. cond b (extent_block 512 (get m (j / 64)) (j % 64)) []) (le-ltb j count ge))
      ]

  pub run_written : extents_disk (record { count = count; extents = n }) ≡ disk_written p ys (extents_disk (record { count = count; extents = m }))
  run_written = same_disk _ _ refl (fun_ext run_written_at) refl

-- an extent that is there is found
pub some_at : (es : List (ℕ × List ℕ)) (k : ℕ) → IsSome (get (from_entries {R = nat_cmp} es) k) → IsSome (lookup (is_at (nat_cmp k)) es)
some_at es k some = rw (get_at es k) at some

pub never_none : (o : Option (List ℕ)) → None ≡ o → IsSome o → ⊥
never_none None e some = search rules
never_none (Some x) e some = (let h : None ≡ Some x = e in cc)

-- a key that is found in a list is found in a longer one, and the first key in any case
found_behind : (q : ℕ) (e : ℕ × List ℕ) (es : List (ℕ × List ℕ)) → IsSome (find nat_cmp q es) → IsSome (find nat_cmp q (e ∷ es))
found_behind q e es some = stays (is_at (nat_cmp q) e.0) e.1 (find nat_cmp q es) (find nat_cmp q (e ∷ es)) refl some

found_first : (e : ℕ × List ℕ) (es : List (ℕ × List ℕ)) → IsSome (find nat_cmp e.0 (e ∷ es))
found_first e es = is_there (find nat_cmp e.0 (e ∷ es)) e.1 (ap (λ b. cond b (Some e.1) (find nat_cmp e.0 es)) (at_itself e.0))

keys_found : (es rest : List (ℕ × List ℕ)) → ((q : ℕ) → IsSome (find nat_cmp q rest) → IsSome (find nat_cmp q es)) →
    All (λ e. IsSome (find nat_cmp e.0 es)) rest
keys_found es [] more k d lt = absurd (omega (arith, lt))
keys_found es (e ∷ rest) more zero d lt = more e.0 (found_first e rest)
keys_found es (e ∷ rest) more (suc k) d lt = keys_found es rest (λ q some. more q (found_behind q e rest some)) k d (omega (arith, lt))

-- the keys of a run of a map's entries are there
pub run_is_there : (es run : List (ℕ × List ℕ)) (a n : ℕ) → run ≡ take n (drop a es) → All (λ e. IsSome (get (from_entries {R = nat_cmp} es) e.0)) run
run_is_there es run a n is =
    let P : ℕ × List ℕ → Type 0 = λ e. IsSome (get (from_entries {R = nat_cmp} es) e.0) in
    let all : All P es = subst (λ (f : ℕ → Option (List ℕ)). All (λ (e : ℕ × List ℕ). IsSome (f e.0)) es)
    (fun_ext (λ q. sym (get-from_entries nat_cmp_total es q))) (keys_found es es (λ q some. some)) in
    subst (All P) (sym is) (All-take P n (drop a es) (All-drop P a es all))

-- one extent more is there, and those behind the first of a list
pub next_there : (extents : FinMap nat_cmp (List ℕ)) (first next key : ℕ) → ((k : ℕ) → first ≤ k → k < next → IsSome (get extents k)) → key ≡ next →
    IsSome (get extents key)
    → (k : ℕ) → first ≤ k → k < next + 1 → IsSome (get extents k)
next_there extents first next key before is some k low high = elim (cases_order k next) [
  | inl same ↦ subst (λ (n : ℕ). IsSome (get extents n)) (is ∙ sym same) some
  | inr (inl less) ↦ before k low less
  | inr (inr more) ↦ absurd (omega (arith, more, high))
]

pub behind_there : (extents : FinMap nat_cmp (List ℕ)) (e : ℕ × List ℕ) (es : List (ℕ × List ℕ)) → All (λ e. IsSome (get extents e.0)) (e ∷ es) →
    All (λ e. IsSome (get extents e.0)) es
behind_there extents e es all k d lt = all (suc k) d (omega (arith, lt))

-- an extent that isn't among the entries isn't there
pub is_missing : (es : List (ℕ × List ℕ)) (k : ℕ) → is_some (lookup (is_at (nat_cmp k)) es) ≡ false → get (from_entries {R = nat_cmp} es) k ≡ None
is_missing es k none = missing es k none k (at_itself k)

-- an extent that some of these blocks lie in is there
pub is_reached : (extents : FinMap nat_cmp (List ℕ)) (first count k : ℕ) → 0 < count → HasBlocks extents first count → first / 64 ≤ k
    → 64 * k < first + count → IsSome (get extents k)
is_reached extents first count k some has low high = elim (cases_lt (64 * k) first) [
  | inl before ↦
      let same : first / 64 ≡ k = omega arith in
      subst (λ (n : ℕ). IsSome (get extents n)) same (has first (omega arith) (omega arith))
  | inr behind ↦
      let same : 64 * k / 64 ≡ k = omega arith in
      subst (λ (n : ℕ). IsSome (get extents n)) same (has (64 * k) behind high)
]

-- behind a run the extents are there, if no other than that of the run has gone
pub rest_there : (old new : FinMap nat_cmp (List ℕ)) (first i run count : ℕ) → (run ≡ count - i) ⊎ ((first + i) % 64 + run ≡ 64) → 0 < run
    → ((k : ℕ) → IsSome (get old k) → (k ≡ (first + i) / 64) ⊎ IsSome (get new k)) → HasBlocks old (first + i) (count - i)
    → HasBlocks new (first + (i + run)) (count - (i + run))
rest_there old new first i run count end some kept has n low high = elim (kept (n / 64) (has n (omega (arith, low)) (omega (arith, low, high)))) [
  | inl same ↦ elim end [ inl all ↦ absurd (omega (arith, all, low, high)) | inr full ↦ absurd (omega (arith, full, low, same)) ]
  | inr there ↦ there
]

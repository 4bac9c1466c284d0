-- Bytes that are cut into blocks: what a read of some of them gives, and what a write leaves.
use Rattle.std.proofs.Common.{◌≡◌, ℕ, zero, suc, ◌+◌, ◌-◌, ◌*◌, ◌/◌, ◌<◌, ◌≤◌, List, [], ◌++◌, length, take, drop, replicate, refl, sym, ◌∙◌, ap, inl, inr}
use Rattle.std.proofs.Common.{arith}
use mathlib.Core.Path.{fun_ext}
use Rattle.std.proofs.lemmas.List.{drop-drop, take-append-le, drop-append-le, drop-replicate, take-replicate, drop_all, length-replicate, drop_at}
use Rattle.std.proofs.lemmas.List.{length-take-le, length-drop, drop-take}
use Rattle.std.proofs.lemmas.Slice.{take-put_mid_below, drop-put_mid}
use Rattle.std.proofs.lemmas.Bool.{cases_lt}
use Rattle.std.proofs.Math.Seq.{take-add}
use Rattle.std.proofs.Math.Nat.{mul-le-mul_left}
use borrow.Rule.Slice.PartMut.{put_mid}
use borrow.Author.Tests.{lt-ltb, le-ltb}
use Rattle.scsi_disk.specs.Disk.{Disk, IsDisk, AreBlocks, cut, joined_blocks, overlaid, zero_blocks, zeros, disk_of}

module _ (size : ℕ) where
  -- a read of blocks is a range of the bytes
  pub joined-cut : (bytes : List ℕ) (first count : ℕ) → joined_blocks (cut size bytes) first count ≡ take (size * count) (drop (size * first) bytes)
  unfolding joined_blocks cut
  joined-cut bytes first zero = ap (λ k. take k (drop (size * first) bytes)) (sym (let e : size * zero ≡ zero = omega arith in e))
  joined-cut bytes first (suc count) =
      let more : size * suc count ≡ size + size * count = omega arith in
      let next : size * (first + 1) ≡ size * first + size = omega arith in
      let rest = drop (size * first) bytes in
      ap (λ t. take size rest ++ t) (joined-cut bytes (first + 1) count ∙ ap (λ k. take (size * count) (drop k bytes)) next
      ∙ sym (ap (take (size * count)) (drop-drop size (size * first) bytes)))
      ∙ sym (ap (λ k. take k rest) more ∙ take-add size (size * count) rest)

  -- a part is seen in the front that ends with it
  cut_in_front : (xs : List ℕ) (n : ℕ) → cut size xs n ≡ drop (size * n) (take (size * n + size) xs)
  unfolding cut
  cut_in_front xs n = sym (drop-take (size * n) size xs)

  below : (xs ys : List ℕ) (first n : ℕ) → size * first ≤ length xs → n < first → cut size (put_mid (size * first) (length ys) xs ys) n ≡ cut size xs n
  below xs ys first n room lt =
      let more : n + 1 ≤ first = omega arith in
      let within : size * n + size ≤ size * first = omega (arith, mul-le-mul_left size more) in
      cut_in_front (put_mid (size * first) (length ys) xs ys) n ∙ ap (drop (size * n))
      (take-put_mid_below (size * first) (length ys) xs ys (size * n + size) within room) ∙ sym (cut_in_front xs n)

  behind : (xs ys : List ℕ) (first n : ℕ) → size * first ≤ length xs → size * first + length ys ≤ size * n →
      cut size (put_mid (size * first) (length ys) xs ys) n ≡ cut size xs n
  unfolding cut
  behind xs ys first n room past = ap (take size) (drop-put_mid (size * first) (length ys) xs ys (size * n) past room refl)

  inside : (xs ys : List ℕ) (first m : ℕ) → size * first ≤ length xs → size * m + size ≤ length ys →
      cut size (put_mid (size * first) (length ys) xs ys) (first + m) ≡ cut size ys m
  unfolding cut
  inside xs ys first m room fits =
      let at : size * (first + m) ≡ size * first + size * m = omega arith in
      let tail = drop (length ys) (drop (size * first) xs) in
      let whole = put_mid (size * first) (length ys) xs ys in
      let front : drop (size * first) whole ≡ ys ++ tail = drop_at (take (size * first) xs) (ys ++ tail) (size * first)
      (length-take-le (size * first) xs room) in
      let there : size * m ≤ length ys = omega arith in
      let left : size ≤ length (drop (size * m) ys) = omega (arith, length-drop (size * m) ys) in
      ap (take size) (ap (λ k. drop k whole) at ∙ sym (drop-drop (size * m) (size * first) whole) ∙ ap (drop (size * m)) front
      ∙ drop-append-le (size * m) ys tail there)
      ∙ take-append-le size (drop (size * m) ys) tail left

  -- whole parts: one that begins before the end ends before it
  whole_part : (count k m : ℕ) → k ≡ size * count → size * m < k → size * m + size ≤ k
  whole_part count k m e lt =
      elim (cases_lt m count) [
        | inl h ↦ let more : m + 1 ≤ count = omega arith in omega (arith, mul-le-mul_left size more)
        | inr h ↦ absurd (omega (arith, mul-le-mul_left size h))
      ]

  pub cut-put_at : (xs ys : List ℕ) (first count : ℕ) → length ys ≡ size * count → size * first ≤ length xs → (n : ℕ) →
      cut size (put_mid (size * first) (length ys) xs ys) n ≡ overlaid size first ys (cut size xs) n
  unfolding overlaid
  cut-put_at xs ys first count whole room n =
      elim (cases_lt n first) [
        | inl lt ↦ rw (lt-ltb n first lt) (below xs ys first n room lt)
        | inr ge ↦ elim (cases_lt (size * (n - first)) (length ys)) [
          | inl lt ↦ rw (le-ltb n first ge, lt-ltb (size * (n - first)) (length ys) lt)
              (ap (cut size (put_mid (size * first) (length ys) xs ys)) (let e : n ≡ first + (n - first) = omega arith in e)
              ∙ inside xs ys first (n - first) room (whole_part count (length ys) (n - first) whole lt))
          | inr past ↦ rw (le-ltb n first ge, le-ltb (size * (n - first)) (length ys) past)
              (behind xs ys first n room (let e : size * n ≡ size * first + size * (n - first) =
              (let f : n ≡ first + (n - first) = omega arith in ap (λ k. size * k) f
              ∙ (let g : size * (first + (n - first)) ≡ size * first + size * (n - first) = omega arith in g)) in omega arith))
        ]
      ]

  -- a write of whole blocks
  pub cut-put : (xs ys : List ℕ) (first count : ℕ) → length ys ≡ size * count → size * first ≤ length xs → cut size (put_mid (size * first) (length ys) xs ys)
      ≡ overlaid size first ys (cut size xs)
  cut-put xs ys first count whole room = fun_ext (cut-put_at xs ys first count whole room)

  -- a range of whole parts
  pub range-blocks : (bytes : List ℕ) (first len : ℕ) → size * (len / size) ≡ len → take (size * first + len - size * first) (drop (size * first) bytes)
      ≡ joined_blocks (cut size bytes) first (len / size)
  range-blocks bytes first len whole =
      let e : size * first + len - size * first ≡ size * (len / size) = omega arith in
      ap (λ k. take k (drop (size * first) bytes)) e ∙ sym (joined-cut bytes first (len / size))

  -- a write of whole parts into a range
  pub range-put : (xs ys zs : List ℕ) (first : ℕ) → zs ≡ ys → size * (length ys / size) ≡ length ys → size * first + length ys ≤ length xs
      → cut size (put_mid (size * first) (size * first + length ys - size * first) xs zs) ≡ overlaid size first ys (cut size xs)
  range-put xs ys zs first same whole room =
      let k : size * first + length ys - size * first ≡ length ys = omega arith in
      ap (λ n. cut size (put_mid (size * first) n xs zs)) k
      ∙ ap (λ t. cut size (put_mid (size * first) (length ys) xs t)) same
      ∙ cut-put xs ys first (length ys / size) (sym whole) (omega arith)

  pub length-cut : (xs : List ℕ) (n : ℕ) → size * n + size ≤ length xs → length (cut size xs n) ≡ size
  unfolding cut
  length-cut xs n room = let there : size ≤ length (drop (size * n) xs) = omega (arith, length-drop (size * n) xs) in
      length-take-le size (drop (size * n) xs) there

  take_nothing : (n : ℕ) → take {A = ℕ} n [] ≡ []
  take_nothing zero = refl
  take_nothing (suc n) = refl

  pub cut_past : (xs : List ℕ) (n : ℕ) → length xs ≤ size * n → cut size xs n ≡ []
  unfolding cut
  cut_past xs n past = ap (take size) (drop_all (size * n) xs past) ∙ take_nothing size

  pub cut-zeros_at : (blocks n : ℕ) → cut size (replicate (size * blocks) 0) n ≡ zero_blocks size blocks n
  unfolding zero_blocks cut
  cut-zeros_at blocks n =
      elim (cases_lt n blocks) [
        | inl lt ↦ rw (lt-ltb n blocks lt)
            (ap (take size) (drop-replicate (size * n) (size * blocks) 0)
            ∙ take-replicate size (size * blocks - size * n) 0 (let more : n + 1 ≤ blocks = omega arith in omega (arith, mul-le-mul_left size more)))
        | inr ge ↦ rw (le-ltb n blocks ge) (cut_past (replicate (size * blocks) 0) n
            (omega (arith, length-replicate {A = ℕ} (size * blocks) 0, mul-le-mul_left size ge)))
      ]

  pub cut-zeros : (blocks : ℕ) → cut size (replicate (size * blocks) 0) ≡ zero_blocks size blocks
  cut-zeros blocks = fun_ext (cut-zeros_at blocks)

pub is_disk : (xs : List ℕ) → AreBlocks xs → IsDisk (disk_of xs)
is_disk xs are = record {
  some = (let w = are.whole in let s = are.some in omega arith);
  inside = λ n lt. length-cut 512 xs n (let w = are.whole in omega arith);
  outside = λ n ge. cut_past 512 xs n (let w = are.whole in omega arith);
}

pub same_disk : (c d : Disk) → c.count ≡ d.count → c.block ≡ d.block → c.tells ≡ d.tells → c ≡ d
same_disk c d count block tells = λ i. record { count = count i; block = block i; tells = tells i }

pub disk_of-zeros : (blocks : ℕ) → disk_of (replicate (512 * blocks) 0) ≡ zeros blocks
disk_of-zeros blocks = same_disk _ _ (omega (arith, length-replicate {A = ℕ} (512 * blocks) 0)) (cut-zeros 512 blocks) refl

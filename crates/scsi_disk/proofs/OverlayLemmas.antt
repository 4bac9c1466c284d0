-- Writes on blocks: what one leaves, a part of one, and one after another.
use Rattle.std.proofs.Common.{◌≡◌, ℕ, zero, suc, ◌+◌, ◌-◌, ◌*◌, ◌<◌, ◌≤◌, cond, nat_lt, List, [], ◌∷◌, length, take, drop, replicate, refl, sym, ◌∙◌, ap, ◌⊎◌, inl, inr, arith}
use mathlib.Core.Path.{fun_ext}
use Rattle.std.proofs.lemmas.Bool.{cases_lt}
use Rattle.std.proofs.lemmas.List.{take-take, drop-take, drop-drop, length-take-le, length-drop, length-replicate}
use Rattle.std.proofs.Math.Nat.{mul-le-mul_left}
use borrow.Author.Tests.{lt-ltb, le-ltb}
use Rattle.scsi_disk.specs.Disk.{Disk, IsOldOrNew, cut, overlaid, disk_written, zero_blocks}
use Rattle.scsi_disk.proofs.BlockLemmas.{same_disk, cut-zeros_at}

-- a part that lies in the front
cut_front : (size k : ℕ) (bytes : List ℕ) (m : ℕ) → size * m + size ≤ k → cut size (take k bytes) m ≡ cut size bytes m
unfolding cut
cut_front size k bytes m fits =
    sym (drop-take (size * m) size (take k bytes)) ∙ ap (drop (size * m)) (take-take (size * m + size) k bytes fits) ∙ drop-take (size * m) size bytes

-- an overlay below its first part, at one of its parts, and past them
pub overlaid_below : (size first : ℕ) (ys : List ℕ) (block : ℕ → List ℕ) (n : ℕ) → n < first → overlaid size first ys block n ≡ block n
unfolding overlaid
overlaid_below size first ys block n lt = rw (lt-ltb n first lt) refl

pub overlaid_in : (size first : ℕ) (ys : List ℕ) (block : ℕ → List ℕ) (m : ℕ) → size * m < length ys → overlaid size first ys block (first + m) ≡ cut size ys m
unfolding overlaid
overlaid_in size first ys block m lt =
    let at : first + m - first ≡ m = omega arith in
    rw (le-ltb (first + m) first (omega arith), at, lt-ltb (size * m) (length ys) lt) refl

pub overlaid_past : (size first : ℕ) (ys : List ℕ) (block : ℕ → List ℕ) (n : ℕ) → first ≤ n → length ys ≤ size * (n - first) → overlaid size first ys block n
    ≡ block n
unfolding overlaid
overlaid_past size first ys block n ge past = rw (le-ltb n first ge, le-ltb (size * (n - first)) (length ys) past) refl

-- parts of 00 over blocks of 00
zero_part : (size c m : ℕ) (ys : List ℕ) → ys ≡ replicate (size * c) 0 → m < c → cut size ys m ≡ replicate size 0
unfolding zero_blocks
zero_part size c m ys blank lt = ap (λ t. cut size t m) blank ∙ cut-zeros_at size c m ∙ ap (λ b. cond b (replicate size 0) []) (lt-ltb m c lt)

pub zeros_over : (size first c : ℕ) (ys : List ℕ) (block : ℕ → List ℕ) → 0 < size → ys ≡ replicate (size * c) 0
    → ((i : ℕ) → i < c → block (first + i) ≡ replicate size 0) → (j : ℕ) → overlaid size first ys block j ≡ block j
zeros_over size first c ys block some none blank j =
    let long : length ys ≡ size * c = ap length none ∙ length-replicate {A = ℕ} (size * c) 0 in
    elim (cases_lt j first) [
      | inl low ↦ overlaid_below size first ys block j low
      | inr ge ↦ elim (cases_lt (j - first) c) [
        | inl lt ↦
            let at : j ≡ first + (j - first) = omega arith in
            let more : j - first + 1 ≤ c = omega arith in
            let grown : size * (j - first + 1) ≡ size * (j - first) + size = omega arith in
            let within : size * (j - first) < length ys = omega (arith, mul-le-mul_left size more) in
            ap (overlaid size first ys block) at ∙ overlaid_in size first ys block (j - first) within ∙ zero_part size c (j - first) ys none lt
            ∙ sym (ap block at ∙ blank (j - first) lt)
        | inr far ↦ overlaid_past size first ys block j ge (omega (arith, mul-le-mul_left size far))
      ]
    ]

-- the same overlay at two places
pub overlaid_like : (size a b x y : ℕ) (ys : List ℕ) (f g : ℕ → List ℕ) → nat_lt x a ≡ nat_lt y b → x - a ≡ y - b → f x ≡ g y
    → overlaid size a ys f x ≡ overlaid size b ys g y
unfolding overlaid
overlaid_like size a b x y ys f g low far same = rw (low, far, same) refl

-- a part of what is behind a front
cut_behind : (size i k : ℕ) (bytes : List ℕ) → cut size (drop (size * i) bytes) k ≡ cut size bytes (i + k)
unfolding cut
cut_behind size i k bytes =
    ap (take size) (drop-drop (size * k) (size * i) bytes ∙ ap (λ m. drop m bytes) (let e : size * i + size * k ≡ size * (i + k) = omega arith in e))

-- parts behind a front, written after the front
module _ (size first i c : ℕ) (bytes : List ℕ) (block : ℕ → List ℕ) (room : size * (i + c) ≤ length bytes) where
  abbrev part : List ℕ
  part = take (size * c) (drop (size * i) bytes)

  abbrev inner : ℕ → List ℕ
  inner = overlaid size first (take (size * i) bytes) block

  sum : size * (i + c) ≡ size * i + size * c
  sum = omega arith

  length_part : length part ≡ size * c
  length_part = length-take-le (size * c) (drop (size * i) bytes) (let e = sum in omega (arith, length-drop (size * i) bytes))

  length_front : length (take (size * i) bytes) ≡ size * i
  length_front = length-take-le (size * i) bytes (let e = sum in omega arith)

  length_all : length (take (size * (i + c)) bytes) ≡ size * (i + c)
  length_all = length-take-le (size * (i + c)) bytes room

  -- in the front
  before : (m : ℕ) → 0 < size → m < i → overlaid size (first + i) part inner (first + m) ≡ overlaid size first (take (size * (i + c)) bytes) block (first + m)
  before m some lt =
      let e = sum in
      let front = length_front in
      let all = length_all in
      let one : m + 1 ≤ i = omega arith in
      let grown : size * (m + 1) ≡ size * m + size = omega arith in
      let within : size * m + size ≤ size * i = omega (arith, mul-le-mul_left size one) in
      overlaid_below size (first + i) part inner (first + m) (omega arith)
      ∙ overlaid_in size first (take (size * i) bytes) block m (omega arith) ∙ cut_front size (size * i) bytes m within
      ∙ sym (overlaid_in size first (take (size * (i + c)) bytes) block m (omega arith) ∙ cut_front size (size * (i + c)) bytes m (omega arith))

  -- in the parts
  within : (k : ℕ) → 0 < size → k < c → overlaid size (first + i) part inner (first + i + k)
      ≡ overlaid size first (take (size * (i + c)) bytes) block (first + i + k)
  within k some lt =
      let e = sum in
      let parts = length_part in
      let all = length_all in
      let one : k + 1 ≤ c = omega arith in
      let grown : size * (k + 1) ≡ size * k + size = omega arith in
      let fits : size * k + size ≤ size * c = omega (arith, mul-le-mul_left size one) in
      let both : size * (i + k) ≡ size * i + size * k = omega arith in
      let at : first + i + k ≡ first + (i + k) = omega arith in
      overlaid_in size (first + i) part inner k (omega arith) ∙ cut_front size (size * c) (drop (size * i) bytes) k fits ∙ cut_behind size i k bytes
      ∙ sym (ap (overlaid size first (take (size * (i + c)) bytes) block) at ∙ overlaid_in size first (take (size * (i + c)) bytes) block (i + k) (omega arith)
      ∙ cut_front size (size * (i + c)) bytes (i + k) (omega arith))

  -- and behind them
  behind : (n : ℕ) → first + i + c ≤ n → overlaid size (first + i) part inner n ≡ overlaid size first (take (size * (i + c)) bytes) block n
  behind n past =
      let e = sum in
      let parts = length_part in
      let front = length_front in
      let all = length_all in
      let far : i + c ≤ n - first = omega arith in
      let near : c ≤ n - (first + i) = omega arith in
      let long : size * (i + c) ≤ size * (n - first) = mul-le-mul_left size far in
      let short : size * c ≤ size * (n - (first + i)) = mul-le-mul_left size near in
      overlaid_past size (first + i) part inner n (omega arith) (omega arith)
      ∙ overlaid_past size first (take (size * i) bytes) block n (omega arith) (omega arith)
      ∙ sym (overlaid_past size first (take (size * (i + c)) bytes) block n (omega arith) (omega arith))

  overlaid_more_at : 0 < size → (n : ℕ) → overlaid size (first + i) part inner n ≡ overlaid size first (take (size * (i + c)) bytes) block n
  overlaid_more_at some n =
      elim (cases_lt n first) [
        | inl lt ↦
            overlaid_below size (first + i) part inner n (omega arith) ∙ overlaid_below size first (take (size * i) bytes) block n lt
            ∙ sym (overlaid_below size first (take (size * (i + c)) bytes) block n lt)
        | inr ge ↦ elim (cases_lt n (first + i)) [
          | inl lt ↦
              let at : n ≡ first + (n - first) = omega arith in
              ap (overlaid size (first + i) part inner) at ∙ before (n - first) some (omega arith)
              ∙ sym (ap (overlaid size first (take (size * (i + c)) bytes) block) at)
          | inr past ↦ elim (cases_lt n (first + i + c)) [
            | inl lt ↦
                let at : n ≡ first + i + (n - (first + i)) = omega arith in
                ap (overlaid size (first + i) part inner) at ∙ within (n - (first + i)) some (omega arith)
                ∙ sym (ap (overlaid size first (take (size * (i + c)) bytes) block) at)
            | inr far ↦ behind n far
          ]
        ]
      ]

-- a disk with the front of some bytes written, and then the blocks behind that front
pub written_next : (first i c : ℕ) (bytes : List ℕ) (disk : Disk) → 512 * (i + c) ≤ length bytes
    → disk_written (first + i) (take (512 * c) (drop (512 * i) bytes)) (disk_written first (take (512 * i) bytes) disk)
    ≡ disk_written first (take (512 * (i + c)) bytes) disk
written_next first i c bytes disk room = same_disk _ _ refl (fun_ext (overlaid_more_at 512 first i c bytes disk.block room (omega arith))) refl

overlaid_none : (size first : ℕ) (block : ℕ → List ℕ) (n : ℕ) → overlaid size first [] block n ≡ block n
unfolding overlaid
overlaid_none size first block n =
    elim (cases_lt n first) [
      | inl lt ↦ rw (lt-ltb n first lt) refl
      | inr ge ↦ rw (le-ltb n first ge, le-ltb (size * (n - first)) 0 (omega arith)) refl
    ]

pub written_none : (first : ℕ) (disk : Disk) → disk_written first [] disk ≡ disk
written_none first disk = same_disk _ _ refl (fun_ext (λ n. overlaid_none 512 first disk.block n)) refl

-- a write of no byte
pub written_short : (first : ℕ) (bytes : List ℕ) (disk : Disk) → length bytes ≡ 0 → disk_written first (take 512 bytes) disk ≡ disk
written_short first [] disk none = written_none first disk
written_short first (x ∷ xs) disk none = absurd (let e : length (x ∷ xs) ≡ 0 = none in omega arith)

-- a multiple below the size
small : (size m : ℕ) → size * m < size → size * m ≡ 0
small size zero lt = omega arith
small size (suc m) lt = absurd (let e : size * suc m ≡ size * m + size = omega arith in omega arith)

-- a write of the first block alone
first_at : (size first : ℕ) (bytes : List ℕ) (block : ℕ → List ℕ) (n : ℕ) → 0 < size → size ≤ length bytes
    → (overlaid size first (take size bytes) block n ≡ block n) ⊎ (overlaid size first (take size bytes) block n ≡ overlaid size first bytes block n)
unfolding overlaid cut
first_at size first bytes block n some long =
    elim (cases_lt n first) [
      | inl lt ↦ rw (lt-ltb n first lt) (inl refl)
      | inr ge ↦ elim (cases_lt (size * (n - first)) size) [
        | inl lt ↦
            let short : size * (n - first) < length (take size bytes) = omega (arith, length-take-le size bytes long) in
            let near : size * (n - first) < length bytes = omega arith in
            let at : size * (n - first) ≡ 0 = small size (n - first) lt in
            inr (rw (le-ltb n first ge, lt-ltb (size * (n - first)) (length (take size bytes)) short, lt-ltb (size * (n - first)) (length bytes) near, at)
            (take-take size size bytes (omega arith)))
        | inr past ↦
            let beyond : length (take size bytes) ≤ size * (n - first) = omega (arith, length-take-le size bytes long) in
            inl (rw (le-ltb n first ge, le-ltb (size * (n - first)) (length (take size bytes)) beyond) refl)
      ]
    ]

pub first_alone : (first : ℕ) (bytes : List ℕ) (d e : Disk) → 512 ≤ length bytes → e ≡ disk_written first (take 512 bytes) d
    → IsOldOrNew d (disk_written first bytes d) e
first_alone first bytes d e long is = record {
  count = ap (λ (x : Disk). x.count) is;
  tells = ap (λ (x : Disk). x.tells) is;
  each = λ n. let same = ap (λ (x : Disk). x.block n) is in
      elim (first_at 512 first bytes d.block n (omega arith) long) [ inl h ↦ inl (same ∙ h) | inr h ↦ inr (same ∙ h) ];
}

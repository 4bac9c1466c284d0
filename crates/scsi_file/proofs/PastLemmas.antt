-- What a medium in memory had, after a write and after a crash.
use Rattle.std.proofs.Common.{◌≡◌, ◌⊎◌, ℕ, zero, suc, ◌+◌, ◌*◌, ◌-◌, ◌<◌, ◌≤◌, List, [], ◌∷◌, ◌++◌, length, take, drop, Vec, inl, inr, ⊎_elim, ap, ◌∙◌, sym}
use Rattle.std.proofs.Common.{refl, subst, arith, get_or}
use Rattle.std.proofs.lemmas.List.{length-take-le, length-drop}
use Rattle.std.specs.declared.alloc.Global.{Global}
use Rattle.std.proofs.lemmas.Bool.{cases_lt, lt-ltb, le-ltb}
use Rattle.scsi_disk.specs.Disk.{cut, overlaid}
use Rattle.scsi_file.specs.Past.{HadBeen, MayBe}

had_before : (past : List (Vec ℕ Global)) (v : Vec ℕ Global) (n : ℕ) (c : List ℕ) → HadBeen (past ++ v ∷ []) n c → HadBeen past n c ⊎ (c ≡ cut 512 v.items n)
had_before [] v n c (inl e) = inr e
had_before [] v n c (inr x) = absurd x
had_before (w ∷ past) v n c (inl e) = inl (inl e)
had_before (w ∷ past) v n c (inr x) = ⊎_elim (λ h. inl (inr h)) (λ h. inr h) (had_before past v n c x)

-- a write adds what it wrote
pub adds : (bytes now : List ℕ) (written : ℕ → List ℕ) (past new : List (Vec ℕ Global)) (v : Vec ℕ Global) → cut 512 now ≡ written
    → v.items ≡ bytes → new ≡ past ++ v ∷ []
    → (n : ℕ) (c : List ℕ) → MayBe now new n c → MayBe bytes past n c ⊎ (c ≡ written n)
adds bytes now written past new v is old more n c (inl e) = inr (e ∙ ap (λ (f : ℕ → List ℕ). f n) is)
adds bytes now written past new v is old more n c (inr had) =
    ⊎_elim (λ h. inl (inr h)) (λ e. inl (inl (e ∙ ap (λ (b : List ℕ). cut 512 b n) old)))
    (had_before past v n c (subst (λ (l : List (Vec ℕ Global)). HadBeen l n c) more had))

-- what is before, behind and in the place of a block that was put
before : (m n : ℕ) (block : List ℕ) (old : ℕ → List ℕ) → m < n → overlaid 512 n block old m ≡ old m
unfolding overlaid
before m n block old lt = rw (lt-ltb m n lt) refl

behind : (m n : ℕ) (block : List ℕ) (old : ℕ → List ℕ) → n ≤ m → length block ≤ 512 * (m - n) → overlaid 512 n block old m ≡ old m
unfolding overlaid
behind m n block old ge out = rw (le-ltb m n ge, le-ltb (512 * (m - n)) (length block) out) refl

inside : (m n : ℕ) (block : List ℕ) (old : ℕ → List ℕ) → m ≡ n → length block ≡ 512 → overlaid 512 n block old m ≡ take 512 block
unfolding overlaid cut
inside m n block old same whole =
    let ge : n ≤ m = omega arith in
    let at : 512 * (m - n) ≡ 0 = omega arith in
    let lt : 512 * (m - n) < length block = omega arith in
    rw (le-ltb m n ge, lt-ltb (512 * (m - n)) (length block) lt) (ap (λ k. take 512 (drop k block)) at)

take-take : (n : ℕ) (xs : List ℕ) → take n (take n xs) ≡ take n xs
take-take zero xs = refl
take-take (suc n) [] = refl
take-take (suc n) (x ∷ xs) = ap (λ l. x ∷ l) (take-take n xs)

as_cut : (n : ℕ) (bytes items : List ℕ) → bytes ≡ items → take 512 (drop (512 * n) bytes) ≡ cut 512 items n
unfolding cut
as_cut n bytes items same = ap (λ (l : List ℕ). take 512 (drop (512 * n) l)) same

-- a block of some bytes
pub taken_out : (bytes : List ℕ) (n : ℕ) → 512 * n + 512 ≤ length bytes → length (take (512 * n + 512 - 512 * n) (drop (512 * n) bytes)) ≡ 512
taken_out bytes n room =
    let size : 512 * n + 512 - 512 * n ≡ 512 = omega arith in
    let left : 512 ≤ length (drop (512 * n) bytes) = omega (arith, length-drop (512 * n) bytes) in
    ap (λ k. length (take k (drop (512 * n) bytes))) size ∙ length-take-le 512 (drop (512 * n) bytes) left

-- a content that there was has its blocks
pub was_there : (past : List (Vec ℕ Global)) (v d : Vec ℕ Global) (at n : ℕ) → at < length past → get_or past at d ≡ v → HadBeen past n (cut 512 v.items n)
was_there [] v d at n lt is = absurd (omega (arith, lt))
was_there (w ∷ past) v d zero n lt is = inl (ap (λ (u : Vec ℕ Global). cut 512 u.items n) (sym is))
was_there (w ∷ past) v d (suc at) n lt is = inr (was_there past v d at n (omega arith) is)

-- a block of a content that there was is one that there was
pub one_there : (past : List (Vec ℕ Global)) (v d : Vec ℕ Global) (bytes : List ℕ) (at n : ℕ) → at + 1 ≤ length past → get_or past at d ≡ v → bytes ≡ v.items
    → HadBeen past n (take 512 (take (512 * n + 512 - 512 * n) (drop (512 * n) bytes)))
one_there past v d bytes at n lt is same =
    let size : 512 * n + 512 - 512 * n ≡ 512 = omega arith in
    let cut_out : take 512 (take (512 * n + 512 - 512 * n) (drop (512 * n) bytes)) ≡ cut 512 v.items n =
    ap (λ k. take 512 (take k (drop (512 * n) bytes))) size ∙ take-take 512 (drop (512 * n) bytes) ∙ as_cut n bytes v.items same in
    subst (HadBeen past n) (sym cut_out) (was_there past v d at n (omega arith) is)

-- a block that was put in the place of another is one that there was
pub restored : (bytes now block : List ℕ) (past : List (Vec ℕ Global)) (n m : ℕ) → cut 512 now ≡ overlaid 512 n block (cut 512 bytes) → length block ≡ 512
    → HadBeen past n (take 512 block) → MayBe bytes past m (cut 512 now m)
restored bytes now block past n m is whole had =
    let at : cut 512 now m ≡ overlaid 512 n block (cut 512 bytes) m = ap (λ (f : ℕ → List ℕ). f m) is in
    elim (cases_lt m n) [
      | inl lt ↦ inl (at ∙ before m n block (cut 512 bytes) lt)
      | inr ge ↦ elim (cases_lt (512 * (m - n)) (length block)) [
        | inl lt ↦ let same : m ≡ n = omega arith in
            inr (subst (λ (k : ℕ). HadBeen past k (cut 512 now k)) (sym same)
            (subst (HadBeen past n) (sym (ap (cut 512 now) (sym same) ∙ at ∙ inside m n block (cut 512 bytes) same whole)) had))
        | inr past_it ↦ inl (at ∙ behind m n block (cut 512 bytes) ge past_it)
      ]
    ]

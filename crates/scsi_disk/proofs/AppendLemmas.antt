-- What stands behind a list.
use Rattle.std.proofs.Common.{◌≡◌, ℕ, ◌+◌, ◌-◌, ◌*◌, ◌/◌, ◌≤◌, List, ◌++◌, length, take, replicate, cond, Result, Ok, Err, OnOk, is_ok, sym, ap, ◌∙◌, arith}
use Rattle.std.proofs.Common.{append_assoc}
use Rattle.std.proofs.lemmas.List.{length-append, take_all, take_at}
use Rattle.scsi_disk.specs.Disk.{AppendsBytes, Disk, IsDisk, blocks_from}
use Rattle.scsi_disk.proofs.PlanLemmas.{joined-add, length-joined}

pub map_ok : {T E P Q : Type 0} (r : Result T E) → (P → Q) → OnOk r P → OnOk r Q
map_ok (Ok x) f p = f p
map_ok (Err e) f p = tt

pub extended : {T E : Type 0} (r : Result T E) (old new add more : List ℕ) → new ≡ cond (is_ok r) (old ++ add) old → add ≡ more → OnOk r (new ≡ old ++ more)
extended (Ok x) old new add more is same = is ∙ ap (λ (t : List ℕ). old ++ t) same
extended (Err e) old new add more is same = tt

pub resized : {T E : Type 0} (r : Result T E) (old new more : List ℕ) (n size k : ℕ) → n ≡ size + k → size ≡ length old
    → new ≡ cond (is_ok r) (take n old ++ replicate (n - size) 0) old → replicate k 0 ≡ more → OnOk r (new ≡ old ++ more)
resized (Ok x) old new more n size k sum long is same =
    let left : n - size ≡ k = omega arith in
    is ∙ ap (λ (t : List ℕ). t ++ replicate (n - size) 0) (take_all n old (omega arith))
    ∙ ap (λ (m : ℕ). old ++ replicate m 0) left ∙ ap (λ (t : List ℕ). old ++ t) same
resized (Err e) old new more n size k sum long is same = tt

pub appended : (disk : Disk) (first count : ℕ) (old new : List ℕ) → IsDisk disk → first + count ≤ disk.count → new ≡ old ++ blocks_from disk first count →
    AppendsBytes (512 * count) old new
appended disk first count old new is inside behind = record {
  bytes = blocks_from disk first count;
  size = length-joined 512 disk.block first count (λ n low high. is.inside n (omega arith));
  behind = behind;
}

pub appended_next : (disk : Disk) (first done count : ℕ) (old mid new : List ℕ) → mid ≡ old ++ blocks_from disk first done
    → new ≡ mid ++ blocks_from disk (first + done) count → new ≡ old ++ blocks_from disk first (done + count)
appended_next disk first done count old mid new is next =
    next ∙ ap (λ (t : List ℕ). t ++ blocks_from disk (first + done) count) is
    ∙ append_assoc old (blocks_from disk first done) (blocks_from disk (first + done) count)
    ∙ ap (λ (t : List ℕ). old ++ t) (sym (joined-add disk.block first done count))

pub front_of : (n : ℕ) (old new more rest : List ℕ) → n ≡ length old + length new → take n ((old ++ (new ++ more)) ++ rest) ≡ old ++ new
front_of n old new more rest long =
    let all : (old ++ (new ++ more)) ++ rest ≡ (old ++ new) ++ (more ++ rest) = simp append_assoc in
    ap (take n) all ∙ take_at (old ++ new) (more ++ rest) n (omega (arith, length-append old new))

-- blocks of 00 stood behind a list and were read over
pub filled : {T E : Type 0} (r : Result T E) (Same : Type 0) (disk : Disk) (first blocks start n len size : ℕ) (old grown new more rest : List ℕ)
    → len ≡ length old → start ≡ len → n ≡ start + 512 * blocks → grown ≡ take (start + 512 * blocks) old ++ replicate (start + 512 * blocks - len) 0
    → size ≡ 512 * blocks → length new ≡ size → OnOk r (Same → new ≡ blocks_from disk first (size / 512))
    → OnOk r (Same → take n ((take start grown ++ (new ++ more)) ++ rest) ≡ old ++ blocks_from disk first blocks)
filled r Same disk first blocks start n len size old grown new more rest is_len is_start is_n is_grown is_size long read =
    let front : take start grown ≡ old =
    ap (take start) (is_grown ∙ ap (λ (t : List ℕ). t ++ replicate (start + 512 * blocks - len) 0) (take_all (start + 512 * blocks) old (omega arith)))
    ∙ take_at old (replicate (start + 512 * blocks - len) 0) start (sym (is_start ∙ is_len)) in
    let count : size / 512 ≡ blocks = omega arith in
    let all : take n ((take start grown ++ (new ++ more)) ++ rest) ≡ old ++ new =
    ap (λ (t : List ℕ). take n ((t ++ (new ++ more)) ++ rest)) front ∙ front_of n old new more rest (omega arith) in
    map_ok r (λ (f : Same → new ≡ blocks_from disk first (size / 512)) same.
    all ∙ ap (λ (t : List ℕ). old ++ t) (f same ∙ ap (blocks_from disk first) count)) read

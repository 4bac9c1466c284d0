-- Bytes without an end of a line: behind one another, digits of hex and decimal.
use Rattle.std.proofs.Common.{◌≡◌, ℕ, zero, suc, ◌+◌, ◌^◌, ◌<◌, ◌≤◌, ◌/◌, ◌%◌, ◌==◌, not, true, List, [], ◌∷◌, ◌++◌, slice_index, Result, Ok, Err, refl, ap, arith}
use Rattle.std.specs.Fmt.{decimal}
use Rattle.std.specs.Prelude.{OnOk, OnErr}
use Rattle.std.specs.Cmp.Derive.{both_true}
use Rattle.std.proofs.lemmas.Bool.{and_parts}
use Rattle.std.proofs.lemmas.Fmt.{decimal_by_steps}
use Rattle.std.proofs.lemmas.Bool.{ne_eqb}
use Rattle.hex.specs.Hex.{encode_lower, encode_with, lower_digits}
use Rattle.iscsi_stream.specs.Shown.{has_no_end}

pub no_end-append : (a b : List ℕ) → has_no_end a ≡ true → has_no_end b ≡ true → has_no_end (a ++ b) ≡ true
no_end-append [] b p q = q
no_end-append (x ∷ a) b p q =
    let parts = and_parts (not (x == 10)) (has_no_end a) p in both_true parts.0 (no_end-append a b parts.1 q)

no_end-at : (t : List ℕ) (k : ℕ) → has_no_end t ≡ true → not (slice_index t k == 10) ≡ true
no_end-at [] k p = refl
no_end-at (x ∷ t) zero p = (and_parts (not (x == 10)) (has_no_end t) p).0
no_end-at (x ∷ t) (suc k) p = no_end-at t k (and_parts (not (x == 10)) (has_no_end t) p).1

encoded : (bytes : List ℕ) → has_no_end (encode_with lower_digits bytes) ≡ true
unfolding encode_with
encoded [] = refl
encoded (b ∷ bytes) =
    both_true (no_end-at lower_digits (b / 16) refl) (both_true (no_end-at lower_digits (b % 16) refl) (encoded bytes))

-- hex digits
pub no_end-hex : (bytes digits : List ℕ) → digits ≡ encode_lower bytes → has_no_end digits ≡ true
no_end-hex bytes digits is = rw is (encoded bytes)

above : (b : ℕ) → 48 ≤ b → not (b == 10) ≡ true
above b le = ap not (ne_eqb b 10 (omega (arith, le)))

-- a number in decimal
pub no_end-decimal : (n : ℕ) (text : List ℕ) → n < 2 ^ 64 → text ≡ decimal n → has_no_end text ≡ true
no_end-decimal n text lt is =
    rw is (decimal_by_steps (λ (m : ℕ) (ds : List ℕ). has_no_end ds ≡ true)
    (λ m l. both_true (above (48 + m) (omega arith)) refl)
    (λ m ds l h. no_end-append ds ((48 + m % 10) ∷ []) h (both_true (above (48 + m % 10) (omega arith)) refl)) n lt)

-- behind the bytes that there were, or not at all
pub kept : {E V : Type 0} (items : V → List ℕ) (result : Result (Unit {0}) E) (old new : V) (bytes : List ℕ)
    → OnOk result (items new ≡ items old ++ bytes) → OnErr result (new ≡ old)
    → has_no_end (items old) ≡ true → has_no_end bytes ≡ true → has_no_end (items new) ≡ true
kept items (Ok done) old new bytes ok err p q = rw ok (no_end-append (items old) bytes p q)
kept items (Err fault) old new bytes ok err p q = rw err p

-- What lines of outcomes are made of.
use Rattle.std.specs.Prelude.{◌==◌, ◌%◌, if◌then◌else◌, slice_index_or, codes}
use Rattle.std.proofs.Common.{◌≡◌, ◌<◌, ◌-◌, ◌^◌, ℕ, Bool, false, List, [], ◌++◌, take, length, min, Result, Ok, Err, IfOk, ap, sym, refl, ◌∙◌, append_assoc}
use Rattle.std.proofs.Common.{true}
use Rattle.std.specs.Fmt.{decimal, digits, padded_integral, format_spec}
use Rattle.std.proofs.Math.Nat.{min_comm}
use Rattle.std.proofs.lemmas.Fmt.{hex_byte}
use Rattle.std.proofs.lemmas.List.{take_min}
use Rattle.std.proofs.lemmas.Bool.{eqb-true}
use Rattle.hex.specs.Hex.{encode_lower}
use Rattle.iscsi_loop.specs.Reports.{good_report, check_report, two_digits}

pub as_two_digits : (byte : ℕ) → byte < 256 → padded_integral (format_spec 32 0 4 2 (2 ^ 64 - 1)) false [] (digits 16 false byte) ≡ two_digits byte
as_two_digits byte small = hex_byte false byte small

-- what is known of an Ok follows from what is known of it
pub ok_as : {A E : Type 0} (r : Result A E) (P Q : A → Type 0) → ((x : A) → P x → Q x) → IfOk r P → IfOk r Q
ok_as (Ok x) P Q f p = f x p
ok_as (Err e) P Q f p = tt

not_zero : (n : ℕ) → (n ≡ 0 → ⊥) → (n == 0) ≡ false
not_zero n other = go (n == 0) refl
  where
    go : (t : Bool) → (n == 0) ≡ t → (n == 0) ≡ false
    go true e = absurd (other (eqb-true n 0 e))
    go false e = e

pub good_is : (bytes shown : List ℕ) (n : ℕ) → (length bytes ≡ 0 → ⊥) → n ≡ min (length bytes) 16 → shown ≡ encode_lower (take n bytes)
    → codes "good " ++ (decimal (length bytes) ++ (codes " " ++ shown)) ≡ good_report bytes
good_is bytes shown n some least is =
    let first : take n bytes ≡ take 16 bytes = ap (λ (k : ℕ). take k bytes) (least ∙ min_comm (length bytes) 16) ∙ take_min 16 bytes in
    let all : shown ≡ encode_lower (take 16 bytes) = is ∙ ap encode_lower first in
    ap (λ (s : List ℕ). codes "good " ++ (decimal (length bytes) ++ (codes " " ++ s))) all
    ∙ ap (λ (s : List ℕ). codes "good " ++ s) (sym (append_assoc (decimal (length bytes)) (codes " ") (encode_lower (take 16 bytes))))
    ∙ sym (ap (λ (t : Bool). if t then codes "good 0" else codes "good " ++ decimal (length bytes) ++ codes " " ++ encode_lower (take 16 bytes))
    (not_zero (length bytes) some))

pub check_is : (sense key code qualifier : List ℕ) (k c q : ℕ) → k ≡ slice_index_or sense 2 0 → c ≡ slice_index_or sense 12 0 → q ≡ slice_index_or sense 13 0 →
    key ≡ digits 16 false (k % 16) → code ≡ two_digits c → qualifier ≡ two_digits q
    → codes "check " ++ (key ++ (codes "/" ++ (code ++ (codes "/" ++ qualifier)))) ≡ check_report sense
check_is sense key code qualifier k c q is_k is_c is_q is_key is_code is_qualifier =
    let d : List ℕ = digits 16 false (slice_index_or sense 2 0 % 16) in
    let a : List ℕ = two_digits (slice_index_or sense 12 0) in
    let b : List ℕ = two_digits (slice_index_or sense 13 0) in
    let parts : codes "check " ++ (key ++ (codes "/" ++ (code ++ (codes "/" ++ qualifier)))) ≡ codes "check "
    ++ (d ++ (codes "/" ++ (a ++ (codes "/" ++ b)))) = rw (is_code, is_qualifier, is_key, is_k, is_c, is_q) refl in
    parts ∙ ap (λ (s : List ℕ). codes "check " ++ s) (sym (append_assoc d (codes "/") (a ++ (codes "/" ++ b)))
    ∙ sym (append_assoc (d ++ codes "/") a (codes "/" ++ b)) ∙ sym (append_assoc (d ++ codes "/" ++ a) (codes "/") b))

-- The digits that a text has, and what they write.
use Rattle.std.proofs.Common.{◌≡◌, ℕ, zero, suc, ◌+◌, ◌*◌, ◌/◌, ◌%◌, ◌^◌, ◌<◌, ◌≤◌, false, List, [], ◌∷◌, ◌++◌, length, take, get_or, map, sym, ap, cond}
use Rattle.std.proofs.Common.{eq-eqb, ne_eqb, ◌∙◌, inl, inr, append_assoc, arith}
use Rattle.std.specs.Str.Parse.{AllDigits, digits_value, digits_value_after}
use Rattle.std.specs.Char.{digit_value}
use Rattle.std.specs.Fmt.{digits, digits_onto, digit_glyph}
use Rattle.std.specs.Int.Digits.{digits_of}
use Rattle.std.proofs.lemmas.Int.Digits.{digits_value_more, digits_of_step, length-digits_of-le}
use Rattle.std.proofs.Math.Nat.{div-eq_of_lt, mod-eq_of_lt, div-le_self, div-lt_iff_lt-mul, pow-zero, pow-suc, pow-le-pow_left}
use Rattle.std.proofs.lemmas.Nat.{le-div}
use Rattle.std.proofs.lemmas.Fmt.{digits_is_IsNumeral}
use Rattle.std.proofs.lemmas.List.{map_push, append-nil, length-map}
use Rattle.std.proofs.lemmas.Bool.{cases_lt}

-- each digit of digits is below the radix
pub digit_below : (radix : ℕ) (text : List ℕ) (i : ℕ) → AllDigits radix text → i < length text → digit_value (get_or text i 0) < radix
digit_below radix [] i all lt = omega arith
digit_below radix (c ∷ text) zero all lt = all.0
digit_below radix (c ∷ text) (suc i) all lt = digit_below radix text i all.1 (omega arith)

-- more digits write no smaller number
value_after_ge : (radix n : ℕ) (text : List ℕ) → 0 < radix → n ≤ digits_value_after radix n text
value_after_ge radix n [] some = omega arith
value_after_ge radix n (c ∷ text) some =
    let more = value_after_ge radix (n * radix + digit_value c) text some in
    let grows : n ≤ n * radix = product_ge n radix some in
    omega (arith, more, grows)
  where
    product_ge : (n radix : ℕ) → 0 < radix → n ≤ n * radix
    product_ge n radix some = grind arith

value_front : (radix n i : ℕ) (text : List ℕ) → 0 < radix → digits_value_after radix n (take i text) ≤ digits_value_after radix n text
value_front radix n zero text some = value_after_ge radix n text some
value_front radix n (suc i) [] some = omega arith
value_front radix n (suc i) (c ∷ text) some = value_front radix (n * radix + digit_value c) i text some

pub value_so_far : (radix : ℕ) (text : List ℕ) (i : ℕ) → 0 < radix → i < length text → digits_value radix (take i text) * radix + digit_value (get_or text i 0)
    ≤ digits_value radix text
value_so_far radix text i some lt = omega (arith, value_front radix 0 (i + 1) text some, digits_value_more radix text i lt)

-- the last digit placed, and one that is not the last
digits_onto_last : (base n k : ℕ) (acc : List ℕ) → n / base ≡ 0 → digits_onto (suc k) base false n acc ≡ digit_glyph false (n % base) ∷ acc
digits_onto_last base n k acc z = ap (λ b. cond b (digit_glyph false (n % base) ∷ acc)
    (digits_onto k base false (n / base) (digit_glyph false (n % base) ∷ acc))) (eq-eqb (n / base) 0 z)

digits_onto_step : (base n k : ℕ) (acc : List ℕ) → 0 < n / base → digits_onto (suc k) base false n acc
    ≡ digits_onto k base false (n / base) (digit_glyph false (n % base) ∷ acc)
digits_onto_step base n k acc some = ap (λ b. cond b (digit_glyph false (n % base) ∷ acc)
    (digits_onto k base false (n / base) (digit_glyph false (n % base) ∷ acc))) (ne_eqb (n / base) 0 (λ z. omega arith))

-- digits placed before acc are the digits of n
digits_before : (base k n : ℕ) (acc : List ℕ) → 2 ≤ base → 0 < n → n < base ^ k → digits_onto k base false n acc ≡ map (digit_glyph false) (digits_of base n)
    ++ acc
digits_before base zero n acc two some small = absurd (omega (arith, pow-zero base))
digits_before base (suc k) n acc two some small =
    let front = digits_of_step base n two some in
    let glyphs : map (digit_glyph false) (digits_of base n) ++ acc ≡ map (digit_glyph false) (digits_of base (n / base))
    ++ (digit_glyph false (n % base) ∷ acc) =
    ap (λ ds. map (digit_glyph false) ds ++ acc) front ∙ ap (λ x. x ++ acc) (map_push (digit_glyph false) (digits_of base (n / base)) (n % base))
    ∙ append_assoc _ _ acc in
    elim (cases_lt 0 (n / base)) [
      | inl more ↦
          digits_onto_step base n k acc more
          ∙ digits_before base k (n / base) (digit_glyph false (n % base) ∷ acc) two more (div_below base k n two small)
          ∙ sym glyphs
      | inr last ↦
          let z : n / base ≡ 0 = omega arith in
          digits_onto_last base n k acc z
          ∙ ap (λ (m : ℕ). map (digit_glyph false) (digits_of base m) ++ (digit_glyph false (n % base) ∷ acc)) (sym z)
          ∙ sym glyphs
    ]
  where
    div_below : (base k n : ℕ) → 2 ≤ base → n < base ^ (suc k) → n / base < base ^ k
    div_below base k n two small = let below : n < base ^ k * base = rw (← pow-suc base k) small in (div-lt_iff_lt-mul (omega arith)).1 below

-- what std prints of a number above 0, digit by digit
pub printed : (base n : ℕ) → 2 ≤ base → 0 < n → n < base ^ 64 → digits base false n ≡ map (digit_glyph false) (digits_of base n)
unfolding digits
printed base n two some small = digits_before base 64 n [] two some small ∙ append-nil _

-- a number below the base is one digit
pub printed_one : (base n : ℕ) → n < base → digits base false n ≡ digit_glyph false n ∷ []
unfolding digits
printed_one base n small = digits_onto_last base n 63 [] (div-eq_of_lt small) ∙ ap (λ d. digit_glyph false d ∷ []) (mod-eq_of_lt small)

-- a larger one is that of all but the last digit, and the last
pub printed_step : (base n : ℕ) → 2 ≤ base → base ≤ n → n < base ^ 64 → digits base false n ≡ digits base false (n / base) ++ digit_glyph false (n % base) ∷ []
printed_step base n two large small =
    let front : 0 < n / base = le-div 1 n base (omega arith) (omega arith) in
    let smaller : n / base ≤ n = div-le_self n base in
    printed base n two (omega arith) small
    ∙ ap (map (digit_glyph false)) (digits_of_step base n two (omega arith))
    ∙ map_push (digit_glyph false) (digits_of base (n / base)) (n % base)
    ∙ ap (λ ds. ds ++ digit_glyph false (n % base) ∷ []) (sym (printed base (n / base) two front (omega arith)))

-- a bound on how many digits there are
pub length-printed-le : (base k n : ℕ) → 2 ≤ base → 0 < k → n < base ^ k → n < base ^ 64 → length (digits base false n) ≤ k
length-printed-le base k n two some small fits = elim (cases_lt 0 n) [
  | inl above ↦ rw (printed base n two above fits) (omega (arith, length-map (digits_of base n) (digit_glyph false), length-digits_of-le base k n two small))
  | inr none ↦ rw (printed_one base n (omega arith)) (omega arith)
]

-- a number of 64 bits has at most 20 digits in any base from ten on
pub fits_base : (base n : ℕ) → 10 ≤ base → n < 2 ^ 64 → (n < base ^ 20) × (n < base ^ 64)
fits_base base n ten small =
    let short : 10 ^ 20 ≤ base ^ 20 = pow-le-pow_left ten 20 in
    let long : 10 ^ 64 ≤ base ^ 64 = pow-le-pow_left ten 64 in
    (omega arith, omega arith)

pub printed_some : (base n : ℕ) → 10 ≤ base → base ≤ 16 → n < 2 ^ 64 → 0 < length (digits base false n)
printed_some base n ten sixteen small = (digits_is_IsNumeral base false (omega arith) sixteen n (fits_base base n ten small).1).0.0

pub length_hexadecimal : (n : ℕ) → n < 2 ^ 64 → length (digits 16 false n) ≤ 16
length_hexadecimal n small = length-printed-le 16 16 n (omega arith) (omega arith) (omega arith) (fits_base 16 n (omega arith) small).1

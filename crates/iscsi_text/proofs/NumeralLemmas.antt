-- The canonical spelling of a number.
use Rattle.std.proofs.Common.{◌≡◌, ◌≢◌, ℕ, ◌<◌, ◌≤◌, ◌^◌, Bool, true, false, cond, List, [], ◌∷◌, length, refl, sym, ap, subst, ◌∙◌, ◌⊎◌, inl, inr, leb}
use Rattle.std.proofs.Common.{leb-true, leb-false, arith}
use Rattle.std.specs.Char.{digit_value}
use Rattle.std.specs.Fmt.{decimal}
use Rattle.std.specs.List.{AllByRecursion}
use Rattle.std.specs.Str.Parse.{AllDigits}
use Rattle.std.proofs.lemmas.Fmt.{digits_is_IsNumeral, decimal_is_IsNumeral, first_decimal, length-decimal-le}
use Rattle.std.proofs.lemmas.Int.Digits.{digits_value-lt}
use Rattle.std.proofs.lemmas.List.Elements.{All-from_recursion}
use Rattle.std.proofs.lemmas.Bool.{cases_lt}
use Rattle.iscsi_text.specs.Numeral.{IsDecimal, IsHexadecimal, SpellsNumber, hexadecimal, canonical_number}
use Rattle.iscsi_text.specs.Text.{HasNo}
use Rattle.iscsi_text.proofs.DigitLemmas.{length-printed-le, fits_base}

-- the canonical one is the shorter, whichever that is
pub canonical_is : (n : ℕ) → ((canonical_number n ≡ decimal n) × (length (decimal n) ≤ length (hexadecimal n)))
    ⊎ ((canonical_number n ≡ hexadecimal n) × (length (hexadecimal n) < length (decimal n)))
canonical_is n = by (leb (length (decimal n)) (length (hexadecimal n))) refl
  where
    by : (t : Bool) → leb (length (decimal n)) (length (hexadecimal n)) ≡ t → ((canonical_number n ≡ decimal n) × (length (decimal n) ≤ length (hexadecimal n)))
        ⊎ ((canonical_number n ≡ hexadecimal n) × (length (hexadecimal n) < length (decimal n)))
    by true e = inl (ap (λ b. cond b (decimal n) (hexadecimal n)) e, leb-true _ _ e)
    by false e = inr (ap (λ b. cond b (decimal n) (hexadecimal n)) e, leb-false _ _ e)

is_decimal : (n : ℕ) → n < 2 ^ 64 → IsDecimal (decimal n) n
is_decimal n small =
    let reads = decimal_is_IsNumeral n small in
    record {
      digits = reads.0;
      value = reads.1;
      no_leading_zero = λ long. elim (cases_lt 0 n) [
        | inl some ↦ omega (arith, first_decimal n some small)
        | inr none ↦ absurd (omega (arith, length-decimal-le 1 n (omega arith) (omega arith) small))
      ];
    }

-- it spells its number
pub canonical_spells : (n : ℕ) → n < 2 ^ 64 → SpellsNumber (canonical_number n) n
canonical_spells n small = record {
  fits = small;
  form = elim (canonical_is n) [
    | inl shorter ↦ inl (subst (λ text. IsDecimal text n) (sym shorter.0) (is_decimal n small))
    | inr shorter ↦
        let reads = digits_is_IsNumeral 16 false (omega arith) (omega arith) n (fits_base 16 n (omega arith) small).1 in
        inr (subst (λ text. IsHexadecimal text n) (sym shorter.0) (refl, inl refl, reads.0, reads.1))
  ];
}

-- no spelling is shorter
decimal_least : (text : List ℕ) (n : ℕ) → n < 2 ^ 64 → IsDecimal text n → length (decimal n) ≤ length text
decimal_least text n small spelled = length-printed-le 10 (length text) n (omega arith) spelled.digits.0
    (subst (λ m. m < 10 ^ length text) spelled.value (digits_value-lt 10 text spelled.digits.1)) (fits_base 10 n (omega arith) small).1

hexadecimal_least : (text : List ℕ) (n : ℕ) → n < 2 ^ 64 → IsHexadecimal text n → length (hexadecimal n) ≤ length text
hexadecimal_least [] n small spelled = absurd spelled
hexadecimal_least (z ∷ []) n small spelled = absurd spelled
hexadecimal_least (z ∷ x ∷ text) n small spelled = omega (
  arith,
  length-printed-le 16 (length text) n (omega arith) spelled.2.0
      (subst (λ m. m < 16 ^ length text) spelled.3 (digits_value-lt 16 text spelled.2.1)) (fits_base 16 n (omega arith) small).1,
)

pub canonical_least : (text : List ℕ) (n : ℕ) → SpellsNumber text n → length (canonical_number n) ≤ length text
canonical_least text n spelled = elim (canonical_is n) [
  | inl shorter ↦ rw shorter.0 (elim spelled.form [
    | inl d ↦ decimal_least text n spelled.fits d
    | inr h ↦ omega (
      arith,
      shorter.1,
      hexadecimal_least text n spelled.fits h,
    )
  ])
  | inr shorter ↦ rw shorter.0 (elim spelled.form [
    | inl d ↦ omega (
      arith,
      shorter.1,
      decimal_least text n spelled.fits d,
    )
    | inr h ↦ hexadecimal_least text n spelled.fits h
  ])
]

-- digits are no bytes 0
digits_no_zero : (radix : ℕ) (text : List ℕ) → radix ≤ 36 → AllDigits radix text → AllByRecursion (λ b. b ≢ 0) text
digits_no_zero radix [] small all = tt
digits_no_zero radix (c ∷ text) small all = (
  (λ z. let value : digit_value c ≡ 36 = ap digit_value z in omega (arith, all.0, value)),
  digits_no_zero radix text small all.1,
)

pub spelling_no_zero : (text : List ℕ) (n : ℕ) → SpellsNumber text n → HasNo 0 text
spelling_no_zero text n spelled = All-from_recursion (λ b. b ≢ 0) text (elim spelled.form
    [ inl d ↦ digits_no_zero 10 text (omega arith) d.digits.1 | inr h ↦ hex text h ])
  where
    hex : (text : List ℕ) → IsHexadecimal text n → AllByRecursion (λ b. b ≢ 0) text
    hex [] h = absurd h
    hex (z ∷ []) h = absurd h
    hex (z ∷ x ∷ text) h = ((λ e. omega arith), ((λ e. elim h.1 [ inl l ↦ omega arith | inr u ↦ omega arith ]), digits_no_zero 16 text (omega arith) h.2.1))

-- a text spells one number
one_hex : (text : List ℕ) (m n : ℕ) → IsHexadecimal text m → IsHexadecimal text n → m ≡ n
one_hex [] m n h k = absurd h
one_hex (z ∷ []) m n h k = absurd h
one_hex (z ∷ x ∷ text) m n h k = sym h.3 ∙ k.3

not_both : (text : List ℕ) (m n : ℕ) → IsDecimal text m → IsHexadecimal text n → ⊥
not_both [] m n d h = h
not_both (z ∷ []) m n d h = h
not_both (z ∷ x ∷ text) m n d h = d.no_leading_zero (omega arith) h.0

pub one_number : (text : List ℕ) (m n : ℕ) → SpellsNumber text m → SpellsNumber text n → m ≡ n
one_number text m n h k = elim h.form [
  | inl d ↦ elim k.form [ inl e ↦ sym d.value ∙ e.value | inr e ↦ absurd (not_both text m n d e) ]
  | inr d ↦ elim k.form [ inl e ↦ absurd (not_both text n m e d) | inr e ↦ one_hex text m n d e ]
]

-- Numerals: decimal without leading zeros, or hexadecimal behind `0x` or `0X` (RFC 7143, section
-- 6.1).
use Rattle.std.specs.Prelude.{false, ◌≡◌, ◌≢◌, ℕ, ◌^◌, ◌<◌, ◌⊎◌, List, [], ◌∷◌, length, slice_index, nat_le, if◌then◌else◌}
use Rattle.std.specs.Fmt.{digits, decimal}
use Rattle.std.specs.Str.Parse.{IsNumeral, digits_value}

-- The text is a decimal constant of n: `0`, or digits that begin with none (section 6.1).
pub record IsDecimal (text : List ℕ) (n : ℕ) : Type 0 where
  pub digits : IsNumeral 10 text
  pub value : digits_value 10 text ≡ n
  pub no_leading_zero : 1 < length text → slice_index text 0 ≢ 48

-- The text is a hexadecimal constant of n: `0x` or `0X`, and one digit or more of either case
-- (section 6.1).
abbrev pub IsHexadecimal : List ℕ → ℕ → Type 0
IsHexadecimal [] n = ⊥
IsHexadecimal (zero_digit ∷ []) n = ⊥
IsHexadecimal (zero_digit ∷ x ∷ text) n = (zero_digit ≡ 48) × ((x ≡ 120) ⊎ (x ≡ 88))
    × IsNumeral 16 text × (digits_value 16 text ≡ n)

-- The text is a numerical value, an unsigned integer of at most 64 bits, and writes n (section
-- 6.1).
pub record SpellsNumber (text : List ℕ) (n : ℕ) : Type 0 where
  pub fits : n < 2 ^ 64
  pub form : IsDecimal text n ⊎ IsHexadecimal text n

-- `0x` and the least lower-case digits (section 6.1).
abbrev pub hexadecimal : ℕ → List ℕ
hexadecimal n = 48 ∷ 120 ∷ digits 16 false n

-- The canonical numeral, own rule of section 6.1: the shorter of the two, and the decimal on a tie.
abbrev pub canonical_number : ℕ → List ℕ
canonical_number n = if nat_le (length (decimal n)) (length (hexadecimal n)) then decimal n
    else hexadecimal n

-- Large binary values (RFC 7143, section 6.1).
use Rattle.std.specs.Prelude.{ℕ, ◌%◌, ◌==◌, ◌&&◌, ◌||◌, if◌then◌else◌, List, [], ◌∷◌, length, Option, None}
use Rattle.std.specs.Result.{result_ok}
use Rattle.hex.specs.Hex.{encode_lower, decode_of}
use Rattle.base64.specs.GeneralPurpose as base64
use Rattle.base64.specs.Engines.{standard}

-- An odd number of hex digits has a 0 before it: n digits write (n + 1) / 2 bytes (section 6.1).
abbrev pub made_even : List ℕ → List ℕ
made_even digits = if length digits % 2 == 1 then 48 ∷ digits else digits

-- The bytes that hex digits of either case write, of which there is one or more (section 6.1).
abbrev pub hex_binary : List ℕ → Option (List ℕ)
hex_binary [] = None
hex_binary (digit ∷ digits) = result_ok (decode_of (made_even (digit ∷ digits)))

-- The bytes that base64 writes, with its padding, of which there is some (section 6.1; RFC 4648).
abbrev pub base64_binary : List ℕ → Option (List ℕ)
base64_binary [] = None
base64_binary (symbol ∷ symbols) = result_ok (base64.decode_of standard (symbol ∷ symbols))

-- The bytes that a value writes behind `0x`, `0X`, `0b` or `0B`; a decimal writes none (section
-- 6.1).
abbrev pub binary_of : List ℕ → Option (List ℕ)
binary_of (zero_digit ∷ base ∷ rest) =
    if zero_digit == 48 && (base == 120 || base == 88) then hex_binary rest
    else if zero_digit == 48 && (base == 98 || base == 66) then base64_binary rest
    else None
binary_of _ = None

-- The value that is written for some bytes: `0x` and lower-case digits (section 6.1; the choice is
-- own rule).
abbrev pub binary_text : List ℕ → List ℕ
binary_text bytes = 48 ∷ 120 ∷ encode_lower bytes

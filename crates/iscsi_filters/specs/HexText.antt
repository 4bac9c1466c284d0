-- Bytes as hex text: pairs of hex digits, with blanks, line ends and carriage returns anywhere (own
-- rule).
use Rattle.std.specs.Prelude.{◌≡◌, ◌≤◌, ◌<◌, ℕ, Bool, ◌==◌, ◌||◌, ◌⊎◌, not, List, [], ◌∷◌, ◌++◌, length, filter, Option, Ok, Err}
use Rattle.std.specs.Io.KnownBytes.{IsAtEnd}
use Rattle.hex.specs.Hex.{decode_of, encode_lower}
use Rattle.hex.specs.declared.error.FromHexError.{FromHexError}
use Rattle.iscsi_stream.specs.declared.fault.ToolFault.{ToolFault}
use Rattle.iscsi_stream.specs.declared.fault.ToolFault.TheVariants as tool

-- A byte that is not dropped.
abbrev pub is_kept : ℕ → Bool
is_kept b = not ((b == 0x20) || (b == 0x0a) || (b == 0x0d))

-- The text without what is dropped.
abbrev pub kept : List ℕ → List ℕ
kept text = filter is_kept text

-- Lower hex and a line end.
abbrev pub hex_line : List ℕ → List ℕ
hex_line bytes = encode_lower bytes ++ 0x0a ∷ []

-- The most bytes of a text, those that are dropped included.
abbrev pub longest_hex_text : ℕ
longest_hex_text = 1048576

-- The text is hex and means these bytes.
pub record BytesOf (text bytes : List ℕ) : Type 0 where
  pub within : length text ≤ longest_hex_text
  pub means : decode_of (kept text) ≡ Ok bytes

-- The text is over the limit, or no pairs of hex digits.
abbrev pub IsNotHex : List ℕ → Type 0
IsNotHex text =
    (longest_hex_text < length text) ⊎ ((e : FromHexError) × (decode_of (kept text) ≡ Err e))

-- When reading bytes from hex text answers each fault.
abbrev pub HexTextFails : ToolFault → List ℕ → Type 0
HexTextFails tool.NoMemory read = Unit {0}
HexTextFails (tool.Stream fault) read = ⊥
HexTextFails (tool.Text fault) read = ⊥
HexTextFails tool.TextTooLong read = ⊥
HexTextFails tool.Read read = Unit {0}
HexTextFails tool.Write read = ⊥
HexTextFails tool.NotHex read = IsNotHex read
HexTextFails (tool.Protocol rule) read = ⊥

-- A text is called no hex once it was read to its end, or past the limit.
abbrev pub IsReadToFault : ToolFault → List ℕ → Option (List ℕ) → Type 0
IsReadToFault tool.NotHex read left = (longest_hex_text < length read) ⊎ IsAtEnd left
IsReadToFault _ read left = Unit {0}

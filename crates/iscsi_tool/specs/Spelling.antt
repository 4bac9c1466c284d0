-- What a writer holds that spells bytes as lower-case hex digits.
use Rattle.std.specs.Prelude.{ℕ, ◌+◌, ◌-◌, Bool, true, false, length, take, List, [], ◌∷◌, Option, Some, None, Result, Ok, Err, if◌then◌else◌}
use Rattle.std.specs.Option.{option_map}
use Rattle.std.specs.Str.{bytes_eq}
use Rattle.hex.specs.Hex.{decode_of, encode_lower}
use Rattle.hex.specs.declared.error.FromHexError.{FromHexError}
use Rattle.iscsi_tool.specs.declared.hex_writer.HexWriter.{HexWriter}
use Rattle.iscsi_tool.specs.declared.hex_writer.LentWriter.{LentWriter}

-- These bytes, if the text is their lower-case digits.
abbrev pub if_spelled : List ℕ → Result (List ℕ) FromHexError → Option (List ℕ)
if_spelled text (Ok bytes) = if bytes_eq (encode_lower bytes) text then Some bytes else None
if_spelled text (Err e) = None

-- The bytes whose lower-case digits the text is, if it is such.
abbrev pub spelled_by : List ℕ → Option (List ℕ)
spelled_by text = if_spelled text (decode_of text)

-- The bytes that a text spells, or else its first character, marked, and what the others stand for.
abbrev pub marked_from : ℕ → List ℕ → Option (List ℕ) → List ℕ
marked_from c others (Some bytes) = bytes
marked_from c others None = (256 + c) ∷ others

-- The longest tail of digits as the bytes that it spells, and 256 added to each character before
-- it.
unfoldable pub marked_digits : List ℕ → List ℕ
marked_digits [] = []
marked_digits (c ∷ text) = marked_from c (marked_digits text) (spelled_by (c ∷ text))

-- A text without its last character.
abbrev pub without_last : List ℕ → List ℕ
without_last text = take (length text - 1) text

-- The digits but for the last one, where it is the first of a byte.
abbrev pub whole_digits : Bool → Option (List ℕ) → Option (List ℕ)
whole_digits true text = option_map without_last text
whole_digits false text = text

-- What a writer of digits holds: what the writer behind it holds, the digits at its end as the
-- bytes that they spell.
abbrev pub hex_contents : {W : Type 0} → (W → Option (List ℕ)) → HexWriter W → Option (List ℕ)
hex_contents contents h = option_map marked_digits (whole_digits h.is_cut (contents h.inner))

-- What a lent writer holds: the name of its loan, and what the writer behind it holds.
abbrev pub lent_contents : {W : Type 0} → (W → Option (List ℕ)) → LentWriter W → Option (List ℕ)
lent_contents contents l = option_map (λ c. l.writer.ghost_name ∷ c) (contents l.writer.now)

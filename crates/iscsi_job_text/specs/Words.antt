-- The words of a line of a job, and the numbers, bytes and places that they mean (own rules).
use Rattle.std.specs.Prelude.{◌≡◌, ℕ, ◌+◌, ◌-◌, ◌*◌, ◌^◌, ◌==◌, ◌&&◌, ◌||◌, nat_le, nat_lt, Bool, true, false, if◌then◌else◌, List, [], ◌∷◌, ◌++◌, length, replicate, Option, Some, None, option_map, option_and_then, Result, Ok, Err, codes}
use Rattle.std.specs.Int.{w64, from_be_bytes}
use Rattle.std.specs.Char.{is_ascii_digit}
use Rattle.std.specs.Str.{bytes_eq}
use Rattle.hex.specs.Hex.{decode_of, decode_sized}
use Rattle.hex.specs.declared.error.FromHexError.{FromHexError}
use Rattle.iscsi_job_text.specs.declared.entry.Stored.{Stored}

-- ---- the words of a line

-- What stands before the first such byte; all, if there is none.
abbrev pub before : ℕ → List ℕ → List ℕ
before byte [] = []
before byte (b ∷ bs) = if b == byte then [] else b ∷ before byte bs

-- What stands behind the first such byte; nothing, if there is none.
abbrev pub behind : ℕ → List ℕ → List ℕ
behind byte [] = []
behind byte (b ∷ bs) = if b == byte then bs else behind byte bs

-- A byte in front of the first piece.
abbrev pub in_front : ℕ → List (List ℕ) → List (List ℕ)
in_front b [] = (b ∷ []) ∷ []
in_front b (piece ∷ pieces) = (b ∷ piece) ∷ pieces

-- The pieces between the blanks, of which some may be empty.
abbrev pub pieces : List ℕ → List (List ℕ)
pieces [] = [] ∷ []
pieces (b ∷ bs) = if b == 0x20 then [] ∷ pieces bs else in_front b (pieces bs)

-- The pieces that are not empty.
abbrev pub not_empty : List (List ℕ) → List (List ℕ)
not_empty [] = []
not_empty ([] ∷ pieces) = not_empty pieces
not_empty ((b ∷ bs) ∷ pieces) = (b ∷ bs) ∷ not_empty pieces

-- The words of a text: its pieces that are not empty.
unfoldable pub words_between : List ℕ → List (List ℕ)
words_between text = not_empty (pieces text)

-- The words of a line: those before its first `#`.
abbrev pub line_words : List ℕ → List (List ℕ)
line_words line = words_between (before 0x23 line)

-- ---- reading words, one after another

-- What the words at the front of some mean, and the words behind them; nothing, if they mean nothing.
abbrev pub Reading : Type 0 → Type 0
Reading A = List (List ℕ) → Option (A × List (List ℕ))

-- The next step, if the one before gave a value.
abbrev pub go_on : {A B : Type 0} → Option (A × List (List ℕ)) → (A → Reading B) → Option (B × List (List ℕ))
go_on None next = None
go_on (Some got) next = next got.0 got.1

-- One step, and then the one that its value asks for.
infixl 10 ◌>>=◌
abbrev pub ◌>>=◌ : {A B : Type 0} → Reading A → (A → Reading B) → Reading B
(first >>= next) words = go_on (first words) next

-- This, and no word is taken.
abbrev pub means : {A : Type 0} → A → Reading A
means value words = Some (value, words)

-- A value and the words behind it, if there is a value.
abbrev pub with_rest : {A : Type 0} → List (List ℕ) → Option A → Option (A × List (List ℕ))
with_rest words None = None
with_rest words (Some value) = Some (value, words)

-- The next word, which has to mean something.
abbrev pub word_as : {A : Type 0} → (List ℕ → Option A) → Reading A
word_as meaning [] = None
word_as meaning (word ∷ words) = with_rest words (meaning word)

-- This is the next word.
abbrev pub is_next : List ℕ → List (List ℕ) → Bool
is_next word [] = false
is_next word (next ∷ words) = bytes_eq next word

-- No word is left.
abbrev pub is_all_taken : List (List ℕ) → Bool
is_all_taken [] = true
is_all_taken (next ∷ words) = false

-- All words but the next one.
abbrev pub words_behind : List (List ℕ) → List (List ℕ)
words_behind [] = []
words_behind (next ∷ words) = words

-- What is left once this word is taken, if it is the next one.
abbrev pub without_next : List ℕ → List (List ℕ) → List (List ℕ)
without_next word words = if is_next word words then words_behind words else words

-- What stands behind this word, if it is the next one, and else something else.
abbrev pub if_next : {A : Type 0} → List ℕ → Reading A → Reading A → Reading A
if_next word found else_read words =
    if is_next word words then found (words_behind words) else else_read words

-- No word is left.
abbrev pub at_end : Reading (Unit {0})
at_end [] = Some (tt, [])
at_end (word ∷ words) = None

-- ---- numbers

-- The number that decimal digits make behind those of n, if it is at most this.
abbrev pub digits_behind : ℕ → ℕ → List ℕ → Option ℕ
digits_behind most n [] = Some n
digits_behind most n (c ∷ digits) =
    if is_ascii_digit c && nat_le (n * 10 + (c - 48)) most
    then digits_behind most (n * 10 + (c - 48)) digits
    else None

-- The number that one decimal digit or more make, if it is at most this.
abbrev pub digits_number : ℕ → List ℕ → Option ℕ
digits_number most [] = None
digits_number most (c ∷ digits) = digits_behind most 0 (c ∷ digits)

-- A decimal number that is at most this.
abbrev pub number : ℕ → Reading ℕ
number most = word_as (digits_number most)

-- There is one.
abbrev pub some : {A : Type 0} → Reading A → Reading (Option A)
some step = do
  value ← step
  means (Some value)

-- Something behind this word, if that is the next one.
abbrev pub optional : {A : Type 0} → List ℕ → Reading A → Reading (Option A)
optional word step = if_next word (some step) (means None)

-- ---- bytes

-- A value in place of a result.
abbrev pub ok_of : {A : Type 0} → Result A FromHexError → Option A
ok_of (Ok value) = Some value
ok_of (Err fault) = None

-- The bytes that pairs of hex digits mean.
abbrev pub hex_bytes : List ℕ → Option (List ℕ)
hex_bytes word = ok_of (decode_of word)

-- The bytes that so many pairs of hex digits mean.
abbrev pub hex_sized : ℕ → List ℕ → Option (List ℕ)
hex_sized size word = ok_of (decode_sized word size)

-- The byte, where there is one alone.
abbrev pub only_byte : Result (List ℕ) FromHexError → Option ℕ
only_byte (Ok (byte ∷ [])) = Some byte
only_byte _ = None

-- The byte that two hex digits mean.
abbrev pub hex_byte : List ℕ → Option ℕ
hex_byte word = only_byte (decode_sized word 1)

-- A byte in hex.
abbrev pub byte : Reading ℕ
byte = word_as hex_byte

-- Bytes in hex.
abbrev pub bytes : Reading (List ℕ)
bytes = word_as hex_bytes

-- Bytes in hex behind this word, if that is the next one; else there are none.
abbrev pub hex_behind : List ℕ → Reading (List ℕ)
hex_behind word = if_next word bytes (means [])

-- ---- data

-- Bytes, or where they stand in the file of data.
pub record Data : Type 0 where
  pub bytes : List ℕ
  pub stored : Option Stored

-- No bytes.
abbrev pub no_data : Data
no_data = record { bytes = []; stored = None }

-- How many bytes they are, if the text has not those that stand in the file.
abbrev pub length_by : List ℕ → Option Stored → ℕ
length_by shown None = length shown
length_by shown (Some place) = place.length

-- How many bytes they are.
abbrev pub data_length : Data → ℕ
data_length it = length_by it.bytes it.stored

-- `OFFSET LENGTH HASH`: where data stand, how many bytes they are, and their hash of 32 bytes.
abbrev pub stored : Reading Stored
stored = do
  offset ← number 18446744073709551615
  size ← number 4294967295
  hash ← word_as (hex_sized 32)
  means (record { offset = offset; length = size; hash = hash })

-- Data that stand in the file.
abbrev pub data_at : Reading Data
data_at = do
  place ← stored
  means (record { bytes = []; stored = Some place })

-- Data that stand here.
abbrev pub data_here : Reading Data
data_here = do
  shown ← bytes
  means (record { bytes = shown; stored = None })

-- Bytes in hex, or `at` and where they stand.
abbrev pub some_data : Reading Data
some_data = if_next (codes "at") data_at data_here

-- Data behind this word, if that is the next one; else there are none.
abbrev pub data_behind : List ℕ → Reading Data
data_behind word = if_next word some_data (means no_data)

-- Data, unless no word is left, or this is the next one.
abbrev pub data_before : List ℕ → Reading Data
data_before word words =
    if is_all_taken words || is_next word words then Some (no_data, words) else some_data words

-- ---- units and blocks

-- The LUN of 16 hex digits, or that of a unit with a number below 256, which is byte 1 of it (SAM-5,
-- section 4.7).
abbrev pub lun_of : List ℕ → Option ℕ
lun_of word =
    if length word == 16 then option_map (from_be_bytes w64) (hex_sized 8 word)
    else option_map (λ unit. unit * 2 ^ 48) (digits_number 255 word)

-- The descriptor block that begins with these bytes, if they are 1 to 16; the others are 0.
abbrev pub block_of : List ℕ → Option (List ℕ)
block_of front =
    if nat_lt 0 (length front) && nat_le (length front) 16
    then Some (front ++ replicate (16 - length front) 0)
    else None

-- The descriptor block of a word in hex.
abbrev pub block_word : List ℕ → Option (List ℕ)
block_word word = option_and_then block_of (hex_bytes word)

-- ---- words of this crate's own functions

-- It is empty, or begins with no blank.
abbrev pub StartsWord : List ℕ → Type 0
StartsWord [] = Unit {0}
StartsWord (b ∷ bs) = b ≡ 0x20 → ⊥

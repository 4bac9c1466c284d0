-- What a row of a field table says of bytes, of a value, and of the canonical bytes.
-- Bytes are numbered from 0 and numbers have their highest byte first (RFC 7143, section 11.1;
-- SPC-4).
use Rattle.std.specs.Prelude.{◌≡◌, ℕ, ◌+◌, ◌-◌, ◌*◌, ◌/◌, ◌^◌, ◌<◌, ◌≤◌, Bool, true, not, ◌==◌, if◌then◌else◌, bit_and, bit_or, List, [], ◌∷◌, ◌++◌, length, take, drop, slice_index, slice_range, slice_set, Option, Some, None, IfSome, is_some}
use Rattle.std.specs.Bool.{then_some}
use Rattle.std.specs.List.{AllByRecursion}
use Rattle.byteorder.specs.Endian.{big_from, big_bytes}

-- ---- what stands at a place

-- the lowest bit of a mask
abbrev pub unit : ℕ → ℕ
unit mask = bit_and mask (256 - mask)

-- the bits of a mask, moved down to bit 0
abbrev pub masked : ℕ → ℕ → ℕ
masked mask byte = bit_and byte mask / unit mask

-- the bit of a mask is set in byte at
unfoldable pub is_set : ℕ → ℕ → List ℕ → Bool
is_set at mask b = not (bit_and (slice_index b at) mask == 0)

-- the number in the bits of a mask in byte at
unfoldable pub bits_at : ℕ → ℕ → List ℕ → ℕ
bits_at at mask b = masked mask (slice_index b at)

-- the number in the bytes from first to last, the highest first
unfoldable pub number_at : ℕ → ℕ → List ℕ → ℕ
number_at first last b = big_from first (last + 1 - first) b

-- the bytes from first to last
unfoldable pub part : ℕ → ℕ → List ℕ → List ℕ
part first last b = slice_range b first (last + 1)

-- ---- what is written at a place

-- a byte in which the bits of a mask are those of y
abbrev pub with_bits : ℕ → ℕ → ℕ → ℕ
with_bits mask y byte = bit_or (bit_and byte (255 - mask)) y

-- the bytes in which the bits of a mask of byte at are those of y
abbrev pub put_bits : ℕ → ℕ → ℕ → List ℕ → List ℕ
put_bits at mask y b = slice_set b at (with_bits mask y (slice_index b at))

-- the bytes in which those from at on are xs
abbrev pub put_part : ℕ → List ℕ → List ℕ → List ℕ
put_part at xs b = take at b ++ xs ++ drop (at + length xs) b

-- ---- rows

-- A field: whether the table wants it, and the value that it has.
pub record Cell (A : Type 0) : Type 0 where
  pub wanted : Bool
  pub value : Option A

-- a field that is always there
abbrev pub always : {A : Type 0} → A → Cell A
always x = record { wanted = true; value = Some x }

-- a field with a condition
abbrev pub only_if : {A : Type 0} → Bool → Option A → Cell A
only_if test x = record { wanted = test; value = x }

-- A row of a field table: a place, and the field that stands there. `bit` is a flag at a byte and
-- mask, and `bits` a number at a byte and mask. `bytes` is a number from the first byte to the
-- last, and `raw` those bytes as they are.
pub data Row : Type 0 where
  bit : ℕ → ℕ → Cell Bool → Row
  bits : ℕ → ℕ → Cell ℕ → Row
  bytes : ℕ → ℕ → Cell ℕ → Row
  raw : ℕ → ℕ → Cell (List ℕ) → Row

-- The field is what the bytes have at its place, and has no value where the table does not want it.
abbrev pub RowHolds : List ℕ → Row → Type 0
RowHolds b (bit at mask field) = field.value ≡ then_some field.wanted (is_set at mask b)
RowHolds b (bits at mask field) = field.value ≡ then_some field.wanted (bits_at at mask b)
RowHolds b (bytes first last field) = field.value ≡ then_some field.wanted (number_at first last b)
RowHolds b (raw first last field) = field.value ≡ then_some field.wanted (part first last b)

-- Each row of the table holds in the bytes.
abbrev pub RowsHold : List ℕ → List Row → Type 0
RowsHold b rows = AllByRecursion (RowHolds b) rows

-- The field has a value exactly where the table wants it, and the value satisfies P.
abbrev pub IsThere : {A : Type 0} → Cell A → (A → Type 0) → Type 0
IsThere field P = (is_some field.value ≡ field.wanted) × IfSome field.value P

-- What a writer asks: the field has a value exactly where the table wants it, and its mask has room
-- for it.
abbrev pub IsFilled : Row → Type 0
IsFilled (bit at mask field) = is_some field.value ≡ field.wanted
IsFilled (bits at mask field) = IsThere field (λ n. n ≤ mask / unit mask)
IsFilled (bytes first last field) = is_some field.value ≡ field.wanted
IsFilled (raw first last field) = is_some field.value ≡ field.wanted

-- Each row of the table is filled.
abbrev pub AreFilled : List Row → Type 0
AreFilled rows = AllByRecursion IsFilled rows

-- The same, and whole bytes have room for the value too, as they do for each value of the field's
-- type.
abbrev pub HasRoom : Row → Type 0
HasRoom (bit at mask field) = is_some field.value ≡ field.wanted
HasRoom (bits at mask field) = IsThere field (λ n. n ≤ mask / unit mask)
HasRoom (bytes first last field) = IsThere field (λ n. n < 256 ^ (last + 1 - first))
HasRoom (raw first last field) = IsThere field (λ xs. length xs ≡ last + 1 - first)

-- Each row of the table has room.
abbrev pub HaveRoom : List Row → Type 0
HaveRoom rows = AllByRecursion HasRoom rows

-- the bytes with a flag written at its place, where there is one
unfoldable pub put_bit : ℕ → ℕ → Option Bool → List ℕ → List ℕ
put_bit at mask None b = b
put_bit at mask (Some x) b = put_bits at mask (if x then mask else 0) b

-- the bytes with a number written in the bits of a mask, where there is one
unfoldable pub put_number : ℕ → ℕ → Option ℕ → List ℕ → List ℕ
put_number at mask None b = b
put_number at mask (Some n) b = put_bits at mask (n * unit mask) b

-- the bytes with a number written in those from first to last, where there is one
unfoldable pub put_bytes : ℕ → ℕ → Option ℕ → List ℕ → List ℕ
put_bytes first last None b = b
put_bytes first last (Some n) b = put_part first (big_bytes (last + 1 - first) n) b

-- the bytes with others written as they are from first on, where there are some
unfoldable pub put_raw : ℕ → Option (List ℕ) → List ℕ → List ℕ
put_raw first None b = b
put_raw first (Some xs) b = put_part first xs b

-- the bytes with the field of a row written at its place
abbrev pub put : Row → List ℕ → List ℕ
put (bit at mask field) b = put_bit at mask field.value b
put (bits at mask field) b = put_number at mask field.value b
put (bytes first last field) b = put_bytes first last field.value b
put (raw first last field) b = put_raw first field.value b

-- the bytes with each field written, one after the other
abbrev pub put_all : List Row → List ℕ → List ℕ
put_all [] b = b
put_all (row ∷ rows) b = put_all rows (put row b)

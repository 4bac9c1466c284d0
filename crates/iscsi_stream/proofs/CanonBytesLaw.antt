-- The canonical stream of a stream of bytes is of bytes.
use Rattle.std.proofs.Common.{◌≡◌, ℕ, ◌+◌, ◌-◌, ◌*◌, ◌/◌, ◌^◌, ◌<◌, ◌≤◌, Bool, true, false, ltb, zero, suc, List, [], ◌∷◌, ◌++◌, length, get_or, take, drop}
use Rattle.std.proofs.Common.{replicate, Option, Some, None, refl, sym, subst, ◌∙◌, arith, rules, inl, inr, append-nil}
use Rattle.std.specs.Prelude.{not, ◌&&◌, IfSome, bit_and}
use Rattle.std.specs.Bool.{then_some}
use Rattle.std.specs.Char.{digit_value}
use Rattle.std.specs.Int.{bytes_high_first, byte_at}
use Rattle.std.specs.List.{AllByRecursion, flat_map}
use Rattle.std.proofs.lemmas.Bool.{cases_lt, cases_eq, ltb-true, le-ltb}
use Rattle.std.proofs.lemmas.Nat.{or_lt, and_le_l}
use Rattle.std.proofs.Math.Nat.{div-mul-le_self, mul-le-mul_right}
use Rattle.std.proofs.lemmas.List.{get_or_past, get_or-drop, get_or-set_same, get_or-set_other, length-set}
use Rattle.std.proofs.lemmas.List.Concat.{flat_map-cons}
use Rattle.std.specs.Str.Parse.{AllDigits}
use Rattle.std.proofs.Math.Nat.{mod-lt}
use Rattle.scsi_cdb.specs.Layout.{Row, RowsHold, RowHolds, HasRoom, HaveRoom, put, put_all, put_bits, put_part, put_bit, put_number, put_bytes, put_raw, part, unit}
use Rattle.scsi_cdb.specs.Layout.{with_bits}
use Rattle.scsi_cdb.specs.Layout.Row.{bit, bits, bytes as number, raw}
use Rattle.scsi_cdb.specs.Blocks as cdb
use Rattle.scsi_cdb.specs.declared.cdb.Cdb.{Cdb}
use Rattle.scsi_cdb.specs.declared.cdb.Cdb.TheVariants.{Unknown}
use Rattle.scsi_cdb.proofs.RecordLemmas.{IsRecord-room}
use Rattle.iscsi_text.specs.declared.key.KeyKind.{KeyKind}
use Rattle.iscsi_text.specs.declared.key.KeyKind.TheVariants as kinds
use Rattle.iscsi_text.specs.Key.{kind_of}
use Rattle.iscsi_text.specs.Numeral.{SpellsNumber, IsHexadecimal, canonical_number}
use Rattle.iscsi_text.specs.Value.{Typed, Number, Boolean, Items, Plain, Odd, value_text}
use Rattle.iscsi_text.specs.Value as texts
use Rattle.iscsi_text.specs.Text.{Pairs, Field, IsField, IsTextEntry, entry_bytes, pairs_of, TextMeans}
use Rattle.iscsi_text.specs.Canonical.{pair_text, canonical_text}
use Rattle.iscsi_text.specs.Reading.{text_in, in_order}
use Rattle.iscsi_text.proofs.NumeralLemmas.{canonical_spells}
use Rattle.iscsi_text.proofs.OrderLemmas.{all_in_order, arranged_is}
use Rattle.iscsi_text.proofs.ReadingLemmas.{read_means}
use Rattle.iscsi_pdu.specs.declared.head.Head.{Head}
use Rattle.iscsi_pdu.specs.declared.head.Head.TheVariants.{NopOut, ScsiCommand}
use Rattle.iscsi_pdu.specs.Meaning.{AreBytes, opcode, rows, ones, blocks, frame, header, padding, whole, HasBlock, IsHeader, Means}
use Rattle.iscsi_pdu.proofs.HeaderLemmas.{IsHeader-room, IsHeader-short, put_all-append, ones-room, opcode-small}
use Rattle.iscsi_stream.specs.declared.logins.Logins.{Logins}
use Rattle.iscsi_stream.specs.Segment.{Segment, continues, logins_after, is_last_login_pdu, text_or_bytes, segment_if, segment_of, segment_bytes}
use Rattle.iscsi_stream.specs.Stream.{Message, ReadsAs}
use Rattle.iscsi_stream.specs.Canonical.{canon, canonical_bytes}
use Rattle.iscsi_stream.proofs.HeadLemmas.{AreBytes-take, means-data}
use Rattle.iscsi_stream.proofs.OneMeaningLaw.{AreBytes-front, AreBytes-back, segment-shorter}
use Rattle.iscsi_stream.proofs.NormalisingLemmas.{AreBytes-append}
use Rattle.iscsi_stream.proofs.ReadyLemmas.{both_true}

-- ---- rows of a table

-- the mask is one of a byte
abbrev is_narrow : Row → Bool
is_narrow (bit at mask field) = ltb mask 256
is_narrow (bits at mask field) = ltb mask 256
is_narrow (number first last field) = true
is_narrow (raw first last field) = true

abbrev pub are_narrow : List Row → Bool
are_narrow [] = true
are_narrow (row ∷ rows) = is_narrow row && are_narrow rows

-- what is written as it is are bytes
abbrev pub IsRaw : Row → Type 0
IsRaw (bit at mask field) = Unit {0}
IsRaw (bits at mask field) = Unit {0}
IsRaw (number first last field) = Unit {0}
IsRaw (raw first last field) = IfSome field.value AreBytes

byte_small : (i n : ℕ) → byte_at i n < 256
byte_small zero n = mod-lt n (omega arith)
byte_small (suc i) n = mod-lt (n / 256 ^ suc i) (omega arith)

pub cons_bytes : (x : ℕ) (xs : List ℕ) → x < 256 → AreBytes xs → AreBytes (x ∷ xs)
cons_bytes x xs lt h zero = lt
cons_bytes x xs lt h (suc i) = h i

high_first_bytes : (k n : ℕ) → AreBytes (bytes_high_first k n)
high_first_bytes zero n = λ i. omega arith
high_first_bytes (suc k) n = cons_bytes (byte_at k n) (bytes_high_first k n) (byte_small k n) (high_first_bytes k n)

AreBytes-drop : (n : ℕ) (b : List ℕ) → AreBytes b → AreBytes (drop n b)
AreBytes-drop n b h i = rw (get_or-drop n b i 0) (h (n + i))

put_part_bytes : (at : ℕ) (xs b : List ℕ) → AreBytes xs → AreBytes b → AreBytes (put_part at xs b)
put_part_bytes at xs b p q = AreBytes-append (take at b ++ xs) (drop (at + length xs) b) (AreBytes-append (take at b) xs (AreBytes-take at b q) p)
    (AreBytes-drop (at + length xs) b q)

put_bits_bytes : (at mask y : ℕ) (b : List ℕ) → y < 256 → AreBytes b → AreBytes (put_bits at mask y b)
put_bits_bytes at mask y b lt h i =
    let x = get_or b at 0 in
    let now : with_bits mask y x < 256 = or_lt 8 (bit_and x (255 - mask)) y (omega (arith, and_le_l x (255 - mask), h at)) lt in
    elim (cases_eq i at) [
      | inl same ↦ elim (cases_lt at (length b)) [
        | inl within ↦ rw (same, get_or-set_same b at (with_bits mask y x) 0 within) now
        | inr past ↦ rw (get_or_past (put_bits at mask y b) i 0 (omega (arith, same, past, length-set b at (with_bits mask y x)))) (omega arith)
      ]
      | inr other ↦ rw (get_or-set_other b at i (with_bits mask y x) 0 other) (h i)
    ]

flag_bytes : (at mask : ℕ) (v : Option Bool) (b : List ℕ) → mask < 256 → AreBytes b → AreBytes (put_bit at mask v b)
unfolding put_bit
flag_bytes at mask None b lt h = h
flag_bytes at mask (Some true) b lt h = put_bits_bytes at mask mask b lt h
flag_bytes at mask (Some false) b lt h = put_bits_bytes at mask 0 b (omega arith) h

masked_small : (n mask u : ℕ) → mask < 256 → n ≤ mask / u → n * u < 256
masked_small n mask u lt le =
    let most = div-mul-le_self mask u in
    let times : n * u ≤ mask / u * u = mul-le-mul_right u le in
    omega (arith, lt, most, times)

number_bytes : (at mask : ℕ) (v : Option ℕ) (b : List ℕ) → mask < 256 → IfSome v (λ n. n ≤ mask / unit mask) → AreBytes b → AreBytes (put_number at mask v b)
unfolding put_number
number_bytes at mask None b lt room h = h
number_bytes at mask (Some n) b lt room h = put_bits_bytes at mask (n * unit mask) b (masked_small n mask (unit mask) lt room) h

whole_number_bytes : (first last : ℕ) (v : Option ℕ) (b : List ℕ) → AreBytes b → AreBytes (put_bytes first last v b)
unfolding put_bytes
whole_number_bytes first last None b h = h
whole_number_bytes first last (Some n) b h = put_part_bytes first (bytes_high_first (last + 1 - first) n) b (high_first_bytes (last + 1 - first) n) h

raw_bytes : (first : ℕ) (v : Option (List ℕ)) (b : List ℕ) → IfSome v AreBytes → AreBytes b → AreBytes (put_raw first v b)
unfolding put_raw
raw_bytes first None b raws h = h
raw_bytes first (Some xs) b raws h = put_part_bytes first xs b raws h

row_bytes : (r : Row) (b : List ℕ) → is_narrow r ≡ true → HasRoom r → IsRaw r → AreBytes b → AreBytes (put r b)
row_bytes (bit at mask field) b narrow room raws h = flag_bytes at mask field.value b (ltb-true _ _ narrow) h
row_bytes (bits at mask field) b narrow room raws h = number_bytes at mask field.value b (ltb-true _ _ narrow) room.1 h
row_bytes (number first last field) b narrow room raws h = whole_number_bytes first last field.value b h
row_bytes (raw first last field) b narrow room raws h = raw_bytes first field.value b raws h

pub put_all_bytes : (rows : List Row) (b : List ℕ) → are_narrow rows ≡ true → HaveRoom rows → AllByRecursion IsRaw rows → AreBytes b → AreBytes (put_all rows b)
put_all_bytes [] b narrow room raws h = h
put_all_bytes (r ∷ rows) b narrow room raws h =
    let n = both_true (is_narrow r) (are_narrow rows) narrow in
    put_all_bytes rows (put r b) n.1 room.1 raws.1 (row_bytes r b n.0 room.0 raws.0 h)

-- what stands in bytes are bytes
raw_in : (w : Bool) (v : Option (List ℕ)) (xs : List ℕ) → v ≡ then_some w xs → AreBytes xs → IfSome v AreBytes
raw_in true v xs e h = rw e h
raw_in false v xs e h = rw e tt

part_bytes : (b : List ℕ) (first last : ℕ) → AreBytes b → AreBytes (part first last b)
unfolding part
part_bytes b first last h = AreBytes-take (last + 1 - first) (drop first b) (AreBytes-drop first b h)

held_raw : (b : List ℕ) (r : Row) → AreBytes b → RowHolds b r → IsRaw r
held_raw b (bit at mask field) h holds = tt
held_raw b (bits at mask field) h holds = tt
held_raw b (number first last field) h holds = tt
held_raw b (raw first last field) h holds = raw_in field.wanted field.value (part first last b) holds (part_bytes b first last h)

pub held_raws : (b : List ℕ) (rows : List Row) → AreBytes b → RowsHold b rows → AllByRecursion IsRaw rows
held_raws b [] h hold = tt
held_raws b (r ∷ rows) h hold = (held_raw b r h hold.0, held_raws b rows h hold.1)

pub zeros_bytes : (n : ℕ) → AreBytes (replicate n 0)
zeros_bytes zero = λ i. omega arith
zeros_bytes (suc n) = cons_bytes 0 (replicate n 0) (omega arith) (zeros_bytes n)

-- ---- numerals

not_digit : (c : ℕ) → 256 ≤ c → digit_value c ≡ 36
not_digit c big =
    rw (
      le-ltb c 48 (omega arith),
      le-ltb c 58 (omega arith),
      le-ltb c 65 (omega arith),
      le-ltb c 91 (omega arith),
      le-ltb c 97 (omega arith),
      le-ltb c 123 (omega arith),
    ) refl

digit_byte : (c : ℕ) → digit_value c < 36 → c < 256
digit_byte c lt = elim (cases_lt c 256) [ inl small ↦ small | inr big ↦ absurd (omega (arith, lt, not_digit c big)) ]

digits_bytes : (radix : ℕ) (text : List ℕ) → radix ≤ 36 → AllDigits radix text → AreBytes text
digits_bytes radix [] le all = λ i. omega arith
digits_bytes radix (c ∷ text) le all = cons_bytes c text (digit_byte c (omega (arith, le, all.0))) (digits_bytes radix text le all.1)

spelled_bytes : (text : List ℕ) (n : ℕ) → SpellsNumber text n → AreBytes text
spelled_bytes text n spelled = elim spelled.form [ inl d ↦ digits_bytes 10 text (omega arith) d.digits.1 | inr h ↦ hexadecimal_bytes text h ]
  where
    hexadecimal_bytes : (text : List ℕ) → IsHexadecimal text n → AreBytes text
    hexadecimal_bytes [] h = absurd h
    hexadecimal_bytes (z ∷ []) h = absurd h
    hexadecimal_bytes (z ∷ x ∷ text) h =
        let second : x < 256 = (elim h.1 [ inl l ↦ omega (arith, l) | inr u ↦ omega (arith, u) ]) in
        cons_bytes z (x ∷ text) (omega (arith, h.0)) (cons_bytes x text second (digits_bytes 16 text (omega arith) h.2.1))

-- ---- texts

value_bytes : (kind : Option KeyKind) (bytes : List ℕ) (v : Typed) → texts.MeansValue kind bytes v → AreBytes bytes → AreBytes (value_text v)
value_bytes (Some kinds.Number) bytes (Number n) m h = spelled_bytes (canonical_number n) n (canonical_spells n m.fits)
value_bytes (Some kinds.Number) bytes (Odd odd) m h = subst AreBytes (sym m.0) h
value_bytes (Some kinds.Boolean) bytes (Boolean b) m h = subst AreBytes m h
value_bytes (Some kinds.Boolean) bytes (Odd odd) m h = subst AreBytes (sym m.0) h
value_bytes (Some kinds.Items) bytes (Items items) m h = subst AreBytes (sym m.0) h
value_bytes (Some kinds.Items) bytes (Odd odd) m h = subst AreBytes (sym m.0) h
value_bytes (Some kinds.Plain) bytes (Plain plain) m h = subst AreBytes (sym m) h
value_bytes None bytes (Plain plain) m h = subst AreBytes (sym m) h
value_bytes _ bytes _ m h = absurd m

abbrev IsPairOfBytes : List ℕ × Typed → Type 0
IsPairOfBytes p = AreBytes (pair_text p)

field_bytes : (f : Field) → IsField f → AreBytes (entry_bytes (Some f)) → IsPairOfBytes (f.key, f.value)
field_bytes f is h =
    let front = AreBytes-front (f.key ++ 61 ∷ f.bytes) (0 ∷ []) h in
    let value = AreBytes-back (61 ∷ []) f.bytes (AreBytes-back f.key (61 ∷ f.bytes) front) in
    let spelled = value_bytes (kind_of f.key) f.bytes f.value is.value value in
    AreBytes-append (f.key ++ 61 ∷ value_text f.value) (0 ∷ [])
    (AreBytes-append f.key (61 ∷ value_text f.value) (AreBytes-front f.key (61 ∷ f.bytes) front) (cons_bytes 61 (value_text f.value) (omega arith) spelled))
    (zeros_bytes 1)

entries_bytes : (entries : List (Option Field)) → AllByRecursion IsTextEntry entries → AreBytes (flat_map entry_bytes entries) →
    AllByRecursion IsPairOfBytes (pairs_of entries)
entries_bytes [] each h = tt
entries_bytes (None ∷ entries) each h =
    entries_bytes entries each.1 (AreBytes-back (entry_bytes None) (flat_map entry_bytes entries) (subst AreBytes (flat_map-cons entry_bytes None entries) h))
entries_bytes (Some f ∷ entries) each h =
    let split = subst AreBytes (flat_map-cons entry_bytes (Some f) entries) h in (
      field_bytes f each.0 (AreBytes-front (entry_bytes (Some f)) (flat_map entry_bytes entries) split),
      entries_bytes entries each.1 (AreBytes-back (entry_bytes (Some f)) (flat_map entry_bytes entries) split),
    )

pairs_bytes : (pairs : Pairs) → AllByRecursion IsPairOfBytes pairs → AreBytes (canonical_text pairs)
pairs_bytes [] all = λ i. omega arith
pairs_bytes (p ∷ pairs) all = subst AreBytes (sym (flat_map-cons pair_text p pairs))
    (AreBytes-append (pair_text p) (canonical_text pairs) all.0 (pairs_bytes pairs all.1))

text_bytes : (bytes : List ℕ) (pairs : Pairs) → TextMeans bytes pairs → AreBytes bytes → AreBytes (canonical_text pairs)
text_bytes bytes pairs means h =
    let all = entries_bytes means.entries means.row.each (subst AreBytes (means.row.spelled ∙ append-nil (flat_map entry_bytes means.entries)) h) in
    subst (λ (ps : Pairs). AreBytes (canonical_text ps)) (sym (arranged_is (pairs_of means.entries) pairs means.arranges))
    (pairs_bytes (in_order (pairs_of means.entries)) (all_in_order IsPairOfBytes (pairs_of means.entries) all))

-- ---- segments

read_bytes : (r : Option Pairs) (d : List ℕ) → text_in d ≡ r → AreBytes d → AreBytes (segment_bytes (text_or_bytes r d))
unfolding segment_bytes
read_bytes None d none h = h
read_bytes (Some pairs) d some h = text_bytes d pairs (read_means d pairs some) h

if_bytes : (whole : Bool) (d : List ℕ) → AreBytes d → AreBytes (segment_bytes (segment_if whole d))
unfolding segment_bytes
if_bytes true d h = read_bytes (text_in d) d refl h
if_bytes false d h = h

of_bytes : (c : Bool) (h : Head) (d : List ℕ) → AreBytes d → AreBytes (segment_bytes (segment_of c h d))
unfolding segment_of
of_bytes c h d are = if_bytes (not c && is_last_login_pdu h) d are

-- ---- headers

head_narrow : (h : Head) → are_narrow (rows h) ≡ true
head_narrow (NopOut _) = refl
head_narrow _ = refl

ones_narrow : (h : Head) → are_narrow (ones h) ≡ true
ones_narrow (NopOut _) = refl
ones_narrow _ = refl

ones_raw : (h : Head) → AllByRecursion IsRaw (ones h)
ones_raw (NopOut _) = search rules
ones_raw _ = search rules

block_narrow : (c : Cdb) → are_narrow (cdb.cdb_rows c) ≡ true
block_narrow (Unknown _) = refl
block_narrow _ = refl

-- the descriptor block in its canonical spelling
block_bytes : (b : List ℕ) (c : Cdb) → AreBytes b → cdb.IsRecord b c → AreBytes (cdb.canonical c)
block_bytes b c h r =
    put_all_bytes (cdb.cdb_rows c) (replicate 16 0) (block_narrow c) (IsRecord-room b c h r) (held_raws b (cdb.cdb_rows c) h r.rows) (zeros_bytes 16)

with_block : (b : List ℕ) (h : Head) (x : List ℕ) → AreBytes b → HasBlock b h → AreBytes x → AreBytes (put_all (blocks h) x)
unfolding put_raw
with_block b (ScsiCommand h) x are has xs = put_part_bytes 32 (cdb.canonical h.cdb) x (block_bytes (part 32 47 b) h.cdb (part_bytes b 32 47 are) has) xs
with_block b _ x are has xs = xs

header_bytes : (b : List ℕ) (h : Head) (n len : ℕ) → AreBytes b → IsHeader b h n → len < 2 ^ 24 → AreBytes (header h len)
unfolding header
header_bytes b h n len are r short =
    let first = put_all_bytes (ones h) (replicate 48 0) (ones_narrow h) (ones-room h) (ones_raw h) (zeros_bytes 48) in
    let framed = put_all_bytes (frame (opcode h) len) (put_all (ones h) (replicate 48 0)) refl (
      (refl, opcode-small h),
      ((refl, omega arith), ((refl, short), tt)),
    ) (tt, (tt, (tt, tt))) first in
    let own = put_all_bytes (rows h) _ (head_narrow h) (IsHeader-room b h n are r) (held_raws b (rows h) are r.rows) framed in
    subst AreBytes (sym (put_all-append (rows h) (blocks h) _)) (with_block b h _ are r.block own)

-- ---- PDUs

message_bytes : (bytes segment : List ℕ) (c : Bool) (h : Head) → AreBytes bytes → Means bytes h segment →
    AreBytes (whole h (segment_bytes (segment_of c h segment)))
unfolding whole
message_bytes bytes segment c h are means =
    let front = AreBytes-take 48 bytes are in
    let mine = segment_bytes (segment_of c h segment) in
    let own : AreBytes segment = subst AreBytes (means-data bytes h segment means)
    (AreBytes-take (length segment) (drop 48 bytes) (AreBytes-drop 48 bytes are)) in
    let short : length mine < 2 ^ 24 = omega (arith, segment-shorter c h segment, IsHeader-short (take 48 bytes) h (length segment) front means.header) in
    AreBytes-append (header h (length mine) ++ mine) (replicate (padding (length mine)) 0)
    (AreBytes-append (header h (length mine)) mine (header_bytes (take 48 bytes) h (length segment) (length mine) front means.header short)
    (of_bytes c h segment own)) (zeros_bytes (padding (length mine)))

pub canon_bytes : (limit : ℕ) (logins : Logins) (s : List ℕ) (ms : List Message) → AreBytes s → ReadsAs limit logins s ms → AreBytes (canon ms)
unfolding ReadsAs
canon_bytes limit logins s [] are reads = λ i. omega arith
canon_bytes limit logins s (m ∷ ms) are reads =
    let begins = reads.0 in
    let split = subst AreBytes begins.whole are in
    let one = message_bytes begins.bytes begins.segment (continues logins m.head) m.head (AreBytes-front begins.bytes begins.rest split) begins.means in
    subst AreBytes (sym (flat_map-cons canonical_bytes m ms)) (AreBytes-append (canonical_bytes m) (canon ms)
    (subst (λ (x : Segment). AreBytes (whole m.head (segment_bytes x))) (sym begins.meaning) one)
    (canon_bytes limit (logins_after logins m.head) begins.rest ms (AreBytes-back begins.bytes begins.rest split) reads.1))

-- A bit that no row with a value has stays as it was.
use Rattle.std.proofs.Common.{◌≡◌, ℕ, ◌<◌, Bool, true, false, not, eqb, ltb, List, [], ◌∷◌, ◌++◌, length, get_or, replicate}
use Rattle.std.proofs.Common.{Option, Some, None, refl, sym, ap, subst, ◌∙◌, arith, inl, inr, lit<}
use Rattle.std.specs.Prelude.{◌&&◌, ◌||◌, bit_and}
use Rattle.std.specs.List.{list_any}
use Rattle.std.proofs.lemmas.Bool.{and_parts, cases_lt, eq-eqb, le-ltb}
use Rattle.std.proofs.lemmas.List.{get_or-replicate, get_or_past}
use Rattle.scsi_cdb.specs.Layout.{Row, HasRoom, HaveRoom, RowsHold, put, put_all, put_bit, put_number, put_bytes, put_raw}
use Rattle.scsi_cdb.specs.Layout.Row.{bit, bits, bytes, raw}
use Rattle.scsi_cdb.proofs.LayoutLemmas.{Writes, is_place, is_table, is_apart_from_all, put-writes, put_all-holds}
use Rattle.iscsi_pdu.specs.declared.head.Head.{Head}
use Rattle.iscsi_pdu.specs.Meaning.{opcode, rows, ones, blocks, frame, header, IsWritable}
use Rattle.iscsi_pdu.specs.FreeBits.{are_apart, are_free, is_between, uses, written_rows}
use Rattle.iscsi_pdu.proofs.HeaderLemmas.{HaveRoom-append, Hold-first, all_rows, all_rows-table, blocks-room, ones-room, opcode-small, put_all-append, room-reads}

-- what a mask sees of byte n
abbrev at_mask : ℕ → ℕ → List ℕ → ℕ
at_mask n mask b = bit_and (get_or b n 0) mask

from_not : (b : Bool) → not b ≡ false → b ≡ true
from_not true e = refl
from_not false e = absurd cc

not_false : (b : Bool) → not b ≡ true → b ≡ false
not_false false e = refl
not_false true e = absurd cc

none_of : (a b : Bool) → a ≡ true → a && b ≡ false → b ≡ false
none_of true b a e = e
none_of false b a e = absurd cc

none_first : (a b : Bool) → a || b ≡ false → a ≡ false
none_first true b e = absurd cc
none_first false b e = refl

none_second : (a b : Bool) → a || b ≡ false → b ≡ false
none_second true b e = absurd cc
none_second false b e = e

-- a byte that a row does not reach
beyond : (n mask : ℕ) (r : Row) (b c : List ℕ) (first last : ℕ) → ((k : ℕ) → k < first → get_or c k 0 ≡ get_or b k 0)
    → ((k : ℕ) → last < k → get_or c k 0 ≡ get_or b k 0) → is_between n first last ≡ false → at_mask n mask c ≡ at_mask n mask b
beyond n mask r b c first last below above out =
    elim (cases_lt n first) [
      | inl before ↦ ap (λ (x : ℕ). bit_and x mask) (below n before)
      | inr from ↦ elim (cases_lt last n) [
        | inl after ↦ ap (λ (x : ℕ). bit_and x mask) (above n after)
        | inr within ↦
            let one : not (ltb n first) ≡ true = ap not (le-ltb n first from) in
            let other : not (ltb last n) ≡ true = ap not (le-ltb last n within) in
            absurd (cc (none_of (not (ltb n first)) (not (ltb last n)) one out, other))
      ]
    ]

-- a row of bits that are apart from the mask, or in another byte
beside : (n mask at own : ℕ) (b c : List ℕ) → ((k : ℕ) → k < at → get_or c k 0 ≡ get_or b k 0) → ((k : ℕ) → at < k → get_or c k 0 ≡ get_or b k 0)
    → (are_apart own mask ≡ true → at_mask n mask c ≡ at_mask n mask b) → eqb at n && not (are_apart own mask) ≡ false → at_mask n mask c ≡ at_mask n mask b
beside n mask at own b c below above apart free =
    elim (cases_lt n at) [
      | inl before ↦ ap (λ (x : ℕ). bit_and x mask) (below n before)
      | inr from ↦ elim (cases_lt at n) [
        | inl after ↦ ap (λ (x : ℕ). bit_and x mask) (above n after)
        | inr to ↦ apart (from_not (are_apart own mask) (none_of (eqb at n) (not (are_apart own mask)) (eq-eqb at n (omega (arith, from, to))) free))
      ]
    ]

step_bit : (n mask at own : ℕ) (w : Bool) (v : Option Bool) (b : List ℕ) → length b ≡ 48 → is_place 48 (bit at own (record { wanted = w; value = v })) ≡ true
    → HasRoom (bit at own (record { wanted = w; value = v })) → uses n mask (bit at own (record { wanted = w; value = v })) ≡ false
    → at_mask n mask (put (bit at own (record { wanted = w; value = v })) b) ≡ at_mask n mask b
unfolding put_bit
step_bit n mask at own w None b len place room free = refl
step_bit n mask at own w (Some x) b len place room free =
    let r : Row = bit at own (record { wanted = w; value = Some x }) in
    let done : Writes r b (put r b) = put-writes 48 r b len place room in
    beside n mask at own b (put r b) done.below done.above (λ e. done.beside mask e n) free

step_bits : (n mask at own : ℕ) (w : Bool) (v : Option ℕ) (b : List ℕ) → length b ≡ 48 → is_place 48 (bits at own (record { wanted = w; value = v })) ≡ true
    → HasRoom (bits at own (record { wanted = w; value = v })) → uses n mask (bits at own (record { wanted = w; value = v })) ≡ false
    → at_mask n mask (put (bits at own (record { wanted = w; value = v })) b) ≡ at_mask n mask b
unfolding put_number
step_bits n mask at own w None b len place room free = refl
step_bits n mask at own w (Some x) b len place room free =
    let r : Row = bits at own (record { wanted = w; value = Some x }) in
    let done : Writes r b (put r b) = put-writes 48 r b len place room in
    beside n mask at own b (put r b) done.below done.above (λ e. done.beside mask e n) free

step_bytes : (n mask first last : ℕ) (w : Bool) (v : Option ℕ) (b : List ℕ) → length b ≡ 48
    → is_place 48 (bytes first last (record { wanted = w; value = v })) ≡ true
    → HasRoom (bytes first last (record { wanted = w; value = v })) → uses n mask (bytes first last (record { wanted = w; value = v })) ≡ false
    → at_mask n mask (put (bytes first last (record { wanted = w; value = v })) b) ≡ at_mask n mask b
unfolding put_bytes
step_bytes n mask first last w None b len place room free = refl
step_bytes n mask first last w (Some x) b len place room free =
    let r : Row = bytes first last (record { wanted = w; value = Some x }) in
    let done : Writes r b (put r b) = put-writes 48 r b len place room in
    beyond n mask r b (put r b) first last done.below done.above free

step_raw : (n mask first last : ℕ) (w : Bool) (v : Option (List ℕ)) (b : List ℕ) → length b ≡ 48
    → is_place 48 (raw first last (record { wanted = w; value = v })) ≡ true
    → HasRoom (raw first last (record { wanted = w; value = v })) → uses n mask (raw first last (record { wanted = w; value = v })) ≡ false
    → at_mask n mask (put (raw first last (record { wanted = w; value = v })) b) ≡ at_mask n mask b
unfolding put_raw
step_raw n mask first last w None b len place room free = refl
step_raw n mask first last w (Some x) b len place room free =
    let r : Row = raw first last (record { wanted = w; value = Some x }) in
    let done : Writes r b (put r b) = put-writes 48 r b len place room in
    beyond n mask r b (put r b) first last done.below done.above free

step : (n mask : ℕ) (r : Row) (b : List ℕ) → length b ≡ 48 → is_place 48 r ≡ true → HasRoom r → uses n mask r ≡ false
    → at_mask n mask (put r b) ≡ at_mask n mask b
step n mask (bit at own field) b len place room free = step_bit n mask at own field.wanted field.value b len place room free
step n mask (bits at own field) b len place room free = step_bits n mask at own field.wanted field.value b len place room free
step n mask (bytes first last field) b len place room free = step_bytes n mask first last field.wanted field.value b len place room free
step n mask (raw first last field) b len place room free = step_raw n mask first last field.wanted field.value b len place room free

-- what no row uses stays
stays_free : (n mask : ℕ) (table : List Row) (b : List ℕ) → length b ≡ 48 → is_table 48 table ≡ true → HaveRoom table
    → list_any (uses n mask) table ≡ false → at_mask n mask (put_all table b) ≡ at_mask n mask b
stays_free n mask [] b len is room free = refl
stays_free n mask (r ∷ table) b len is room free =
    let p = and_parts (is_place 48 r) _ is in
    let q = and_parts (is_apart_from_all r table) _ p.1 in
    let w = put-writes 48 r b len p.0 room.0 in
    stays_free n mask table (put r b) (w.len ∙ len) q.1 room.1 (none_second (uses n mask r) (list_any (uses n mask) table) free)
    ∙ step n mask r b len p.0 room.0 (none_first (uses n mask r) (list_any (uses n mask) table) free)

zero_at : (n mask : ℕ) → at_mask n mask (replicate 48 0) ≡ 0
zero_at n mask =
    elim (cases_lt n 48) [
      | inl within ↦ ap (λ (x : ℕ). bit_and x mask) (get_or-replicate 48 n 0 0 within)
      | inr past ↦ ap (λ (x : ℕ). bit_and x mask) (get_or_past (replicate 48 0) n 0 past)
    ]

room_of : (h : Head) (len : ℕ) → IsWritable h len → HaveRoom (all_rows h len)
unfolding all_rows
room_of h len w = HaveRoom-append (ones h) _ (ones-room h)
    (HaveRoom-append (frame (opcode h) len) (rows h ++ blocks h) ((refl, opcode-small h), ((refl, lit< tt), ((refl, w.short), tt)))
    (HaveRoom-append (rows h) (blocks h) w.room (blocks-room h (room-reads h w.fits.block w.block_room))))

header_is : (h : Head) (len : ℕ) → put_all (all_rows h len) (replicate 48 0) ≡ header h len
unfolding all_rows header
header_is h len = put_all-append (ones h) (frame (opcode h) len ++ (rows h ++ blocks h)) (replicate 48 0)
    ∙ put_all-append (frame (opcode h) len) (rows h ++ blocks h) (put_all (ones h) (replicate 48 0))

-- a free bit of a header is 0
pub zero_where_free : (h : Head) (len n mask : ℕ) → IsWritable h len → are_free n mask h len ≡ true → at_mask n mask (header h len) ≡ 0
unfolding all_rows
zero_where_free h len n mask w free =
    ap (λ (b : List ℕ). at_mask n mask b) (sym (header_is h len))
    ∙ stays_free n mask (all_rows h len) (replicate 48 0) refl (all_rows-table h len) (room_of h len w)
    (not_false (list_any (uses n mask) (written_rows h len)) free)
    ∙ zero_at n mask

-- the ones of a header are there
pub ones_there : (h : Head) (len : ℕ) → IsWritable h len → RowsHold (header h len) (ones h)
unfolding all_rows
ones_there h len w =
    Hold-first (ones h) (frame (opcode h) len ++ (rows h ++ blocks h)) (header h len)
    (subst (λ (b : List ℕ). RowsHold b (all_rows h len)) (header_is h len)
    (put_all-holds 48 (all_rows h len) (replicate 48 0) refl (all_rows-table h len) (room_of h len w)))

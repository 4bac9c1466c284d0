-- Open writes: their pieces, and what may come for them.
use Rattle.std.proofs.Common.{◌≡◌, not, ◌≤◌, inl, inr, ℕ, ◌+◌, List, [], ◌∷◌, ◌++◌, Bool, true, false, length, Some, None, refl, sym, ap, ◌∙◌, subst, arith}
use Rattle.std.proofs.Common.{append_assoc}
use Rattle.std.proofs.lemmas.List.{length-append, append-nil}
use Rattle.std.specs.Prelude.{◌==◌, nat_lt, ◌&&◌, if◌then◌else◌}
use Rattle.std.proofs.lemmas.Bool.{ltb-true, eqb-true, or_cases}
use Rattle.scsi_disk.specs.Plan.{plan_of}
use Rattle.scsi_disk.specs.declared.order.Plan.TheVariants.{Take}
use Rattle.iscsi_pdu.specs.declared.head.data_out.DataOut.{DataOut as DataPdu}
use Rattle.iscsi_login.specs.Held.{Held}
use Rattle.iscsi_target.specs.Write.{Write}
use Rattle.iscsi_stream.specs.Pieces.{Pieces, piece_data, TilesFrom}
use Rattle.iscsi_pdu.specs.Fields.{reserved_tag}
use Rattle.iscsi_target.specs.declared.due.Due.{Due}
use Rattle.iscsi_target.specs.declared.due.Due.TheVariants.{Nothing, Unsolicited, Solicited}
use Rattle.iscsi_target.specs.Transfer.{bytes_received, with_piece, with_data, data_out_taken, is_in_sequence, is_next_data_out, is_unsolicited_piece, is_solicited_piece}
use Rattle.iscsi_target.specs.Transfer.{unsolicited_end, continued, desired, with_r2t}
use Rattle.iscsi_target.specs.Tiles.{Tiles, IsModest}
use Rattle.iscsi_stream.proofs.ReadyLemmas.{and_left, and_right}

-- What is due lies within what the write takes (section 11.8).
abbrev pub DueFits : ℕ → Due → Type 0
DueFits total (Solicited tag data_sn end) = end ≤ total
DueFits total _ = Unit {0}

-- A write that is open on a disk of n blocks: its pieces tile what it has received (section
-- 11.7).
pub record IsOpen (count : ℕ) (w : Write) : Type 0 where
  pub plan : plan_of w.order count ≡ Take w.total
  pub tiles : Tiles w.pieces (bytes_received w)
  pub fits : bytes_received w ≤ w.total
  pub due : DueFits w.total w.due

abbrev pub size_of : Pieces → ℕ
size_of pieces = length (piece_data pieces)

size_append : (pieces : Pieces) (at : ℕ) (bytes : List ℕ) → size_of (pieces ++ (at, bytes) ∷ []) ≡ size_of pieces + length bytes
size_append [] at bytes = let e = length-append bytes [] in omega (arith, e)
size_append (p ∷ pieces) at bytes =
    let e = size_append pieces at bytes in
    let f = length-append p.1 (piece_data (pieces ++ (at, bytes) ∷ [])) in
    let g = length-append p.1 (piece_data pieces) in
    omega (arith, e, f, g)

pub size_with : (pieces : Pieces) (at : ℕ) (bytes : List ℕ) → size_of (with_piece pieces at bytes) ≡ size_of pieces + length bytes
size_with pieces at [] = omega arith
size_with pieces at (b ∷ bytes) = size_append pieces at (b ∷ bytes)

tiles_append : (from : ℕ) (pieces : Pieces) (n : ℕ) (bytes : List ℕ) → TilesFrom from pieces n → TilesFrom from (pieces ++ (n, bytes) ∷ []) (n + length bytes)
tiles_append from [] n bytes e = (sym e, ap (λ (x : ℕ). x + length bytes) e)
tiles_append from (p ∷ pieces) n bytes e = (e.0, tiles_append (from + length p.1) pieces n bytes e.1)

pub tiles_with : (pieces : Pieces) (n : ℕ) (bytes : List ℕ) → Tiles pieces n → Tiles (with_piece pieces n bytes) (n + length bytes)
tiles_with pieces n [] e = subst (λ (x : ℕ). Tiles pieces x) (omega arith) e
tiles_with pieces n (b ∷ bytes) e = tiles_append 0 pieces n (b ∷ bytes) e

-- a piece that is in sequence ends within its bound
bounded_unsolicited : (reached end : ℕ) (last : Bool) → is_unsolicited_piece reached end last ≡ true → reached ≤ end
bounded_unsolicited reached end last e =
    elim (or_cases (nat_lt reached end) ((reached == end) && last) e) [
      | inl a ↦ omega (arith, ltb-true reached end a)
      | inr b ↦ omega (arith, eqb-true reached end (and_left (reached == end) last b))
    ]

bounded_solicited : (reached end : ℕ) (last : Bool) → is_solicited_piece reached end last ≡ true → reached ≤ end
bounded_solicited reached end last e =
    elim (or_cases (nat_lt reached end && not last) ((reached == end) && last) e) [
      | inl a ↦ omega (arith, ltb-true reached end (and_left (nat_lt reached end) (not last) a))
      | inr b ↦ omega (arith, eqb-true reached end (and_left (reached == end) last b))
    ]

pub sequence_bound : (first : ℕ) (w : Write) (h : DataPdu) (reached : ℕ) (due : Due) → DueFits w.total due → is_in_sequence first w h reached due ≡ true →
    reached ≤ w.total
sequence_bound first w h reached Nothing fits e = absurd cc
sequence_bound first w h reached (Unsolicited data_sn) fits e =
    let a = and_right (is_next_data_out w h data_sn) ((h.target_transfer_tag == reserved_tag)
    && is_unsolicited_piece reached (unsolicited_end first w) h.is_final) e in
    let b : reached ≤ unsolicited_end first w = bounded_unsolicited reached (unsolicited_end first w) h.is_final
    (and_right (h.target_transfer_tag == reserved_tag) (is_unsolicited_piece reached (unsolicited_end first w) h.is_final) a) in
    omega (arith, b)
sequence_bound first w h reached (Solicited tag data_sn end) fits e =
    let a = and_right (is_next_data_out w h data_sn) ((h.target_transfer_tag == tag) && is_solicited_piece reached end h.is_final) e in
    let b : reached ≤ end = bounded_solicited reached end h.is_final
    (and_right (h.target_transfer_tag == tag) (is_solicited_piece reached end h.is_final) a) in
    omega (arith, b, fits)

continued_fits : (total : ℕ) (due : Due) → DueFits total due → DueFits total (continued due)
continued_fits total Nothing fits = tt
continued_fits total (Unsolicited n) fits = tt
continued_fits total (Solicited tag n end) fits = fits

pub due_after : (total : ℕ) (due : Due) (last : Bool) → DueFits total due → DueFits total (if last then Nothing else continued due)
due_after total due true fits = tt
due_after total due false fits = continued_fits total due fits

-- a piece that is taken begins where those before it end
offset_is : (first : ℕ) (w : Write) (h : DataPdu) (reached : ℕ) (due : Due) → is_in_sequence first w h reached due ≡ true → h.buffer_offset ≡ bytes_received w
offset_is first w h reached Nothing e = absurd cc
offset_is first w h reached (Unsolicited data_sn) e =
    let next = and_left (is_next_data_out w h data_sn)
    ((h.target_transfer_tag == reserved_tag) && is_unsolicited_piece reached (unsolicited_end first w) h.is_final) e in
    eqb-true h.buffer_offset (bytes_received w) (and_right (h.data_sn == data_sn) (h.buffer_offset == bytes_received w) next)
offset_is first w h reached (Solicited tag data_sn end) e =
    let next = and_left (is_next_data_out w h data_sn) ((h.target_transfer_tag == tag) && is_solicited_piece reached end h.is_final) e in
    eqb-true h.buffer_offset (bytes_received w) (and_right (h.data_sn == data_sn) (h.buffer_offset == bytes_received w) next)

-- and leaves the write open
with_data_open : (count : ℕ) (first : ℕ) (w : Write) (h : DataPdu) (bytes : List ℕ) → IsOpen count w
    → is_in_sequence first w h (bytes_received w + length bytes) w.due ≡ true → IsOpen count (with_data w h bytes)
with_data_open count first w h bytes o e =
    let size : bytes_received (with_data w h bytes) ≡ bytes_received w + length bytes = size_with w.pieces h.buffer_offset bytes in
    let at : bytes_received w ≡ h.buffer_offset = sym (offset_is first w h (bytes_received w + length bytes) w.due e) in
    record {
      plan = o.plan;
      tiles = subst (λ (n : ℕ). Tiles (with_piece w.pieces h.buffer_offset bytes) n) (sym size) (subst (λ (at : ℕ).
          Tiles (with_piece w.pieces at bytes) (bytes_received w + length bytes)) at (tiles_with w.pieces (bytes_received w) bytes o.tiles));
      fits = omega (arith, size, sequence_bound first w h (bytes_received w + length bytes) w.due o.due e);
      due = due_after w.total w.due h.is_final o.due;
    }

taken_if : (count : ℕ) (w more : Write) (b : Bool) → (b ≡ true → IsOpen count w) → (if b then Some w else None) ≡ Some more → IsOpen count more
taken_if count w more true o e = let f : w ≡ more = cc in subst (λ (x : Write). IsOpen count x) f (o refl)
taken_if count w more false o e = absurd cc

pub taken_open : (count : ℕ) (first : ℕ) (w more : Write) (h : DataPdu) (bytes : List ℕ) → IsOpen count w → data_out_taken first w h bytes ≡ Some more →
    IsOpen count more
taken_open count first w more h bytes o e =
    taken_if count (with_data w h bytes) more (is_in_sequence first w h (bytes_received w + length bytes) w.due) (with_data_open count first w h bytes o) e

-- an R2T is modest, and leaves the write open
pub asking_modest : (count : ℕ) (held : Held) (w : Write) → IsOpen count w → IsModest held w.total (bytes_received w, desired held w)
asking_modest count held w o = record { burst = omega arith; inside = omega (arith, o.fits) }

pub with_r2t_open : (count : ℕ) (held : Held) (w : Write) → IsOpen count w → IsOpen count (with_r2t held w)
with_r2t_open count held w o = record { plan = o.plan; tiles = o.tiles; fits = o.fits; due = (asking_modest count held w o).inside }

-- ---- the pieces joined

pub data_with : (pieces : Pieces) (at : ℕ) (bytes : List ℕ) → piece_data (with_piece pieces at bytes) ≡ piece_data pieces ++ bytes
data_with pieces at [] = sym (append-nil (piece_data pieces))
data_with [] at (b ∷ bytes) = append-nil (b ∷ bytes)
data_with (p ∷ pieces) at (b ∷ bytes) = ap (λ (x : List ℕ). p.1 ++ x) (data_with pieces at (b ∷ bytes)) ∙ sym (append_assoc p.1 (piece_data pieces) (b ∷ bytes))

pub data_of_one : (bytes : List ℕ) → piece_data (with_piece [] 0 bytes) ≡ bytes
data_of_one bytes = data_with [] 0 bytes

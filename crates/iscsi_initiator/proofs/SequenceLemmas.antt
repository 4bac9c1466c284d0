-- A sequence of Data-Out PDUs, one piece after another.
use Rattle.std.proofs.Common.{◌≡◌, ◌<◌, ◌≤◌, ℕ, ◌+◌, ◌^◌, suc, List, [], ◌∷◌, ◌++◌, length, take, drop, Bool, true, false, refl, sym, ap, ◌∙◌}
use Rattle.std.proofs.Common.{append_assoc, arith}
use Rattle.std.specs.Prelude.{◌==◌}
use Rattle.std.proofs.lemmas.List.{length-take, length-append, take-append-le, take-append-drop}
use Rattle.std.proofs.lemmas.Bool.{eqb-true}
use Rattle.iscsi_pdu.specs.declared.head.data_out.DataOut.{DataOut}
use Rattle.iscsi_pdu.specs.declared.head.Head.TheVariants as heads
use Rattle.iscsi_pdu.specs.Meaning.{HeadFits, whole}
use Rattle.iscsi_stream.specs.Segment.{segment_bytes}
use Rattle.iscsi_stream.specs.Canonical.{canon}
use Rattle.iscsi_pdu.specs.Serial.{next_sn}
use Rattle.iscsi_initiator.specs.Full.{data_outs, is_last_piece}
use Rattle.iscsi_stream.specs.Pieces.{chunks}
use Rattle.iscsi_stream.proofs.ChunkLemmas.{chunks_step}

-- a sequence that is to be written: the head of its next PDU, and its bytes
pub record Due : Type 0 where
  pub next : DataOut
  pub bytes : List ℕ

-- these two together
abbrev pub due : DataOut → List ℕ → Due
due next bytes = record { next = next; bytes = bytes }

-- what is written of the sequence in pieces of n bytes, and what is left to write
pub record Wrote (most : ℕ) (all left : Due) (before written : List ℕ) : Type 0 where
  pub fits : HeadFits (heads.DataOut left.next)
  pub within : left.next.buffer_offset + length left.bytes < 2 ^ 32
  pub same : written ++ canon (data_outs left.next (chunks most left.bytes)) ≡ before ++ canon (data_outs all.next (chunks most all.bytes))
  pub front : take (length before) written ≡ before

-- ---- pieces

pieces_next : (n : ℕ) (bytes : List ℕ) → 0 < n → 0 < length bytes → chunks n bytes ≡ take n bytes ∷ chunks n (drop n bytes)
pieces_next n [] some any = absurd (omega arith)
pieces_next n (x ∷ xs) some any = chunks_step n x xs some

not_zero : (n : ℕ) (b : Bool) → (suc n == 0) ≡ b → b ≡ false
not_zero n true e = absurd (omega (arith, eqb-true (suc n) 0 e))
not_zero n false e = refl

last_piece : (n : ℕ) (bytes : List ℕ) → is_last_piece (chunks n bytes) ≡ (length bytes == 0)
last_piece n [] = refl
last_piece n (x ∷ xs) = sym (not_zero (length xs) (suc (length xs) == 0) refl)

-- ---- one piece

still_front : (before written x : List ℕ) → take (length before) written ≡ before → take (length before) (written ++ x) ≡ before
still_front before written x front =
    let short : length before ≤ length written = omega (arith, ap length front, length-take (length before) written) in
    take-append-le (length before) written x short ∙ front

abbrev behind : DataOut → List ℕ → DataOut
behind h piece = record h { data_sn = next_sn h.data_sn; buffer_offset = h.buffer_offset + length piece }

first_piece : (h : DataOut) (most : ℕ) (rest : List ℕ) → 0 < most → 0 < length rest →
    canon (data_outs h (chunks most rest))
    ≡ whole (heads.DataOut (record h { is_final = length (drop most rest) == 0 })) (take most rest)
    ++ canon (data_outs (behind h (take most rest)) (chunks most (drop most rest)))
unfolding segment_bytes
first_piece h most rest some any =
    ap (λ (ps : List (List ℕ)). canon (data_outs h ps)) (pieces_next most rest some any)
    ∙ ap (λ (b : Bool). whole (heads.DataOut (record h { is_final = b })) (take most rest)
    ++ canon (data_outs (behind h (take most rest)) (chunks most (drop most rest)))) (last_piece most (drop most rest))

pub wrote_piece : (first : DataOut) (most : ℕ) (bytes : List ℕ) (now : DataOut) (rest piece more before written after : List ℕ) → 0 < most → 0 < length rest
    → piece ≡ take most rest → more ≡ drop most rest → after ≡ written ++ whole (heads.DataOut (record now { is_final = length more == 0 })) piece
    → Wrote most (due first bytes) (due now rest) before written → Wrote most (due first bytes) (due (behind now piece) more) before after
wrote_piece first most bytes now rest piece more before written after some any is back e w =
    let parts : length rest ≡ length (take most rest) + length (drop most rest) = sym (ap length (take-append-drop most rest))
    ∙ length-append (take most rest) (drop most rest) in
    rw (is, back) record {
      fits = record { filled = w.fits.filled; block = w.fits.block };
      within = (let within = w.within in omega (arith, parts, within));
      same =
          ap (λ (x : List ℕ). x ++ canon (data_outs (behind now (take most rest)) (chunks most (drop most rest)))) (rw (is, back) at e)
          ∙ append_assoc written (whole (heads.DataOut (record now { is_final = length (drop most rest) == 0 })) (take most rest))
          (canon (data_outs (behind now (take most rest)) (chunks most (drop most rest))))
          ∙ ap (λ (x : List ℕ). written ++ x) (sym (first_piece now most rest some any)) ∙ w.same;
      front = rw e (still_front before written _ w.front);
    }

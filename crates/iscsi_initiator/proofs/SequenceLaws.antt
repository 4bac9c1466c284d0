-- Sequences of Data-Out PDUs tile their bytes.
use Rattle.std.proofs.Common.{◌≡◌, refl, ap, sym, ◌∙◌, subst, List, [], ◌∷◌, ◌++◌, ℕ, ◌+◌, ◌<◌, Option, length, arith}
use Rattle.std.proofs.Common.{add_assoc, length-append}
use Rattle.iscsi_pdu.specs.declared.head.data_out.DataOut.{DataOut}
use Rattle.iscsi_stream.specs.Segment.{segment_bytes}
use Rattle.iscsi_initiator.specs.State.{InitiatorSession}
use Rattle.iscsi_pdu.specs.Serial.{next_sn}
use Rattle.iscsi_initiator.specs.Full.{data_outs, sequence}
use Rattle.iscsi_stream.specs.Pieces.{chunks, TilesFrom, data_pieces, piece_data}
use Rattle.iscsi_initiator.specs.Laws.{IsSequence}
use Rattle.iscsi_stream.proofs.ChunkLemmas.{joined, joined_chunks}

carries : (h : DataOut) (ps : List (List ℕ)) → piece_data (data_pieces (data_outs h ps)) ≡ joined ps
unfolding segment_bytes
carries h [] = refl
carries h (piece ∷ more) = ap (λ (ys : List ℕ). piece ++ ys) (carries (record h { data_sn = next_sn h.data_sn; buffer_offset = h.buffer_offset + length piece })
    more)

tiles : (h : DataOut) (ps : List (List ℕ)) → TilesFrom h.buffer_offset (data_pieces (data_outs h ps)) (h.buffer_offset + length (joined ps))
unfolding segment_bytes
tiles h [] = omega arith
tiles h (piece ∷ more) =
    let rest : TilesFrom (h.buffer_offset + length piece) (data_pieces (data_outs
    (record h { data_sn = next_sn h.data_sn; buffer_offset = h.buffer_offset + length piece }) more))
    (h.buffer_offset + length piece + length (joined more)) =
    tiles (record h { data_sn = next_sn h.data_sn; buffer_offset = h.buffer_offset + length piece }) more in (
      refl,
      subst (λ (end : ℕ). TilesFrom (h.buffer_offset + length piece) (data_pieces
          (data_outs (record h { data_sn = next_sn h.data_sn; buffer_offset = h.buffer_offset + length piece }) more)) end)
          (add_assoc h.buffer_offset (length piece) (length (joined more)) ∙ ap (λ (n : ℕ). h.buffer_offset + n) (sym (length-append piece (joined more))))
          rest,
    )

-- what a write sends in one sequence is its bytes, tiled from the offset
pub sequence_is : (m : InitiatorSession) (lun : Option ℕ) (target_transfer_tag offset : ℕ) (bytes : List ℕ) → 0 < m.held.target_max_recv →
    IsSequence offset bytes (sequence m lun target_transfer_tag offset bytes)
sequence_is m lun target_transfer_tag offset bytes some =
    let whole : joined (chunks m.held.target_max_recv bytes) ≡ bytes = joined_chunks m.held.target_max_recv bytes some in
    record {
      tiles = subst (λ (ys : List ℕ). TilesFrom offset (data_pieces (sequence m lun target_transfer_tag offset bytes)) (offset + length ys)) whole
          (tiles _ (chunks m.held.target_max_recv bytes));
      carries = carries _ (chunks m.held.target_max_recv bytes) ∙ whole;
    }

-- Messages as bytes.
use Rattle.std.proofs.Common.{◌≡◌, ℕ, List, [], ◌∷◌, ◌++◌, append-nil, append_assoc, length, sym, ap, ◌∙◌}
use Rattle.std.specs.Prelude.{not, ◌==◌}
use Rattle.iscsi_pdu.specs.Meaning.{whole}
use Rattle.iscsi_pdu.specs.declared.head.Head.{Head}
use Rattle.iscsi_pdu.specs.declared.head.Head.TheVariants as heads
use Rattle.iscsi_stream.specs.Segment.{Bytes, segment_bytes}
use Rattle.iscsi_stream.specs.Canonical.{canon}
use Rattle.iscsi_initiator.specs.State.{InitiatorSession}
use Rattle.iscsi_initiator.specs.Full.{data_outs}
use Rattle.iscsi_stream.specs.Pieces.{chunks}
use Rattle.iscsi_initiator.specs.Submitted.{command_head, has_more, immediate_data, unsolicited, write_submitted}
use Rattle.iscsi_initiator.specs.inner.Inside.{unsolicited_head}

-- one message as bytes
pub one_message : (head : Head) (bytes : List ℕ) → whole head bytes ≡ canon (record { head = head; segment = Bytes bytes } ∷ [])
unfolding segment_bytes
one_message head bytes = sym (append-nil (whole head bytes))

-- a write's command and its unsolicited data as bytes
pub write_sent : (m : InitiatorSession) (lun : ℕ) (cdb bytes old mid new : List ℕ)
    → mid ≡ old ++ whole (heads.ScsiCommand (record (command_head m (not (has_more m bytes)) lun cdb)
    { write = not (length bytes == 0); expected_data_transfer_length = length bytes })) (immediate_data m bytes)
    → new ≡ mid ++ canon (data_outs (unsolicited_head m bytes) (chunks m.held.target_max_recv (unsolicited m bytes))) → new ≡ old
    ++ canon (write_submitted m lun cdb bytes).output
unfolding segment_bytes
write_sent m lun cdb bytes old mid new a b =
    b ∙ ap (λ (x : List ℕ). x ++ canon (data_outs (unsolicited_head m bytes) (chunks m.held.target_max_recv (unsolicited m bytes)))) a
    ∙ append_assoc old
    (whole (heads.ScsiCommand (record (command_head m (not (has_more m bytes)) lun cdb)
    { write = not (length bytes == 0); expected_data_transfer_length = length bytes }))
    (immediate_data m bytes))
    (canon (data_outs (unsolicited_head m bytes) (chunks m.held.target_max_recv (unsolicited m bytes))))

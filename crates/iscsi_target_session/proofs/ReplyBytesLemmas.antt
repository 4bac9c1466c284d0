-- Answers as bytes.
use Rattle.std.proofs.Common.{◌≡◌, ℕ, List, [], ◌∷◌, sym}
use Rattle.std.proofs.lemmas.List.{append-nil}
use Rattle.iscsi_pdu.specs.Meaning.{whole}
use Rattle.iscsi_pdu.specs.declared.head.Head.{Head}
use Rattle.iscsi_stream.specs.Segment.{segment_bytes}
use Rattle.iscsi_stream.specs.Canonical.{canon}
use Rattle.iscsi_target_session.specs.Session.{answer_message}

-- one answer as bytes
pub one_answer : (head : Head) (bytes : List ℕ) → whole head bytes ≡ canon (answer_message head bytes ∷ [])
unfolding segment_bytes
one_answer head bytes = sym (append-nil (whole head bytes))

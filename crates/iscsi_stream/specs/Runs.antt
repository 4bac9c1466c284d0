-- Whole runs of a framer: any pieces, fed in any way, and each ready PDU taken when its caller
-- likes.
use Rattle.std.specs.Prelude.{◌≡◌, ℕ, List, [], ◌∷◌, ◌++◌, take}
use Rattle.iscsi_pdu.specs.declared.head.Head.{Head}
use Rattle.iscsi_pdu.specs.Meaning.{Means}
use Rattle.iscsi_stream.specs.declared.logins.Logins.{Logins}
use Rattle.iscsi_stream.specs.Segment.{continues, logins_after}
use Rattle.iscsi_stream.specs.Stream.{Message, message}
use Rattle.iscsi_stream.specs.Framing.{Framing, FramerTakes, pdu_given_up, is_ready}
use Rattle.std.specs.Bool.{IsTrue}

-- a call of feed that took n bytes of the piece, or a call of take that gave up the PDU
pub data Call : Type 0 where
  Feed : (piece : List ℕ) (taken : ℕ) → Call
  Take : (head : Head) (segment : List ℕ) → Call

-- the calls lead from one state to the other
unfoldable pub FramerRuns : Framing → List Call → Framing → Type 0
FramerRuns old [] new = old ≡ new
FramerRuns old (Feed piece taken ∷ calls) new = (mid : Framing) × FramerTakes old piece taken mid
    × FramerRuns mid calls new
FramerRuns old (Take head segment ∷ calls) new = IsTrue (is_ready old) × Means old.held head segment
    × FramerRuns (pdu_given_up old head) calls new

-- the bytes that the calls took, in order
unfoldable pub call_bytes : List Call → List ℕ
call_bytes [] = []
call_bytes (Feed piece taken ∷ calls) = take taken piece ++ call_bytes calls
call_bytes (Take head segment ∷ calls) = call_bytes calls

-- the meanings of the PDUs that they gave up, in order
unfoldable pub messages_of : Logins → List Call → List Message
messages_of logins [] = []
messages_of logins (Feed piece taken ∷ calls) = messages_of logins calls
messages_of logins (Take head segment ∷ calls) =
    message (continues logins head) head segment ∷ messages_of (logins_after logins head) calls

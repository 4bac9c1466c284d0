-- Streams of PDUs, and what they mean (RFC 7143, section 11: PDUs follow one another without a
-- gap).
use Rattle.std.specs.Prelude.{◌≡◌, ◌≤◌, ℕ, ◌+◌, Bool, List, [], ◌∷◌, ◌++◌, length}
use Rattle.iscsi_pdu.specs.declared.head.Head.{Head}
use Rattle.iscsi_pdu.specs.Meaning.{Means, padding}
use Rattle.iscsi_stream.specs.declared.logins.Logins.{Logins}
use Rattle.iscsi_stream.specs.Segment.{Segment, no_login, continues, logins_after, segment_of}

-- the length of a PDU whose segment has n bytes
abbrev pub pdu_len : ℕ → ℕ
pdu_len n = 48 + n + padding n

-- a PDU's head, and what its segment means
pub record Message : Type 0 where
  pub head : Head
  pub segment : Segment

-- the message of a PDU with these bytes in its segment, which continues another or does not
abbrev pub message : Bool → Head → List ℕ → Message
message continued head bytes = record { head = head; segment = segment_of continued head bytes }

-- The stream begins with a PDU of this meaning, whose segment is within the limit; the rest follows
-- it.
pub record BeginsWithPdu (limit : ℕ) (logins : Logins) (stream : List ℕ) (m : Message) : Type
    0 where
  pub bytes : List ℕ
  pub segment : List ℕ
  pub rest : List ℕ
  pub whole : stream ≡ bytes ++ rest
  pub means : Means bytes m.head segment
  pub within : length segment ≤ limit
  pub meaning : m.segment ≡ segment_of (continues logins m.head) m.head segment

-- The stream is PDUs of these meanings, one after another, each with a segment within the limit.
unfoldable pub ReadsAs : ℕ → Logins → List ℕ → List Message → Type 0
ReadsAs limit logins stream [] = stream ≡ []
ReadsAs limit logins stream (m ∷ ms) = (first : BeginsWithPdu limit logins stream m)
    × ReadsAs limit (logins_after logins m.head) first.rest ms

-- No segment is longer: its length has three bytes.
abbrev pub longest_segment : ℕ
longest_segment = 16777215

-- The stream means ms. It is in the profile if there is such a list.
abbrev pub StreamMeans : List ℕ → List Message → Type 0
StreamMeans stream ms = ReadsAs longest_segment no_login stream ms

-- what the login PDUs among these say of those that follow
abbrev pub logins_after_all : Logins → List Message → Logins
logins_after_all logins [] = logins
logins_after_all logins (m ∷ ms) = logins_after_all (logins_after logins m.head) ms

-- No PDU with a segment within the limit begins the bytes.
abbrev pub NoPdu : ℕ → List ℕ → Type 0
NoPdu limit rest = (bytes segment more : List ℕ) (head : Head) → rest ≡ bytes ++ more →
    Means bytes head segment → length segment ≤ limit → ⊥

-- The stream begins with PDUs of these meanings, which have the given bytes; the rest follows them.
pub record BeginsWithPdus (limit : ℕ) (stream : List ℕ) (ms : List Message)
    (given rest : List ℕ) : Type 0 where
  pub whole : stream ≡ given ++ rest
  pub reads : ReadsAs limit no_login given ms

-- The same, and no PDU begins the rest: given is the longest prefix of the stream that is PDUs
-- within the limit.
pub record SplitsStream (limit : ℕ) (stream : List ℕ) (ms : List Message)
    (given rest : List ℕ) : Type 0 where
  pub reaches : BeginsWithPdus limit stream ms given rest
  pub no_more : NoPdu limit rest

-- What a framer holds, and what its calls do.
use Rattle.std.specs.Prelude.{◌≡◌, ◌≤◌, ◌<◌, ℕ, ◌+◌, ◌-◌, ◌^◌, Bool, true, false, not, ◌&&◌, ◌==◌, nat_lt, if◌then◌else◌, List, [], ◌∷◌, ◌++◌, length, take, drop, min, max, Some, replicate}
use Rattle.scsi_cdb.specs.Layout.{number_at}
use Rattle.iscsi_pdu.specs.declared.head.Head.{Head}
use Rattle.iscsi_pdu.specs.Meaning.{IsHeader, head_fault}
use Rattle.iscsi_stream.specs.declared.fault.StreamFault.{StreamFault}
use Rattle.iscsi_stream.specs.declared.fault.StreamFault.TheVariants as faults
use Rattle.iscsi_stream.specs.declared.logins.Logins.{Logins}
use Rattle.iscsi_stream.specs.Segment.{no_login, continues, logins_after}
use Rattle.iscsi_stream.specs.Stream.{pdu_len, Message, message, ReadsAs, logins_after_all}

-- A framer as its callers see it: the longest segment that it takes, and the place of the PDU that
-- is ready, begun or next. It also has what the login PDUs before that PDU said, the bytes gathered
-- of that PDU, and how long a segment its buffer has room for. `failed` says whether there was a
-- fault. Padding counts as gathered, but its bytes are not kept: they stand as 0.
pub record Framing : Type 0 where
  pub limit : ℕ
  pub place : ℕ
  pub logins : Logins
  pub held : List ℕ
  pub room : ℕ
  pub failed : Bool

-- a framer at the beginning of a stream
abbrev pub opening_framing : ℕ → Framing
opening_framing limit = record {
  limit = limit;
  place = 0;
  logins = no_login;
  held = [];
  room = 0;
  failed = false;
}

-- the length of the segment, as bytes 5 to 7 say it
abbrev pub length_at : List ℕ → ℕ
length_at bytes = number_at 5 7 bytes

-- how much of a begun PDU is header and segment
abbrev pub content_len : List ℕ → ℕ
content_len bytes = 48 + length_at bytes

-- the bytes of a begun PDU, with those of its padding as 0
unfoldable pub settled : List ℕ → List ℕ
settled bytes = take (content_len bytes) bytes ++ replicate (length bytes - content_len bytes) 0

-- the bytes are as many as their header says
unfoldable pub is_whole_pdu : List ℕ → Bool
is_whole_pdu bytes = not (nat_lt (length bytes) 48) && (length bytes == pdu_len (length_at bytes))

-- the length of the segment of a PDU that is begun, where its header is whole
unfoldable pub begun_len : List ℕ → ℕ
begun_len bytes = if nat_lt (length bytes) 48 then 0 else length_at bytes

-- these bytes are gathered, and the buffer has room for their segment
abbrev pub holding : Framing → List ℕ → Framing
holding v bytes = record v { held = bytes; room = max v.room (begun_len bytes) }

-- The bytes are a header within the limit, and as much of its segment and padding as has come.
pub record IsGood (limit : ℕ) (bytes : List ℕ) (head : Head) : Type 0 where
  pub header : IsHeader (take 48 bytes) head (length_at bytes)
  pub within : length_at bytes ≤ limit
  pub no_more : length bytes ≤ pdu_len (length_at bytes)

-- Nothing is wrong with the bytes so far, of which the header may be whole or not.
abbrev pub IsBegun : ℕ → List ℕ → Type 0
IsBegun limit bytes = 48 ≤ length bytes → (head : Head) × IsGood limit bytes head

abbrev pub is_ready : Framing → Bool
is_ready v = not v.failed && is_whole_pdu v.held

-- the farthest place that is told
abbrev pub last_place : ℕ
last_place = 2 ^ 64 - 1

-- The framer takes the first n bytes of the piece. It leaves bytes only where a PDU is ready.
pub record FramerTakes (old : Framing) (piece : List ℕ) (n : ℕ) (new : Framing) : Type 0 where
  pub live : old.failed ≡ false
  pub bound : n ≤ length piece
  pub gathered : new ≡ holding old (settled (old.held ++ take n piece))
  pub begun : IsBegun new.limit new.held
  pub stops : n < length piece → is_whole_pdu new.held ≡ true

-- The piece reaches the last byte of a header.
pub record ReachesHeader (held piece : List ℕ) : Type 0 where
  pub before : length held < 48
  pub reached : 48 ≤ length (held ++ piece)

-- The piece completes a header of this head and length.
pub record CompletesHeader (held piece : List ℕ) (head : Head) (len : ℕ) : Type 0 where
  pub reaches : ReachesHeader held piece
  pub header : IsHeader (take 48 (held ++ piece)) head len

-- When feed answers each fault: `NoMemory` where a header is whole, for its segment alone, and
-- where the buffer has no room for it.
abbrev pub FramerFeedFails : Framing → List ℕ → StreamFault → Type 0
FramerFeedFails old piece faults.NoMemory = (old.failed ≡ false)
    × ((head : Head) × (len : ℕ) × CompletesHeader old.held piece head len × (old.room < len)
    × (len ≤ old.limit))
FramerFeedFails old piece (faults.Head fault place) =
    (old.failed ≡ false) × ReachesHeader old.held piece
    × (head_fault (take 48 (old.held ++ piece)) ≡ Some fault) × (place ≡ old.place)
FramerFeedFails old piece (faults.OverLimit place) = (old.failed ≡ false)
    × ((head : Head) × (len : ℕ) × CompletesHeader old.held piece head len × (old.limit < len))
    × (place ≡ old.place)
FramerFeedFails old piece (faults.Truncated place) = ⊥
FramerFeedFails old piece faults.Failed = old.failed ≡ true

-- when finish answers each fault
abbrev pub FinishFails : Framing → StreamFault → Type 0
FinishFails old faults.NoMemory = ⊥
FinishFails old (faults.Head fault place) = ⊥
FinishFails old (faults.OverLimit place) = ⊥
FinishFails old (faults.Truncated place) = (old.failed ≡ false) × (0 < length old.held)
    × (is_whole_pdu old.held ≡ false) × (place ≡ old.place)
FinishFails old faults.Failed = old.failed ≡ true

-- a framer that answers Failed from now on, and holds nothing
abbrev pub stopped : Framing → Framing
stopped v = record v { held = []; failed = true }

-- A PDU with this head is given up.
abbrev pub pdu_given_up : Framing → Head → Framing
pdu_given_up v head = record v {
  place = min (v.place + length v.held) last_place;
  logins = logins_after v.logins head;
  held = [];
}

-- the message of a PDU that is ready
abbrev pub message_of : Framing → Head → List ℕ → Message
message_of v head segment = message (continues v.logins head) head segment

-- the longest segment of the PDUs of these meanings that begin the bytes
unfoldable pub longest_of : List Message → List ℕ → ℕ
longest_of [] bytes = 0
longest_of (m ∷ ms) bytes = max (length_at bytes)
    (longest_of ms (drop (pdu_len (length_at bytes)) bytes))

-- A framer that has taken these bytes of a stream and given up PDUs of these meanings, whichever
-- pieces the bytes came in.
pub record HasTaken (stream : List ℕ) (ms : List Message) (v : Framing) : Type 0 where
  pub given : List ℕ
  pub rest : List ℕ
  pub whole : stream ≡ given ++ rest
  pub reads : ReadsAs v.limit no_login given ms
  pub place : v.place ≡ min (length given) last_place
  pub logins : v.logins ≡ logins_after_all no_login ms
  pub held : v.held ≡ settled rest
  pub room : v.room ≡ max (longest_of ms given) (begun_len rest)
  pub begun : IsBegun v.limit rest
  pub live : v.failed ≡ false

-- Between the two states the framer took these bytes and gave up PDUs of these meanings.
abbrev pub FramerMoves : Framing → Framing → List ℕ → List Message → Type 0
FramerMoves old new bytes more = (stream : List ℕ) (ms : List Message) → HasTaken stream ms old →
    HasTaken (stream ++ bytes) (ms ++ more) new

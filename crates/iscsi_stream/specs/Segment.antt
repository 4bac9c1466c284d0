-- What a PDU's segment means, and which login PDU continues another (RFC 7143, sections 6.2, 11.12
-- and 11.13).
use Rattle.std.specs.Prelude.{ℕ, Bool, true, false, not, ◌&&◌, List, Option, Some, None}
use Rattle.iscsi_text.specs.Text.{Pairs}
use Rattle.iscsi_text.specs.Canonical.{canonical_text}
use Rattle.iscsi_text.specs.Reading.{text_in}
use Rattle.iscsi_pdu.specs.declared.head.Head.{Head}
use Rattle.iscsi_pdu.specs.declared.head.Head.TheVariants.{LoginRequest, LoginResponse}
use Rattle.iscsi_stream.specs.declared.logins.Logins.{Logins}

-- A segment means its bytes, or the map of a text.
pub data Segment : Type 0 where
  Bytes : List ℕ → Segment
  Text : Pairs → Segment

-- before any login PDU
abbrev pub no_login : Logins
no_login = record { request = false; response = false }

-- A login PDU continues another where the last PDU of its kind before it has the C bit.
unfoldable pub continues : Logins → Head → Bool
continues logins (LoginRequest h) = logins.request
continues logins (LoginResponse h) = logins.response
continues logins _ = false

-- what the login PDUs say of those that follow, once a PDU with this head is among them
unfoldable pub logins_after : Logins → Head → Logins
logins_after logins (LoginRequest h) = record logins { request = h.continues }
logins_after logins (LoginResponse h) = record logins { response = h.continues }
logins_after logins _ = logins

-- a login PDU that no other continues
abbrev pub is_last_login_pdu : Head → Bool
is_last_login_pdu (LoginRequest h) = not h.continues
is_last_login_pdu (LoginResponse h) = not h.continues
is_last_login_pdu _ = false

-- the map, or the bytes where they are no text
abbrev pub text_or_bytes : Option Pairs → List ℕ → Segment
text_or_bytes None bytes = Bytes bytes
text_or_bytes (Some pairs) bytes = Text pairs

-- a segment that is a whole text or not
abbrev pub segment_if : Bool → List ℕ → Segment
segment_if true bytes = text_or_bytes (text_in bytes) bytes
segment_if false bytes = Bytes bytes

-- What the bytes of a segment mean behind a head, in a PDU that continues another or does not. A
-- login PDU that neither continues one nor is continued has a whole text, and every other segment
-- means its bytes.
unfoldable pub segment_of : Bool → Head → List ℕ → Segment
segment_of continued head bytes = segment_if (not continued && is_last_login_pdu head) bytes

-- the bytes that stand for a segment in the canonical form
unfoldable pub segment_bytes : Segment → List ℕ
segment_bytes (Bytes bytes) = bytes
segment_bytes (Text pairs) = canonical_text pairs

-- A framer whose caller takes the segment of a PDU itself: the framer stops at the end of the
-- header.
use Rattle.std.specs.Prelude.{◌≤◌, ◌<◌, ℕ, ◌+◌, List, [], length, take, min, max}
use Rattle.iscsi_pdu.specs.declared.head.Head.{Head}
use Rattle.iscsi_stream.specs.Segment.{logins_after}
use Rattle.iscsi_stream.specs.Stream.{pdu_len}
use Rattle.iscsi_stream.specs.Framing.{Framing, FramerTakes, last_place}

-- The framer takes the first n bytes of the piece, as those of a piece of their own: none behind a
-- header. It leaves bytes only where a header is whole.
pub record TakesHeader (old : Framing) (piece : List ℕ) (n : ℕ) (new : Framing) : Type 0 where
  pub bound : n ≤ length piece
  pub takes : FramerTakes old (take n piece) n new
  pub no_more : length old.held + n ≤ max 48 (length old.held)
  pub stops : n < length piece → 48 ≤ length new.held

-- A PDU whose header alone came is given up: a head, and a segment of n bytes with its padding.
abbrev pub skipped : Framing → Head → ℕ → Framing
skipped v head len = record v {
  place = min (v.place + pdu_len len) last_place;
  logins = logins_after v.logins head;
  held = [];
}

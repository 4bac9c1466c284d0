-- The canonical stream: each PDU with its free bits and its padding as the profile writes them.
use Rattle.std.specs.Prelude.{ℕ, List, length}
use Rattle.std.specs.List.{flat_map}
use Rattle.iscsi_pdu.specs.Meaning.{header, whole}
use Rattle.iscsi_stream.specs.Segment.{segment_bytes}
use Rattle.iscsi_stream.specs.Stream.{Message}

-- the header of a message's canonical form, with the length of the canonical segment
abbrev pub canonical_header : Message → List ℕ
canonical_header m = header m.head (length (segment_bytes m.segment))

-- the canonical form of a message: header, segment, padding of zeros
abbrev pub canonical_bytes : Message → List ℕ
canonical_bytes m = whole m.head (segment_bytes m.segment)

-- the canonical stream of a meaning
abbrev pub canon : List Message → List ℕ
canon ms = flat_map canonical_bytes ms

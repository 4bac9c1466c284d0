-- More of `Gathering`, of which no public contract speaks.
use Rattle.std.specs.Prelude.{◌≡◌, ◌≤◌, ◌<◌, ℕ, ◌+◌, true, List, [], ◌++◌, length, take, Some}
use Rattle.iscsi_pdu.specs.declared.head.Head.{Head}
use Rattle.iscsi_pdu.specs.Meaning.{IsHeader, HeadFits, head_fault, padding}
use Rattle.iscsi_stream.specs.declared.fault.StreamFault.{StreamFault}
use Rattle.iscsi_stream.specs.declared.fault.StreamFault.TheVariants as faults
use Rattle.iscsi_stream.specs.declared.gathering.Stage.{Stage}
use Rattle.iscsi_stream.specs.declared.gathering.Stage.TheVariants.{Header, Body}
use Rattle.iscsi_stream.specs.Framing.{settled, is_whole_pdu, IsBegun, ReachesHeader, CompletesHeader}

-- what there is of a PDU's body: bytes of the segment, and how many of its padding
pub record Filling : Type 0 where
  pub segment : List ℕ
  pub padded : ℕ

-- these two together
abbrev pub filling : List ℕ → ℕ → Filling
filling segment padded = record { segment = segment; padded = padded }

-- What is kept of a PDU whose header is whole and says so, in a buffer with room for n bytes.
pub record IsBody (limit : ℕ) (header : List ℕ) (body : Filling) (room : ℕ) (head : Head)
    (len : ℕ) : Type 0 where
  pub says : IsHeader header head len
  pub fits : HeadFits head
  pub within : len ≤ limit
  pub has_room : len ≤ room
  pub no_more : length body.segment ≤ len
  pub no_more_padding : body.padded ≤ padding len
  pub order : 0 < body.padded → length body.segment ≡ len

-- a buffer of this capacity has room for a segment within the limit
abbrev pub HasSegmentRoom : ℕ → ℕ → ℕ → Type 0
HasSegmentRoom limit capacity room = (room ≤ limit) × (room ≤ capacity)

-- this holds of what a framer keeps
abbrev pub FramerInv : ℕ → List ℕ → List ℕ → ℕ → Stage → Type 0
FramerInv limit header segment room (Header filled) = (length header ≡ 48) × (filled < 48)
    × (segment ≡ [])
FramerInv limit header segment room (Body head len padded) = (length header ≡ 48)
    × IsBody limit header (filling segment padded) room head len

-- The first n bytes of the piece are gathered: all of the piece, or as many as make a whole PDU.
pub record GathersPdu (limit : ℕ) (old piece : List ℕ) (n : ℕ) (new : List ℕ) : Type 0 where
  pub bound : n ≤ length piece
  pub gathered : new ≡ settled (old ++ take n piece)
  pub begun : IsBegun limit new
  pub stops : n < length piece → is_whole_pdu new ≡ true

-- The first n bytes of the piece go to the segment and then to its padding: all of the piece, or as
-- many as are missing.
pub record FillsBody (len : ℕ) (old : Filling) (piece : List ℕ) (n : ℕ)
    (new : Filling) : Type 0 where
  pub count : ℕ
  pub bound : n ≤ length piece
  pub parts : n + old.padded ≡ count + new.padded
  pub count_bound : count ≤ n
  pub appended : new.segment ≡ old.segment ++ take count piece
  pub no_more : length new.segment ≤ len
  pub no_more_padding : new.padded ≤ padding len
  pub order : 0 < new.padded → length new.segment ≡ len
  pub stops : n < length piece → (length new.segment ≡ len) × (new.padded ≡ padding len)

-- when a whole header is refused
abbrev pub HeaderFails : List ℕ → ℕ → ℕ → ℕ → StreamFault → Type 0
HeaderFails header limit place room faults.NoMemory = (head : Head) × (len : ℕ)
    × IsHeader header head len × (room < len) × (len ≤ limit)
HeaderFails header limit place room (faults.Head fault at) = (head_fault header ≡ Some fault)
    × (at ≡ place)
HeaderFails header limit place room (faults.OverLimit at) =
    ((head : Head) × (len : ℕ) × IsHeader header head len × (limit < len)) × (at ≡ place)
HeaderFails header limit place room (faults.Truncated at) = ⊥
HeaderFails header limit place room faults.Failed = ⊥

-- when bytes of a piece are refused
abbrev pub GatherFails : ℕ → ℕ → ℕ → List ℕ → List ℕ → StreamFault → Type 0
GatherFails limit place room held piece faults.NoMemory = (head : Head) × (len : ℕ)
    × CompletesHeader held piece head len × (room < len) × (len ≤ limit)
GatherFails limit place room held piece (faults.Head fault at) = ReachesHeader held piece
    × (head_fault (take 48 (held ++ piece)) ≡ Some fault) × (at ≡ place)
GatherFails limit place room held piece (faults.OverLimit at) =
    ((head : Head) × (len : ℕ) × CompletesHeader held piece head len × (limit < len)) × (at ≡ place)
GatherFails limit place room held piece (faults.Truncated at) = ⊥
GatherFails limit place room held piece faults.Failed = ⊥

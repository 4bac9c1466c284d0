-- What one side of a comparison has read, taken and given up. No reader of a contract needs these.
use Rattle.std.specs.Prelude.{◌≡◌, ◌≤◌, ℕ, ◌+◌, ◌-◌, ◌*◌, Bool, true, false, List, [], ◌++◌, length, take, drop, Option}
use Rattle.std.specs.Io.KnownBytes.{Consumes}
use Rattle.iscsi_pdu.specs.declared.head.Head.{Head}
use Rattle.iscsi_pdu.specs.Meaning.{AreBytes, Means}
use Rattle.iscsi_stream.specs.declared.fault.StreamFault.{StreamFault}
use Rattle.iscsi_stream.specs.declared.fault.StreamFault.TheVariants as stream
use Rattle.iscsi_stream.specs.Stream.{Message, longest_segment}
use Rattle.iscsi_stream.specs.Canonical.{canonical_bytes}
use Rattle.iscsi_stream.specs.Framing.{Framing, HasTaken, message_of}
use Rattle.iscsi_compare.specs.declared.fault.Which.{Which}
use Rattle.iscsi_compare.specs.declared.fault.CompareFault.{CompareFault}
use Rattle.iscsi_compare.specs.declared.fault.CompareFault.TheVariants as fault
use Rattle.iscsi_compare.specs.declared.side.Side.{Side}
use Rattle.iscsi_compare.specs.Comparing.{ReadInput, BeginsWithMessages, MeansAll, NoPduFollows, IsRefused}
use Rattle.iscsi_compare.specs.inner.Comparing.{input_of}

-- a stream's `NoMemory` is the comparison's own
abbrev pub compare_fault : Which → StreamFault → CompareFault
compare_fault which stream.NoMemory = fault.NoMemory
compare_fault which (stream.Head f place) = fault.Stream which (stream.Head f place)
compare_fault which (stream.OverLimit place) = fault.Stream which (stream.OverLimit place)
compare_fault which (stream.Truncated place) = fault.Stream which (stream.Truncated place)
compare_fault which stream.Failed = fault.Stream which stream.Failed

-- the bytes of the piece that the framer has not taken
abbrev pub pending : Side → List ℕ
pending side = take (side.to - side.from) (drop side.from side.piece)

-- how many bytes can still be given up
abbrev pub fuel : Side → ℕ
fuel side = 4096 * (16777216 - side.reads) + (side.to - side.from) + length side.framer.held

-- The cursors lie in the piece, and the reads are counted.
pub record IsOpen (side : Side) : Type 0 where
  pub order : side.from ≤ side.to
  pub within : side.to ≤ 4096
  pub piece : length side.piece ≡ 4096
  pub reads : side.reads ≤ 16777216

-- Of what was read, PDUs of these meanings were given up, and the framer took all but the rest.
pub record PdusGivenUp (read : List ℕ) (ms : List Message) (v : Framing) (rest : List ℕ) (reads : ℕ)
    : Type 0 where
  pub front : List ℕ
  pub whole : read ≡ front ++ rest
  pub taken : HasTaken front ms v
  pub bytes : AreBytes read
  pub limit : v.limit ≡ longest_segment
  pub small : length read ≤ 4096 * reads
  pub counted : reads ≤ 16777216

-- The same of a side, of whose piece the framer has not taken what is pending.
abbrev pub HasRead : List ℕ → List Message → Side → Type 0
HasRead read ms side = PdusGivenUp read ms side.framer (pending side) side.reads

-- Whatever was read of the side before: a reader gave a piece more, and then this holds of what was
-- read.
abbrev pub SideReadsOn : Side → Option (List ℕ) → Option (List ℕ)
    → (ReadInput → List Message → Type 0)
    → Type 0
SideReadsOn side before after Holds =
    (read : List ℕ) (ms : List Message) → HasRead read ms side
    → (piece : List ℕ) × Consumes before after piece × AreBytes (read ++ piece)
    × Holds (input_of (read ++ piece) after) ms

-- The side has read this, and where no PDU follows the stream has ended.
abbrev pub SideHasRead : Bool → Side → ReadInput → List Message → Type 0
SideHasRead true side input ms = HasRead input.read ms side
SideHasRead false side input ms = HasRead input.read ms side × MeansAll input ms

-- what stands behind PDUs of these meanings where a fault is answered
abbrev pub SideFails : CompareFault → Which → ReadInput → List Message → Type 0
SideFails fault.NoMemory which input ms = BeginsWithMessages input ms
SideFails (fault.Stream w f) which input ms = (w ≡ which) × IsRefused f input ms
SideFails (fault.Read w) which input ms = (w ≡ which) × NoPduFollows input ms

-- the canonical form of the PDU that is ready, or nothing
abbrev pub FormIf : Bool → Framing → List ℕ → Type 0
FormIf true v form =
    (head : Head) × (segment : List ℕ) × Means v.held head segment
    × (form ≡ canonical_bytes (message_of v head segment))
FormIf false v form = form ≡ []

-- What is written for a stream that is read: its canonical stream, or a line for each PDU.
use Rattle.std.specs.Prelude.{◌≡◌, ◌≤◌, ◌<◌, ℕ, List, length, take, Option, Result, Some, Ok, Err}
use Rattle.std.specs.Io.KnownBytes.{Appends}
use Rattle.iscsi_pdu.specs.Meaning.{head_fault}
use Rattle.iscsi_stream.specs.declared.fault.StreamFault.{StreamFault}
use Rattle.iscsi_stream.specs.declared.fault.StreamFault.TheVariants as stream
use Rattle.iscsi_stream.specs.declared.fault.ToolFault.{ToolFault}
use Rattle.iscsi_stream.specs.declared.fault.ToolFault.TheVariants as tool
use Rattle.iscsi_stream.specs.declared.counts.Counts.{Counts}
use Rattle.iscsi_stream.specs.Stream.{Message, StreamMeans, longest_segment, NoPdu, BeginsWithPdus}
use Rattle.iscsi_stream.specs.Canonical.{canon}
use Rattle.iscsi_stream.specs.Shown.{AreLines}
use Rattle.iscsi_stream.specs.Framing.{IsBegun}

-- The rest begins with a header that is refused, or it is begun and not whole; the fault names its
-- place. No segment is over the limit.
abbrev pub StreamRestFails : StreamFault → List ℕ → List ℕ → Type 0
StreamRestFails (stream.Head fault place) given rest = (48 ≤ length rest)
    × (head_fault (take 48 rest) ≡ Some fault) × (place ≡ length given)
StreamRestFails (stream.Truncated place) given rest =
    (0 < length rest) × IsBegun longest_segment rest
    × (place ≡ length given)
StreamRestFails _ given rest = ⊥

-- The counts are exact.
pub record AreCounts (counts : Counts) (ms : List Message) (read written : List ℕ) : Type 0 where
  pub pdus : counts.pdus ≡ length ms
  pub bytes_in : counts.bytes_in ≡ length read
  pub bytes_out : counts.bytes_out ≡ length written

-- The first PDUs of what was read, and the bytes before and behind their end.
abbrev pub ReadParts : List ℕ → (List Message → List ℕ → List ℕ → Type 0) → Type 0
ReadParts read P = (ms : List Message) × (given : List ℕ) × (rest : List ℕ)
    × BeginsWithPdus longest_segment read ms given rest × P ms given rest

-- What was read and written if a fault is answered: what is due for the PDUs before the fault. If
-- memory ran out, it is what is due for some first of these PDUs; if a write failed, it is a part
-- of that.
abbrev pub WritesUntil : (List Message → List ℕ → Type 0) → ToolFault → List ℕ → List ℕ → Type 0
WritesUntil Due tool.NoMemory read written = ReadParts read (λ ms given rest. Due ms written)
WritesUntil Due (tool.Stream fault) read written = ReadParts read
    (λ ms given rest. NoPdu longest_segment rest × Due ms written
    × StreamRestFails fault given rest)
WritesUntil Due tool.Read read written = ReadParts read
    (λ ms given rest. NoPdu longest_segment rest × Due ms written)
WritesUntil Due tool.Write read written = ReadParts read
    (λ ms given rest. (due : List ℕ) × (n : ℕ) × Due ms due × (written ≡ take n due))
WritesUntil Due _ read written = ⊥

-- What was read and written where a call answers that writes what is due for each PDU.
abbrev pub WriteDuePost : (List Message → List ℕ → Type 0) → Result Counts ToolFault → List ℕ
    → List ℕ →
    Type 0
WriteDuePost Due (Ok counts) read written =
    (ms : List Message) × StreamMeans read ms × Due ms written
    × AreCounts counts ms read written
WriteDuePost Due (Err fault) read written = WritesUntil Due fault read written

-- Normalising writes the canonical stream of the PDUs.
abbrev pub IsCanonical : List Message → List ℕ → Type 0
IsCanonical ms written = written ≡ canon ms

-- What normalise has read and written where it answers Ok: the canonical stream.
abbrev pub IsNormalised : Counts → List ℕ → List ℕ → Type 0
IsNormalised counts read written = (ms : List Message) × StreamMeans read ms
    × IsCanonical ms written × AreCounts counts ms read written

-- What show has read and written where it answers.
abbrev pub ShowPost : Result Counts ToolFault → List ℕ → List ℕ → Type 0
ShowPost result read written = WriteDuePost AreLines result read written

-- Where normalise or show answers Ok or Truncated, it has read to the end.
abbrev pub AtEnd : Result Counts ToolFault → Type 0 → Type 0
AtEnd (Ok counts) Ended = Ended
AtEnd (Err (tool.Stream (stream.Truncated place))) Ended = Ended
AtEnd (Err fault) Ended = Unit {0}

-- a front of the bytes was written
abbrev pub WroteFront : Option (List ℕ) → Option (List ℕ) → List ℕ → Type 0
WroteFront old new bytes = (n : ℕ) × Appends old new (take n bytes)

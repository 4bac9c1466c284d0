-- What a captured direction gives to who reads it, when it ends, and why it fails.
use Rattle.std.specs.Prelude.{◌≡◌, ◌⊎◌, ℕ, Bool, true, false, List, [], ◌∷◌, ◌++◌, slice_get, Option, Some, None, IfSome, Result, Ok, Err}
use Rattle.std.specs.Io.KnownBytes.{Consumes, IsAtEnd}
use Rattle.capture_file.specs.declared.fault.PacketFault.{PacketFault}
use Rattle.capture_file.specs.declared.fault.PacketFault.TheVariants as packets
use Rattle.capture_file.specs.declared.segment.Segment.{Segment}
use Rattle.capture_file.specs.Segments.{plain_segment, segment_in}
use Rattle.iscsi_captures.specs.declared.captured.Wanted.{Wanted}
use Rattle.capture_connections.specs.declared.connections.Connection.{Connection}
use Rattle.capture_connections.specs.declared.ends.Side.{Side}
use Rattle.iscsi_captures.specs.declared.fault.CapturesFault.{CapturesFault}
use Rattle.iscsi_captures.specs.declared.fault.CapturesFault.TheVariants as faults
use Rattle.iscsi_captures.specs.declared.file.Numbered.{Numbered}
use Rattle.iscsi_captures.specs.declared.file.Stood.{Stood}
use Rattle.iscsi_captures.specs.declared.file.Stood.TheVariants as stood
use Rattle.capture_connections.specs.declared.heard.Heard.{Heard}
use Rattle.capture_connections.specs.Following.{Table, no_connections, stop_at_end}
use Rattle.capture_connections.specs.Sides.{sent_at}
use Rattle.iscsi_captures.specs.Meant.{HearsWanted, IsMeant}

-- ---- what is read

-- A direction of a capture, as far as it was read: the connections, the direction that is wanted, its
-- bytes that are known and were not given yet, whether the file has ended, why it is not read on, and
-- the bytes that the file has left, where they are known.
pub record Listening : Type 0 where
  pub connections : Table
  pub wanted : Wanted
  pub known : List ℕ
  pub ended : Bool
  pub fault : Option CapturesFault
  pub left : Option (List ℕ)

-- a direction of which nothing was read
abbrev pub unread : Wanted → Option (List ℕ) → Listening
unread wanted left = record {
  connections = no_connections;
  wanted = wanted;
  known = [];
  ended = false;
  fault = None;
  left = left;
}

-- From one table to the other these segments came in turn, and these bytes are known more of the
-- direction that is wanted.
abbrev pub AddsWantedBytes : Wanted → Table → List Heard → Table → List ℕ → Type 0
AddsWantedBytes wanted old [] new given = (old ≡ new) × (given ≡ [])
AddsWantedBytes wanted old (heard ∷ segments) new given =
    (next : Table) × (more : List ℕ) × (rest : List ℕ)
    × HearsWanted old heard wanted next more × AddsWantedBytes wanted next segments new rest
    × (given ≡ more ++ rest)

-- the same of some segments
abbrev pub AddsSome : Wanted → Table → Table → List ℕ → Type 0
AddsSome wanted old new given =
    (segments : List Heard) × AddsWantedBytes wanted old segments new given

-- Some bytes of a file were read.
abbrev pub WasRead : Option (List ℕ) → Option (List ℕ) → Type 0
WasRead old new = (read : List ℕ) × Consumes old new read

-- ---- when it ends

-- The connection is there, and nothing of its direction that is wanted is missing.
abbrev pub IsWhole : Table → Wanted → Type 0
IsWhole table wanted = (connection : Connection) × (side : Side)
    × (slice_get table.connections wanted.connection ≡ Some connection)
    × IsMeant connection wanted.end side
    × (stop_at_end (sent_at side connection).stop (sent_at side connection) ≡ None)

-- ---- why it fails

-- What a fault of a direction of the connection with this number says, if the file has this left: it
-- names that connection. The end of the file is told only there. What a failed read or want of memory
-- says is nothing, and no fault is one of opening, of writing, of PDUs or of a capture without a login.
abbrev pub IsFaultOf : ℕ → Option (List ℕ) → CapturesFault → Type 0
IsFaultOf number left faults.Absent = ⊥
IsFaultOf number left faults.NotPermitted = ⊥
IsFaultOf number left faults.Write = ⊥
IsFaultOf number left (faults.Stream connection fault) = ⊥
IsFaultOf number left (faults.Protocol connection rule) = ⊥
IsFaultOf number left faults.NoSession = ⊥
IsFaultOf number left (faults.Assumed connection end offset packet) = ⊥
IsFaultOf number left (faults.Digest connection end part offset packet) = ⊥
IsFaultOf number left (faults.Truncated at) = IsAtEnd left
IsFaultOf number left faults.Empty = IsAtEnd left
IsFaultOf number left (faults.NoConnection connection) = (connection ≡ number) × IsAtEnd left
IsFaultOf number left (faults.Gap connection offset packet) = connection ≡ number
IsFaultOf number left (faults.Conflict connection offset packet) = connection ≡ number
IsFaultOf number left (faults.Long connection) = connection ≡ number
IsFaultOf number left (faults.Reads connection) = ⊥
IsFaultOf number left (faults.Begun connection) = connection ≡ number
IsFaultOf number left _ = Unit {0}

-- the same, whichever direction is wanted
abbrev pub IsFileFault : Option (List ℕ) → CapturesFault → Type 0
IsFileFault left fault = (number : ℕ) → IsFaultOf number left fault

-- a fault of a packet with this place and number
abbrev pub fault_at : ℕ → ℕ → PacketFault → CapturesFault
fault_at at packet (packets.Link link) = faults.Link link at packet
fault_at at packet packets.Fragment = faults.Fragment at packet
fault_at at packet packets.Cut = faults.Cut at packet

-- what a packet of a file has for TCP, or the fault with its place
abbrev pub IsSegmentOf : Numbered → Result (Option Segment) CapturesFault → Type 0
IsSegmentOf numbered (Ok segment) = plain_segment (Ok segment) ≡ segment_in numbered.packet
IsSegmentOf numbered (Err fault) = (reason : PacketFault)
    × (segment_in numbered.packet ≡ Err reason)
    × (fault ≡ fault_at numbered.at numbered.number reason)

-- The file ended, if a step came to its end.
abbrev pub IsEndOf : Option (List ℕ) → Stood → Type 0
IsEndOf left stood.End = IsAtEnd left
IsEndOf left _ = Unit {0}

-- ---- a read

-- The direction was read on, and these bytes given: those that were known first, and then those that
-- segments of the file add. It ends only with the file, and whole. It has a fault only for a reason,
-- and keeps the first.
pub record DirectionReadsOn (old new : Listening) (given : List ℕ) : Type 0 where
  pub wanted : new.wanted ≡ old.wanted
  pub read : WasRead old.left new.left
  pub table : Table
  pub more : List ℕ
  pub adds : AddsSome old.wanted old.connections table more
  pub bytes : old.known ++ more ≡ given ++ new.known
  pub followed : new.fault ≡ None → new.connections ≡ table
  pub ended : new.ended ≡ true → (old.ended ≡ true)
      ⊎ (IsAtEnd new.left × IsWhole new.connections new.wanted)
  pub fault : IfSome new.fault (λ fault. (old.fault ≡ Some fault)
      ⊎ IsFaultOf old.wanted.connection new.left fault)

-- All was given, the file has ended, and there is no fault.
pub record FileHasEnded (new : Listening) : Type 0 where
  pub given : new.known ≡ []
  pub ended : new.ended ≡ true
  pub whole : new.fault ≡ None

-- What the steps of writing a stream keep.
use Rattle.std.specs.Prelude.{◌≡◌, ◌<◌, ℕ, ◌+◌, ◌^◌, false, List, ◌++◌, length}
use Rattle.iscsi_stream.specs.declared.fault.StreamFault.TheVariants as stream
use Rattle.iscsi_stream.specs.declared.fault.ToolFault.{ToolFault}
use Rattle.iscsi_stream.specs.declared.fault.ToolFault.TheVariants as tool
use Rattle.iscsi_stream.specs.declared.counts.Counts.{Counts}
use Rattle.iscsi_stream.specs.Stream.{Message, longest_segment, NoPdu, BeginsWithPdus}
use Rattle.iscsi_pdu.specs.Meaning.{AreBytes}
use Rattle.iscsi_stream.specs.declared.normalising.Form.{Form}
use Rattle.iscsi_stream.specs.declared.normalising.Form.TheVariants.{Canonical, Line}
use Rattle.iscsi_stream.specs.Framing.{Framing, HasTaken, FramerMoves, is_ready}
use Rattle.iscsi_stream.specs.Shown.{AreLines}
use Rattle.iscsi_stream.specs.Normalising.{IsCanonical, StreamRestFails}

-- what is due for PDUs in this form
abbrev pub IsDueOutput : Form → List Message → List ℕ → Type 0
IsDueOutput Canonical = IsCanonical
IsDueOutput Line = AreLines

-- n more, as long as they fit
pub record CountedMore (old new : Counts) (ms : List Message) (bytes : List ℕ) : Type 0 where
  pub pdus : old.pdus + length ms < 2 ^ 64 → new.pdus ≡ old.pdus + length ms
  pub bytes_in : new.bytes_in ≡ old.bytes_in
  pub bytes_out : old.bytes_out + length bytes < 2 ^ 64 →
      new.bytes_out ≡ old.bytes_out + length bytes

-- how far a stream is passed on: the framer, the bytes appended, and what is counted
pub record PassingProgress : Type 0 where
  pub framing : Framing
  pub appended : List ℕ
  pub counts : Counts

-- these three together
abbrev pub passing_progress : Framing → List ℕ → Counts → PassingProgress
passing_progress framing appended counts =
    record { framing = framing; appended = appended; counts = counts }

-- The framer took the bytes, and what is due for the PDUs that it gave up was appended. No PDU is
-- ready.
pub record PassesOn (form : Form) (old new : PassingProgress) (bytes : List ℕ)
    (more : List Message) : Type 0 where
  pub moves : FramerMoves old.framing new.framing bytes more
  pub limit : new.framing.limit ≡ old.framing.limit
  pub unready : is_ready new.framing ≡ false
  pub out : List ℕ
  pub due : IsDueOutput form more out
  pub appended : new.appended ≡ old.appended ++ out
  pub counted : CountedMore old.counts new.counts more out

-- What is due for more was appended; these PDUs are in what the framer took and the piece.
pub record AppendedDue (form : Form) (old : Framing) (piece before after : List ℕ) : Type 0 where
  pub more : List Message
  pub out : List ℕ
  pub due : IsDueOutput form more out
  pub appended : after ≡ before ++ out
  pub reaches : (stream : List ℕ) (ms : List Message) → HasTaken stream ms old → (given : List ℕ)
      × (rest : List ℕ) × BeginsWithPdus longest_segment (stream ++ piece) (ms ++ more) given rest

-- What is due for all PDUs before a rest that is refused was appended.
pub record PassingStops (form : Form) (old : Framing) (piece before after : List ℕ)
    (Fails : List ℕ → List ℕ → Type 0) : Type 0 where
  pub more : List Message
  pub out : List ℕ
  pub due : IsDueOutput form more out
  pub appended : after ≡ before ++ out
  pub stops : (stream : List ℕ) (ms : List Message) → HasTaken stream ms old →
      AreBytes (stream ++ piece) → length (stream ++ piece) < 2 ^ 64
      → (given : List ℕ) × (rest : List ℕ) × BeginsWithPdus longest_segment (stream ++ piece)
      (ms ++ more) given rest × NoPdu longest_segment rest × Fails given rest

-- what was appended where passing a piece on fails
abbrev pub PassFails : Form → Framing → List ℕ → List ℕ → List ℕ → ToolFault → Type 0
PassFails form old piece before after tool.NoMemory = Unit {0}
PassFails form old piece before after (tool.Stream (stream.Truncated place)) = ⊥
PassFails form old piece before after (tool.Stream fault) =
    PassingStops form old piece before after (StreamRestFails fault)
PassFails form old piece before after tool.Read = ⊥
PassFails form old piece before after tool.Write = ⊥
PassFails form old piece before after (tool.Text fault) = ⊥
PassFails form old piece before after tool.TextTooLong = ⊥
PassFails form old piece before after tool.NotHex = ⊥
PassFails form old piece before after (tool.Protocol rule) = ⊥

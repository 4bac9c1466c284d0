-- What `show` and `normalise` write for what they have read, and the exit status of their faults.
use Rattle.std.specs.Prelude.{◌≡◌, ◌≤◌, ◌<◌, ℕ, Bool, true, false, List, [], length, take, Option, Result, Ok, Err}
use Rattle.std.specs.Io.KnownBytes.{Consumes, IsAtEnd}
use Rattle.iscsi_text.specs.Fault.{IsFirstFault}
use Rattle.iscsi_stream.specs.declared.fault.StreamFault.TheVariants as stream
use Rattle.iscsi_stream.specs.declared.fault.ToolFault.{ToolFault}
use Rattle.iscsi_stream.specs.declared.fault.ToolFault.TheVariants as tool
use Rattle.iscsi_stream.specs.Stream.{Message, StreamMeans}
use Rattle.iscsi_stream.specs.Canonical.{canon}
use Rattle.iscsi_stream.specs.Normalising.{IsCanonical, WritesUntil}
use Rattle.iscsi_stream.specs.Shown.{AreLines}
use Rattle.iscsi_stream.specs.Texts.{CanonicalOf, NormalisesText, TextAtEnd, longest_text}
use Rattle.iscsi_filters.specs.declared.work.Content.{Content}
use Rattle.iscsi_filters.specs.declared.work.Content.TheVariants as content
use Rattle.iscsi_filters.specs.declared.work.StreamWork.{StreamWork}
use Rattle.iscsi_filters.specs.declared.work.StreamWork.TheVariants.{Show, Normalise, Text}
use Rattle.iscsi_filters.specs.HexText.{BytesOf, IsNotHex, IsReadToFault, hex_line}

-- How a filter ends: done, or why not.
abbrev pub FilterOutcome : Type 0
FilterOutcome = Result (Unit {0}) ToolFault

-- ---- bytes

-- The canonical stream of what was read is written, or what normalising leaves at a fault.
abbrev pub NormalisesBytes : FilterOutcome → List ℕ → List ℕ → Type 0
NormalisesBytes (Ok done) read written =
    (ms : List Message) × StreamMeans read ms × (written ≡ canon ms)
NormalisesBytes (Err fault) read written = WritesUntil IsCanonical fault read written

-- A line for each PDU of what was read is written, or what showing leaves at a fault.
abbrev pub ShowsBytes : FilterOutcome → List ℕ → List ℕ → Type 0
ShowsBytes (Ok done) read written =
    (ms : List Message) × StreamMeans read ms × AreLines ms written
ShowsBytes (Err fault) read written = WritesUntil AreLines fault read written

-- ---- hex text

-- What is due for the bytes of a stream: its canonical stream, or that of all PDUs before its
-- fault.
abbrev pub DueOfStream : List ℕ → FilterOutcome → List ℕ → Type 0
DueOfStream bytes (Ok done) due = (ms : List Message) × StreamMeans bytes ms × (due ≡ canon ms)
DueOfStream bytes (Err (tool.Stream fault)) due = WritesUntil IsCanonical (tool.Stream fault) bytes due
DueOfStream bytes (Err fault) due = ⊥

-- What is due for the bytes of a text: its canonical text, or nothing where it is refused.
abbrev pub DueOfText : List ℕ → FilterOutcome → List ℕ → Type 0
DueOfText bytes (Ok done) due = CanonicalOf bytes due × (length bytes ≤ longest_text)
DueOfText bytes (Err (tool.Text fault)) due =
    IsFirstFault bytes fault × (length bytes ≤ longest_text) × (due ≡ [])
DueOfText bytes (Err tool.TextTooLong) due = (longest_text < length bytes) × (due ≡ [])
DueOfText bytes (Err fault) due = ⊥

-- What is due for the bytes of a text or of a stream.
abbrev pub DueOutput : Content → List ℕ → FilterOutcome → List ℕ → Type 0
DueOutput content.Text bytes outcome due = DueOfText bytes outcome due
DueOutput content.Stream bytes outcome due = DueOfStream bytes outcome due

-- The line that is due for bytes, with this outcome.
pub record IsDueLine (content : Content) (bytes : List ℕ) (outcome : FilterOutcome) (line : List ℕ) : Type
    0 where
  pub due : List ℕ
  pub is_due : DueOutput content bytes outcome due
  pub spelled : line ≡ hex_line due

-- The line that is due for hex text.
abbrev pub LineOf : Content → List ℕ → FilterOutcome → List ℕ → Type 0
LineOf content read outcome line =
    (bytes : List ℕ) × BytesOf read bytes × IsDueLine content bytes outcome line

-- What a filter of hex text has written where it answers a fault.
abbrev pub HexFails : Content → ToolFault → List ℕ → List ℕ → Type 0
HexFails content tool.NoMemory read written = written ≡ []
HexFails content (tool.Stream fault) read written =
    LineOf content read (Err (tool.Stream fault)) written
HexFails content (tool.Text fault) read written = LineOf content read (Err (tool.Text fault)) written
HexFails content tool.TextTooLong read written = LineOf content read (Err tool.TextTooLong) written
HexFails content tool.Read read written = written ≡ []
HexFails content tool.Write read written =
    (outcome : FilterOutcome) × (line : List ℕ) × (n : ℕ)
    × LineOf content read outcome line × (written ≡ take n line)
HexFails content tool.NotHex read written = IsNotHex read × (written ≡ [])
HexFails content (tool.Protocol rule) read written = ⊥

-- The canonical form of what the hex text means is written as a line of hex, or what is due at a
-- fault.
abbrev pub NormalisesHex : Content → FilterOutcome → List ℕ → List ℕ → Type 0
NormalisesHex content (Ok done) read written = LineOf content read (Ok done) written
NormalisesHex content (Err fault) read written = HexFails content fault read written

-- ---- where a reader has ended

-- A stream of bytes is called cut within a PDU once its reader has told its end, and not before.
abbrev pub CutAtEnd : Result (Unit {0}) ToolFault → Type 0 → Type 0
CutAtEnd (Err (tool.Stream (stream.Truncated place))) Ended = Ended
CutAtEnd _ Ended = Unit {0}

-- Hex text is judged once it was read to its end; it is called no hex past the limit, too.
abbrev pub HexAtEnd : FilterOutcome → Option (List ℕ) → Option (List ℕ) → Type 0
HexAtEnd (Err tool.NotHex) before after =
    (read : List ℕ) × Consumes before after read × IsReadToFault tool.NotHex read after
HexAtEnd (Err (tool.Stream fault)) before after = IsAtEnd after
HexAtEnd (Err (tool.Text fault)) before after = IsAtEnd after
HexAtEnd (Err tool.TextTooLong) before after = IsAtEnd after
HexAtEnd (Err (tool.Protocol rule)) before after = IsAtEnd after
HexAtEnd _ before after = Unit {0}

-- ---- works

-- What a work writes; the lines that Show writes of hex text are not stated.
abbrev pub DoesWork : StreamWork → Bool → FilterOutcome → List ℕ → List ℕ → Type 0
DoesWork Show true outcome read written = Unit {0}
DoesWork Show false outcome read written = ShowsBytes outcome read written
DoesWork Normalise true outcome read written = NormalisesHex content.Stream outcome read written
DoesWork Normalise false outcome read written = NormalisesBytes outcome read written
DoesWork Text true outcome read written = NormalisesHex content.Text outcome read written
DoesWork Text false outcome read written = NormalisesText outcome read written

-- A work whose input is refused for what it lacks has read it to its end.
abbrev pub RefusesWork : StreamWork → Bool → FilterOutcome → Option (List ℕ) → Option (List ℕ)
    → Type 0
RefusesWork _ true outcome before after = HexAtEnd outcome before after
RefusesWork Show false outcome before after = CutAtEnd outcome (IsAtEnd after)
RefusesWork Normalise false outcome before after = CutAtEnd outcome (IsAtEnd after)
RefusesWork Text false outcome before after = TextAtEnd outcome (IsAtEnd after)

-- ---- statuses

-- The exit status of a fault: 1 where the input is refused, 3 for memory, 4 for reading and
-- writing.
abbrev pub filter_exit_status : ToolFault → ℕ
filter_exit_status tool.NoMemory = 3
filter_exit_status (tool.Stream fault) = 1
filter_exit_status (tool.Text fault) = 1
filter_exit_status tool.TextTooLong = 1
filter_exit_status tool.Read = 4
filter_exit_status tool.Write = 4
filter_exit_status tool.NotHex = 1
filter_exit_status (tool.Protocol rule) = 1

-- How a work ends: 0 if it is done, else the status of its fault.
abbrev pub work_status : FilterOutcome → ℕ
work_status (Ok done) = 0
work_status (Err fault) = filter_exit_status fault

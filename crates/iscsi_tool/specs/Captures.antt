-- What a job over a capture writes.
use Rattle.std.specs.Prelude.{◌≡◌, ◌⊎◌, ℕ, List, [], Result, Ok, Err, OnOk, IsOk, MatchResult}
use Rattle.iscsi_captures.specs.declared.fault.CapturesFault.{CapturesFault}
use Rattle.iscsi_pdu.specs.Meaning.{AreBytes}
use Rattle.iscsi_stream.specs.declared.counts.Counts.{Counts}
use Rattle.iscsi_stream.specs.declared.fault.ToolFault.{ToolFault}
use Rattle.iscsi_stream.specs.Stream.{Message, StreamMeans}
use Rattle.iscsi_stream.specs.Normalising.{IsCanonical, IsNormalised, ShowPost, WritesUntil}
use Rattle.iscsi_explain.specs.declared.form.Form.{Form}
use Rattle.iscsi_explain.specs.Showing.{AreEntries}
use Rattle.iscsi_tool.specs.Answering.{AnswersBytes}
use Rattle.iscsi_words.specs.declared.capture_words.CaptureWork.{CaptureWork}
use Rattle.iscsi_words.specs.declared.capture_words.CaptureWork.TheVariants.{List as ListAll, ShowAll, Show, Tell, Normalise, Answer}

-- How a job over a capture ends: done, or why not.
abbrev pub CaptureOutcome : Type 0
CaptureOutcome = Result (Unit {0}) CapturesFault

-- Nothing was written, and the job failed.
abbrev pub WritesNothing : CaptureOutcome → List ℕ → Type 0
WritesNothing (Ok done) written = ⊥
WritesNothing (Err fault) written = written ≡ []

-- Lines are written as show writes them for the bytes of a stream, or nothing with a fault.
abbrev pub ShowsCaptured : CaptureOutcome → List ℕ → Type 0
ShowsCaptured ends written = WritesNothing ends written
    ⊎ ((said : Result Counts ToolFault) × (bytes : List ℕ) × AreBytes bytes
    × ShowPost said bytes written × (IsOk ends → IsOk said))

-- A canonical stream is written as normalise writes it for the bytes of a stream, or nothing with a fault.
abbrev pub NormalisesCaptured : CaptureOutcome → List ℕ → Type 0
NormalisesCaptured ends written = WritesNothing ends written
    ⊎ ((said : Result Counts ToolFault) × (bytes : List ℕ) × AreBytes bytes
    × MatchResult said (λ counts. IsNormalised counts bytes written)
    (λ fault. WritesUntil IsCanonical fault bytes written)
    × (IsOk ends → IsOk said))

-- Each PDU is written in a form, if all of the stream was read.
abbrev pub TellsCaptured : Form → CaptureOutcome → List ℕ → Type 0
TellsCaptured form ends written =
    OnOk ends ((bytes : List ℕ) × (ms : List Message) × StreamMeans bytes ms × AreEntries form ms written)

-- A target's answers are written as `answer` writes them for the bytes of a stream, or nothing with a fault.
abbrev pub AnswersCaptured : ℕ → CaptureOutcome → List ℕ → Type 0
AnswersCaptured blocks ends written = WritesNothing ends written
    ⊎ ((said : Result (Unit {0}) ToolFault) × (bytes : List ℕ)
    × AnswersBytes blocks said bytes written × (IsOk ends → IsOk said))

-- What a job over a capture writes; the lines of connections, and those of all connections together,
-- are not stated.
abbrev pub WritesCapture : CaptureWork → CaptureOutcome → List ℕ → Type 0
WritesCapture ListAll ends written = Unit {0}
WritesCapture (ShowAll form only times) ends written = Unit {0}
WritesCapture (Show wanted) ends written = ShowsCaptured ends written
WritesCapture (Tell wanted form) ends written = TellsCaptured form ends written
WritesCapture (Normalise wanted) ends written = NormalisesCaptured ends written
WritesCapture (Answer connection blocks) ends written = AnswersCaptured blocks ends written

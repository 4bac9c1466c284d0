-- What `answer` writes for what it has read (RFC 7143, sections 6 and 11).
use Rattle.std.specs.Prelude.{false, ◌≡◌, ◌⊎◌, ℕ, List, [], ◌∷◌, ◌++◌, Some, Result, Ok, Err, OnOk}
use Rattle.std.specs.Io.KnownBytes.{IsAtEnd}
use Rattle.hex.specs.Hex.{encode_lower}
use Rattle.scsi_disk.specs.Disk.{Disk, zeros}
use Rattle.iscsi_stream.specs.declared.fault.ToolFault.{ToolFault}
use Rattle.iscsi_stream.specs.declared.fault.ToolFault.TheVariants as tool
use Rattle.iscsi_stream.specs.Stream.{Message, SplitsStream, longest_segment}
use Rattle.iscsi_stream.specs.Canonical.{canon}
use Rattle.iscsi_target.specs.declared.fault.TargetFault.TheVariants as faults
use Rattle.iscsi_target.specs.State.{opening_machine}
use Rattle.iscsi_target.specs.Machine.{answers}
use Rattle.iscsi_serve.specs.declared.session_fault.SessionFault.TheVariants as session
use Rattle.iscsi_serve.specs.Session.{target_settings, ServesFirstPdus, ServesFront, SessionEndsBy, EndsWell}
use Rattle.iscsi_filters.specs.Filters.{CutAtEnd}
use Rattle.iscsi_filters.specs.HexText.{BytesOf, IsNotHex}

-- The answers of the target to all PDUs of what was read are written, of its longest prefix in the
-- profile.
abbrev pub AnswersAllPdus : ℕ → List ℕ → List ℕ → Type 0
AnswersAllPdus blocks read written =
    (ms : List Message) (given rest : List ℕ) → SplitsStream longest_segment read ms given rest
    → written ≡ canon (answers false (opening_machine target_settings 1) (zeros blocks) ms).answers

-- The answers of the target to some first PDUs of what was read are written, whole, and of the PDU
-- behind them those of some tasks.
abbrev pub AnswersFirstPdus : ℕ → List ℕ → List ℕ → Type 0
AnswersFirstPdus blocks read written =
    (now : Disk) × ServesFirstPdus false target_settings (zeros blocks) read now written

-- A front of such answers is written.
abbrev pub AnswersFront : ℕ → List ℕ → List ℕ → Type 0
AnswersFront blocks read written =
    (now : Disk) × ServesFront false target_settings (zeros blocks) read now written

-- What is written where answering ends, and why it ends so.
abbrev pub AnswersBytes : ℕ → Result (Unit {0}) ToolFault → List ℕ → List ℕ → Type 0
AnswersBytes blocks (Ok done) read written =
    AnswersAllPdus blocks read written × SessionEndsBy false target_settings (zeros blocks)
    (Ok done) read
AnswersBytes blocks (Err (tool.Stream fault)) read written = AnswersAllPdus blocks read written
    × SessionEndsBy false target_settings (zeros blocks)
    (Err (session.Target (faults.Stream fault))) read
AnswersBytes blocks (Err (tool.Protocol rule)) read written = AnswersAllPdus blocks read written
    × SessionEndsBy false target_settings (zeros blocks)
    (Err (session.Target (faults.Protocol rule))) read
AnswersBytes blocks (Err tool.Read) read written = AnswersAllPdus blocks read written
    × SessionEndsBy false target_settings (zeros blocks) (Err session.Read) read
AnswersBytes blocks (Err tool.NoMemory) read written = AnswersFirstPdus blocks read written
AnswersBytes blocks (Err tool.Write) read written = AnswersFront blocks read written
AnswersBytes blocks (Err (tool.Text fault)) read written = ⊥
AnswersBytes blocks (Err tool.TextTooLong) read written = ⊥
AnswersBytes blocks (Err tool.NotHex) read written = ⊥

-- ---- hex text

-- The line end that is due behind the digits of answers: where the session ended, well or by a
-- fault of its own.
abbrev pub line_end : Result (Unit {0}) ToolFault → List ℕ
line_end (Ok done) = 0x0a ∷ []
line_end (Err (tool.Stream fault)) = 0x0a ∷ []
line_end (Err (tool.Protocol rule)) = 0x0a ∷ []
line_end (Err fault) = []

-- The target has taken a front of these bytes; its answers are written as lower hex, with the line
-- end that is due. Where the stream is called cut within a PDU, it has taken all of them.
pub record SpellsAnswers (blocks : ℕ) (outcome : Result (Unit {0}) ToolFault) (bytes written : List ℕ)
    : Type 0 where
  pub taken : List ℕ
  pub rest : List ℕ
  pub whole : bytes ≡ taken ++ rest
  pub answered : List ℕ
  pub answers : AnswersBytes blocks outcome taken answered
  pub ends : OnOk outcome (EndsWell false target_settings (zeros blocks) (Some bytes) (Some rest))
  pub cut : CutAtEnd outcome (IsAtEnd (Some rest))
  pub spelled : written ≡ encode_lower answered ++ line_end outcome

-- The answers to the bytes that hex text means are written so.
abbrev pub AnswersText : ℕ → Result (Unit {0}) ToolFault → List ℕ → List ℕ → Type 0
AnswersText blocks outcome read written =
    (bytes : List ℕ) × BytesOf read bytes × SpellsAnswers blocks outcome bytes written

-- What is written where answering hex text ends: nothing where the text is not hex, or could not be
-- read; where a write failed, nothing is stated of it.
abbrev pub AnswersHex : ℕ → Result (Unit {0}) ToolFault → List ℕ → List ℕ → Type 0
AnswersHex blocks (Err tool.NotHex) read written = IsNotHex read × (written ≡ [])
AnswersHex blocks (Err tool.NoMemory) read written =
    (written ≡ []) ⊎ AnswersText blocks (Err tool.NoMemory) read written
AnswersHex blocks (Err tool.Read) read written =
    (written ≡ []) ⊎ AnswersText blocks (Err tool.Read) read written
AnswersHex blocks (Err tool.Write) read written = Unit {0}
AnswersHex blocks outcome read written = AnswersText blocks outcome read written

-- What is written, and why answering ends, told of the session.
use Rattle.std.proofs.Common.{false, ◌≡◌, ◌⊎◌, inl, inr, ℕ, Bool, List, [], ◌++◌, Option, Some, Result, Ok, Err, OnOk, refl, arith}
use Rattle.hex.specs.Hex.{IsBytes, encode_lower}
use Rattle.iscsi_stream.specs.declared.fault.ToolFault.TheVariants as tool
use Rattle.iscsi_stream.specs.declared.fault.ToolFault.{ToolFault}
use Rattle.iscsi_target.specs.State.{opening_machine, unchanged}
use Rattle.scsi_disk.specs.Disk.{Disk, zeros}
use Rattle.iscsi_stream.specs.Stream.{ReadsAs}
use Rattle.iscsi_target.specs.declared.fault.TargetFault.TheVariants as faults
use Rattle.iscsi_target.specs.Machine.{answers}
use Rattle.iscsi_serve.specs.declared.session_fault.SessionFault.{SessionFault}
use Rattle.iscsi_serve.specs.declared.session_fault.SessionFault.TheVariants as session
use Rattle.iscsi_serve.specs.Session.{target_settings, ServesAllPdus, SessionServed, SessionEndsBy, EndsWell}
use Rattle.iscsi_tool.specs.Answering.{AnswersAllPdus, AnswersFirstPdus, AnswersBytes, AnswersHex, SpellsAnswers, line_end}
use Rattle.iscsi_tool.specs.inner.Answering.{filter_fault}
use Rattle.iscsi_tool.specs.inner.Spelling.{LineEndWritten}
use Rattle.iscsi_filters.specs.Filters.{CutAtEnd}
use Rattle.iscsi_filters.specs.HexText.{HexTextFails}
use Rattle.std.specs.Io.KnownBytes.{IsAtEnd}
use Rattle.iscsi_tool.proofs.SpellingLemmas.{lent_took}

all_answered : (blocks : ℕ) (read : List ℕ) (disk_now : Disk) (written : List ℕ) → ServesAllPdus false target_settings (zeros blocks) read disk_now written →
    AnswersAllPdus blocks read written
all_answered blocks read disk_now written a ms given rest s = (a ms given rest s).output_is

pub done_answered : (blocks : ℕ) (read : List ℕ) (disk_now : Disk) (written : List ℕ)
    → SessionServed false target_settings (zeros blocks) (Ok tt) read disk_now written
    × SessionEndsBy false target_settings (zeros blocks) (Ok tt) read
    → AnswersBytes blocks (Ok tt) read written
done_answered blocks read disk_now written s = (all_answered blocks read disk_now written s.0, s.1)

pub fault_answered : (fault : SessionFault) (blocks : ℕ) (read : List ℕ) (disk_now : Disk) (written : List ℕ) →
    SessionServed false target_settings (zeros blocks) (Err fault) read disk_now written × SessionEndsBy false target_settings (zeros blocks) (Err fault) read
    → AnswersBytes blocks (Err (filter_fault fault)) read written
fault_answered session.NoMemory blocks read disk_now written s = (disk_now, s.0)
fault_answered (session.Target faults.NoMemory) blocks read disk_now written s = absurd s.0
fault_answered (session.Target (faults.Stream fault)) blocks read disk_now written s = (all_answered blocks read disk_now written s.0, s.1)
fault_answered (session.Target (faults.Protocol rule)) blocks read disk_now written s = (all_answered blocks read disk_now written s.0, s.1)
fault_answered (session.Target faults.Closed) blocks read disk_now written s = absurd s.0
fault_answered session.Read blocks read disk_now written s = (all_answered blocks read disk_now written s.0, s.1)
fault_answered session.Sync blocks read disk_now written s = (disk_now, s.0)
fault_answered session.Write blocks read disk_now written s = (disk_now, s.0)

pub no_bytes : IsBytes []
no_bytes i = omega arith

-- nothing was read, and nothing is written
pub none_answered : (blocks : ℕ) → AnswersFirstPdus blocks [] []
unfolding answers ReadsAs
none_answered blocks = (
  zeros blocks,
  record {
    receives = record { messages = []; given = []; rest = []; whole = refl; reads = refl };
    front = unchanged (opening_machine target_settings 1) (zeros blocks);
    stops = inl refl;
    disk_is = refl;
    output_is = refl;
  },
)

-- ---- digits

-- the answers that a writer of digits took, and what was written behind them
pub spells : (blocks : ℕ) (bytes taken rest answered ending : List ℕ) (outcome result : Result (Unit {0}) ToolFault) (is_cut : Bool) (held : Option (List ℕ))
    → bytes ≡ taken ++ rest → AnswersBytes blocks outcome taken answered
    → OnOk outcome (EndsWell false target_settings (zeros blocks) (Some bytes) (Some rest)) → CutAtEnd outcome (IsAtEnd (Some rest))
    → LineEndWritten outcome is_cut result ending
    → (result ≡ Err tool.Write) ⊎ SpellsAnswers blocks result bytes (lent_took is_cut held (encode_lower answered) ++ ending)
spells blocks bytes taken rest answered ending outcome result is_cut held whole answers ends cut (inl failed) = inl failed
spells blocks bytes taken rest answered ending outcome result is_cut held whole answers ends cut (inr f) =
    let done : SpellsAnswers blocks outcome bytes (encode_lower answered ++ line_end outcome) =
    record { taken = taken; rest = rest; whole = whole; answered = answered; answers = answers; ends = ends; cut = cut; spelled = refl } in
    inr (rw (f.0, f.1, f.2) done)

-- the text could not be read, or is not hex
pub text_refused : (blocks : ℕ) (fault : ToolFault) (read : List ℕ) → HexTextFails fault read → AnswersHex blocks (Err fault) read []
text_refused blocks tool.NoMemory read h = inl refl
text_refused blocks (tool.Stream fault) read h = absurd h
text_refused blocks (tool.Text fault) read h = absurd h
text_refused blocks tool.TextTooLong read h = absurd h
text_refused blocks tool.Read read h = inl refl
text_refused blocks tool.Write read h = absurd h
text_refused blocks tool.NotHex read h = (h, refl)
text_refused blocks (tool.Protocol rule) read h = absurd h

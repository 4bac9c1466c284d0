-- What is left alone was not read, and not written to; how a job over a capture ends.
use Rattle.std.specs.Prelude.{◌≡◌, ℕ, List, [], Option, Result, Err}
use Rattle.std.proofs.Common.{inl, refl}
use Rattle.iscsi_captures.specs.declared.fault.CapturesFault.{CapturesFault}
use Rattle.iscsi_words.specs.Jobs.{IsJobOver}
use Rattle.iscsi_words.specs.declared.capture_words.CaptureJob.{CaptureJob}
use Rattle.iscsi_words.specs.declared.capture_words.CaptureWork.{CaptureWork}
use Rattle.iscsi_words.specs.declared.capture_words.CaptureWork.TheVariants.{List as ListAll, ShowAll, Show, Tell, Normalise, Answer}
use Rattle.iscsi_tool.specs.declared.running.Outcome.{Outcome}
use Rattle.iscsi_tool.specs.Captures.{WritesCapture}
use Rattle.iscsi_tool.specs.Running.{EndsCapture, of_capture}
use Rattle.std.specs.Io.KnownBytes.{Appends, Consumes}
use Rattle.std.proofs.KnownBytes.{Appends-nil, Consumes-nil}

pub reads_nothing : (left : Option (List ℕ)) → Consumes left left []
reads_nothing left = Consumes-nil left

pub writes_nothing : (held : Option (List ℕ)) → Appends held held []
writes_nothing held = Appends-nil held

-- A job over a capture that failed wrote nothing.
pub wrote_none : (work : CaptureWork) (fault : CapturesFault) → WritesCapture work (Err fault) []
wrote_none ListAll fault = tt
wrote_none (ShowAll form only times) fault = tt
wrote_none (Show wanted) fault = inl refl
wrote_none (Tell wanted form) fault = tt
wrote_none (Normalise wanted) fault = inl refl
wrote_none (Answer connection blocks) fault = inl refl

-- A job over a capture is told of as itself.
pub told_itself : (job : CaptureJob) → IsJobOver job job
told_itself job = (refl, λ one. refl)

-- How a job over a capture ended.
pub ends_capture : (job told : CaptureJob) (said : Result (Unit {0}) CapturesFault) (ends : Outcome) (written : List ℕ)
    → WritesCapture job.work said written → IsJobOver job told → ends ≡ of_capture told said
    → EndsCapture job ends written
ends_capture job told said ends written writes over is = (said, told, writes, over, is)

-- What a filter writes for what it has read.
use Rattle.std.specs.Prelude.{ℕ, Bool, true, false, List, Option}
use Rattle.std.specs.Io.KnownBytes.{IsAtEnd}
use Rattle.scsi_disk.specs.Disk.{zeros}
use Rattle.iscsi_serve.specs.Session.{target_settings, EndsWell}
use Rattle.iscsi_words.specs.declared.filter.Filter.{Filter}
use Rattle.iscsi_words.specs.declared.filter.Work.{Work}
use Rattle.iscsi_words.specs.declared.filter.Work.TheVariants.{Show, Normalise, Text, Answer}
use Rattle.iscsi_filters.specs.declared.work.StreamWork.TheVariants as stream
use Rattle.iscsi_filters.specs.Filters.{CutAtEnd, DoesWork, HexAtEnd, FilterOutcome, RefusesWork}
use Rattle.iscsi_tool.specs.Answering.{AnswersBytes, AnswersHex}

-- A work that ended well has read its input to the end; answers to bytes end also where the session
-- is closed.
abbrev pub WorkReads : Work → Bool → Option (List ℕ) → Option (List ℕ) → Type 0
WorkReads (Answer blocks) false before after =
    EndsWell false target_settings (zeros blocks) before after
WorkReads _ _ before after = IsAtEnd after

-- A work whose input is refused for what it lacks has read it to its end.
abbrev pub RefusesAtEnd : Work → Bool → FilterOutcome → Option (List ℕ) → Option (List ℕ) → Type 0
RefusesAtEnd Show hex outcome before after = RefusesWork stream.Show hex outcome before after
RefusesAtEnd Normalise hex outcome before after = RefusesWork stream.Normalise hex outcome before after
RefusesAtEnd Text hex outcome before after = RefusesWork stream.Text hex outcome before after
RefusesAtEnd (Answer blocks) true outcome before after = HexAtEnd outcome before after
RefusesAtEnd (Answer blocks) false outcome before after = CutAtEnd outcome (IsAtEnd after)

-- What a work writes.
abbrev pub WorkOutput : Work → Bool → FilterOutcome → List ℕ → List ℕ → Type 0
WorkOutput Show hex outcome read written = DoesWork stream.Show hex outcome read written
WorkOutput Normalise hex outcome read written = DoesWork stream.Normalise hex outcome read written
WorkOutput Text hex outcome read written = DoesWork stream.Text hex outcome read written
WorkOutput (Answer blocks) true outcome read written = AnswersHex blocks outcome read written
WorkOutput (Answer blocks) false outcome read written = AnswersBytes blocks outcome read written

-- What a filter has read and written where it answers.
abbrev pub Filters : Filter → FilterOutcome → List ℕ → List ℕ → Type 0
Filters filter outcome read written = WorkOutput filter.work filter.hex outcome read written

-- What a filter that ended well has read.
abbrev pub FilterReadsOn : Filter → Option (List ℕ) → Option (List ℕ) → Type 0
FilterReadsOn filter before after = WorkReads filter.work filter.hex before after

-- What a filter that refuses its input has read.
abbrev pub RefusesRead : Filter → FilterOutcome → Option (List ℕ) → Option (List ℕ) → Type 0
RefusesRead filter outcome before after = RefusesAtEnd filter.work filter.hex outcome before after

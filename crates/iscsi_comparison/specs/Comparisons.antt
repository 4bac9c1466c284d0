-- What a comparison of two inputs answers and writes.
use Rattle.std.specs.Prelude.{◌≡◌, ◌⊎◌, ℕ, Bool, true, false, List, [], take, Option, Some, None, Result, Ok, Err}
use Rattle.std.specs.Io.KnownBytes.{Consumes, IsAtEnd}
use Rattle.iscsi_stream.specs.declared.fault.ToolFault.{ToolFault}
use Rattle.iscsi_stream.specs.declared.fault.ToolFault.TheVariants as tool
use Rattle.iscsi_compare.specs.declared.fault.Which.{Which}
use Rattle.iscsi_compare.specs.declared.fault.Which.TheVariants.{First, Second}
use Rattle.iscsi_compare.specs.declared.fault.CompareFault.{CompareFault}
use Rattle.iscsi_compare.specs.declared.fault.CompareFault.TheVariants as compare
use Rattle.iscsi_compare.specs.declared.verdict.Verdict.{Verdict}
use Rattle.iscsi_compare.specs.SameJobVerdict.{ComparesJobs}
use Rattle.iscsi_compare.specs.Comparing.{ReadInput, GaveInput, ComparePost, AppendsDifference}
use Rattle.iscsi_comparison.specs.declared.comparing.Sameness.{Sameness}
use Rattle.iscsi_comparison.specs.declared.comparing.Sameness.TheVariants as same
use Rattle.iscsi_comparison.specs.declared.comparing.ComparisonFault.{ComparisonFault}
use Rattle.iscsi_comparison.specs.declared.comparing.ComparisonFault.TheVariants as fault
use Rattle.iscsi_comparison.specs.declared.files.Comparison.{Comparison}
use Rattle.iscsi_filters.specs.Filters.{filter_exit_status}
use Rattle.iscsi_filters.specs.HexText.{BytesOf, HexTextFails, IsReadToFault}

-- a fault of an input, or of none
abbrev pub input_fault : Which → ToolFault → ComparisonFault
input_fault which tool.NoMemory = fault.Own tool.NoMemory
input_fault which (tool.Stream f) = fault.Input which (tool.Stream f)
input_fault which (tool.Text f) = fault.Input which (tool.Text f)
input_fault which tool.TextTooLong = fault.Input which tool.TextTooLong
input_fault which tool.Read = fault.Input which tool.Read
input_fault which tool.Write = fault.Input which tool.Write
input_fault which tool.NotHex = fault.Input which tool.NotHex
input_fault which (tool.Protocol rule) = fault.Input which (tool.Protocol rule)

-- the fault that a comparison's is
abbrev pub comparison_fault : CompareFault → ComparisonFault
comparison_fault compare.NoMemory = fault.Own tool.NoMemory
comparison_fault (compare.Stream which f) = fault.Input which (tool.Stream f)
comparison_fault (compare.Read which) = fault.Input which tool.Read

-- the exit status of a fault
abbrev pub comparison_exit_status : ComparisonFault → ℕ
comparison_exit_status (fault.Input which f) = filter_exit_status f
comparison_exit_status (fault.Own f) = filter_exit_status f

-- how a comparison of two inputs ends
abbrev pub ComparisonOutcome : Type 0
ComparisonOutcome = Result Verdict ComparisonFault

-- What is answered and written if a comparison says this: its verdict, and the lines of the
-- difference; or its fault, and nothing. A write of the lines that fails leaves a front of them.
abbrev pub ComparisonPost : Result Verdict CompareFault → ComparisonOutcome → List ℕ → Type 0
ComparisonPost (Ok verdict) (Ok said) written =
    (said ≡ verdict) × AppendsDifference (Ok verdict) [] written
ComparisonPost (Ok verdict) (Err f) written =
    (f ≡ fault.Own tool.Write)
    × ((lines : List ℕ) × (n : ℕ) × AppendsDifference (Ok verdict) [] lines
    × (written ≡ take n lines))
ComparisonPost (Err f) (Ok said) written = ⊥
ComparisonPost (Err f) (Err e) written = (e ≡ comparison_fault f) × (written ≡ [])

-- what a comparison says of two streams, as it was asked
abbrev pub ComparisonSays : Sameness → Result Verdict CompareFault → ReadInput → ReadInput → Type 0
ComparisonSays same.Meaning said first second = ComparePost said first second
ComparisonSays same.Job said first second = ComparesJobs said first second

-- Two streams of bytes were compared.
abbrev pub ComparesBytes : Sameness → ComparisonOutcome → ReadInput → ReadInput → List ℕ → Type 0
ComparesBytes sameness outcome first second written =
    (said : Result Verdict CompareFault) × ComparisonSays sameness said first second
    × ComparisonPost said outcome written

-- Two streams that are there as a whole were compared, as far as that was needed.
pub record ComparesWhole (sameness : Sameness) (outcome : ComparisonOutcome)
    (stream other_stream written : List ℕ) : Type 0 where
  pub first : ReadInput
  pub second : ReadInput
  pub left : Option (List ℕ)
  pub other_left : Option (List ℕ)
  pub gave : GaveInput (Some stream) left first
  pub other_gave : GaveInput (Some other_stream) other_left second
  pub compares : ComparesBytes sameness outcome first second written

-- Both texts were read to their ends, and the bytes that they mean were compared.
pub record ComparesTexts (sameness : Sameness) (outcome : ComparisonOutcome)
    (first second : ReadInput)
    (written : List ℕ) : Type 0 where
  pub ended : IsAtEnd first.left
  pub other_ended : IsAtEnd second.left
  pub bytes : List ℕ
  pub other_bytes : List ℕ
  pub bytes_of : BytesOf first.read bytes
  pub other_bytes_of : BytesOf second.read other_bytes
  pub compares : ComparesWhole sameness outcome bytes other_bytes written

-- A text was refused or can't be read, and nothing was written.
pub record RefusesText (which : Which) (outcome : ComparisonOutcome) (input : ReadInput)
    (written : List ℕ)
    : Type 0 where
  pub reason : ToolFault
  pub fails : HexTextFails reason input.read
  pub is_read : IsReadToFault reason input.read input.left
  pub outcome_is : outcome ≡ Err (input_fault which reason)
  pub none : written ≡ []

-- Two streams that come as hex text were compared; both texts are read first.
abbrev pub ComparesHex : Sameness → ComparisonOutcome → ReadInput → ReadInput → List ℕ → Type 0
ComparesHex sameness outcome first second written =
    RefusesText First outcome first written
    ⊎ (RefusesText Second outcome second written
    ⊎ ComparesTexts sameness outcome first second written)

-- A reader gave this text.
abbrev pub GaveText : Option (List ℕ) → Option (List ℕ) → ReadInput → Type 0
GaveText old new input = Consumes old new input.read × (input.left ≡ new)

-- Two inputs were compared, of hex text or of bytes.
abbrev pub ComparesInputs : (hex : Bool) → Sameness → ComparisonOutcome → ReadInput → ReadInput → List ℕ
    → Type 0
ComparesInputs true sameness outcome first second written =
    ComparesHex sameness outcome first second written
ComparesInputs false sameness outcome first second written =
    ComparesBytes sameness outcome first second written

-- What a reader gave is the second input if no file is named for it; else nothing was read.
abbrev pub IsSecond : {Name : Type 0} → Option Name → ReadInput → List ℕ → Option (List ℕ) → Type 0
IsSecond (Some name) second read left = read ≡ []
IsSecond None second read left = (second.read ≡ read) × (second.left ≡ left)

-- A file can't be opened, and nothing was read and written.
pub record IsUnopened (outcome : ComparisonOutcome) (read written : List ℕ) : Type 0 where
  pub which : Which
  pub outcome_is : outcome ≡ Err (fault.Input which tool.Read)
  pub unread : read ≡ []
  pub none : written ≡ []

-- Two inputs were compared: a file, and another one or what a reader gave.
pub record ComparesFiles (comparison : Comparison) (outcome : ComparisonOutcome) (read : List ℕ)
    (left : Option (List ℕ)) (written : List ℕ) : Type 0 where
  pub first : ReadInput
  pub second : ReadInput
  pub given : IsSecond comparison.second second read left
  pub compares : ComparesInputs comparison.hex comparison.sameness outcome first second written

-- How a comparison of files runs.
abbrev pub RunsFiles : Comparison → ComparisonOutcome → List ℕ → Option (List ℕ) → List ℕ → Type 0
RunsFiles comparison outcome read left written =
    IsUnopened outcome read written ⊎ ComparesFiles comparison outcome read left written

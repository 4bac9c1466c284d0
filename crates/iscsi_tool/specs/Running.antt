-- How a run of the program ends, and with which exit status.
use Rattle.std.specs.Prelude.{◌≡◌, ◌⊎◌, ℕ, true, List, [], take, Option, Result, Ok, Err, IfOk, string_bytes}
use Rattle.iscsi_stream.specs.declared.fault.ToolFault.{ToolFault}
use Rattle.iscsi_compare.specs.declared.verdict.Verdict.{Verdict}
use Rattle.iscsi_compare.specs.declared.verdict.Verdict.TheVariants as verdict
use Rattle.iscsi_serving.specs.declared.fault.ServeFault.{ServeFault}
use Rattle.iscsi_serving.specs.Faults.{serve_exit_status as session_status}
use Rattle.iscsi_loop.specs.Looping.{LoopPost}
use Rattle.iscsi_captures.specs.declared.fault.CapturesFault.{CapturesFault}
use Rattle.iscsi_captures.specs.Faults.{captures_exit_status as capture_status}
use Rattle.iscsi_words.specs.declared.capture_words.CaptureJob.{CaptureJob}
use Rattle.iscsi_words.specs.declared.capture_comparing.CaptureComparison.{CaptureComparison}
use Rattle.iscsi_words.specs.declared.capture_comparing.CaptureComparisonFault.{CaptureComparisonFault}
use Rattle.iscsi_comparison.specs.declared.comparing.ComparisonFault.{ComparisonFault}
use Rattle.iscsi_words.specs.declared.filter.Filter.{Filter}
use Rattle.iscsi_words.specs.declared.filter.Work.TheVariants.{Normalise}
use Rattle.iscsi_tool.specs.declared.running.Outcome.{Outcome}
use Rattle.iscsi_tool.specs.declared.running.Outcome.TheVariants as outcome
use Rattle.iscsi_stream.specs.declared.fault.ToolFault.TheVariants as tool
use Rattle.iscsi_serve_words.specs.declared.command_line.LineFault.{LineFault}
use Rattle.iscsi_serve_words.specs.declared.command_line.LineFault.TheVariants as line
use Rattle.iscsi_serve_words.specs.declared.serve_words.ServeJob.{ServeJob}
use Rattle.iscsi_serve_words.specs.Words.{words_status}
use Rattle.iscsi_disk_service.specs.declared.storing.DiskFault.{DiskFault}
use Rattle.iscsi_disk_service.specs.Disks.{EndsDisk, disk_status}
use Rattle.iscsi_words.specs.declared.telling.Telling.{Telling}
use Rattle.iscsi_comparison.specs.declared.files.Comparison.{Comparison}
use Rattle.iscsi_words.specs.declared.words.Job.{Job}
use Rattle.iscsi_words.specs.declared.words.Job.TheVariants as job
use Rattle.iscsi_tool.specs.Captures.{WritesCapture}
use Rattle.iscsi_tool.specs.CaptureComparisons.{ComparesCaptures}
use Rattle.iscsi_tool.specs.Telling.{TellingOutput}
use Rattle.iscsi_comparison.specs.Comparisons.{RunsFiles, comparison_exit_status}
use Rattle.iscsi_filters.specs.Filters.{filter_exit_status}
use Rattle.iscsi_words.specs.Jobs.{IsJob, IsJobOver, SaysWords}
use Rattle.iscsi_tool.specs.Filtering.{Filters}

-- The exit status of an outcome: 0 if the job is done, 1 if two streams differ, else that of the
-- fault.
abbrev pub outcome_status : Outcome → ℕ
outcome_status outcome.Done = 0
outcome_status outcome.Differ = 1
outcome_status (outcome.Words fault) = words_status fault
outcome_status (outcome.Filter fault) = filter_exit_status fault
outcome_status (outcome.Service fault) = disk_status fault
outcome_status (outcome.Session fault) = session_status fault
outcome_status (outcome.Comparison comparison fault) = comparison_exit_status fault
outcome_status (outcome.Capture job fault) = capture_status fault
outcome_status (outcome.CaptureComparison comparison fault) = capture_status fault.fault

-- The outcome of a filter.
abbrev pub of_filter : Result (Unit {0}) ToolFault → Outcome
of_filter (Ok done) = outcome.Done
of_filter (Err fault) = outcome.Filter fault

-- The outcome of a service.
abbrev pub of_service : Result (Unit {0}) DiskFault → Outcome
of_service (Ok done) = outcome.Done
of_service (Err fault) = outcome.Service fault

-- The outcome of a loop.
abbrev pub of_session : Result (Unit {0}) ServeFault → Outcome
of_session (Ok done) = outcome.Done
of_session (Err fault) = outcome.Session fault

-- The outcome of a job over a capture.
abbrev pub of_capture : CaptureJob → Result (Unit {0}) CapturesFault → Outcome
of_capture job (Ok done) = outcome.Done
of_capture job (Err fault) = outcome.Capture job fault

-- The outcome of a comparison.
abbrev pub of_comparison : Comparison → Result Verdict ComparisonFault → Outcome
of_comparison comparison (Ok verdict.Same) = outcome.Done
of_comparison comparison (Ok (verdict.Differ place other)) = outcome.Differ
of_comparison comparison (Err fault) = outcome.Comparison comparison fault

-- The outcome of a comparison of two captures.
abbrev pub of_captures : CaptureComparison → Result Verdict CaptureComparisonFault → Outcome
of_captures comparison (Ok verdict.Same) = outcome.Done
of_captures comparison (Ok (verdict.Differ place other)) = outcome.Differ
of_captures comparison (Err fault) = outcome.CaptureComparison comparison fault

-- A filter ran, and that is how it ended.
abbrev pub EndsFilter : Filter → Outcome → List ℕ → List ℕ → Type 0
EndsFilter filter ends read written =
    (said : Result (Unit {0}) ToolFault) × Filters filter said read written × (ends ≡ of_filter said)

-- A stream was shown in a form, and that is how it ended.
abbrev pub EndsTelling : Telling → Outcome → List ℕ → List ℕ → Type 0
EndsTelling telling ends read written =
    (said : Result (Unit {0}) ToolFault) × TellingOutput telling said read written
    × (ends ≡ of_filter said)

-- A loop ran, and that is how it ended.
abbrev pub EndsLoop : Outcome → List ℕ → List ℕ → Type 0
EndsLoop ends script written =
    (said : Result (Unit {0}) ServeFault) × LoopPost said script written × (ends ≡ of_session said)

-- A job over a capture ran, and that is how it ended. It is told of as one over one of its files.
abbrev pub EndsCapture : CaptureJob → Outcome → List ℕ → Type 0
EndsCapture job ends written = (said : Result (Unit {0}) CapturesFault) × (told : CaptureJob)
    × WritesCapture job.work said written × IsJobOver job told × (ends ≡ of_capture told said)

-- A comparison of two captures ran, and that is how it ended.
abbrev pub EndsCaptures : CaptureComparison → Outcome → List ℕ → Type 0
EndsCaptures comparison ends written = (said : Result Verdict CaptureComparisonFault)
    × ComparesCaptures comparison.sameness said written × (ends ≡ of_captures comparison said)

-- A comparison ran, and that is how it ended.
abbrev pub EndsComparison : Comparison → Outcome → List ℕ → Option (List ℕ) → List ℕ → Type 0
EndsComparison comparison ends read left written = (said : Result Verdict ComparisonFault)
    × RunsFiles comparison said read left written × (ends ≡ of_comparison comparison said)

-- A service ended so: as its sessions did, or since this very image, export or file of secrets could
-- not be served.
abbrev pub EndsServiceJob : ServeJob → Outcome → Type 0
EndsServiceJob job ends = (said : Result (Unit {0}) DiskFault) × EndsDisk job said
    × (ends ≡ of_service said)

-- A job ended so, with this read from the standard input, this left there and this written to the
-- standard output.
-- A service touches neither by itself, and a job over a capture reads a file of the process.
abbrev pub JobRuns : Job → Outcome → List ℕ → Option (List ℕ) → List ℕ → Type 0
JobRuns (job.Filter filter) ends read left written = EndsFilter filter ends read written
JobRuns (job.Serve served) ends read left written =
    EndsServiceJob served ends × (read ≡ []) × (written ≡ [])
JobRuns (job.Loop blocks piece) ends read left written = EndsLoop ends read written
JobRuns (job.Compare comparison) ends read left written =
    EndsComparison comparison ends read left written
JobRuns (job.Tell telling) ends read left written = EndsTelling telling ends read written
JobRuns (job.CompareCaptures comparison) ends read left written =
    EndsCaptures comparison ends written × (read ≡ [])
JobRuns (job.Capture capture) ends read left written = EndsCapture capture ends written × (read ≡ [])

-- What the words ask for; with no words the hex text of a stream is normalised.
abbrev pub AsksFor : {S : Type 0} → List S → Result Job LineFault → Type 0
AsksFor words asked =
    words ≡ [] → asked ≡ Ok (job.Filter (record { work = Normalise; hex = true }))

-- Words that ask for no job ended so: their help was written, or a front of it where the writer failed, and
-- else nothing.
abbrev pub TellsWords : LineFault → Outcome → List ℕ → Type 0
TellsWords (line.Help text) ends written =
    ((ends ≡ outcome.Words (line.Help text)) × (written ≡ string_bytes text))
    ⊎ ((ends ≡ outcome.Filter tool.Write) × ((n : ℕ) × (written ≡ take n (string_bytes text))))
TellsWords fault ends written = (ends ≡ outcome.Words fault) × (written ≡ [])

-- What was asked for ended so: the job ran, or nothing was read, and only help was written.
abbrev pub RunsAsked : Result Job LineFault → Outcome → List ℕ → Option (List ℕ) → List ℕ → Type 0
RunsAsked (Ok asked) ends read left written =
    IsJob asked × JobRuns asked ends read left written
RunsAsked (Err fault) ends read left written =
    TellsWords fault ends written × (read ≡ [])

-- A command line, of words with these texts, ended so. A service that it asks for is what the words say.
abbrev pub RunsWords : {S : Type 0} → List S → List (List ℕ) → Outcome → List ℕ → Option (List ℕ)
    → List ℕ → Type 0
RunsWords words texts ends read left written = (asked : Result Job LineFault) × AsksFor words asked
    × IfOk asked (SaysWords texts) × RunsAsked asked ends read left written

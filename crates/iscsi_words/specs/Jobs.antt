-- Which jobs can be run: the numbers of each are in their ranges.
use Rattle.std.specs.Prelude.{◌≡◌, ◌≤◌, ◌<◌, ℕ, List}
use Rattle.scsi_disk.specs.Disk.{most_blocks}
use Rattle.iscsi_serve_words.specs.Said.{SaysJob}
use Rattle.iscsi_serve_words.specs.Services.{IsServeJob}
use Rattle.iscsi_words.specs.declared.capture_words.CaptureJob.{CaptureJob}
use Rattle.iscsi_words.specs.declared.capture_words.CaptureWork.{CaptureWork}
use Rattle.iscsi_words.specs.declared.capture_words.CaptureWork.TheVariants as capture
use Rattle.iscsi_words.specs.declared.filter.Work.{Work}
use Rattle.iscsi_words.specs.declared.filter.Work.TheVariants.{Answer}
use Rattle.iscsi_words.specs.declared.words.Job.{Job}
use Rattle.iscsi_words.specs.declared.words.Job.TheVariants as job

-- The disk of a target that answers a capture has 1 to 2^40 blocks.
abbrev pub CanWork : CaptureWork → Type 0
CanWork (capture.Answer connection blocks) = (0 < blocks) × (blocks ≤ most_blocks)
CanWork _ = Unit {0}

-- A job over a capture is told of as this one: the same work, and of one file the very same job.
abbrev pub IsJobOver : CaptureJob → CaptureJob → Type 0
IsJobOver job told = (told.work ≡ job.work) × (job.files ≡ 1 → told ≡ job)

-- The disk of a target has 1 to 2^40 blocks.
abbrev pub HasDisk : Work → Type 0
HasDisk (Answer blocks) = (0 < blocks) × (blocks ≤ most_blocks)
HasDisk _ = Unit {0}

-- The disk of a job's target has 1 to 2^40 blocks, but for that of an image that is there, and a piece
-- 1 to 4096 bytes.
abbrev pub IsJob : Job → Type 0
IsJob (job.Filter filter) = HasDisk filter.work
IsJob (job.Serve served) = IsServeJob served
IsJob (job.Loop blocks piece) =
    (0 < blocks) × (blocks ≤ most_blocks) × (0 < piece) × (piece ≤ 4096)
IsJob (job.Compare comparison) = Unit {0}
IsJob (job.Tell telling) = Unit {0}
IsJob (job.CompareCaptures comparison) = Unit {0}
IsJob (job.Capture capture) = CanWork capture.work

-- The job can be run, and is no service.
abbrev pub IsOtherJob : Job → Type 0
IsOtherJob (job.Serve served) = ⊥
IsOtherJob other = IsJob other

-- A service is what the words of a command line say.
abbrev pub SaysWords : List (List ℕ) → Job → Type 0
SaysWords words (job.Serve served) = SaysJob words served
SaysWords words _ = Unit {0}

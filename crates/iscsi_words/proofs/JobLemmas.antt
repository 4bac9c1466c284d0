-- Jobs that are no service.
use Rattle.std.proofs.Common.{ℕ, List}
use Rattle.iscsi_words.specs.Jobs.{IsJob, IsOtherJob, SaysWords}
use Rattle.iscsi_words.specs.declared.words.Job.{Job}
use Rattle.iscsi_words.specs.declared.words.Job.TheVariants as job

pub other_job : (asked : Job) → IsOtherJob asked → IsJob asked
other_job (job.Filter filter) is = is
other_job (job.Tell telling) is = is
other_job (job.Serve served) is = absurd is
other_job (job.Loop blocks piece) is = is
other_job (job.Compare comparison) is = is
other_job (job.Capture capture) is = is
other_job (job.CompareCaptures comparison) is = is

pub says_nothing : (words : List (List ℕ)) (asked : Job) → IsOtherJob asked → SaysWords words asked
says_nothing words (job.Filter filter) is = tt
says_nothing words (job.Tell telling) is = tt
says_nothing words (job.Serve served) is = absurd is
says_nothing words (job.Loop blocks piece) is = tt
says_nothing words (job.Compare comparison) is = tt
says_nothing words (job.Capture capture) is = tt
says_nothing words (job.CompareCaptures comparison) is = tt

-- The requests of two texts are those of both.
use Rattle.iscsi_job_text.proofs.JobLemmas.{of_both}
use Rattle.iscsi_job_text.proofs.laws.job_of_both.Goals as goal

pub returns : goal.returns
returns c = record { both = of_both }

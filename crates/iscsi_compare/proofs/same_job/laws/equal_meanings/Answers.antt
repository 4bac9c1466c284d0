use Rattle.std.proofs.Common.{subst}
use Rattle.iscsi_compare.specs.SameJob.{SameJob}
use Rattle.iscsi_compare.proofs.SameJobLaws.{same_self}
use Rattle.iscsi_compare.proofs.same_job.laws.equal_meanings.Goals as goal

pub returns : goal.returns
returns c ms ns e = subst (SameJob ms) e (same_self ms)

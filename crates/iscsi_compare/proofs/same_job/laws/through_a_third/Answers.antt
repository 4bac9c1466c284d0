use Rattle.iscsi_compare.proofs.SameJobLaws.{same_both}
use Rattle.iscsi_compare.proofs.same_job.laws.through_a_third.Goals as goal

pub returns : goal.returns
returns c ms ns os s t = same_both ms ns os s t

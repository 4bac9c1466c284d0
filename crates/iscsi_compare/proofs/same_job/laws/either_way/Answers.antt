use Rattle.iscsi_compare.proofs.SameJobLaws.{same_back}
use Rattle.iscsi_compare.proofs.same_job.laws.either_way.Goals as goal

pub returns : goal.returns
returns c ms ns s = same_back ms ns s

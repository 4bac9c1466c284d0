use Rattle.std.proofs.Common.{refl}
use Rattle.scsi_disk.proofs.RunLemmas.{ran_rises, ran_outcomes, ran_disk}
use Rattle.scsi_disk.proofs.laws.run_without_failures.Goals as goal

pub returns-clause-rises : goal.returns-clause-rises
returns-clause-rises c protected before after disk last orders told ran = ran_rises protected orders before after disk last told ran

pub returns-clause-outcomes : goal.returns-clause-outcomes
returns-clause-outcomes c protected count disk last orders told ran = ran_outcomes protected orders count count disk last told refl ran

pub returns-clause-disk : goal.returns-clause-disk
returns-clause-disk c protected count disk last orders told ran = ran_disk protected orders count count disk last told refl ran

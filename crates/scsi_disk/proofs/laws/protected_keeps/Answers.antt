use Rattle.scsi_disk.proofs.ProtectedLemmas.{order_keeps, run_keeps}
use Rattle.scsi_disk.proofs.laws.protected_keeps.Goals as goal

pub returns-clause-order : goal.returns-clause-order
returns-clause-order c before after disk order bytes left x = order_keeps before after disk order bytes left x

pub returns-clause-run : goal.returns-clause-run
returns-clause-run c before after disk last orders told ran = run_keeps orders before after disk last told ran

use Rattle.std.proofs.Common.{length}
use Rattle.scsi_reservations.proofs.data.+key_of.Given as goal

abbrev pub decreases-key_of : goal.decreases-key_of
decreases-key_of l = length l.list.now

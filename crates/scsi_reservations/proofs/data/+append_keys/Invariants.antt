use Rattle.std.proofs.Common.{length}
use Rattle.scsi_reservations.proofs.data.+append_keys.Given as goal

abbrev pub decreases-append_keys : goal.decreases-append_keys
decreases-append_keys l = length l.list.now

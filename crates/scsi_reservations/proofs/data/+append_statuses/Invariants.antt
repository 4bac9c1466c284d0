use Rattle.std.proofs.Common.{length}
use Rattle.scsi_reservations.proofs.data.+append_statuses.Given as goal

abbrev pub decreases-append_statuses : goal.decreases-append_statuses
decreases-append_statuses l = length l.list.now

use Rattle.std.proofs.Common.{◌≡◌, drop, length}
use Rattle.scsi_disk.specs.Deed.{first_other}
use Rattle.scsi_disk.proofs.deed.first_other.Given as goal

-- Up to here all bytes are alike.
abbrev pub invariant-loop-place : goal.invariant-loop-place
invariant-loop-place l =
    first_other 0 l.due l.found ≡ first_other l.place (drop l.place l.due) (drop l.place l.found)

use Rattle.std.proofs.Common.{◌≡◌, ℕ, length}
use Rattle.scsi_disk.specs.Disk.{cut}
use Rattle.scsi_file.specs.Past.{MayBe}
use Rattle.scsi_file.proofs.crash_memory.restore_all.Given as goal

abbrev pub invariant-loop-n : goal.invariant-loop-n
invariant-loop-n l =
    (length l.bytes ≡ length l.fn.bytes)
    × ((m : ℕ) → MayBe l.fn.bytes l.past m (cut 512 l.bytes m))

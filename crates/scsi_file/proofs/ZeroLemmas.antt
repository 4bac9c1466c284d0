-- A disk of blocks of which nothing is known is one.
use Rattle.std.proofs.Common.{◌≡◌, ℕ, ◌<◌, ◌≤◌, [], length, refl}
use Rattle.std.proofs.lemmas.List.{length-replicate}
use Rattle.std.proofs.lemmas.Bool.{lt-ltb, le-ltb}
use Rattle.scsi_disk.specs.Disk.{IsDisk, zero_blocks}
use Rattle.scsi_file.specs.HostFile.{unknown}

zero_inside : (count n : ℕ) → n < count → length (zero_blocks 512 count n) ≡ 512
unfolding zero_blocks
zero_inside count n lt = rw (lt-ltb n count lt) (length-replicate {A = ℕ} 512 0)

zero_outside : (count n : ℕ) → count ≤ n → zero_blocks 512 count n ≡ []
unfolding zero_blocks
zero_outside count n ge = rw (le-ltb n count ge) refl

pub unknown_is : (count : ℕ) → 0 < count → IsDisk (unknown count)
unknown_is count some = record { some = some; inside = zero_inside count; outside = zero_outside count }

-- More of `Reading`, of which no public contract speaks.
use Rattle.std.specs.Prelude.{◌≡◌, ℕ, ◌*◌, ◌<◌, false, List, length as size}
use Rattle.scsi_disk.specs.Disk.{Disk, blocks_from}

-- These bytes were read from n blocks, over a store whose failures were counted before and after.
-- If none was counted, the bytes are those of the disk. A failure was counted and not told only if
-- the store doesn't tell each.
pub record WereRead (disk : Disk) (first count before after : ℕ) (bytes : List ℕ) : Type 0 where
  pub size : size bytes ≡ 512 * count
  pub works : after ≡ before → bytes ≡ blocks_from disk first count
  pub hides : before < after → disk.tells ≡ false

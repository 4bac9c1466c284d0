-- What a store of blocks is seen as, and what a read gives and a write leaves.
use Rattle.std.specs.Prelude.{◌^◌, ◌≡◌, ℕ, zero, suc, ◌+◌, ◌-◌, ◌*◌, ◌/◌, ◌%◌, ◌<◌, ◌≤◌, ◌⊎◌, if◌then◌else◌, nat_lt, Bool, true, List, [], ◌++◌, length, take, drop, replicate, Result, IsErrOf}
use Rattle.scsi_disk.specs.declared.store.StoreFault.{StoreFault}
use Rattle.scsi_disk.specs.declared.store.StoreFault.TheVariants.{Device, NoMemory}

-- n blocks, and the bytes of each
pub record Disk : Type 0 where
  pub count : ℕ
  pub block : ℕ → List ℕ
  -- whether its store tells each failure, so that what it says is so
  pub tells : Bool

-- There is a block, each has 512 bytes, and past the last one there is nothing.
pub record IsDisk (disk : Disk) : Type 0 where
  pub some : 0 < disk.count
  pub inside : (n : ℕ) → n < disk.count → length (disk.block n) ≡ 512
  pub outside : (n : ℕ) → disk.count ≤ n → disk.block n ≡ []

-- part n of bytes that are cut into parts of a size
unfoldable pub cut : ℕ → List ℕ → ℕ → List ℕ
cut size bytes n = take size (drop (size * n) bytes)

-- the bytes of n blocks from the first on
unfoldable pub joined_blocks : (ℕ → List ℕ) → ℕ → ℕ → List ℕ
joined_blocks block first zero = []
joined_blocks block first (suc count) = block first ++ joined_blocks block (first + 1) count

-- the bytes of n blocks of a disk from the first on
abbrev pub blocks_from : Disk → ℕ → ℕ → List ℕ
blocks_from disk first count = joined_blocks disk.block first count

-- n bytes were appended
pub record AppendsBytes (count : ℕ) (old new : List ℕ) : Type 0 where
  pub bytes : List ℕ
  pub size : length bytes ≡ count
  pub behind : new ≡ old ++ bytes

-- blocks of a size, with these bytes in those from the first on
unfoldable pub overlaid : ℕ → ℕ → List ℕ → (ℕ → List ℕ) → ℕ → List ℕ
overlaid size first bytes block n =
    if nat_lt n first then block n
    else if nat_lt (size * (n - first)) (length bytes) then cut size bytes (n - first)
    else block n

-- the disk after a write of these bytes from the first block on
abbrev pub disk_written : ℕ → List ℕ → Disk → Disk
disk_written first bytes disk =
    record { count = disk.count; block = overlaid 512 first bytes disk.block; tells = disk.tells }

-- Each block is that of one of two disks. If the new disk is the old one after a write, each block
-- of the write is old or new and no other has changed.
pub record IsOldOrNew (old new disk : Disk) : Type 0 where
  pub count : disk.count ≡ old.count
  pub tells : disk.tells ≡ old.tells
  pub each : (n : ℕ) → (disk.block n ≡ old.block n) ⊎ (disk.block n ≡ new.block n)

-- n blocks of a size, of 00, and nothing past them
unfoldable pub zero_blocks : ℕ → ℕ → ℕ → List ℕ
zero_blocks size count n = if nat_lt n count then replicate size 0 else []

-- a block of 00
abbrev pub zero_block : List ℕ
zero_block = replicate 512 0

-- the most blocks that a disk may have (own rule)
abbrev pub most_blocks : ℕ
most_blocks = 2 ^ 40

-- a disk of n blocks of 00
abbrev pub zeros : ℕ → Disk
zeros count = record { count = count; block = zero_blocks 512 count; tells = true }

-- a disk of these bytes
abbrev pub disk_of : List ℕ → Disk
disk_of bytes = record { count = length bytes / 512; block = cut 512 bytes; tells = true }

-- bytes of 1 to 65,536 whole blocks
pub record AreBlocks (bytes : List ℕ) : Type 0 where
  pub whole : length bytes % 512 ≡ 0
  pub some : 0 < length bytes
  pub few : length bytes ≤ 33554432

-- A store returns `Device` exactly if the count that it tells rose. That is the count of all
-- failures without those that no code can tell, and a store that tells each failure has none of the
-- latter. Want of memory is no failure.
pub record StoreTellsFailures {T : Type 0} (tells : Bool)
    (before after untold_before untold_after : ℕ)
    (result : Result T StoreFault) : Type 0 where
  pub rises : before ≤ after
  pub untold : untold_before ≤ untold_after
  pub honest : tells ≡ true → untold_after ≡ untold_before
  pub told : before + untold_after < after + untold_before → IsErrOf result Device
  pub only : IsErrOf result Device → before + untold_after < after + untold_before
  pub memory : IsErrOf result NoMemory → after ≡ before

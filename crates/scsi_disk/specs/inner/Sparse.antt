-- More of `Sparse`, of which no public contract speaks.
use Rattle.std.specs.Prelude.{◌≡◌, ℕ, ◌^◌, ◌<◌, ◌≤◌, List, length, Some, None}
use Rattle.std.specs.Ordering.{nat_cmp}
use Rattle.std.specs.FinMap.{FinMap, get}
use Rattle.scsi_disk.specs.Sparse.{extent_block}

-- there are 1 to 2^40 blocks, and each extent has 64
pub record AreExtents (count : ℕ) (extents : FinMap nat_cmp (List ℕ)) : Type 0 where
  pub some : 0 < count
  pub few : count ≤ 2 ^ 40
  pub whole : (n : ℕ) (bytes : List ℕ) → get extents n ≡ Some bytes → length bytes ≡ 32768

-- the bytes read as if no extent were there
abbrev pub IsBlank : List ℕ → Type 0
IsBlank bytes = (n : ℕ) → n < 64 → extent_block 512 (Some bytes) n ≡ extent_block 512 None n

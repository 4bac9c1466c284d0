-- A store that keeps only what was written, in extents of 64 blocks.
use Rattle.std.specs.Prelude.{◌≡◌, ℕ, zero, suc, ◌+◌, ◌-◌, ◌/◌, ◌%◌, ◌<◌, ◌≤◌, if◌then◌else◌, nat_lt, true, List, [], All, replicate, Option, Some, None, IsSome, is_some, refl}
use Rattle.std.specs.Coded.{Coded, code_by, coded×, coded_ℕ, coded_list}
use Rattle.std.specs.FinMap as map
use Rattle.std.specs.Ordering.{nat_cmp}
use Rattle.std.specs.FinMap.{FinMap, get}
use Rattle.scsi_disk.specs.Disk.{Disk, cut}

-- how many blocks there are, and the bytes of 64 of them at each number where some were written
pub record Extents : Type 0 where
  pub count : ℕ
  pub extents : FinMap nat_cmp (List ℕ)

-- they are stored as a pair
abbrev pub extents_code : Coded Extents
extents_code =
    code_by (ℕ × FinMap nat_cmp (List ℕ)) (coded× coded_ℕ (map.code coded_ℕ (coded_list coded_ℕ)))
    (λ e. (e.count, e.extents)) (λ p. record { count = p.0; extents = p.1 }) (λ _. refl)

-- block n of an extent, or 00 where there is none
unfoldable pub extent_block : ℕ → Option (List ℕ) → ℕ → List ℕ
extent_block size None n = replicate size 0
extent_block size (Some bytes) n = cut size bytes n

-- the disk that they are
abbrev pub extents_disk : Extents → Disk
extents_disk s = record {
  count = s.count;
  block = λ n. if nat_lt n s.count then extent_block 512 (get s.extents (n / 64)) (n % 64) else [];
  tells = true;
}

-- all bytes are 00
abbrev pub AreZeros : List ℕ → Type 0
AreZeros bytes = All (λ byte. byte ≡ 0) bytes

-- the extents of n blocks from the first on are there
abbrev pub HasBlocks : FinMap nat_cmp (List ℕ) → ℕ → ℕ → Type 0
HasBlocks extents first count =
    (n : ℕ) → first ≤ n → n < first + count → IsSome (get extents (n / 64))

-- how many extents are kept
abbrev pub kept_extents : Extents → ℕ
kept_extents s = map.len s.extents

-- how many of n extents from the first on aren't there
unfoldable pub missing_extents : FinMap nat_cmp (List ℕ) → ℕ → ℕ → ℕ
missing_extents extents first zero = 0
missing_extents extents first (suc n) =
    (if is_some (get extents first) then 0 else 1) + missing_extents extents (first + 1) n

-- how many extents of n blocks from the first on aren't there
unfoldable pub asked_extents : Extents → ℕ → ℕ → ℕ
asked_extents s first zero = 0
asked_extents s first (suc n) =
    missing_extents s.extents (first / 64) ((first + n) / 64 + 1 - first / 64)

-- A disk in memory that takes so much memory at most.
use Rattle.std.specs.Prelude.{◌≡◌, ℕ, ◌+◌, ◌<◌, ◌≤◌, List, Option, refl, IfSome}
use Rattle.std.specs.Coded.{Coded, code_by, coded×, coded_ℕ, coded_option}
use Rattle.scsi_disk.specs.Disk.{Disk}
use Rattle.scsi_disk.specs.Sparse.{Extents, extents_code, kept_extents, asked_extents}
use Rattle.scsi_disk.specs.Sparse.{extents_disk as disk_of}

-- the blocks, how many writes were refused since there was no room for them, and how many extents may
-- be kept, if the disk has more
pub record LimitedDisk : Type 0 where
  pub store : Extents
  pub refused : ℕ
  pub limit : Option ℕ

-- they are stored as a tuple
abbrev pub limited_code : Coded LimitedDisk
limited_code =
    code_by (Extents × (ℕ × Option ℕ)) (coded× extents_code (coded× coded_ℕ (coded_option coded_ℕ)))
    (λ d. (d.store, (d.refused, d.limit)))
    (λ p. record { store = p.0; refused = p.1.0; limit = p.1.1 }) (λ _. refl)

-- the disk of its blocks
abbrev pub limited_disk : LimitedDisk → Disk
limited_disk d = disk_of d.store

-- what a crash leaves of a block: what it is
abbrev pub left_by : LimitedDisk → ℕ → List ℕ → Type 0
left_by d n bytes = bytes ≡ (limited_disk d).block n

-- no more extents are kept than may be
abbrev pub IsWithinLimit : LimitedDisk → Type 0
IsWithinLimit d = IfSome d.limit (λ most. kept_extents d.store ≤ most)

-- with n blocks from the first on there would be more
abbrev pub HasNoRoom : LimitedDisk → ℕ → ℕ → Type 0
HasNoRoom d first n =
    IfSome d.limit (λ most. most < kept_extents d.store + asked_extents d.store first n)

-- More of `Limited`, of which no public contract speaks.
use Rattle.std.specs.Prelude.{◌⊎◌, ℕ, ◌+◌, ◌/◌, ◌≤◌, List, length, IfSome}
use Rattle.scsi_disk.specs.Sparse.{AreZeros, kept_extents, asked_extents}
use Rattle.iscsi_event_loop.specs.Limited.{LimitedDisk}

-- with these bytes from that block on there would be no more
abbrev pub FitsLimit : LimitedDisk → ℕ → List ℕ → Type 0
FitsLimit d first bytes = IfSome d.limit (λ most.
    (AreZeros bytes × (kept_extents d.store ≤ most))
    ⊎ (kept_extents d.store + asked_extents d.store first (length bytes / 512) ≤ most))

use Rattle.std.proofs.Common.{◌≡◌, ◌+◌, ◌-◌, ◌/◌, ◌≤◌}
use Rattle.scsi_disk.specs.Sparse.{missing_extents}
use Rattle.scsi_disk.proofs.sparse.SparseStore.missing.Given as goal

-- Those so far, and those that are still to be looked at.
abbrev pub invariant-loop-extent : goal.invariant-loop-extent
invariant-loop-extent l = record {
  asked : l.missing + missing_extents l.self.extents l.extent-counter (l.extent-end - l.extent-counter)
      ≡ missing_extents l.self.extents (l.first / 64) (l.extent-end - l.first / 64);
  few : l.missing + l.first / 64 ≤ l.extent-counter;
  end : l.extent-end ≡ (l.first + l.count - 1) / 64 + 1;
}

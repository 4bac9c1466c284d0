use Rattle.std.proofs.Common.{◌≡◌, ◌+◌, ◌-◌, ◌/◌, ◌<◌, ◌≤◌, ℕ, IsSome}
use Rattle.std.specs.FinMap.{get}
use Rattle.scsi_disk.specs.Sparse.{extents_disk, kept_extents, missing_extents}
use Rattle.scsi_disk.proofs.sparse.SparseStore.reserve_all.Given as goal

-- Nothing is seen of the extents so far. Those that weren't there are more now, and the others as before.
abbrev pub invariant-loop-extent : goal.invariant-loop-extent
invariant-loop-extent l = record {
  disk : extents_disk l.self ≡ extents_disk l.fn.self;
  kept : (k : ℕ) → IsSome (get l.fn.self.extents k) → IsSome (get l.self.extents k);
  there : (k : ℕ) → l.first / 64 ≤ k → k < l.extent → IsSome (get l.self.extents k);
  rest : (k : ℕ) → l.extent ≤ k → get l.self.extents k ≡ get l.fn.self.extents k;
  grows : kept_extents l.self + missing_extents l.fn.self.extents l.extent ((l.first + l.count - 1) / 64 + 1 - l.extent)
      ≤ kept_extents l.fn.self + missing_extents l.fn.self.extents (l.first / 64) ((l.first + l.count - 1) / 64 + 1 - l.first / 64);
}

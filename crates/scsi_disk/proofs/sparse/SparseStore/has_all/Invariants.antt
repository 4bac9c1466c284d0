use Rattle.std.proofs.Common.{◌/◌, ◌<◌, ◌≤◌, ℕ, IsSome, All}
use Rattle.std.specs.FinMap.{get}
use Rattle.scsi_disk.proofs.sparse.SparseStore.has_all.Given as goal

-- The extents before the next one are there, and those that are still to come.
abbrev pub invariant-loop-extent : goal.invariant-loop-extent
invariant-loop-extent l = record {
  bound : l.next ≤ l.end;
  there : (k : ℕ) → l.first / 64 ≤ k → k < l.next → IsSome (get l.self.extents k);
  among : All (λ e. IsSome (get l.self.extents e.0)) l.extent-iterator;
}

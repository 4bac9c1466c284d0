use Rattle.std.proofs.Common.{◌≡◌, ◌-◌, ◌*◌, ◌≤◌, take}
use Rattle.scsi_disk.specs.Disk.{blocks_from}
use Rattle.scsi_disk.specs.Sparse.{extents_disk}
use Rattle.scsi_disk.proofs.sparse.SparseStoreBlockStore.read.Given as goal

-- The front has been read.
abbrev pub invariant-loop-done : goal.invariant-loop-done
invariant-loop-done l = record {
  inside : l.done ≤ l.blocks;
  read : take (512 * l.done) l.out ≡ blocks_from (extents_disk l.fn.self) l.lba l.done;
}

abbrev pub decreases-loop-done : goal.decreases-loop-done
decreases-loop-done l = l.blocks - l.done

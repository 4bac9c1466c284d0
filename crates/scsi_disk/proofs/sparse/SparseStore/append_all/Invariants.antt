use Rattle.std.proofs.Common.{◌≡◌, ◌-◌, ◌≤◌, ◌++◌}
use Rattle.scsi_disk.specs.Disk.{blocks_from}
use Rattle.scsi_disk.specs.Sparse.{extents_disk}
use Rattle.scsi_disk.proofs.sparse.SparseStore.append_all.Given as goal

-- The first blocks stand there.
abbrev pub invariant-loop-done : goal.invariant-loop-done
invariant-loop-done l = record {
  inside : l.done ≤ l.blocks;
  read : l.out.items ≡ l.fn.out.items ++ blocks_from (extents_disk l.fn.self) l.first l.done;
}

abbrev pub decreases-loop-done : goal.decreases-loop-done
decreases-loop-done l = l.blocks - l.done

use Rattle.std.proofs.Common.{◌≡◌, ◌+◌, ◌-◌, ◌*◌, ◌/◌, ◌≤◌, ◌⊎◌, take, length}
use Rattle.scsi_disk.specs.Disk.{disk_written}
use Rattle.scsi_disk.specs.Sparse.{extents_disk, kept_extents, AreZeros, HasBlocks}
use Rattle.scsi_disk.proofs.sparse.SparseStore.write_all.Given as goal

-- The front has been written, and each extent that is still to be written is there, or all bytes are 00.
abbrev pub invariant-loop-done : goal.invariant-loop-done
invariant-loop-done l = record {
  inside : l.done ≤ l.blocks;
  disk : extents_disk l.self ≡ disk_written l.first (take (512 * l.done) l.bytes) (extents_disk l.fn.self);
  shrinks : kept_extents l.self ≤ kept_extents l.fn.self;
  there : AreZeros l.bytes ⊎ HasBlocks l.self.extents (l.first + l.done) (length l.bytes / 512 - l.done);
}

abbrev pub decreases-loop-done : goal.decreases-loop-done
decreases-loop-done l = l.blocks - l.done

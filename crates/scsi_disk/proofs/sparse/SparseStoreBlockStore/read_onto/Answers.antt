use Rattle.std.proofs.Common.{rules}
use Rattle.scsi_disk.specs.Disk.{IsDisk}
use Rattle.scsi_disk.specs.Sparse.{extents_disk}
use Rattle.scsi_disk.proofs.AppendLemmas.{appended}
use Rattle.scsi_disk.proofs.SparseLemmas.{sparse_is_disk}
use Rattle.scsi_disk.proofs.sparse.SparseStoreBlockStore.read_onto.Goals as goal

pub returns-clause-appends : goal.returns-clause-appends
returns-clause-appends c =
    let disk : IsDisk (extents_disk c.args.self.now) = rw (← c.self.view_is) (sparse_is_disk _ c.self.invariant) in
    appended (extents_disk c.args.self.now) c.args.lba c.args.blocks c.args.out.now.items c.append_all.new.out.items disk c.requires.inside (search rules)

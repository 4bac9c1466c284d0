use Rattle.std.proofs.Common.{◌/◌, length, ap, subst, ◌∙◌, arith}
use Rattle.scsi_disk.specs.Sparse.{AreZeros}
use Rattle.scsi_disk.proofs.SparseLemmas.{all_blank}
use Rattle.scsi_disk.proofs.sparse.Extent.is_blank.Goals as goal

pub returns : goal.returns
returns c zeros =
    let size = ap length c.self.view_is in
    let whole = c.self.invariant in
    let bytes = subst AreZeros (c.deref.ensures.value ∙ c.self.view_is) (c.are_zeros.ensures.0 zeros) in
    all_blank (length c.args.self.now / 512) c.args.self.now (omega arith) (omega arith) bytes

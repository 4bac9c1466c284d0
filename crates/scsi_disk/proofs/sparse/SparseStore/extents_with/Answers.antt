use Rattle.std.proofs.Common.{ap, ◌∙◌, inr, arith, sym}
use Rattle.scsi_disk.specs.Sparse.{kept_extents}
use Rattle.scsi_disk.proofs.KeptLemmas.{len_of_entries}
use Rattle.scsi_disk.proofs.sparse.SparseStore.extents_with.Goals as goal

pub returns-then-are_zeros-clause-blank : goal.returns-then-are_zeros-clause-blank
returns-then-are_zeros-clause-blank c zeros =
    c.len-kept.ensures.len ∙ sym (len_of_entries c.self.inside.extents.entries c.len-kept.ensures.ordered) ∙ ap kept_extents c.self.view_is

pub returns-clause-asked : goal.returns-clause-asked
returns-clause-asked c =
    let kept = c.len-kept.ensures.len ∙ sym (len_of_entries c.self.inside.extents.entries c.len-kept.ensures.ordered) ∙ ap kept_extents c.self.view_is in
    let asked = c.missing.ensures.asked in
    inr (omega (arith, kept, asked))

use Rattle.std.proofs.Common.{sym, ap, ◌∙◌, rules}
use Rattle.std.specs.FinMap.{from_entries}
use Rattle.scsi_disk.specs.Sparse.{extents_disk}
use Rattle.scsi_disk.proofs.SparseLemmas.{get_at, get_removed, removed, unseen_gone, others_stay}
use Rattle.scsi_disk.proofs.KeptLemmas.{kept_removed}
use Rattle.scsi_disk.proofs.sparse.SparseStore.give_back.Goals as goal
use Rattle.scsi_disk.proofs.sparse.SparseStore.give_back.Goals.{in-Some-1, in-None-1}

pub invariant_of-self : goal.invariant_of-self
invariant_of-self c =
    let es = c.self.inside.extents.entries in
    let fs = c.remove.new.self.entries in
    let h = get_removed es fs c.args.extent c.remove.ensures.updates.0 in
    removed (from_entries es) (from_entries fs) c.args.extent h c.self.inside.blocks c.self.invariant

pub returns-then-is_blank-clause-disk : goal.returns-then-is_blank-clause-disk
returns-then-is_blank-clause-disk c =
    let es = c.self.inside.extents.entries in
    let fs = c.remove.new.self.entries in
    let k = c.args.extent in
    let h = get_removed es fs k c.remove.ensures.updates.0 in
    let before = get_at es k ∙ sym c.in-Some.ensures.value in
    let same = unseen_gone (from_entries es) (from_entries fs) k h c.self.inside.blocks c.in-Some.found.now before (c.is_blank.ensures (search rules)) in
    elim c.match-remove.branch [
      | in-Some-1 w ↦ ap extents_disk w.self-is ∙ same ∙ ap extents_disk c.self.view_is
      | in-None-1 w ↦ ap extents_disk w.self-is ∙ same ∙ ap extents_disk c.self.view_is
    ]

pub returns-then-is_blank-clause-kept : goal.returns-then-is_blank-clause-kept
returns-then-is_blank-clause-kept c j some =
    let es = c.self.inside.extents.entries in
    let fs = c.remove.new.self.entries in
    let h = get_removed es fs c.args.extent c.remove.ensures.updates.0 in
    let before = rw (← c.self.view_is) at some in
    let after = others_stay (from_entries es) (from_entries fs) c.args.extent h j before in
    elim c.match-remove.branch [
      | in-Some-1 w ↦ rw w.self-is after
      | in-None-1 w ↦ rw w.self-is after
    ]

pub returns-then-is_blank-clause-shrinks : goal.returns-then-is_blank-clause-shrinks
returns-then-is_blank-clause-shrinks c =
    let es = c.self.inside.extents.entries in
    let fs = c.remove.new.self.entries in
    let h = get_removed es fs c.args.extent c.remove.ensures.updates.0 in
    let fewer = kept_removed (from_entries es) (from_entries fs) c.args.extent h in
    elim c.match-remove.branch [
      | in-Some-1 w ↦ rw (w.self-is, ← c.self.view_is) fewer
      | in-None-1 w ↦ rw (w.self-is, ← c.self.view_is) fewer
    ]

use Rattle.std.proofs.Common.{arith, subst, ◌≡◌, ℕ, List, Option, None, IsSome, true, false, ap, sym, ◌∙◌, rules}
use Rattle.std.specs.Ordering.{nat_cmp}
use Rattle.std.specs.FinMap.{from_entries, get}
use Rattle.scsi_disk.specs.Sparse.{extents_disk}
use Rattle.scsi_disk.proofs.SparseLemmas.{get_inserted, inserted, unseen, missing, is_missing, is_inserted, stays, is_kept}
use Rattle.scsi_disk.proofs.KeptLemmas.{kept_inserted, others_as_before}
use Rattle.scsi_disk.proofs.sparse.SparseStore.reserve.Goals as goal
use Rattle.scsi_disk.proofs.sparse.SparseStore.reserve.Goals.{in-Some-1, in-None-1}

pub invariant_of-self-in_ok-insert-2 : goal.invariant_of-self-in_ok-insert-2
invariant_of-self-in_ok-insert-2 c =
    let es = c.self.inside.extents.entries in
    let fs = c.insert.new.self.entries in
    let h = get_inserted es fs c.args.extent c.in_ok-blank.blank c.in_ok-insert.ensures.updates.0 in
    inserted c.self.inside.blocks (from_entries es) (from_entries fs) c.args.extent c.in_ok-blank.blank h c.in_ok-blank.ensures.size c.self.invariant

pub returns-in_ok-insert-clause-disk : goal.returns-in_ok-insert-clause-disk
returns-in_ok-insert-clause-disk c =
    let es = c.self.inside.extents.entries in
    let fs = c.insert.new.self.entries in
    let h = get_inserted es fs c.args.extent c.in_ok-blank.blank c.in_ok-insert.ensures.updates.0 in
    let absent : c.contains_key.result ≡ false = search rules in
    let none = missing es c.args.extent (sym c.contains_key.ensures ∙ absent) in
    let same = unseen c.self.inside.blocks (from_entries es) (from_entries fs) c.args.extent c.in_ok-blank.blank h c.in_ok-blank.ensures.blank none in
    elim c.match-branch-3.branch [
      | in-Some-1 w ↦ ap extents_disk w.self-is ∙ same ∙ ap extents_disk c.self.view_is
      | in-None-1 w ↦ ap extents_disk w.self-is ∙ same ∙ ap extents_disk c.self.view_is
    ]

pub returns-in_ok-insert-clause-there : goal.returns-in_ok-insert-clause-there
returns-in_ok-insert-clause-there c =
    let es = c.self.inside.extents.entries in
    let fs = c.insert.new.self.entries in
    let h = get_inserted es fs c.args.extent c.in_ok-blank.blank c.in_ok-insert.ensures.updates.0 in
    let there = is_inserted (from_entries es) (from_entries fs) c.args.extent c.in_ok-blank.blank h in
    elim c.match-branch-3.branch [
      | in-Some-1 w ↦ rw w.self-is there
      | in-None-1 w ↦ rw w.self-is there
    ]

pub returns-in_ok-insert-clause-kept : goal.returns-in_ok-insert-clause-kept
returns-in_ok-insert-clause-kept c k some =
    let es = c.self.inside.extents.entries in
    let fs = c.insert.new.self.entries in
    let h = get_inserted es fs c.args.extent c.in_ok-blank.blank c.in_ok-insert.ensures.updates.0 in
    let before = rw (← c.self.view_is) at some in
    let after = stays _ c.in_ok-blank.blank (get (from_entries {R = nat_cmp} es) k) (get (from_entries {R = nat_cmp} fs) k) (h k) before in
    elim c.match-branch-3.branch [
      | in-Some-1 w ↦ rw w.self-is after
      | in-None-1 w ↦ rw w.self-is after
    ]

pub returns-else-not-contains_key-clause-there : goal.returns-else-not-contains_key-clause-there
returns-else-not-contains_key-clause-there c =
    let present : c.contains_key.result ≡ true = search rules in
    let there = is_kept c.self.inside.extents.entries c.args.extent (sym c.contains_key.ensures ∙ present) in
    rw (← c.self.view_is) there

pub returns-in_err-blank-clause-room : goal.returns-in_err-blank-clause-room
returns-in_err-blank-clause-room c some =
    let es = c.self.inside.extents.entries in
    let absent : c.contains_key.result ≡ false = search rules in
    let none = is_missing es c.args.extent (sym c.contains_key.ensures ∙ absent) in
    let there = rw (← c.self.view_is) at some in
    absurd (let h : IsSome {T = List ℕ} None = subst (λ (o : Option (List ℕ)). IsSome o) none there in cc)

pub returns-in_err-insert-clause-room : goal.returns-in_err-insert-clause-room
returns-in_err-insert-clause-room c some =
    let es = c.self.inside.extents.entries in
    let absent : c.contains_key.result ≡ false = search rules in
    let none = is_missing es c.args.extent (sym c.contains_key.ensures ∙ absent) in
    let there = rw (← c.self.view_is) at some in
    absurd (let h : IsSome {T = List ℕ} None = subst (λ (o : Option (List ℕ)). IsSome o) none there in cc)

pub returns-in_ok-insert-clause-others : goal.returns-in_ok-insert-clause-others
returns-in_ok-insert-clause-others c k differs =
    let es = c.self.inside.extents.entries in
    let fs = c.insert.new.self.entries in
    let h = get_inserted es fs c.args.extent c.in_ok-blank.blank c.in_ok-insert.ensures.updates.0 in
    let same = others_as_before (from_entries es) (from_entries fs) c.args.extent c.in_ok-blank.blank h k differs in
    elim c.match-branch-3.branch [
      | in-Some-1 w ↦ rw (w.self-is, ← c.self.view_is) same
      | in-None-1 w ↦ rw (w.self-is, ← c.self.view_is) same
    ]

pub returns-in_ok-insert-clause-grows : goal.returns-in_ok-insert-clause-grows
returns-in_ok-insert-clause-grows c =
    let es = c.self.inside.extents.entries in
    let fs = c.insert.new.self.entries in
    let h = get_inserted es fs c.args.extent c.in_ok-blank.blank c.in_ok-insert.ensures.updates.0 in
    let more = kept_inserted (from_entries es) (from_entries fs) c.args.extent c.in_ok-blank.blank h in
    elim c.match-branch-3.branch [
      | in-Some-1 w ↦ rw (w.self-is, ← c.self.view_is) (omega (arith, more))
      | in-None-1 w ↦ rw (w.self-is, ← c.self.view_is) (omega (arith, more))
    ]

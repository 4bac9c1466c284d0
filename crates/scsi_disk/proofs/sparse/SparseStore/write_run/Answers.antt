use Rattle.std.proofs.Common.{◌≡◌, ◌*◌, ◌/◌, length, replicate, None, refl, ap, sym, ◌∙◌, inl, inr, arith}
use Rattle.std.specs.Ordering.{nat_cmp}
use Rattle.std.specs.FinMap.{get, from_entries}
use Rattle.std.specs.Map.{lookup}
use Rattle.std.specs.BTreeMap.{is_at}
use Rattle.scsi_disk.specs.Disk.{disk_written}
use Rattle.scsi_disk.specs.Sparse.{extents_disk, kept_extents}
use Rattle.scsi_disk.proofs.KeptLemmas.{kept_written}
use Rattle.scsi_disk.proofs.SparseLemmas.{get_at, get_inserted, is_there, inserted, stays, run_written, run_cleared, all_zeros, some_at, never_none}
use Rattle.scsi_disk.proofs.sparse.SparseStore.write_run.Goals as goal
use Rattle.scsi_disk.proofs.sparse.SparseStore.write_run.Goals.{in-Some, in_default}

pub invariant_of-self : goal.invariant_of-self
invariant_of-self c =
    let es = c.self.inside.extents.entries in
    let k = c.args.n / 64 in
    elim c.match-get_mut.branch [
      | in-Some w ↦
          (let v = w.put.new.self in
          let old = w.in-Some.extent.now in
          let there = is_there (lookup (is_at (nat_cmp k)) es) old (sym w.in-Some.ensures.value) in
          let before = get_at es k ∙ sym w.in-Some.ensures.value in
          let fs = (c.get_mut.follows.lender v).entries in
          let h = get_inserted es fs k v ((c.get_mut.follows.holds v).3 there).0 in
          rw w.self-inside-is
          (inserted c.self.inside.blocks (from_entries es) (from_entries fs) k v h (w.put.ensures.size ∙ c.self.invariant.whole k old before) c.self.invariant))
      | in_default w ↦ rw (w.self-inside-is, c.get_mut.follows.holds-at-none) c.self.invariant
    ]

pub returns-clause-disk : goal.returns-clause-disk
returns-clause-disk c =
    let es = c.self.inside.extents.entries in
    let k = c.args.n / 64 in
    let here = rw (← c.self.view_is) at c.requires.there in
    elim c.match-get_mut.branch [
      | in-Some w ↦
          (let v = w.put.new.self in
          let old = w.in-Some.extent.now in
          let there = is_there (lookup (is_at (nat_cmp k)) es) old (sym w.in-Some.ensures.value) in
          let before = get_at es k ∙ sym w.in-Some.ensures.value in
          let fs = (c.get_mut.follows.lender v).entries in
          let h = get_inserted es fs k v ((c.get_mut.follows.holds v).3 there).0 in
          let bytes = c.args.bytes.now in
          let inside = rw (← c.self.view_is) at c.requires.inside in
          let long : length bytes ≡ 512 * (length bytes / 512) = (let whole = c.requires.whole in omega arith) in
          rw w.self-inside-is
          (run_written c.self.inside.blocks c.args.n (length bytes / 512) (from_entries es)
          (from_entries fs) old v bytes h before w.put.ensures.blocks long c.requires.one inside
          ∙ ap (λ s. disk_written c.args.n c.args.bytes.now (extents_disk s)) c.self.view_is))
      | in_default w ↦ elim here [
        | inl zeros ↦
            (let bytes = c.args.bytes.now in
            let inside = rw (← c.self.view_is) at c.requires.inside in
            let long : length bytes ≡ 512 * (length bytes / 512) = (let whole = c.requires.whole in omega arith) in
            rw (w.self-inside-is, c.get_mut.follows.holds-at-none)
            (sym (run_cleared c.self.inside.blocks es c.args.n (length bytes / 512) None w.in_default.ensures.value c.requires.one inside bytes refl
            (all_zeros bytes zeros ∙ ap (λ n. replicate n 0) long))
            ∙ ap (λ s. disk_written c.args.n c.args.bytes.now (extents_disk s)) c.self.view_is))
        | inr there ↦ absurd (never_none _ w.in_default.ensures.value (some_at es k there))
      ]
    ]

pub returns-clause-kept : goal.returns-clause-kept
returns-clause-kept c j some =
    let es = c.self.inside.extents.entries in
    let k = c.args.n / 64 in
    elim c.match-get_mut.branch [
      | in-Some w ↦
          (let v = w.put.new.self in
          let there = is_there (lookup (is_at (nat_cmp k)) es) w.in-Some.extent.now (sym w.in-Some.ensures.value) in
          let fs = (c.get_mut.follows.lender v).entries in
          let h = get_inserted es fs k v ((c.get_mut.follows.holds v).3 there).0 in
          let before = rw (← c.self.view_is) at some in
          rw w.self-inside-is (stays _ v (get (from_entries {R = nat_cmp} es) j) (get (from_entries {R = nat_cmp} fs) j) (h j) before))
      | in_default w ↦ (let before = rw (← c.self.view_is) at some in rw (w.self-inside-is, c.get_mut.follows.holds-at-none) before)
    ]

pub returns-clause-same : goal.returns-clause-same
returns-clause-same c =
    let es = c.self.inside.extents.entries in
    let k = c.args.n / 64 in
    elim c.match-get_mut.branch [
      | in-Some w ↦
          (let v = w.put.new.self in
          let old = w.in-Some.extent.now in
          let there = is_there (lookup (is_at (nat_cmp k)) es) old (sym w.in-Some.ensures.value) in
          let before = get_at es k ∙ sym w.in-Some.ensures.value in
          let fs = (c.get_mut.follows.lender v).entries in
          let h = get_inserted es fs k v ((c.get_mut.follows.holds v).3 there).0 in
          rw w.self-inside-is (kept_written (from_entries es) (from_entries fs) k v old h before ∙ ap kept_extents c.self.view_is))
      | in_default w ↦ rw (w.self-inside-is, c.get_mut.follows.holds-at-none) (ap kept_extents c.self.view_is)
    ]

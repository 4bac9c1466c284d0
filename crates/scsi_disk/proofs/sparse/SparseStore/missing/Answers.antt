use Rattle.std.proofs.Common.{◌≡◌, ◌+◌, ◌-◌, ◌/◌, ◌<◌, ℕ, true, false, sym, ap, ◌∙◌, is_some, arith, rules}
use Rattle.std.specs.FinMap.{get}
use Rattle.scsi_disk.specs.Sparse.{missing_extents}
use Rattle.scsi_disk.proofs.SparseLemmas.{get_at}
use Rattle.scsi_disk.proofs.KeptLemmas.{asked_none, asked_some, missing_none, next_missing}
use Rattle.scsi_disk.proofs.sparse.SparseStore.missing.Goals as goal
use Rattle.scsi_disk.proofs.sparse.SparseStore.missing.Goals.{then-not-contains_key, else-not-contains_key}

pub returns-then-count-eq0-clause-asked : goal.returns-then-count-eq0-clause-asked
returns-then-count-eq0-clause-asked c = search (rules, asked_none)

pub loop-extent-preserved : goal.loop-extent-preserved
loop-extent-preserved c =
    let m = c.args.self.now.extents in
    let k = c.loop-extent.extent-counter in
    let n = (c.args.first + c.args.count - 1) / 64 + 1 in
    let lt : k < n = omega arith in
    let has : is_some (get m k) ≡ c.contains_key.result = rw (← c.self.view_is) (ap is_some (get_at c.self.inside.extents.entries k) ∙ sym c.contains_key.ensures) in
    let before = c.loop-extent.invariant.asked in
    elim c.if-not-contains_key.branch [
      | then-not-contains_key w ↦
          (let absent : c.contains_key.result ≡ false = search rules in
          rw w.missing-is (record { asked = next_missing m k n c.loop-extent.missing _ false lt before (has ∙ absent); few = omega arith; end = search rules }))
      | else-not-contains_key w ↦
          (let present : c.contains_key.result ≡ true = search rules in
          let next = next_missing m k n c.loop-extent.missing _ true lt before (has ∙ present) in
          rw w.missing-is (record { asked = omega (arith, next); few = omega arith; end = search rules }))
    ]

pub returns-clause-asked : goal.returns-clause-asked
returns-clause-asked c =
    let m = c.args.self.now.extents in
    let k = c.loop-extent.extent-counter in
    let n = (c.args.first + c.args.count - 1) / 64 + 1 in
    let at_end : k ≡ n = omega arith in
    let none = ap (λ (j : ℕ). missing_extents m j (n - j)) at_end ∙ missing_none m n in
    let all = c.loop-extent.invariant.asked in
    let asked = asked_some c.args.self.now c.args.first c.args.count (omega arith) in
    omega (arith, none, all, asked)

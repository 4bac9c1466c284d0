use Rattle.std.proofs.Common.{◌≡◌, ◌+◌, ◌-◌, ◌/◌, ◌<◌, ℕ, cond, is_some, refl, ap, subst, ◌≤◌, ◌∙◌, arith, rules}
use Rattle.std.specs.FinMap.{get}
use Rattle.scsi_disk.specs.Sparse.{kept_extents}
use Rattle.scsi_disk.proofs.SparseLemmas.{is_reached, next_there}
use Rattle.scsi_disk.proofs.KeptLemmas.{asked_some, next_kept}
use Rattle.scsi_disk.proofs.sparse.SparseStore.reserve_all.Goals as goal

pub returns-in_err-reserve-clause-room : goal.returns-in_err-reserve-clause-room
returns-in_err-reserve-clause-room c has =
    let reached = is_reached _ c.args.first c.args.count c.loop-extent.extent (omega arith) has (omega arith) (omega arith) in
    let given = c.reserve.ensures.room (c.loop-extent.invariant.kept c.loop-extent.extent reached) in
    search rules

pub returns-in_err-reserve-clause-grows : goal.returns-in_err-reserve-clause-grows
returns-in_err-reserve-clause-grows c =
    let k = c.loop-extent.extent in
    let n = (c.args.first + c.args.count - 1) / 64 + 1 in
    let one = rw (c.loop-extent.invariant.rest k (omega arith)) at c.reserve.ensures.grows in
    let next = next_kept c.args.self.now.extents k n (kept_extents c.loop-extent.self) (kept_extents c.reserve.new.self) _ (omega arith)
    c.loop-extent.invariant.grows one in
    let asked = asked_some c.args.self.now c.args.first c.args.count (omega arith) in
    omega (arith, next, asked)

pub loop-extent-preserved : goal.loop-extent-preserved
loop-extent-preserved c =
    let k = c.loop-extent.extent in
    let n = (c.args.first + c.args.count - 1) / 64 + 1 in
    let one = rw (c.loop-extent.invariant.rest k (omega arith)) at c.reserve.ensures.grows in
    record {
      disk = c.reserve.ensures.disk ∙ c.loop-extent.invariant.disk;
      kept = λ j some. c.reserve.ensures.kept j (c.loop-extent.invariant.kept j some);
      there = next_there c.reserve.new.self.extents (c.args.first / 64) k k
          (λ j low high. c.reserve.ensures.kept j (c.loop-extent.invariant.there j low high)) refl c.in_ok-reserve.ensures.there;
      rest = λ j low. c.reserve.ensures.others j (λ same. omega (arith, same, low)) ∙ c.loop-extent.invariant.rest j (omega (arith, low));
      grows = next_kept c.args.self.now.extents k n (kept_extents c.loop-extent.self) (kept_extents c.reserve.new.self) _ (omega arith)
          c.loop-extent.invariant.grows one;
    }

pub returns-clause-grows : goal.returns-clause-grows
returns-clause-grows c =
    let all = c.loop-extent.invariant.grows in
    let asked = asked_some c.args.self.now c.args.first c.args.count (omega arith) in
    omega (arith, all, asked)

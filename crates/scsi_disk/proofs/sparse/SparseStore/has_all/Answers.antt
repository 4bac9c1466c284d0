use Rattle.std.proofs.Common.{◌/◌, All, IsSome, subst, ◌∙◌, arith, rules}
use Rattle.std.specs.FinMap.{get}
use Rattle.scsi_disk.specs.Sparse.{Extents}
use Rattle.scsi_disk.proofs.SparseLemmas.{run_is_there, next_there, behind_there}
use Rattle.scsi_disk.proofs.sparse.SparseStore.has_all.Goals as goal

pub loop-extent-init : goal.loop-extent-init
loop-extent-init c =
    let (a, n, is) = c.range-extent-items.ensures.contiguous in
    record {
      bound = omega arith;
      there = λ k low high. absurd (omega (arith, low, high));
      among = subst (λ (s : Extents). All (λ e. IsSome (get s.extents e.0)) c.into_iter-extent-iterator.result) c.self.view_is
          (run_is_there c.self.inside.extents.entries c.into_iter-extent-iterator.result a n (c.into_iter-extent-iterator.ensures.into_iter_gives ∙ is));
    }

pub loop-extent-preserved-then-next-end : goal.loop-extent-preserved-then-next-end
loop-extent-preserved-then-next-end c =
    let rest = subst (All (λ e. IsSome (get c.args.self.now.extents e.0))) c.in-Some.ensures.steps c.loop-extent.invariant.among in
    record {
      bound = omega arith;
      there = next_there c.args.self.now.extents (c.args.first / 64) c.loop-extent.next c.in-Some.extent.now c.loop-extent.invariant.there (search rules)
          (rest 0 (c.in-Some.extent.now, c.in-Some.field-0-1.now) (omega arith));
      among = behind_there c.args.self.now.extents _ c.next.new.self rest;
    }

pub loop-extent-preserved : goal.loop-extent-preserved
loop-extent-preserved c =
    let rest = subst (All (λ e. IsSome (get c.args.self.now.extents e.0))) c.in-Some.ensures.steps c.loop-extent.invariant.among in
    record {
      bound = c.loop-extent.invariant.bound;
      there = c.loop-extent.invariant.there;
      among = behind_there c.args.self.now.extents _ c.next.new.self rest;
    }

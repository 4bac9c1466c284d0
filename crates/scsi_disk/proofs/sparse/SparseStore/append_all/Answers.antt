use Rattle.std.proofs.Common.{◌++◌, List, ℕ, sym, ap, ◌∙◌, arith}
use Rattle.std.proofs.lemmas.List.{append-nil}
use Rattle.scsi_disk.specs.Sparse.{extents_disk}
use Rattle.scsi_disk.proofs.AppendLemmas.{appended_next}
use Rattle.scsi_disk.proofs.SparseLemmas.{joined-none}
use Rattle.scsi_disk.proofs.sparse.SparseStore.append_all.Goals as goal

pub loop-done-init : goal.loop-done-init
loop-done-init c = record {
  inside = omega arith;
  read = c.reserve.ensures.items ∙ sym (append-nil c.args.out.now.items)
      ∙ ap (λ (t : List ℕ). c.args.out.now.items ++ t) (sym (joined-none (extents_disk c.args.self.now).block c.args.first));
}

pub loop-done-preserved : goal.loop-done-preserved
loop-done-preserved c = record {
  inside = omega (arith, c.run_length-run.ensures.few);
  read = appended_next (extents_disk c.args.self.now) c.args.first c.loop-done.done c.run_length-run.result c.args.out.now.items c.loop-done.out.items
      c.append_run.new.out.items c.loop-done.invariant.read c.in_ok-append_run.ensures.ok;
}

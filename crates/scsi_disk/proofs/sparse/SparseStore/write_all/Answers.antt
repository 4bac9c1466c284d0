use Rattle.std.proofs.Common.{◌≡◌, ◌+◌, ◌-◌, ◌*◌, ◌/◌, ◌≤◌, length, take, drop, sym, ap, ◌∙◌, inl, inr, arith}
use Rattle.scsi_disk.specs.Disk.{disk_written}
use Rattle.scsi_disk.specs.Sparse.{extents_disk}
use Rattle.scsi_disk.proofs.OverlayLemmas.{written_none, written_next}
use Rattle.scsi_disk.proofs.SparseLemmas.{rest_there}
use Rattle.scsi_disk.proofs.sparse.SparseStore.write_all.Goals as goal

pub loop-done-init : goal.loop-done-init
loop-done-init c = record {
  inside = omega arith;
  disk = sym (written_none c.args.first (extents_disk c.args.self.now));
  shrinks = omega arith;
  there = elim c.requires.there [
    | inl zeros ↦ inl zeros
    | inr has ↦ inr (λ n low high. has n (omega (arith, low)) (omega (arith, high)))
  ];
}

pub loop-done-preserved : goal.loop-done-preserved
loop-done-preserved c =
    let first = c.args.first in
    let bytes = c.args.bytes.now in
    let i = c.loop-done.done in
    let run = c.run_length.result in
    let few = c.run_length.ensures.few in
    let room : 512 * (i + run) ≤ length bytes = omega arith in
    let long : 512 * (i + run) - 512 * i ≡ 512 * run = omega arith in
    record {
      inside = omega arith;
      disk =
          c.give_back.ensures.disk ∙ c.write_run.ensures.disk
          ∙ ap (λ k. disk_written (first + i) (take k (drop (512 * i) bytes)) (extents_disk c.loop-done.self)) long
          ∙ ap (disk_written (first + i) (take (512 * run) (drop (512 * i) bytes))) c.loop-done.invariant.disk
          ∙ written_next first i run bytes (extents_disk c.args.self.now) room;
      shrinks = (let before = c.loop-done.invariant.shrinks in let same = c.write_run.ensures.same in let less = c.give_back.ensures.shrinks in omega (arith, before, same, less));
      there = elim c.loop-done.invariant.there [
        | inl zeros ↦ inl zeros
        | inr has ↦ inr (rest_there c.loop-done.self.extents c.give_back.new.self.extents first i run (length bytes / 512) c.run_length.ensures.end
            c.run_length.ensures.some (λ k some. c.give_back.ensures.kept k (c.write_run.ensures.kept k some)) has)
      ];
    }

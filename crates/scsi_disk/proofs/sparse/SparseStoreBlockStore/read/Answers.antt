use Rattle.std.proofs.Common.{◌≡◌, ◌+◌, ◌-◌, ◌*◌, ◌/◌, ◌≤◌, length, take, drop, sym, ap, ◌∙◌, arith}
use Rattle.std.proofs.lemmas.List.{length-take-le, length-drop}
use Rattle.scsi_disk.specs.Disk.{blocks_from}
use Rattle.scsi_disk.specs.Sparse.{extents_disk}
use Rattle.scsi_disk.proofs.SparseLemmas.{joined-none, joined_next}
use Rattle.scsi_disk.proofs.sparse.SparseStoreBlockStore.read.Goals as goal

pub loop-done-init : goal.loop-done-init
loop-done-init c = record { inside = omega arith; read = sym (joined-none (extents_disk c.args.self.now).block c.args.lba) }

pub loop-done-preserved : goal.loop-done-preserved
loop-done-preserved c =
    let disk = extents_disk c.args.self.now in
    let i = c.loop-done.done in
    let run = c.run_length.result in
    let few = c.run_length.ensures.few in
    let behind = drop (512 * i) c.loop-done.out in
    let room : 512 * (i + run) ≤ length c.loop-done.out = (let same = c.loop-done.auto.out in omega arith) in
    let part : length (take (512 * (i + run) - 512 * i) behind) ≡ 512 * (i + run) - 512 * i =
    length-take-le (512 * (i + run) - 512 * i) behind (omega (arith, length-drop (512 * i) c.loop-done.out)) in
    let count : length (take (512 * (i + run) - 512 * i) behind) / 512 ≡ run = omega arith in
    let is = c.read_run.ensures ∙ ap (blocks_from disk (c.args.lba + i)) count in
    let long : length c.read_run.new.out ≡ 512 * run = (let kept = c.read_run.auto.out in omega arith) in
    record {
      inside = omega arith;
      read = joined_next 512 c.loop-done.out c.read_run.new.out disk.block c.args.lba i run _ is long (omega arith) c.loop-done.invariant.read;
    }

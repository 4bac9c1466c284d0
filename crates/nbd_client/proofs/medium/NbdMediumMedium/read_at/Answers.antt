use Rattle.std.proofs.Common.{◌≡◌, ◌+◌, ◌-◌, ◌*◌, ◌/◌, ◌≤◌, ℕ, length, take, drop, refl, sym, ap, ◌∙◌, arith}
use Rattle.std.proofs.lemmas.List.{length-take-le, length-drop}
use Rattle.scsi_disk.specs.Disk.{Disk, blocks_from}
use Rattle.scsi_disk.proofs.SparseLemmas.{joined-none, joined_next}
use Rattle.nbd_client.proofs.ServingLemmas.{first_is_same, rises_none, rises_then, second_is_same}
use Rattle.nbd_client.proofs.medium.NbdMediumMedium.read_at.Goals as goal

pub loop-done-init : goal.loop-done-init
loop-done-init g c = record {
  inside = omega arith;
  read = λ _. sym (joined-none (g.L.Line.disk c.args.self.now.line).block c.args.lba);
  disk = refl;
  kept = λ n b has. has;
  sizes = refl;
  untold = rises_none _ _;
}

pub loop-done-preserved : goal.loop-done-preserved
loop-done-preserved g c =
    let disk = g.L.Line.disk c.args.self.now.line in
    let i = c.loop-done.done in
    let run = c.run_length.result in
    let few = c.run_length.ensures.few in
    let before = c.loop-done.invariant in
    let behind = drop (512 * i) c.loop-done.out in
    let room : 512 * (i + run) ≤ length c.loop-done.out = (let same = c.loop-done.auto.out in omega arith) in
    let part : length (take (512 * (i + run) - 512 * i) behind) ≡ 512 * (i + run) - 512 * i =
    length-take-le (512 * (i + run) - 512 * i) behind (omega (arith, length-drop (512 * i) c.loop-done.out)) in
    let count : length (take (512 * (i + run) - 512 * i) behind) / 512 ≡ run = omega arith in
    let long : length c.read_run.new.out ≡ 512 * run = (let kept = c.read_run.auto.out in omega arith) in
    record {
      inside = omega arith;
      read = λ same.
          let first = first_is_same _ _ _ before.untold.rises c.read_run.ensures.untold.rises same in
          let second = second_is_same _ _ _ before.untold.rises c.read_run.ensures.untold.rises same in
          let is = c.in_ok-read_run.ensures.read second
          ∙ ap (λ (d : Disk). blocks_from d (c.args.lba + i) (length (take (512 * (i + run) - 512 * i) behind) / 512)) before.disk
          ∙ ap (blocks_from disk (c.args.lba + i)) count in
          joined_next 512 c.loop-done.out c.read_run.new.out disk.block c.args.lba i run _ is long (omega arith) (before.read first);
      disk = c.read_run.ensures.disk ∙ before.disk;
      kept = λ n b has. before.kept n b (c.read_run.ensures.kept n b has);
      sizes = c.read_run.ensures.sizes ∙ before.sizes;
      untold = rises_then _ _ _ _ _ (ap (λ (d : Disk). d.tells) before.disk) before.untold c.read_run.ensures.untold;
    }

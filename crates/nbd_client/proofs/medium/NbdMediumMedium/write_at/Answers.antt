use Rattle.std.proofs.Common.{◌≡◌, ◌+◌, ◌-◌, ◌*◌, ◌≤◌, ℕ, length, take, drop, refl, sym, ap, subst, ◌∙◌, arith}
use Rattle.scsi_disk.specs.Disk.{Disk, disk_written}
use Rattle.scsi_disk.proofs.OverlayLemmas.{written_none, written_next}
use Rattle.nbd_client.specs.Serving.{MayWrite}
use Rattle.nbd_client.proofs.ServingLemmas.{first_is_same, may_write_more, may_write_none, rises_none, rises_then, second_is_same}
use Rattle.nbd_client.proofs.medium.NbdMediumMedium.write_at.Goals as goal

pub loop-done-init : goal.loop-done-init
loop-done-init g c = record {
  inside = omega arith;
  may = may_write_none c.args.lba c.args.bytes.now _ _;
  written = λ _. sym (written_none c.args.lba (g.L.Line.disk c.args.self.now.line));
  sizes = refl;
  untold = rises_none _ _;
}

pub returns-in_err-write_run-clause-each : goal.returns-in_err-write_run-clause-each
returns-in_err-write_run-clause-each g c =
    let i = c.loop-done.done in
    let run = c.run_length.result in
    let few = c.run_length.ensures.few in
    let room : 512 * (i + run) ≤ length c.args.bytes.now = omega arith in
    let long : 512 * (i + run) - 512 * i ≡ 512 * run = omega arith in
    let part = subst (λ (k : ℕ). MayWrite (c.args.lba + i) (take k (drop (512 * i) c.args.bytes.now)) (g.L.Line.disk c.loop-done.self.line)
    (g.L.Line.kept c.loop-done.self.line) (g.L.Line.disk c.write_run.new.self.line) (g.L.Line.kept c.write_run.new.self.line)) long c.write_run.ensures.may in
    (may_write_more c.args.lba i run c.args.bytes.now _ _ _ _ _ _ room (g.met.L.Line.stays c.args.self.now.line) c.loop-done.invariant.may part).each

pub returns-in_err-write_run-clause-kept : goal.returns-in_err-write_run-clause-kept
returns-in_err-write_run-clause-kept g c =
    let i = c.loop-done.done in
    let run = c.run_length.result in
    let few = c.run_length.ensures.few in
    let room : 512 * (i + run) ≤ length c.args.bytes.now = omega arith in
    let long : 512 * (i + run) - 512 * i ≡ 512 * run = omega arith in
    let part = subst (λ (k : ℕ). MayWrite (c.args.lba + i) (take k (drop (512 * i) c.args.bytes.now)) (g.L.Line.disk c.loop-done.self.line)
    (g.L.Line.kept c.loop-done.self.line) (g.L.Line.disk c.write_run.new.self.line) (g.L.Line.kept c.write_run.new.self.line)) long c.write_run.ensures.may in
    (may_write_more c.args.lba i run c.args.bytes.now _ _ _ _ _ _ room (g.met.L.Line.stays c.args.self.now.line) c.loop-done.invariant.may part).lasting

pub loop-done-preserved : goal.loop-done-preserved
loop-done-preserved g c =
    let first = c.args.lba in
    let bytes = c.args.bytes.now in
    let i = c.loop-done.done in
    let run = c.run_length.result in
    let few = c.run_length.ensures.few in
    let before = c.loop-done.invariant in
    let room : 512 * (i + run) ≤ length c.args.bytes.now = omega arith in
    let long : 512 * (i + run) - 512 * i ≡ 512 * run = omega arith in
    let part = subst (λ (k : ℕ). MayWrite (first + i) (take k (drop (512 * i) bytes)) (g.L.Line.disk c.loop-done.self.line)
    (g.L.Line.kept c.loop-done.self.line) (g.L.Line.disk c.write_run.new.self.line) (g.L.Line.kept c.write_run.new.self.line)) long c.write_run.ensures.may in
    record {
      inside = omega arith;
      may = may_write_more first i run bytes _ _ _ _ _ _ room (g.met.L.Line.stays c.args.self.now.line) before.may part;
      written = λ same.
          let start = first_is_same _ _ _ before.untold.rises c.write_run.ensures.untold.rises same in
          let step = second_is_same _ _ _ before.untold.rises c.write_run.ensures.untold.rises same in
          c.in_ok-write_run.ensures.done step
          ∙ ap (λ k. disk_written (first + i) (take k (drop (512 * i) bytes)) (g.L.Line.disk c.loop-done.self.line)) long
          ∙ ap (disk_written (first + i) (take (512 * run) (drop (512 * i) bytes))) (before.written start)
          ∙ written_next first i run bytes (g.L.Line.disk c.args.self.now.line) room;
      sizes = c.write_run.ensures.sizes ∙ before.sizes;
      untold = rises_then _ _ _ _ _ before.may.each.tells before.untold c.write_run.ensures.untold;
    }

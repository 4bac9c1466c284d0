use Rattle.std.proofs.Common.{◌≡◌, ◌/◌, length, take, sym, ◌∙◌, ap, arith}
use Rattle.std.proofs.lemmas.List.{length-take-le}
use Rattle.scsi_disk.specs.Disk.{disk_written}
use Rattle.scsi_disk.specs.FailAt.{FailingStore, failing_disk}
use Rattle.scsi_disk.proofs.OverlayLemmas.{first_alone, written_short}
use Rattle.scsi_disk.proofs.fail_at.FailAtBlockStore.write.Goals as goal

pub write-requires-clause-inside : goal.write-requires-clause-inside
write-requires-clause-inside c =
    let same : length c.self.inside.store / 512 ≡ length c.args.self.now.bytes / 512 =
    ap (λ (s : FailingStore). (failing_disk s).count) c.self.view_is ∙ ap (λ (s : FailingStore). (failing_disk s).count) c.fails.ensures.passed in
    omega (arith, length-take-le 512 c.args.bytes.now c.if-bytes-ge512.true)

pub returns-then-bytes-ge512-clause-device : goal.returns-then-bytes-ge512-clause-device
returns-then-bytes-ge512-clause-device c _ =
    first_alone c.args.lba c.args.bytes.now (failing_disk c.args.self.now) _ c.if-bytes-ge512.true
    (c.write.ensures.disk ∙ ap (disk_written c.args.lba (take 512 c.args.bytes.now)) (ap failing_disk c.self.view_is ∙ ap failing_disk c.fails.ensures.passed))

pub returns-else-bytes-ge512-clause-first : goal.returns-else-bytes-ge512-clause-first
returns-else-bytes-ge512-clause-first c _ =
    let short : length c.args.bytes.now ≡ 0 = omega arith in
    ap failing_disk c.fails.ensures.passed ∙ sym (written_short c.args.lba c.args.bytes.now (failing_disk c.args.self.now) short)

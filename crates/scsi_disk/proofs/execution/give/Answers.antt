use Rattle.std.proofs.Common.{◌≡◌, ◌+◌, ◌*◌, ◌/◌, ℕ, min, take, arith, ◌∙◌, ap}
use Rattle.scsi_disk.specs.Disk.{blocks_from}
use Rattle.scsi_disk.specs.Plan.{expected_length}
use Rattle.scsi_disk.proofs.PlanLemmas.{gives_front}
use Rattle.scsi_disk.proofs.execution.give.Goals as goal

pub returns-clause-ok : goal.returns-clause-ok
returns-clause-ok g c = λ same.
    let disk = g.S.BlockStore.disk c.args.store.now in
    let range = c.args.range in
    let n : ℕ = min (512 * range.count) (expected_length c.args.order.now) in
    let length : c.min-length.result ≡ n = c.min-length.ensures ∙ ap (min (512 * range.count)) c.expected_length.ensures in
    c.good.ensures
    ∙ gives_front disk c.args.order.now range n c.in_ok-bytes.bytes.items c.requires.reads c.requires.names (omega arith)
    (c.in_ok-bytes.ensures.size ∙ length)
    (c.in_ok-bytes.ensures.ok same ∙ ap (λ (k : ℕ). take k (blocks_from disk range.first ((k + 511) / 512))) length)

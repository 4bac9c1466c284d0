use Rattle.std.proofs.Common.{◌≡◌, ◌+◌, ◌-◌, ◌*◌, take, drop, sym, ap, ◌∙◌, arith}
use Rattle.scsi_disk.specs.Disk.{joined_blocks, cut}
use Rattle.scsi_disk.proofs.AppendLemmas.{extended}
use Rattle.scsi_disk.proofs.BlockLemmas.{joined-cut}
use Rattle.scsi_disk.proofs.memory.append_blocks.Goals as goal

pub returns-clause-ok : goal.returns-clause-ok
returns-clause-ok c =
    let first = 512 * c.args.lba in
    let size : 512 * c.args.lba + 512 * c.args.blocks - 512 * c.args.lba ≡ 512 * c.args.blocks = omega arith in
    extended c.extend_from_slice.result c.args.out.now.items c.extend_from_slice.new.self.items _
    (joined_blocks (cut 512 c.args.bytes.now) c.args.lba c.args.blocks)
    c.extend_from_slice.ensures.items
    (ap (λ n. take n (drop (512 * c.args.lba) c.args.bytes.now)) size ∙ sym (joined-cut 512 c.args.bytes.now c.args.lba c.args.blocks))

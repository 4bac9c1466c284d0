use Rattle.std.proofs.Common.{◌∙◌, ap, ℕ, List, ◌++◌}
use Rattle.scsi_disk.specs.Disk.{IsDisk, cut, disk_of, joined_blocks}
use Rattle.scsi_disk.proofs.AppendLemmas.{appended}
use Rattle.scsi_disk.proofs.BlockLemmas.{is_disk}
use Rattle.scsi_disk.proofs.memory.MemoryStoreBlockStore.read_onto.Goals as goal

pub returns-clause-appends : goal.returns-clause-appends
returns-clause-appends c =
    let disk : IsDisk (disk_of c.args.self.now) = rw (← c.self.view_is) (is_disk _ c.self.invariant) in
    appended (disk_of c.args.self.now) c.args.lba c.args.blocks c.args.out.now.items c.append_blocks.new.out.items disk c.requires.inside
    (c.in_ok-append_blocks.ensures.ok
    ∙ ap (λ (t : List ℕ). c.args.out.now.items ++ joined_blocks (cut 512 t) c.args.lba c.args.blocks) (c.deref.ensures.value ∙ c.self.view_is))

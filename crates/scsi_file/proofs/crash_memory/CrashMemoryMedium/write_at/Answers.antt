use Rattle.std.proofs.Common.{rules, arith, ◌≡◌, ◌++◌, length, take, drop}
use Rattle.std.proofs.lemmas.Grind.{common_steps}
use Rattle.scsi_disk.specs.Disk.{cut, overlaid}
use Rattle.scsi_file.proofs.PastLemmas.{adds}
use Rattle.scsi_file.proofs.crash_memory.CrashMemoryMedium.write_at.Goals as goal

pub returns-clause-kept : goal.returns-clause-kept
returns-clause-kept c =
    let bytes = c.args.self.now.bytes.items in
    let same : c.in-Ok.before.items ≡ bytes = search rules in
    let now = take c.args.self.now.bytes.len (c.write_blocks.new.bytes ++ drop (length c.write_blocks.new.bytes) bytes) in
    let is : cut 512 now ≡ overlaid 512 c.args.lba c.args.bytes.now (cut 512 bytes) = grind (arith, common_steps) in
    adds bytes now (overlaid 512 c.args.lba c.args.bytes.now (cut 512 bytes)) c.args.self.now.past.items c.push.new.self.items
    c.in-Ok.before is same c.in-Ok-push.ensures.items

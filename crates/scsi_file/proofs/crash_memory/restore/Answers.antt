use Rattle.std.proofs.Common.{arith, rules, length, sym, ◌≤◌, ◌*◌, ◌+◌, ◌/◌, ◌<◌}
use Rattle.scsi_file.proofs.PastLemmas.{restored, taken_out, one_there}
use Rattle.scsi_file.proofs.crash_memory.restore.Goals as goal

pub returns-then-n-len-clause-each : goal.returns-then-n-len-clause-each
returns-then-n-len-clause-each c = λ m.
    let lt : c.args.n < length c.deref.result.now / 512 = search rules in
    let room : 512 * c.args.n + 512 ≤ length c.deref.result.now = omega arith in
    restored c.args.bytes.now c.write_blocks.new.bytes _ c.args.past.now c.args.n m c.write_blocks.ensures
    (taken_out c.deref.result.now c.args.n room)
    (one_there c.args.past.now c.index-past-at.result c.index-past-at.result c.deref.result.now c.args.at c.args.n
    c.requires.there (sym c.index-past-at.is) c.deref.ensures.value)

use Rattle.std.proofs.Common.{arith, get_or}
use Rattle.std.proofs.lemmas.List.{get_or_default}
use Rattle.std.proofs.lemmas.List.Edits.{map_over_more}
use Rattle.iscsi_job_text.specs.Jobs.{blank_of}
use Rattle.iscsi_job_text.proofs.line_reading.make_plain.Goals as goal

pub loop-at-preserved : goal.loop-at-preserved
loop-at-preserved c =
    let old = get_or c.loop-at.line c.loop-at.at 0 in
    rw c.plain_byte.ensures (map_over_more blank_of c.args.line.now c.loop-at.line c.loop-at.at old c.loop-at-test.true c.loop-at.invariant (get_or_default c.loop-at.line c.loop-at.at 0 old (omega arith)))

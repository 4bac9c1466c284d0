use Rattle.std.proofs.Common.{refl, arith, ◌∙◌, sym}
use Rattle.scsi_disk.proofs.DeedLemmas.{alike_here, ended, other_here}
use Rattle.scsi_disk.proofs.deed.first_other.Goals as goal

pub loop-place-init : goal.loop-place-init
loop-place-init c = refl

pub returns-then-due-place : goal.returns-then-due-place
returns-then-due-place c =
    sym (c.loop-place.invariant
    ∙ other_here c.loop-place.place c.loop-place.place c.args.due.now c.args.found.now (omega arith) (omega arith) c.if-due-place.true)

pub loop-place-preserved : goal.loop-place-preserved
loop-place-preserved c =
    c.loop-place.invariant
    ∙ alike_here c.loop-place.place c.loop-place.place c.args.due.now c.args.found.now (omega arith) (omega arith) c.if-due-place.false

pub returns : goal.returns
returns c =
    sym (c.loop-place.invariant ∙ ended c.loop-place.place c.loop-place.place c.args.due.now c.args.found.now (omega arith))

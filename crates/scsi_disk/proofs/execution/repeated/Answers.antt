use Rattle.std.proofs.Common.{◌≡◌, ◌∙◌, ◌*◌, length, ap, arith}
use Rattle.scsi_disk.proofs.RepeatLemmas.{length_repeat, repeated_next}
use Rattle.scsi_disk.proofs.execution.repeated.Goals as goal

pub loop-preserved : goal.loop-preserved
loop-preserved c = record {
  within = omega (arith, c.loop-test.true);
  all = c.in_ok-extend_from_slice.ensures.items
      ∙ repeated_next c.loop.counter c.args.block.now c.loop.all.items c.loop.invariant.all;
}

pub returns-clause-size : goal.returns-clause-size
returns-clause-size c =
    ap length c.loop.invariant.all ∙ length_repeat c.loop.counter 512 c.args.block.now c.requires.short
    ∙ (let all : 512 * c.loop.counter ≡ 512 * c.args.count = omega arith in all)

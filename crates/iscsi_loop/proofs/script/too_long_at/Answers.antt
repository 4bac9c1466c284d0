use Rattle.std.proofs.Common.{arith}
use Rattle.std.proofs.lemmas.List.{length-take}
use Rattle.iscsi_loop.proofs.script.too_long_at.Goals as goal

pub slice_bounds-front-end : goal.slice_bounds-front-end
slice_bounds-front-end c = omega (arith, length-take 1048576 c.args.script.now, c.requires)

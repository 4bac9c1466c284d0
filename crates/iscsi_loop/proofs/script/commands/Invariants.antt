use Rattle.std.proofs.Common.{◌≡◌, ◌++◌, length, map, Some}
use Rattle.iscsi_loop.specs.Script.{meanings}
use Rattle.iscsi_loop.specs.inner.Script.{AreCommandsInRange}
use Rattle.iscsi_loop.proofs.script.commands.Given as goal

abbrev pub invariant-loop-rest : goal.invariant-loop-rest
invariant-loop-rest l = (meanings l.script ≡ map Some l.commands.items ++ meanings l.rest) × AreCommandsInRange l.commands.items

abbrev pub decreases-loop-rest : goal.decreases-loop-rest
decreases-loop-rest l = length l.rest

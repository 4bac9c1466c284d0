use Rattle.std.proofs.Common.{length}
use Rattle.capture_file.proofs.time_units.resolution.Given as goal

abbrev pub decreases-loop-rest : goal.decreases-loop-rest
decreases-loop-rest l = length l.rest

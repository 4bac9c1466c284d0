use Rattle.std.proofs.Common.{length}
use Rattle.iscsi_comparison.proofs.program.Said.+with_all.Given as goal

abbrev pub decreases-with_all : goal.decreases-with_all
decreases-with_all g l = length l.words.now

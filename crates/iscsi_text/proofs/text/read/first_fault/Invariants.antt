use Rattle.std.proofs.Common.{length}
use Rattle.iscsi_text.proofs.FirstFaultLemmas.{Seen}
use Rattle.iscsi_text.proofs.text.read.first_fault.Given as goal

abbrev pub invariant-loop-pair : goal.invariant-loop-pair
invariant-loop-pair l = Seen l.bytes l.rest l.keys

abbrev pub decreases-loop-pair : goal.decreases-loop-pair
decreases-loop-pair l = length l.rest

use Rattle.std.proofs.Common.{length}
use Rattle.iscsi_initiator.proofs.SequenceLemmas.{due, Wrote}
use Rattle.iscsi_initiator.proofs.session.data_out.write_pieces.Given as goal

abbrev pub invariant-loop-rest : goal.invariant-loop-rest
invariant-loop-rest l = Wrote l.most (due l.fn.first l.bytes) (due l.next l.rest) l.initial.out.items l.out.items

abbrev pub decreases-loop-rest : goal.decreases-loop-rest
decreases-loop-rest l = length l.rest

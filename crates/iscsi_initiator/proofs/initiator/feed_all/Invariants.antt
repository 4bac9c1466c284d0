use Rattle.std.proofs.Common.{length}
use Rattle.iscsi_initiator.specs.inner.Inside.{initiator_connection}
use Rattle.iscsi_initiator.proofs.ReceivingLemmas.{standing, GoesUpTo}
use Rattle.iscsi_initiator.proofs.initiator.feed_all.Given as goal

abbrev pub invariant-loop-rest : goal.invariant-loop-rest
invariant-loop-rest l = GoesUpTo (standing (initiator_connection l.initial.session l.initial.framer) l.initial.out.items) l.piece l.rest
    (standing (initiator_connection l.session l.framer) l.out.items)

abbrev pub decreases-loop-rest : goal.decreases-loop-rest
decreases-loop-rest l = length l.rest

use Rattle.std.proofs.Common.{◌≡◌, [], length}
use Rattle.scsi_disk.specs.Sparse.{extents_disk}
use Rattle.iscsi_loop.specs.LoopPairs.{IsFaithful}
use Rattle.iscsi_loop.specs.inner.LoopPairs.{GoOn, ends_of}
use Rattle.iscsi_loop.proofs.loop_script.LoopbackSession.feed_target.Given as goal

abbrev pub invariant-loop-rest : goal.invariant-loop-rest
invariant-loop-rest g l = (l.self.initiator ≡ l.initial.self.initiator)
    × (IsFaithful g.C.Carrier.carries → GoOn (ends_of l.initial.self.initiator l.initial.self.target (extents_disk l.initial.self.store) l.fn.requests [])
    (ends_of l.self.initiator l.self.target (extents_disk l.self.store) l.rest l.answers.items))

abbrev pub decreases-loop-rest : goal.decreases-loop-rest
decreases-loop-rest g l = length l.rest

use Rattle.std.proofs.Common.{[]}
use Rattle.scsi_disk.specs.Sparse.{extents_disk}
use Rattle.iscsi_loop.specs.inner.LoopSteps.{InitiatorContinues}
use Rattle.iscsi_loop.specs.LoopPairs.{IsFaithful}
use Rattle.iscsi_loop.specs.inner.LoopPairs.{GoOn, ends_of}
use Rattle.iscsi_loop.proofs.loop_script.LoopbackSession.settle.Given as goal

abbrev pub invariant-loop : goal.invariant-loop
invariant-loop g l = InitiatorContinues l.initial.self.initiator.machine [] [] l.self.initiator.machine
    × (IsFaithful g.C.Carrier.carries → GoOn (ends_of l.initial.self.initiator l.initial.self.target (extents_disk l.initial.self.store) l.fn.requests.items [])
    (ends_of l.self.initiator l.self.target (extents_disk l.self.store) l.requests.items []))

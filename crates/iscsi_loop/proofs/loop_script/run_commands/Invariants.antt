use Rattle.std.proofs.Common.{◌≡◌, ℕ, [], length}
use Rattle.std.specs.Vec.Iter.{into_iter_items, into_iter_len}
use Rattle.scsi_disk.specs.Sparse.{extents_disk}
use Rattle.iscsi_loop.specs.inner.Script.{AreCommandsInRange}
use Rattle.iscsi_loop.specs.LoopPairs.{IsFaithful}
use Rattle.iscsi_loop.specs.inner.LoopPairs.{AreOneDisk, ends_of}
use Rattle.iscsi_loop.proofs.HistoryLemmas.{DoneSoFar}
use Rattle.iscsi_loop.proofs.OnDiskLaw.{OnDiskSoFar}
use Rattle.iscsi_loop.proofs.loop_script.run_commands.Given as goal

abbrev pub invariant-loop-command : goal.invariant-loop-command
invariant-loop-command g l = DoneSoFar l.fn.commands.items (into_iter_items l.command-iterator) l.ends.initiator.machine (g.W.Write.contents l.initial.w)
    (g.W.Write.contents l.w)
    × (into_iter_len l.command-iterator ≡ length (into_iter_items l.command-iterator))
    × (IsFaithful g.C.Carrier.carries → (blocks : ℕ) → AreOneDisk blocks [] (ends_of l.initial.ends.initiator l.initial.ends.target
    (extents_disk l.initial.ends.store) [] [])
    → OnDiskSoFar blocks l.fn.commands.items (into_iter_items l.command-iterator) (ends_of l.ends.initiator l.ends.target (extents_disk l.ends.store) [] [])
    (g.W.Write.contents l.initial.w) (g.W.Write.contents l.w))
    × (AreCommandsInRange l.fn.commands.items → AreCommandsInRange (into_iter_items l.command-iterator))

use Rattle.std.proofs.Common.{◌≡◌, ◌-◌, true, false}
use Rattle.iscsi_target.specs.Machine.{is_machine_closed}
use Rattle.iscsi_target.specs.Advances.{store_of}
use Rattle.iscsi_serve.proofs.SessionReadInvariant.{outside}
use Rattle.iscsi_serve.proofs.SessionCrashLemmas.{SessionUpTo}
use Rattle.iscsi_serve.proofs.session.serve_pieces.Given as goal

abbrev pub invariant-loop-n : goal.invariant-loop-n
invariant-loop-n g l =
    (is_machine_closed l.target.machine ≡ false) × SessionUpTo g.S.BlockStore.protected l.initial.target.machine.session.settings
    (outside (store_of (g.S.BlockStore.disk l.initial.store) (g.S.BlockStore.failures l.initial.store)) (g.R.Read.remaining l.initial.r)
    (g.W.Write.contents l.initial.w)) l.target
    (outside (store_of (g.S.BlockStore.disk l.store) (g.S.BlockStore.failures l.store)) (g.R.Read.remaining l.r) (g.W.Write.contents l.w))
    (g.S.BlockStore.kept l.initial.store) (g.S.BlockStore.kept l.store)
    × (g.S.BlockStore.synced l.initial.store ≡ true → g.S.BlockStore.synced l.store ≡ true)

abbrev pub decreases-loop-n : goal.decreases-loop-n
decreases-loop-n g l = 16777216 - l.reads

use Rattle.std.proofs.Common.{◌≡◌, true, false, length, []}
use Rattle.iscsi_target.specs.Machine.{is_machine_closed}
use Rattle.iscsi_target.specs.Advances.{store_of}
use Rattle.iscsi_serve.specs.inner.SessionSteps.{service}
use Rattle.iscsi_serve.proofs.PieceLemmas.{PieceUpTo}
use Rattle.iscsi_serve.proofs.SessionCrashLemmas.{AdvancesUpTo, Crashed, LastUpTo, SomeSynced, serving}
use Rattle.iscsi_serve.proofs.session.serve_piece.Given as goal

abbrev pub invariant-loop-rest : goal.invariant-loop-rest
invariant-loop-rest g l =
    (is_machine_closed l.target.machine ≡ false) × PieceUpTo g.S.BlockStore.protected
    (service l.fn.target (store_of (g.S.BlockStore.disk l.fn.store) (g.S.BlockStore.failures l.fn.store)) (g.W.Write.contents l.fn.w) []) l.fn.piece l.rest
    (service l.target (store_of (g.S.BlockStore.disk l.store) (g.S.BlockStore.failures l.store)) (g.W.Write.contents l.w) l.out.items)
    × AdvancesUpTo g.S.BlockStore.protected l.fn.target (store_of (g.S.BlockStore.disk l.fn.store) (g.S.BlockStore.failures l.fn.store))
    l.fn.piece l.rest l.target
    (store_of (g.S.BlockStore.disk l.store) (g.S.BlockStore.failures l.store))
    × Crashed g.S.BlockStore.protected l.fn.target (store_of (g.S.BlockStore.disk l.fn.store) (g.S.BlockStore.failures l.fn.store)) l.fn.piece
    (store_of (g.S.BlockStore.disk l.store) (g.S.BlockStore.failures l.store)) (g.S.BlockStore.kept l.fn.store) (g.S.BlockStore.kept l.store)
    × (g.S.BlockStore.synced l.fn.store ≡ true → SomeSynced g.S.BlockStore.synced
    (λ s. store_of (g.S.BlockStore.disk s) (g.S.BlockStore.failures s)) g.S.BlockStore.kept (λ then kept. LastUpTo g.S.BlockStore.protected
    (service l.fn.target (store_of (g.S.BlockStore.disk l.fn.store) (g.S.BlockStore.failures l.fn.store)) (g.W.Write.contents l.fn.w) [])
    (serving l.fn.piece l.rest) then kept
    (service l.target (store_of (g.S.BlockStore.disk l.store) (g.S.BlockStore.failures l.store)) (g.W.Write.contents l.w) l.out.items)
    (g.S.BlockStore.kept l.store)))

abbrev pub decreases-loop-rest : goal.decreases-loop-rest
decreases-loop-rest g l = length l.rest

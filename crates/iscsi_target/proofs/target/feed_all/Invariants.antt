use Rattle.std.proofs.Common.{length}
use Rattle.iscsi_target.specs.Advances.{store_of}
use Rattle.iscsi_target.specs.Crash.{CrashesFed}
use Rattle.iscsi_target.proofs.Feed.FeedStepLemmas.{GoesUpTo}
use Rattle.iscsi_target.specs.Feed.{scene}
use Rattle.iscsi_target.proofs.target.feed_all.Given as goal

abbrev pub invariant-loop-rest : goal.invariant-loop-rest
invariant-loop-rest g l =
    GoesUpTo g.S.BlockStore.protected (scene l.initial.intake
    (store_of (g.S.BlockStore.disk l.initial.store) (g.S.BlockStore.failures l.initial.store)) l.initial.out.items) l.piece l.rest
    (scene l.intake (store_of (g.S.BlockStore.disk l.store) (g.S.BlockStore.failures l.store)) l.out.items)
    × CrashesFed g.S.BlockStore.protected l.initial.intake
    (store_of (g.S.BlockStore.disk l.initial.store) (g.S.BlockStore.failures l.initial.store)) l.piece
    (store_of (g.S.BlockStore.disk l.store) (g.S.BlockStore.failures l.store)) (g.S.BlockStore.kept l.initial.store) (g.S.BlockStore.kept l.store)

abbrev pub decreases-loop-rest : goal.decreases-loop-rest
decreases-loop-rest g l = length l.rest

use Rattle.std.proofs.Common.{subst, sym}
use Rattle.iscsi_target.specs.Feed.{scene, TargetConnection, HasAnswered, beginning}
use Rattle.iscsi_target.specs.Advances.{store_of}
use Rattle.iscsi_target.proofs.Feed.StreamingLemmas.{goes_on}
use Rattle.iscsi_target.proofs.target.Target.feed.Goals as goal

pub returns-clause-stream : goal.returns-clause-stream
returns-clause-stream g c = λ settings n disk stream works live h.
    goes_on g.S.BlockStore.protected (beginning settings n disk) stream
    (scene c.self.inside.intake (store_of (g.S.BlockStore.disk c.args.store.now) (g.S.BlockStore.failures c.args.store.now)) c.args.out.now.items)
    c.args.piece.now c.feed_all.result (scene c.feed_all.new.intake (store_of (g.S.BlockStore.disk c.feed_all.new.store)
    (g.S.BlockStore.failures c.feed_all.new.store)) c.feed_all.new.out.items) c.feed_all.ensures.fed works live
    (subst (λ (o : TargetConnection). HasAnswered g.S.BlockStore.protected (beginning settings n disk) stream o
    (g.S.BlockStore.disk c.args.store.now) c.args.out.now.items)
    (sym c.self.view_is) h)

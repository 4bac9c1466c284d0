use Rattle.std.proofs.Common.{take, ap}
use Rattle.iscsi_target.specs.inner.Arrival.{Arrival}
use Rattle.iscsi_target.proofs.Feed.ArrivalLemmas.{one_piece}
use Rattle.iscsi_target.proofs.incoming.Incoming.head.Goals as goal

pub returns-clause-joined : goal.returns-clause-joined
returns-clause-joined c = one_piece c.args.self.now.write (take c.self.inside.start c.self.inside.bytes.items)
    (ap (λ (a : Arrival). a.write.pieces) c.self.view_is)

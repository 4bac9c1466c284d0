use Rattle.std.proofs.Common.{sym, subst}
use Rattle.iscsi_pair.specs.World.{World, event_of}
use Rattle.iscsi_pair.specs.inner.World.{HasCome}
use Rattle.iscsi_pair.proofs.Run.ComesLemmas.{comes_more}
use Rattle.iscsi_pair.proofs.pair.Pair.step.Goals as goal

pub invariant_of-self : goal.invariant_of-self
invariant_of-self c =
    comes_more c.deref_mut.result.now c.step.new.self (event_of c.args.step)
    (subst (λ (w : World). HasCome w) (sym c.deref_mut.ensures.value) c.self.invariant) c.step.ensures

use Rattle.std.proofs.Common.{◌∙◌, ap, sym, subst}
use Rattle.iscsi_pair.specs.World.{World, Takes}
use Rattle.iscsi_pair.specs.inner.World.{HasCome}
use Rattle.iscsi_pair.proofs.Run.ComesLemmas.{comes_more}
use Rattle.iscsi_pair.proofs.pair.Pair.outcome.Goals as goal

pub invariant_of-self : goal.invariant_of-self
invariant_of-self c =
    comes_more c.deref_mut.result.now c.outcome.new.self Takes
    (subst (λ (w : World). HasCome w) (sym c.deref_mut.ensures.value) c.self.invariant) c.outcome.ensures.taken

pub returns-clause-outcome : goal.returns-clause-outcome
returns-clause-outcome c = c.outcome.ensures.outcome ∙ ap (λ (w : World). w.initiator.machine.done) (c.deref_mut.ensures.value ∙ c.self.view_is)

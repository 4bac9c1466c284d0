use Rattle.std.proofs.Common.{◌≡◌, sym, subst, ◌∙◌}
use Rattle.iscsi_login.specs.declared.stage.Stage.TheVariants as stages
use Rattle.iscsi_pair.specs.World.{World}
use Rattle.iscsi_pair.specs.inner.World.{HasCome}
use Rattle.iscsi_pair.specs.contracts.pair.Ends.{the_view}
use Rattle.iscsi_pair.proofs.Run.ComesLemmas.{agreed, both_full}
use Rattle.iscsi_pair.proofs.pair.Pair.params.Goals as goal

pub returns-in-Full-clause-equal : goal.returns-in-Full-clause-equal
returns-in-Full-clause-equal c =
    let come : HasCome (the_view c.ends.inside) = subst (λ (w : World). HasCome w) (sym (c.ends.view_is ∙ c.deref-ends.ensures)) c.self.invariant in
    c.params-in-Full.ensures.held ∙ sym (agreed (the_view c.ends.inside) come (sym c.stage.ensures.stage ∙ c.in-Full.is)) ∙ sym c.params.ensures.held

pub returns-in-Full-clause-both : goal.returns-in-Full-clause-both
returns-in-Full-clause-both c = λ is.
    let come : HasCome (the_view c.ends.inside) = subst (λ (w : World). HasCome w) (sym (c.ends.view_is ∙ c.deref-ends.ensures)) c.self.invariant in
    subst (λ (w : World). w.target.machine.session.stage ≡ stages.Full) (c.ends.view_is ∙ c.deref-ends.ensures ∙ c.self.view_is)
    (both_full (the_view c.ends.inside) come (sym c.stage.ensures.stage ∙ c.in-Full.is))

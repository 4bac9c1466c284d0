use Rattle.std.proofs.Common.{◌≡◌, subst, ap, sym, ◌∙◌}
use Rattle.iscsi_target.specs.State.{writes_joined}
use Rattle.iscsi_target.specs.Feed.{TargetConnection}
use Rattle.iscsi_target.specs.inner.Arrival.{MayArrive, connected}
use Rattle.iscsi_target.proofs.Feed.ArrivalLemmas.{joined_with}
use Rattle.iscsi_target.proofs.intake.Intake.phase.Goals as goal

pub returns-in-Some-clause-joined : goal.returns-in-Some-clause-joined
returns-in-Some-clause-joined c =
    let s = c.self.inside.machine in
    let v = c.self.inside.framer in
    subst (λ (x : TargetConnection). writes_joined x.machine ≡ x.machine) (ap (connected s v) (sym c.in-Some.is) ∙ c.self.view_is)
    (joined_with s v c.in-Some.incoming (subst (MayArrive s v) c.in-Some.is c.self.invariant) c.head-head.ensures.joined)

pub returns-in-None-clause-joined : goal.returns-in-None-clause-joined
returns-in-None-clause-joined c =
    let s = c.self.inside.machine in
    let v = c.self.inside.framer in
    subst (λ (x : TargetConnection). writes_joined x.machine ≡ x.machine) (ap (connected s v) (sym c.in-None.is) ∙ c.self.view_is)
    c.phase-in-None.ensures.joined

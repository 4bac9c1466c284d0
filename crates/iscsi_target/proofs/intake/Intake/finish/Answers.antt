use Rattle.std.proofs.Common.{◌≡◌, false, subst, sym, ap, ◌∙◌}
use Rattle.iscsi_stream.specs.Framing.{FinishFails, is_ready}
use Rattle.iscsi_target.specs.Feed.{TargetConnection}
use Rattle.iscsi_target.proofs.Feed.ArrivalLemmas.{ended, ends_at}
use Rattle.iscsi_target.proofs.intake.Intake.finish.Goals as goal

pub returns-in-Ok-clause-ok : goal.returns-in-Ok-clause-ok
returns-in-Ok-clause-ok c =
    ap (λ (x : TargetConnection). x.framing.held) (sym c.self.view_is)
    ∙ ended c.self.inside.machine c.self.inside.framer c.self.inside.incoming c.self.invariant
    (subst (λ (x : TargetConnection). is_ready x.framing ≡ false) (sym c.self.view_is) c.requires.unready) c.in-Ok.ensures.ok.1

pub returns-in-Err-clause-err : goal.returns-in-Err-clause-err
returns-in-Err-clause-err c =
    subst (λ (x : TargetConnection). FinishFails x.framing c.in-Err.fault) c.self.view_is
    (ends_at c.self.inside.machine c.self.inside.framer c.self.inside.incoming c.in-Err.fault c.self.invariant
    (subst (λ (x : TargetConnection). is_ready x.framing ≡ false) (sym c.self.view_is) c.requires.unready) c.in-Err.ensures.err)

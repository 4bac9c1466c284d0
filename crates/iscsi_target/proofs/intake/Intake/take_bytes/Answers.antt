use Rattle.std.proofs.Common.{◌≡◌, ◌-◌, length, take, drop, sym, ap, subst, ◌∙◌}
use Rattle.std.specs.Prelude.{Some}
use Rattle.std.proofs.lemmas.List.{take_rest}
use Rattle.std.proofs.lemmas.Result.{err_from_is_err_and}
use Rattle.iscsi_stream.specs.Framing.{FramerTakes}
use Rattle.iscsi_stream.specs.Headers.{TakesHeader}
use Rattle.iscsi_stream.proofs.SkippingLemmas.{takes_both}
use Rattle.iscsi_target.specs.Feed.{TargetConnection}
use Rattle.iscsi_target.specs.inner.Inside.{TargetRestFails, target_connection}
use Rattle.iscsi_target.specs.inner.Arrival.{ArrivesForWrite, MayArrive, connected}
use Rattle.iscsi_target.proofs.Feed.ArrivalLemmas.{filled}
use Rattle.iscsi_target.proofs.intake.Intake.take_bytes.Goals as goal

pub returns-in-Some-clause-ok : goal.returns-in-Some-clause-ok
returns-in-Some-clause-ok c =
    let s = c.self.inside.machine in
    let v = c.self.inside.framer in
    let arrives : ArrivesForWrite s v c.in-Some.incoming = subst (MayArrive s v) c.in-Some.is c.self.invariant in
    let e = c.fill.ensures in
    subst (λ (x : TargetConnection). FramerTakes x.framing c.args.piece.now c.fill.result (connected s v (Some c.fill.new.self)).framing)
    (ap (connected s v) (sym c.in-Some.is) ∙ c.self.view_is)
    (filled s v c.in-Some.incoming c.fill.new.self c.args.piece.now c.fill.result arrives e.place e.write e.head e.len e.fills).0

pub returns-in_err-taken-clause-err : goal.returns-in_err-taken-clause-err
returns-in_err-taken-clause-err c =
    let p = err_from_is_err_and c.from_residual.result c.from_residual.ensures.1 in
    let now : target_connection c.self.inside.machine c.self.inside.framer ≡ c.args.self.now =
    ap (connected c.self.inside.machine c.self.inside.framer) (sym c.in_default.is) ∙ c.self.view_is in
    rw (p.1, p.2) (subst (λ (x : TargetConnection). TargetRestFails x.framing c.args.piece.now c.in_err-taken.field-0.0) now c.in_err-taken.ensures.err)

pub returns-in-Some-expect_data-clause-ok : goal.returns-in-Some-expect_data-clause-ok
returns-in-Some-expect_data-clause-ok c =
    let s = c.expect_data.new.machine in
    let v = c.take_header.new.framer in
    let a = c.in-Some-expect_data.incoming in
    let b = c.fill-more.new.self in
    let e = c.fill-more.ensures in
    let taken = c.in_ok-taken.taken in
    let rest = take (length c.args.piece.now - taken) (drop taken c.args.piece.now) in
    let now : target_connection c.self.inside.machine c.self.inside.framer ≡ c.args.self.now =
    ap (connected c.self.inside.machine c.self.inside.framer) (sym c.in_default.is) ∙ c.self.view_is in
    let more : FramerTakes v rest c.fill-more.result (connected s v (Some b)).framing =
    subst (λ (x : TargetConnection). FramerTakes x.framing rest c.fill-more.result (connected s v (Some b)).framing) c.in-Some-expect_data.ensures.same
    (filled s v a b rest c.fill-more.result c.in-Some-expect_data.ensures.arrives e.place e.write e.head e.len e.fills).0 in
    takes_both c.args.self.now.framing v (connected s v (Some b)).framing c.args.piece.now rest taken c.fill-more.result (take_rest c.args.piece.now taken)
    (subst (λ (x : TargetConnection). TakesHeader x.framing c.args.piece.now taken v) now c.in_ok-taken.ensures.ok) more

pub returns-clause-ok : goal.returns-clause-ok
returns-clause-ok c =
    let taken = c.in_ok-taken.taken in
    let rest = take (length c.args.piece.now - taken) (drop taken c.args.piece.now) in
    let now : target_connection c.self.inside.machine c.self.inside.framer ≡ c.args.self.now =
    ap (connected c.self.inside.machine c.self.inside.framer) (sym c.in_default.is) ∙ c.self.view_is in
    rw c.in_default.is (takes_both c.args.self.now.framing c.take_header.new.framer c.take_rest.new.framer c.args.piece.now rest taken c.in_ok-more.more
    (take_rest c.args.piece.now taken)
    (subst (λ (x : TargetConnection). TakesHeader x.framing c.args.piece.now taken c.take_header.new.framer) now c.in_ok-taken.ensures.ok)
    c.in_ok-more.ensures.ok)

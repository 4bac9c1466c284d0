use Rattle.std.proofs.Common.{◌≡◌, refl, subst, arith}
use Rattle.std.specs.Prelude.{IfSome, Some}
use Rattle.iscsi_pdu.specs.declared.head.Head.{Head}
use Rattle.iscsi_pdu.specs.Meaning.{IsHeader, HeadFits}
use Rattle.iscsi_target.specs.inner.Inside.{target_connection}
use Rattle.iscsi_target.specs.inner.Arrival.{ArrivesForWrite, connected}
use Rattle.iscsi_target.proofs.Feed.ArrivalLemmas.{expects_if}
use Rattle.iscsi_target.proofs.intake.expect_data.Goals as goal

both : (c : goal.After-expect_data) → IfSome c.expect_data.result (ArrivesForWrite c.expect_data.new.self c.args.framer.now)
    × IfSome c.expect_data.result (λ a. connected c.expect_data.new.self c.args.framer.now (Some a) ≡ target_connection c.args.machine.now c.args.framer.now)
both c =
    let begun = c.in_ok-head.ensures in
    let e = c.expect_data.ensures in
    expects_if c.args.machine.now c.expect_data.new.self c.args.framer.now c.in-DataOut.head c.in_ok-head.len c.expect_data.result (begun.begun.0 refl).0
    (subst (λ (h : Head). IsHeader c.args.framer.now.held h c.in_ok-head.len) c.in-DataOut.is begun.header) (subst HeadFits c.in-DataOut.is begun.fits)
    begun.within begun.room (omega (arith, c.if-len-eq0.false)) e.session e.takes e.due e.taken e.head e.len e.segment e.padded

pub returns-clause-arrives : goal.returns-clause-arrives
returns-clause-arrives c = (both c).0

pub returns-clause-same : goal.returns-clause-same
returns-clause-same c = (both c).1

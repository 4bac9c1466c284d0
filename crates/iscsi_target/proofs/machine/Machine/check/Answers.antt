use Rattle.std.proofs.Common.{◌≡◌, ℕ, Some, sym, ap, ◌∙◌}
use Rattle.iscsi_target_session.specs.Inbound.{inbound}
use Rattle.iscsi_target_session.specs.declared.inbound.Inbound.{Inbound}
use Rattle.iscsi_target_session.specs.declared.inbound.Inbound.TheVariants as inbounds
use Rattle.iscsi_target_session.proofs.InboundLemmas.{data_head}
use Rattle.iscsi_target.specs.Machine.{Met, due_met}
use Rattle.iscsi_target.proofs.Turns.DispatchLemmas.{came, due_checked, due_served, due_too_long}
use Rattle.iscsi_target.proofs.machine.Machine.check.Goals as goal

pub returns-then-is_too_long : goal.returns-then-is_too_long
returns-then-is_too_long c =
    let at : inbound c.args.received.now.head ≡ Some c.in-Some.pdu = came c.received.inside.continued c.received.inside.pdu.head
    c.received.inside.pdu.bytes.now c.args.received.now c.received.view_is (Some c.in-Some.pdu) (sym c.of.ensures ∙ c.in-Some.is) in
    record {
      comes = λ count. due_too_long c.args.self.now count c.received.inside.continued c.received.inside.pdu.head c.received.inside.pdu.bytes.now
          c.args.received.now c.received.view_is c.in-Some.pdu at (sym c.may_come.ensures ∙ c.if-not-may_come.false)
          (sym c.is_too_long.ensures ∙ c.if-is_too_long.true);
      may = tt;
    }

pub returns-in-Data : goal.returns-in-Data
returns-in-Data c =
    let at : inbound c.args.received.now.head ≡ Some c.in-Some.pdu = came c.received.inside.continued c.received.inside.pdu.head
    c.received.inside.pdu.bytes.now c.args.received.now c.received.view_is (Some c.in-Some.pdu) (sym c.of.ensures ∙ c.in-Some.is) in
    record {
      comes = λ count. ap (λ (x : Met). x.next) (due_served c.args.self.now count c.received.inside.continued c.received.inside.pdu.head
          c.received.inside.pdu.bytes.now c.args.received.now c.received.view_is c.in-Some.pdu at (sym c.may_come.ensures ∙ c.if-not-may_come.false)
          (sym c.is_too_long.ensures ∙ c.if-is_too_long.false)
          ∙ ap (due_met c.args.self.now count c.args.received.now) c.in-Data.is);
      may = data_head c.args.received.now.head c.in-Data.head (at ∙ ap (λ (x : Inbound). Some x) c.in-Data.is);
    }

pub returns-in-Request : goal.returns-in-Request
returns-in-Request c =
    let at : inbound c.args.received.now.head ≡ Some c.in-Some.pdu = came c.received.inside.continued c.received.inside.pdu.head
    c.received.inside.pdu.bytes.now c.args.received.now c.received.view_is (Some c.in-Some.pdu) (sym c.of.ensures ∙ c.in-Some.is) in
    due_checked c.args.self.now c.args.received.now
    (λ (count : ℕ). due_met c.args.self.now count c.args.received.now (inbounds.Request c.in-Request.request)) c.check_request.result
    (λ (count : ℕ). due_served c.args.self.now count c.received.inside.continued c.received.inside.pdu.head
    c.received.inside.pdu.bytes.now c.args.received.now c.received.view_is c.in-Some.pdu at (sym c.may_come.ensures ∙ c.if-not-may_come.false)
    (sym c.is_too_long.ensures ∙ c.if-is_too_long.false)
    ∙ ap (due_met c.args.self.now count c.args.received.now) c.in-Request.is)
    (c.check_request.ensures c.args.received.now (at ∙ ap (λ (x : Inbound). Some x) c.in-Request.is))

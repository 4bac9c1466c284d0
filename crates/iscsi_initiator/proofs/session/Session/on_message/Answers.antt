use Rattle.std.proofs.Common.{sym, ap, ◌∙◌}
use Rattle.iscsi_initiator.specs.State.{InitiatorSession}
use Rattle.iscsi_initiator.proofs.StepLemmas.{drops, comes_early}
use Rattle.iscsi_initiator.proofs.session.Session.on_message.Goals as goal

pub returns-in-Login : goal.returns-in-Login
returns-in-Login c = record {
  ok = comes_early c.args.self.now c.protocol_error.new.self _ c.protocol_error.result c.args.out.now.items
      (ap (λ (m : InitiatorSession). m.phase) (sym c.self.view_is) ∙ c.in-Login.is) (ap (λ (m : InitiatorSession). m.started) (sym c.self.view_is)
      ∙ c.if-not-self.true) c.protocol_error.ensures.fault c.protocol_error.ensures.closed;
  err = _;
  unwritten = _;
}

pub returns-in-Closed : goal.returns-in-Closed
returns-in-Closed c = record {
  ok = drops c.args.self.now _ c.args.out.now.items (ap (λ (m : InitiatorSession). m.phase) (sym c.self.view_is) ∙ c.in-Closed.is);
  err = _;
  unwritten = _;
}

use Rattle.std.proofs.Common.{◌≡◌, refl, sym, ap, ◌∙◌, None}
use Rattle.iscsi_login.specs.Check.{bad_key}
use Rattle.iscsi_initiator.specs.State.{InitiatorSession}
use Rattle.iscsi_initiator.specs.Login.{offered, login_counted, following_stage}
use Rattle.iscsi_initiator.proofs.LoginSendLemmas.{settled}
use Rattle.iscsi_initiator.proofs.session.Session.on_text.Goals as goal

pub returns : goal.returns
returns c =
    let none : bad_key (offered c.args.self.now) c.args.answer.now ≡ None = rw (← c.self.view_is) (sym c.bad_key.ensures.key ∙ c.in_default.is) in
    let next : c.following_stage-next.result ≡ following_stage c.args.self.now.stage = c.following_stage-next.ensures
    ∙ ap (λ (m : InitiatorSession). following_stage m.stage) c.self.view_is in
    let did = rw (next, c.count_answer.ensures) at c.in_ok-begin_stage.ensures.ok in
    record {
      ok = rw (none, c.apply_answer.ensures) (settled (following_stage c.args.self.now.stage) (login_counted c.args.self.now c.args.response.now)
          c.begin_stage.new.self
          c.args.answer.now _ _ _ did refl);
      err = _;
      unwritten = _;
    }

use Rattle.std.proofs.Common.{ℕ, subst, ap}
use Rattle.std.specs.Prelude.{Some, IfOk}
use Rattle.iscsi_pdu.specs.declared.head.Head.TheVariants.{LoginResponse}
use Rattle.iscsi_target_session.specs.Session.{Session, send_response}
use Rattle.iscsi_target_session.specs.Replies.{Replied}
use Rattle.iscsi_target_session.proofs.LoginLemmas.{answers_text}
use Rattle.iscsi_target_session.proofs.session.Session.answer.Goals as goal

pub returns-clause-ok : goal.returns-clause-ok
returns-clause-ok c =
    answers_text c.args.self.now c.args.response c.args.text.now c.send_response.result c.send_response.new.self c.args.out.now.items
    c.send_response.new.out.items
    (subst (λ (n : ℕ). IfOk c.send_response.result (λ b. Replied (send_response c.args.self.now (LoginResponse (record c.args.response { stat_sn = Some n }))
    c.args.text.now) b c.send_response.new.self c.args.out.now.items c.send_response.new.out.items))
    (ap (λ (m : Session). m.stat_sn) c.self.view_is) c.send_response.ensures.ok)

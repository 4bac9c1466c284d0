use Rattle.std.proofs.Common.{sym, subst, ◌∙◌}
use Rattle.iscsi_access.specs.declared.verdict.Verdict.TheVariants.{Goes}
use Rattle.iscsi_target_session.specs.Session.{Reply}
use Rattle.iscsi_target_session.specs.Replies.{ReplyAttemptPost}
use Rattle.iscsi_target_session.proofs.ExchangeLemmas.{exchange_is}
use Rattle.iscsi_target_session.proofs.session.Session.answer_exchange.Goals as goal

pub returns : goal.returns
returns c = λ chap demanded.
    subst (λ (x : Reply). ReplyAttemptPost x c.go_on.result c.args.self.now c.go_on.new.self c.args.out.now.items c.go_on.new.out.items)
    (exchange_is chap c.args.self.now c.args.request.now c.args.text.now c.in_ok-rest.rest (Goes c.in-Goes.progress c.in-Goes.said) c.in_ok-rest.ensures
    c.in_default.ensures.refusal (sym c.in-Goes.is ∙ c.in_ok-verdict_for.ensures chap demanded))
    (c.go_on.ensures chap c.in-Goes.said (c.deref-in-Goes.ensures.value ∙ c.in_ok-answer-in-Goes.ensures chap demanded))

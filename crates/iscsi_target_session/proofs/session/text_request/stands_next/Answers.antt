use Rattle.std.proofs.Common.{sym, ◌∙◌}
use Rattle.iscsi_text.specs.Value.{typed}
use Rattle.iscsi_target_session.proofs.TextReplyLemmas.{first_some, first_none}
use Rattle.iscsi_target_session.proofs.session.text_request.stands_next.Goals as goal

pub returns-in-Some : goal.returns-in-Some
returns-in-Some c = c.eq.ensures ∙ first_some c.args.text.now c.args.n (
  c.in-Some.next.now,
  typed c.in-Some.field-0-1,
) c.args.key.now (sym c.in-Some.ensures.pair)

pub returns-in-None : goal.returns-in-None
returns-in-None c = first_none c.args.text.now c.args.n c.args.key.now (sym c.in-None.ensures.pair)

use Rattle.std.proofs.Common.{sym, ◌∙◌}
use Rattle.iscsi_text.specs.Value.{typed}
use Rattle.iscsi_target_session.proofs.TextReplyLemmas.{no_more, unanswered, answered_at}
use Rattle.iscsi_target_session.proofs.session.text_request.reply_at.Goals as goal

pub returns-then-stands_next : goal.returns-then-stands_next
returns-then-stands_next c = no_more c.args.asked c.args.text.now c.args.n c.args.next (
  c.in-Some.key.now,
  typed c.in-Some.field-0-1,
) c.requires.next c.len-len.ensures.meaning.in_order (sym c.in-Some.ensures.pair)
    (sym c.stands_next.ensures ∙ c.if-stands_next.true)

pub returns-then-not-has_reply : goal.returns-then-not-has_reply
returns-then-not-has_reply c = unanswered c.args.asked c.args.text.now c.args.n c.args.next (
  c.in-Some.key.now,
  typed c.in-Some.field-0-1,
) c.requires.next c.len-len.ensures.meaning.in_order (sym c.in-Some.ensures.pair)
    (sym c.stands_next.ensures ∙ c.if-stands_next.false) (sym c.has_reply.ensures ∙ c.if-not-has_reply.true)

pub returns : goal.returns
returns c = answered_at c.args.asked c.args.text.now c.args.n c.args.next (
  c.in-Some.key.now,
  typed c.in-Some.field-0-1,
) c.word_for.result.now c.requires.next c.len-len.ensures.meaning.in_order (sym c.in-Some.ensures.pair)
    (sym c.stands_next.ensures ∙ c.if-stands_next.false) (sym c.has_reply.ensures ∙ c.if-not-has_reply.false) c.word_for.ensures

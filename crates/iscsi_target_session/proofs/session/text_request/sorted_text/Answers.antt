use Rattle.std.proofs.Common.{◌≡◌, ℕ, List, ◌++◌, true, subst, sym, ap, ◌∙◌}
use Rattle.std.specs.Prelude.{codes, IfOk}
use Rattle.iscsi_text.specs.Value.{Plain}
use Rattle.iscsi_text.specs.Text.{Pairs, IsInOrder}
use Rattle.iscsi_text.specs.Canonical.{canonical_text}
use Rattle.iscsi_text.specs.Shown.{all_shown}
use Rattle.iscsi_text.specs.Reading.{placed}
use Rattle.iscsi_target_session.specs.TextRequests.{reply_pairs}
use Rattle.iscsi_target_session.proofs.TextReplyLemmas.{order_replies, reply_named, reply_unnamed}
use Rattle.iscsi_target_session.proofs.session.text_request.sorted_text.Goals as goal

pub named_text-requires : goal.named_text-requires
named_text-requires c = subst IsInOrder (sym (ap all_shown c.deref.ensures.value ∙ c.in_ok-pairs.ensures))
    (order_replies true c.args.text.now c.len-len.ensures.meaning.in_order)

pub returns-then-is_asked : goal.returns-then-is_asked
returns-then-is_asked c =
    let same : canonical_text (placed (codes "TargetName", Plain c.args.name.now) (all_shown c.deref.result.now))
    ≡ canonical_text (reply_pairs c.args.name.now c.args.text.now) =
    ap (λ (ps : Pairs). canonical_text (placed (codes "TargetName", Plain c.args.name.now) ps)) (ap all_shown c.deref.ensures.value ∙ c.in_ok-pairs.ensures)
    ∙ ap canonical_text (reply_named c.args.name.now c.args.text.now c.len-len.ensures.meaning.in_order (sym c.is_asked.ensures ∙ c.if-is_asked.true)) in
    subst (λ (x : List ℕ). IfOk c.named_text.result (λ bytes. bytes.items ≡ x)) same c.named_text.ensures

pub returns : goal.returns
returns c =
    c.in_ok-write_pairs.ensures.ok ∙ ap (λ (x : List ℕ). x ++ canonical_text (all_shown c.deref-2.result.now)) c.new-out.ensures.items
    ∙ ap canonical_text (ap all_shown c.deref-2.ensures.value ∙ c.in_ok-pairs-2.ensures
    ∙ reply_unnamed c.args.name.now c.args.text.now c.len-len.ensures.meaning.in_order (sym c.is_asked.ensures ∙ c.if-is_asked.false))

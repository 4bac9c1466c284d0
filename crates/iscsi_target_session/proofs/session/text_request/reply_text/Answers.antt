use Rattle.std.proofs.Common.{◌≡◌, ℕ, List, subst, sym, ap, ◌∙◌}
use Rattle.std.specs.Prelude.{IfOk}
use Rattle.iscsi_text.specs.Canonical.{canonical_text}
use Rattle.iscsi_target_session.specs.TextRequests.{reply_pairs, reply_text}
use Rattle.iscsi_target_session.specs.inner.Inside.{told_text}
use Rattle.iscsi_target_session.proofs.PortalLemmas.{with_portal, without_portal}
use Rattle.iscsi_target_session.proofs.session.text_request.reply_text.Goals as goal

pub returns-in-Some : goal.returns-in-Some
returns-in-Some c =
    let portal : List ℕ = c.in-Some.portal.now in
    let same : told_text c.name-name.result.now portal c.group.result c.args.text.now ≡ reply_text c.args.config.now c.args.text.now =
    ap (λ (n : List ℕ). told_text n portal c.group.result c.args.text.now) c.name-name.ensures
    ∙ ap (λ (g : ℕ). told_text c.args.config.now.name portal g c.args.text.now) c.group.ensures
    ∙ sym (with_portal c.args.config.now c.args.text.now portal (sym c.in-Some.ensures)) in
    subst (λ (x : List ℕ). IfOk c.told_text.result (λ bytes. bytes.items ≡ x)) same c.told_text.ensures

pub returns-in-None : goal.returns-in-None
returns-in-None c =
    let same : canonical_text (reply_pairs c.name-name.result.now c.args.text.now) ≡ reply_text c.args.config.now c.args.text.now =
    ap (λ (n : List ℕ). canonical_text (reply_pairs n c.args.text.now)) c.name-name.ensures
    ∙ sym (without_portal c.args.config.now c.args.text.now (sym c.in-None.ensures)) in
    subst (λ (x : List ℕ). IfOk c.sorted_text.result (λ bytes. bytes.items ≡ x)) same c.sorted_text.ensures

use Rattle.std.proofs.Common.{◌≡◌, List, ℕ, Bool, true, false, subst, sym, ap, ◌∙◌}
use Rattle.std.specs.Prelude.{IfOk, if◌then◌else◌}
use Rattle.iscsi_text.specs.Canonical.{canonical_text}
use Rattle.iscsi_target_session.specs.TextRequests.{is_asked, reply_pairs}
use Rattle.iscsi_target_session.specs.inner.Inside.{announced_text, told_text}
use Rattle.iscsi_target_session.proofs.session.text_request.told_text.Goals as goal

pub returns-then-is_asked : goal.returns-then-is_asked
returns-then-is_asked c =
    let asked : is_asked c.args.name.now c.args.text.now ≡ true = sym c.is_asked.ensures ∙ c.if-is_asked.true in
    let same : announced_text c.args.name.now c.args.portal.now c.args.group c.args.text.now
    ≡ told_text c.args.name.now c.args.portal.now c.args.group c.args.text.now =
    sym (ap (λ (b : Bool). if b then announced_text c.args.name.now c.args.portal.now c.args.group c.args.text.now
    else canonical_text (reply_pairs c.args.name.now c.args.text.now)) asked) in
    subst (λ (x : List ℕ). IfOk c.announced_text.result (λ bytes. bytes.items ≡ x)) same c.announced_text.ensures

pub returns : goal.returns
returns c =
    let unasked : is_asked c.args.name.now c.args.text.now ≡ false = sym c.is_asked.ensures ∙ c.if-is_asked.false in
    let same : canonical_text (reply_pairs c.args.name.now c.args.text.now)
    ≡ told_text c.args.name.now c.args.portal.now c.args.group c.args.text.now =
    sym (ap (λ (b : Bool). if b then announced_text c.args.name.now c.args.portal.now c.args.group c.args.text.now
    else canonical_text (reply_pairs c.args.name.now c.args.text.now)) unasked) in
    subst (λ (x : List ℕ). IfOk c.sorted_text.result (λ bytes. bytes.items ≡ x)) same c.sorted_text.ensures

use Rattle.std.proofs.Common.{ℕ, List, [], ◌∷◌, ◌++◌, true, ap, ◌∙◌}
use Rattle.std.specs.Prelude.{codes}
use Rattle.iscsi_text.specs.Numeral.{canonical_number}
use Rattle.iscsi_text.specs.Value.{Plain}
use Rattle.iscsi_text.specs.Canonical.{canonical_text}
use Rattle.iscsi_text.specs.Shown.{all_shown}
use Rattle.iscsi_target_session.specs.TextRequests.{name_if}
use Rattle.iscsi_target_session.proofs.PortalLemmas.{behind}
use Rattle.iscsi_target_session.proofs.session.text_request.announced_text.Goals as goal

pub returns : goal.returns
returns c =
    let name : List ℕ = canonical_text (name_if true c.args.name.now) in
    let address : List ℕ → List ℕ = λ a. canonical_text ((codes "TargetAddress", Plain a) ∷ []) in
    let told : List ℕ = c.args.portal.now ++ codes "," ++ canonical_number c.args.group in
    c.in_ok-write_pairs.ensures.ok
    ∙ ap (λ (x : List ℕ). x ++ canonical_text (all_shown c.deref-2.result.now)) (c.in_ok-write_address.ensures
    ∙ ap (λ (x : List ℕ). x ++ address c.deref.result.now) (c.in_ok-write_name.ensures
    ∙ ap (λ (x : List ℕ). x ++ name) c.new-told.ensures.items))
    ∙ ap (λ (x : List ℕ). name ++ address x ++ canonical_text (all_shown c.deref-2.result.now)) (c.deref.ensures.value ∙ c.in_ok-address.ensures)
    ∙ ap (λ (x : List ℕ). name ++ address told ++ x) (ap canonical_text (ap all_shown c.deref-2.ensures.value ∙ c.in_ok-pairs.ensures)
    ∙ behind c.args.text.now c.len-len.ensures.meaning.in_order)

use Rattle.std.proofs.Common.{◌≡◌, map, arith, ap, sym, subst, ◌∙◌}
use Rattle.std.specs.Prelude.{not, length}
use Rattle.iscsi_text.specs.Key.{is_among}
use Rattle.iscsi_text.specs.Text.{without, IsMeaning}
use Rattle.iscsi_text.specs.Canonical.{canonical_text}
use Rattle.iscsi_text.specs.Shown.{all_shown}
use Rattle.iscsi_text.proofs.WithoutLemmas.{meaning_kept, text_kept}
use Rattle.iscsi_text.proofs.text.Text.without.Goals as goal

pub invariant_of-result : goal.invariant_of-result
invariant_of-result c =
    let names = map (λ k. k.now) c.args.keys.now in
    let all = all_shown c.self.inside.pairs.items in
    let kept : all_shown c.in_ok-pairs.pairs.items ≡ without names all = c.in_ok-pairs.ensures
    ∙ ap (λ ps. without names (all_shown ps)) c.deref.ensures.value in (
      subst IsMeaning (sym kept) (meaning_kept (λ p. not (is_among names p.0)) all c.self.invariant.0),
      omega (arith, ap (λ ps. length (canonical_text ps)) kept, text_kept (λ p. not (is_among names p.0)) all, c.self.invariant.1),
    )

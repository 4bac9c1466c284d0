use Rattle.std.proofs.Common.{map, arith, ap, ◌∙◌}
use Rattle.std.specs.Prelude.{not}
use Rattle.std.specs.List.{filter}
use Rattle.std.proofs.lemmas.List.{take_all}
use Rattle.iscsi_text.specs.Key.{is_among}
use Rattle.iscsi_text.specs.Shown.{all_shown}
use Rattle.iscsi_text.proofs.WithoutLemmas.{shown_without}
use Rattle.iscsi_text.proofs.text.leaving_out.pairs_without.Goals as goal

pub returns : goal.returns
returns c =
    let names = map (λ k. k.now) c.args.keys.now in
    ap all_shown (c.loop-pair.invariant ∙ ap (filter (λ x. not (is_among names x.key.now))) (take_all c.loop-pair.pair-index c.args.pairs.now (omega arith)))
    ∙ shown_without names c.args.pairs.now

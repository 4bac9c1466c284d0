use Rattle.std.proofs.Common.{◌∙◌}
use Rattle.iscsi_text.proofs.WithoutLemmas.{among_shown}
use Rattle.iscsi_text.proofs.text.leaving_out.is_among.Goals as goal

pub returns : goal.returns
returns c = c.contains.ensures.value ∙ among_shown c.args.keys.now c.args.key.now

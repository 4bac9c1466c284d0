use Rattle.std.proofs.Common.{rules, refl}
use Rattle.iscsi_text.specs.Negotiated.{default_of, all_keys}
use Rattle.iscsi_login.proofs.ArrayMapLemmas.{maps}
use Rattle.iscsi_login.proofs.params.default_values.Goals as goal

pub returns : goal.returns
returns c = maps _ default_of _ (λ a b q k. search rules) all_keys _ _ refl c.map.ensures.items

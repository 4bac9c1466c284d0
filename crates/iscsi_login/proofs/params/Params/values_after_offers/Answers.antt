use Rattle.std.proofs.Common.{rules, refl}
use Rattle.iscsi_text.specs.Negotiated.{all_keys}
use Rattle.iscsi_login.specs.Answer.{value_after_offers}
use Rattle.iscsi_login.proofs.ArrayMapLemmas.{maps}
use Rattle.iscsi_login.proofs.params.Params.values_after_offers.Goals as goal

pub returns : goal.returns
returns c = maps _ (value_after_offers c.args.session c.args.preferences.now c.args.text.now c.args.self.now) _ (λ a b q k. search rules) all_keys _ _ refl
    c.map.ensures.items

use Rattle.std.proofs.Common.{refl, ap, ◌∙◌, rules}
use Rattle.iscsi_text.specs.Negotiated.{all_keys}
use Rattle.iscsi_text.specs.Shown.{shown}
use Rattle.iscsi_text.specs.Reading.{in_order}
use Rattle.iscsi_login.specs.Offers.{proposed, preferred_pair}
use Rattle.iscsi_login.specs.inner.Inside.{all_new}
use Rattle.iscsi_login.proofs.ArrayMapLemmas.{maps_seen}
use Rattle.iscsi_login.proofs.OfferPairsLemmas.{offered_are, offered_new, offered_in_order}
use Rattle.iscsi_login.proofs.offers.Offers.operational_pairs.Goals as goal

pub put_in_order-requires : goal.put_in_order-requires
put_in_order-requires c =
    let prefs = c.args.self.now.prefs in
    let each = maps_seen _ shown (preferred_pair prefs) _ (λ a b q k. search rules) all_keys _ _ refl c.map-pairs.ensures.items in
    ap all_new (offered_are prefs c.map-pairs.result c.place.result c.max_recv.result each c.place.ensures.place c.max_recv.ensures) ∙ offered_new prefs

pub returns : goal.returns
returns c =
    let prefs = c.args.self.now.prefs in
    let each = maps_seen _ shown (preferred_pair prefs) _ (λ a b q k. search rules) all_keys _ _ refl c.map-pairs.ensures.items in
    c.put_in_order.ensures
    ∙ ap in_order (offered_are prefs c.map-pairs.result c.place.result c.max_recv.result each c.place.ensures.place c.max_recv.ensures)
    ∙ offered_in_order (proposed c.args.self.now)

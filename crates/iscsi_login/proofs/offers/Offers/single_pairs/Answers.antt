use Rattle.std.proofs.Common.{ap, ◌∙◌}
use Rattle.iscsi_text.specs.Shown.{all_shown}
use Rattle.iscsi_login.specs.Offers.{proposed}
use Rattle.iscsi_login.proofs.OfferPairsLemmas.{all_are_new, front_is_new, said_in_Normal, said_in_Discovery}
use Rattle.iscsi_login.proofs.offers.Offers.single_pairs.Goals as goal

pub put_in_order-requires : goal.put_in_order-requires
put_in_order-requires c = all_are_new c.initiator_name.result c.session_type.result c.target_name-pairs.result (proposed c.args.self.now)
    c.copy_from_slice.new.self (ap all_shown c.copy_from_slice.ensures.after ∙ c.operational_pairs.ensures)
    c.initiator_name.ensures c.session_type.ensures c.target_name-pairs.ensures

pub put_in_order-requires-in-Discovery : goal.put_in_order-requires-in-Discovery
put_in_order-requires-in-Discovery c = front_is_new c.initiator_name.result c.session_type.result c.target_name-pairs.result (proposed c.args.self.now)
    c.copy_from_slice.new.self (ap all_shown c.copy_from_slice.ensures.after ∙ c.operational_pairs.ensures)
    c.initiator_name.ensures c.session_type.ensures c.target_name-pairs.ensures

pub returns-in-Normal : goal.returns-in-Normal
returns-in-Normal c = said_in_Normal c.initiator_name.result c.session_type.result c.target_name-pairs.result (proposed c.args.self.now)
    c.copy_from_slice.new.self (ap all_shown c.copy_from_slice.ensures.after ∙ c.operational_pairs.ensures)
    c.initiator_name.ensures c.session_type.ensures c.target_name-pairs.ensures
    c.put_in_order.new.pairs c.in-Normal.is c.put_in_order.ensures

pub returns-in-Discovery : goal.returns-in-Discovery
returns-in-Discovery c = said_in_Discovery c.initiator_name.result c.session_type.result c.target_name-pairs.result (proposed c.args.self.now)
    c.copy_from_slice.new.self (ap all_shown c.copy_from_slice.ensures.after ∙ c.operational_pairs.ensures)
    c.initiator_name.ensures c.session_type.ensures c.target_name-pairs.ensures
    c.put_in_order-in-Discovery.new.pairs c.in-Discovery.is c.put_in_order-in-Discovery.ensures

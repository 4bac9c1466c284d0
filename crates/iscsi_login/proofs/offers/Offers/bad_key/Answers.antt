use Rattle.std.proofs.Common.{◌≡◌, sym, ap, inl, inr, ◌∙◌}
use Rattle.iscsi_text.specs.Reading.{in_order}
use Rattle.iscsi_login.specs.Offers.{proposed, operational_offers, offers_at}
use Rattle.iscsi_login.specs.Check.{bad_key}
use Rattle.iscsi_login.proofs.offers.Offers.bad_key.Goals as goal

pub returns-in-Security-start : goal.returns-in-Security-start
returns-in-Security-start c =
    let o = proposed c.args.self.now in
    let behind : offers_at o c.args.start c.args.stage ≡ operational_offers o = elim c.in-Operational.is [
      | inl stage ↦ elim c.in-Security-start.is [ inl start ↦ λ i. offers_at o (start i) (stage i) | inr start ↦ λ i. offers_at o (start i) (stage i) ]
      | inr stage ↦ elim c.in-Security-start.is [ inl start ↦ λ i. offers_at o (start i) (stage i) | inr start ↦ λ i. offers_at o (start i) (stage i) ]
    ] in
    record {
      key = c.bad_key-in-Security-start.ensures.key ∙ ap (λ ps. bad_key ps c.args.answer.now) (c.operational_pairs.ensures ∙ ap in_order (sym behind));
      short = c.bad_key-in-Security-start.ensures.short;
      declares = c.bad_key-in-Security-start.ensures.declares;
    }

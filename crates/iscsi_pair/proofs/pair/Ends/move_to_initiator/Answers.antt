use Rattle.std.proofs.Common.{◌≡◌, ℕ, min, length, drop, sym, ap, ◌∙◌, subst, refl, arith}
use Rattle.std.proofs.lemmas.List.{length-take-le}
use Rattle.iscsi_pair.specs.World.{World, PairEventStep, ToInitiator}
use Rattle.iscsi_pair.specs.contracts.pair.Ends.{the_view}
use Rattle.iscsi_pair.proofs.Run.MoveLemmas.{initiator_took, is_none}
use Rattle.iscsi_pair.proofs.pair.Ends.move_to_initiator.Goals as goal

pub returns : goal.returns
returns c =
    let n : c.min-n.result ≡ min c.args.k (length c.self.inside.to_initiator.items) = cc (c.self.inside.to_initiator.ok.0) in
    let new : World = record {
      target = c.self.inside.target;
      blocks = c.self.inside.store;
      initiator = c.feed-fed.new.self;
      to_target = c.feed-fed.new.out.items;
      to_initiator = c.drop_front-2.new.bytes.items;
      target_fault = c.self.inside.target_fault;
      initiator_fault = c.feed_fault-self-inside.result;
    } in
    subst (λ (w : World). PairEventStep w (ToInitiator c.args.k) new) c.self.view_is
    (initiator_took (the_view c.self.inside) new c.args.k c.min-n.result (is_none _ (sym c.is_some.ensures ∙ c.if-is_some.false)) n (omega arith)
    (record {
      result = c.feed-fed.result;
      fed = rw c.deref.ensures.value at c.feed-fed.ensures.feeds;
      dropped = c.drop_front-2.ensures ∙ ap (λ (i : ℕ). drop i c.self.inside.to_initiator.items)
          (sym (length-take-le c.min-n.result c.self.inside.to_initiator.items (omega arith)));
      target = refl;
      blocks = refl;
      fault = c.feed_fault-self-inside.ensures;
      other_fault = refl;
    }))

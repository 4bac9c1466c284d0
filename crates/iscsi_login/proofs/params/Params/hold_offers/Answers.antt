use Rattle.std.proofs.Common.{unwrap_or, sym, ap, subst, ◌∙◌}
use Rattle.std.specs.Option.{IfSome}
use Rattle.iscsi_text.specs.Negotiated.{IsWithin}
use Rattle.iscsi_login.specs.Negotiation.{max_recv_range}
use Rattle.iscsi_login.specs.Held.{Held, IsHeld}
use Rattle.iscsi_login.specs.Answer.{declared_max_recv}
use Rattle.iscsi_login.proofs.AgreementLaw.{EachAllowed, allowed_after_offers, declared_within}
use Rattle.iscsi_login.proofs.params.Params.hold_offers.Goals as goal

pub invariant_of-self : goal.invariant_of-self
invariant_of-self c =
    let before : IsHeld c.args.self.now = subst IsHeld c.self.view_is c.self.invariant in
    record {
      values = subst EachAllowed (sym c.values_after_offers.ensures) (allowed_after_offers c.args.session c.args.preferences.now c.requires.preferences
          c.args.text.now c.args.self.now before.values);
      initiator_max_recv = subst (IsWithin max_recv_range) (sym (c.unwrap_or.ensures
          ∙ ap (λ m. unwrap_or m c.self.inside.initiator_max_recv) c.declared_max_recv.ensures.value))
          (declared_within max_recv_range c.self.inside.initiator_max_recv (declared_max_recv c.args.text.now) c.self.invariant.initiator_max_recv
          (subst (λ m. IfSome m (IsWithin max_recv_range)) c.declared_max_recv.ensures.value c.declared_max_recv.ensures.within));
      target_max_recv = subst (IsWithin max_recv_range) (sym c.unwrap_or-2.ensures)
          (declared_within max_recv_range c.self.inside.target_max_recv c.args.max_recv c.self.invariant.target_max_recv c.requires.declares);
    }

pub returns : goal.returns
returns c =
    let declared = c.unwrap_or.ensures ∙ ap (λ m. unwrap_or m c.self.inside.initiator_max_recv) c.declared_max_recv.ensures.value
    ∙ ap (λ (h : Held). unwrap_or (declared_max_recv c.args.text.now) h.initiator_max_recv) c.self.view_is in
    let other = c.unwrap_or-2.ensures ∙ ap (λ (h : Held). unwrap_or c.args.max_recv h.target_max_recv) c.self.view_is in
    record { holds = λ i. record { values = c.values_after_offers.ensures i; initiator_max_recv = declared i; target_max_recv = other i } }

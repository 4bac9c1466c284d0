-- An end keeps that memory ran out, so a run that ends without was calm throughout.
use Rattle.std.proofs.Common.{◌≡◌, ℕ, Bool, true, false, List, [], ◌∷◌, take, Option, Some, None, refl, sym, ap, ◌∙◌}
use Rattle.std.proofs.lemmas.Bool.{or_from, or_parts}
use Rattle.iscsi_target.specs.declared.fault.TargetFault.{TargetFault}
use Rattle.iscsi_initiator.specs.declared.request.Request.{Request}
use Rattle.iscsi_pair.specs.declared.step.EndFault.{EndFault}
use Rattle.iscsi_pair.specs.World.{World, PairEvent, ToTarget, ToInitiator, Submits, Takes, PairEventStep, PairRuns, RunsCalmly, MovesToTarget, MovesToInitiator, RequestHandedIn}
use Rattle.iscsi_pair.specs.World.{target_ran_out, initiator_ran_out, keeps_no_memory}

-- the first fault of an end stays
record Stay (old new : World) : Type 0 where
  target : target_ran_out old.target_fault ≡ true → target_ran_out new.target_fault ≡ true
  initiator : initiator_ran_out old.initiator_fault ≡ true → initiator_ran_out new.initiator_fault ≡ true

both_stay : (old new : World) → new.target_fault ≡ old.target_fault → new.initiator_fault ≡ old.initiator_fault → Stay old new
both_stay old new t i = record { target = λ e. ap target_ran_out t ∙ e; initiator = λ e. ap initiator_ran_out i ∙ e }

to_target : (fault : Option TargetFault) (moved : List ℕ) (old new : World) → old.target_fault ≡ fault → MovesToTarget fault moved old new → Stay old new
to_target fault [] old new f e = both_stay old new (ap (λ (w : World). w.target_fault) e) (ap (λ (w : World). w.initiator_fault) e)
to_target None (byte ∷ bytes) old new f e = record {
  target = λ ran. absurd (let bad : false ≡ true = ap target_ran_out (sym f) ∙ ran in cc);
  initiator = λ ran. ap initiator_ran_out e.other_fault ∙ ran;
}
to_target (Some fault) (byte ∷ bytes) old new f e = both_stay old new (ap (λ (w : World). w.target_fault) e) (ap (λ (w : World). w.initiator_fault) e)

to_initiator : (fault : Option EndFault) (moved : List ℕ) (old new : World) → old.initiator_fault ≡ fault → MovesToInitiator fault moved old new → Stay old new
to_initiator fault [] old new f e = both_stay old new (ap (λ (w : World). w.target_fault) e) (ap (λ (w : World). w.initiator_fault) e)
to_initiator None (byte ∷ bytes) old new f e = record {
  target = λ ran. ap target_ran_out e.other_fault ∙ ran;
  initiator = λ ran. absurd (let bad : false ≡ true = ap initiator_ran_out (sym f) ∙ ran in cc);
}
to_initiator (Some fault) (byte ∷ bytes) old new f e = both_stay old new (ap (λ (w : World). w.target_fault) e) (ap (λ (w : World). w.initiator_fault) e)

asks : (fault : Option EndFault) (request : Request) (old new : World) → old.initiator_fault ≡ fault → RequestHandedIn fault request old new → Stay old new
asks None request old new f e = record {
  target = λ ran. ap target_ran_out e.other_fault ∙ ran;
  initiator = λ ran. absurd (let bad : false ≡ true = ap initiator_ran_out (sym f) ∙ ran in cc);
}
asks (Some fault) request old new f e = both_stay old new (ap (λ (w : World). w.target_fault) e) (ap (λ (w : World). w.initiator_fault) e)

stays : (old : World) (event : PairEvent) (new : World) → PairEventStep old event new → Stay old new
stays old (ToTarget k) new e = to_target old.target_fault (take k old.to_target) old new refl e
stays old (ToInitiator k) new e = to_initiator old.initiator_fault (take k old.to_initiator) old new refl e
stays old (Submits request) new e = asks old.initiator_fault request old new refl e
stays old Takes new e = both_stay old new (ap (λ (w : World). w.target_fault) e) (ap (λ (w : World). w.initiator_fault) e)

-- what a bit was not, where it stays
was_not : (a b : Bool) → (a ≡ true → b ≡ true) → b ≡ false → a ≡ false
was_not true b s e = absurd (let bad : true ≡ false = sym (s refl) ∙ e in cc)
was_not false b s e = refl

calm_before : (old new : World) → Stay old new → keeps_no_memory new ≡ false → keeps_no_memory old ≡ false
calm_before old new s e =
    let n = or_parts (target_ran_out new.target_fault) (initiator_ran_out new.initiator_fault) e in
    or_from (target_ran_out old.target_fault) (initiator_ran_out old.initiator_fault)
    (was_not (target_ran_out old.target_fault) (target_ran_out new.target_fault) s.target n.0)
    (was_not (initiator_ran_out old.initiator_fault) (initiator_ran_out new.initiator_fault) s.initiator n.1)

pub calm_first : (old : World) (events : List PairEvent) (new : World) → PairRuns old events new → keeps_no_memory new ≡ false → keeps_no_memory old ≡ false
unfolding PairRuns
calm_first old [] new r e = ap keeps_no_memory (sym r) ∙ e
calm_first old (event ∷ events) new r e = calm_before old r.0 (stays old event r.0 r.1) (calm_first r.0 events new r.2 e)

-- where no end keeps that memory ran out, no growth was refused
pub calm : (old : World) (events : List PairEvent) (new : World) → PairRuns old events new → keeps_no_memory new ≡ false → RunsCalmly old events new
unfolding PairRuns RunsCalmly
calm old [] new r e = r
calm old (event ∷ events) new r e = (r.0, r.1, calm_first r.0 events new r.2 e, calm r.0 events new r.2 e)

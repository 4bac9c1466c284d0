-- Steps of a pair: what a move to the initiator does, and one event more.
use Rattle.std.proofs.Common.{◌≡◌, ◌<◌, ℕ, List, [], ◌∷◌, ◌++◌, length, take, min, map, Option, Some, None, is_some, false, refl, sym, ap, ◌∙◌, subst, arith}
use Rattle.std.proofs.lemmas.List.{length-take, take_min, map-append}
use Rattle.iscsi_pair.specs.declared.step.EndFault.{EndFault}
use Rattle.iscsi_pair.specs.declared.step.Step.{Step}
use Rattle.iscsi_pair.specs.World.{World, PairEvent, ToInitiator, InitiatorReceives, MovesToInitiator, PairEventStep, PairRuns, event_of}

pub is_none : {A : Type 0} → (x : Option A) → is_some x ≡ false → x ≡ None
is_none None e = refl
is_none (Some x) e = absurd (cc)

some_move : (fault : Option EndFault) (moved : List ℕ) (old new : World) → fault ≡ None → 0 < length moved → InitiatorReceives moved old new
    → MovesToInitiator fault moved old new
some_move None [] old new none some h = absurd (omega arith)
some_move None (byte ∷ bytes) old new none some h = h
some_move (Some fault) moved old new none some h = absurd (cc)

-- the initiator took the first bytes of its queue
pub initiator_took : (old new : World) (k n : ℕ) → old.initiator_fault ≡ None → n ≡ min k (length old.to_initiator) → 0 < n
    → InitiatorReceives (take n old.to_initiator) old new → PairEventStep old (ToInitiator k) new
initiator_took old new k n none n_is some h =
    let e : take n old.to_initiator ≡ take k old.to_initiator = ap (λ (i : ℕ). take i old.to_initiator) n_is ∙ take_min k old.to_initiator in
    let l : length (take k old.to_initiator) ≡ n = length-take k old.to_initiator ∙ sym n_is in
    some_move old.initiator_fault (take k old.to_initiator) old new none (rw l some) (subst (λ (moved : List ℕ). InitiatorReceives moved old new) e h)

pub runs_none : (w : World) → PairRuns w [] w
unfolding PairRuns
runs_none w = refl

-- one event more
pub runs_more : (old mid new : World) (events : List PairEvent) (event : PairEvent) → PairRuns old events mid → PairEventStep mid event new
    → PairRuns old (events ++ event ∷ []) new
unfolding PairRuns
runs_more old mid new [] event r h = (new, subst (λ (w : World). PairEventStep w event new) r h, refl)
runs_more old mid new (e ∷ events) event r h = (r.0, r.1, runs_more r.0 mid new events event r.2 h)

-- one step more
pub step_more : (old mid new : World) (steps : List Step) (step : Step) → PairRuns old (map event_of steps) mid → PairEventStep mid (event_of step) new
    → PairRuns old (map event_of (steps ++ step ∷ [])) new
step_more old mid new steps step r h =
    subst (λ (events : List PairEvent). PairRuns old events new) (sym (map-append event_of steps (step ∷ [])))
    (runs_more old mid new (map event_of steps) (event_of step) r h)

-- A run that leaves no fault with the initiator, and is never out of memory, was served.
use Rattle.std.specs.List.{AllByRecursion}
use Rattle.std.specs.Result.{result_err}
use Rattle.std.proofs.Common.{◌≡◌, ℕ, false, List, [], ◌∷◌, ◌++◌, take, Option, Some, None, Result, Ok, Err, refl, sym, ap, ◌∙◌}
use Rattle.iscsi_initiator.specs.declared.request.Done.{Done}
use Rattle.iscsi_initiator.specs.declared.request.Request.{Request}
use Rattle.iscsi_initiator.specs.declared.request.Refused.{Refused}
use Rattle.iscsi_initiator.specs.Calls.{InitiatorSubmitPost as Submitted_so}
use Rattle.iscsi_initiator.specs.Submitted.{submitted}
use Rattle.iscsi_target.specs.declared.fault.TargetFault.{TargetFault}
use Rattle.iscsi_pair.specs.declared.step.EndFault.{EndFault}
use Rattle.iscsi_pair.specs.World.{World, PairEvent, ToTarget, ToInitiator, Submits, Takes, PairEventStep, PairRuns, MovesToTarget, MovesToInitiator, RequestHandedIn, keeps_no_memory}
use Rattle.iscsi_pair.specs.World.{submit_fault}
use Rattle.iscsi_pair.specs.Served.{IsAccepted, IsServed, RunsServed, requests_of, requests_in, pair_outcome_in}
use Rattle.iscsi_pair.proofs.Run.MemoryLemmas.{calm_first}

-- ---- the first fault of an initiator stays

to_target : (fault : Option TargetFault) (moved : List ℕ) (old new : World) → MovesToTarget fault moved old new → new.initiator_fault ≡ None
    → old.initiator_fault ≡ None
to_target fault [] old new e none = ap (λ (w : World). w.initiator_fault) (sym e) ∙ none
to_target None (byte ∷ bytes) old new e none = sym e.other_fault ∙ none
to_target (Some fault) (byte ∷ bytes) old new e none = ap (λ (w : World). w.initiator_fault) (sym e) ∙ none

to_initiator : (fault : Option EndFault) (moved : List ℕ) (old new : World) → old.initiator_fault ≡ fault → MovesToInitiator fault moved old new
    → new.initiator_fault ≡ None → old.initiator_fault ≡ None
to_initiator fault [] old new is e none = ap (λ (w : World). w.initiator_fault) (sym e) ∙ none
to_initiator None (byte ∷ bytes) old new is e none = is
to_initiator (Some fault) (byte ∷ bytes) old new is e none = ap (λ (w : World). w.initiator_fault) (sym e) ∙ none

asks : (fault : Option EndFault) (request : Request) (old new : World) → old.initiator_fault ≡ fault → RequestHandedIn fault request old new
    → new.initiator_fault ≡ None
    → old.initiator_fault ≡ None
asks None request old new is e none = is
asks (Some fault) request old new is e none = ap (λ (w : World). w.initiator_fault) (sym e) ∙ none

none_before : (old : World) (event : PairEvent) (new : World) → PairEventStep old event new → new.initiator_fault ≡ None → old.initiator_fault ≡ None
none_before old (ToTarget k) new e none = to_target old.target_fault (take k old.to_target) old new e none
none_before old (ToInitiator k) new e none = to_initiator old.initiator_fault (take k old.to_initiator) old new refl e none
none_before old (Submits request) new e none = asks old.initiator_fault request old new refl e none
none_before old Takes new e none = ap (λ (w : World). w.initiator_fault) (sym e) ∙ none

pub none_first : (old : World) (events : List PairEvent) (new : World) → PairRuns old events new → new.initiator_fault ≡ None → old.initiator_fault ≡ None
unfolding PairRuns
none_first old [] new r none = ap (λ (w : World). w.initiator_fault) (sym r) ∙ none
none_first old (event ∷ events) new r none = none_before old event r.0 r.1 (none_first r.0 events new r.2 none)

-- ---- requests that leave none were accepted

accepted_by : (result : Result (Unit {0}) Refused) (request : Request) (old new : World)
    → Submitted_so result old.initiator request new.initiator old.to_target new.to_target
    → new.initiator_fault ≡ submit_fault (result_err result) → new.initiator_fault ≡ None → (submitted old.initiator.machine request).refusal ≡ None
accepted_by (Ok done_) request old new e fault none = e.none
accepted_by (Err refused) request old new e fault none = absurd (cc (sym fault ∙ none))

accepted_so : (fault : Option EndFault) (request : Request) (old new : World) → old.initiator_fault ≡ fault → RequestHandedIn fault request old new
    → new.initiator_fault ≡ None → (submitted old.initiator.machine request).refusal ≡ None
accepted_so None request old new is e none = accepted_by e.result request old new e.submitted e.fault none
accepted_so (Some fault) request old new is e none = absurd (let bad : None ≡ Some fault = sym none ∙ ap (λ (w : World). w.initiator_fault) e ∙ is in cc)

pub was_accepted : (old : World) (event : PairEvent) (new : World) → PairEventStep old event new → AllByRecursion IsServed (requests_in event) →
    new.initiator_fault ≡ None
    → IsAccepted event old
was_accepted old (ToTarget k) new e served none = tt
was_accepted old (ToInitiator k) new e served none = tt
was_accepted old (Submits request) new e served none = (served.0, accepted_so old.initiator_fault request old new refl e none)
was_accepted old Takes new e served none = tt

-- what all of two lists are, all of each are
pub all_parts : {A : Type 0} (P : A → Type 0) (xs ys : List A) → AllByRecursion P (xs ++ ys) → AllByRecursion P xs × AllByRecursion P ys
all_parts P [] ys p = (tt, p)
all_parts P (x ∷ xs) ys p = (let q = all_parts P xs ys p.1 in ((p.0, q.0), q.1))

pub was_served : (old : World) (events : List PairEvent) (new : World) → PairRuns old events new → AllByRecursion IsServed (requests_of events)
    → keeps_no_memory new
    ≡ false
    → new.initiator_fault ≡ None
    → (outcomes : List Done) × RunsServed old events new outcomes
unfolding PairRuns RunsServed
was_served old [] new r served well none = ([], (r, refl))
was_served old (event ∷ events) new r served well none =
    let parts = all_parts IsServed (requests_in event) (requests_of events) served in
    let later = was_served r.0 events new r.2 parts.1 well none in (
      pair_outcome_in event old ++ later.0,
      (
        r.0,
        later.0,
        r.1,
        was_accepted old event r.0 r.1 parts.0 (none_first r.0 events new r.2 none),
        calm_first r.0 events new r.2 well,
        refl,
        later.1,
      ),
    )

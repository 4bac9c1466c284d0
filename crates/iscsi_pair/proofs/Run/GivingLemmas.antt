-- Runs with the outcomes that they gave, event by event, and what those are on one local disk.
use Rattle.std.specs.List.{AllByRecursion}
use Rattle.std.proofs.Common.{◌≡◌, false, List, [], ◌∷◌, ◌++◌, None, refl, sym, ap, subst, ◌∙◌, append-nil, append_assoc}
use Rattle.std.proofs.lemmas.Bool.{or_from}
use Rattle.std.proofs.lemmas.List.Concat.{flat_map-append}
use Rattle.scsi_disk.specs.Disk.{disk_of}
use Rattle.iscsi_text.specs.declared.negotiated.Session.TheVariants as sessions
use Rattle.iscsi_initiator.specs.declared.request.Done.{Done}
use Rattle.iscsi_initiator.specs.declared.request.Request.{Request}
use Rattle.iscsi_initiator.specs.Laws.{listed}
use Rattle.iscsi_pair.specs.declared.step.Step.{Step}
use Rattle.iscsi_pair.specs.declared.step.Step.TheVariants as steps
use Rattle.iscsi_pair.specs.World.{World, Opening, IsOpening, SuitEachOther, PairEvent, Takes, PairEventStep, PairRuns, event_of, new_pair, keeps_no_memory, target_ran_out, initiator_ran_out}
use Rattle.iscsi_pair.specs.Served.{IsNormal, IsServed, RunsServed, requests_of, requests_in, pair_outcome_in, local_disk_after, disk_outcomes}
use Rattle.iscsi_pair.specs.Outcomes.{GivesOutcomes, IsIdle, step_events, step_request, requests_among, with_taking}
use Rattle.iscsi_pair.proofs.Login.RoundAgrees.{first_asks}
use Rattle.iscsi_pair.proofs.Run.MemoryLemmas.{calm_first}
use Rattle.iscsi_pair.proofs.Run.ServedRunsLaw.{none_first, was_accepted, all_parts}
use Rattle.iscsi_pair.proofs.Run.OneDiskLaw.{idle_whole}

pub gives_none : (w : World) → GivesOutcomes w [] w []
unfolding GivesOutcomes
gives_none w = (refl, refl)

pub gives_more : (old mid new : World) (events : List PairEvent) (event : PairEvent) (outcomes : List Done) → GivesOutcomes old events mid outcomes
    → PairEventStep mid event new
    → GivesOutcomes old (events ++ event ∷ []) new (outcomes ++ pair_outcome_in event mid)
unfolding GivesOutcomes
gives_more old mid new [] event outcomes g h = (
  new,
  [],
  subst (λ (w : World). PairEventStep w event new) g.0 h,
  ap (λ (x : List Done). x ++ pair_outcome_in event mid) g.1 ∙ ap (pair_outcome_in event) g.0 ∙ sym (append-nil (pair_outcome_in event old)),
  (refl, refl),
)
gives_more old mid new (e ∷ events) event outcomes g h = (
  g.0,
  g.1 ++ pair_outcome_in event mid,
  g.2,
  ap (λ (x : List Done). x ++ pair_outcome_in event mid) g.3 ∙ append_assoc (pair_outcome_in e old) g.1 (pair_outcome_in event mid),
  gives_more g.0 mid new events event g.1 g.4 h,
)

gives_runs : (old : World) (events : List PairEvent) (new : World) (outcomes : List Done) → GivesOutcomes old events new outcomes → PairRuns old events new
unfolding GivesOutcomes PairRuns
gives_runs old [] new outcomes g = g.0
gives_runs old (event ∷ events) new outcomes g = (g.0, g.2, gives_runs g.0 events new g.1 g.4)

pub served_giving : (old : World) (events : List PairEvent) (new : World) (outcomes : List Done) → GivesOutcomes old events new outcomes
    → AllByRecursion IsServed (requests_of events) → keeps_no_memory new ≡ false → new.initiator_fault ≡ None → RunsServed old events new outcomes
unfolding GivesOutcomes RunsServed
served_giving old [] new outcomes g served well none = g
served_giving old (event ∷ events) new outcomes g served well none =
    let parts = all_parts IsServed (requests_in event) (requests_of events) served in
    let runs = gives_runs g.0 events new g.1 g.4 in (
      g.0,
      g.1,
      g.2,
      was_accepted old event g.0 g.2 parts.0 (none_first g.0 events new runs none),
      calm_first g.0 events new runs well,
      g.3,
      served_giving g.0 events new g.1 g.4 parts.1 well none,
    )

-- ---- steps, behind each of which the outcome is taken

pub requests_more : (xs ys : List PairEvent) → requests_of (xs ++ ys) ≡ requests_of xs ++ requests_of ys
requests_more [] ys = refl
requests_more (x ∷ xs) ys = ap (λ (more : List Request). requests_in x ++ more) (requests_more xs ys)
    ∙ sym (append_assoc (requests_in x) (requests_of xs) (requests_of ys))

pub none_given : (step : Step) (w : World) → pair_outcome_in (event_of step) w ≡ []
none_given (steps.ToTarget k) w = refl
none_given (steps.ToInitiator k) w = refl
none_given (steps.Submit request) w = refl

pub same_request : (step : Step) → requests_in (event_of step) ≡ step_request step
same_request (steps.ToTarget k) = refl
same_request (steps.ToInitiator k) = refl
same_request (steps.Submit request) = refl

-- behind each of these steps the outcome was taken
pub record HasGiven (first : World) (taken : List Step) (w : World) (outcomes : List Done) : Type 0 where
  pub gives : GivesOutcomes first (step_events taken) w outcomes
  pub none_left : first.initiator.machine.done ≡ None → w.initiator.machine.done ≡ None

-- taking hands in nothing
requests_taking : (taken : List Step) → requests_of (step_events taken) ≡ requests_among taken
requests_taking [] = refl
requests_taking (step ∷ taken) = ap (λ (x : List Request). x ++ requests_of (step_events taken)) (same_request step)
    ∙ ap (λ (x : List Request). step_request step ++ x) (requests_taking taken)

pub given_none : (first : World) → HasGiven first [] first []
given_none first = record { gives = gives_none first; none_left = λ none. none }

pub given_more : (first : World) (taken : List Step) (step : Step) (old mid new : World) (outcomes : List Done) → HasGiven first taken old outcomes
    → PairEventStep old (event_of step) mid → PairEventStep mid Takes new
    → HasGiven first (taken ++ step ∷ []) new (outcomes ++ listed mid.initiator.machine.done)
given_more first taken step old mid new outcomes g h t =
    let event : PairEvent = event_of step in
    let events : List PairEvent = step_events taken in
    let one = gives_more first old mid events event outcomes g.gives h in
    let same : outcomes ++ pair_outcome_in event old ≡ outcomes = ap (λ (x : List Done). outcomes ++ x) (none_given step old) ∙ append-nil outcomes in
    let all = gives_more first mid new (events ++ event ∷ []) Takes outcomes
    (subst (λ (x : List Done). GivesOutcomes first (events ++ event ∷ []) mid x) same one) t in
    let grown : (events ++ event ∷ []) ++ Takes ∷ [] ≡ step_events (taken ++ step ∷ []) =
    append_assoc events (event ∷ []) (Takes ∷ []) ∙ sym (flat_map-append with_taking taken (step ∷ [])) in
    record {
      gives = subst (λ (x : List PairEvent). GivesOutcomes first x new (outcomes ++ listed mid.initiator.machine.done)) grown all;
      none_left = λ none. ap (λ (w : World). w.initiator.machine.done) t;
    }

-- what was given is what one local disk gives
pub record AreOnDisk (c : Opening) (taken : List Step) (w : World) (outcomes : List Done) : Type 0 where
  pub outcomes_are : outcomes ≡ disk_outcomes c (requests_among taken)
  pub disk_is : disk_of w.blocks ≡ local_disk_after c (requests_among taken)

pub given_on_disk : (c : Opening) (taken : List Step) (w : World) (outcomes : List Done) → IsOpening c
    → GivesOutcomes (new_pair c) (step_events taken) w outcomes
    → ((new_pair c).initiator.machine.done ≡ None → w.initiator.machine.done ≡ None) → IsIdle w → SuitEachOther c
    → c.initiator.proposal.session ≡ sessions.Normal → AllByRecursion IsServed (requests_among taken)
    → AreOnDisk c taken w outcomes
given_on_disk c taken w outcomes o gives left idle suits normal served =
    let n : IsNormal c = record { opening = o; suits = suits; session = normal } in
    let none : w.initiator.machine.done ≡ None = left (first_asks c o).asking.no_outcome in
    let well : keeps_no_memory w ≡ false =
    or_from (target_ran_out w.target_fault) (initiator_ran_out w.initiator_fault) (ap target_ran_out idle.0) (ap initiator_ran_out idle.1) in
    let runs = served_giving (new_pair c) (step_events taken) w outcomes gives
    (subst (λ (x : List Request). AllByRecursion IsServed x) (sym (requests_taking taken)) served) well
    idle.1 in
    let whole = idle_whole c (step_events taken) w outcomes n runs idle.2 idle.3 in
    record {
      outcomes_are = sym (append-nil outcomes) ∙ ap (λ x. outcomes ++ listed x) (sym none) ∙ whole.0
          ∙ ap (λ (x : List Request). disk_outcomes c x) (requests_taking taken);
      disk_is = whole.1 ∙ ap (λ (x : List Request). local_disk_after c x) (requests_taking taken);
    }

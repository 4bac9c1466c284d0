-- A list of steps, and the requests among them.
use Rattle.std.specs.Prelude.{◌≡◌, ◌⊎◌, ℕ, List, [], ◌∷◌, ◌++◌, None}
use Rattle.std.specs.List.{flat_map}
use Rattle.iscsi_target_session.specs.Configured as target_settings
use Rattle.iscsi_initiator.specs.State as initiator_state
use Rattle.iscsi_initiator.specs.declared.request.Done.{Done}
use Rattle.iscsi_initiator.specs.declared.request.Request.{Request}
use Rattle.iscsi_pair.specs.declared.step.Step.{Step}
use Rattle.iscsi_pair.specs.declared.step.Step.TheVariants as steps
use Rattle.iscsi_initiator.specs.declared.request.Request.TheVariants as requests
use Rattle.iscsi_pair.specs.World.{PairEvent, PairEventStep, Opening, Takes, World, event_of, new_pair}
use Rattle.iscsi_pair.specs.Served.{IsAlwaysTaken, pair_outcome_in}

-- What a pair of these is made of.
abbrev pub opening_of : initiator_state.InitiatorSettings → target_settings.TargetSettings → ℕ
    → List ℕ → Opening
opening_of initiator target first_stat_sn blocks = record {
  initiator = initiator;
  target = target;
  first_stat_sn = first_stat_sn;
  blocks = blocks;
}

-- The request that a step hands in, if it hands one in.
abbrev pub step_request : Step → List Request
step_request (steps.Submit request) = request ∷ []
step_request _ = []

-- The requests that steps hand in, in their order.
abbrev pub requests_among : List Step → List Request
requests_among steps = flat_map step_request steps

-- No end has failed, and nothing is on its way.
abbrev pub IsIdle : World → Type 0
IsIdle w =
    (w.target_fault ≡ None) × (w.initiator_fault ≡ None) × (w.to_target ≡ []) × (w.to_initiator ≡ [])

-- A step, and then the initiator's outcome is taken, if one is there.
abbrev pub with_taking : Step → List PairEvent
with_taking step = event_of step ∷ Takes ∷ []

-- Steps, behind each of which the outcome is taken.
abbrev pub step_events : List Step → List PairEvent
step_events steps = flat_map with_taking steps

-- Events, one after another, and the outcomes that were taken, in their order.
unfoldable pub GivesOutcomes : World → List PairEvent → World → List Done → Type 0
GivesOutcomes old [] new outcomes = (new ≡ old) × (outcomes ≡ [])
GivesOutcomes old (event ∷ events) new outcomes =
    (mid : World) × (later : List Done) × PairEventStep old event mid
    × (outcomes ≡ pair_outcome_in event old ++ later) × GivesOutcomes mid events new later

-- These events led from a new pair to one that is idle and has these blocks, and gave these
-- outcomes.
pub record HasRun (c : Opening) (events : List PairEvent) (outcomes : List Done) (blocks : List ℕ)
    : Type 0 where
  pub world : World
  pub gives : GivesOutcomes (new_pair c) events world outcomes
  pub idle : IsIdle world
  pub blocks_are : blocks ≡ world.blocks

-- Each of these requests is one that any target takes; the last may be a logout (section 11.14).
abbrev pub CanBeServed : List Request → Type 0
CanBeServed [] = Unit {0}
CanBeServed (request ∷ []) = IsAlwaysTaken request ⊎ (request ≡ requests.Logout)
CanBeServed (request ∷ next ∷ more) = IsAlwaysTaken request × CanBeServed (next ∷ more)

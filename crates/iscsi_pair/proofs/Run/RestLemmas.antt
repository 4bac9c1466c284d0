-- Runs of one pair in which no growth was refused come to rest together.
use Rattle.std.proofs.Common.{◌≡◌, false, List, [], ◌∷◌, sym, ◌∙◌}
use Rattle.iscsi_initiator.specs.declared.request.Done.{Done}
use Rattle.iscsi_pair.specs.World.{World, Opening, PairEvent, PairRuns, RunsCalmly, LooksAlike, keeps_no_memory, new_pair}
use Rattle.iscsi_pair.specs.Outcomes.{GivesOutcomes, IsIdle}
use Rattle.iscsi_pair.proofs.Ends.OneWorldLaw.{one_world}
use Rattle.iscsi_pair.proofs.Run.MemoryLemmas.{calm}

-- outcomes are given along a run
pub gives_runs : (old : World) (events : List PairEvent) (new : World) (outcomes : List Done) → GivesOutcomes old events new outcomes → PairRuns old events new
unfolding GivesOutcomes PairRuns
gives_runs old [] new outcomes g = g.0
gives_runs old (event ∷ events) new outcomes g = (g.0, g.2, gives_runs g.0 events new g.1 g.4)

-- a pair that looks like one at rest is at rest
rests_alike : (v w : World) → LooksAlike v w → IsIdle w → IsIdle v
rests_alike v w a i = (sym a.target_fault ∙ i.0, sym a.initiator_fault ∙ i.1, sym a.to_target ∙ i.2, sym a.to_initiator ∙ i.3)

-- if one run is not at rest where memory held, no other one is
pub none_rests : (c : Opening) (events : List PairEvent) (v w : World) → PairRuns (new_pair c) events v → keeps_no_memory v ≡ false → (IsIdle v → ⊥)
    → RunsCalmly (new_pair c) events w → IsIdle w → ⊥
none_rests c events v w runs memory not other idle =
    not (rests_alike v w (one_world c events v w (calm (new_pair c) events v runs memory) other) idle)

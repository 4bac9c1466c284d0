-- Where a pair has come: every event leads on, and an initiator that has completed its login holds what the target holds.
use Rattle.std.proofs.Common.{◌≡◌, [], ◌∷◌, ◌++◌}
use Rattle.iscsi_login.specs.declared.stage.Stage.TheVariants as stages
use Rattle.iscsi_pair.specs.World.{World, Opening, IsOpening, PairEvent, PairEventStep, new_pair}
use Rattle.iscsi_pair.specs.inner.World.{HasCome}
use Rattle.iscsi_pair.specs.Traffic.{first_traffic}
use Rattle.iscsi_pair.proofs.Ends.BothRuns.{traced, reached_sides}
use Rattle.iscsi_pair.proofs.Login.AgreementLaw.{world_agrees}
use Rattle.iscsi_pair.proofs.Run.MoveLemmas.{runs_none, runs_more}

pub comes_first : (c : Opening) → IsOpening c → HasCome (new_pair c)
comes_first c is = record { opening = c; events = []; is_opening = is; reached = runs_none (new_pair c) }

pub comes_more : (old new : World) (event : PairEvent) → HasCome old → PairEventStep old event new → HasCome new
comes_more old new event h e = record {
  opening = h.opening;
  events = h.events ++ event ∷ [];
  is_opening = h.is_opening;
  reached = runs_more (new_pair h.opening) old new h.events event h.reached e;
}

pub both_full : (w : World) → HasCome w → w.initiator.machine.stage ≡ stages.Full → w.target.machine.session.stage ≡ stages.Full
both_full w h full =
    let t = traced (first_traffic h.opening) (new_pair h.opening) h.events w h.reached in
    (world_agrees h.opening t.0 w h.is_opening (reached_sides h.opening h.events w t.0 t.1) full).0

pub agreed : (w : World) → HasCome w → w.initiator.machine.stage ≡ stages.Full → w.target.machine.session.held ≡ w.initiator.machine.held
agreed w h full =
    let t = traced (first_traffic h.opening) (new_pair h.opening) h.events w h.reached in
    (world_agrees h.opening t.0 w h.is_opening (reached_sides h.opening h.events w t.0 t.1) full).1

-- An initiator that has completed its login holds what the target holds.
use Rattle.std.proofs.Common.{false, ◌≡◌, inl, inr, ℕ, List, ◌++◌, refl, sym, ap, ◌∙◌, append_assoc}
use Rattle.scsi_disk.specs.Disk.{disk_of}
use Rattle.iscsi_stream.specs.Segment.{no_login}
use Rattle.iscsi_stream.specs.Stream.{Message}
use Rattle.iscsi_stream.specs.Canonical.{canon, canonical_bytes}
use Rattle.iscsi_login.specs.declared.stage.Stage.TheVariants as stages
use Rattle.iscsi_target.specs.State as target
use Rattle.iscsi_target.specs.Machine.{answers}
use Rattle.iscsi_initiator.specs.State as initiator
use Rattle.iscsi_initiator.specs.Login.{start_step}
use Rattle.iscsi_initiator.proofs.HeldLaws.{start_not_full}
use Rattle.iscsi_pair.specs.World.{World, Opening, IsOpening}
use Rattle.iscsi_pair.specs.Traffic.{Traffic, session_after_all, sent}
use Rattle.iscsi_pair.proofs.Ends.InitiatorEnds.{begun}
use Rattle.iscsi_pair.proofs.Ends.BothRuns.{Sides}
use Rattle.iscsi_pair.proofs.Login.RoundAgrees.{Asks_on, first_asks}
use Rattle.iscsi_pair.proofs.Login.Exchange.{Ended, OnlyLater, Way, Waiting, Closing, Agreeing, any_turns, anything, exchange_ends, first_reached}

-- ---- both ends

-- the target has completed its login too, and holds the same
pub record Same (t : target.TargetStep) (i : initiator.InitiatorSession) : Type 0 where
  pub stage : t.machine.session.stage ≡ stages.Full
  pub held : t.machine.session.held ≡ i.held

-- an exchange that has ended so
ended_same : (w : Way) (r : target.TargetStep) (m : initiator.InitiatorSession) → Ended w (Unit {0}) anything r.machine m → m.stage ≡ stages.Full → Same r m
ended_same w r m (Waiting t disk ms p x is) full = absurd (start_not_full m.stage x.asking.stage full)
ended_same w r m (Closing may closed start) full = absurd (start_not_full m.stage start full)
ended_same w r m (Agreeing stage held own) full = record { stage = stage; held = held }

-- ---- worlds

-- in every world that a pair comes to, an initiator that has completed its login holds what the target holds
pub world_agrees : (c : Opening) (u : Traffic) (w : World) → IsOpening c → Sides c u w → w.initiator.machine.stage ≡ stages.Full
    → (w.target.machine.session.stage ≡ stages.Full) × (w.target.machine.session.held ≡ w.initiator.machine.held)
world_agrees c u w o s full =
    let a : Asks_on c (start_step (initiator.new_session c.initiator)) (target.opening_machine c.target c.first_stat_sn) no_login = first_asks c o in
    let t = s.target.front in
    let i = s.initiator.front in
    let rest : List ℕ = t.rest ++ (w.to_target ++ i.lost) in
    let whole : t.given ++ rest ≡ canonical_bytes a.request ++ canon (sent (begun c) i.inputs) =
    sym (append_assoc t.given t.rest (w.to_target ++ i.lost)) ∙ ap (λ (x : List ℕ). x ++ (w.to_target ++ i.lost)) (sym t.whole)
    ∙ sym (append_assoc u.moved_to_target w.to_target i.lost) ∙ ap (λ (x : List ℕ). x ++ i.lost) s.to_target ∙ i.output
    ∙ ap (λ (x : List Message). canon (x ++ sent (begun c) i.inputs)) a.is in
    let back : i.given ++ (i.rest ++ w.to_initiator) ≡ canon ((answers false (target.opening_machine c.target c.first_stat_sn) (disk_of c.blocks)
    t.messages).answers
    ++ t.extra) =
    sym (append_assoc i.given i.rest w.to_initiator) ∙ ap (λ (x : List ℕ). x ++ w.to_initiator) (sym i.whole) ∙ s.to_initiator ∙ t.output in
    let only : OnlyLater t.extra (answers false (target.opening_machine c.target c.first_stat_sn) (disk_of c.blocks) t.messages) = elim t.only [
      | inl none ↦ inl none
      | inr short ↦ inr short.1
    ] in
    let way : Way = record {
      opening = c;
      extra = t.extra;
      target_limit = t.limit;
      initiator_limit = i.limit;
      left_there = rest;
      left_here = i.rest ++ w.to_initiator;
    } in
    let same : Same (answers false (target.opening_machine c.target c.first_stat_sn) (disk_of c.blocks) t.messages) (session_after_all (begun c) i.inputs) =
    ended_same way (answers false (target.opening_machine c.target c.first_stat_sn) (disk_of c.blocks) t.messages) (session_after_all (begun c) i.inputs)
    (exchange_ends i.inputs way (Unit {0}) anything (begun c) (target.opening_machine c.target c.first_stat_sn) (disk_of c.blocks) t.messages o (any_turns c) tt
    (record {
      there = no_login;
      here = no_login;
      request = a.request;
      asking = a.asking;
      first = refl;
      reached = first_reached c;
      given = t.given;
      reads = t.reads;
      sends = whole;
      received = i.given;
      receives = i.reads;
      answered = back;
      only = only;
    })) (sym i.stage ∙ full) in
    (t.stage ∙ same.stage, t.held ∙ same.held ∙ sym i.held)

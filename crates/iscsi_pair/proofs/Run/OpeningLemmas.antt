-- Ends whose initiator starts its login are those of a new pair.
use Rattle.std.proofs.Common.{◌≡◌, ℕ, List, [], None, ap, subst, ◌∙◌}
use Rattle.iscsi_target.specs.Feed as target
use Rattle.iscsi_initiator.specs.Calls.{InitiatorConnection, StepDone, opening_initiator}
use Rattle.iscsi_initiator.specs.Login.{start_step}
use Rattle.iscsi_pair.specs.World.{World, Opening, new_pair, started}

abbrev pub unstarted : Opening → World
unstarted c = record {
  target = target.opening_target c.target c.first_stat_sn;
  blocks = c.blocks;
  initiator = opening_initiator c.initiator;
  to_target = [];
  to_initiator = [];
  target_fault = None;
  initiator_fault = None;
}

same_connection : (x y : InitiatorConnection) → x.machine ≡ y.machine → x.framing ≡ y.framing → x ≡ y
same_connection x y m f = ap (λ k. record x { machine = k }) m ∙ ap (λ k. record y { framing = k }) f

pub has_started : (c : Opening) (old new : World) → old ≡ unstarted c
    → StepDone (start_step old.initiator.machine) old.initiator new.initiator old.to_target new.to_target
    → new ≡ record old { initiator = new.initiator; to_target = new.to_target } → new ≡ new_pair c
has_started c old new o d others =
    let e = subst (λ (w : World). StepDone (start_step w.initiator.machine) w.initiator new.initiator w.to_target new.to_target) o d in
    let first : new ≡ record (unstarted c) { initiator = new.initiator; to_target = new.to_target } =
    subst (λ (w : World). new ≡ record w { initiator = new.initiator; to_target = new.to_target }) o others in
    let here : new.initiator ≡ started c = same_connection new.initiator (started c) e.machine e.framing in
    first ∙ ap (λ (x : InitiatorConnection). record (unstarted c) { initiator = x; to_target = new.to_target }) here
    ∙ ap (λ (q : List ℕ). record (unstarted c) { initiator = started c; to_target = q }) e.output

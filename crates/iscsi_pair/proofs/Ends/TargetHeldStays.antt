-- What a target holds after its login stays.
use Rattle.std.proofs.Common.{false, ◌∙◌, List, [], ◌∷◌, refl}
use Rattle.scsi_disk.specs.Disk.{Disk}
use Rattle.iscsi_stream.specs.Stream.{Message}
use Rattle.iscsi_target.specs.State.{Machine}
use Rattle.iscsi_target.specs.Machine.{target_step, answers}
use Rattle.iscsi_target.proofs.Steps.KeepingLemmas.{IsLater, Stays, step_stays}
use Rattle.iscsi_target.specs.Execution.{reliable}

-- what is held after the login stays, whatever comes
pub held_stays : (s : Machine) (disk : Disk) (ms : List Message) → IsLater s.session.phase → Stays s (answers false s disk ms).machine
unfolding answers
held_stays s disk [] l = record { stage = refl; held = refl; has_text = refl; name = refl; progress = refl; later = λ l. l }
held_stays s disk (m ∷ ms) l =
    let k : Stays s (target_step false s disk m).machine = step_stays (reliable false) s disk m l in
    let n = held_stays (target_step false s disk m).machine (target_step false s disk m).disk ms (k.later l) in
    record {
      stage = n.stage ∙ k.stage;
      held = n.held ∙ k.held;
      has_text = n.has_text ∙ k.has_text;
      name = n.name ∙ k.name;
      progress = n.progress
          ∙ k.progress;
      later = λ x. n.later (k.later x);
    }

use Rattle.std.proofs.Common.{◌≡◌, ◌⊎◌, ◌∙◌, false, List, None, ap, subst, inl, inr}
use Rattle.scsi_disk.specs.Disk.{disk_of}
use Rattle.iscsi_initiator.specs.declared.request.Done.{Done}
use Rattle.iscsi_pair.specs.declared.step.RunFault.{RunFault}
use Rattle.iscsi_pair.specs.declared.step.RunFault.TheVariants as faults
use Rattle.iscsi_pair.specs.World.{World, Opening, PairEvent, PairRuns, RunsCalmly, keeps_no_memory, new_pair}
use Rattle.iscsi_pair.specs.Outcomes.{GivesOutcomes, IsIdle, step_events, opening_of}
use Rattle.iscsi_pair.proofs.Run.RestLemmas.{none_rests}
use Rattle.iscsi_pair.proofs.Run.GivingLemmas.{AreOnDisk, given_on_disk}
use Rattle.iscsi_pair.proofs.pair.outcomes_over.Goals as goal

pub returns-in-Ok-given : goal.returns-in-Ok-given
returns-in-Ok-given c =
    let o : Opening = opening_of c.args.configs.0 c.args.configs.1 c.args.first_statsn c.args.store in
    let last : World = c.outcomes_behind-given.new.pair in
    let outcomes : List Done = c.in-Ok-given.outcomes.items in
    let gives : GivesOutcomes (new_pair o) (step_events c.args.steps.items) last outcomes =
    subst (λ (w : World). GivesOutcomes w (step_events c.args.steps.items) last outcomes) c.in-Ok.ensures.opening c.in-Ok-given.ensures.gives in
    record {
      on_disk = λ suits normal served.
          (let d : AreOnDisk o c.args.steps.items last outcomes =
          given_on_disk o c.args.steps.items last outcomes c.in-Ok.ensures.in_range gives
          (subst (λ (w : World). w.initiator.machine.done ≡ None → last.initiator.machine.done ≡ None) c.in-Ok.ensures.opening c.in-Ok-given.ensures.none_left)
          c.in-Ok-given.ensures.idle suits normal served in
          (d.outcomes_are, ap disk_of c.into_store-store.ensures.store ∙ d.disk_is));
      rested = λ w calm idle. tt;
      ran = record { world = last; gives = gives; idle = c.in-Ok-given.ensures.idle; blocks_are = c.into_store-store.ensures.store };
    }

-- a fault of steps is no want of memory only where none bring the pair to rest
unrested : (o : Opening) (steps : List PairEvent) (first last : World) (fault : RunFault) → first ≡ new_pair o
    → (fault ≡ faults.NoMemory) ⊎ (PairRuns first steps last × (keeps_no_memory last ≡ false) × (IsIdle last → ⊥))
    → (w : World) → RunsCalmly (new_pair o) steps w → IsIdle w → fault ≡ faults.NoMemory
unrested o steps first last fault is (inl e) w calm idle = e
unrested o steps first last fault is (inr e) w calm idle =
    absurd (none_rests o steps last w (subst (λ (x : World). PairRuns x steps last) is e.0) e.1 e.2 calm idle)

pub returns-in-Err-clause-rested : goal.returns-in-Err-clause-rested
returns-in-Err-clause-rested c =
    let o : Opening = opening_of c.args.configs.0 c.args.configs.1 c.args.first_statsn c.args.store in
    unrested o (step_events c.args.steps.items) c.in-Ok.pair c.outcomes_behind-given.new.pair c.in-Err.fault c.in-Ok.ensures.opening
    c.in-Err.ensures.err

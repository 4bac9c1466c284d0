-- Where memory ran out at a message.
use Rattle.std.proofs.Common.{Bool, ◌≡◌, inl, inr, ℕ, zero, suc, List, [], ◌∷◌, false, refl, sym, ap, ◌∙◌}
use Rattle.std.specs.Prelude.{◌||◌}
use Rattle.scsi_disk.specs.Disk.{Disk}
use Rattle.iscsi_stream.specs.Stream.{Message}
use Rattle.iscsi_login.specs.declared.phase.Phase.TheVariants.{Full}
use Rattle.iscsi_target_session.specs.Session.{Session}
use Rattle.iscsi_target.specs.declared.tasks.Task.{Task}
use Rattle.iscsi_target.specs.State.{Machine, TargetStep, closed_machine}
use Rattle.iscsi_target.specs.Execution.{Device, reliable, device_after}
use Rattle.iscsi_target.specs.Machine.{Next, Dropped, Answered, Queued, task_begun, stays, done_first, full_met, next_step, is_machine_closed, is_over_limit}
use Rattle.iscsi_target.specs.inner.Inside.{Moment, moment, GivesUpMessage, NextRanOut, MessageRanOut}
use Rattle.iscsi_target_session.proofs.CaseLemmas.{by_cases}
use Rattle.iscsi_target.proofs.Steps.TurnLemmas.{with_tasks}
use Rattle.iscsi_target.proofs.Steps.KeepingLemmas.{begun_settings, done_settings, step_settings}
use Rattle.iscsi_target.proofs.Turns.DispatchLemmas.{live_step}

-- ---- the session is closed then

-- the same with the session closed
abbrev shut : Moment → Moment
shut at = moment (closed_machine at.machine) at.store at.output

gives_closed : (old new : Moment) → GivesUpMessage old new → GivesUpMessage old (shut new)
gives_closed old new h = record { machine = h.machine; rises = h.rises; disk_is = h.disk_is; unwritten = h.unwritten }

next_closed : (protected : Bool) (next : Next) (old new : Moment) → NextRanOut protected next old new → NextRanOut protected next old (shut new)
next_closed protected Dropped old new h = gives_closed old new h
next_closed protected (Answered r) old new h = gives_closed old new h
next_closed protected (Queued session tasks) old new h = record {
  done = h.done;
  device = h.device;
  live = h.live;
  failures = h.failures;
  runs = h.runs;
  rises = h.rises;
  machine = h.machine;
  disk_is = h.disk_is;
  output = h.output;
}

pub halts_closed : (protected : Bool) (m : Message) (old new : Moment) → MessageRanOut protected m old new → MessageRanOut protected m old (shut new)
halts_closed protected m old new (inl h) = inl (gives_closed old new h)
halts_closed protected m old new (inr h) = inr (h.0, next_closed protected (full_met old.machine old.store.disk.count m).next old new h.1)

-- ---- and keeps its settings

first_settings : (k : ℕ) (device : Device) (s : Session) (disk : Disk) (tasks : List Task) → (done_first k device s disk tasks).machine.session.settings
    ≡ s.settings
unfolding done_first
first_settings zero device s disk tasks = refl
first_settings (suc k) device s disk [] = refl
first_settings (suc k) device s disk (task ∷ more) =
    let r : TargetStep = task_begun device (with_tasks s more) disk task in
    by_cases (stays more r || is_machine_closed r.machine) (λ e. rw e (begun_settings device s disk task more))
    (λ e. rw e (first_settings k (device_after r.executed device) r.machine.session r.disk more ∙ begun_settings device s disk task more))

queued_settings : (s : Machine) (disk : Disk) (m : Message) (session : Session) (tasks : List Task) → is_machine_closed s ≡ false → is_over_limit s m.segment
    ≡ false →
    s.session.phase ≡ Full → Queued session tasks ≡ (full_met s disk.count m).next
    → session.settings ≡ s.session.settings
queued_settings s disk m session tasks live within full is =
    sym (done_settings (reliable false) session disk tasks) ∙ ap (λ (x : Next). (next_step (reliable false) s disk x).machine.session.settings) is
    ∙ ap (λ (x : TargetStep). x.machine.session.settings) (sym (live_step (reliable false) s disk m Full live within full))
    ∙ step_settings (reliable false) s disk m

next_settings : (protected : Bool) (m : Message) (next : Next) (old new : Moment) → is_machine_closed old.machine ≡ false
    → is_over_limit old.machine m.segment ≡ false →
    old.machine.session.phase ≡ Full
    → next ≡ (full_met old.machine old.store.disk.count m).next → NextRanOut protected next old new → new.machine.session.settings
    ≡ old.machine.session.settings
next_settings protected m Dropped old new live within full is h = ap (λ (x : Machine). x.session.settings) h.machine
next_settings protected m (Answered r) old new live within full is h = ap (λ (x : Machine). x.session.settings) h.machine
next_settings protected m (Queued session tasks) old new live within full is h =
    ap (λ (x : Machine). x.session.settings) h.machine ∙ first_settings h.done h.device session old.store.disk tasks
    ∙ queued_settings old.machine old.store.disk m session tasks live within full is

pub halts_settings : (protected : Bool) (m : Message) (old new : Moment) → is_machine_closed old.machine ≡ false → is_over_limit old.machine m.segment ≡ false
    → MessageRanOut protected m old new →
    new.machine.session.settings ≡ old.machine.session.settings
halts_settings protected m old new live within (inl h) = ap (λ (x : Machine). x.session.settings) h.machine
halts_settings protected m old new live within (inr h) = next_settings protected m (full_met old.machine old.store.disk.count m).next old new
    live within h.0 refl h.1

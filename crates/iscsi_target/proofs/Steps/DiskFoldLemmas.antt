-- The disk after messages, and what comes outside the window.
use Rattle.std.proofs.Common.{Bool, ◌≡◌, ℕ, zero, suc, List, [], ◌∷◌, ◌++◌, refl, sym, ap, ◌∙◌, subst, map}
use Rattle.scsi_disk.specs.Disk.{Disk}
use Rattle.scsi_disk.specs.Effect.{effect}
use Rattle.scsi_disk.specs.Runs.{disk_after}
use Rattle.iscsi_stream.specs.Stream.{Message}
use Rattle.iscsi_stream.specs.Pieces.{piece_data}
use Rattle.iscsi_target_session.specs.Session.{Session}
use Rattle.iscsi_target.specs.declared.tasks.Task.{Task}
use Rattle.iscsi_target.specs.State.{Machine, Execution, TargetStep}
use Rattle.iscsi_target.specs.Execution.{Device, reliable, device_next, device_after}
use Rattle.std.specs.Prelude.{◌||◌}
use Rattle.iscsi_target.specs.Machine.{target_step, step_on, answers, task_begun, done_in_turn, done_first, stays, is_machine_closed}
use Rattle.iscsi_target.specs.Laws.{supplied}
use Rattle.iscsi_target_session.proofs.CaseLemmas.{by_cases}
use Rattle.iscsi_target.proofs.Steps.TurnLemmas.{Begins, begins, Turns, turns}
use Rattle.iscsi_target.proofs.Steps.StepPartLemmas.{Parts, step_parts}

-- what was executed led from disk to disk as the store did it
abbrev pub Does : Device → Disk → List Execution → Disk → Type 0
Does device disk [] last = last ≡ disk
Does device disk (e ∷ es) last = (e.disk ≡ disk) × Does (device_next device) (device 0 e.disk e.order (piece_data e.pieces)).disk es last

does_append : (device : Device) (disk mid last : Disk) (a b : List Execution) → Does device disk a mid → Does (device_after a device) mid b last →
    Does device disk (a ++ b) last
does_append device disk mid last [] b x y = subst (λ (d : Disk). Does device d b last) x y
does_append device disk mid last (e ∷ es) b x y =
    (x.0, does_append (device_next device) (device 0 e.disk e.order (piece_data e.pieces)).disk mid last es b x.1 y)

pub record Goes (device : Device) (disk : Disk) (r : TargetStep) : Type 0 where
  pub is : Does device disk r.executed r.disk

begins_do : Begins (λ device s disk task r. Goes device disk r)
begins_do = record {
  request_ = λ device s disk k. record { is = refl };
  command_ = λ device s disk tag order. record { is = (refl, refl) };
  write_ = λ device s disk w h. record { is = (refl, refl) };
  send_r2t_ = λ device s disk w h g. record { is = refl };
  wait_ = λ device s disk w h g. record { is = refl };
}

begun_does : (device : Device) (s : Session) (disk : Disk) (task : Task) (more : List Task) →
    Goes device disk (task_begun device (record { session = s; tasks = more }) disk task)
begun_does device s disk task more = begins (λ device s disk task r. Goes device disk r) begins_do device (record { session = s; tasks = more }) disk task

turns_do : Turns (λ device s disk tasks r. Goes device disk r)
turns_do = record {
  none_ = λ device s disk. record { is = refl };
  stop_ = λ device s disk task more why. begun_does device s disk task more;
  then_ = λ device s disk task more b stays live u.
      (let a : TargetStep = task_begun device (record { session = s; tasks = more }) disk task in
      record { is = does_append device disk a.disk b.disk a.executed b.executed (begun_does device s disk task more).is u.is });
}

done_does : (device : Device) (s : Session) (disk : Disk) (tasks : List Task) → Goes device disk (done_in_turn device s disk tasks)
done_does device s disk tasks = turns (λ device s disk tasks r. Goes device disk r) turns_do device s disk tasks

-- also of the first n
pub first_does : (k : ℕ) (device : Device) (s : Session) (disk : Disk) (tasks : List Task) → Goes device disk (done_first k device s disk tasks)
unfolding done_first
first_does zero device s disk tasks = record { is = refl }
first_does (suc k) device s disk [] = record { is = refl }
first_does (suc k) device s disk (task ∷ more) =
    let a : TargetStep = task_begun device (record { session = s; tasks = more }) disk task in
    let b : TargetStep = done_first k (device_after a.executed device) a.machine.session a.disk more in
    by_cases (stays more a || is_machine_closed a.machine) (λ e. rw e (begun_does device s disk task more))
    (λ e. rw e (record {
      is = does_append device disk a.disk b.disk a.executed b.executed (begun_does device s disk task more).is
          (first_does k (device_after a.executed device) a.machine.session a.disk more).is;
    }))

parts_do : (device : Device) (disk : Disk) → Parts device disk (λ s m r. Goes device disk r)
parts_do device disk = record {
  nothing_ = λ s m c. record { is = refl };
  shut_ = λ s m. record { is = refl };
  beside_ = λ s m r a is. record { is = refl };
  reject_and_close_ = λ s rule m. record { is = refl };
  login_ = λ s m k. record { is = refl };
  taken_ = λ s m h w v k e f. record { is = (done_does device s.session disk _).is };
  refused_ = λ s t m rule a x. record { is = refl };
  admitted_ = λ s t m a x r is f. record { is = (done_does device t.session disk _).is };
}

pub step_does : (device : Device) (s : Machine) (disk : Disk) (m : Message) → Goes device disk (step_on device s disk m)
step_does device s disk m = step_parts device disk (λ s m r. Goes device disk r) (parts_do device disk) s m

-- ---- a store that doesn't fail

by_reliable : (protected : Bool) (disk last : Disk) (es : List Execution) → Does (reliable protected) disk es last
    → last ≡ disk_after protected (map supplied es) disk
unfolding disk_after
by_reliable protected disk last [] d = d
by_reliable protected disk last (e ∷ es) d =
    by_reliable protected (effect protected e.disk e.order (piece_data e.pieces)).disk last es d.1
    ∙ ap (λ (x : Disk). disk_after protected (map supplied es) (effect protected x e.order (piece_data e.pieces)).disk) d.0

pub step_folds : (protected : Bool) (s : Machine) (disk : Disk) (m : Message)
    → (target_step protected s disk m).disk ≡ disk_after protected (map supplied (target_step protected s disk m).executed) disk
step_folds protected s disk m = by_reliable protected disk (target_step protected s disk m).disk (target_step protected s disk m).executed
    (step_does (reliable protected) s disk m).is

disk_after_append : (protected : Bool) (disk : Disk) (a b : List Execution) → disk_after protected (map supplied (a ++ b)) disk
    ≡ disk_after protected (map supplied b) (disk_after protected (map supplied a) disk)
unfolding disk_after
disk_after_append protected disk [] b = refl
disk_after_append protected disk (e ∷ es) b = disk_after_append protected (effect protected disk (supplied e).0 (supplied e).1).disk es b

pub answers_fold : (protected : Bool) (s : Machine) (disk : Disk) (ms : List Message)
    → (answers protected s disk ms).disk ≡ disk_after protected (map supplied (answers protected s disk ms).executed) disk
unfolding answers disk_after
answers_fold protected s disk [] = refl
answers_fold protected s disk (m ∷ ms) =
    let first : TargetStep = target_step protected s disk m in
    let later : TargetStep = answers protected first.machine first.disk ms in
    answers_fold protected first.machine first.disk ms ∙ ap (λ (d : Disk). disk_after protected (map supplied later.executed) d) (step_folds protected s disk m)
    ∙ sym (disk_after_append protected disk first.executed later.executed)

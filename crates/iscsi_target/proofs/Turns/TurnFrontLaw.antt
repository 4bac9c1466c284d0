-- Tasks in their turn, and the first of them.
use Rattle.std.proofs.Common.{◌≡◌, ◌∙◌, ℕ, zero, suc, List, [], ◌∷◌, ◌++◌, length, refl, sym, ap, subst, append_assoc}
use Rattle.std.specs.Prelude.{◌||◌}
use Rattle.std.proofs.lemmas.List.{append-nil}
use Rattle.scsi_disk.specs.Disk.{Disk}
use Rattle.iscsi_stream.specs.Stream.{Message}
use Rattle.iscsi_target_session.specs.Session.{Session}
use Rattle.iscsi_target.specs.declared.tasks.Task.{Task}
use Rattle.iscsi_target.specs.State.{Execution, TargetStep}
use Rattle.iscsi_target.specs.Execution.{Device, device_after}
use Rattle.iscsi_target.specs.Machine.{task_begun, stays, is_machine_closed, done_in_turn, done_first, then_stepped}
use Rattle.iscsi_target.specs.Laws.{BeginsAs}
use Rattle.iscsi_target_session.proofs.CaseLemmas.{by_cases}
use Rattle.iscsi_target.proofs.Steps.TurnLemmas.{neither, with_tasks, first_at, first_on}

nothing_more : (r q : TargetStep) → r ≡ q → BeginsAs r q
nothing_more r q e = record {
  answers = [];
  wrote = ap (λ (x : TargetStep). x.answers) (sym e) ∙ sym (append-nil r.answers);
  executed = [];
  did = ap (λ (x : TargetStep). x.executed) (sym e) ∙ sym (append-nil r.executed);
}

then_begins : (first a b : TargetStep) → BeginsAs a b → BeginsAs (then_stepped first a) (then_stepped first b)
then_begins first a b h = record {
  answers = h.answers;
  wrote = ap (λ (x : List Message). first.answers ++ x) h.wrote ∙ sym (append_assoc first.answers a.answers h.answers);
  executed = h.executed;
  did = ap (λ (x : List Execution). first.executed ++ x) h.did ∙ sym (append_assoc first.executed a.executed h.executed);
}

-- the first of them begin as all do
pub front : (k : ℕ) (d : Device) (s : Session) (disk : Disk) (tasks : List Task) → BeginsAs (done_first k d s disk tasks) (done_in_turn d s disk tasks)
unfolding done_first
front zero d s disk tasks = record {
  answers = (done_in_turn d s disk tasks).answers;
  wrote = refl;
  executed = (done_in_turn d s disk tasks).executed;
  did = refl;
}
front (suc k) d s disk [] = record { answers = []; wrote = refl; executed = []; did = refl }
front (suc k) d s disk (task ∷ more) =
    let r : TargetStep = task_begun d (with_tasks s more) disk task in
    by_cases (stays more r || is_machine_closed r.machine)
    (λ e. nothing_more (done_first (suc k) d s disk (task ∷ more)) (done_in_turn d s disk (task ∷ more))
    (first_at k d s disk task more e ∙ sym (first_at (length more) d s disk task more e)))
    (λ e.
    let both = neither (stays more r) (is_machine_closed r.machine) e in
    let a : TargetStep = done_first k (device_after r.executed d) r.machine.session r.disk more in
    let b : TargetStep = done_in_turn (device_after r.executed d) r.machine.session r.disk more in
    let both_is : BeginsAs (then_stepped r a) (then_stepped r b) =
    then_begins r a b (front k (device_after r.executed d) r.machine.session r.disk more) in
    subst (λ (x : TargetStep). BeginsAs x (done_in_turn d s disk (task ∷ more))) (sym (first_on k d s disk task more both.0 both.1))
    (subst (λ (x : TargetStep). BeginsAs (then_stepped r a) x) (sym (first_on (length more) d s disk task more both.0 both.1)) both_is))

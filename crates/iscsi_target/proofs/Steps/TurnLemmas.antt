-- What is shown of the first task holds of tasks in their turn.
use Rattle.std.proofs.Common.{◌≡◌, ◌⊎◌, inl, inr, ◌∙◌, ℕ, zero, suc, List, [], ◌∷◌, ◌++◌, length, Bool, true, false, Option, Some, None, refl, sym, ap, subst, arith, lt-ltb}
use Rattle.std.specs.Prelude.{◌||◌, nat_lt, if◌then◌else◌}
use Rattle.std.proofs.lemmas.List.{append-nil}
use Rattle.scsi_disk.specs.Disk.{Disk}
use Rattle.scsi_disk.specs.declared.order.Order.{Order}
use Rattle.iscsi_stream.proofs.ReadyLemmas.{apart}
use Rattle.iscsi_target_session.specs.Session.{Session}
use Rattle.iscsi_target.specs.Write.{Write}
use Rattle.iscsi_target.specs.declared.tasks.Task.{Task}
use Rattle.iscsi_target.specs.QueuedRequest.{QueuedRequest}
use Rattle.iscsi_target.specs.declared.tasks.Task.TheVariants.{Command, Data, Request}
use Rattle.iscsi_target.specs.State.{Machine, Execution, TargetStep, on, unchanged, waiting_tasks}
use Rattle.iscsi_target.specs.Transfer.{is_whole_write, is_nothing_due}
use Rattle.iscsi_target.specs.Execution.{Device, device_next, device_after, execute}
use Rattle.iscsi_target.specs.Command.{led_by, send_r2t, proceed}
use Rattle.iscsi_target_session.specs.Requests.{request_answered}
use Rattle.iscsi_target.specs.Machine.{task_begun, stays, is_machine_closed, first_rule, then_stepped, done_first, done_in_turn, ExecutionsRun}
use Rattle.iscsi_target_session.proofs.CaseLemmas.{by_cases}

-- B is shown of each kind of task that is the first.
pub record Begins (B : Device → Machine → Disk → Task → TargetStep → Type 0) : Type 0 where
  pub request_ : (device : Device) (s : Machine) (disk : Disk) (k : QueuedRequest)
      → B device s disk (Request k) (on disk s.tasks (request_answered s.session (waiting_tasks s.tasks) k.message k.request))
  pub command_ : (device : Device) (s : Machine) (disk : Disk) (tag : ℕ) (order : Order) → B device s disk (Command tag order)
      (execute device s disk tag order [])
  pub write_ : (device : Device) (s : Machine) (disk : Disk) (w : Write) → is_whole_write w ≡ true
      → B device s disk (Data w) (execute device s disk w.initiator_task_tag w.order w.pieces)
  pub send_r2t_ : (device : Device) (s : Machine) (disk : Disk) (w : Write) → is_whole_write w ≡ false → is_nothing_due w.due ≡ true →
      B device s disk (Data w) (send_r2t s disk w)
  pub wait_ : (device : Device) (s : Machine) (disk : Disk) (w : Write) → is_whole_write w ≡ false → is_nothing_due w.due ≡ false
      → B device s disk (Data w) (unchanged (led_by w s) disk)

proceed_begins : (B : Device → Machine → Disk → Task → TargetStep → Type 0) → Begins B → (device : Device) (s : Machine) (disk : Disk) (w : Write) →
    B device s disk (Data w) (proceed device s disk w)
proceed_begins B b device s disk w =
    by_cases (is_whole_write w) (λ h. rw h (b.write_ device s disk w h))
    (λ h. by_cases (is_nothing_due w.due) (λ g. rw (h, g) (b.send_r2t_ device s disk w h g)) (λ g. rw (h, g) (b.wait_ device s disk w h g)))

pub begins : (B : Device → Machine → Disk → Task → TargetStep → Type 0) → Begins B → (device : Device) (s : Machine) (disk : Disk) (task : Task) →
    B device s disk task (task_begun device s disk task)
begins B b device s disk (Command tag order) = b.command_ device s disk tag order
begins B b device s disk (Data w) = proceed_begins B b device s disk w
begins B b device s disk (Request k) = b.request_ device s disk k

-- the tasks behind one, and the first of them
abbrev pub with_tasks : Session → List Task → Machine
with_tasks s tasks = record { session = s; tasks = tasks }

-- a list with one more is longer
pub stays_on : {A : Type 0} (task : Task) (more : List Task) → nat_lt (length more) (length (task ∷ more)) ≡ false → A
stays_on task more e = absurd (apart (lt-ltb (length more) (length (task ∷ more)) (omega arith)) e)

-- T holds of no task, of one at which it stops, and of what follows one that is done.
pub record Turns (T : Device → Session → Disk → List Task → TargetStep → Type 0) : Type 0 where
  pub none_ : (device : Device) (s : Session) (disk : Disk) → T device s disk [] (unchanged (with_tasks s []) disk)
  pub stop_ : (device : Device) (s : Session) (disk : Disk) (task : Task) (more : List Task)
      → (let r : TargetStep = task_begun device (with_tasks s more) disk task in (stays more r ≡ true) ⊎ (is_machine_closed r.machine ≡ true))
      → T device s disk (task ∷ more) (task_begun device (with_tasks s more) disk task)
  pub then_ : (device : Device) (s : Session) (disk : Disk) (task : Task) (more : List Task) (b : TargetStep)
      → stays more (task_begun device (with_tasks s more) disk task) ≡ false
      → is_machine_closed (task_begun device (with_tasks s more) disk task).machine ≡ false
      → (let r : TargetStep = task_begun device (with_tasks s more) disk task in T (device_after r.executed device) r.machine.session r.disk more b)
      → T device s disk (task ∷ more) (then_stepped (task_begun device (with_tasks s more) disk task) b)

or_of : (a b : Bool) → (a || b) ≡ true → (a ≡ true) ⊎ (b ≡ true)
or_of true b e = inl refl
or_of false b e = inr e

pub neither : (a b : Bool) → (a || b) ≡ false → (a ≡ false) × (b ≡ false)
neither false b e = (refl, e)
neither true b e = absurd cc

-- The first task is all that is done where it stays or ends the session.
pub first_at : (k : ℕ) (d : Device) (s : Session) (disk : Disk) (task : Task) (more : List Task) →
    (stays more (task_begun d (with_tasks s more) disk task) || is_machine_closed (task_begun d (with_tasks s more) disk task).machine) ≡ true
    → done_first (suc k) d s disk (task ∷ more) ≡ task_begun d (with_tasks s more) disk task
unfolding done_first
first_at k d s disk task more e = rw e refl

-- Else those behind it follow.
pub first_on : (k : ℕ) (d : Device) (s : Session) (disk : Disk) (task : Task) (more : List Task) → stays more (task_begun d (with_tasks s more) disk task)
    ≡ false →
    is_machine_closed (task_begun d (with_tasks s more) disk task).machine ≡ false
    → (let r : TargetStep = task_begun d (with_tasks s more) disk task in done_first (suc k) d s disk (task ∷ more)
    ≡ then_stepped r (done_first k (device_after r.executed d) r.machine.session r.disk more))
unfolding done_first
first_on k d s disk task more stay live =
    let r : TargetStep = task_begun d (with_tasks s more) disk task in
    ap (λ (b : Bool). if b || is_machine_closed r.machine then r else then_stepped r (done_first k (device_after r.executed d) r.machine.session r.disk more))
    stay
    ∙ ap (λ (b : Bool). if b then r else then_stepped r (done_first k (device_after r.executed d) r.machine.session r.disk more)) live

pub turns : (T : Device → Session → Disk → List Task → TargetStep → Type 0) → Turns T → (device : Device) (s : Session) (disk : Disk) (tasks : List Task) →
    T device s disk tasks (done_in_turn device s disk tasks)
unfolding done_first
turns T t device s disk [] = t.none_ device s disk
turns T t device s disk (task ∷ more) =
    let r : TargetStep = task_begun device (with_tasks s more) disk task in
    by_cases (stays more r || is_machine_closed r.machine)
    (λ e. rw e (t.stop_ device s disk task more (or_of (stays more r) (is_machine_closed r.machine) e)))
    (λ e.
    let both = neither (stays more r) (is_machine_closed r.machine) e in
    rw e (t.then_ device s disk task more (done_in_turn (device_after r.executed device) r.machine.session r.disk more) both.0 both.1
    (turns T t (device_after r.executed device) r.machine.session r.disk more)))

-- ---- one task alone

rule_nothing : (rule : Option ℕ) → first_rule rule None ≡ rule
rule_nothing None = refl
rule_nothing (Some k) = refl

-- What is done before nothing is all.
pub then_nothing : (r : TargetStep) → then_stepped r (unchanged r.machine r.disk) ≡ r
then_nothing r = λ i. record {
  machine = r.machine;
  disk = r.disk;
  answers = append-nil r.answers i;
  rule = rule_nothing r.rule i;
  accepted = append-nil r.accepted i;
  executed = append-nil r.executed i;
}

none_left : (tasks : List Task) → nat_lt 0 (length tasks) ≡ false → tasks ≡ []
none_left [] e = refl
none_left (task ∷ more) e = absurd (apart (lt-ltb 0 (length (task ∷ more)) (omega arith)) e)

-- One task alone is what it does.
pub done_alone : (device : Device) (s : Session) (disk : Disk) (task : Task) → done_in_turn device s disk (task ∷ [])
    ≡ task_begun device (with_tasks s []) disk task
unfolding done_first
done_alone device s disk task =
    let r : TargetStep = task_begun device (with_tasks s []) disk task in
    by_cases (stays [] r || is_machine_closed r.machine) (λ e. first_at zero device s disk task [] e)
    (λ e.
    let both = neither (stays [] r) (is_machine_closed r.machine) e in
    first_on zero device s disk task [] both.0 both.1
    ∙ ap (λ (ts : List Task). then_stepped r (unchanged (with_tasks r.machine.session ts) r.disk)) (sym (none_left r.machine.tasks both.0))
    ∙ then_nothing r)

-- ---- a store

-- Orders in two parts run as at once.
pub runs_append : (protected : Bool) (device : Device) (before now after : ℕ) (a b : List Execution) → ExecutionsRun protected device before a now
    → ExecutionsRun protected (device_after a device) now b after →
    ExecutionsRun protected device before (a ++ b) after
runs_append protected device before now after [] b x y = subst (λ (n : ℕ). ExecutionsRun protected device n b after) x y
runs_append protected device before now after (e ∷ es) b x y = (x.0, x.1, runs_append protected (device_next device) x.0 now after es b x.2 y)

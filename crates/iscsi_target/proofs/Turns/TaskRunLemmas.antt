-- Tasks in their turn over a store, one after another.
use Rattle.std.proofs.Common.{◌≡◌, ◌≤◌, ◌⊎◌, inl, inr, ℕ, zero, suc, ◌+◌, List, [], ◌∷◌, ◌++◌, length, Bool, true, false, Option, Some, None, refl, sym, ap}
use Rattle.std.proofs.Common.{◌∙◌, subst, arith, append_assoc}
use Rattle.std.specs.Prelude.{◌==◌, ◌||◌, nat_lt, Result, Ok, Err}
use Rattle.std.proofs.lemmas.List.{append-nil}
use Rattle.scsi_disk.specs.Disk.{Disk}
use Rattle.iscsi_stream.proofs.ReadyLemmas.{apart}
use Rattle.iscsi_login.specs.Stage.{is_closed_phase}
use Rattle.iscsi_target_session.specs.Session.{Session}
use Rattle.iscsi_target.specs.Write.{Write}
use Rattle.iscsi_target.specs.declared.tasks.Task.{Task}
use Rattle.iscsi_target.specs.declared.tasks.Task.TheVariants.{Command, Data, Request}
use Rattle.iscsi_target.specs.State.{Machine, Execution, TargetStep, on, waiting_tasks, closed_machine}
use Rattle.iscsi_target.specs.Execution.{Device, reliable, device_next, device_after}
use Rattle.iscsi_target.specs.State.{joined_task}
use Rattle.iscsi_target.specs.Transfer.{joined_write}
use Rattle.iscsi_target.specs.Machine.{Next, Dropped, Answered, Queued, with_write, task_begun, is_machine_closed, stays, done_in_turn, done_first, then_stepped}
use Rattle.iscsi_target.specs.Machine.{first_rule, ExecutionsRun}
use Rattle.iscsi_target_session.specs.Requests.{request_answered}
use Rattle.iscsi_target.specs.State.{writes_joined}
use Rattle.iscsi_target.specs.Feed.{Store}
use Rattle.iscsi_target.specs.Advances.{store_of}
use Rattle.iscsi_target.specs.inner.Inside.{Moment, moment, MessageServed, GivesUpMessage, TaskPost, NextRanOut, TasksRanOut, TasksPost}
use Rattle.iscsi_stream.specs.Canonical.{canon}
use Rattle.iscsi_stream.proofs.WritingLemmas.{canon_append}
use Rattle.iscsi_target.specs.Laws.{joined_stepped}
use Rattle.iscsi_target.proofs.Answers.CommandLemmas.{proceeds_asking, proceeds_waiting}
use Rattle.iscsi_target.proofs.Queue.AcceptedOrderLaw.{begun_leads}
use Rattle.iscsi_target.proofs.Writes.JoiningLemmas.{ones, idem, size_same, done_same, first_same}
use Rattle.iscsi_target.proofs.Turns.DispatchLemmas.{session_of}
use Rattle.iscsi_target.proofs.Turns.ServingLemmas.{runs_as, serves_same, unchanged_serves}
use Rattle.iscsi_target.proofs.Steps.TurnLemmas.{done_alone, first_at, first_on, runs_append}
use Rattle.iscsi_target_session.proofs.CaseLemmas.{by_cases}
use Rattle.iscsi_target.proofs.Steps.TurnLemmas.{Begins, begins, with_tasks}
use Rattle.iscsi_target.proofs.Answers.ReplyLemmas.{request_answered_reply}

-- ---- what a task looks at

-- it is what the store does with its first order
begun_looks : (d : Device) (s : Machine) (disk : Disk) (task : Task) → task_begun d s disk task ≡ task_begun (λ n. d 0) s disk task
begun_looks d s disk (Command tag order) = refl
begun_looks d s disk (Data w) = refl
begun_looks d s disk (Request k) = refl

pub begun_first : (d e : Device) (s : Machine) (disk : Disk) (task : Task) → d 0 ≡ e 0 → task_begun d s disk task ≡ task_begun e s disk task
begun_first d e s disk task same = begun_looks d s disk task ∙ (λ i. task_begun (λ n. same i) s disk task) ∙ sym (begun_looks e s disk task)

-- ---- what a task executes

record Looks (s : Machine) (disk : Disk) (task : Task) (r : TargetStep) : Type 0 where
  few : (r.executed ≡ []) ⊎ ((e : Execution) × (r.executed ≡ e ∷ []))
  pure : r.executed ≡ [] → (d : Device) → task_begun d s disk task ≡ r
  rule : is_machine_closed r.machine ≡ false → r.rule ≡ None

no_rule : (rule : Option ℕ) (over : Bool) → ((k : ℕ) → rule ≡ Some k → over ≡ true) → over ≡ false → rule ≡ None
no_rule None over why live = refl
no_rule (Some k) over why live = absurd (apart (why k refl) live)

begins_look : Begins (λ device s disk task r. Looks s disk task r)
begins_look = record {
  request_ = λ device s disk k. record {
    few = inl refl;
    pure = λ e d. refl;
    rule = λ live. no_rule (request_answered s.session (waiting_tasks s.tasks) k.message k.request).rule
        (is_machine_closed (on disk s.tasks (request_answered s.session (waiting_tasks s.tasks) k.message k.request)).machine)
        (request_answered_reply s.session (waiting_tasks s.tasks) k.message k.request).rule live;
  };
  command_ = λ device s disk tag order. record { few = inr (_, refl); pure = λ e d. absurd cc; rule = λ live. refl };
  write_ = λ device s disk w whole. record { few = inr (_, refl); pure = λ e d. absurd cc; rule = λ live. refl };
  send_r2t_ = λ device s disk w whole idle. record { few = inl refl; pure = λ e d. proceeds_asking d s disk w whole idle; rule = λ live. refl };
  wait_ = λ device s disk w whole idle. record { few = inl refl; pure = λ e d. proceeds_waiting d s disk w whole idle; rule = λ live. refl };
}

looks : (device : Device) (s : Machine) (disk : Disk) (task : Task) → Looks s disk task (task_begun device s disk task)
looks device s disk task = begins (λ device s disk task r. Looks s disk task r) begins_look device s disk task

-- ---- one store and then another

-- its first order is the first one's, and then it is the second
abbrev then_device : Device → Device → Device
then_device d e zero = d 0
then_device d e (suc n) = e n

next_is : (d e : Device) → device_next (then_device d e) ≡ e
next_is d e = λ i n. then_device d e (one_more n i)
  where
    one_more : (n : ℕ) → n + 1 ≡ suc n
    one_more n = omega arith

-- a store that does the first task as the first, and the others as the second
pub record Joins (protected : Bool) (d e both : Device) (s : Machine) (disk : Disk) (task : Task) : Type 0 where
  pub first : task_begun both s disk task ≡ task_begun d s disk task
  pub later : device_after (task_begun d s disk task).executed both ≡ e
  pub runs : (before after : ℕ) → ExecutionsRun protected d before (task_begun d s disk task).executed after
      → ExecutionsRun protected both before (task_begun d s disk task).executed after
  pub works : d ≡ reliable protected → e ≡ reliable protected → both ≡ reliable protected

runs_none : (protected : Bool) (d e : Device) (before after : ℕ) (es : List Execution) → es ≡ [] → ExecutionsRun protected d before es after
    → ExecutionsRun protected e before es after
runs_none protected d e before after [] none h = h
runs_none protected d e before after (x ∷ es) none h = absurd cc

runs_one : (protected : Bool) (d e : Device) (before after : ℕ) (es : List Execution) (x : Execution) → es ≡ x ∷ [] → ExecutionsRun protected d before es after
    →
    ExecutionsRun protected (then_device d e) before es after
runs_one protected d e before after [] x one h = absurd cc
runs_one protected d e before after (y ∷ []) x one h = h
runs_one protected d e before after (y ∷ z ∷ es) x one h = absurd cc

both_reliable : (protected : Bool) (d e : Device) → d ≡ reliable protected → e ≡ reliable protected → then_device d e ≡ reliable protected
both_reliable protected d e p q = λ i n. at n i
  where
    at : (n : ℕ) → then_device d e n ≡ reliable protected n
    at zero = ap (λ (x : Device). x 0) p
    at (suc n) = ap (λ (x : Device). x n) q

pub joins : (protected : Bool) (d e : Device) (s : Machine) (disk : Disk) (task : Task) → (both : Device) × Joins protected d e both s disk task
joins protected d e s disk task =
    let l = looks d s disk task in
    elim l.few [
      | inl none ↦ (
        e,
        record {
          first = l.pure none e;
          later = ap (λ (es : List Execution). device_after es e) none;
          runs = λ before after h. runs_none protected d e before after (task_begun d s disk task).executed none h;
          works = λ p q. q;
        },
      )
      | inr one ↦ (
        then_device d e,
        record {
          first = begun_first (then_device d e) d s disk task refl;
          later = ap (λ (es : List Execution). device_after es (then_device d e)) one.1 ∙ next_is d e;
          runs = λ before after h. runs_one protected d e before after (task_begun d s disk task).executed one.0 one.1 h;
          works = both_reliable protected d e;
        },
      )
    ]

-- ---- one task after another

serves_by : (protected : Bool) (fb fa : ℕ) (f : Device → TargetStep) (d : Device) (x : TargetStep) (broken : Option ℕ) (new : Machine) (now : Disk)
    (before after : List ℕ) → f d ≡ x →
    fb ≤ fa → (fa ≡ fb → d ≡ reliable protected)
    → ExecutionsRun protected d fb x.executed fa → writes_joined new ≡ writes_joined x.machine → now ≡ x.disk → after ≡ before ++ canon x.answers → broken
    ≡ x.rule →
    MessageServed protected fb before f broken (moment new (store_of now fa) after)
serves_by protected fb fa f d x broken new now before after is rises works runs machine disk output rule = record {
  device = d;
  rises = rises;
  works = works;
  runs = subst (λ (r : TargetStep). ExecutionsRun protected d fb r.executed fa) (sym is) runs;
  machine = machine ∙ ap (λ (r : TargetStep). writes_joined r.machine) (sym is);
  disk_is = disk ∙ ap (λ (r : TargetStep). r.disk) (sym is);
  output = output ∙ ap (λ (r : TargetStep). before ++ canon r.answers) (sym is);
  rule_is = rule ∙ ap (λ (r : TargetStep). r.rule) (sym is);
}

-- the first task, which was taken from before the others, was done, and left a target that goes on
pub record Goes (protected : Bool) (old : Moment) (task : Task) (rule : Option ℕ) (new : Moment) : Type 0 where
  pub serves : MessageServed protected old.store.failures old.output (λ d. task_begun d old.machine old.store.disk task) rule new
  pub live : is_machine_closed new.machine ≡ false
  pub done : nat_lt (length old.machine.tasks) (length new.machine.tasks) ≡ false

-- the same of the definitions
record Leads (d : Device) (s : Session) (disk : Disk) (task : Task) (more : List Task) (mid : Machine) : Type 0 where
  live : is_machine_closed (task_begun d (with_tasks s more) disk task).machine ≡ false
  stay : stays more (task_begun d (with_tasks s more) disk task) ≡ false
  tasks : (task_begun d (with_tasks s more) disk task).machine.tasks ≡ more
  session : mid.session ≡ (task_begun d (with_tasks s more) disk task).machine.session
  ones_ : ones mid.tasks ≡ ones more

leads : (protected : Bool) (fb : ℕ) (here : Moment) (s : Session) (disk : Disk) (task : Task) (more : List Task) (rule : Option ℕ)
    (before : List ℕ) →
    (g : Goes protected (moment (with_tasks s more) (store_of disk fb) before) task rule here)
    → Leads g.serves.device s disk task more here.machine
leads protected fb here s disk task more rule before g =
    let h = g.serves in
    let r : TargetStep = task_begun h.device (with_tasks s more) disk task in
    let session : here.machine.session ≡ r.machine.session = ap (λ (x : Machine). x.session) h.machine in
    let same : ones here.machine.tasks ≡ ones r.machine.tasks = ap (λ (x : Machine). x.tasks) h.machine in
    let live : is_machine_closed r.machine ≡ false = ap (λ (x : Session). is_closed_phase x.phase) (sym session) ∙ g.live in
    let stay : stays more r ≡ false = ap (λ (n : ℕ). nat_lt (length more) n) (sym (size_same here.machine.tasks r.machine.tasks same)) ∙ g.done in
    let tasks : r.machine.tasks ≡ more = (begun_leads h.device s disk task more).behind live stay in
    record { live = live; stay = stay; tasks = tasks; session = session; ones_ = same ∙ ap ones tasks }

-- and the others are left
pub left_behind : (protected : Bool) (old : Moment) (task : Task) (rule : Option ℕ) (new : Moment) → Goes protected old task rule new
    → ones new.machine.tasks ≡ ones old.machine.tasks
left_behind protected old task rule new g =
    (leads protected old.store.failures (moment new.machine new.store new.output) old.machine.session old.store.disk task old.machine.tasks rule old.output
    g).ones_

pub then_serves : (protected : Bool) (from : Store) (here to : Moment) (s : Session) (task : Task) (more : List Task) (rule : Option ℕ)
    (before : List ℕ) (broken : Option ℕ)
    → Goes protected (moment (with_tasks s more) from before) task rule here
    → MessageServed protected here.store.failures here.output (λ d. done_in_turn d here.machine.session here.store.disk here.machine.tasks) broken to
    → MessageServed protected from.failures before (λ d. done_in_turn d s from.disk (task ∷ more)) broken to
then_serves protected from here to s task more rule before broken g e =
    let h = g.serves in
    let l = leads protected from.failures here s from.disk task more rule before g in
    let r : TargetStep = task_begun h.device (with_tasks s more) from.disk task in
    let j = joins protected h.device e.device (with_tasks s more) from.disk task in
    let q : TargetStep = done_in_turn e.device here.machine.session here.store.disk more in
    let same : joined_stepped (done_in_turn e.device here.machine.session here.store.disk here.machine.tasks)
    ≡ joined_stepped q = (done_same e.device here.machine.session here.store.disk here.machine.tasks more l.ones_).is in
    let ses : r.machine.session ≡ here.machine.session = sym l.session in
    let dsk : r.disk ≡ here.store.disk = sym h.disk_is in
    let is : done_in_turn j.0 s from.disk (task ∷ more) ≡ then_stepped r q =
    first_on (length more) j.0 s from.disk task more (ap (stays more) j.1.first ∙ l.stay)
    (ap (λ (x : TargetStep). is_machine_closed x.machine) j.1.first ∙ l.live)
    ∙ ap (λ (x : TargetStep). then_stepped x (done_in_turn (device_after x.executed j.0) x.machine.session x.disk more)) j.1.first
    ∙ (λ i. then_stepped r (done_in_turn (j.1.later i) (ses i) (dsk i) more)) in
    serves_by protected from.failures to.store.failures (λ d. done_in_turn d s from.disk (task ∷ more)) j.0 (then_stepped r q) broken to.machine
    to.store.disk before to.output is (omega (arith, h.rises, e.rises))
    (λ x. j.1.works (h.works (omega (arith, x, h.rises, e.rises))) (e.works (omega (arith, x, h.rises, e.rises))))
    (runs_append protected j.0 from.failures here.store.failures to.store.failures r.executed q.executed (j.1.runs from.failures here.store.failures h.runs)
    (subst (λ (d : Device). ExecutionsRun protected d here.store.failures q.executed to.store.failures) (sym j.1.later)
    (runs_as protected e.device here.store.failures to.store.failures (done_in_turn e.device here.machine.session here.store.disk here.machine.tasks) q same
    e.runs)))
    (e.machine ∙ ap (λ (x : TargetStep). x.machine) same)
    (e.disk_is ∙ ap (λ (x : TargetStep). x.disk) same)
    (e.output ∙ ap (λ (x : TargetStep). here.output ++ canon x.answers) same ∙ ap (λ (x : List ℕ). x ++ canon q.answers) h.output
    ∙ append_assoc before (canon r.answers) (canon q.answers)
    ∙ ap (λ (x : List ℕ). before ++ x) (sym (canon_append r.answers q.answers)))
    (e.rule_is ∙ ap (λ (x : TargetStep). x.rule) same ∙ ap (λ (x : Option ℕ). first_rule x q.rule)
    (sym ((looks h.device (with_tasks s more) from.disk task).rule l.live)))

-- the first task was done, and memory ran out behind it
pub then_stops : (protected : Bool) (from : Store) (here to : Moment) (s : Session) (task : Task) (more : List Task) (rule : Option ℕ)
    (before : List ℕ)
    → Goes protected (moment (with_tasks s more) from before) task rule here
    → TasksRanOut protected here to →
    TasksRanOut protected (moment (with_tasks s (task ∷ more)) from before) to
then_stops protected from here to s task more rule before g e =
    let h = g.serves in
    let l = leads protected from.failures here s from.disk task more rule before g in
    let r : TargetStep = task_begun h.device (with_tasks s more) from.disk task in
    let j = joins protected h.device e.device (with_tasks s more) from.disk task in
    let q : TargetStep = done_first e.done e.device here.machine.session here.store.disk more in
    let same : joined_stepped (done_first e.done e.device here.machine.session here.store.disk here.machine.tasks)
    ≡ joined_stepped q = (first_same e.done e.device here.machine.session here.store.disk here.machine.tasks more l.ones_).is in
    let ses : r.machine.session ≡ here.machine.session = sym l.session in
    let dsk : r.disk ≡ here.store.disk = sym h.disk_is in
    let is : done_first (suc e.done) j.0 s from.disk (task ∷ more) ≡ then_stepped r q =
    first_on e.done j.0 s from.disk task more (ap (stays more) j.1.first ∙ l.stay) (ap (λ (x : TargetStep). is_machine_closed x.machine) j.1.first ∙ l.live)
    ∙ ap (λ (x : TargetStep). then_stepped x (done_first e.done (device_after x.executed j.0) x.machine.session x.disk more)) j.1.first
    ∙ (λ i. then_stepped r (done_first e.done (j.1.later i) (ses i) (dsk i) more)) in
    let runs : ExecutionsRun protected j.0 from.failures (then_stepped r q).executed e.failures =
    runs_append protected j.0 from.failures here.store.failures e.failures r.executed q.executed (j.1.runs from.failures here.store.failures h.runs)
    (subst (λ (d : Device). ExecutionsRun protected d here.store.failures q.executed e.failures) (sym j.1.later)
    (runs_as protected e.device here.store.failures e.failures
    (done_first e.done e.device here.machine.session here.store.disk here.machine.tasks) q same e.runs)) in
    record {
      done = suc e.done;
      device = j.0;
      live = λ _. ap (λ (x : TargetStep). is_machine_closed x.machine) is
          ∙ ap (λ (x : TargetStep). is_machine_closed x.machine) (sym same) ∙ e.live g.live;
      failures = e.failures;
      runs = subst (λ (x : TargetStep). ExecutionsRun protected j.0 from.failures x.executed e.failures) (sym is) runs;
      rises = e.rises;
      machine = e.machine ∙ ap (λ (x : TargetStep). closed_machine x.machine) same ∙ ap (λ (x : TargetStep). closed_machine x.machine) (sym is);
      disk_is = e.disk_is ∙ ap (λ (x : TargetStep). x.disk) same ∙ ap (λ (x : TargetStep). x.disk) (sym is);
      output = e.output ∙ ap (λ (x : TargetStep). here.output ++ canon x.answers) same ∙ ap (λ (x : List ℕ). x ++ canon q.answers) h.output
          ∙ append_assoc before (canon r.answers) (canon q.answers)
          ∙ ap (λ (x : List ℕ). before ++ x) (sym (canon_append r.answers q.answers)) ∙ ap (λ (x : TargetStep). before ++ canon x.answers) (sym is);
    }

-- memory ran out at the first task
pub first_stops : (protected : Bool) (fb fa : ℕ) (s : Session) (disk : Disk) (tasks more : List Task) (new : Machine) (now : Disk) (before after : List ℕ) →
    GivesUpMessage (moment (with_tasks s more) (store_of disk fb) before) (moment new (store_of now fa) after)
    → TasksRanOut protected (moment (with_tasks s tasks) (store_of disk fb) before) (moment new (store_of now fa) after)
unfolding done_first
first_stops protected fb fa s disk tasks more new now before after h = record {
  done = 0;
  device = reliable protected;
  live = λ e. e;
  failures = fb;
  runs = refl;
  rises = h.rises;
  machine = h.machine;
  disk_is = h.disk_is;
  output = h.unwritten ∙ sym (append-nil before);
}

pub stop_serves : (protected : Bool) (fb fa : ℕ) (s : Session) (disk : Disk) (task : Task) (more : List Task) (rule : Option ℕ) (new : Machine) (now : Disk)
    (before after : List ℕ)
    → MessageServed protected fb before (λ d. task_begun d (with_tasks s more) disk task) rule (moment new (store_of now fa) after)
    → (nat_lt (length more) (length new.tasks) || is_machine_closed new) ≡ true
    → MessageServed protected fb before (λ d. done_in_turn d s disk (task ∷ more)) rule (moment new (store_of now fa) after)
stop_serves protected fb fa s disk task more rule new now before after h e =
    let r : TargetStep = task_begun h.device (with_tasks s more) disk task in
    let session : new.session ≡ r.machine.session = ap (λ (x : Machine). x.session) h.machine in
    let size : length new.tasks ≡ length r.machine.tasks = size_same new.tasks r.machine.tasks (ap (λ (x : Machine). x.tasks) h.machine) in
    let size_back = sym size in
    let session_back = sym session in
    let stop : (stays more r || is_machine_closed r.machine) ≡ true = (λ i. nat_lt (length more) (size_back i) || is_closed_phase (session_back i).phase) ∙ e in
    serves_by protected fb fa (λ d. done_in_turn d s disk (task ∷ more)) h.device r rule new now before after
    (first_at (length more) h.device s disk task more stop) h.rises h.works
    h.runs h.machine h.disk_is h.output h.rule_is

-- there is no task
pub none_serves : (protected : Bool) (n : ℕ) (s : Session) (disk : Disk) (new : Machine) (out : List ℕ) → new ≡ with_tasks s [] →
    MessageServed protected n out (λ d. done_in_turn d s disk []) None (moment new (store_of disk n) out)
unfolding done_first
none_serves protected n s disk new out e = unchanged_serves protected n (with_tasks s []) (λ d. done_in_turn d s disk []) disk new out (λ d. refl) e

-- ---- all of them

-- what is left to do is what was to be done
pub record GoesOn (protected : Bool) (E : Type 0) (old now : Moment) : Type 0 where
  pub works : (result : Result (Option ℕ) E) (new : Moment) → TasksPost protected result now new → TasksPost protected result old new

pub goes_start : {E : Type 0} (protected : Bool) (old : Moment) → GoesOn protected E old old
goes_start protected old = record { works = λ result new h. h }

-- with its tasks so
abbrev pub at_tasks : Moment → Session → List Task → Moment
at_tasks at session tasks = moment (with_tasks session tasks) at.store at.output

works_then : {E : Type 0} (protected : Bool) (result : Result (Option ℕ) E) (session : Session) (task : Task) (behind : List Task) (rule : Option ℕ)
    (old next new : Moment)
    → Goes protected (at_tasks old session behind) task rule next → TasksPost protected result next new
    → TasksPost protected result (at_tasks old session (task ∷ behind)) new
works_then protected (Ok broken) session task behind rule old next new g h = record {
  ok = then_serves protected old.store (moment next.machine next.store next.output) (moment new.machine new.store new.output) session task behind rule
      old.output broken g h.ok;
  err = tt;
}
works_then protected (Err e) session task behind rule old next new g h = record {
  ok = tt;
  err = then_stops protected old.store (moment next.machine next.store next.output) (moment new.machine new.store new.output) session task behind rule
      old.output g h.err;
}

pub either : (a b : Bool) → b ≡ true → (a || b) ≡ true
either true b e = refl
either false b e = e

-- what is left to do, with the tasks written out
goes_as : {E : Type 0} (protected : Bool) (result : Result (Option ℕ) E) (old now new : Moment) (session : Session) (tasks : List Task)
    → GoesOn protected E old now →
    now.machine ≡ with_tasks session tasks → TasksPost protected result (at_tasks now session tasks) new → TasksPost protected result old new
goes_as protected result old now new session tasks g is h =
    g.works result new (subst (λ (m : Machine). TasksPost protected result (moment m now.store now.output) new) (sym is) h)

-- the first task was done
pub goes_then : {E : Type 0} (protected : Bool) (old now next : Moment) (session : Session) (task : Task) (behind : List Task) (rule : Option ℕ)
    → GoesOn protected E old now →
    now.machine ≡ with_tasks session (task ∷ behind) → Goes protected (at_tasks now session behind) task rule next → GoesOn protected E old next
goes_then protected old now next session task behind rule g is step =
    record {
      works = λ result new h. goes_as protected result old now new session (task ∷ behind) g is
          (works_then protected result session task behind rule now next new step h);
    }

-- the first task ended the session, or stays
pub goes_stop : (protected : Bool) (E : Type 0) (old now new : Moment) (session : Session) (task : Task) (behind : List Task) (rule : Option ℕ)
    → GoesOn protected E old now →
    now.machine ≡ with_tasks session (task ∷ behind)
    → MessageServed protected now.store.failures now.output (λ d. task_begun d (with_tasks session behind) now.store.disk task) rule new
    → (nat_lt (length behind) (length new.machine.tasks) || is_machine_closed new.machine) ≡ true → TasksPost {E = E} protected (Ok rule) old new
goes_stop protected E old now new session task behind rule g is h stop =
    goes_as protected (Ok rule) old now new session (task ∷ behind) g is (record {
      ok = stop_serves protected now.store.failures new.store.failures session now.store.disk task behind rule new.machine new.store.disk
          now.output new.output h stop;
      err = tt;
    })

-- memory ran out at the first task
pub goes_short : {E : Type 0} (protected : Bool) (e : E) (old now new : Moment) (session : Session) (task : Task) (behind : List Task)
    → GoesOn protected E old now →
    now.machine ≡ with_tasks session (task ∷ behind) → GivesUpMessage (at_tasks now session behind) new → TasksPost protected (Err e) old new
goes_short protected e old now new session task behind g is h =
    goes_as protected (Err e) old now new session (task ∷ behind) g is (record {
      ok = tt;
      err = first_stops protected now.store.failures new.store.failures session now.store.disk (task ∷ behind) behind new.machine new.store.disk
          now.output new.output h;
    })

-- no task is left
pub goes_end : (protected : Bool) (E : Type 0) (old now : Moment) (session : Session) → GoesOn protected E old now → now.machine ≡ with_tasks session [] →
    TasksPost {E = E} protected (Ok None) old (at_tasks now session [])
goes_end protected E old now session g none =
    goes_as protected (Ok None) old now (at_tasks now session []) session [] g none
    (record { ok = none_serves protected now.store.failures session now.store.disk (with_tasks session []) now.output refl; err = tt })

-- ---- a request that is the only task

alone_handles : {E : Type 0} (protected : Bool) (result : Result (Option ℕ) E) (session : Session) (task : Task) (before : Store) (output : List ℕ)
    (new : Machine) (after : Store)
    (written : List ℕ) →
    TaskPost protected (λ d. task_begun d (with_tasks session []) before.disk task) result (moment (with_tasks session []) before output)
    (moment new after written)
    → TasksPost protected result (moment (with_tasks session (task ∷ [])) before output) (moment new after written)
alone_handles protected (Ok rule) session task before output new after written h = record {
  ok = serves_same protected before.failures after.failures (λ d. done_in_turn d session before.disk (task ∷ []))
      (λ d. task_begun d (with_tasks session []) before.disk task) rule new after.disk output written
      (λ d. ap joined_stepped (sym (done_alone d session before.disk task)))
      h.ok;
  err = tt;
}
alone_handles protected (Err e) session task before output new after written h = record {
  ok = tt;
  err = first_stops protected before.failures after.failures session before.disk (task ∷ []) [] new after.disk output written h.err;
}

pub alone_works : {E : Type 0} (protected : Bool) (result : Result (Option ℕ) E) (s : Machine) (task : Task) (before : Store) (output : List ℕ)
    (new : Machine) (after : Store)
    (written : List ℕ)
    → s.tasks ≡ [] →
    TaskPost protected (λ d. task_begun d s before.disk task) result (moment s before output) (moment new after written)
    → TasksPost protected result (moment (with_tasks s.session (s.tasks ++ task ∷ [])) before output) (moment new after written)
alone_works protected result s task before output new after written none h =
    let is : s ≡ with_tasks s.session [] = ap (with_tasks s.session) none in
    subst (λ (ts : List Task). TasksPost protected result (moment (with_tasks s.session (ts ++ task ∷ [])) before output)
    (moment new after written)) (sym none)
    (alone_handles protected result s.session task before output new after written (subst
    (λ (x : Machine). TaskPost protected (λ d. task_begun d x before.disk task) result (moment x before output) (moment new after written)) is h))

-- memory ran out before a request was kept as a task
pub short_works : {E : Type 0} (protected : Bool) (e : E) (s : Machine) (tasks : List Task) (before : Store) (output : List ℕ) →
    TasksPost protected (Err e) (moment (with_tasks s.session tasks) before output) (moment s before output)
short_works protected e s tasks before output = record {
  ok = tt;
  err = first_stops protected before.failures before.failures s.session before.disk tasks s.tasks s before.disk output output
      (record { machine = refl; rises = omega arith; disk_is = refl; unwritten = refl });
}

-- memory ran out, whatever comes of the PDU
pub short_halts : (protected : Bool) (n : ℕ) (s new : Machine) (disk : Disk) (out : List ℕ) (next : Next) → session_of s next ≡ s.session
    → closed_machine new ≡ closed_machine s →
    NextRanOut protected next (moment s (store_of disk n) out) (moment new (store_of disk n) out)
short_halts protected n s new disk out Dropped same e = record { machine = e; rises = omega arith; disk_is = refl; unwritten = refl }
short_halts protected n s new disk out (Answered r) same e = record { machine = e; rises = omega arith; disk_is = refl; unwritten = refl }
short_halts protected n s new disk out (Queued session tasks) same e =
    first_stops protected n n session disk tasks s.tasks new disk out out (record {
      machine = e ∙ ap (λ (x : Session). closed_machine (with_tasks x s.tasks)) (sym same);
      rises = omega arith;
      disk_is = refl;
      unwritten = refl;
    })

-- where a piece of a write ended makes no difference
pub works_same : {E : Type 0} (protected : Bool) (result : Result (Option ℕ) E) (session : Session) (ts us : List Task) (before : Store)
    (output : List ℕ) (new : Machine)
    (after : Store) (written : List ℕ) → ones ts ≡ ones us → TasksPost protected result (moment (with_tasks session ts) before output)
    (moment new after written)
    → TasksPost protected result (moment (with_tasks session us) before output) (moment new after written)
works_same protected (Ok rule) session ts us before output new after written e h = record {
  ok = serves_same protected before.failures after.failures (λ d. done_in_turn d session before.disk us)
      (λ d. done_in_turn d session before.disk ts) rule new after.disk output written (λ d. (done_same d session before.disk ts us e).is) h.ok;
  err = tt;
}
works_same protected (Err x) session ts us before output new after written e h =
    let q = h.err in
    let same : joined_stepped (done_first q.done q.device session before.disk ts)
    ≡ joined_stepped (done_first q.done q.device session before.disk us) = (first_same q.done q.device session before.disk ts us e).is in
    record {
      ok = tt;
      err = record {
        done = q.done;
        device = q.device;
        live = λ e. ap (λ (y : TargetStep). is_machine_closed y.machine) (sym same) ∙ q.live e;
        failures = q.failures;
        runs = runs_as protected q.device before.failures q.failures (done_first q.done q.device session before.disk ts)
            (done_first q.done q.device session before.disk us) same q.runs;
        rises = q.rises;
        machine = q.machine ∙ ap (λ (y : TargetStep). closed_machine y.machine) same;
        disk_is = q.disk_is ∙ ap (λ (y : TargetStep). y.disk) same;
        output = q.output ∙ ap (λ (y : TargetStep). output ++ canon y.answers) same;
      };
    }

-- a write in its place, and the same with its pieces joined
pub ones_written : (v : Write) (tasks : List Task) → ones (with_write (joined_write v) tasks) ≡ ones (with_write v tasks)
ones_written v [] = refl
ones_written v (Command t o ∷ more) = ap (λ (ts : List Task). Command t o ∷ ts) (ones_written v more)
ones_written v (Request k ∷ more) = ap (λ (ts : List Task). Request k ∷ ts) (ones_written v more)
ones_written v (Data w ∷ more) =
    by_cases (w.initiator_task_tag == v.initiator_task_tag) (λ h. rw h (ap (λ (x : Write). Data x ∷ ones more) (idem v)))
    (λ h. rw h (ap (λ (ts : List Task). joined_task (Data w) ∷ ts) (ones_written v more)))

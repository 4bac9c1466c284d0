-- What the parts of a session do with a store.
use Rattle.std.proofs.Common.{Bool, ◌≡◌, ◌≤◌, inl, inr, ◌∙◌, ℕ, List, [], ◌∷◌, ◌++◌, map, Option, None, refl, sym, ap, subst, arith}
use Rattle.std.specs.Prelude.{Result, Ok, Err, IfOk, OnErr}
use Rattle.std.proofs.lemmas.Bool.{cases_lt}
use Rattle.std.proofs.lemmas.List.{append-nil}
use Rattle.scsi_disk.specs.Disk.{Disk}
use Rattle.scsi_disk.specs.Effect.{Effect, OrderExecuted, effect}
use Rattle.scsi_disk.specs.declared.order.Order.{Order}
use Rattle.iscsi_stream.specs.Stream.{Message}
use Rattle.iscsi_stream.specs.Canonical.{canon}
use Rattle.iscsi_target_session.specs.Session.{Session, Reply, stat_sn_advanced}
use Rattle.iscsi_target.specs.State.{Machine, TargetStep, Execution, on, unchanged, waiting_tasks, unit_of}
use Rattle.iscsi_stream.specs.Pieces.{Pieces, piece_data}
use Rattle.iscsi_target.specs.State.{writes_joined}
use Rattle.iscsi_target.specs.Execution.{Device, reliable, device_next, execute, command_answers, data_in_parts, as_told}
use Rattle.iscsi_target.specs.Machine.{Next, Dropped, Answered, Queued, next_step, ExecutionsRun, having_accepted}
use Rattle.iscsi_target.specs.Laws.{joined_execution, joined_stepped}
use Rattle.iscsi_target.specs.Feed.{Store}
use Rattle.iscsi_target.specs.declared.tasks.Task.{Task}
use Rattle.iscsi_target.specs.Advances.{store_of}
use Rattle.iscsi_target.specs.inner.Inside.{Moment, moment, MessageServed, DisklessPost, TaskPost, TasksPost, NextPost, NextRanOut}
use Rattle.iscsi_target.proofs.Writes.OpenWriteLemmas.{data_of_one}
use Rattle.iscsi_target.proofs.Steps.TurnLemmas.{with_tasks}
use Rattle.iscsi_target_session.proofs.CaseLemmas.{by_ok}

-- ---- what leaves the disk

pub leaves_serves : (protected : Bool) (n : ℕ) (r : TargetStep) (f : Device → TargetStep) (disk : Disk) (broken : Option ℕ) (new : Machine)
    (before after : List ℕ)
    → ((d : Device) → f d ≡ r) → r.executed ≡ [] → r.disk ≡ disk → new ≡ r.machine → after ≡ before ++ canon r.answers → broken ≡ r.rule →
    MessageServed protected n before f broken (moment new (store_of disk n) after)
leaves_serves protected n r f disk broken new before after is none same is_new is_after is_rule = record {
  device = reliable protected;
  rises = omega arith;
  works = λ _. refl;
  runs = subst (λ (xs : List Execution). ExecutionsRun protected (reliable protected) n xs n)
      (sym (ap (λ (x : TargetStep). x.executed) (is (reliable protected)) ∙ none)) refl;
  machine = ap writes_joined is_new ∙ ap (λ (x : TargetStep). writes_joined x.machine) (sym (is (reliable protected)));
  disk_is = sym same ∙ ap (λ (x : TargetStep). x.disk) (sym (is (reliable protected)));
  output = is_after ∙ ap (λ (x : TargetStep). before ++ canon x.answers) (sym (is (reliable protected)));
  rule_is = is_rule ∙ ap (λ (x : TargetStep). x.rule) (sym (is (reliable protected)));
}

-- what was done with a message that leaves the disk, over any store
pub leaves_handles : {E : Type 0} (protected : Bool) (result : Result (Option ℕ) E) (n : ℕ) (r : TargetStep) (f : Device → TargetStep)
    (disk : Disk) (old new : Machine)
    (before after : List ℕ)
    → ((d : Device) → f d ≡ r) → r.executed ≡ [] → r.disk ≡ disk → DisklessPost r result old new before after →
    TaskPost protected f result (moment old (store_of disk n) before) (moment new (store_of disk n) after)
leaves_handles protected (Ok rule) n r f disk old new before after is none same h = record {
  ok =
      leaves_serves protected n r f disk rule new before after is none same h.machine h.output h.rule_is;
  err = tt;
}
leaves_handles protected (Err e) n r f disk old new before after is none same h = record {
  ok = tt;
  err = record { machine = h.err; rises = omega arith; disk_is = refl; unwritten = h.unwritten };
}

-- a message that changes nothing, over any store
pub unchanged_serves : (protected : Bool) (n : ℕ) (s : Machine) (f : Device → TargetStep) (disk : Disk) (new : Machine) (out : List ℕ)
    → ((d : Device) → f d ≡ unchanged s disk) → new
    ≡ s → MessageServed protected n out f None (moment new (store_of disk n) out)
unchanged_serves protected n s f disk new out is e = leaves_serves protected n (unchanged s disk) f disk None new out out is refl refl e
    (sym (append-nil out)) refl

-- ---- the same step

runs_joined : (protected : Bool) (d : Device) (before : ℕ) (xs : List Execution) (after : ℕ) → ExecutionsRun protected d before xs after
    → ExecutionsRun protected d before (map joined_execution xs) after
runs_joined protected d before [] after h = h
runs_joined protected d before (x ∷ xs) after h = (
  h.0,
  subst (λ (bytes : List ℕ). OrderExecuted protected before h.0 x.disk x.order bytes (d 0 x.disk x.order bytes)) (sym (data_of_one (piece_data x.pieces))) h.1,
  runs_joined protected (device_next d) h.0 xs after h.2,
)

runs_apart : (protected : Bool) (d : Device) (before : ℕ) (xs : List Execution) (after : ℕ) → ExecutionsRun protected d before (map joined_execution xs) after
    → ExecutionsRun protected d before xs after
runs_apart protected d before [] after h = h
runs_apart protected d before (x ∷ xs) after h = (
  h.0,
  subst (λ (bytes : List ℕ). OrderExecuted protected before h.0 x.disk x.order bytes (d 0 x.disk x.order bytes)) (data_of_one (piece_data x.pieces)) h.1,
  runs_apart protected (device_next d) h.0 xs after h.2,
)

-- where a piece ended makes no difference to what a store did
pub runs_as : (protected : Bool) (d : Device) (before after : ℕ) (a b : TargetStep) → joined_stepped a ≡ joined_stepped b
    → ExecutionsRun protected d before a.executed after →
    ExecutionsRun protected d before b.executed after
runs_as protected d before after a b e h =
    runs_apart protected d before b.executed after (subst (λ (x : TargetStep). ExecutionsRun protected d before x.executed after) e
    (runs_joined protected d before a.executed after h))

-- the count of failures never falls
pub runs_rise : (protected : Bool) (d : Device) (before : ℕ) (xs : List Execution) (after : ℕ) → ExecutionsRun protected d before xs after → before ≤ after
runs_rise protected d before [] after h = omega (arith, h)
runs_rise protected d before (x ∷ xs) after h = let a = h.1.rises in let b = runs_rise protected (device_next d) h.0 xs after h.2 in omega (arith, a, b)

pub serves_same : (protected : Bool) (fb fa : ℕ) (f g : Device → TargetStep) (broken : Option ℕ) (new : Machine) (now : Disk) (before after : List ℕ)
    → ((d : Device) → joined_stepped (g d) ≡ joined_stepped (f d)) → MessageServed protected fb before g broken (moment new (store_of now fa) after)
    → MessageServed protected fb before f broken (moment new (store_of now fa) after)
serves_same protected fb fa f g broken new now before after is h =
    let q : joined_stepped (g h.device) ≡ joined_stepped (f h.device) = is h.device in
    record {
      device = h.device;
      rises = h.rises;
      works = h.works;
      runs = runs_as protected h.device fb fa (g h.device) (f h.device) q h.runs;
      machine = h.machine ∙ ap (λ (x : TargetStep). x.machine) q;
      disk_is = h.disk_is ∙ ap (λ (x : TargetStep). x.disk) q;
      output = h.output ∙ ap (λ (x : TargetStep). before ++ canon x.answers) q;
      rule_is = h.rule_is ∙ ap (λ (x : TargetStep). x.rule) q;
    }

pub serves_if : {E : Type 0} (protected : Bool) (result : Result (Option ℕ) E) (fb fa : ℕ) (f g : Device → TargetStep) (new : Machine) (now : Disk)
    (before after : List ℕ)
    → ((d : Device) → g d ≡ f d) → IfOk result (λ b. MessageServed protected fb before g b (moment new (store_of now fa) after))
    → IfOk result (λ b. MessageServed protected fb before f b (moment new (store_of now fa) after))
serves_if protected result fb fa f g new now before after is h =
    by_ok (λ b. MessageServed protected fb before g b (moment new (store_of now fa) after))
    (λ b. MessageServed protected fb before f b (moment new (store_of now fa) after)) result
    (λ b. serves_same protected fb fa f g b new now before after (λ d. ap joined_stepped (is d))) h

pub accepts_by : (protected : Bool) (fb fa : ℕ) (ms : List Message) (g : Device → TargetStep) (broken : Option ℕ) (new : Machine) (now : Disk)
    (before after : List ℕ)
    → MessageServed protected fb before g broken (moment new (store_of now fa) after)
    → MessageServed protected fb before (λ d. having_accepted ms (g d)) broken (moment new (store_of now fa) after)
accepts_by protected fb fa ms g broken new now before after h = record {
  device = h.device;
  rises = h.rises;
  works = h.works;
  runs = h.runs;
  machine = h.machine;
  disk_is = h.disk_is;
  output = h.output;
  rule_is = h.rule_is;
}

-- ---- an order

pub order_serves : (protected : Bool) (fb : ℕ) (to : Moment) (tag : ℕ) (s : Machine) (disk : Disk) (order : Order) (pieces : Pieces) (e : Effect)
    (before : List ℕ)
    → OrderExecuted protected fb to.store.failures disk order (piece_data pieces) e → to.machine ≡ record s { session = stat_sn_advanced s.session } →
    to.store.disk ≡ e.disk
    → (let told : Effect = as_told (unit_of s.session) disk.count order e in
    to.output ≡ before ++ canon (command_answers s.session (waiting_tasks s.tasks) tag told.outcome (data_in_parts s.session told.outcome.bytes)))
    → MessageServed protected fb before (λ d. execute d s disk tag order pieces) None to
order_serves protected fb to tag s disk order pieces e before x is_new is_now is_after =
    elim (cases_lt fb to.store.failures) [
      | inl lt ↦ record {
        device = λ _ _ _ _. e;
        rises = x.rises;
        works = λ same. absurd (omega (arith, same, lt));
        runs = (to.store.failures, x, refl);
        machine = ap writes_joined is_new;
        disk_is = is_now;
        output = is_after;
        rule_is = refl;
      }
      | inr ge ↦
          let same : e ≡ effect protected disk order (piece_data pieces) = x.works (omega (arith, ge, x.rises)) in
          record {
            device = reliable protected;
            rises = x.rises;
            works = λ _. refl;
            runs = (to.store.failures, subst (λ (y : Effect). OrderExecuted protected fb to.store.failures disk order (piece_data pieces) y) same x, refl);
            machine = ap writes_joined is_new;
            disk_is = is_now ∙ ap (λ (y : Effect). y.disk) same;
            output = is_after ∙ ap (λ (y : Effect). before ++ canon (command_answers s.session (waiting_tasks s.tasks) tag
                (as_told (unit_of s.session) disk.count order y).outcome
                (data_in_parts s.session (as_told (unit_of s.session) disk.count order y).outcome.bytes))) same;
            rule_is = refl;
          }
    ]

pub on_err : {A E P : Type 0} (result : Result A E) → P → OnErr result P
on_err (Ok x) h = tt
on_err (Err e) h = h

-- ---- what comes of a PDU

pub answered_follows : {E : Type 0} (protected : Bool) (result : Result (Option ℕ) E) (n : ℕ) (s : Machine) (r : Reply) (next : Next)
    (disk : Disk) (new : Machine)
    (before after : List ℕ) → next ≡ Answered r → DisklessPost (on disk s.tasks r) result s new before after
    → NextPost protected next result (moment s (store_of disk n) before) (moment new (store_of disk n) after)
answered_follows protected (Ok rule) n s r next disk new before after is h = record {
  ok = leaves_serves protected n (on disk s.tasks r) (λ d. next_step d s disk next) disk rule new before after
      (λ d. ap (next_step d s disk) is) refl refl h.machine
      h.output h.rule_is;
  err = tt;
}
answered_follows protected (Err e) n s r next disk new before after is h = record {
  ok = tt;
  err = subst (λ (x : Next). NextRanOut protected x (moment s (store_of disk n) before) (moment new (store_of disk n) after)) (sym is) (record {
    machine = h.err;
    rises = omega arith;
    disk_is = refl;
    unwritten = h.unwritten;
  });
}

pub dropped_follows : {E : Type 0} (protected : Bool) (n : ℕ) (s : Machine) (next : Next) (disk : Disk) (new : Machine) (out : List ℕ) → next ≡ Dropped
    → new ≡ s →
    NextPost {E = E} protected next (Ok None) (moment s (store_of disk n) out) (moment new (store_of disk n) out)
dropped_follows protected n s next disk new out is e = record {
  ok = unchanged_serves protected n s (λ d. next_step d s disk next) disk new out (λ d. ap (next_step d s disk) is) e;
  err = tt;
}

pub follows_as : {E : Type 0} (protected : Bool) (result : Result (Option ℕ) E) (a b : Next) (old : Machine) (before : Store) (output : List ℕ)
    (new : Machine) (after : Store)
    (written : List ℕ) → a ≡ b → NextPost protected a result (moment old before output) (moment new after written)
    → NextPost protected b result (moment old before output) (moment new after written)
follows_as protected result a b old before output new after written e h = subst
    (λ (x : Next). NextPost protected x result (moment old before output) (moment new after written)) e h

pub works_follow : {E : Type 0} (protected : Bool) (result : Result (Option ℕ) E) (next : Next) (session : Session) (tasks : List Task)
    (old : Machine) (before : Store)
    (output : List ℕ) (new : Machine) (after : Store) (written : List ℕ) → next ≡ Queued session tasks
    → TasksPost protected result (moment (with_tasks session tasks) before output) (moment new after written)
    → NextPost protected next result (moment old before output) (moment new after written)
works_follow protected result next session tasks old before output new after written is h =
    subst (λ (x : Next). NextPost protected x result (moment old before output) (moment new after written)) (sym is) (record { ok = h.ok; err = h.err })

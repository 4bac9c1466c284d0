-- A broken rule closes the session.
use Rattle.std.proofs.Common.{Bool, ◌≡◌, ◌⊎◌, inl, inr, ℕ, true, List, [], ◌∷◌, Option, Some, None}
use Rattle.std.proofs.Common.{refl, sym, ap, ◌∙◌}
use Rattle.scsi_disk.specs.Disk.{Disk}
use Rattle.iscsi_stream.specs.Stream.{Message}
use Rattle.iscsi_stream.proofs.ReadyLemmas.{apart}
use Rattle.iscsi_login.specs.Stage.{is_closed_phase}
use Rattle.iscsi_target_session.specs.Session.{Session, Reply}
use Rattle.iscsi_target_session.specs.Login.{target_login_step}
use Rattle.iscsi_target.specs.declared.tasks.Task.{Task}
use Rattle.iscsi_target.specs.State.{Machine, TargetStep, on, waiting_tasks}
use Rattle.iscsi_target.specs.Execution.{Device, reliable}
use Rattle.iscsi_target.specs.Machine.{is_machine_closed, target_step, step_on, answers, task_begun, done_in_turn, first_rule, MayAnswer}
use Rattle.iscsi_target.proofs.Steps.TurnLemmas.{Begins, begins, Turns, turns, with_tasks}
use Rattle.iscsi_target.proofs.Steps.StepPartLemmas.{Parts, step_parts}
use Rattle.iscsi_target.proofs.Answers.ReplyLemmas.{login_logs, reject_and_close_reply, request_answered_reply}
use Rattle.iscsi_target.proofs.Steps.NumberLaws.{closed_answers}

-- ---- a broken rule closes the session

record Closes (r : TargetStep) : Type 0 where
  is : (k : ℕ) → r.rule ≡ Some k → is_machine_closed r.machine ≡ true

reply_closes : (tasks : List Task) (disk : Disk) (r : Reply) → ((k : ℕ) → r.rule ≡ Some k → is_closed_phase r.session.phase ≡ true) → Closes (on disk tasks r)
reply_closes tasks disk r c = record { is = c }

begins_close : Begins (λ device s disk task r. Closes r)
begins_close = record {
  request_ = λ device s disk k. reply_closes s.tasks disk _ (request_answered_reply s.session (waiting_tasks s.tasks) k.message k.request).rule;
  command_ = λ device s disk tag order. record { is = λ n e. absurd cc };
  write_ = λ device s disk w whole. record { is = λ n e. absurd cc };
  send_r2t_ = λ device s disk w whole idle. record { is = λ n e. absurd cc };
  wait_ = λ device s disk w whole idle. record { is = λ n e. absurd cc };
}

begun_closes : (device : Device) (s : Session) (disk : Disk) (task : Task) (more : List Task) → Closes (task_begun device (with_tasks s more) disk task)
begun_closes device s disk task more = begins (λ device s disk task r. Closes r) begins_close device (with_tasks s more) disk task

rule_case : (first later : Option ℕ) (k : ℕ) → first_rule first later ≡ Some k → (first ≡ Some k) ⊎ (later ≡ Some k)
rule_case None later k e = inr e
rule_case (Some rule) later k e = inl e

-- a task that leaves the session open breaks no rule
turns_close : Turns (λ device s disk tasks r. Closes r)
turns_close = record {
  none_ = λ device s disk. record { is = λ k e. absurd cc };
  stop_ = λ device s disk task more why. begun_closes device s disk task more;
  then_ = λ device s disk task more b stay live later.
      (let a : TargetStep = task_begun device (with_tasks s more) disk task in
      record {
        is = λ k e. elim (rule_case a.rule b.rule k e) [
          | inl x ↦ absurd (apart ((begun_closes device s disk task more).is k x) live)
          | inr x ↦ later.is k x
        ];
      });
}

done_closes : (device : Device) (s : Session) (disk : Disk) (tasks : List Task) → Closes (done_in_turn device s disk tasks)
done_closes device s disk tasks = turns (λ device s disk tasks r. Closes r) turns_close device s disk tasks

parts_close : (device : Device) (disk : Disk) → Parts device disk (λ s m r. Closes r)
parts_close device disk = record {
  nothing_ = λ s m c. record { is = λ k e. absurd cc };
  shut_ = λ s m. record { is = λ k e. refl };
  beside_ = λ s m r a is. reply_closes s.tasks disk r is.reply.rule;
  reject_and_close_ = λ s rule m. reply_closes s.tasks disk _ (reject_and_close_reply s.session (waiting_tasks s.tasks) rule m).rule;
  login_ = λ s m k. reply_closes s.tasks disk (target_login_step s.session m) (login_logs s.session m).is.rule;
  taken_ = λ s m h w v k e f. record { is = (done_closes device s.session disk _).is };
  refused_ = λ s t m rule a x. record { is = (reject_and_close_reply t.session (waiting_tasks t.tasks) rule m).rule };
  admitted_ = λ s t m a x r is f. record { is = (done_closes device t.session disk _).is };
}

step_closes : (device : Device) (s : Machine) (disk : Disk) (m : Message) → Closes (step_on device s disk m)
step_closes device s disk m = step_parts device disk (λ s m r. Closes r) (parts_close device disk) s m

pub answers_close : (protected : Bool) (s : Machine) (disk : Disk) (ms : List Message) (k : ℕ) → (answers protected s disk ms).rule ≡ Some k
    → is_machine_closed (answers protected s disk ms).machine ≡ true
unfolding answers
answers_close protected s disk [] k e = absurd cc
answers_close protected s disk (m ∷ ms) k e =
    let first : TargetStep = target_step protected s disk m in
    let later : TargetStep = answers protected first.machine first.disk ms in
    elim (rule_case first.rule later.rule k e) [
      | inl a ↦ let c = (step_closes (reliable protected) s disk m).is k a in ap (λ (r : TargetStep). is_machine_closed r.machine)
          (closed_answers protected first.machine first.disk ms c) ∙ c
      | inr b ↦ answers_close protected first.machine first.disk ms k b
    ]

-- ---- over a store that may fail

closed_on : (device : Device) (s : Machine) (disk : Disk) (m : Message) → is_machine_closed s ≡ true → (step_on device s disk m).machine ≡ s
closed_on device s disk m e = rw e refl

closed_may : (protected : Bool) (s : Machine) (disk : Disk) (before : ℕ) (ms : List Message) (r : TargetStep) (after : ℕ)
    → MayAnswer protected s disk before ms r after →
    is_machine_closed s ≡ true → r.machine ≡ s
unfolding MayAnswer
closed_may protected s disk before [] r after h e = ap (λ (x : TargetStep). x.machine) h.0
closed_may protected s disk before (m ∷ ms) r after h e =
    let first : h.0.machine ≡ s = ap (λ (x : TargetStep). x.machine) h.3.is ∙ closed_on h.3.device s disk m e in
    ap (λ (x : TargetStep). x.machine) h.5 ∙ closed_may protected h.0.machine h.0.disk h.2 ms h.1 after h.4 (ap is_machine_closed first ∙ e) ∙ first

pub may_close : (protected : Bool) (s : Machine) (disk : Disk) (before : ℕ) (ms : List Message) (r : TargetStep) (after k : ℕ)
    → MayAnswer protected s disk before ms r after →
    r.rule ≡ Some k → is_machine_closed r.machine ≡ true
unfolding MayAnswer
may_close protected s disk before [] r after k h e = (let none : None ≡ Some k = sym (ap (λ (x : TargetStep). x.rule) h.0) ∙ e in absurd cc)
may_close protected s disk before (m ∷ ms) r after k h e =
    ap (λ (x : TargetStep). is_machine_closed x.machine) h.5
    ∙ elim (rule_case h.0.rule h.1.rule k (sym (ap (λ (x : TargetStep). x.rule) h.5) ∙ e)) [
      | inl a ↦ (let over : is_machine_closed h.0.machine ≡ true =
          ap (λ (x : TargetStep). is_machine_closed x.machine) h.3.is
          ∙ (step_closes h.3.device s disk m).is k (sym (ap (λ (x : TargetStep). x.rule) h.3.is) ∙ a) in
          ap is_machine_closed (closed_may protected h.0.machine h.0.disk h.2 ms h.1 after h.4 over) ∙ over)
      | inr b ↦ may_close protected h.0.machine h.0.disk h.2 ms h.1 after k h.4 b
    ]

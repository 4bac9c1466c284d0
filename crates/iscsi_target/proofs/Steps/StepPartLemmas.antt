-- What is shown of each part of a step holds of the step.
use Rattle.std.proofs.Common.{◌≡◌, ℕ, [], ◌∷◌, ◌++◌, Bool, true, false, length, Option, Some, None, List, refl, ap, subst, ◌∙◌, ◌⊎◌, inl, inr}
use Rattle.std.specs.Prelude.{◌==◌}
use Rattle.std.proofs.lemmas.Bool.{eqb-true}
use Rattle.scsi_disk.specs.Disk.{Disk}
use Rattle.iscsi_pdu.specs.declared.head.Head.{Head}
use Rattle.iscsi_pdu.specs.declared.head.Head.TheVariants.{DataOut}
use Rattle.iscsi_pdu.specs.declared.head.data_out.DataOut.{DataOut as DataPdu}
use Rattle.iscsi_stream.specs.Segment.{segment_bytes}
use Rattle.iscsi_stream.specs.Stream.{Message}
use Rattle.iscsi_login.specs.declared.phase.Phase.{Phase}
use Rattle.iscsi_login.specs.declared.phase.Phase.TheVariants.{Login, Full, Closed}
use Rattle.iscsi_login.specs.Held.{first_burst}
use Rattle.iscsi_target.specs.Write.{Write}
use Rattle.iscsi_target.specs.declared.tasks.Task.{Task}
use Rattle.iscsi_target.specs.State.{Machine, TargetStep, on, unchanged, shut_down, waiting_tasks, max_cmd_sn, unit_of}
use Rattle.iscsi_pdu.specs.Serial.{is_within}
use Rattle.iscsi_target_session.specs.Rejecting.{reject_and_close}
use Rattle.iscsi_target.specs.inner.State.{breaks}
use Rattle.iscsi_pdu.specs.Rules.{kind_not_due, segment_too_long, data_out_of_order, command_out_of_turn}
use Rattle.iscsi_target_session.specs.Login.{target_login_step}
use Rattle.iscsi_target.specs.Transfer.{data_out_taken}
use Rattle.iscsi_target.specs.Execution.{Device}
use Rattle.iscsi_target.specs.Command.{task_of, breaks_rules, presented}
use Rattle.iscsi_target.specs.Machine.{Met, plainly, accepting, next_step, having_accepted, step_on, phase_step, target_full_step, inbound_met, due_met, admitted, data_for}
use Rattle.iscsi_target.specs.Machine.{data_taken, advanced, is_busy, may_come, is_segment_too_long, is_over_limit, is_machine_closed, is_tag_of, write_of}
use Rattle.iscsi_target.specs.Machine.{with_write, done_in_turn, beside}
use Rattle.iscsi_target_session.specs.Session.{Reply}
use Rattle.iscsi_target_session.specs.Inbound.{inbound, IsRequest}
use Rattle.iscsi_target_session.proofs.InboundLemmas.{data_head}
use Rattle.iscsi_target_session.specs.declared.inbound.Inbound.{Inbound}
use Rattle.iscsi_target_session.specs.declared.inbound.Inbound.TheVariants as inbounds
use Rattle.iscsi_target_session.specs.declared.inbound.InboundRequest.{InboundRequest}
use Rattle.iscsi_target.proofs.Answers.BesideLemmas.{IsBeside, beside_is}
use Rattle.iscsi_login.specs.Stage.{is_closed_phase}
use Rattle.iscsi_target.specs.Tiles.{pdu_answers, data_answers}
use Rattle.iscsi_target.specs.Laws.{cmd_sn_in, cmd_sn_of, cmd_sn_if}
use Rattle.iscsi_target_session.proofs.CaseLemmas.{by_cases}

-- A request that is accepted, immediate or in its turn, and the target that then goes on with it.
pub data Accepts (s : Machine) (m : Message) : Machine → Type 0 where
  Immediately : cmd_sn_of m.head ≡ None → s.tasks ≡ [] → Accepts s m s
  InTurn : (n : ℕ) → cmd_sn_of m.head ≡ Some n → is_within n s.session.exp_cmd_sn (max_cmd_sn s) ≡ true → n ≡ s.session.exp_cmd_sn → Accepts s m (advanced s)

-- a request answers no R2T
request_silent : (s : Machine) (m : Message) (head : Head) (r : InboundRequest) → inbound head ≡ Some (inbounds.Request r) → pdu_answers s m head ≡ 0
request_silent s m (DataOut h) r e = absurd cc
request_silent s m _ r e = refl

-- P is shown of whole steps; t goes on with a request that is accepted.
pub record Parts (device : Device) (disk : Disk) (P : Machine → Message → TargetStep → Type 0) : Type 0 where
  pub nothing_ : (s : Machine) (m : Message) → (is_machine_closed s ≡ true) ⊎ (pdu_answers s m m.head ≡ 0) → P s m (unchanged s disk)
  pub shut_ : (s : Machine) (m : Message) → P s m (shut_down s disk)
  pub beside_ : (s : Machine) (m : Message) (r : Reply) → pdu_answers s m m.head ≡ 0 → IsBeside s.session r → P s m (on disk s.tasks r)
  pub reject_and_close_ : (s : Machine) (rule : ℕ) (m : Message) → P s m (breaks s disk rule m)
  pub login_ : (s : Machine) (m : Message) → s.session.phase ≡ Login → P s m (on disk s.tasks (target_login_step s.session m))
  pub taken_ : (s : Machine) (m : Message) (h : DataPdu) (w v : Write) → m.head ≡ DataOut h → write_of s.tasks h.initiator_task_tag ≡ Some w
      → data_out_taken (first_burst s.session.held) w h (segment_bytes m.segment) ≡ Some v →
      P s m (having_accepted [] (done_in_turn device s.session disk (with_write v s.tasks)))
  pub refused_ : (s t : Machine) (m : Message) (rule : ℕ) → pdu_answers s m m.head ≡ 0 → Accepts s m t → P s m (having_accepted (m ∷ []) (breaks t disk rule m))
  pub admitted_ : (s t : Machine) (m : Message) → pdu_answers s m m.head ≡ 0 → Accepts s m t →
      (r : InboundRequest) → IsRequest r m.head → breaks_rules t.session.held (length (segment_bytes m.segment)) r.asks ≡ false
      → P s m (having_accepted (m ∷ []) (done_in_turn device t.session disk (t.tasks ++ task_of (unit_of t.session) (presented disk.count m r) ∷ [])))

-- what comes of a PDU
abbrev met : Device → Machine → Disk → Met → TargetStep
met device s disk x = having_accepted x.accepted (next_step device s disk x.next)

admitted_parts : (device : Device) (disk : Disk) (P : Machine → Message → TargetStep → Type 0) → Parts device disk P → (s t : Machine) (m : Message) →
    Accepts s m t → (tasks : t.tasks ≡ s.tasks) (r : InboundRequest) → IsRequest r m.head → P s m
    (met device s disk (accepting m (admitted t (presented disk.count m r))))
admitted_parts device disk P p s t m x tasks r is =
    let a : pdu_answers s m m.head ≡ 0 = request_silent s m m.head r is in
    by_cases (is_tag_of t.tasks r.initiator_task_tag) (λ e. rw e (subst (λ (ts : List Task). P s m (having_accepted (m ∷ [])
    (on disk ts (reject_and_close t.session (waiting_tasks t.tasks) kind_not_due m)))) tasks (p.refused_ s t m kind_not_due a x)))
    (λ e. by_cases (breaks_rules t.session.held (length (segment_bytes m.segment)) r.asks)
    (λ f. rw (e, f) (subst (λ (ts : List Task). P s m (having_accepted (m ∷ [])
    (on disk ts (reject_and_close t.session (waiting_tasks t.tasks) data_out_of_order m)))) tasks
    (p.refused_ s t m data_out_of_order a x)))
    (λ f. rw (e, f) (p.admitted_ s t m a x r is f)))

no_tasks : (tasks : List Task) → is_busy tasks ≡ false → tasks ≡ []
no_tasks [] e = refl
no_tasks (task ∷ more) e = absurd cc

number_is : (head : Head) (r : InboundRequest) (i : Bool) → IsRequest r head → r.immediate ≡ i → cmd_sn_of head ≡ cmd_sn_if i r.cmd_sn
number_is head r i e k = ap cmd_sn_in e ∙ ap (λ (b : Bool). cmd_sn_if b r.cmd_sn) k

request_parts : (device : Device) (disk : Disk) (P : Machine → Message → TargetStep → Type 0) → Parts device disk P
    → (s : Machine) (m : Message) (r : InboundRequest) → IsRequest r m.head → P s m (met device s disk (due_met s disk.count m (inbounds.Request r)))
request_parts device disk P p s m r is =
    let a : pdu_answers s m m.head ≡ 0 = request_silent s m m.head r is in
    by_cases r.immediate
    (λ i. by_cases (is_busy s.tasks) (λ e. rw (i, e) (p.beside_ s m (beside s m r) a (beside_is s m r)))
    (λ e. rw (i, e) (admitted_parts device disk P p s s m (Immediately (number_is m.head r true is i) (no_tasks s.tasks e)) refl r is)))
    (λ i. by_cases (is_within r.cmd_sn s.session.exp_cmd_sn (max_cmd_sn s))
    (λ e. by_cases (r.cmd_sn == s.session.exp_cmd_sn)
    (λ f. rw (i, e, f) (admitted_parts device disk P p s (advanced s) m
    (InTurn r.cmd_sn (number_is m.head r false is i) e (eqb-true r.cmd_sn s.session.exp_cmd_sn f)) refl r is))
    (λ f. rw (i, e, f) (p.reject_and_close_ s command_out_of_turn m)))
    (λ e. rw (i, e) (p.nothing_ s m (inr a))))

taken_parts : (device : Device) (disk : Disk) (P : Machine → Message → TargetStep → Type 0) → Parts device disk P
    → (s : Machine) (m : Message) (h : DataPdu) (w : Write) (more : Option Write) → m.head ≡ DataOut h → write_of s.tasks h.initiator_task_tag ≡ Some w
    → data_out_taken (first_burst s.session.held) w h (segment_bytes m.segment) ≡ more → P s m (met device s disk (plainly (data_taken s m more)))
taken_parts device disk P p s m h w None k e f = p.reject_and_close_ s data_out_of_order m
taken_parts device disk P p s m h w (Some v) k e f = p.taken_ s m h w v k e f

data_parts : (device : Device) (disk : Disk) (P : Machine → Message → TargetStep → Type 0) → Parts device disk P
    → (s : Machine) (m : Message) (h : DataPdu) (w : Option Write) → m.head ≡ DataOut h → write_of s.tasks h.initiator_task_tag ≡ w
    → P s m (met device s disk (plainly (data_for s m h (segment_bytes m.segment) w)))
data_parts device disk P p s m h None k e =
    p.nothing_ s m (inr (ap (λ (x : Head). pdu_answers s m x) k ∙ ap (λ (w : Option Write). data_answers (first_burst s.session.held) h
    (segment_bytes m.segment) w) e))
data_parts device disk P p s m h (Some w) k e =
    taken_parts device disk P p s m h w (data_out_taken (first_burst s.session.held) w h (segment_bytes m.segment)) k e refl

due_parts : (device : Device) (disk : Disk) (P : Machine → Message → TargetStep → Type 0) → Parts device disk P
    → (s : Machine) (m : Message) (pdu : Inbound) → inbound m.head ≡ Some pdu → P s m (met device s disk (due_met s disk.count m pdu))
due_parts device disk P p s m (inbounds.Data h) k = data_parts device disk P p s m h (write_of s.tasks h.initiator_task_tag) (data_head m.head h k) refl
due_parts device disk P p s m (inbounds.Request r) k = request_parts device disk P p s m r k

inbound_parts : (device : Device) (disk : Disk) (P : Machine → Message → TargetStep → Type 0) → Parts device disk P → (s : Machine) (m : Message)
    (pdu : Option Inbound) → inbound m.head ≡ pdu → P s m (met device s disk (inbound_met s disk.count m pdu))
inbound_parts device disk P p s m None k = p.reject_and_close_ s kind_not_due m
inbound_parts device disk P p s m (Some pdu) k =
    by_cases (may_come s.session.session_type pdu)
    (λ e. by_cases (is_segment_too_long s m)
    (λ f. rw (e, f) (p.reject_and_close_ s segment_too_long m)) (λ f. rw (e, f) (due_parts device disk P p s m pdu k)))
    (λ e. rw e (p.reject_and_close_ s kind_not_due m))

full_parts : (device : Device) (disk : Disk) (P : Machine → Message → TargetStep → Type 0) → Parts device disk P → (s : Machine) (m : Message) →
    P s m (target_full_step device s disk m)
full_parts device disk P p s m = inbound_parts device disk P p s m (inbound m.head) refl

phase_parts : (device : Device) (disk : Disk) (P : Machine → Message → TargetStep → Type 0) → Parts device disk P
    → (phase : Phase) (s : Machine) (m : Message) → s.session.phase ≡ phase → P s m (phase_step device phase s disk m)
phase_parts device disk P p Login s m k = p.login_ s m k
phase_parts device disk P p Full s m k = full_parts device disk P p s m
phase_parts device disk P p Closed s m k = p.nothing_ s m (inl (ap is_closed_phase k))

pub step_parts : (device : Device) (disk : Disk) (P : Machine → Message → TargetStep → Type 0) → Parts device disk P → (s : Machine) (m : Message) →
    P s m (step_on device s disk m)
step_parts device disk P p s m =
    by_cases (is_machine_closed s) (λ e. rw e (p.nothing_ s m (inl e)))
    (λ e. by_cases (is_over_limit s m.segment) (λ f. rw (e, f) (p.shut_ s m)) (λ f. rw (e, f) (phase_parts device disk P p s.session.phase s m refl)))

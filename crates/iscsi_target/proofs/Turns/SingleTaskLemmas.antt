-- What a target with at most one task does with a PDU that is due.
use Rattle.std.proofs.Common.{◌≡◌, ◌∙◌, ℕ, List, [], ◌∷◌, true, false, length, Option, Some, refl, ap}
use Rattle.std.specs.Prelude.{◌+◌, ◌==◌}
use Rattle.std.proofs.lemmas.Bool.{eq-eqb}
use Rattle.scsi_disk.specs.Disk.{Disk}
use Rattle.iscsi_pdu.specs.Serial.{is_within}
use Rattle.iscsi_pdu.specs.declared.head.data_out.DataOut.{DataOut as DataPdu}
use Rattle.iscsi_stream.specs.Segment.{segment_bytes}
use Rattle.iscsi_stream.specs.Stream.{Message}
use Rattle.iscsi_login.specs.Held.{first_burst}
use Rattle.iscsi_login.specs.declared.phase.Phase.TheVariants as phases
use Rattle.iscsi_login.specs.Stage.{is_closed_phase}
use Rattle.iscsi_target_session.specs.Session.{Session, max_cmd_sn_with}
use Rattle.iscsi_target.specs.Write.{Write}
use Rattle.iscsi_target.specs.declared.tasks.Task.TheVariants.{Data}
use Rattle.iscsi_target_session.specs.Inbound.{inbound}
use Rattle.iscsi_target_session.specs.declared.inbound.Inbound.{Inbound}
use Rattle.iscsi_target_session.specs.declared.inbound.Inbound.TheVariants as inbounds
use Rattle.iscsi_target_session.specs.declared.inbound.InboundRequest.{InboundRequest}
use Rattle.iscsi_target.specs.State.{Machine, TargetStep, unit_of}
use Rattle.iscsi_target.specs.Transfer.{is_whole_write, is_nothing_due, is_in_sequence, bytes_received, with_data}
use Rattle.iscsi_target.specs.Execution.{Device}
use Rattle.iscsi_target.specs.Command.{breaks_rules, proceed, task_of, presented}
use Rattle.iscsi_target.specs.Machine.{Met, advanced, task_begun, on_data_out, due_met, inbound_met, next_step, having_accepted, may_come}
use Rattle.iscsi_target.specs.Machine.{is_segment_too_long, is_over_limit, step_on}
use Rattle.iscsi_target_session.proofs.CaseLemmas.{by_cases}
use Rattle.iscsi_target.proofs.Steps.TurnLemmas.{done_alone, with_tasks}
use Rattle.iscsi_target.proofs.Turns.DispatchLemmas.{live_step}

-- what comes of a PDU is done
abbrev done : Device → Machine → Disk → Met → TargetStep
done device s disk x = having_accepted x.accepted (next_step device s disk x.next)

-- A PDU that comes in full feature phase, and that may come there.
pub record IsDue (s : Machine) (m : Message) (pdu : Inbound) : Type 0 where
  pub phase : s.session.phase ≡ phases.Full
  pub within : is_over_limit s m.segment ≡ false
  pub came : inbound m.head ≡ Some pdu
  pub may : may_come s.session.session_type pdu ≡ true
  pub short : is_segment_too_long s m ≡ false

due_step : (device : Device) (s : Machine) (disk : Disk) (m : Message) (pdu : Inbound) → IsDue s m pdu → step_on device s disk m
    ≡ done device s disk (due_met s disk.count m pdu)
due_step device s disk m pdu d =
    live_step device s disk m phases.Full (ap is_closed_phase d.phase) d.within d.phase
    ∙ ap (λ (x : Option Inbound). done device s disk (inbound_met s disk.count m x)) d.came
    ∙ (let k = d.may in let l = d.short in rw (k, l) refl)

-- ---- a request, where there is no task

turn_alone : (device : Device) (s : Session) (disk : Disk) (m : Message) (r : InboundRequest) → r.immediate ≡ false → r.cmd_sn ≡ s.exp_cmd_sn
    → is_within s.exp_cmd_sn s.exp_cmd_sn (max_cmd_sn_with s 0) ≡ true → breaks_rules s.held (length (segment_bytes m.segment)) r.asks ≡ false
    → done device (with_tasks s []) disk (due_met (with_tasks s []) disk.count m (inbounds.Request r))
    ≡ having_accepted (m ∷ []) (task_begun device (advanced (with_tasks s [])) disk (task_of (unit_of s) (presented disk.count m r)))
turn_alone device s disk m r numbered due within kept =
    rw (numbered, due, within, eq-eqb s.exp_cmd_sn s.exp_cmd_sn refl, kept)
    (ap (having_accepted (m ∷ [])) (done_alone device (advanced (with_tasks s [])).session disk (task_of (unit_of s) (presented disk.count m r))))

-- Where there is no task, a request that has the CmdSN that is due and keeps the rules of the first burst is handled at once.
pub request_alone : (device : Device) (s : Session) (disk : Disk) (m : Message) (r : InboundRequest) → IsDue (with_tasks s []) m (inbounds.Request r)
    → r.immediate ≡ false → r.cmd_sn ≡ s.exp_cmd_sn → is_within s.exp_cmd_sn s.exp_cmd_sn (max_cmd_sn_with s 0) ≡ true
    → breaks_rules s.held (length (segment_bytes m.segment)) r.asks ≡ false
    → step_on device (with_tasks s []) disk m ≡ having_accepted (m ∷ [])
    (task_begun device (advanced (with_tasks s [])) disk (task_of (unit_of s) (presented disk.count m r)))
request_alone device s disk m r d numbered due within kept =
    due_step device (with_tasks s []) disk m (inbounds.Request r) d ∙ turn_alone device s disk m r numbered due within kept

-- ---- a Data-Out, where a write is the only task

-- no request is accepted where a write goes on
plainly_proceeds : (device : Device) (s : Machine) (disk : Disk) (w : Write) → having_accepted [] (proceed device s disk w) ≡ proceed device s disk w
plainly_proceeds device s disk w =
    by_cases (is_whole_write w) (λ e. rw e refl) (λ e. by_cases (is_nothing_due w.due) (λ f. rw (e, f) refl) (λ f. rw (e, f) refl))

taken_alone : (device : Device) (s : Session) (disk : Disk) (w : Write) (m : Message) (h : DataPdu) (bytes : List ℕ) →
    (w.initiator_task_tag == h.initiator_task_tag) ≡ true
    → is_in_sequence (first_burst s.held) w h (bytes_received w + length bytes) w.due ≡ true
    → done device (with_tasks s (Data w ∷ [])) disk (record { accepted = []; next = on_data_out (with_tasks s (Data w ∷ [])) m h bytes })
    ≡ having_accepted [] (proceed device (with_tasks s []) disk (with_data w h bytes))
taken_alone device s disk w m h bytes tag due =
    rw (tag, due, eq-eqb w.initiator_task_tag w.initiator_task_tag refl)
    (ap (having_accepted []) (done_alone device s disk (Data (with_data w h bytes))))

-- Where a write is the only task, it goes on with the bytes of a Data-Out that is due.
pub data_alone : (device : Device) (s : Session) (disk : Disk) (w : Write) (m : Message) (h : DataPdu)
    → IsDue (with_tasks s (Data w ∷ [])) m (inbounds.Data h) → (w.initiator_task_tag == h.initiator_task_tag) ≡ true
    → is_in_sequence (first_burst s.held) w h (bytes_received w + length (segment_bytes m.segment)) w.due ≡ true
    → step_on device (with_tasks s (Data w ∷ [])) disk m ≡ proceed device (with_tasks s []) disk (with_data w h (segment_bytes m.segment))
data_alone device s disk w m h d tag due =
    due_step device (with_tasks s (Data w ∷ [])) disk m (inbounds.Data h) d
    ∙ taken_alone device s disk w m h (segment_bytes m.segment) tag due
    ∙ plainly_proceeds device (with_tasks s []) disk (with_data w h (segment_bytes m.segment))

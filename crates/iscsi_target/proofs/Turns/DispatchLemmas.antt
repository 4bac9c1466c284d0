-- The steps of a session by the kind of PDU, case by case.
use Rattle.std.proofs.Common.{◌≡◌, ◌≤◌, ◌∙◌, ℕ, List, Bool, true, false, not, length, Option, Some, None, refl, sym, ap, subst}
use Rattle.std.specs.Prelude.{◌==◌, ◌&&◌, nat_lt, if◌then◌else◌, Result}
use Rattle.std.proofs.lemmas.Bool.{le-ltb}
use Rattle.scsi_disk.specs.Disk.{Disk}
use Rattle.iscsi_text.specs.Text.{Pairs}
use Rattle.iscsi_text.specs.Reading.{text_in}
use Rattle.scsi_unit.specs.LogicalUnit.{LogicalUnit}
use Rattle.iscsi_pdu.specs.Serial.{is_within}
use Rattle.iscsi_pdu.specs.declared.head.Head.{Head}
use Rattle.iscsi_pdu.specs.declared.head.Head.TheVariants.{DataOut}
use Rattle.iscsi_pdu.specs.declared.head.scsi_command.ScsiCommand.{ScsiCommand as Command}
use Rattle.iscsi_pdu.specs.declared.head.data_out.DataOut.{DataOut as DataPdu}
use Rattle.iscsi_stream.specs.Segment.{segment_if, segment_of, segment_bytes, text_or_bytes, is_last_login_pdu}
use Rattle.iscsi_stream.specs.Stream.{Message, message}
use Rattle.iscsi_login.specs.declared.phase.Phase.{Phase}
use Rattle.iscsi_target_session.specs.Session.{Session, target_limit}
use Rattle.iscsi_target.specs.State.{Machine, TargetStep, on, unchanged, shut_down, max_cmd_sn, unit_of}
use Rattle.std.proofs.Common.{inl, inr, arith}
use Rattle.std.specs.Prelude.{Ok, Err}
use Rattle.iscsi_login.specs.declared.phase.Phase.TheVariants.{Login, Full}
use Rattle.iscsi_target_session.specs.Login.{target_login_step}
use Rattle.std.specs.Prelude.{◌+◌}
use Rattle.iscsi_login.specs.Held.{first_burst}
use Rattle.iscsi_target.specs.Write.{Write}
use Rattle.iscsi_target.specs.Transfer.{bytes_received, is_in_sequence, data_out_taken, with_data}
use Rattle.iscsi_target.specs.Machine.{Met, Next, next_step, target_full_step, write_of, with_write, data_taken, data_for}
use Rattle.iscsi_target.specs.Laws.{joined_stepped}
use Rattle.iscsi_target.specs.Feed.{Store}
use Rattle.iscsi_target_session.proofs.CaseLemmas.{by_cases}
use Rattle.iscsi_target.proofs.Turns.ServingLemmas.{serves_same, leaves_serves, accepts_by, works_follow}
use Rattle.iscsi_target.specs.Advances.{store_of}
use Rattle.iscsi_target.specs.inner.Inside.{Moment, moment, DisklessPost, TasksPost, rule_at_acceptance, NextPost, MessagePost, IsChecked, MayCome, comes_of}
use Rattle.iscsi_target.specs.declared.admission.Admission.{Admission}
use Rattle.iscsi_target.specs.declared.admission.Admission.TheVariants as admissions
use Rattle.iscsi_target.proofs.Steps.TurnLemmas.{with_tasks}
use Rattle.iscsi_pdu.specs.Rules.{kind_not_due, segment_too_long, command_out_of_turn}
use Rattle.scsi_disk.specs.Plan.{plan_of}
use Rattle.scsi_disk.specs.declared.order.Order.{Order}
use Rattle.scsi_disk.specs.declared.order.Plan.{Plan}
use Rattle.scsi_disk.specs.declared.order.Plan.TheVariants.{Refuse, Take, Give}
use Rattle.iscsi_login.specs.Held.{Held}
use Rattle.iscsi_target.specs.declared.tasks.Task.TheVariants as kinds
use Rattle.iscsi_target.specs.declared.tasks.Task.TheVariants.{Data}
use Rattle.iscsi_target_session.specs.Inbound.{inbound, IsRequest}
use Rattle.iscsi_target_session.specs.declared.inbound.Inbound.{Inbound}
use Rattle.iscsi_target_session.specs.declared.inbound.InboundRequest.{InboundRequest}
use Rattle.iscsi_target_session.specs.declared.inbound.Asks.{Asks}
use Rattle.iscsi_target_session.specs.declared.inbound.Asks.TheVariants as asks
use Rattle.iscsi_target_session.proofs.InboundLemmas.{asks_at_once, immediate_is, inbound_plain, request_plain}
use Rattle.iscsi_target.specs.Command.{write_opened, order_of, breaks_burst_rules, breaks_rules, task_planned, task_for, task_by, task_of, presented}
use Rattle.iscsi_target.specs.Execution.{Device}
use Rattle.std.proofs.lemmas.List.{append-nil}
use Rattle.iscsi_target.specs.Crash.{command_of_task, commands_of}
use Rattle.std.specs.Prelude.{[], ◌∷◌, ◌++◌}
use Rattle.iscsi_pdu.specs.Rules.{data_out_of_order}
use Rattle.iscsi_target.specs.declared.tasks.Task.{Task}
use Rattle.iscsi_target.specs.State.{takes_place}
use Rattle.iscsi_target.specs.Machine.{beside, Dropped, Answered, Queued, broken, is_tag_of, is_busy, immediate_request, advanced}
use Rattle.iscsi_target.specs.Machine.{admitted, request_in_turn, on_data_out, due_met, inbound_met, full_met, may_come, is_segment_too_long, is_over_limit, phase_step, is_machine_closed, step_on}
use Rattle.iscsi_target_session.proofs.KindLemmas.{bytes_of, plain, head_of}

-- ---- the bytes of a request

pub plain_of : (c : Bool) (hd : Head) (bytes : List ℕ) (m : Message) (is : message c hd bytes ≡ m) (r : InboundRequest) → IsRequest r m.head → segment_bytes
    m.segment ≡ bytes
plain_of c hd bytes m is r e = bytes_of c hd bytes m is (request_plain m.head r e)

-- ---- the order of requests

pub beside_tasks : (s : Machine) (count : ℕ) (m : Message) (r : InboundRequest) → is_busy s.tasks ≡ true → (immediate_request s (presented count m r)).next
    ≡ Answered (beside s m r)
beside_tasks s count m r e = rw e refl

pub at_once : (s : Machine) (count : ℕ) (m : Message) (r : InboundRequest) → s.tasks ≡ [] → admitted s (presented count m r) ≡
    (immediate_request s (presented count m r)).next
at_once s count m r none = sym (rw (ap is_busy none) refl)

pub outside : (s : Machine) (count : ℕ) (m : Message) (r : InboundRequest) (b : Bool) → b ≡ is_within r.cmd_sn s.session.exp_cmd_sn (max_cmd_sn s)
    → b ≡ false → (request_in_turn s (presented count m r)).next ≡ Dropped
outside s count m r b is e = rw (sym is ∙ e) refl

pub out_of_turn : (s : Machine) (count : ℕ) (m : Message) (r : InboundRequest) (b : Bool) → b ≡ is_within r.cmd_sn s.session.exp_cmd_sn (max_cmd_sn s)
    → b ≡ true → (r.cmd_sn == s.session.exp_cmd_sn) ≡ false → (request_in_turn s (presented count m r)).next ≡ broken s command_out_of_turn m
out_of_turn s count m r b is e f = rw (sym is ∙ e, f) refl

pub inside : (s : Machine) (count : ℕ) (m : Message) (r : InboundRequest) (b : Bool) → b ≡ is_within r.cmd_sn s.session.exp_cmd_sn (max_cmd_sn s)
    → b ≡ true → (r.cmd_sn == s.session.exp_cmd_sn) ≡ true → admitted (advanced s) (presented count m r) ≡ (request_in_turn s (presented count m r)).next
inside s count m r b is e f = sym (rw (sym is ∙ e, f) refl)

-- ---- any PDU

-- what comes of a PDU by what it is
came_as : (s : Machine) (count : ℕ) (m : Message) (pdu : Option Inbound) → inbound m.head ≡ pdu → full_met s count m ≡ inbound_met s count m pdu
came_as s count m pdu e = ap (inbound_met s count m) e

too_long_is : (s : Machine) (c : Bool) (hd : Head) (bytes : List ℕ) (m : Message) (is : message c hd bytes ≡ m) (pdu : Inbound) → inbound m.head ≡ Some pdu →
    is_segment_too_long s m ≡ nat_lt s.session.held.target_max_recv (length bytes)
too_long_is s c hd bytes m is pdu e = ap (λ (b : List ℕ). nat_lt s.session.held.target_max_recv (length b))
    (bytes_of c hd bytes m is (inbound_plain m.head pdu e))

pub due_too_long : (s : Machine) (count : ℕ) (c : Bool) (hd : Head) (bytes : List ℕ) (m : Message) (is : message c hd bytes ≡ m) (pdu : Inbound)
    → inbound m.head ≡ Some pdu → may_come s.session.session_type pdu ≡ true → nat_lt s.session.held.target_max_recv (length bytes) ≡ true
    → (full_met s count m).next ≡ broken s segment_too_long m
due_too_long s count c hd bytes m is pdu e may f =
    ap (λ (x : Met). x.next) (came_as s count m (Some pdu) e) ∙ rw (may, too_long_is s c hd bytes m is pdu e ∙ f) refl

pub due_served : (s : Machine) (count : ℕ) (c : Bool) (hd : Head) (bytes : List ℕ) (m : Message) (is : message c hd bytes ≡ m) (pdu : Inbound)
    → inbound m.head ≡ Some pdu → may_come s.session.session_type pdu ≡ true → nat_lt s.session.held.target_max_recv (length bytes) ≡ false
    → full_met s count m ≡ due_met s count m pdu
due_served s count c hd bytes m is pdu e may f =
    came_as s count m (Some pdu) e ∙ rw (may, too_long_is s c hd bytes m is pdu e ∙ f) refl

-- the head of a PDU, whatever it is to the target
pub came : (c : Bool) (hd : Head) (bytes : List ℕ) (m : Message) (is : message c hd bytes ≡ m) (pdu : Option Inbound) → inbound hd ≡ pdu → inbound m.head ≡ pdu
came c hd bytes m is pdu e = ap inbound (head_of c hd bytes m is) ∙ e

-- ---- a request that is accepted

-- a request breaks the rules of the first burst by the bytes of its PDU
pub rules_are : (held : Held) (c : Bool) (hd : Head) (bytes : List ℕ) (m : Message) (is : message c hd bytes ≡ m) (r : InboundRequest) → IsRequest r m.head →
    breaks_rules held (length (segment_bytes m.segment)) r.asks ≡ breaks_rules held (length bytes) r.asks
rules_are held c hd bytes m is r e = ap (λ (b : List ℕ). breaks_rules held (length b) r.asks) (plain_of c hd bytes m is r e)

pub admitted_tagged : (s : Machine) (count : ℕ) (m : Message) (r : InboundRequest) → is_tag_of s.tasks r.initiator_task_tag ≡ true
    → admitted s (presented count m r) ≡ broken s kind_not_due m
admitted_tagged s count m r e = rw e refl

pub admitted_broken : (s : Machine) (count : ℕ) (m : Message) (r : InboundRequest) → is_tag_of s.tasks r.initiator_task_tag ≡ false →
    breaks_rules s.session.held (length (segment_bytes m.segment)) r.asks ≡ true
    → admitted s (presented count m r) ≡ broken s data_out_of_order m
admitted_broken s count m r e f = rw (e, f) refl

pub admitted_queued : (s : Machine) (count : ℕ) (m : Message) (r : InboundRequest) → is_tag_of s.tasks r.initiator_task_tag ≡ false →
    breaks_rules s.session.held (length (segment_bytes m.segment)) r.asks ≡ false
    → admitted s (presented count m r) ≡ Queued s.session (s.tasks ++ task_of (unit_of s.session) (presented count m r) ∷ [])
admitted_queued s count m r e f = rw (e, f) refl

-- a request with a CmdSN takes a place of the window
takes_planned : (h : Command) (order : Order) (bytes : List ℕ) (plan : Plan) → h.immediate ≡ false → takes_place (task_planned h order bytes plan) ≡ true
takes_planned h order bytes (Take total) e = ap (λ (b : Bool). not b) e
takes_planned h order bytes (Refuse sense) e = refl
takes_planned h order bytes (Give given) e = refl

takes_by : (unit : Option LogicalUnit) (count : ℕ) (m : Message) (tag : Option ℕ) (other : Bool) (asked : Asks) → asks_at_once other asked ≡ false
    → takes_place (task_by unit count m tag asked) ≡ true
takes_by unit count m tag other (asks.Command h) e = takes_planned h (order_of unit h) (segment_bytes m.segment) (plan_of (order_of unit h) count) e
takes_by unit count m tag other (asks.Session q) e = refl

pub takes_as : (unit : Option LogicalUnit) (count : ℕ) (m : Message) (r : InboundRequest) → IsRequest r m.head → r.immediate ≡ false
    → takes_place (task_of unit (presented count m r)) ≡ true
takes_as unit count m r is e = takes_by unit count m r.initiator_task_tag r.immediate r.asks (immediate_is m.head r is ∙ e)

-- the task of a command, by its plan
pub task_takes : (unit : Option LogicalUnit) (count total : ℕ) (h : Command) (bytes : List ℕ) → plan_of (order_of unit h) count ≡ Take total →
    task_for unit count h bytes ≡ Data (write_opened h (order_of unit h) total bytes)
task_takes unit count total h bytes e = ap (task_planned h (order_of unit h) bytes) e

simple_by : (h : Command) (order : Order) (bytes : List ℕ) (plan : Plan) → ((n : ℕ) → plan ≡ Take n → ⊥) → task_planned h order bytes plan ≡ kinds.Command
    h.initiator_task_tag order
simple_by h order bytes (Take total) none = absurd (none total refl)
simple_by h order bytes (Refuse sense) none = refl
simple_by h order bytes (Give given) none = refl

pub task_simple : (unit : Option LogicalUnit) (count : ℕ) (h : Command) (bytes : List ℕ) → ((n : ℕ) → plan_of (order_of unit h) count ≡ Take n → ⊥) →
    task_for unit count h bytes ≡ kinds.Command h.initiator_task_tag (order_of unit h)
task_simple unit count h bytes none = simple_by h (order_of unit h) bytes (plan_of (order_of unit h) count) none

-- the task of a request, by what it asks for
pub task_asks : (unit : Option LogicalUnit) (count : ℕ) (m : Message) (r : InboundRequest) (asked : Asks) → r.asks ≡ asked →
    task_of unit (presented count m r) ≡ task_by unit count m r.initiator_task_tag asked
task_asks unit count m r asked e = ap (task_by unit count m r.initiator_task_tag) e

pub task_command : (unit : Option LogicalUnit) (count : ℕ) (c : Bool) (hd : Head) (bytes : List ℕ) (m : Message) (is : message c hd bytes ≡ m)
    (r : InboundRequest)
    (h : Command) → IsRequest r m.head → r.asks ≡ asks.Command h → task_for unit count h bytes ≡ task_of unit (presented count m r)
task_command unit count c hd bytes m is r h e asked =
    sym (task_asks unit count m r (asks.Command h) asked ∙ ap (task_for unit count h) (plain_of c hd bytes m is r e))

-- the rules that a command keeps
pub command_keeps : (held : Held) (c : Bool) (hd : Head) (bytes : List ℕ) (m : Message) (is : message c hd bytes ≡ m) (r : InboundRequest)
    (h : Command) → IsRequest r m.head → r.asks ≡ asks.Command h → breaks_rules held (length (segment_bytes m.segment)) r.asks ≡ false
    → breaks_burst_rules held h (length bytes) ≡ false
command_keeps held c hd bytes m is r h e asked keeps =
    ap (breaks_rules held (length bytes)) (sym asked) ∙ sym (rules_are held c hd bytes m is r e) ∙ keeps

over_text : (s : Machine) (t : Option Pairs) (bytes : List ℕ) → length bytes ≤ target_limit s.session.settings → is_over_limit s (text_or_bytes t bytes) ≡ false
over_text s None bytes le = le-ltb (target_limit s.session.settings) (length bytes) le
over_text s (Some pairs) bytes le = refl

over_if : (s : Machine) (b : Bool) (bytes : List ℕ) → length bytes ≤ target_limit s.session.settings → is_over_limit s (segment_if b bytes) ≡ false
over_if s true bytes le = over_text s (text_in bytes) bytes le
over_if s false bytes le = le-ltb (target_limit s.session.settings) (length bytes) le

pub over_none : (s : Machine) (c : Bool) (hd : Head) (bytes : List ℕ) → length bytes ≤ target_limit s.session.settings
    → is_over_limit s (message c hd bytes).segment
    ≡ false
unfolding segment_of
over_none s c hd bytes le = over_if s (not c && is_last_login_pdu hd) bytes le

abbrev if_over : Device → Machine → Disk → Message → Bool → TargetStep
if_over d s disk m b = if b then shut_down s disk else phase_step d s.session.phase s disk m

pub live_step : (d : Device) (s : Machine) (disk : Disk) (m : Message) (phase : Phase) → is_machine_closed s ≡ false → is_over_limit s m.segment ≡ false →
    s.session.phase ≡ phase → step_on d s disk m ≡ phase_step d phase s disk m
live_step d s disk m phase live within is =
    ap (λ (b : Bool). if b then unchanged s disk else (if is_over_limit s m.segment then shut_down s disk else phase_step d s.session.phase s disk m)) live
    ∙ ap (if_over d s disk m) within
    ∙ ap (λ (p : Phase). phase_step d p s disk m) is

-- ---- a request that is accepted, or refused

pub untagged : (s : Machine) (m : Message) (r : InboundRequest) → rule_at_acceptance s m r ≡ None → is_tag_of s.tasks r.initiator_task_tag ≡ false
untagged s m r e = by_cases (is_tag_of s.tasks r.initiator_task_tag) (λ a. let x : Some kind_not_due ≡ None = sym (rw a refl) ∙ e in cc) (λ a. a)

pub keeps_rules : (s : Machine) (m : Message) (r : InboundRequest) → rule_at_acceptance s m r ≡ None → breaks_rules s.session.held
    (length (segment_bytes m.segment)) r.asks ≡ false
keeps_rules s m r e = by_cases (breaks_rules s.session.held (length (segment_bytes m.segment)) r.asks)
    (λ b. let x : Some data_out_of_order ≡ None = sym (rw (untagged s m r e, b) refl) ∙ e in cc) (λ b. b)

pub refused_tag : (s : Machine) (m : Message) (r : InboundRequest) → is_tag_of s.tasks r.initiator_task_tag ≡ true → rule_at_acceptance s m r
    ≡ Some kind_not_due
refused_tag s m r e = rw e refl

pub refused_rules : (s : Machine) (m : Message) (r : InboundRequest) → is_tag_of s.tasks r.initiator_task_tag ≡ false →
    breaks_rules s.session.held (length (segment_bytes m.segment)) r.asks ≡ true → rule_at_acceptance s m r ≡ Some data_out_of_order
refused_rules s m r e f = rw (e, f) refl

pub not_refused : (s : Machine) (m : Message) (r : InboundRequest) → is_tag_of s.tasks r.initiator_task_tag ≡ false →
    breaks_rules s.session.held (length (segment_bytes m.segment)) r.asks ≡ false → rule_at_acceptance s m r ≡ None
not_refused s m r e f = rw (e, f) refl

pub admitted_none : (s : Machine) (count : ℕ) (m : Message) (r : InboundRequest) → rule_at_acceptance s m r ≡ None
    → admitted s (presented count m r) ≡ Queued s.session (s.tasks ++ task_of (unit_of s.session) (presented count m r) ∷ [])
admitted_none s count m r e = admitted_queued s count m r (untagged s m r e) (keeps_rules s m r e)

pub admitted_some : (s : Machine) (count : ℕ) (m : Message) (r : InboundRequest) (rule : ℕ) → rule_at_acceptance s m r ≡ Some rule → admitted s
    (presented count m r) ≡ broken s rule m
admitted_some s count m r rule e =
    by_cases (is_tag_of s.tasks r.initiator_task_tag)
    (λ a. let is : kind_not_due ≡ rule = some_is (sym (refused_tag s m r a) ∙ e) in admitted_tagged s count m r a ∙ ap (λ (n : ℕ). broken s n m) is)
    (λ a. by_cases (breaks_rules s.session.held (length (segment_bytes m.segment)) r.asks)
    (λ b. let is : data_out_of_order ≡ rule = some_is (sym (refused_rules s m r a b) ∙ e) in admitted_broken s count m r a b ∙ ap (λ (n : ℕ). broken s n m) is)
    (λ b. let x : None ≡ Some rule = sym (not_refused s m r a b) ∙ e in cc))
  where
    some_is : {a b : ℕ} → Some a ≡ Some b → a ≡ b
    some_is e = cc

-- ---- the checks on a PDU

-- what comes of a PDU by what its checks find
pub checked : (s : Machine) (count : ℕ) (m : Message) (met : ℕ → Met) (v w : Admission) → IsChecked s m met v → v ≡ w → (met count).next ≡ comes_of s count m w
checked s count m met v w j e = j.comes count ∙ ap (comes_of s count m) e

pub checked_data : (s : Machine) (count : ℕ) (c : Bool) (hd : Head) (bytes : List ℕ) (m : Message) (is : message c hd bytes ≡ m) (met : ℕ → Met) (v : Admission)
    (h : DataPdu) → IsChecked s m met v → v ≡ admissions.Data h → on_data_out s m h bytes ≡ (met count).next
checked_data s count c hd bytes m is met v h j e =
    let head : hd ≡ DataOut h = sym (head_of c hd bytes m is) ∙ subst (MayCome s m) e j.may in
    sym (checked s count m met v (admissions.Data h) j e ∙ ap (λ (b : List ℕ). on_data_out s m h b) (plain c hd bytes m is (ap is_last_login_pdu head)))

-- what the checks find on what a PDU is to the target, they find on the PDU
pub due_checked : (s : Machine) (m : Message) (met : ℕ → Met) (v : Admission) → ((count : ℕ) → full_met s count m ≡ met count) → IsChecked s m met v →
    IsChecked s m (λ count. full_met s count m) v
due_checked s m met v same j = record { comes = λ count. ap (λ (x : Met). x.next) (same count) ∙ j.comes count; may = j.may }

-- a request that may be accepted isn't dropped
not_dropped : (s : Machine) (count : ℕ) (m : Message) (r : InboundRequest) (rule : Option ℕ) → rule_at_acceptance s m r ≡ rule → admitted s
    (presented count m r) ≡ Dropped → ⊥
not_dropped s count m r None e d = let apart : Queued s.session (s.tasks ++ task_of (unit_of s.session) (presented count m r) ∷ []) ≡ Dropped = sym
    (admitted_none s count m r e) ∙ d in cc
not_dropped s count m r (Some rule) e d = let apart : broken s rule m ≡ Dropped = sym (admitted_some s count m r rule e) ∙ d in cc

turn_follows : {E : Type 0} (protected : Bool) (result : Result (Option ℕ) E) (next : Next) (s : Machine) (before : Store) (output : List ℕ) (new : Moment) →
    (next ≡ Dropped → ⊥) → NextPost protected next result (moment (advanced s) before output) new → NextPost protected next result (moment s before output) new
turn_follows protected result Dropped s before output new never h = absurd (never refl)
turn_follows protected (Ok rule) (Answered r) s before output new never h = record { ok = h.ok; err = tt }
turn_follows protected (Err e) (Answered r) s before output new never h = record {
  ok = tt;
  err = record { machine = h.err.machine; rises = h.err.rises; disk_is = h.err.disk_is; unwritten = h.err.unwritten };
}
turn_follows protected result (Queued session tasks) s before output new never h = record { ok = h.ok; err = h.err }

-- a request that took its CmdSN: where memory runs out, the session is closed, which forgets that it was taken
pub in_its_turn : {E : Type 0} (protected : Bool) (result : Result (Option ℕ) E) (s : Machine) (count : ℕ) (m : Message) (r : InboundRequest) (before : Store)
    (output : List ℕ) (new : Moment) →
    NextPost protected (admitted (advanced s) (presented count m r)) result (moment (advanced s) before output) new →
    NextPost protected (admitted (advanced s) (presented count m r)) result (moment s before output) new
in_its_turn protected result s count m r before output new h =
    turn_follows protected result (admitted (advanced s) (presented count m r)) s before output new
    (not_dropped (advanced s) count m r (rule_at_acceptance (advanced s) m r) refl) h

-- a request that breaks no rule, and becomes the last task
pub admitted_follows : {E : Type 0} (protected : Bool) (result : Result (Option ℕ) E) (s : Machine) (count : ℕ) (m : Message) (r : InboundRequest)
    (before : Store)
    (output : List ℕ) (new : Machine)
    (after : Store) (written : List ℕ) → rule_at_acceptance s m r ≡ None
    → TasksPost protected result (moment (with_tasks s.session (s.tasks ++ task_of (unit_of s.session) (presented count m r) ∷ [])) before output)
    (moment new after written)
    → NextPost protected (admitted s (presented count m r)) result (moment s before output) (moment new after written)
admitted_follows protected result s count m r before output new after written kept h =
    works_follow protected result (admitted s (presented count m r)) s.session (s.tasks ++ task_of (unit_of s.session) (presented count m r) ∷ []) s before
    output new after written
    (admitted_none s count m r kept) h

-- ---- a Data-Out

pub data_dropped : (s : Machine) (m : Message) (h : DataPdu) (bytes : List ℕ) → write_of s.tasks h.initiator_task_tag ≡ None → on_data_out s m h bytes ≡ Dropped
data_dropped s m h bytes e = ap (data_for s m h bytes) e

pub data_refused : (s : Machine) (m : Message) (h : DataPdu) (bytes : List ℕ) (w : Write) → write_of s.tasks h.initiator_task_tag ≡ Some w
    → is_in_sequence (first_burst s.session.held) w h (bytes_received w + length bytes) w.due ≡ false → on_data_out s m h bytes ≡ broken s data_out_of_order m
data_refused s m h bytes w e f = ap (data_for s m h bytes) e ∙ rw f refl

pub data_taken_by : (s : Machine) (m : Message) (h : DataPdu) (bytes : List ℕ) (w : Write) → write_of s.tasks h.initiator_task_tag ≡ Some w
    → is_in_sequence (first_burst s.session.held) w h (bytes_received w + length bytes) w.due ≡ true → on_data_out s m h bytes
    ≡ Queued s.session (with_write (with_data w h bytes) s.tasks)
data_taken_by s m h bytes w e f = ap (data_for s m h bytes) e ∙ rw f refl

-- the session in which tasks go on
abbrev pub session_of : Machine → Next → Session
session_of s (Queued session tasks) = session
session_of s _ = s.session

taken_session : (s : Machine) (m : Message) (v : Option Write) → session_of s (data_taken s m v) ≡ s.session
taken_session s m None = refl
taken_session s m (Some v) = refl

for_session : (s : Machine) (m : Message) (h : DataPdu) (bytes : List ℕ) (w : Option Write) → session_of s (data_for s m h bytes w) ≡ s.session
for_session s m h bytes None = refl
for_session s m h bytes (Some w) = taken_session s m (data_out_taken (first_burst s.session.held) w h bytes)

pub data_session : (s : Machine) (m : Message) (h : DataPdu) (bytes : List ℕ) → session_of s (on_data_out s m h bytes) ≡ s.session
data_session s m h bytes = for_session s m h bytes (write_of s.tasks h.initiator_task_tag)

-- ---- any message

pub login_answers : {E : Type 0} (protected : Bool) (result : Result (Option ℕ) E) (n : ℕ) (s : Machine) (disk : Disk) (m : Message) (new : Machine)
    (before after : List ℕ) →
    is_machine_closed s ≡ false → is_over_limit s m.segment ≡ false → s.session.phase ≡ Login
    → DisklessPost (on disk s.tasks (target_login_step s.session m)) result s new before after
    → MessagePost protected m result (moment s (store_of disk n) before) (moment new (store_of disk n) after)
login_answers protected (Ok rule) n s disk m new before after live within is h = record {
  ok = leaves_serves protected n (on disk s.tasks (target_login_step s.session m)) (λ d. step_on d s disk m) disk rule new before after
      (λ d. live_step d s disk m Login live within is) refl refl h.machine h.output h.rule_is;
  err = tt;
}
login_answers protected (Err e) n s disk m new before after live within is h = record {
  ok = tt;
  err = inl (record { machine = h.err; rises = omega arith; disk_is = refl; unwritten = h.unwritten });
}

pub full_answers : {E : Type 0} (protected : Bool) (result : Result (Option ℕ) E) (s : Machine) (m : Message) (before : Store) (output : List ℕ)
    (new : Machine) (after : Store)
    (written : List ℕ) → is_machine_closed s ≡ false → is_over_limit s m.segment ≡ false → s.session.phase ≡ Full
    → NextPost protected (full_met s before.disk.count m).next result (moment s before output) (moment new after written)
    → MessagePost protected m result (moment s before output) (moment new after written)
full_answers protected (Ok rule) s m before output new after written live within is h = record {
  ok = serves_same protected before.failures after.failures (λ d. step_on d s before.disk m)
      (λ d. target_full_step d s before.disk m) rule new after.disk output written
      (λ d. ap joined_stepped (sym (live_step d s before.disk m Full live within is)))
      (accepts_by protected before.failures after.failures (full_met s before.disk.count m).accepted
      (λ d. next_step d s before.disk (full_met s before.disk.count m).next)
      rule new after.disk output written h.ok);
  err = tt;
}
full_answers protected (Err e) s m before output new after written live within is h = record { ok = tt; err = inr (is, h.err) }

-- ---- the commands that are there

pub commands_alone : (task : Task) (tasks : List Task) → tasks ≡ [] → commands_of (tasks ++ task ∷ []) ≡ command_of_task task
commands_alone task tasks none = ap (λ (ts : List Task). commands_of (ts ++ task ∷ [])) none ∙ append-nil (command_of_task task)

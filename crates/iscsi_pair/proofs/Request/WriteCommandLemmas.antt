-- The command of a write, and the data that follow it unasked.
use Rattle.std.specs.Prelude.{min, nat_le, nat_lt, ◌==◌, ◌&&◌, ◌||◌, not, if◌then◌else◌}
use Rattle.std.proofs.Common.{◌≡◌, ◌<◌, ◌≤◌, ℕ, ◌+◌, ◌^◌, Bool, true, false, List, [], ◌∷◌, length, take, Option, Some}
use Rattle.std.proofs.Common.{None, refl, sym, ap, ◌∙◌, subst, arith, ne_eqb}
use Rattle.std.proofs.lemmas.Bool.{eqb-true, le-ltb, lt-leb, ltb-true, not-false}
use Rattle.std.proofs.lemmas.List.{length-take}
use Rattle.scsi_cdb.specs.declared.sense.Sense.{Sense}
use Rattle.scsi_disk.specs.Disk.{Disk}
use Rattle.scsi_disk.specs.Effect.{Effect, deed_failure, disk_by, outcome_by, outcome_taken, wanted_data}
use Rattle.scsi_disk.specs.Plan.{expected_length, first_refusal, is_unknown, is_write, plan_by, plan_of, taken_length, wanted_length}
use Rattle.scsi_disk.specs.declared.order.Plan.{Plan}
use Rattle.scsi_disk.specs.declared.order.Plan.TheVariants.{Refuse, Take, Give}
use Rattle.scsi_disk.specs.declared.order.Order.{Order}
use Rattle.scsi_disk.proofs.PlanLemmas.{none_refused}
use Rattle.scsi_unit.specs.LogicalUnit.{LogicalUnit}
use Rattle.scsi_unit.specs.Deeds.{meant}
use Rattle.iscsi_pdu.specs.declared.head.Head.TheVariants as heads
use Rattle.iscsi_pdu.specs.declared.head.data_out.DataOut.{DataOut}
use Rattle.iscsi_pdu.specs.declared.head.scsi_command.ScsiCommand.{ScsiCommand}
use Rattle.iscsi_pdu.specs.declared.serial.Window.{Window}
use Rattle.iscsi_pdu.specs.Fields.{reserved_tag}
use Rattle.iscsi_stream.specs.Segment.{Bytes, segment_bytes}
use Rattle.iscsi_stream.specs.Stream.{Message}
use Rattle.iscsi_login.specs.Held.{Held, is_on, unasked}
use Rattle.iscsi_text.specs.declared.negotiated.NegKey.TheVariants as keys
use Rattle.iscsi_target_session.specs.Session as target_session
use Rattle.iscsi_target.specs.State as target
use Rattle.iscsi_target.specs.State.{TargetStep, unchanged}
use Rattle.iscsi_stream.specs.Pieces.{chunks}
use Rattle.iscsi_pdu.specs.Serial.{next_sn}
use Rattle.iscsi_target.specs.Execution.{as_told, execute, reliable}
use Rattle.iscsi_target.specs.Command.{breaks_burst_rules, is_bad_announcement, is_bad_segment, task_planned}
use Rattle.iscsi_target.specs.Machine.{task_begun, answers, having_accepted, step_on, then_stepped}
use Rattle.iscsi_target.proofs.Turns.SingleTaskLemmas.{request_alone}
use Rattle.iscsi_target.proofs.Steps.TurnLemmas.{then_nothing}
use Rattle.iscsi_initiator.specs.declared.outstanding.Outstanding.TheVariants as opens
use Rattle.iscsi_initiator.specs.State as initiator
use Rattle.iscsi_initiator.specs.State.{next_tag, sent_exp_stat_sn}
use Rattle.iscsi_initiator.specs.Progress.{WriteProgress}
use Rattle.iscsi_initiator.specs.Full.{data_outs, is_last_piece, sequence}
use Rattle.iscsi_initiator.specs.Submitted as initiator_writes
use Rattle.iscsi_initiator.specs.Submitted.{command_head, has_more, immediate_data}
use Rattle.iscsi_pair.specs.LocalDisk.{writing_order, local_command}
use Rattle.iscsi_pair.proofs.Wire.ToldOutcomes.{told}
use Rattle.iscsi_pair.proofs.Wire.WindowLemmas.{IsNear}
use Rattle.iscsi_pair.proofs.Request.AnswersInOrder.{Ends}
use Rattle.iscsi_pair.proofs.Request.ReadLemmas.{counted_on, ready}
use Rattle.iscsi_pair.proofs.Request.ReadLemmas.{window_now}
use Rattle.std.proofs.Math.Bool.{and-false}
use Rattle.iscsi_pair.proofs.Request.DataOutLemmas.{data_message, ArePieces, pieces_are}
use Rattle.iscsi_pair.proofs.Request.WriteTurnLemmas.{writing, Throughout, IsAnswered, executed_written, response_ends}

-- ---- the command breaks no rule of the first burst

segment_by : (on_ : Bool) (bytes : List ℕ) (size unasked_ : ℕ) → size ≤ unasked_
    → (let n = length (if on_ then take size bytes else []) in (nat_lt 0 n && (not (not (length bytes == 0)) || (not on_ || nat_lt unasked_ n))) ≡ false)
segment_by false bytes size unasked_ le = refl
segment_by true [] size unasked_ le = (let empty : List ℕ = [] in let none : nat_lt 0 (length (take size empty)) ≡ false =
    le-ltb 0 (length (take size empty)) (omega (arith, length-take size empty)) in rw none refl)
segment_by true (b ∷ bytes) size unasked_ le =
    let none : nat_lt unasked_ (length (take size (b ∷ bytes))) ≡ false =
    le-ltb unasked_ (length (take size (b ∷ bytes))) (omega (arith, length-take size (b ∷ bytes), le)) in
    let some : (length (b ∷ bytes) == 0) ≡ false = ne_eqb (length (b ∷ bytes)) 0 (λ e. omega (arith, e)) in
    rw (none, some) (and-false (nat_lt 0 (length (take size (b ∷ bytes)))))

more_by : (write late fits : Bool) → (fits ≡ true → late ≡ false) → (write && (not (not fits) && late)) ≡ false
more_by write late true none = (let e : late ≡ false = none refl in rw e (and-false write))
more_by write late false none = and-false write

announcement_by : (write waits : Bool) (n unasked_ burst_ : ℕ) → unasked_ ≡ burst_
    → (write && (not (not (not waits && nat_lt n burst_)) && (waits || nat_le unasked_ n))) ≡ false
announcement_by write true n unasked_ burst_ e = and-false write
announcement_by write false n unasked_ burst_ e =
    more_by write (nat_le unasked_ n) (nat_lt n burst_) (λ lt. lt-leb unasked_ n (omega (arith, ltb-true n burst_ lt, e)))

-- the command that goes out for a write
abbrev pub write_head : initiator.InitiatorSession → ℕ → List ℕ → List ℕ → ScsiCommand
write_head m lun cdb bytes =
    record (command_head m (not (has_more m bytes)) lun cdb) { write = not (length bytes == 0); expected_data_transfer_length = length bytes }

burst_kept : (m : initiator.InitiatorSession) (lun : ℕ) (cdb bytes : List ℕ)
    → breaks_burst_rules m.held (write_head m lun cdb bytes) (length (immediate_data m bytes))
    ≡ false
burst_kept m lun cdb bytes =
    let h : ScsiCommand = write_head m lun cdb bytes in
    let size : ℕ = min (unasked m.held (length bytes)) m.held.target_max_recv in
    let one : is_bad_segment m.held h (length (immediate_data m bytes)) ≡ false =
    segment_by (is_on m.held keys.ImmediateData) bytes size (unasked m.held h.expected_data_transfer_length) (omega arith) in
    let two : is_bad_announcement m.held h (length (immediate_data m bytes)) ≡ false =
    announcement_by h.write (is_on m.held keys.InitialR2T) (length (immediate_data m bytes)) (unasked m.held h.expected_data_transfer_length)
    (unasked m.held (length bytes)) (omega arith) in
    rw (one, two) refl

-- ---- what the command is planned to do

all_by : (is_write_ : Bool) (size n total expected : ℕ) → (is_write_ && not (expected == size)) ≡ false
    → (if is_write_ then Take size else Give n) ≡ Take total → total ≡ expected
all_by true size n total expected test e =
    let is : size ≡ total = cc in sym is ∙ sym (eqb-true expected size (not-false (expected == size) test))
all_by false size n total expected test e = absurd cc

-- a write takes all bytes that are sent
pub takes_all : (f : Option Sense) (order : Order) (blocks total : ℕ) → first_refusal order blocks ≡ f → plan_by f order blocks ≡ Take total
    → total ≡ order.expected
takes_all (Some sense) order blocks total f e = absurd cc
takes_all None order blocks total f e =
    all_by (is_write order.cdb) (taken_length order) (min (wanted_length order blocks) (expected_length order)) total order.expected
    (none_refused order blocks f).expects_all e

give_by : (is_write_ write unknown : Bool) (size wanted expected n : ℕ) → (write && not is_write_) ≡ false
    → (if is_write_ then Take size else Give (min wanted (if false || (write && (is_write_ || unknown)) then expected else 0))) ≡ Give n → n ≡ 0
give_by true write unknown size wanted expected n test e = absurd cc
give_by false true unknown size wanted expected n test e = absurd cc
give_by false false unknown size wanted expected n test e = (let is : min wanted 0 ≡ n = cc in omega (arith, is))

-- what a write orders of a disk that may have a unit
abbrev pub writes_here : Option LogicalUnit → ℕ → List ℕ → List ℕ → Order
writes_here unit lun cdb bytes = meant unit (writing_order lun cdb bytes)

-- any other command gives nothing to it
pub gives_none : (f : Option Sense) (unit : Option LogicalUnit) (lun : ℕ) (cdb bytes : List ℕ) (blocks n : ℕ)
    → first_refusal (writes_here unit lun cdb bytes) blocks ≡ f
    → plan_by f (writes_here unit lun cdb bytes) blocks ≡ Give n → n ≡ 0
gives_none (Some sense) unit lun cdb bytes blocks n f e = absurd cc
gives_none None unit lun cdb bytes blocks n f e =
    let order : Order = writes_here unit lun cdb bytes in
    give_by (is_write order.cdb) order.write (is_unknown order.cdb) (taken_length order) (wanted_length order blocks) order.expected n
    (none_refused order blocks f).takes_data e

taken_none : (reason : Option Sense) (order : Order) (n : ℕ) → (outcome_taken reason order n).bytes ≡ []
taken_none None order n = refl
taken_none (Some sense) order n = refl

pub outcome_none : (p : Plan) (disk : Disk) (order : Order) (bytes : List ℕ) → ((n : ℕ) → p ≡ Give n → n ≡ 0) → (outcome_by p disk order bytes).bytes ≡ []
outcome_none (Refuse sense) disk order bytes none = refl
outcome_none (Take n) disk order bytes none = taken_none (deed_failure disk order bytes) order n
outcome_none (Give n) disk order bytes none = ap (λ (x : ℕ). take x (wanted_data disk order)) (none n refl)

-- ---- data for which no write is open

dropped : (t : target.Machine) (cmd_sn : ℕ) (disk : Disk) (h : DataOut) (ps : List (List ℕ))
    → t.session.held.target_max_recv ≤ target_session.target_limit t.session.settings → ArePieces t.session.held.target_max_recv ps
    → answers false (ready t cmd_sn) disk (data_outs h ps) ≡ unchanged (ready t cmd_sn) disk
unfolding answers segment_bytes
dropped t cmd_sn disk h [] limit all = refl
dropped t cmd_sn disk h (piece ∷ more) limit all =
    let h' : DataOut = record h { is_final = is_last_piece more } in
    let h2 : DataOut = record h { data_sn = next_sn h.data_sn; buffer_offset = h.buffer_offset + length piece } in
    let one : step_on (reliable false) (ready t cmd_sn) disk (data_message h' piece) ≡ unchanged (ready t cmd_sn) disk =
    rw (
      le-ltb (target_session.target_limit t.session.settings) (length piece) (omega (arith, all.0.1, limit)),
      le-ltb t.session.held.target_max_recv (length piece) all.0.1,
    ) refl in
    ap (λ (x : TargetStep). then_stepped x (answers false x.machine x.disk (data_outs h2 more))) one ∙ dropped t cmd_sn disk h2 more limit all.1

-- ---- the command, and the data that follow it unasked

-- the initiator that has sent them
abbrev pub begun_write : initiator.InitiatorSession → initiator.InitiatorSession
begun_write m = record m { initiator_task_tag = next_tag m.initiator_task_tag; cmd_sn = next_sn m.cmd_sn }

abbrev pub first_sent : initiator.InitiatorSession → List ℕ → WriteProgress
first_sent m bytes = record { bytes = bytes; sent = length (immediate_data m bytes) + length (initiator_writes.unsolicited m bytes); next_r2t_sn = 0 }

abbrev pub write_message : initiator.InitiatorSession → ℕ → List ℕ → List ℕ → Message
write_message m lun cdb bytes = record { head = heads.ScsiCommand (write_head m lun cdb bytes); segment = Bytes (immediate_data m bytes) }

abbrev pub unasked_data : initiator.InitiatorSession → List ℕ → List Message
unasked_data m bytes = sequence (begun_write m) None reserved_tag (length (immediate_data m bytes)) (initiator_writes.unsolicited m bytes)

pub command_taken : (m : initiator.InitiatorSession) (t : target.Machine) (disk : Disk) (lun : ℕ) (cdb bytes : List ℕ) → m.cmd_sn < 2 ^ 32 → t.session.held ≡ m.held
    → t.session.held.target_max_recv ≤ target_session.target_limit t.session.settings
    → length (immediate_data m bytes) ≤ t.session.held.target_max_recv
    → step_on (reliable false) (ready t m.cmd_sn) disk (write_message m lun cdb bytes)
    ≡ having_accepted (write_message m lun cdb bytes ∷ []) (task_begun (reliable false) (ready t (next_sn m.cmd_sn)) disk
    (task_planned (write_head m lun cdb bytes) (writes_here (target.unit_of t.session) lun cdb bytes) (immediate_data m bytes)
    (plan_of (writes_here (target.unit_of t.session) lun cdb bytes) disk.count)))
unfolding segment_bytes
command_taken m t disk lun cdb bytes lt held limit short =
    let kept : breaks_burst_rules t.session.held (write_head m lun cdb bytes) (length (immediate_data m bytes)) ≡ false =
    ap (λ (k : Held). breaks_burst_rules k (write_head m lun cdb bytes) (length (immediate_data m bytes))) held ∙ burst_kept m lun cdb bytes in
    request_alone (reliable false) (ready t m.cmd_sn).session disk (write_message m lun cdb bytes) _
    (record {
      phase = refl;
      within = le-ltb (target_session.target_limit t.session.settings) (length (immediate_data m bytes)) (omega (arith, short, limit));
      came = refl;
      may = refl;
      short = le-ltb t.session.held.target_max_recv (length (immediate_data m bytes)) short;
    }) refl refl (window_now m.cmd_sn lt) kept

-- the answers to the command and the data behind it
abbrev pub first_answers : initiator.InitiatorSession → target.Machine → Disk → ℕ → List ℕ → List ℕ → Plan → TargetStep
first_answers m t disk lun cdb bytes p =
    let r = task_begun (reliable false) (ready t (next_sn m.cmd_sn)) disk
    (task_planned (write_head m lun cdb bytes) (writes_here (target.unit_of t.session) lun cdb bytes) (immediate_data m bytes) p) in
    then_stepped r (answers false r.machine r.disk (unasked_data m bytes))

-- The target answers well, and it comes to the outcome of this order.
abbrev pub Comes : Option LogicalUnit → initiator.InitiatorSession → initiator.InitiatorSession → Order → List ℕ → Disk → TargetStep → Type 0
Comes unit m i order bytes disk r = IsAnswered m.held r × Ends (length bytes + 1) m.held unit i r (local_command (told unit disk order bytes))

same_effect : (p : Plan) (disk : Disk) (order : Order) (bytes : List ℕ) → ((n : ℕ) → p ≡ Take n → ⊥) → disk_by p disk order [] ≡ disk_by p disk order bytes
same_effect (Take n) disk order bytes none = absurd (none n refl)
same_effect (Give n) disk order bytes none = refl
same_effect (Refuse sense) disk order bytes none = refl

same_outcome : (p : Plan) (disk : Disk) (order : Order) (bytes : List ℕ) → ((n : ℕ) → p ≡ Take n → ⊥)
    → outcome_by p disk order [] ≡ outcome_by p disk order bytes
same_outcome (Take n) disk order bytes none = absurd (none n refl)
same_outcome (Give n) disk order bytes none = refl
same_outcome (Refuse sense) disk order bytes none = refl

-- a command that takes no data: what follows it is dropped
pub executed_alone : (m : initiator.InitiatorSession) (t : target.Machine) (disk : Disk) (lun : ℕ) (cdb bytes : List ℕ) (window : Window)
    → Throughout (begun_write m) t (next_sn m.cmd_sn) bytes (writes_here (target.unit_of t.session) lun cdb bytes) disk → IsNear (next_sn m.cmd_sn) window
    → ((n : ℕ) → plan_of (writes_here (target.unit_of t.session) lun cdb bytes) disk.count ≡ Take n → ⊥)
    → Comes (target.unit_of t.session) m (writing (begun_write m) (first_sent m bytes) window) (writes_here (target.unit_of t.session) lun cdb bytes) bytes disk
    (let r = execute (reliable false) (ready t (next_sn m.cmd_sn)) disk (next_tag m.initiator_task_tag) (writes_here (target.unit_of t.session) lun cdb bytes) [] in
    then_stepped r (answers false r.machine r.disk (unasked_data m bytes)))
executed_alone m t disk lun cdb bytes window a near none =
    let unit : Option LogicalUnit = target.unit_of t.session in
    let order : Order = writes_here unit lun cdb bytes in
    let n : ℕ = next_sn m.cmd_sn in
    let r : TargetStep = execute (reliable false) (ready t n) disk (next_tag m.initiator_task_tag) order [] in
    let after : Effect = told unit disk order bytes in
    let i : initiator.InitiatorSession = writing (begun_write m) (first_sent m bytes) window in
    let uns : List ℕ = initiator_writes.unsolicited m bytes in
    let h : DataOut = record {
      is_final = false;
      lun = None;
      initiator_task_tag = next_tag m.initiator_task_tag;
      target_transfer_tag = reserved_tag;
      exp_stat_sn = sent_exp_stat_sn m;
      data_sn = 0;
      buffer_offset = length (immediate_data m bytes);
    } in
    let lt : 0 < t.session.held.target_max_recv = subst (λ (x : Held). 0 < x.target_max_recv) (sym a.held) (omega (arith, a.is_held.target_max_recv.0)) in
    let gone : answers false r.machine r.disk (unasked_data m bytes) ≡ unchanged r.machine r.disk =
    ap (λ (k : Held). answers false r.machine r.disk (data_outs h (chunks k.target_max_recv uns))) (sym a.held)
    ∙ dropped (counted_on t) n r.disk h (chunks t.session.held.target_max_recv uns) a.segment (pieces_are (length uns) t.session.held.target_max_recv uns lt) in
    let same : told unit disk order [] ≡ after = λ i_. as_told unit disk.count order (record {
      disk = same_effect (plan_of order disk.count) disk order bytes none i_;
      outcome = same_outcome (plan_of order disk.count) disk order bytes none i_;
    }) in
    let well : IsAnswered m.held r = executed_written (begun_write m) t n bytes order disk (next_tag m.initiator_task_tag) [] a refl in
    let ends_ : Ends (length bytes + 1) m.held unit i r (local_command after) =
    response_ends (length bytes + 1) (omega arith) (begun_write m) t n (opens.Out (first_sent m bytes)) window bytes order disk
    (next_tag m.initiator_task_tag) [] a near (λ h_. refl) refl
    same in
    subst (λ (x : TargetStep). Comes unit m i order bytes disk (then_stepped r x)) (sym gone)
    (subst (Comes unit m i order bytes disk) (sym (then_nothing r)) (well, ends_))

-- The whole of a read.
use Rattle.std.specs.Prelude.{unwrap_or, ◌-◌, ◌*◌, min, nat_lt, ◌==◌, ◌&&◌, ◌||◌, not, if◌then◌else◌, is_some}
use Rattle.std.proofs.Common.{◌≡◌, inl, ◌<◌, ◌≤◌, ℕ, ◌+◌, ◌^◌, ◌%◌, Bool, true, false, List, [], ◌∷◌, ◌++◌, length, Option, Some, None, refl}
use Rattle.std.proofs.Common.{sym, ap, ◌∙◌, subst, arith}
use Rattle.std.proofs.Math.Nat.{mod-lt}
use Rattle.std.proofs.lemmas.Bool.{le-ltb, ltb-false}
use Rattle.std.proofs.lemmas.List.{length-append, length-take}
use Rattle.scsi_cdb.specs.declared.sense.Sense.{Sense}
use Rattle.scsi_disk.specs.declared.order.Order.{Order}
use Rattle.scsi_disk.specs.declared.order.Outcome.{Outcome}
use Rattle.scsi_disk.specs.declared.order.Plan.{Plan}
use Rattle.scsi_disk.specs.declared.order.Plan.TheVariants.{Refuse, Take, Give}
use Rattle.scsi_disk.specs.Disk.{Disk}
use Rattle.scsi_disk.specs.Effect.{Effect, deed_failure, outcome_by, outcome_taken, wanted_data}
use Rattle.scsi_disk.specs.Plan.{expected_length, first_refusal, is_unknown, is_write, plan_by, plan_of, taken_length, named_transfer, wanted_length}
use Rattle.scsi_disk.proofs.PlanLemmas.{none_refused}
use Rattle.scsi_unit.specs.LogicalUnit.{LogicalUnit}
use Rattle.scsi_unit.specs.Deeds.{meant}
use Rattle.iscsi_pdu.specs.declared.head.Head.TheVariants as heads
use Rattle.iscsi_pdu.specs.declared.serial.Window.{Window}
use Rattle.iscsi_pdu.specs.Serial.{next_sn, is_within}
use Rattle.iscsi_pdu.specs.Meaning.{AreBytes}
use Rattle.iscsi_pdu.specs.declared.head.scsi_command.ScsiCommand.{ScsiCommand}
use Rattle.iscsi_stream.specs.Segment.{Bytes, segment_bytes}
use Rattle.iscsi_stream.specs.Stream.{Message}
use Rattle.iscsi_login.specs.declared.phase.Phase.{Phase}
use Rattle.iscsi_login.specs.declared.phase.Phase.TheVariants as phases
use Rattle.iscsi_text.specs.declared.negotiated.Session.TheVariants as sessions
use Rattle.iscsi_login.specs.Held.{Held, IsHeld}
use Rattle.iscsi_target_session.specs.Session as target_session
use Rattle.iscsi_target.specs.State as target
use Rattle.iscsi_target_session.specs.Session.{answer_message}
use Rattle.iscsi_target.specs.Command.{task_planned}
use Rattle.iscsi_target.specs.Machine.{task_begun, answers, having_accepted, step_on}
use Rattle.iscsi_target.specs.Execution.{command_answers, execute, data_ins, data_in_head, data_in_parts, response_head, sense_segment}
use Rattle.iscsi_target.specs.Execution.{reliable}
use Rattle.iscsi_target.proofs.Turns.SingleTaskLemmas.{request_alone}
use Rattle.iscsi_target.proofs.Steps.TurnLemmas.{then_nothing}
use Rattle.iscsi_target.proofs.Answers.DataInTilingLaw.{Parts, bytes_of}
use Rattle.iscsi_initiator.specs.declared.outstanding.Outstanding.TheVariants as opens
use Rattle.iscsi_initiator.specs.State as initiator
use Rattle.iscsi_initiator.specs.State.{next_tag, sent_exp_stat_sn}
use Rattle.iscsi_initiator.specs.declared.request.Request.{Request}
use Rattle.iscsi_initiator.specs.declared.request.Request.TheVariants as requests
use Rattle.iscsi_initiator.specs.declared.request.SubmitFault.{SubmitFault}
use Rattle.iscsi_initiator.specs.declared.request.SubmitFault.TheVariants as refusals_
use Rattle.iscsi_initiator.specs.Submitted.{SubmitStep, accepted, command_head, or_accepted, submit_refusal, refusal_in, refusal_when_full, submitted}
use Rattle.iscsi_initiator.specs.Progress.{ReadProgress}
use Rattle.iscsi_pair.specs.LocalDisk.{AreInStep, DiskExchange, effect_here, reading_order, window_of_eight, local_command}
use Rattle.iscsi_pair.proofs.Wire.WindowLemmas.{near_next, near_now, tag_after, tells_eight}
use Rattle.iscsi_pair.proofs.Wire.WrittenPdus.{command_readable, data_in_readable, outcome_readable}
use Rattle.iscsi_pair.proofs.Wire.ToldOutcomes.{here_is, told, told_few}
use Rattle.iscsi_pair.proofs.Wire.OutcomeRanges.{HasRoom, outcome_fits, short_block}
use Rattle.iscsi_pair.proofs.Request.AnswersInOrder.{ArePlain, Begins, Ends, most_answers, received_by, plain_more, plain_one, short_message}
use Rattle.iscsi_target.proofs.Answers.OrderLemmas.{expected_by}
use Rattle.iscsi_target.proofs.Answers.DataInLengthLemmas.{AreShort}
use Rattle.iscsi_pair.proofs.Request.DataInLemmas.{reading, told_window, finished, ReadReceived, AreGiven, are_given, read_received}

-- ---- what the target answers is read as it was written

data_ins_written : (most : ℕ) (t : target.Machine) (tag data_sn offset : ℕ) (given : Parts) (more : List Message) → tag < 2 ^ 32 → t.session.exp_cmd_sn < 2 ^ 32
    → most < 2 ^ 24 → AreShort most given
    → data_sn + length given < 2 ^ 32 → offset + length (bytes_of given) < 2 ^ 32 → ArePlain most more
    → ArePlain most (data_ins t.session (target.waiting_tasks t.tasks) tag data_sn offset given ++ more)
data_ins_written most t tag data_sn offset [] more tag_fits cmd_sn size short few room plain = plain
data_ins_written most t tag data_sn offset (part ∷ given) more tag_fits cmd_sn size short few room plain =
    let len = length-append part.0 (bytes_of given) in
    plain_more most (answer_message (data_in_head t.session (target.waiting_tasks t.tasks) tag data_sn offset part.1) part.0)
    (data_ins t.session (target.waiting_tasks t.tasks) tag (data_sn + 1) (offset + length part.0) given ++ more)
    (λ logins. data_in_readable logins t tag data_sn offset part.1 part.0 tag_fits (omega (arith, few)) (omega (arith, room)) cmd_sn
    (omega (arith, short.0, size)))
    (short_message (data_in_head t.session (target.waiting_tasks t.tasks) tag data_sn offset part.1) part.0 most short.0)
    (data_ins_written most t tag (data_sn + 1) (offset + length part.0) given more tag_fits cmd_sn size short.1 (omega (arith, few)) (omega (arith, room, len))
    plain)

sense_most : (sense : Option Sense) → length (sense_segment sense) ≤ 20
sense_most None = omega arith
sense_most (Some sense) = omega arith

pub command_written : (t : target.Machine) (tag : ℕ) (outcome : Outcome) → IsHeld t.session.held → tag < 2 ^ 32 → t.session.exp_cmd_sn < 2 ^ 32
    → t.session.stat_sn < 2 ^ 32 → length outcome.bytes ≤ 4194304 → HasRoom outcome
    → ArePlain t.session.held.initiator_max_recv (command_answers t.session (target.waiting_tasks t.tasks) tag outcome
    (data_in_parts t.session outcome.bytes))
command_written t tag outcome is tag_fits cmd_sn stat_sn room fits =
    let most : ℕ = t.session.held.initiator_max_recv in
    let g : AreGiven t.session outcome.bytes = are_given t.session outcome.bytes is in
    let given : Parts = data_in_parts t.session outcome.bytes in
    let size : most < 2 ^ 24 = omega (arith, is.initiator_max_recv.1) in
    let count : length given < 2 ^ 32 = omega (arith, g.few, room) in
    data_ins_written most t tag 0 0 given (answer_message (response_head t.session (target.waiting_tasks t.tasks) tag outcome (length given))
    (sense_segment outcome.sense)
    ∷ []) tag_fits cmd_sn size g.short (omega (arith, count))
    (omega (arith, ap (λ (x : List ℕ). length x) g.all, room))
    (plain_one most (answer_message (response_head t.session (target.waiting_tasks t.tasks) tag outcome (length given)) (sense_segment outcome.sense))
    (λ logins. outcome_readable logins t tag outcome (length given) fits.status fits.residual tag_fits count stat_sn cmd_sn)
    (short_message (response_head t.session (target.waiting_tasks t.tasks) tag outcome (length given)) (sense_segment outcome.sense) most
    (omega (arith, sense_most outcome.sense, is.initiator_max_recv.0))))

-- ---- the target answers the command

-- a target in full feature phase with nothing open, to which this CmdSN is due
abbrev pub ready : target.Machine → ℕ → target.Machine
ready t cmd_sn = record {
  session = record t.session { phase = phases.Full; session_type = sessions.Normal; exp_cmd_sn = cmd_sn };
  tasks = [];
}

-- the target once an answer went out that carries StatSN
abbrev pub counted_on : target.Machine → target.Machine
counted_on t = record t { session = target_session.stat_sn_advanced t.session }

-- what goes out for a read
abbrev read_command : initiator.InitiatorSession → ℕ → List ℕ → ℕ → Message
read_command m lun cdb expected = record {
  head = heads.ScsiCommand (record (command_head m true lun cdb) { read = not (expected == 0); expected_data_transfer_length = expected });
  segment = Bytes [];
}

-- the CmdSN that is due is in the window
pub window_now : (n : ℕ) → n < 2 ^ 32 → is_within n n ((n + (2 ^ 32 + 7 - 0)) % 2 ^ 32) ≡ true
window_now n lt =
    let high : ((n + (2 ^ 32 + 7 - 0)) % 2 ^ 32 + (2 ^ 32 - n)) % 2 ^ 32 ≡ 7 = omega (arith, lt) in
    let low : (n + (2 ^ 32 - n)) % 2 ^ 32 ≡ 0 = omega (arith, lt) in
    rw (high, low) refl

-- a command that takes no data waits for none
planned_now : (p : Plan) (t : target.Machine) (cmd_sn : ℕ) (disk : Disk) (h : ScsiCommand) (order : Order) → ((total : ℕ) → p ≡ Take total → total ≡ 0)
    → task_begun (reliable false) (ready t cmd_sn) disk (task_planned h order [] p)
    ≡ execute (reliable false) (ready t cmd_sn) disk h.initiator_task_tag order []
planned_now (Take total) t cmd_sn disk h order none = (let e : total ≡ 0 = none total refl in rw e refl)
planned_now (Give n) t cmd_sn disk h order none = refl
planned_now (Refuse sense) t cmd_sn disk h order none = refl

-- a write without data is refused, unless it has no blocks
none_by : (b : Bool) (size n total : ℕ) → (b && not false && nat_lt 0 size) ≡ false
    → (if b then Take size else Give n) ≡ Take total → total ≡ 0
none_by true size n total test e = (let is : size ≡ total = cc in omega (arith, is, ltb-false 0 size test))
none_by false size n total test e = absurd cc

-- what a read orders of a disk that may have a unit
abbrev reads_here : Option LogicalUnit → ℕ → List ℕ → ℕ → Order
reads_here unit lun cdb expected = meant unit (reading_order lun cdb expected)

takes_none : (f : Option Sense) (unit : Option LogicalUnit) (lun : ℕ) (cdb : List ℕ) (expected blocks total : ℕ)
    → first_refusal (reads_here unit lun cdb expected) blocks ≡ f
    → plan_by f (reads_here unit lun cdb expected) blocks ≡ Take total → total ≡ 0
takes_none (Some sense) unit lun cdb expected blocks total f e = absurd cc
takes_none None unit lun cdb expected blocks total f e =
    let order : Order = reads_here unit lun cdb expected in
    none_by (is_write order.cdb) (taken_length order) (min (wanted_length order blocks) (expected_length order)) total
    (none_refused order blocks f).sends_some e

-- no more is given than is expected
given_by : (b : Bool) (size wanted most n : ℕ) → (if b then Take size else Give (min wanted most)) ≡ Give n → n ≤ most
given_by true size wanted most n e = absurd cc
given_by false size wanted most n e = (let is : min wanted most ≡ n = cc in omega (arith, is))

gives_few : (f : Option Sense) (order : Order) (blocks n : ℕ) → plan_by f order blocks ≡ Give n → n ≤ order.expected
gives_few (Some sense) order blocks n e = absurd cc
gives_few None order blocks n e =
    omega (
      arith,
      given_by (is_write order.cdb) (taken_length order) (wanted_length order blocks) (expected_length order) n e,
      expected_by (order.read || (order.write && (is_write order.cdb || is_unknown order.cdb))) order.expected,
    )

taken_few : (reason : Option Sense) (order : Order) (n most : ℕ) → length (outcome_taken reason order n).bytes ≤ most
taken_few None order n most = omega arith
taken_few (Some sense) order n most = omega arith

outcome_few : (p : Plan) (disk : Disk) (order : Order) (bytes : List ℕ) (most : ℕ) → ((n : ℕ) → p ≡ Give n → n ≤ most)
    → length (outcome_by p disk order bytes).bytes ≤ most
outcome_few (Refuse sense) disk order bytes most few = omega arith
outcome_few (Take n) disk order bytes most few = taken_few (deed_failure disk order bytes) order n most
outcome_few (Give n) disk order bytes most few = omega (arith, few n refl, length-take n (wanted_data disk order))

-- the command is executed
read_taken : (m : initiator.InitiatorSession) (t : target.Machine) (disk : Disk) (lun : ℕ) (cdb : List ℕ) (expected : ℕ) → m.cmd_sn < 2 ^ 32
    → step_on (reliable false) (ready t m.cmd_sn) disk (read_command m lun cdb expected)
    ≡ having_accepted (read_command m lun cdb expected ∷ []) (execute (reliable false) (ready t (next_sn m.cmd_sn)) disk (next_tag m.initiator_task_tag)
    (reads_here t.session.settings.extras.unit lun cdb expected) [])
unfolding segment_bytes
read_taken m t disk lun cdb expected lt =
    let order : Order = reads_here t.session.settings.extras.unit lun cdb expected in
    let h : ScsiCommand = record (command_head m true lun cdb) { read = not (expected == 0); expected_data_transfer_length = expected } in
    request_alone (reliable false) (ready t m.cmd_sn).session disk (read_command m lun cdb expected) _
    (record {
      phase = refl;
      within = le-ltb (target_session.target_limit t.session.settings) 0 (omega arith);
      came = refl;
      may = refl;
      short = le-ltb t.session.held.target_max_recv 0 (omega arith);
    }) refl refl (window_now m.cmd_sn lt) refl
    ∙ ap (having_accepted (read_command m lun cdb expected ∷ []))
    (planned_now (plan_of order disk.count) t (next_sn m.cmd_sn) disk h order
    (λ total. takes_none (first_refusal order disk.count) t.session.settings.extras.unit lun cdb expected disk.count total refl))

-- ---- the whole of a read

pub accepts_it : (f : Option SubmitFault) (m : initiator.InitiatorSession) (request : Request) → (or_accepted f m request).refusal ≡ None
    → or_accepted f m request ≡ accepted m request
accepts_it None m request e = refl
accepts_it (Some fault) m request e = absurd cc

pub submitted_is : (m : initiator.InitiatorSession) (request : Request) → (submitted m request).refusal ≡ None → submitted m request ≡ accepted m request
unfolding submitted
submitted_is m request e = accepts_it (submit_refusal m request) m request e

-- a request that is accepted is not too long
pub not_long : (busy shut long : Bool) → (if busy then Some refusals_.Busy else
    (if shut then Some refusals_.Shut else (if long then Some refusals_.TooLong else None))) ≡ None → long ≡ false
not_long true shut long e = absurd cc
not_long false true long e = absurd cc
not_long false false true e = absurd cc
not_long false false false e = refl

pub unrefused : (f : Option SubmitFault) (m : initiator.InitiatorSession) (request : Request) → (or_accepted f m request).refusal ≡ None → f ≡ None
unrefused None m request e = refl
unrefused (Some fault) m request e = absurd cc

few_expected : (m : initiator.InitiatorSession) (lun : ℕ) (cdb : List ℕ) (expected : ℕ) → m.phase ≡ phases.Full
    → (submitted m (requests.In lun cdb expected)).refusal ≡ None → expected ≤ 4194304
unfolding submitted
few_expected m lun cdb expected full e =
    let none : refusal_in m.phase m (requests.In lun cdb expected) ≡ None =
    unrefused (submit_refusal m (requests.In lun cdb expected)) m (requests.In lun cdb expected) e in
    let when : refusal_when_full m (requests.In lun cdb expected) ≡ None = subst (λ (p : Phase). refusal_in p m (requests.In lun cdb expected) ≡ None) full
    none in
    ltb-false 4194304 expected
    (not_long (is_some m.outstanding || is_some m.done) (not (is_within m.cmd_sn m.window.exp.0 m.window.max.0)) (nat_lt 4194304 expected) when)

-- A command or a ping was answered: both ends are in step again.
pub in_step_again : (m : initiator.InitiatorSession) (t : target.Machine) (window : Window) → t.session.held ≡ m.held → IsHeld m.held
    → m.held.target_max_recv ≤ target_session.target_limit t.session.settings → m.initiator_task_tag ≤ 0xffff_fffe → m.cmd_sn < 2 ^ 32
    → told_window window (ready t m.cmd_sn) ≡ window_of_eight m.cmd_sn
    → AreInStep (record m {
      phase = phases.Full;
      exp_stat_sn = Some (next_sn t.session.stat_sn);
      window = told_window window (ready t m.cmd_sn);
      outstanding =
          None;
      done = None;
    }) (counted_on (ready t m.cmd_sn))
in_step_again m t window held is_held segment tag cmd_sn told_ = record {
  initiator_phase = refl;
  target_phase = refl;
  session = refl;
  none_open = refl;
  none_done = refl;
  no_task = refl;
  held = held;
  is_held = is_held;
  segment = segment;
  tag_fits = tag;
  cmd_sn = refl;
  cmd_sn_fits = cmd_sn;
  window = told_;
  stat_sn = refl;
  stat_sn_fits = mod-lt (t.session.stat_sn + 1) (omega arith);
}

-- the number of what was received goes out
pub stat_sn_sent : (m : initiator.InitiatorSession) (t : target.Machine) → AreInStep m t → sent_exp_stat_sn m < 2 ^ 32
stat_sn_sent m t a = subst (λ (n : Option ℕ). unwrap_or n 0 < 2 ^ 32) (sym a.stat_sn) a.stat_sn_fits

pub local_read : (m : initiator.InitiatorSession) (t : target.Machine) (disk : Disk) (lun : ℕ) (cdb : List ℕ) (expected : ℕ) → lun < 2 ^ 64 → length cdb ≡ 16
    → AreBytes cdb → AreInStep m t → (submitted m (requests.In lun cdb expected)).refusal ≡ None
    → Begins m.held m t disk (requests.In lun cdb expected)
    (local_command (effect_here (target.unit_of t.session) disk (reading_order lun cdb expected) []))
unfolding answers
local_read m t disk lun cdb expected on_ size are a e =
    let request : Request = requests.In lun cdb expected in
    let unit : Option LogicalUnit = t.session.settings.extras.unit in
    let order : Order = reads_here unit lun cdb expected in
    let after : Effect = told unit disk order [] in
    let here : effect_here unit disk (reading_order lun cdb expected) [] ≡ after = here_is unit disk (reading_order lun cdb expected) [] in
    let n : ℕ = next_sn m.cmd_sn in
    let fits : n < 2 ^ 32 = mod-lt (m.cmd_sn + 1) (omega arith) in
    let few : expected ≤ 4194304 = few_expected m lun cdb expected a.initiator_phase e in
    let sent : submitted m request ≡ accepted m request = submitted_is m request e in
    let begun_ : initiator.InitiatorSession = record m { initiator_task_tag = next_tag m.initiator_task_tag; cmd_sn = next_sn m.cmd_sn } in
    let t' : target.Machine = ready t n in
    let r0 : ReadProgress = record { expected = expected; received = []; next_data_sn = 0 } in
    let is_t : t ≡ ready t m.cmd_sn = λ i. record {
      session = record t.session {
        phase = a.target_phase i;
        session_type = a.session i;
        exp_cmd_sn =
            a.cmd_sn i;
      };
      tasks = a.no_task i;
    } in
    let is_m : (accepted m request).machine ≡ reading begun_ r0 m.window = λ i. record begun_ {
      phase = a.initiator_phase i;
      outstanding =
          Some (opens.In r0);
    } in
    let executed : target.TargetStep = having_accepted (read_command m lun cdb expected ∷ [])
    (execute (reliable false) t' disk (next_tag m.initiator_task_tag) order
    []) in
    let r : answers false t disk (submitted m request).output ≡ executed =
    ap (λ (s : SubmitStep). answers false t disk s.output) sent
    ∙ then_nothing (step_on (reliable false) t disk (read_command m lun cdb expected))
    ∙ ap (λ (x : target.Machine). step_on (reliable false) x disk (read_command m lun cdb expected)) is_t
    ∙ read_taken m t disk lun cdb expected a.cmd_sn_fits in
    let tag : next_tag m.initiator_task_tag ≤ 0xffff_fffe = tag_after m.initiator_task_tag a.tag_fits in
    let room : length after.outcome.bytes ≤ expected = told_few unit disk order []
    (outcome_few (plan_of order disk.count) disk order [] expected (λ n. gives_few (first_refusal order disk.count) order disk.count n)) in
    let h : ReadReceived begun_ t' r0 m.window after.outcome = read_received begun_ t' m.window after.outcome expected a.held a.is_held a.stat_sn a.none_done
    room
    (omega (arith, few)) in
    let last : DiskExchange = record {
      initiator = finished begun_ t' h.told after.outcome after.outcome.bytes;
      target = counted_on t';
      disk = after.disk;
      answers =
          [];
    } in
    let told_ : told_window h.told t' ≡ window_of_eight n =
    tells_eight n h.told fits (h.kept n (λ w near. near_now n (told_window w t') fits (tells_eight n w fits near))
    (near_next n m.cmd_sn m.window a.cmd_sn_fits refl a.window)) in
    let ends_ : Ends most_answers m.held unit (reading begun_ r0 m.window) executed (local_command after) = record {
      last = last;
      leads = h.leads 0 most_answers (omega (arith, room, few)) m.held (counted_on t') after.disk last (0, omega arith, refl);
      ended = record {
        done_is = refl;
        silent = refl;
        disk_is = refl;
        at_rest = inl (in_step_again begun_ t h.told a.held a.is_held a.segment tag fits told_, refl, refl);
      };
    } in
    let written : ArePlain m.held.target_max_recv (read_command m lun cdb expected ∷ []) =
    plain_one m.held.target_max_recv (read_command m lun cdb expected)
    (λ logins. command_readable logins m true (not (expected == 0)) false lun cdb [] expected on_ size are a.tag_fits
    (omega (arith, few)) a.cmd_sn_fits (stat_sn_sent m t a) (omega arith))
    (short_message (read_command m lun cdb expected).head [] m.held.target_max_recv (omega arith)) in
    subst (λ (x : Effect). Begins m.held m t disk request (local_command x)) (sym here) (record {
      received = received_by m.held t disk (submitted m request).output executed r (subst (λ (s : SubmitStep). ArePlain m.held.target_max_recv s.output) (sym
          sent)
          written) refl refl
          (subst (λ (k : Held). ArePlain k.initiator_max_recv executed.answers) a.held
          (command_written t' (next_tag m.initiator_task_tag) after.outcome (subst IsHeld (sym a.held) a.is_held) (omega (arith, tag)) fits a.stat_sn_fits
          (omega (arith, room, few)) (outcome_fits unit disk order [] few (short_block unit cdb size are))));
      ends = subst (λ (s : SubmitStep). Ends most_answers m.held unit s.machine (answers false t disk (submitted m request).output) (local_command after)) (sym sent)
          (subst (λ (x : initiator.InitiatorSession). Ends most_answers m.held unit x (answers false t disk (submitted m request).output) (local_command after))
          (sym is_m)
          (subst (λ (x : target.TargetStep). Ends most_answers m.held unit (reading begun_ r0 m.window) x (local_command after)) (sym r) ends_));
    })

-- A write, from turn to turn: an R2T goes out, and its sequence comes.
use Rattle.std.specs.Prelude.{◌==◌}
use Rattle.std.specs.Bool.{then_some}
use Rattle.std.proofs.Common.{◌≡◌, inl, ◌<◌, ◌≤◌, ℕ, zero, suc, ◌+◌, ◌^◌, Bool, true, false, List, [], ◌∷◌, ◌++◌, length, take, drop, Option, Some}
use Rattle.std.proofs.Common.{None, refl, sym, ap, ◌∙◌, subst, arith}
use Rattle.std.proofs.Math.Seq.{take-add}
use Rattle.std.proofs.lemmas.Bool.{eq-eqb, eqb-false, eqb-true, le-leb, le-ltb}
use Rattle.std.proofs.lemmas.List.{length-take, length-drop, take_all}
use Rattle.scsi_disk.specs.Disk.{Disk}
use Rattle.scsi_disk.specs.Effect.{Effect}
use Rattle.scsi_disk.specs.declared.order.Order.{Order}
use Rattle.scsi_unit.specs.LogicalUnit.{LogicalUnit}
use Rattle.iscsi_pdu.specs.declared.head.data_out.DataOut.{DataOut}
use Rattle.iscsi_pdu.specs.declared.serial.Window.{Window}
use Rattle.iscsi_pdu.specs.Fields.{is_tag}
use Rattle.iscsi_stream.specs.Segment.{segment_bytes}
use Rattle.iscsi_stream.specs.Stream.{Message}
use Rattle.iscsi_login.specs.Held.{Held, IsHeld, first_burst, max_burst}
use Rattle.iscsi_target.specs.declared.due.Due.TheVariants.{Nothing, Solicited}
use Rattle.iscsi_target_session.specs.Session as target_session
use Rattle.iscsi_target.specs.State as target
use Rattle.iscsi_target_session.specs.Session.{answer_message}
use Rattle.iscsi_target.specs.Write.{Write}
use Rattle.iscsi_target.specs.declared.tasks.Task.TheVariants.{Data}
use Rattle.iscsi_target.specs.State.{TargetStep}
use Rattle.iscsi_stream.specs.Pieces.{Pieces, piece_data, chunks}
use Rattle.iscsi_pdu.specs.Serial.{moved, next_sn}
use Rattle.iscsi_target.specs.Transfer.{with_r2t, desired, is_whole_write, bytes_received}
use Rattle.iscsi_target.specs.Execution.{command_answers, execute, data_in_parts, response_head, sense_segment, reliable}
use Rattle.iscsi_target.specs.Command.{send_r2t, proceed, r2t_head}
use Rattle.iscsi_target.specs.Machine.{answers, is_machine_closed}
use Rattle.iscsi_target.proofs.Steps.SendingLemmas.{held_burst}
use Rattle.iscsi_initiator.specs.declared.outstanding.Outstanding.{Outstanding}
use Rattle.iscsi_initiator.specs.declared.outstanding.Outstanding.TheVariants as opens
use Rattle.iscsi_initiator.specs.declared.request.Done.TheVariants as done
use Rattle.iscsi_initiator.specs.State as initiator
use Rattle.iscsi_initiator.specs.State.{sent_exp_stat_sn, serial}
use Rattle.iscsi_initiator.specs.Progress.{WriteProgress}
use Rattle.iscsi_initiator.specs.Steps.{quiet, step_sending}
use Rattle.iscsi_initiator.specs.Full.{data_outs, sequence}
use Rattle.iscsi_initiator.specs.Machine.{initiator_step, outcome_handed_out}
use Rattle.iscsi_pair.specs.LocalDisk.{AreInStep, DiskExchange, reported_sense, local_command}
use Rattle.iscsi_pair.proofs.Wire.WindowLemmas.{IsNear, last_with, tells_fewer, tells_eight}
use Rattle.iscsi_pair.proofs.Login.RoundAgrees.{some_then}
use Rattle.iscsi_pair.proofs.Wire.WrittenPdus.{ready_readable}
use Rattle.iscsi_pair.proofs.Wire.ToldOutcomes.{told}
use Rattle.iscsi_pair.proofs.Wire.OutcomeRanges.{IsShort, outcome_fits}
use Rattle.iscsi_pair.proofs.Request.AnswersInOrder.{AreReceived, ArePlain, Ends, LeadsWithin}
use Rattle.iscsi_pair.proofs.Request.AnswersInOrder.{received_by, receives_quiet, receives_sends, plain_one}
use Rattle.iscsi_pair.proofs.Request.AnswersInOrder.{short_message}
use Rattle.iscsi_pair.proofs.Request.ReadLemmas.{counted_on, command_written, in_step_again, ready}
use Rattle.iscsi_pair.proofs.Request.DataInLemmas.{Awaits, finished, next_small, outcome_received}
use Rattle.iscsi_pair.proofs.Request.DataInLemmas.{told_window, waiting}
use Rattle.iscsi_pair.proofs.Request.Invariant.{between}
use Rattle.iscsi_pair.proofs.Request.DataOutLemmas.{writer, solicited, SequenceTaken, sequence_written, lun_fits, batch_taken}

-- ---- the initiator receives an R2T

abbrev pub writing : initiator.InitiatorSession → WriteProgress → Window → initiator.InitiatorSession
writing m v window = waiting m (opens.Out v) window

-- the sequence that answers it
abbrev pub asked_for : initiator.InitiatorSession → WriteProgress → Write → ℕ → List Message
asked_for m v w n = sequence m (then_some (is_tag w.r2t_count) w.order.lun) w.r2t_count v.sent (take n (drop v.sent v.bytes))

ready_received : (m : initiator.InitiatorSession) (t : target.Machine) (v : WriteProgress) (w : Write) (window : Window) → w.initiator_task_tag
    ≡ m.initiator_task_tag
    → w.r2t_count ≡ v.next_r2t_sn → bytes_received w ≡ v.sent
    → 1 ≤ desired t.session.held w → desired t.session.held w ≤ max_burst m.held → v.sent + desired t.session.held w ≤ length v.bytes
    → initiator_step (writing m v window) (answer_message (r2t_head t.session (target.waiting_tasks t.tasks) w) [])
    ≡ step_sending (writing m (record v { sent = v.sent + desired t.session.held w; next_r2t_sn = next_sn v.next_r2t_sn }) (told_window window t))
    (asked_for m v w (desired t.session.held w))
unfolding initiator_step segment_bytes
ready_received m t v w window tag r2t_count at some most room =
    rw (
      eq-eqb w.initiator_task_tag m.initiator_task_tag tag,
      le-ltb m.held.initiator_max_recv 0 (omega arith),
      eq-eqb w.r2t_count v.next_r2t_sn r2t_count,
      eq-eqb (bytes_received w) v.sent at,
      le-leb 1 (desired t.session.held w) some,
      le-leb (desired t.session.held w) (max_burst m.held) most,
      le-leb (v.sent + desired t.session.held w) (length v.bytes) room,
    ) refl

-- ---- a write, from turn to turn

-- what holds throughout a write
pub record Throughout (m : initiator.InitiatorSession) (t : target.Machine) (cmd_sn : ℕ) (bytes : List ℕ) (order : Order) (disk : Disk) : Type 0 where
  pub held : t.session.held ≡ m.held
  pub is_held : IsHeld m.held
  pub segment : t.session.held.target_max_recv ≤ target_session.target_limit t.session.settings
  pub stat_sn : m.exp_stat_sn ≡ Some t.session.stat_sn
  pub tag_fits : m.initiator_task_tag ≤ 0xffff_fffe
  pub cmd_sn_is : cmd_sn ≡ m.cmd_sn
  pub cmd_sn_fits : m.cmd_sn < 2 ^ 32
  pub few : length bytes ≤ 4194304
  pub none_given : (others : List ℕ) → (told (target.unit_of t.session) disk order others).outcome.bytes ≡ []
  pub stat_sn_fits : t.session.stat_sn < 2 ^ 32
  pub stat_sn_sends : sent_exp_stat_sn m < 2 ^ 32
  pub lun : order.lun < 2 ^ 64
  pub expected : order.expected ≤ 4194304
  pub short : IsShort order.cdb
  pub none_done : m.done ≡ None

-- both ends have the same of the data
pub record InHand (m : initiator.InitiatorSession) (v : WriteProgress) (w : Write) (order : Order) : Type 0 where
  pub tag : w.initiator_task_tag ≡ m.initiator_task_tag
  pub waits : w.immediate ≡ false
  pub order_is : w.order ≡ order
  pub due : w.due ≡ Nothing
  pub total : w.total ≡ length v.bytes
  pub came : piece_data w.pieces ≡ take v.sent v.bytes
  pub sent : v.sent ≤ length v.bytes
  pub r2t_count : w.r2t_count ≡ v.next_r2t_sn
  pub few : w.r2t_count ≤ v.sent

-- a write whose command wasn't immediate takes a place of the window
one_waits : (w : Write) → w.immediate ≡ false → target.waiting_tasks (Data w ∷ []) ≡ 1
one_waits w e = rw e refl

received_is : (m : initiator.InitiatorSession) (v : WriteProgress) (w : Write) (order : Order) → InHand m v w order → bytes_received w ≡ v.sent
received_is m v w order i = omega (arith, ap (λ (x : List ℕ). length x) i.came, length-take v.sent v.bytes, i.sent)

-- What the target does: it stays open, breaks no rule, and its answers are read as they were written.
pub record IsAnswered (held : Held) (r : TargetStep) : Type 0 where
  pub live : is_machine_closed r.machine ≡ false
  pub rule : r.rule ≡ None
  pub answered : ArePlain held.initiator_max_recv r.answers

-- the response to a command is read as it was written
pub executed_written : (m : initiator.InitiatorSession) (t : target.Machine) (cmd_sn : ℕ) (bytes : List ℕ) (order : Order) (disk : Disk) (tag : ℕ)
    (pieces_ : Pieces)
    → Throughout m t cmd_sn bytes order disk → tag ≡ m.initiator_task_tag → IsAnswered m.held (execute (reliable false) (ready t cmd_sn) disk tag order pieces_)
executed_written m t cmd_sn bytes order disk tag pieces_ a same = record {
  live = refl;
  rule = refl;
  answered = subst (λ (k : Held). ArePlain k.initiator_max_recv (execute (reliable false) (ready t cmd_sn) disk tag order pieces_).answers) a.held
      (command_written (ready t cmd_sn) tag (told (target.unit_of t.session) disk order (piece_data pieces_)).outcome (subst IsHeld (sym a.held) a.is_held)
      (omega (arith, same, a.tag_fits)) (omega (arith, a.cmd_sn_is, a.cmd_sn_fits)) a.stat_sn_fits
      (omega (arith, ap (λ (x : List ℕ). length x) (a.none_given (piece_data pieces_)))) (outcome_fits (target.unit_of t.session) disk order (piece_data pieces_) a.expected a.short));
}

-- the response to a command that gives no data
pub response_ends : (most : ℕ) → 1 ≤ most → (m : initiator.InitiatorSession) (t : target.Machine) (cmd_sn : ℕ) (open_ : Outstanding) (window : Window)
    (bytes : List ℕ) (order : Order) (disk : Disk)
    (tag : ℕ) (pieces_ : Pieces)
    → Throughout m t cmd_sn bytes order disk → IsNear cmd_sn window → Awaits open_ [] → tag ≡ m.initiator_task_tag
    → told (target.unit_of t.session) disk order (piece_data pieces_) ≡ told (target.unit_of t.session) disk order bytes
    → Ends most m.held (target.unit_of t.session) (waiting m open_ window) (execute (reliable false) (ready t cmd_sn) disk tag order pieces_)
    (local_command (told (target.unit_of t.session) disk order bytes))
response_ends most le m t cmd_sn open_ window bytes order disk tag pieces_ a near d same data_ =
    let unit : Option LogicalUnit = target.unit_of t.session in
    let after : Effect = told unit disk order bytes in
    let s : target.Machine = ready t cmd_sn in
    let response : Message = answer_message (response_head s.session (target.waiting_tasks s.tasks) m.initiator_task_tag after.outcome 0)
    (sense_segment after.outcome.sense) in
    let ended_ : initiator.InitiatorSession = finished m s window after.outcome [] in
    let last : DiskExchange = record { initiator = ended_; target = counted_on s; disk = after.disk; answers = [] } in
    let one : initiator_step (waiting m open_ window) response ≡ quiet ended_ =
    outcome_received m s open_ [] window after.outcome.status after.outcome.sense after.outcome.bytes after.outcome.residual 0 d a.stat_sn
    (omega (arith, a.is_held.initiator_max_recv.0)) in
    let is : (execute (reliable false) s disk tag order pieces_).answers ≡ response ∷ [] =
    ap (λ (x : Effect). command_answers s.session (target.waiting_tasks s.tasks) tag x.outcome (data_in_parts s.session x.outcome.bytes)) data_
    ∙ ap (λ (x : List ℕ). command_answers s.session (target.waiting_tasks s.tasks) tag after.outcome (data_in_parts s.session x)) (a.none_given bytes)
    ∙ ap (λ (x : ℕ). command_answers s.session (target.waiting_tasks s.tasks) x after.outcome []) same in
    let disk_is : (execute (reliable false) s disk tag order pieces_).disk ≡ after.disk = ap (λ (x : Effect). x.disk) data_ in
    let again : AreInStep (outcome_handed_out (finished m (ready t m.cmd_sn) window after.outcome [])) (counted_on (ready t m.cmd_sn)) =
    in_step_again m t window a.held a.is_held (subst (λ (h : Held). h.target_max_recv ≤ target_session.target_limit t.session.settings) a.held a.segment)
    a.tag_fits
    a.cmd_sn_fits
    (tells_eight m.cmd_sn window a.cmd_sn_fits (subst (λ (x : ℕ). IsNear x window) a.cmd_sn_is near)) in
    record {
      last = last;
      leads = subst (λ (ms : List Message). LeadsWithin most m.held (between (waiting m open_ window) (counted_on s)
          (execute (reliable false) s disk tag order pieces_).disk ms)
          last)
          (sym is)
          (subst (λ (x : Disk). LeadsWithin most m.held (between (waiting m open_ window) (counted_on s) x (response ∷ [])) last) (sym disk_is)
          (receives_quiet 0 most le m.held (waiting m open_ window) ended_ (counted_on s) after.disk response [] last one refl refl a.none_done
          (0, omega arith, refl)));
      ended = record {
        done_is = ap (λ (x : List ℕ). Some (done.Command 0 after.outcome.status (reported_sense after.outcome.sense) x after.outcome.residual))
            (sym (a.none_given bytes));
        silent = refl;
        disk_is = refl;
        at_rest = inl (
          subst (λ (x : ℕ). AreInStep (outcome_handed_out (finished m (ready t x) window after.outcome [])) (counted_on (ready t x))) (sym a.cmd_sn_is) again,
          refl,
          refl,
        );
      };
    }

-- what stays throughout a write: both ends as they were, the command's number and order, and the disk
pub record WriteExchange : Type 0 where
  pub initiator : initiator.InitiatorSession
  pub target : target.Machine
  pub cmd_sn : ℕ
  pub order : Order
  pub disk : Disk

abbrev pub write_exchange : initiator.InitiatorSession → target.Machine → ℕ → Order → Disk → WriteExchange
write_exchange m t cmd_sn order disk = record { initiator = m; target = t; cmd_sn = cmd_sn; order = order; disk = disk }

-- the write goes on from where all that was due came
abbrev pub GoesOn : ℕ → WriteExchange → WriteProgress → Write → Window → Type 0
GoesOn most c v w window =
    Ends most c.initiator.held (target.unit_of c.target.session) (writing c.initiator v window) (proceed (reliable false) (ready c.target c.cmd_sn) c.disk w)
    (local_command (told (target.unit_of c.target.session) c.disk c.order v.bytes))

-- where all came the command is executed
whole_is : (m : initiator.InitiatorSession) (t : target.Machine) (cmd_sn : ℕ) (v : WriteProgress) (w : Write) (order : Order) (disk : Disk) → InHand m v w order
    → is_whole_write w ≡ true
    → proceed (reliable false) (ready t cmd_sn) disk w ≡ execute (reliable false) (ready t cmd_sn) disk w.initiator_task_tag order w.pieces
whole_is m t cmd_sn v w order disk i whole =
    rw whole (ap (λ (x : Order). execute (reliable false) (ready t cmd_sn) disk w.initiator_task_tag x w.pieces) i.order_is)

-- else the target asks for more
part_is : (m : initiator.InitiatorSession) (t : target.Machine) (cmd_sn : ℕ) (v : WriteProgress) (w : Write) (order : Order) (disk : Disk) → InHand m v w order
    → is_whole_write w ≡ false
    → proceed (reliable false) (ready t cmd_sn) disk w ≡ send_r2t (ready t cmd_sn) disk w
part_is m t cmd_sn v w order disk i part = rw (part, i.due) refl

-- what the target answers then is read as it was written
pub proceed_written : (m : initiator.InitiatorSession) (t : target.Machine) (cmd_sn : ℕ) (v : WriteProgress) (w : Write) (order : Order) (disk : Disk)
    → Throughout m t cmd_sn v.bytes order disk → InHand m v w order
    → (whole : Bool) → is_whole_write w ≡ whole → IsAnswered m.held (proceed (reliable false) (ready t cmd_sn) disk w)
proceed_written m t cmd_sn v w order disk a i true whole =
    subst (IsAnswered m.held) (sym (whole_is m t cmd_sn v w order disk i whole))
    (executed_written m t cmd_sn v.bytes order disk w.initiator_task_tag w.pieces a
    i.tag)
proceed_written m t cmd_sn v w order disk a i false part =
    let s : target.Machine = writer t cmd_sn w in
    let most : ℕ = m.held.initiator_max_recv in
    let at : bytes_received w ≡ v.sent = received_is m v w order i in
    let on_ : w.order.lun < 2 ^ 64 = subst (λ (x : Order). x.lun < 2 ^ 64) (sym i.order_is) a.lun in
    subst (IsAnswered m.held) (sym (part_is m t cmd_sn v w order disk i part)) (record {
      live = refl;
      rule = refl;
      answered = plain_one most (answer_message (r2t_head s.session (target.waiting_tasks s.tasks) w) [])
          (λ logins. ready_readable logins s w on_ (omega (arith, i.tag, a.tag_fits)) (omega (arith, i.few, i.sent, a.few)) (omega (arith, at, i.sent, a.few))
          (omega (arith, i.total, a.few)) a.stat_sn_fits
          (omega (arith, a.cmd_sn_is, a.cmd_sn_fits)))
          (short_message (r2t_head s.session (target.waiting_tasks s.tasks) w) [] most (omega arith));
    })

all_came : (most : ℕ) → 1 ≤ most → (m : initiator.InitiatorSession) (t : target.Machine) (cmd_sn : ℕ) (v : WriteProgress) (w : Write) (window : Window)
    (order : Order) (disk : Disk)
    → Throughout m t cmd_sn v.bytes order disk → IsNear cmd_sn window → InHand m v w order
    → is_whole_write w ≡ true → GoesOn most (write_exchange m t cmd_sn order disk) v w window
all_came most le m t cmd_sn v w window order disk a near i whole =
    let all : v.sent ≡ length v.bytes = sym (received_is m v w order i) ∙ sym (eqb-true w.total (bytes_received w) whole) ∙ i.total in
    let bytes : piece_data w.pieces ≡ v.bytes = i.came ∙ take_all v.sent v.bytes (omega (arith, all)) in
    let unit : Option LogicalUnit = target.unit_of t.session in
    subst (λ (r : TargetStep). Ends most m.held unit (writing m v window) r (local_command (told unit disk order v.bytes)))
    (sym (whole_is m t cmd_sn v w order disk i whole))
    (response_ends most le m t cmd_sn (opens.Out v) window v.bytes order disk w.initiator_task_tag w.pieces a near (λ h. refl) i.tag
    (ap (told unit disk order) bytes))

-- what isn't equal and not more is less
below : (n total : ℕ) (part : (total == n) ≡ false) → n ≤ total → n < total
below n total part le = (let apart = eqb-false total n part in omega (arith, le, apart))

-- ---- one turn: an R2T goes out, and its sequence comes

-- the write of the initiator once it has sent n bytes more
abbrev pub more_sent : WriteProgress → ℕ → WriteProgress
more_sent v n = record v { sent = v.sent + n; next_r2t_sn = next_sn v.next_r2t_sn }

-- the write of the target once they came
abbrev pub more_came : target.Machine → Write → Pieces → Write
more_came t w came = record (with_r2t t.session.held w) { pieces = came; due = Nothing }

-- where one turn leads
pub record Turned (c : WriteExchange) (v : WriteProgress) (w : Write) (window : Window) : Type 0 where
  pub window_now : Window
  pub near : IsNear c.cmd_sn window → IsNear c.cmd_sn window_now
  pub came : Pieces
  pub n : ℕ
  pub some : 0 < n
  pub hand : InHand c.initiator (more_sent v n) (more_came c.target w came) c.order
  pub leads : (low most : ℕ) → low + 1 ≤ most → (x : DiskExchange) → (let r =
      proceed (reliable false) (ready c.target c.cmd_sn) c.disk (more_came c.target w came) in
      LeadsWithin low c.initiator.held (between (writing c.initiator (more_sent v n) window_now) r.machine r.disk r.answers) x)
      → (let r = proceed (reliable false) (ready c.target c.cmd_sn) c.disk w in
      LeadsWithin most c.initiator.held (between (writing c.initiator v window) r.machine r.disk r.answers) x)

turn : (m : initiator.InitiatorSession) (t : target.Machine) (cmd_sn : ℕ) (v : WriteProgress) (w : Write) (window : Window) (order : Order) (disk : Disk)
    → Throughout m t cmd_sn v.bytes order disk → InHand m v w order
    → is_whole_write w ≡ false → Turned (write_exchange m t cmd_sn order disk) v w window
turn m t cmd_sn v w window order disk a i part =
    let at : bytes_received w ≡ v.sent = received_is m v w order i in
    let left : v.sent < length v.bytes = (let lt = below (bytes_received w) w.total part (omega (arith, at, i.total, i.sent))
    in omega (arith, lt, at, i.total)) in
    let burst : 0 < max_burst t.session.held = subst (λ (h : Held). 0 < max_burst h) (sym a.held) (held_burst m.held a.is_held) in
    let n : ℕ = desired t.session.held w in
    let some : 0 < n = omega (arith, burst, left, at, i.total) in
    let room : v.sent + n ≤ length v.bytes = omega (arith, left, at, i.total) in
    let most : n ≤ max_burst m.held = subst (λ (h : Held). n ≤ max_burst h) a.held (omega arith) in
    let s : target.Machine = writer t cmd_sn w in
    let batch : List ℕ = take n (drop v.sent v.bytes) in
    let size : length batch ≡ n = omega (arith, length-take n (drop v.sent v.bytes), length-drop v.sent v.bytes, room) in
    let out : List Message = asked_for m v w n in
    let one : initiator_step (writing m v window) (answer_message (r2t_head s.session (target.waiting_tasks s.tasks) w) [])
    ≡ step_sending (writing m (more_sent v n) (told_window window s))
    out = ready_received m s v w window i.tag i.r2t_count at some most room in
    let h : DataOut = record {
      is_final = false;
      lun = then_some (is_tag w.r2t_count) w.order.lun;
      initiator_task_tag = m.initiator_task_tag;
      target_transfer_tag = w.r2t_count;
      exp_stat_sn = sent_exp_stat_sn m;
      data_sn = 0;
      buffer_offset = v.sent;
    } in
    let lt : 0 < t.session.held.target_max_recv = subst (λ (x : Held). 0 < x.target_max_recv) (sym a.held) (omega (arith, a.is_held.target_max_recv.0)) in
    let r : SequenceTaken t cmd_sn (with_r2t t.session.held w) disk (data_outs h (chunks t.session.held.target_max_recv batch)) batch =
    batch_taken t cmd_sn (with_r2t t.session.held w) disk h batch (bytes_received w + n) (λ data_sn. Solicited w.r2t_count data_sn (bytes_received w + n))
    (solicited (first_burst t.session.held) w.total w.r2t_count (bytes_received w + n)) refl (sym at) (sym i.tag) lt a.segment
    (omega (arith, size, some)) (omega (arith, size)) (omega (arith, at, i.total, room)) in
    let sent_ : answers false (writer t cmd_sn (with_r2t t.session.held w)) disk out ≡ proceed (reliable false) (ready t cmd_sn) disk (more_came t w r.came) =
    ap (λ (k : Held). answers false (writer t cmd_sn (with_r2t t.session.held w)) disk (data_outs h (chunks k.target_max_recv batch))) (sym a.held) ∙ r.is in
    let hand_ : InHand m (more_sent v n) (more_came t w r.came) order = record {
      tag = i.tag;
      waits = i.waits;
      order_is = i.order_is;
      due = refl;
      total = i.total;
      came = r.whole ∙ ap (λ (x : List ℕ). x ++ batch) i.came ∙ sym (take-add v.sent n v.bytes);
      sent = room;
      r2t_count = ap (λ (x : ℕ). x + 1) i.r2t_count ∙ sym (next_small v.next_r2t_sn (omega (arith, i.r2t_count, i.few, i.sent, a.few)));
      few = omega (arith, i.few, some);
    } in
    let on_ : w.order.lun < 2 ^ 64 = subst (λ (x : Order). x.lun < 2 ^ 64) (sym i.order_is) a.lun in
    let written : ArePlain m.held.target_max_recv out =
    sequence_written m (then_some (is_tag w.r2t_count) w.order.lun) w.r2t_count v.sent batch a.is_held a.tag_fits a.stat_sn_sends
    (some_then (is_tag w.r2t_count) w.order.lun)
    (lun_fits (is_tag w.r2t_count) w.order.lun on_) (omega (arith, i.few, i.sent, a.few)) (omega (arith, size, room, a.few)) in
    let now : TargetStep = proceed (reliable false) (ready t cmd_sn) disk (more_came t w r.came) in
    let then_ : IsAnswered m.held now = proceed_written m t cmd_sn (more_sent v n) (more_came t w r.came) order disk a hand_
    (is_whole_write (more_came t w r.came))
    refl in
    let are_received : AreReceived m.held (writer t cmd_sn (with_r2t t.session.held w)) disk out =
    received_by m.held (writer t cmd_sn (with_r2t t.session.held w)) disk out now sent_ written then_.live then_.rule then_.answered in
    record {
      window_now = told_window window s;
      near = λ near. subst (λ (x : ℕ). IsNear cmd_sn (moved window (serial cmd_sn) (serial (last_with cmd_sn x)))) (sym (one_waits w i.waits))
          (tells_fewer cmd_sn window (subst (λ (x : ℕ). x < 2 ^ 32) (sym a.cmd_sn_is) a.cmd_sn_fits) near);
      came = r.came;
      n = n;
      some = some;
      hand = hand_;
      leads = λ low most le x l. subst (λ (y : TargetStep). LeadsWithin most m.held (between (writing m v window) y.machine y.disk y.answers) x)
          (sym (part_is m t cmd_sn v w order disk i part))
          (receives_sends low most le m.held (writing m v window) (writing m (more_sent v n) (told_window window s))
          (writer t cmd_sn (with_r2t t.session.held w)) disk
          (answer_message (r2t_head s.session (target.waiting_tasks s.tasks) w) []) out now x one refl refl a.none_done are_received sent_ l);
    }

-- from turn to turn until all came
pub goes_on : (fuel most : ℕ) → fuel + 1 ≤ most → (m : initiator.InitiatorSession) (t : target.Machine) (cmd_sn : ℕ) (v : WriteProgress) (w : Write)
    (window : Window) (order : Order) (disk : Disk)
    → Throughout m t cmd_sn v.bytes order disk → IsNear cmd_sn window → InHand m v w order
    → length v.bytes ≤ v.sent + fuel → (whole : Bool) → is_whole_write w ≡ whole → GoesOn most (write_exchange m t cmd_sn order disk) v w window
goes_on fuel most few m t cmd_sn v w window order disk a near i le true whole = all_came most (omega (arith, few)) m t cmd_sn v w window order disk a near i
    whole
goes_on zero most few m t cmd_sn v w window order disk a near i le false part =
    absurd (eqb-false w.total (bytes_received w) part (omega (arith, i.total, received_is m v w order i, i.sent, le)))
goes_on (suc fuel) most few m t cmd_sn v w window order disk a near i le false part =
    let x : Turned (write_exchange m t cmd_sn order disk) v w window = turn m t cmd_sn v w window order disk a i part in
    let w' : Write = more_came t w x.came in
    let e : GoesOn (fuel + 1) (write_exchange m t cmd_sn order disk) (more_sent v x.n) w' x.window_now =
    goes_on fuel (fuel + 1) (omega arith) m t cmd_sn (more_sent v x.n) w' x.window_now order disk a (x.near near) x.hand (omega (arith, le, x.some))
    (is_whole_write w') refl in
    record {
      last = e.last;
      leads = x.leads (fuel + 1) most (omega (arith, few)) e.last e.leads;
      ended = e.ended;
    }

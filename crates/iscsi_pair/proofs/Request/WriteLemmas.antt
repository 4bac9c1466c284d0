-- The whole of a write.
use Rattle.std.specs.Prelude.{◌-◌, min, nat_lt, ◌==◌, ◌||◌, not, if◌then◌else◌, is_some}
use Rattle.std.proofs.Common.{◌≡◌, ◌<◌, ◌≤◌, ℕ, ◌+◌, ◌^◌, Bool, true, false, List, [], ◌∷◌, ◌++◌, length, take, drop, Option, Some}
use Rattle.std.proofs.Common.{None, refl, sym, ap, ◌∙◌, subst, arith, ne_eqb}
use Rattle.std.proofs.Math.Nat.{mod-lt}
use Rattle.std.proofs.lemmas.Bool.{and_parts, ltb-false, ltb-true}
use Rattle.std.proofs.lemmas.List.{length-take, length-drop, take-append-drop, take-take, take_min}
use Rattle.scsi_disk.specs.Disk.{Disk}
use Rattle.scsi_disk.specs.Effect.{Effect}
use Rattle.scsi_disk.specs.Plan.{first_refusal, plan_of}
use Rattle.scsi_disk.specs.declared.order.Plan.{Plan}
use Rattle.scsi_disk.specs.declared.order.Plan.TheVariants.{Refuse, Take, Give}
use Rattle.scsi_disk.specs.declared.order.Order.{Order}
use Rattle.scsi_unit.specs.LogicalUnit.{LogicalUnit}
use Rattle.iscsi_pdu.specs.declared.head.data_out.DataOut.{DataOut}
use Rattle.iscsi_pdu.specs.declared.serial.Window.{Window}
use Rattle.iscsi_pdu.specs.Fields.{reserved_tag}
use Rattle.iscsi_pdu.specs.Meaning.{AreBytes}
use Rattle.iscsi_stream.specs.Stream.{Message}
use Rattle.iscsi_login.specs.declared.phase.Phase.{Phase}
use Rattle.iscsi_login.specs.declared.phase.Phase.TheVariants as phases
use Rattle.iscsi_login.specs.Held.{Held, first_burst, is_on, unasked}
use Rattle.iscsi_text.specs.declared.negotiated.NegKey.TheVariants as keys
use Rattle.iscsi_target.specs.declared.due.Due.TheVariants.{Nothing, Unsolicited}
use Rattle.iscsi_target_session.specs.Session as target_session
use Rattle.iscsi_target.specs.State as target
use Rattle.iscsi_target.specs.Write.{Write}
use Rattle.iscsi_target.specs.State.{TargetStep, unchanged}
use Rattle.iscsi_stream.specs.Pieces.{piece_data, chunks}
use Rattle.iscsi_pdu.specs.Serial.{next_sn, is_within}
use Rattle.iscsi_target.specs.Transfer.{is_whole_write, bytes_received}
use Rattle.iscsi_target.specs.Execution.{reliable}
use Rattle.iscsi_target.specs.Command.{write_opened, task_planned, proceed}
use Rattle.iscsi_target.specs.Machine.{task_begun, answers, having_accepted, then_stepped}
use Rattle.iscsi_target.proofs.Steps.TurnLemmas.{then_nothing}
use Rattle.iscsi_initiator.specs.declared.outstanding.Outstanding.TheVariants as opens
use Rattle.iscsi_initiator.specs.State as initiator
use Rattle.iscsi_initiator.specs.State.{next_tag, sent_exp_stat_sn}
use Rattle.iscsi_initiator.specs.Progress.{WriteProgress}
use Rattle.iscsi_initiator.specs.Full.{data_outs, sequence}
use Rattle.iscsi_initiator.specs.Submitted as initiator_writes
use Rattle.iscsi_initiator.specs.Submitted.{SubmitStep, accepted, has_more, immediate_data, submit_refusal, refusal_in, refusal_when_full, submitted}
use Rattle.iscsi_initiator.specs.declared.request.Request.{Request}
use Rattle.iscsi_initiator.specs.declared.request.Request.TheVariants as requests
use Rattle.iscsi_target.proofs.Writes.OpenWriteLemmas.{data_of_one}
use Rattle.iscsi_pair.specs.LocalDisk.{AreInStep, effect_here, writing_order, local_command}
use Rattle.iscsi_pair.proofs.Wire.ToldOutcomes.{here_is, told, told_none}
use Rattle.iscsi_pair.proofs.Wire.OutcomeRanges.{short_block}
use Rattle.iscsi_pair.proofs.Wire.WindowLemmas.{IsNear, near_next, tag_after}
use Rattle.iscsi_pair.proofs.Wire.WrittenPdus.{command_readable}
use Rattle.iscsi_pair.proofs.Request.AnswersInOrder.{ArePlain, Begins, Ends, leads_less, most_answers}
use Rattle.iscsi_pair.proofs.Request.AnswersInOrder.{received_by, plain_more}
use Rattle.iscsi_pair.proofs.Request.AnswersInOrder.{short_message}
use Rattle.iscsi_pair.proofs.Request.ReadLemmas.{not_long, ready}
use Rattle.iscsi_pair.proofs.Request.ReadLemmas.{stat_sn_sent, submitted_is, unrefused}
use Rattle.iscsi_pair.proofs.Request.Invariant.{between}
use Rattle.iscsi_pair.proofs.Request.DataOutLemmas.{writer, unsolicited, SequenceTaken, sequence_written, batch_taken}
use Rattle.iscsi_pair.proofs.Request.WriteTurnLemmas.{writing, Throughout, InHand, proceed_written, goes_on}
use Rattle.iscsi_pair.proofs.Request.WriteCommandLemmas.{write_head, writes_here, takes_all, gives_none, outcome_none, begun_write, first_sent, write_message, unasked_data, command_taken, first_answers, Comes, executed_alone}

-- ---- a write whose bytes are taken

immediate_are : (on_ : Bool) (size : ℕ) (bytes : List ℕ) → (let x : List ℕ = if on_ then take size bytes else [] in x ≡ take (length x) bytes)
immediate_are true size bytes = sym (ap (λ (k : ℕ). take k bytes) (length-take size bytes) ∙ take_min size bytes)
immediate_are false size bytes = refl

-- what is open once the command came, and no data are due unasked
abbrev first_write : initiator.InitiatorSession → Option LogicalUnit → ℕ → List ℕ → List ℕ → ℕ → Write
first_write m unit lun cdb bytes total = write_opened (write_head m lun cdb bytes) (writes_here unit lun cdb bytes) total (immediate_data m bytes)

-- all first data are in the command
none_unasked : (m : initiator.InitiatorSession) (t : target.Machine) (disk : Disk) (lun : ℕ) (cdb bytes : List ℕ) (window : Window) (total : ℕ)
    → Throughout (begun_write m) t (next_sn m.cmd_sn) bytes (writes_here (target.unit_of t.session) lun cdb bytes) disk → IsNear (next_sn m.cmd_sn) window → total ≡ length bytes
    → has_more m bytes ≡ false
    → Comes (target.unit_of t.session) m (writing (begun_write m) (first_sent m bytes) window) (writes_here (target.unit_of t.session) lun cdb bytes) bytes disk
    (let r = proceed (reliable false) (ready t (next_sn m.cmd_sn)) disk (first_write m (target.unit_of t.session) lun cdb bytes total) in
    then_stepped r (answers false r.machine r.disk (unasked_data m bytes)))
unfolding answers
none_unasked m t disk lun cdb bytes window total a near all none =
    let unit : Option LogicalUnit = target.unit_of t.session in
    let order : Order = writes_here unit lun cdb bytes in
    let n : ℕ = next_sn m.cmd_sn in
    let w : Write = first_write m unit lun cdb bytes total in
    let v : WriteProgress = first_sent m bytes in
    let imm : List ℕ = immediate_data m bytes in
    let uns : initiator_writes.unsolicited m bytes ≡ [] = rw none refl in
    let zero_ : length (initiator_writes.unsolicited m bytes) ≡ 0 = ap (λ (x : List ℕ). length x) uns in
    let front : imm ≡ take (length imm) bytes = immediate_are (is_on m.held keys.ImmediateData) (min (unasked m.held (length bytes)) m.held.target_max_recv)
    bytes in
    let i : InHand (begun_write m) v w order = record {
      tag = refl;
      waits = refl;
      order_is = refl;
      due = rw none refl;
      total = all;
      came = data_of_one imm ∙ front ∙ ap (λ (k : ℕ). take k bytes) (let e : length imm ≡ v.sent = omega (arith, zero_) in e);
      sent = omega (arith, zero_, ap (λ (x : List ℕ). length x) front, length-take (length imm) bytes);
      r2t_count = refl;
      few = omega arith;
    } in
    let silent : unasked_data m bytes ≡ [] = ap (λ (x : List ℕ). sequence (begun_write m) None reserved_tag (length imm) x) uns in
    let r : TargetStep = proceed (reliable false) (ready t n) disk w in
    subst (λ (ms : List Message). Comes unit m (writing (begun_write m) v window) order bytes disk (then_stepped r (answers false r.machine r.disk ms))) (sym silent)
    (subst (Comes unit m (writing (begun_write m) v window) order bytes disk) (sym (then_nothing r)) (
      proceed_written (begun_write m) t n v w order disk a i (is_whole_write w) refl,
      goes_on (length bytes) (length bytes + 1) (omega arith) (begun_write m) t n v w window order disk a near i
          (omega arith) (is_whole_write w) refl,
    ))

-- more first data follow the command
some_unasked : (m : initiator.InitiatorSession) (t : target.Machine) (disk : Disk) (lun : ℕ) (cdb bytes : List ℕ) (window : Window) (total : ℕ)
    → Throughout (begun_write m) t (next_sn m.cmd_sn) bytes (writes_here (target.unit_of t.session) lun cdb bytes) disk → IsNear (next_sn m.cmd_sn) window → total ≡ length bytes
    → has_more m bytes ≡ true
    → Comes (target.unit_of t.session) m (writing (begun_write m) (first_sent m bytes) window) (writes_here (target.unit_of t.session) lun cdb bytes) bytes disk
    (let r = proceed (reliable false) (ready t (next_sn m.cmd_sn)) disk (first_write m (target.unit_of t.session) lun cdb bytes total) in
    then_stepped r (answers false r.machine r.disk (unasked_data m bytes)))
some_unasked m t disk lun cdb bytes window total a near all more =
    let unit : Option LogicalUnit = target.unit_of t.session in
    let order : Order = writes_here unit lun cdb bytes in
    let n : ℕ = next_sn m.cmd_sn in
    let w : Write = first_write m unit lun cdb bytes total in
    let v : WriteProgress = first_sent m bytes in
    let imm : List ℕ = immediate_data m bytes in
    let uns : List ℕ = drop (length imm) (take (unasked m.held (length bytes)) bytes) in
    let uns_is : initiator_writes.unsolicited m bytes ≡ uns = rw more refl in
    let short : length imm < unasked m.held (length bytes) = ltb-true (length imm) (unasked m.held (length bytes))
    (and_parts (not (is_on m.held keys.InitialR2T)) (nat_lt (length imm) (unasked m.held (length bytes))) more).1 in
    let front : imm ≡ take (length imm) bytes = immediate_are (is_on m.held keys.ImmediateData) (min (unasked m.held (length bytes)) m.held.target_max_recv)
    bytes in
    let size : length uns ≡ unasked m.held (length bytes) - length imm = omega (
      arith,
      length-drop (length imm) (take (unasked m.held (length bytes)) bytes),
      length-take (unasked m.held (length bytes)) bytes,
    ) in
    let sent_ : v.sent ≡ unasked m.held (length bytes) = omega (arith, ap (λ (x : List ℕ). length x) uns_is, size, short) in
    let due : w.due ≡ Unsolicited 0 = rw more refl in
    let here : bytes_received w ≡ length imm = ap (λ (x : List ℕ). length x) (data_of_one imm) in
    let part : is_whole_write w ≡ false = ne_eqb total (bytes_received w) (λ e. omega (arith, e, here, all, short)) in
    let first : proceed (reliable false) (ready t n) disk w ≡ unchanged (writer t n w) disk = rw (part, due) refl in
    let h : DataOut = record {
      is_final = false;
      lun = None;
      initiator_task_tag = next_tag m.initiator_task_tag;
      target_transfer_tag = reserved_tag;
      exp_stat_sn = sent_exp_stat_sn m;
      data_sn = 0;
      buffer_offset = length imm;
    } in
    let most : first_burst t.session.held ≡ first_burst m.held = ap first_burst a.held in
    let lt : 0 < t.session.held.target_max_recv = subst (λ (x : Held). 0 < x.target_max_recv) (sym a.held) (omega (arith, a.is_held.target_max_recv.0)) in
    let r : SequenceTaken t n w disk (data_outs h (chunks t.session.held.target_max_recv uns)) uns =
    batch_taken t n w disk h uns (min w.total (first_burst t.session.held)) Unsolicited (unsolicited (first_burst t.session.held) w.total) due (sym here) refl
    lt a.segment
    (omega (arith, size, short)) (omega (arith, here, size, all, most)) (omega arith) in
    let data_ : unasked_data m bytes ≡ data_outs h (chunks t.session.held.target_max_recv uns) =
    ap (λ (x : List ℕ). sequence (begun_write m) None reserved_tag (length imm) x) uns_is ∙ ap (λ (k : Held). data_outs h (chunks k.target_max_recv uns))
    (sym a.held) in
    let w' : Write = record w { pieces = r.came; due = Nothing } in
    let all_came_ : piece_data w'.pieces ≡ take v.sent bytes =
    r.whole ∙ ap (λ (x : List ℕ). x ++ uns) (data_of_one imm ∙ front)
    ∙ (let e : take (length imm) bytes ≡ take (length imm) (take (unasked m.held (length bytes)) bytes) =
    sym (take-take (length imm) (unasked m.held (length bytes)) bytes (omega (arith, short))) in ap (λ (x : List ℕ). x ++ uns) e)
    ∙ take-append-drop (length imm) (take (unasked m.held (length bytes)) bytes) ∙ ap (λ (k : ℕ). take k bytes) (sym sent_) in
    let i : InHand (begun_write m) v w' order = record {
      tag = refl;
      waits = refl;
      order_is = refl;
      due = refl;
      total = all;
      came = all_came_;
      sent = omega (arith, sent_);
      r2t_count = refl;
      few = omega arith;
    } in
    let is : (let x = proceed (reliable false) (ready t n) disk w in then_stepped x (answers false x.machine x.disk (unasked_data m bytes)))
    ≡ proceed (reliable false) (ready t n) disk w' =
    ap (λ (x : TargetStep). then_stepped x (answers false x.machine x.disk (unasked_data m bytes))) first ∙ ap (answers false (writer t n w) disk) data_
    ∙ r.is in
    subst (Comes unit m (writing (begun_write m) v window) order bytes disk) (sym is) (
      proceed_written (begun_write m) t n v w' order disk a i (is_whole_write w') refl,
      goes_on (length bytes) (length bytes + 1) (omega arith) (begun_write m) t n v w' window order disk a near i
          (omega arith) (is_whole_write w') refl,
    )

-- ---- the whole of a write

by_plan : (p : Plan) (m : initiator.InitiatorSession) (t : target.Machine) (disk : Disk) (lun : ℕ) (cdb bytes : List ℕ) (window : Window)
    → plan_of (writes_here (target.unit_of t.session) lun cdb bytes) disk.count ≡ p
    → Throughout (begun_write m) t (next_sn m.cmd_sn) bytes (writes_here (target.unit_of t.session) lun cdb bytes) disk → IsNear (next_sn m.cmd_sn) window → (more : Bool)
    → has_more m bytes ≡ more
    → Comes (target.unit_of t.session) m (writing (begun_write m) (first_sent m bytes) window) (writes_here (target.unit_of t.session) lun cdb bytes) bytes disk (first_answers m t disk lun cdb bytes p)
by_plan (Take total) m t disk lun cdb bytes window is a near true more =
    some_unasked m t disk lun cdb bytes window total a near (takes_all (first_refusal (writes_here (target.unit_of t.session) lun cdb bytes) disk.count)
    (writes_here (target.unit_of t.session) lun cdb bytes) disk.count total refl is) more
by_plan (Take total) m t disk lun cdb bytes window is a near false none =
    none_unasked m t disk lun cdb bytes window total a near (takes_all (first_refusal (writes_here (target.unit_of t.session) lun cdb bytes) disk.count)
    (writes_here (target.unit_of t.session) lun cdb bytes) disk.count total refl is) none
by_plan (Give n) m t disk lun cdb bytes window is a near more e =
    executed_alone m t disk lun cdb bytes window a near (λ k f. (let bad : Give n ≡ Take k = sym is ∙ f in absurd cc))
by_plan (Refuse sense) m t disk lun cdb bytes window is a near more e =
    executed_alone m t disk lun cdb bytes window a near (λ k f. (let bad : Refuse sense ≡ Take k = sym is ∙ f in absurd cc))

few_bytes : (m : initiator.InitiatorSession) (lun : ℕ) (cdb bytes : List ℕ) → m.phase ≡ phases.Full → (submitted m (requests.Out lun cdb bytes)).refusal ≡ None
    → length bytes ≤ 4194304
unfolding submitted
few_bytes m lun cdb bytes full e =
    let request : Request = requests.Out lun cdb bytes in
    let none : refusal_in m.phase m request ≡ None = unrefused (submit_refusal m request) m request e in
    let when : refusal_when_full m request ≡ None = subst (λ (p : Phase). refusal_in p m request ≡ None) full none in
    ltb-false 4194304 (length bytes)
    (not_long (is_some m.outstanding || is_some m.done) (not (is_within m.cmd_sn m.window.exp.0 m.window.max.0)) (nat_lt 4194304 (length bytes)) when)

immediate_short : (on_ : Bool) (size : ℕ) (bytes : List ℕ) → (let x : List ℕ = if on_ then take size bytes else [] in length x ≤ size)
immediate_short true size bytes = omega (arith, length-take size bytes)
immediate_short false size bytes = omega arith

-- what goes out unasked is no more than there is
unasked_few : (more : Bool) (n size : ℕ) (bytes : List ℕ) → n ≤ length bytes
    → (let x : List ℕ = if more then drop n (take size bytes) else [] in n + length x ≤ length bytes)
unasked_few true n size bytes le = omega (arith, le, length-drop n (take size bytes), length-take size bytes)
unasked_few false n size bytes le = omega (arith, le)

first_few : (m : initiator.InitiatorSession) (bytes : List ℕ) → length (immediate_data m bytes) + length (initiator_writes.unsolicited m bytes) ≤ length bytes
first_few m bytes =
    unasked_few (has_more m bytes) (length (immediate_data m bytes)) (unasked m.held (length bytes)) bytes
    (omega (arith, immediate_short (is_on m.held keys.ImmediateData) (min (unasked m.held (length bytes)) m.held.target_max_recv) bytes))

-- A write between two ends that are in step is received, and comes to the outcome and the disk of its order.
pub local_write : (m : initiator.InitiatorSession) (t : target.Machine) (disk : Disk) (lun : ℕ) (cdb bytes : List ℕ) → lun < 2 ^ 64 → length cdb ≡ 16
    → AreBytes cdb
    → AreInStep m t → (submitted m (requests.Out lun cdb bytes)).refusal ≡ None
    → Begins m.held m t disk (requests.Out lun cdb bytes) (local_command (effect_here (target.unit_of t.session) disk (writing_order lun cdb bytes) bytes))
unfolding answers
local_write m t disk lun cdb bytes on_ size are a e =
    let request : Request = requests.Out lun cdb bytes in
    let unit : Option LogicalUnit = target.unit_of t.session in
    let order : Order = writes_here unit lun cdb bytes in
    let after : Effect = told unit disk order bytes in
    let here : effect_here unit disk (writing_order lun cdb bytes) bytes ≡ after = here_is unit disk (writing_order lun cdb bytes) bytes in
    let p : Plan = plan_of order disk.count in
    let few : length bytes ≤ 4194304 = few_bytes m lun cdb bytes a.initiator_phase e in
    let sent : submitted m request ≡ accepted m request = submitted_is m request e in
    let i : initiator.InitiatorSession = writing (begun_write m) (first_sent m bytes) m.window in
    let is_t : t ≡ ready t m.cmd_sn = λ k. record {
      session = record t.session {
        phase = a.target_phase k;
        session_type = a.session k;
        exp_cmd_sn =
            a.cmd_sn k;
      };
      tasks = a.no_task k;
    } in
    let is_m : (accepted m request).machine ≡ i = λ k. record (begun_write m) {
      phase = a.initiator_phase k;
      outstanding =
          Some (opens.Out (first_sent m bytes));
    } in
    let limit : t.session.held.target_max_recv ≤ target_session.target_limit t.session.settings =
    subst (λ (h : Held). h.target_max_recv ≤ target_session.target_limit t.session.settings) (sym a.held) a.segment in
    let short : length (immediate_data m bytes) ≤ t.session.held.target_max_recv =
    subst (λ (h : Held). length (immediate_data m bytes) ≤ h.target_max_recv) (sym a.held)
    (omega (arith, immediate_short (is_on m.held keys.ImmediateData) (min (unasked m.held (length bytes)) m.held.target_max_recv) bytes)) in
    let all : Throughout (begun_write m) t (next_sn m.cmd_sn) bytes order disk = record {
      held = a.held;
      is_held = a.is_held;
      segment = limit;
      stat_sn = a.stat_sn;
      tag_fits = tag_after m.initiator_task_tag a.tag_fits;
      cmd_sn_is = refl;
      cmd_sn_fits = mod-lt (m.cmd_sn + 1) (omega arith);
      few = few;
      none_given = λ others. told_none unit disk order others refl (outcome_none p disk order others (λ n. gives_none (first_refusal order disk.count) unit lun cdb bytes disk.count n refl));
      stat_sn_fits = a.stat_sn_fits;
      stat_sn_sends = stat_sn_sent m t a;
      lun = on_;
      expected = few;
      short = short_block unit cdb size are;
      none_done = a.none_done;
    } in
    let first : TargetStep = task_begun (reliable false) (ready t (next_sn m.cmd_sn)) disk
    (task_planned (write_head m lun cdb bytes) order (immediate_data m bytes) p) in
    let x : Comes unit m i order bytes disk (first_answers m t disk lun cdb bytes p) =
    by_plan p m t disk lun cdb bytes m.window refl all (near_next (next_sn m.cmd_sn) m.cmd_sn m.window a.cmd_sn_fits refl a.window) (has_more m bytes) refl in
    let r : TargetStep = then_stepped (having_accepted (write_message m lun cdb bytes ∷ []) first)
    (answers false first.machine first.disk (unasked_data m bytes)) in
    let is : answers false t disk (submitted m request).output ≡ r =
    ap (λ (s : SubmitStep). answers false t disk s.output) sent
    ∙ ap (λ (y : target.Machine). answers false y disk (accepted m request).output) is_t
    ∙ ap (λ (y : TargetStep). then_stepped y (answers false y.machine y.disk (unasked_data m bytes)))
    (command_taken m t disk lun cdb bytes a.cmd_sn_fits a.held limit
    short) in
    let most : ℕ = m.held.target_max_recv in
    let short_ : length (immediate_data m bytes) ≤ most = subst (λ (h : Held). length (immediate_data m bytes) ≤ h.target_max_recv) a.held short in
    let written : ArePlain most (write_message m lun cdb bytes ∷ unasked_data m bytes) =
    plain_more most (write_message m lun cdb bytes) (unasked_data m bytes)
    (λ logins. command_readable logins m (not (has_more m bytes)) false (not (length bytes == 0)) lun cdb (immediate_data m bytes) (length bytes) on_ size are
    a.tag_fits (omega (arith, few)) a.cmd_sn_fits
    (stat_sn_sent m t a) (omega (arith, short_, a.is_held.target_max_recv.1)))
    (short_message (write_message m lun cdb bytes).head (immediate_data m bytes) most short_)
    (sequence_written (begun_write m) None reserved_tag (length (immediate_data m bytes)) (initiator_writes.unsolicited m bytes) a.is_held all.tag_fits
    all.stat_sn_sends refl tt (omega arith)
    (omega (arith, first_few m bytes, few))) in
    let ends_ : Ends most_answers m.held unit i r (local_command after) = record {
      last = x.1.last;
      leads = leads_less (length bytes + 1) most_answers m.held (between i r.machine r.disk r.answers) x.1.last (omega (arith, few)) x.1.leads;
      ended = x.1.ended;
    } in
    subst (λ (x : Effect). Begins m.held m t disk request (local_command x)) (sym here) (record {
      received = received_by m.held t disk (submitted m request).output r is (subst (λ (s : SubmitStep). ArePlain most s.output) (sym sent) written) x.0.live
          x.0.rule
          x.0.answered;
      ends = subst (λ (s : SubmitStep). Ends most_answers m.held unit s.machine (answers false t disk (submitted m request).output) (local_command after)) (sym sent)
          (subst (λ (k : initiator.InitiatorSession). Ends most_answers m.held unit k (answers false t disk (submitted m request).output) (local_command after))
          (sym is_m)
          (subst (λ (y : TargetStep). Ends most_answers m.held unit i y (local_command after)) (sym is) ends_));
    })

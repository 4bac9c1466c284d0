-- The steps of commands and Data-Out, case by case.
use Rattle.std.proofs.Common.{◌≡◌, ◌∙◌, ℕ, List, [], ◌∷◌, ◌++◌, Bool, true, false, length, None, refl, sym, ap, subst}
use Rattle.std.specs.Prelude.{◌==◌, ◌||◌}
use Rattle.scsi_disk.specs.Disk.{Disk}
use Rattle.iscsi_stream.specs.Stream.{Message}
use Rattle.iscsi_target.specs.Write.{Write}
use Rattle.iscsi_target.specs.State.{Machine, unchanged, waiting_tasks, unit_of}
use Rattle.iscsi_target.specs.declared.tasks.Task.TheVariants.{Data}
use Rattle.iscsi_target.specs.Transfer.{is_whole_write, is_nothing_due}
use Rattle.iscsi_target.specs.Execution.{Device, execute}
use Rattle.iscsi_target.specs.Command.{proceed, send_r2t, led_by}
use Rattle.scsi_disk.specs.Plan.{is_read, is_write}
use Rattle.scsi_disk.specs.declared.order.Order.{Order}
use Rattle.scsi_unit.specs.Telling.{outcome_with_unit}
use Rattle.scsi_unit.proofs.TellingLemmas.{not_told}
use Rattle.std.proofs.Common.{rules, append_assoc, ◌≤◌}
use Rattle.std.specs.Prelude.{Result, Ok, Err, OnOk}
use Rattle.std.proofs.lemmas.List.Concat.{flat_map-append}
use Rattle.scsi_disk.specs.declared.order.Outcome.{Outcome}
use Rattle.iscsi_pdu.specs.Meaning.{whole}
use Rattle.iscsi_pdu.specs.declared.head.Head.{Head}
use Rattle.iscsi_stream.specs.Canonical.{canon, canonical_bytes}
use Rattle.iscsi_target_session.specs.Session.{answer_message}
use Rattle.iscsi_target.specs.Transfer.{desired}
use Rattle.iscsi_target.specs.Execution.{response_head, sense_segment, command_answers, data_in_parts, data_ins}
use Rattle.iscsi_target.specs.Command.{r2t_head}
use Rattle.iscsi_target.specs.declared.due.Due.{Due}
use Rattle.iscsi_target.specs.declared.due.Due.TheVariants.{Nothing, Unsolicited, Solicited}
use Rattle.iscsi_target.specs.inner.Staged.{CountsR2ts, with_r2t_for}
use Rattle.iscsi_target_session.proofs.ReplyBytesLemmas.{one_answer}
use Rattle.iscsi_target.specs.inner.Inside.{DisklessPost}

pub proceeds_whole : (d : Device) (s : Machine) (disk : Disk) (w : Write) → is_whole_write w ≡ true → execute d s disk w.initiator_task_tag w.order w.pieces
    ≡ proceed d s disk w
proceeds_whole d s disk w e = sym (rw e refl)

pub proceeds_asking : (d : Device) (s : Machine) (disk : Disk) (w : Write) → is_whole_write w ≡ false → is_nothing_due w.due ≡ true → proceed d s disk w
    ≡ send_r2t s disk w
proceeds_asking d s disk w e idle = rw (e, idle) refl

pub proceeds_waiting : (d : Device) (s : Machine) (disk : Disk) (w : Write) → is_whole_write w ≡ false → is_nothing_due w.due ≡ false → proceed d s disk w
    ≡ unchanged (led_by w s) disk
proceeds_waiting d s disk w e idle = rw (e, idle) refl

-- ---- no answer

pub asked_idle : (total received asked : ℕ) (due : Due) → is_nothing_due due ≡ true → CountsR2ts total received asked due → asked ≤ received
asked_idle total received asked Nothing idle h = h
asked_idle total received asked (Unsolicited n) idle h = absurd cc
asked_idle total received asked (Solicited tag n end) idle h = absurd cc

pub asked_out : {E : Type 0} (s : Machine) (disk : Disk) (w asked : Write) (head : Head) (desired_ : ℕ) (new : Machine) (before after : List ℕ) → desired_
    ≡ desired s.session.held w → asked ≡ with_r2t_for desired_ w
    → new ≡ record s { tasks = Data asked ∷ s.tasks } → head ≡ r2t_head s.session (waiting_tasks (led_by w s).tasks) w → after ≡ before ++ whole head [] →
    DisklessPost {E = E} (send_r2t s disk w) (Ok None) s new before after
asked_out s disk w asked head desired_ new before after is_desired is_asked is_new is_head is_after = record {
  machine = is_new ∙ ap (λ (x : Write). record s { tasks = Data x ∷ s.tasks }) (is_asked ∙ ap (λ (n : ℕ). with_r2t_for n w) is_desired);
  output = is_after ∙ ap (λ (h : Head). before ++ whole h []) is_head ∙ ap (λ (x : List ℕ). before ++ x)
      (one_answer (r2t_head s.session (waiting_tasks (led_by w s).tasks) w) []);
  rule_is = refl;
  err = tt;
  unwritten = tt;
}

-- ---- what an order tells

pub told_write : (s : Machine) (tag : ℕ) (outcome : Outcome) (head : Head) (before mid after : List ℕ) → outcome.bytes ≡ [] → head
    ≡ response_head s.session (waiting_tasks s.tasks) tag outcome 0 → mid ≡ before
    → after ≡ mid ++ whole head (sense_segment outcome.sense) → after ≡ before ++
    canon (command_answers s.session (waiting_tasks s.tasks) tag outcome (data_in_parts s.session outcome.bytes))
told_write s tag outcome head before mid after none is_head is_mid is_after =
    is_after ∙ ap (λ (m : List ℕ). m ++ whole head (sense_segment outcome.sense)) is_mid
    ∙ ap (λ (h : Head). before ++ whole h (sense_segment outcome.sense)) is_head
    ∙ ap (λ (x : List ℕ). before ++ x) (one_answer (response_head s.session (waiting_tasks s.tasks) tag outcome 0) (sense_segment outcome.sense))
    ∙ ap (λ (b : List ℕ). before ++ canon (command_answers s.session (waiting_tasks s.tasks) tag outcome (data_in_parts s.session b))) (sym none)

pub told_order : (s : Machine) (tag : ℕ) (outcome : Outcome) (bytes : List ℕ) (count : ℕ) (head : Head) (before mid after : List ℕ) → bytes ≡ outcome.bytes →
    count ≡ length (data_in_parts s.session bytes)
    → mid ≡ before ++ canon (data_ins s.session (waiting_tasks s.tasks) tag 0 0 (data_in_parts s.session bytes)) → head
    ≡ response_head s.session (waiting_tasks s.tasks) tag outcome count
    → after ≡ mid ++ whole head (sense_segment outcome.sense) → after ≡ before ++
    canon (command_answers s.session (waiting_tasks s.tasks) tag outcome (data_in_parts s.session outcome.bytes))
told_order s tag outcome bytes count head before mid after is_bytes is_count is_mid is_head is_after =
    let given : List (List ℕ × Bool) = data_in_parts s.session bytes in
    let ins : List Message = data_ins s.session (waiting_tasks s.tasks) tag 0 0 given in
    let last : Message = answer_message (response_head s.session (waiting_tasks s.tasks) tag outcome (length given)) (sense_segment outcome.sense) in
    is_after ∙ ap (λ (m : List ℕ). m ++ whole head (sense_segment outcome.sense)) is_mid
    ∙ append_assoc before (canon ins) (whole head (sense_segment outcome.sense))
    ∙ ap (λ (h : Head). before ++ (canon ins ++ whole h (sense_segment outcome.sense)))
    (is_head ∙ ap (response_head s.session (waiting_tasks s.tasks) tag outcome) is_count)
    ∙ ap (λ (x : List ℕ). before ++ (canon ins ++ x)) (one_answer (response_head s.session (waiting_tasks s.tasks) tag outcome (length given))
    (sense_segment outcome.sense))
    ∙ ap (λ (x : List ℕ). before ++ x) (sym (flat_map-append canonical_bytes ins (last ∷ [])))
    ∙ ap (λ (b : List ℕ). before ++ canon (command_answers s.session (waiting_tasks s.tasks) tag outcome (data_in_parts s.session b))) is_bytes

same_bytes : (s : Machine) (tag count : ℕ) (order : Order) (outcome : Outcome) (before after : List ℕ) → (is_read order.cdb || is_write order.cdb) ≡ true
    → after ≡ before ++ canon (command_answers s.session (waiting_tasks s.tasks) tag outcome (data_in_parts s.session outcome.bytes))
    → (let o : Outcome = outcome_with_unit (unit_of s.session) count order outcome in
    after ≡ before ++ canon (command_answers s.session (waiting_tasks s.tasks) tag o (data_in_parts s.session o.bytes)))
same_bytes s tag count order outcome before after moves is_after =
    subst (λ (o : Outcome). after ≡ before ++ canon (command_answers s.session (waiting_tasks s.tasks) tag o (data_in_parts s.session o.bytes)))
    (sym (not_told (unit_of s.session) count order outcome moves)) is_after

-- a READ is answered as on a disk that tells no more of itself
pub told_read : (s : Machine) (tag count : ℕ) (order : Order) (outcome : Outcome) (before after : List ℕ) → is_read order.cdb ≡ true
    → after ≡ before ++ canon (command_answers s.session (waiting_tasks s.tasks) tag outcome (data_in_parts s.session outcome.bytes))
    → (let o : Outcome = outcome_with_unit (unit_of s.session) count order outcome in
    after ≡ before ++ canon (command_answers s.session (waiting_tasks s.tasks) tag o (data_in_parts s.session o.bytes)))
told_read s tag count order outcome before after reads is_after =
    same_bytes s tag count order outcome before after (ap (λ (b : Bool). b || is_write order.cdb) reads) is_after

or_right : (a b : Bool) → b ≡ true → (a || b) ≡ true
or_right true b e = refl
or_right false b e = e

-- and so is a WRITE
pub write_told : (s : Machine) (tag count : ℕ) (order : Order) (outcome : Outcome) (before after : List ℕ) → is_write order.cdb ≡ true
    → after ≡ before ++ canon (command_answers s.session (waiting_tasks s.tasks) tag outcome (data_in_parts s.session outcome.bytes))
    → (let o : Outcome = outcome_with_unit (unit_of s.session) count order outcome in
    after ≡ before ++ canon (command_answers s.session (waiting_tasks s.tasks) tag o (data_in_parts s.session o.bytes)))
write_told s tag count order outcome before after writes is_after =
    same_bytes s tag count order outcome before after (or_right (is_read order.cdb) (is_write order.cdb) writes) is_after

pub on_ok : {A E P Q : Type 0} (result : Result A E) → (P → Q) → OnOk result P → OnOk result Q
on_ok (Ok x) step h = step h
on_ok (Err e) step h = tt

pub same_tags : (a b : ℕ) → a ≡ b → (a == b) ≡ true
same_tags a b e = search rules

-- What responses say is what was executed, in their order.
use Rattle.std.proofs.Common.{◌≡◌, ◌∙◌, ℕ, ◌+◌, List, [], ◌∷◌, ◌++◌, Bool, length, refl, sym, ap, map}
use Rattle.std.proofs.lemmas.List.{map-append}
use Rattle.std.proofs.lemmas.Grind.{flat_map-append}
use Rattle.scsi_disk.specs.Disk.{Disk}
use Rattle.scsi_disk.specs.Effect.{Effect}
use Rattle.scsi_disk.specs.declared.order.Order.{Order}
use Rattle.iscsi_pdu.specs.declared.head.Head.{Head}
use Rattle.iscsi_pdu.specs.declared.head.Head.TheVariants.{ScsiResponse}
use Rattle.iscsi_stream.specs.Pieces.{Pieces, piece_data}
use Rattle.iscsi_stream.specs.Segment.{segment_bytes}
use Rattle.iscsi_stream.specs.Stream.{Message}
use Rattle.iscsi_target_session.specs.Session.{Session, Reply, answer_message}
use Rattle.iscsi_target_session.specs.Login.{target_login_step}
use Rattle.iscsi_target_session.specs.Rejecting.{reject_and_close}
use Rattle.iscsi_target.specs.declared.tasks.Task.{Task}
use Rattle.iscsi_target.specs.State.{Machine, Execution, TargetStep, on, waiting_tasks, unit_of}
use Rattle.iscsi_target.specs.Execution.{Device, reliable, device_after, execute, data_in_parts, data_ins, response_head, sense_segment, as_told}
use Rattle.iscsi_target.specs.Machine.{target_step, answers, task_begun, done_in_turn}
use Rattle.iscsi_target.specs.Laws.{ToldResponse, answer_told, told_in, told_of, due_for, response_tag, response_tags}
use Rattle.iscsi_target.proofs.Steps.TurnLemmas.{Begins, begins, Turns, turns, with_tasks}
use Rattle.iscsi_target.proofs.Steps.StepPartLemmas.{Parts, step_parts}
use Rattle.iscsi_target.proofs.Answers.ReplyLemmas.{login_logs, reject_and_close_reply, request_answered_reply}
use Rattle.iscsi_target.proofs.Writes.WriteTilingLaws.{still_reliable}

record Tells (protected : Bool) (r : TargetStep) : Type 0 where
  is : told_in r.answers ≡ map (due_for protected) r.executed

none_left : {A : Type 0} (a b : List A) → a ++ b ≡ [] → a ≡ []
none_left [] b e = refl
none_left (x ∷ a) b e = absurd cc

none_right : {A : Type 0} (a b : List A) → a ++ b ≡ [] → b ≡ []
none_right [] b e = e
none_right (x ∷ a) b e = absurd cc

no_response : (head : Head) (bytes : List ℕ) → response_tag head ≡ [] → answer_told head bytes ≡ []
no_response (ScsiResponse h) bytes e = absurd cc
no_response _ bytes e = refl

-- answers with no tag of a response have no response
none_told : (ms : List Message) → response_tags ms ≡ [] → told_in ms ≡ []
none_told [] e = refl
none_told (m ∷ ms) e =
    ap (λ (ts : List ToldResponse). ts ++ told_in ms)
    (no_response m.head (segment_bytes m.segment) (none_left (response_tag m.head) (response_tags ms) e))
    ∙ none_told ms (none_right (response_tag m.head) (response_tags ms) e)

reply_tells : (protected : Bool) (tasks : List Task) (disk : Disk) (r : Reply) → response_tags r.answers ≡ [] → Tells protected (on disk tasks r)
reply_tells protected tasks disk r e = record { is = none_told r.answers e }

told_append : (a b : List Message) → told_in (a ++ b) ≡ told_in a ++ told_in b
told_append a b = flat_map-append (λ (m : Message). answer_told m.head (segment_bytes m.segment)) a b

-- ---- one order

ins_told : (s : Session) (waits tag data_sn at : ℕ) (given : List (List ℕ × Bool)) (more : List Message) →
    told_in (data_ins s waits tag data_sn at given ++ more) ≡ told_in more
ins_told s waits tag data_sn at [] more = refl
ins_told s waits tag data_sn at (part ∷ given) more = ins_told s waits tag (data_sn + 1) (at + length part.0) given more

execute_tells : (protected : Bool) (device : Device) (s : Machine) (disk : Disk) (tag : ℕ) (order : Order) (pieces : Pieces) → device ≡ reliable protected →
    Tells protected (execute device s disk tag order pieces)
unfolding segment_bytes
execute_tells protected device s disk tag order pieces e =
    let f : Effect = as_told (unit_of s.session) disk.count order (device 0 disk order (piece_data pieces)) in
    let given : List (List ℕ × Bool) = data_in_parts s.session f.outcome.bytes in
    record {
      is = ins_told s.session (waiting_tasks s.tasks) tag 0 0 given
          (answer_message (response_head s.session (waiting_tasks s.tasks) tag f.outcome (length given)) (sense_segment f.outcome.sense) ∷ [])
          ∙ ap (λ (d : Device). told_of tag (as_told (unit_of s.session) disk.count order (d 0 disk order (piece_data pieces))).outcome ∷ []) e;
    }

-- ---- tasks

begins_tell : (protected : Bool) → Begins (λ device s disk task r. device ≡ reliable protected → Tells protected r)
begins_tell protected = record {
  request_ = λ device s disk k e. reply_tells protected s.tasks disk _ (request_answered_reply s.session (waiting_tasks s.tasks) k.message k.request).tags;
  command_ = λ device s disk tag order e. execute_tells protected device s disk tag order [] e;
  write_ = λ device s disk w whole e. execute_tells protected device s disk w.initiator_task_tag w.order w.pieces e;
  send_r2t_ = λ device s disk w whole idle e. record { is = refl };
  wait_ = λ device s disk w whole idle e. record { is = refl };
}

begun_tells : (protected : Bool) (device : Device) (s : Session) (disk : Disk) (task : Task) (more : List Task) → device ≡ reliable protected →
    Tells protected (task_begun device (with_tasks s more) disk task)
begun_tells protected device s disk task more e =
    begins (λ device s disk task r. device ≡ reliable protected → Tells protected r) (begins_tell protected) device (with_tasks s more) disk task e

both_tell : (protected : Bool) (answers : List Message) (executed : List Execution) (more : List Message) (later : List Execution)
    → told_in answers ≡ map (due_for protected) executed →
    told_in more ≡ map (due_for protected) later → told_in (answers ++ more) ≡ map (due_for protected) (executed ++ later)
both_tell protected answers executed more later e f =
    told_append answers more ∙ ap (λ (ts : List ToldResponse). ts ++ told_in more) e ∙ ap (λ (ts : List ToldResponse). map (due_for protected) executed ++ ts) f
    ∙ sym (map-append (due_for protected) executed later)

turns_tell : (protected : Bool) → Turns (λ device s disk tasks r. device ≡ reliable protected → Tells protected r)
turns_tell protected = record {
  none_ = λ device s disk e. record { is = refl };
  stop_ = λ device s disk task more why e. begun_tells protected device s disk task more e;
  then_ = λ device s disk task more b stays live u e.
      (let a : TargetStep = task_begun device (with_tasks s more) disk task in
      let later : Tells protected b = u (ap (device_after a.executed) e ∙ still_reliable protected a.executed) in
      record { is = both_tell protected a.answers a.executed b.answers b.executed (begun_tells protected device s disk task more e).is later.is });
}

done_tells : (protected : Bool) (s : Session) (disk : Disk) (tasks : List Task) → Tells protected (done_in_turn (reliable protected) s disk tasks)
done_tells protected s disk tasks = turns (λ device s disk tasks r. device ≡ reliable protected → Tells protected r) (turns_tell protected)
    (reliable protected) s disk tasks refl

-- ---- all parts

parts_tell : (protected : Bool) (disk : Disk) → Parts (reliable protected) disk (λ s m r. Tells protected r)
parts_tell protected disk = record {
  nothing_ = λ s m c. record { is = refl };
  shut_ = λ s m. record { is = refl };
  beside_ = λ s m r a is. reply_tells protected s.tasks disk r is.reply.tags;
  reject_and_close_ = λ s rule m. reply_tells protected s.tasks disk _ (reject_and_close_reply s.session (waiting_tasks s.tasks) rule m).tags;
  login_ = λ s m k. reply_tells protected s.tasks disk (target_login_step s.session m) (login_logs s.session m).is.tags;
  taken_ = λ s m h w v k e f. record { is = (done_tells protected s.session disk _).is };
  refused_ = λ s t m rule a x. record {
    is = (reply_tells protected t.tasks disk (reject_and_close t.session (waiting_tasks t.tasks) rule m)
        (reject_and_close_reply t.session (waiting_tasks t.tasks) rule m).tags).is;
  };
  admitted_ = λ s t m a x r is f. record { is = (done_tells protected t.session disk _).is };
}

step_tells : (protected : Bool) (disk : Disk) (s : Machine) (m : Message) → Tells protected (target_step protected s disk m)
step_tells protected disk s m = step_parts (reliable protected) disk (λ s m r. Tells protected r) (parts_tell protected disk) s m

pub answers_tell : (protected : Bool) (s : Machine) (disk : Disk) (ms : List Message)
    → told_in (answers protected s disk ms).answers ≡ map (due_for protected) (answers protected s disk ms).executed
unfolding answers
answers_tell protected s disk [] = refl
answers_tell protected s disk (m ∷ ms) =
    let first : TargetStep = target_step protected s disk m in
    let later : TargetStep = answers protected first.machine first.disk ms in
    both_tell protected first.answers first.executed later.answers later.executed (step_tells protected disk s m).is
    (answers_tell protected first.machine first.disk ms)

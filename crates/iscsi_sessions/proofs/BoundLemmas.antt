-- How many tasks a session keeps, and how many commands a PDU has executed.
use Rattle.std.proofs.Common.{◌≡◌, ◌≤◌, ◌<◌, inl, inr, ℕ, ◌+◌, ◌∙◌, Bool, true, false, List, [], ◌∷◌, ◌++◌, length, Option, Some, None, refl, sym}
use Rattle.std.proofs.Common.{subst, ◌*◌, append-nil, arith, length-append, map}
use Rattle.std.specs.Prelude.{◌==◌, ◌&&◌, ◌||◌, nat_lt, not, Result}
use Rattle.std.specs.List.{AllByRecursion}
use Rattle.std.proofs.lemmas.Bool.{eqb-true, ltb-false, ltb-true}
use Rattle.scsi_disk.specs.Disk.{Disk}
use Rattle.scsi_disk.specs.Plan.{is_read, plan_of, named_transfer, wanted_length}
use Rattle.scsi_disk.specs.declared.order.Order.{Order}
use Rattle.scsi_disk.proofs.PlanLemmas.{IsGiven, given as given_by_plan, none_refused, not_refused, taken as taken_by_plan}
use Rattle.scsi_disk.specs.Deed.{is_twofold, taken_by}
use Rattle.scsi_disk.specs.declared.deed.Deed.{Deed}
use Rattle.scsi_disk.specs.declared.deed.Deed.TheVariants.{Write, Same, Verify, Compare, Unmap}
use Rattle.scsi_disk.specs.declared.order.Plan.TheVariants as plans
use Rattle.iscsi_stream.specs.Stream.{Message}
use Rattle.iscsi_stream.specs.Canonical.{canon}
use Rattle.iscsi_target_session.proofs.CaseLemmas.{by_cases}
use Rattle.iscsi_target.specs.declared.tasks.Task.{Task}
use Rattle.iscsi_target.specs.declared.tasks.Task.TheVariants.{Command, Data, Request}
use Rattle.iscsi_target.specs.State.{Machine, Execution, TargetStep, joined_task, opening_machine}
use Rattle.iscsi_target.specs.Transfer.{bytes_received}
use Rattle.iscsi_target.specs.Machine.{is_machine_closed}
use Rattle.iscsi_target_session.specs.Configured.{TargetSettings}
use Rattle.iscsi_target.specs.declared.fault.TargetFault.{TargetFault}
use Rattle.iscsi_target.specs.Feed.{Store}
use Rattle.iscsi_sessions.specs.Slots.{SessionTable, Slot, has_answer_room as has_room_at, may_take_at, slot_at, slot_waiting}
use Rattle.iscsi_sessions.specs.Turns.{SlotEvent, Comes, Takes, Syncs, Ends, Goes, IsEnded, IsLeftSession, SessionEvents, TakesTurn, answers_of}
use Rattle.iscsi_sessions.specs.Company.{Group, HaveCount, answers_over}
use Rattle.iscsi_sessions.specs.Bounds.{ExecutesFew, HoldsFew, IsNumbered, most_taken}
use Rattle.iscsi_target.proofs.Writes.WriteTilingLaws.{IsSound}
use Rattle.iscsi_target.proofs.Queue.QueueLemmas.{AreFew, AlikeIn, AtPdus, nine, no_few, cons_alike, same_alike, may_few}
use Rattle.iscsi_sessions.proofs.CompanyLemmas.{over_sound}
use Rattle.iscsi_stream.proofs.ReadyLemmas.{and_left, and_right}
use Rattle.iscsi_target.proofs.Writes.JoiningLemmas.{same_place}

-- ---- a session in company

joined_alike : (tasks : List Task) → AlikeIn tasks (map joined_task tasks)
joined_alike [] = same_alike []
joined_alike (task ∷ more) = cons_alike task (joined_task task) more (map joined_task more) (same_place task) (joined_alike more)

alike_few : (tasks after : List Task) → AlikeIn tasks after → AreFew tasks → AreFew after
alike_few tasks after x f = record { few = subst (λ (n : ℕ). n ≤ 8) (sym x.waits) f.few; places = x.behind_ f.places }

is_left_few : (s new : Machine) → IsLeftSession s new → AreFew s.tasks → AreFew new.tasks
is_left_few s new (inl same) f = subst (λ (x : Machine). AreFew x.tasks) (sym same) (alike_few s.tasks (map joined_task s.tasks) (joined_alike s.tasks) f)
is_left_few s new (inr over) f = subst (λ (x : Machine). AreFew x.tasks) (sym over) no_few

is_ended_few : (s new : Machine) → IsEnded s new → AreFew s.tasks → AreFew new.tasks
is_ended_few s new (inl same) f = subst (λ (x : Machine). AreFew x.tasks) (sym same) f
is_ended_few s new (inr over) f = subst (λ (x : Machine). AreFew x.tasks) (sym over) no_few

-- what the session has in the end, and what each of its events executed
record InSession (es : List SlotEvent) (end : Machine) : Type 0 where
  pub keeps : AreFew end.tasks
  pub each : AllByRecursion ExecutesFew es

session_few : (protected : Bool) (s end : Machine) (es : List SlotEvent) → SessionEvents protected s es end → AllByRecursion IsNumbered es → AreFew s.tasks
    → InSession es end
unfolding SessionEvents
session_few protected s end [] h all f = record { keeps = subst (λ (x : Machine). AreFew x.tasks) (sym h) f; each = tt }
session_few protected s end (Comes k settings ∷ es) h all f = absurd h
session_few protected s end (Goes k ∷ es) h all f = absurd h
session_few protected s end (Syncs k ∷ es) h all f =
    let later : InSession es end = session_few protected s end es h all.1 f in
    record { keeps = later.keeps; each = (omega arith, later.each) }
session_few protected s end (Ends k ∷ es) h all f =
    let later : InSession es end = session_few protected h.0 end es h.2 all.1 (is_ended_few s h.0 h.1 f) in
    record { keeps = later.keeps; each = (omega arith, later.each) }
session_few protected s end (Takes t ∷ es) h all f =
    let own : AtPdus t.messages t.stepped = may_few protected s t.before.disk t.before.failures h.1.counted t.messages t.stepped h.1.may all.0.0 f in
    let here : AreFew t.front.machine.tasks = subst (λ (x : TargetStep). AreFew x.machine.tasks) (sym all.0.1) own.keeps in
    let later : InSession es end = session_few protected h.0 end es h.3 all.1 (is_left_few t.front.machine h.0 h.2 here) in
    let few : length (t.stepped.executed ++ t.front.executed) ≤ 9 * length t.messages =
    subst (λ (x : TargetStep). length (t.stepped.executed ++ x.executed) ≤ 9 * length t.messages) (sym all.0.1)
    (subst (λ (xs : List Execution). length xs ≤ 9 * length t.messages) (sym (append-nil t.stepped.executed)) own.each) in
    record {
      keeps = later.keeps;
      each = (subst (λ (ms : List Message). length (t.stepped.executed ++ t.front.executed) ≤ 9 * length ms) (sym (append-nil t.messages)) few, later.each);
    }

pub opening_few : (protected : Bool) (settings : TargetSettings) (n : ℕ) (end : Machine) (es : List SlotEvent)
    → SessionEvents protected (opening_machine settings n) es end
    → AllByRecursion IsNumbered es →
    length end.tasks ≤ 9
opening_few protected settings n end es h all = nine end.tasks (session_few protected (opening_machine settings n) end es h all no_few).keeps

pub opening_executes : (protected : Bool) (settings : TargetSettings) (n : ℕ) (end : Machine) (es : List SlotEvent)
    → SessionEvents protected (opening_machine settings n) es end
    → AllByRecursion IsNumbered es →
    AllByRecursion ExecutesFew es
opening_executes protected settings n end es h all = (session_few protected (opening_machine settings n) end es h all no_few).each

-- ---- what waits to be written

room_most : (waits : ℕ) (offered : Bool) → (waits == 0 || (not offered && nat_lt waits 65536)) ≡ true → waits ≤ 65535
room_most waits offered e =
    by_cases (waits == 0)
    (λ f. let none : waits ≡ 0 = eqb-true waits 0 f in omega (arith, none))
    (λ f.
    let both : (not offered && nat_lt waits 65536) ≡ true = rw f at e in
    let lt : waits < 65536 = ltb-true waits 65536 (and_right (not offered) (nat_lt waits 65536) both) in
    omega (arith, lt))

may_most : (o : Option Slot) → may_take_at o ≡ true → length (slot_waiting o) ≤ 65535
may_most None e = omega arith
may_most (Some s) e =
    room_most (length s.waiting) s.offered
    (and_left (has_room_at s) (not (is_machine_closed s.connection.machine))
    (and_left (has_room_at s && not (is_machine_closed s.connection.machine)) (not (length s.unfed == 0)) e))

pub turn_waits : (protected : Bool) (slot : ℕ) (old new : SessionTable) (before after : Store) (result : Result ℕ TargetFault)
    (t : TakesTurn protected slot old before result new after) →
    may_take_at (slot_at old slot) ≡ true → length (slot_waiting (slot_at new slot)) ≤ 65535 + length (canon (answers_of t.turn))
turn_waits protected slot old new before after result t may =
    let waits : List ℕ = slot_waiting (slot_at old slot) in
    let more : List ℕ = canon (answers_of t.turn) in
    let sum : length (waits ++ more) ≡ length waits + length more = length-append waits more in
    let most : length waits ≤ 65535 = may_most (slot_at old slot) may in
    subst (λ (bytes : List ℕ). length bytes ≤ 65535 + length more) (sym t.answers_are) (omega (arith, sum, most))

-- ---- what a command moves

few_by : (deed : Deed) (count n : ℕ) → n ≡ taken_by deed count → count ≤ 8192 → (is_twofold deed && nat_lt 1 count) ≡ false → n ≤ most_taken deed
few_by Write count n e few once = omega (arith, e, few)
few_by Same count n e few once = omega (arith, e)
few_by Verify count n e few once = omega (arith, e, few)
few_by Compare count n e few once = omega (arith, e, ltb-false 1 count once)
few_by (Unmap length) count n e few once = omega (arith, e)

pub takes_few : (order : Order) (blocks n : ℕ) → plan_of order blocks ≡ plans.Take n → n ≤ most_taken order.deed
takes_few order blocks n p =
    let taken = taken_by_plan order blocks n p in
    let none = none_refused order blocks (not_refused order blocks (λ sense e. (let h : plans.Refuse sense ≡ plans.Take n = sym e ∙ p in cc))) in
    few_by order.deed (named_transfer order.cdb).count n taken.length taken.names.few none.once

read_wants : (order : Order) (blocks : ℕ) → is_read order.cdb ≡ true → wanted_length order blocks ≡ 512 * (named_transfer order.cdb).count
read_wants order blocks e = rw e refl

pub most_given : (order : Order) (blocks n : ℕ) → is_read order.cdb ≡ true → plan_of order blocks ≡ plans.Give n → n ≤ 4_194_304
most_given order blocks n e p =
    let g : IsGiven order blocks n = given_by_plan order blocks n p in
    let few = g.names.few in
    let most : n ≤ 512 * (named_transfer order.cdb).count = subst (λ (k : ℕ). n ≤ k) (read_wants order blocks e) g.most in
    omega (arith, few, most)

-- ---- what writes hold

sound_few : (count : ℕ) (tasks : List Task) → IsSound count tasks → AllByRecursion HoldsFew tasks
sound_few count [] o = tt
sound_few count (Command tag order ∷ more) o = (tt, sound_few count more o.1)
sound_few count (Request k ∷ more) o = (tt, sound_few count more o.1)
sound_few count (Data w ∷ more) o =
    let most : w.total ≤ most_taken w.order.deed = takes_few w.order count w.total o.0.plan in
    let fits : bytes_received w ≤ w.total = o.0.fits in
    (omega (arith, most, fits), sound_few count more o.1)

pub held_few : (protected : Bool) (settings : TargetSettings) (n count : ℕ) (disk : Disk) (gs : List Group) → HaveCount count gs →
    AllByRecursion HoldsFew (answers_over protected (opening_machine settings n) disk gs).machine.tasks
held_few protected settings n count disk gs all =
    sound_few count (answers_over protected (opening_machine settings n) disk gs).machine.tasks
    (over_sound protected count (opening_machine settings n) disk gs all tt)

-- Writes over steps: what came tiles what is due, and R2Ts are modest.
use Rattle.std.proofs.Common.{◌≡◌, not, ◌≤◌, ◌⊎◌, inl, inr, ℕ, zero, suc, ◌+◌, List, [], ◌∷◌, ◌++◌, Bool, true, false, length, Option, Some, None, refl}
use Rattle.std.proofs.Common.{sym, ap, ◌∙◌, subst, arith, map, lt-ltb}
use Rattle.std.specs.Prelude.{◌==◌, nat_lt, ◌&&◌, ◌||◌, if◌then◌else◌}
use Rattle.std.specs.List.{AllByRecursion}
use Rattle.std.proofs.lemmas.Bool.{eqb-true, ltb-false}
use Rattle.scsi_cdb.specs.declared.sense.Sense.{Sense}
use Rattle.scsi_disk.specs.Disk.{Disk}
use Rattle.scsi_disk.specs.Effect.{guarded, Effect, deed_failure, effect, disk_by, disk_taken}
use Rattle.scsi_disk.specs.Runs.{disk_after}
use Rattle.scsi_disk.specs.Plan.{plan_of, plan_by, first_refusal, is_write, taken_length}
use Rattle.scsi_disk.specs.declared.order.Order.{Order}
use Rattle.scsi_disk.specs.declared.order.Plan.{Plan}
use Rattle.scsi_disk.specs.declared.order.Plan.TheVariants.{Refuse, Take, Give}
use Rattle.scsi_unit.specs.LogicalUnit.{LogicalUnit}
use Rattle.iscsi_pdu.specs.declared.head.scsi_command.ScsiCommand.{ScsiCommand as Command}
use Rattle.iscsi_stream.specs.Segment.{segment_bytes}
use Rattle.iscsi_stream.specs.Stream.{Message}
use Rattle.iscsi_text.specs.declared.negotiated.NegKey.TheVariants as keys
use Rattle.iscsi_login.specs.Held.{Held, first_burst, is_on, unasked}
use Rattle.iscsi_target_session.specs.Configured.{TargetSettings}
use Rattle.iscsi_target_session.specs.Session.{Session, Reply, answer_message}
use Rattle.iscsi_target.specs.Write.{Write}
use Rattle.iscsi_target.specs.declared.tasks.Task.{Task}
use Rattle.iscsi_target.specs.declared.tasks.Task.TheVariants as kinds
use Rattle.iscsi_target.specs.declared.tasks.Task.TheVariants.{Request, Data}
use Rattle.iscsi_target_session.specs.declared.inbound.Asks.{Asks}
use Rattle.iscsi_target_session.specs.declared.inbound.Asks.TheVariants as asks
use Rattle.iscsi_target.specs.State.{Machine, Execution, TargetStep, on, opening_machine, waiting_tasks, unit_of}
use Rattle.iscsi_target.specs.inner.State.{breaks}
use Rattle.iscsi_stream.specs.Pieces.{Pieces, piece_data}
use Rattle.iscsi_target_session.specs.Login.{target_login_step}
use Rattle.iscsi_target.specs.declared.due.Due.TheVariants.{Nothing, Unsolicited}
use Rattle.iscsi_target.specs.Transfer.{is_whole_write, bytes_received, with_piece, with_r2t}
use Rattle.iscsi_target.specs.Execution.{Device, device_after, execute, data_in_parts, data_ins, response_head, sense_segment, reliable, as_told}
use Rattle.iscsi_target.specs.Command.{order_of, write_opened, breaks_burst_rules, is_bad_segment, is_bad_announcement, breaks_rules, task_of, task_by, task_planned, presented}
use Rattle.iscsi_target.specs.Machine.{target_step, answers, task_begun, stays, done_in_turn, having_accepted, write_of, with_write}
use Rattle.iscsi_target.specs.Tiles.{r2t_range, r2t_ranges, IsModest, total_of, Tiles, TilesPlan, IsTiled}
use Rattle.iscsi_target.specs.Laws.{supplied}
use Rattle.std.proofs.lemmas.Grind.{flat_map-append}
use Rattle.iscsi_target_session.proofs.CaseLemmas.{by_cases}
use Rattle.iscsi_target.proofs.Steps.TurnLemmas.{Begins, begins, Turns, turns, with_tasks, stays_on}
use Rattle.iscsi_target.proofs.Steps.StepPartLemmas.{Accepts, Immediately, InTurn, Parts, step_parts}
use Rattle.iscsi_target.proofs.Answers.ReplyLemmas.{IsOver, on_ends, login_logs, request_answered_reply}
use Rattle.iscsi_target.proofs.Writes.OpenWriteLemmas.{DueFits, IsOpen, size_with, tiles_with, taken_open, asking_modest, with_r2t_open}
use Rattle.iscsi_target.proofs.Steps.DiskFoldLemmas.{step_folds}
use Rattle.scsi_disk.proofs.PlanLemmas.{none_refused}

-- A write may be open on a disk of n blocks, and any other command takes no data there (section 11.7).
abbrev pub OnTask : ℕ → Task → Type 0
OnTask count (kinds.Command tag order) = (n : ℕ) → plan_of order count ≡ Take n → ⊥
OnTask count (Data w) = IsOpen count w
OnTask count (Request k) = Unit {0}

-- The same of each task.
abbrev pub IsSound : ℕ → List Task → Type 0
IsSound count tasks = AllByRecursion (OnTask count) tasks

-- What each message keeps: the writes may be open, what was executed is tiled, and what R2Ts ask for
-- is modest (sections 11.7 and 11.8).
pub record KeepsWrites (count : ℕ) (r : TargetStep) : Type 0 where
  pub sound : IsSound count r.machine.tasks
  pub tiled : AllByRecursion IsTiled r.executed
  pub modest : AllByRecursion (IsModest r.machine.session.held (total_of r.machine.tasks)) (r2t_ranges r.answers)

after_reply : (count : ℕ) (old : List Task) (s : Machine) → IsOver s ⊎ (s.tasks ≡ old) → IsSound count old → IsSound count s.tasks
after_reply count old s (inl over) o = subst (IsSound count) (sym over.tasks) tt
after_reply count old s (inr e) o = subst (IsSound count) (sym e) o

no_ranges : (held : Held) (total : ℕ) (ranges : List (ℕ × ℕ)) → ranges ≡ [] → AllByRecursion (IsModest held total) ranges
no_ranges held total ranges e = subst (λ (rs : List (ℕ × ℕ)). AllByRecursion (IsModest held total) rs) (sym e) tt

reply_goes : (s : Machine) (disk : Disk) (r : Reply) → r2t_ranges r.answers ≡ [] → IsSound disk.count s.tasks → KeepsWrites disk.count (on disk s.tasks r)
reply_goes s disk r none o = record {
  sound = after_reply disk.count s.tasks (on disk s.tasks r).machine (on_ends disk s.tasks r) o;
  tiled = tt;
  modest = no_ranges r.session.held (total_of (on disk s.tasks r).machine.tasks) (r2t_ranges r.answers) none;
}

pub ins_ranges : (s : Session) (waits tag data_sn at : ℕ) (given : List (List ℕ × Bool)) (more : List Message) →
    r2t_ranges (data_ins s waits tag data_sn at given ++ more) ≡ r2t_ranges more
ins_ranges s waits tag data_sn at [] more = refl
ins_ranges s waits tag data_sn at (part ∷ given) more = ins_ranges s waits tag (data_sn + 1) (at + length part.0) given more

pub execute_ranges : (device : Device) (s : Machine) (disk : Disk) (tag : ℕ) (order : Order) (pieces : Pieces) →
    r2t_ranges (execute device s disk tag order pieces).answers ≡ []
execute_ranges device s disk tag order pieces =
    let e : Effect = as_told (unit_of s.session) disk.count order (device 0 disk order (piece_data pieces)) in
    let given : List (List ℕ × Bool) = data_in_parts s.session e.outcome.bytes in
    ins_ranges s.session (waiting_tasks s.tasks) tag 0 0 given (answer_message (response_head s.session (waiting_tasks s.tasks) tag e.outcome (length given))
    (sense_segment e.outcome.sense) ∷ [])

whole_tiles : (count : ℕ) (w : Write) → IsOpen count w → is_whole_write w ≡ true → TilesPlan (plan_of w.order count) w.pieces
whole_tiles count w o e =
    let t : Tiles w.pieces w.total = subst (λ (n : ℕ). Tiles w.pieces n) (sym (eqb-true w.total (bytes_received w) e)) o.tiles in
    subst (λ (p : Plan). TilesPlan p w.pieces) (sym o.plan) t

no_plan_tiles : (plan : Plan) → ((n : ℕ) → plan ≡ Take n → ⊥) → TilesPlan plan []
no_plan_tiles (Take n) none = absurd (none n refl)
no_plan_tiles (Refuse sense) none = refl
no_plan_tiles (Give n) none = refl

due_opened : (total : ℕ) (last : Bool) → DueFits total (if last then Nothing else Unsolicited 0)
due_opened total true = tt
due_opened total false = tt

opened_open : (count : ℕ) (held : Held) (h : Command) (order : Order) (total : ℕ) (bytes : List ℕ) → plan_of order count ≡ Take total
    → length bytes ≤ total → IsOpen count (write_opened h order total bytes)
opened_open count held h order total bytes f fits =
    let size : bytes_received (write_opened h order total bytes) ≡ 0 + length bytes = size_with [] 0 bytes in
    record {
      plan = f;
      tiles = subst (λ (n : ℕ). Tiles (with_piece [] 0 bytes) n) (sym size) (tiles_with [] 0 bytes refl);
      fits = omega (arith, size, fits);
      due = due_opened total h.is_final;
    }

-- ---- a write takes what its initiator expects

not_and : (a b : Bool) → a ≡ true → (a && not b) ≡ false → b ≡ true
not_and true true e f = refl
not_and true false e f = cc
not_and false b e f = absurd cc

-- what is planned to be taken is what a write's own length says, and what is expected
take_is_by : (order : Order) (count total : ℕ) (refused : Option Sense) (write : Bool) → first_refusal order count ≡ refused → is_write order.cdb ≡ write
    → plan_by refused order count ≡ Take total → order.expected ≡ total
take_is_by order count total (Some sense) write e w f = absurd cc
take_is_by order count total None false e w f = absurd (let g = rw w at f in cc)
take_is_by order count total None true e w f =
    let g : Take (taken_length order) ≡ Take total = rw w at f in
    let size : taken_length order ≡ total = cc in
    eqb-true order.expected (taken_length order) (not_and (is_write order.cdb)
    (order.expected == taken_length order) w (none_refused order count e).expects_all) ∙ size

pub take_is : (order : Order) (count total : ℕ) → plan_of order count ≡ Take total → order.expected ≡ total
take_is order count total f = take_is_by order count total (first_refusal order count) (is_write order.cdb) refl refl f

pub or_left : (a b : Bool) → (a || b) ≡ false → a ≡ false
or_left false b e = refl
or_left true b e = cc

pub or_right : (a b : Bool) → (a || b) ≡ false → b ≡ false
or_right false b e = e
or_right true b e = cc

and_false : (a b : Bool) → a ≡ true → (a && b) ≡ false → b ≡ false
and_false true b e f = f
and_false false b e f = absurd cc

immediate_bound : (most expected total n : ℕ) (write immediate : Bool) → (nat_lt 0 n && (not write || (not immediate || nat_lt most n))) ≡ false → most
    ≤ expected → expected ≡ total → n ≤ total
immediate_bound most expected total zero write immediate e le is = omega arith
immediate_bound most expected total (suc n) write immediate e le is =
    let tests : (not write || (not immediate || nat_lt most (suc n))) ≡ false = and_false (nat_lt 0 (suc n))
    (not write || (not immediate || nat_lt most (suc n))) (lt-ltb 0 (suc n) (omega arith)) e in
    omega (
      arith,
      ltb-false most (suc n) (or_right (not immediate) (nat_lt most (suc n)) (or_right (not write) (not immediate || nat_lt most (suc n)) tests)),
      le,
      is,
    )

pub immediate_fits : (unit : Option LogicalUnit) (count : ℕ) (h : Command) (held : Held) (total : ℕ) (bytes : List ℕ) → breaks_burst_rules held h
    (length bytes) ≡ false →
    plan_of (order_of unit h) count ≡ Take total → length bytes ≤ total
immediate_fits unit count h held total bytes e f =
    immediate_bound (unasked held h.expected_data_transfer_length) h.expected_data_transfer_length total (length bytes) h.write (is_on held keys.ImmediateData)
    (or_left (is_bad_segment held h (length bytes)) (is_bad_announcement held h (length bytes)) e) (omega arith) (take_is (order_of unit h) count total f)

-- ---- tasks

count_taken : (reason : Option Sense) (disk : Disk) (order : Order) (bytes : List ℕ) → (disk_taken reason disk order bytes).count ≡ disk.count
count_taken None disk order bytes = refl
count_taken (Some sense) disk order bytes = refl

count_by_plan : (plan : Plan) (disk : Disk) (order : Order) (bytes : List ℕ) → (disk_by plan disk order bytes).count ≡ disk.count
count_by_plan (Take n) disk order bytes = count_taken (deed_failure disk order bytes) disk order bytes
count_by_plan (Refuse sense) disk order bytes = refl
count_by_plan (Give n) disk order bytes = refl

-- what the first task keeps
record Goes (s : Machine) (disk : Disk) (r : TargetStep) : Type 0 where
  keeps : KeepsWrites disk.count r
  count : r.disk.count ≡ disk.count
  silent : stays s.tasks r ≡ false → r2t_ranges r.answers ≡ []

executed_count : (protected : Bool) (device : Device) (disk : Disk) (order : Order) (bytes : List ℕ) → device ≡ reliable protected
    → (device 0 disk order bytes).disk.count ≡ disk.count
executed_count protected device disk order bytes e = ap (λ (d : Device). (d 0 disk order bytes).disk.count) e
    ∙ count_by_plan (guarded protected order.deed (plan_of order disk.count)) disk order bytes

execute_goes : (protected : Bool) (device : Device) (s : Machine) (disk : Disk) (tag : ℕ) (order : Order) (pieces : Pieces) → device ≡ reliable protected →
    TilesPlan (plan_of order disk.count) pieces
    → IsSound disk.count s.tasks → Goes s disk (execute device s disk tag order pieces)
execute_goes protected device s disk tag order pieces e t o =
    let none = execute_ranges device s disk tag order pieces in
    record {
      keeps = record {
        sound = o;
        tiled = (t, tt);
        modest = no_ranges s.session.held (total_of s.tasks) (r2t_ranges (execute device s disk tag order pieces).answers) none;
      };
      count = executed_count protected device disk order (piece_data pieces) e;
      silent = λ stay. none;
    }

begins_go : (protected : Bool) → Begins (λ device s disk task r. device ≡ reliable protected → OnTask disk.count task → IsSound disk.count s.tasks
    → Goes s disk r)
begins_go protected = record {
  request_ = λ device s disk k e open_ o.
      (let c = request_answered_reply s.session (waiting_tasks s.tasks) k.message k.request in
      record { keeps = reply_goes s disk _ c.ranges o; count = refl; silent = λ stay. c.ranges });
  command_ = λ device s disk tag order e none o. execute_goes protected device s disk tag order [] e (no_plan_tiles (plan_of order disk.count) none) o;
  write_ = λ device s disk w whole e open_ o.
      execute_goes protected device s disk w.initiator_task_tag w.order w.pieces e (whole_tiles disk.count w open_ whole) o;
  send_r2t_ = λ device s disk w whole idle e held o.
      record {
        keeps = record {
          sound = (with_r2t_open disk.count s.session.held w held, o);
          tiled = tt;
          modest = (asking_modest disk.count s.session.held w held, tt);
        };
        count = refl;
        silent = λ stay. stays_on (Data (with_r2t s.session.held w)) s.tasks stay;
      };
  wait_ = λ device s disk w whole idle e open_ o. record {
    keeps = record { sound = (open_, o); tiled = tt; modest = tt };
    count = refl;
    silent = λ stay. refl;
  };
}

begun_goes : (protected : Bool) (device : Device) (s : Session) (disk : Disk) (task : Task) (more : List Task) → device ≡ reliable protected
    → IsSound disk.count (task ∷ more) →
    Goes (with_tasks s more) disk (task_begun device (with_tasks s more) disk task)
begun_goes protected device s disk task more e o =
    begins (λ device s disk task r. device ≡ reliable protected → OnTask disk.count task → IsSound disk.count s.tasks →
    Goes s disk r) (begins_go protected) device (with_tasks s more) disk task e o.0 o.1

-- what is left of a store that doesn't fail
pub still_reliable : (protected : Bool) (es : List Execution) → device_after es (reliable protected) ≡ reliable protected
still_reliable protected [] = refl
still_reliable protected (e ∷ es) = still_reliable protected es

both_tiled : (a b : List Execution) → AllByRecursion IsTiled a → AllByRecursion IsTiled b → AllByRecursion IsTiled (a ++ b)
both_tiled [] b x y = y
both_tiled (e ∷ a) b x y = (x.0, both_tiled a b x.1 y)

abbrev Keeps : Bool → Device → Disk → List Task → TargetStep → Type 0
Keeps protected device disk tasks r = device ≡ reliable protected → IsSound disk.count tasks → KeepsWrites disk.count r

turns_go : (protected : Bool) → Turns (λ device s disk tasks r. Keeps protected device disk tasks r)
turns_go protected = record {
  none_ = λ device s disk e o. record { sound = tt; tiled = tt; modest = tt };
  stop_ = λ device s disk task more why e o. (begun_goes protected device s disk task more e o).keeps;
  then_ = λ device s disk task more b stay live u e o.
      (let a : TargetStep = task_begun device (with_tasks s more) disk task in
      let g = begun_goes protected device s disk task more e o in
      let later : KeepsWrites a.disk.count b = u (ap (device_after a.executed) e ∙ still_reliable protected a.executed)
      (subst (λ (n : ℕ). IsSound n more) (sym g.count) o.1) in
      let ranges : r2t_ranges (a.answers ++ b.answers) ≡ r2t_ranges b.answers =
      flat_map-append (λ (m : Message). r2t_range m.head) a.answers b.answers ∙ ap (λ (rs : List (ℕ × ℕ)). rs ++ r2t_ranges b.answers) (g.silent stay) in
      record {
        sound = subst (λ (n : ℕ). IsSound n b.machine.tasks) g.count later.sound;
        tiled = both_tiled a.executed b.executed g.keeps.tiled later.tiled;
        modest = subst (λ (rs : List (ℕ × ℕ)). AllByRecursion (IsModest b.machine.session.held (total_of b.machine.tasks)) rs) (sym ranges) later.modest;
      });
}

done_goes : (protected : Bool) (s : Session) (disk : Disk) (tasks : List Task) → IsSound disk.count tasks
    → KeepsWrites disk.count (done_in_turn (reliable protected) s disk tasks)
done_goes protected s disk tasks o = turns (λ device s disk tasks r. Keeps protected device disk tasks r) (turns_go protected)
    (reliable protected) s disk tasks refl o

-- ---- a Data-Out

pub found_open : (count : ℕ) (tasks : List Task) (tag : ℕ) (w : Write) → write_of tasks tag ≡ Some w → IsSound count tasks → IsOpen count w
found_open count [] tag w e o = absurd cc
found_open count (kinds.Command t order ∷ more) tag w e o = found_open count more tag w e o.1
found_open count (Request k ∷ more) tag w e o = found_open count more tag w e o.1
found_open count (Data x ∷ more) tag w e o =
    by_cases (x.initiator_task_tag == tag)
    (λ f. subst (IsOpen count) (let g : Some x ≡ Some w = rw f at e in cc) o.0)
    (λ f. found_open count more tag w (rw f at e) o.1)

written_sound : (count : ℕ) (v : Write) (tasks : List Task) → IsOpen count v → IsSound count tasks → IsSound count (with_write v tasks)
written_sound count v [] open_ o = tt
written_sound count v (kinds.Command t order ∷ more) open_ o = (o.0, written_sound count v more open_ o.1)
written_sound count v (Request k ∷ more) open_ o = (tt, written_sound count v more open_ o.1)
written_sound count v (Data x ∷ more) open_ o =
    by_cases (x.initiator_task_tag == v.initiator_task_tag) (λ f. rw f (open_, o.1)) (λ f. rw f (o.0, written_sound count v more open_ o.1))

-- ---- a request

planned_sound : (unit : Option LogicalUnit) (count : ℕ) (held : Held) (h : Command) (bytes : List ℕ) (plan : Plan) → breaks_burst_rules held h
    (length bytes) ≡ false →
    plan_of (order_of unit h) count ≡ plan
    → OnTask count (task_planned h (order_of unit h) bytes plan)
planned_sound unit count held h bytes (Take total) e f = opened_open count held h (order_of unit h) total bytes f
    (immediate_fits unit count h held total bytes e f)
planned_sound unit count held h bytes (Refuse sense) e f = λ n g. let x : Refuse sense ≡ Take n = sym f ∙ g in cc
planned_sound unit count held h bytes (Give given) e f = λ n g. let x : Give given ≡ Take n = sym f ∙ g in cc

task_sound : (unit : Option LogicalUnit) (count : ℕ) (held : Held) (m : Message) (tag : Option ℕ) (asked : Asks)
    → breaks_rules held (length (segment_bytes m.segment)) asked ≡ false → OnTask count (task_by unit count m tag asked)
task_sound unit count held m tag (asks.Command h) e = planned_sound unit count held h (segment_bytes m.segment) (plan_of (order_of unit h) count) e refl
task_sound unit count held m tag (asks.Session q) e = tt

with_sound : (count : ℕ) (tasks : List Task) (task : Task) → IsSound count tasks → OnTask count task → IsSound count (tasks ++ task ∷ [])
with_sound count [] task o t = (t, tt)
with_sound count (x ∷ tasks) task o t = (o.0, with_sound count tasks task o.1 t)

same_sound : (count : ℕ) (s t : Machine) (m : Message) → Accepts s m t → IsSound count s.tasks → IsSound count t.tasks
same_sound count s _ m (Immediately c none) o = o
same_sound count s _ m (InTurn n c w is) o = o

taken_kept : (count : ℕ) (r : TargetStep) (ms : List Message) → KeepsWrites count r → KeepsWrites count (having_accepted ms r)
taken_kept count r ms k = record { sound = k.sound; tiled = k.tiled; modest = k.modest }

-- ---- all parts

abbrev Sounds : Disk → Machine → TargetStep → Type 0
Sounds disk s r = IsSound disk.count s.tasks → KeepsWrites disk.count r

parts_go : (protected : Bool) (disk : Disk) → Parts (reliable protected) disk (λ s m r. Sounds disk s r)
parts_go protected disk = record {
  nothing_ = λ s m c o. record { sound = o; tiled = tt; modest = tt };
  shut_ = λ s m o. record { sound = tt; tiled = tt; modest = tt };
  beside_ = λ s m r a is o. reply_goes s disk r is.reply.ranges o;
  reject_and_close_ = λ s rule m o. reply_goes s disk _ refl o;
  login_ = λ s m k o. reply_goes s disk (target_login_step s.session m) (login_logs s.session m).is.ranges o;
  taken_ = λ s m h w v k e f o.
      taken_kept disk.count (done_in_turn (reliable protected) s.session disk (with_write v s.tasks)) []
      (done_goes protected s.session disk (with_write v s.tasks)
      (written_sound disk.count v s.tasks (taken_open disk.count (first_burst s.session.held) w v h (segment_bytes m.segment)
      (found_open disk.count s.tasks h.initiator_task_tag w e o) f) o));
  refused_ = λ s t m rule a x o. taken_kept disk.count (breaks t disk rule m) (m ∷ []) (reply_goes t disk _ refl (same_sound disk.count s t m x o));
  admitted_ = λ s t m a x r is f o.
      taken_kept disk.count (done_in_turn (reliable protected) t.session disk (t.tasks ++ task_of (unit_of t.session) (presented disk.count m r) ∷ [])) (m ∷ [])
      (done_goes protected t.session disk (t.tasks ++ task_of (unit_of t.session) (presented disk.count m r) ∷ [])
      (with_sound disk.count t.tasks (task_of (unit_of t.session) (presented disk.count m r)) (same_sound disk.count s t m x o)
      (task_sound (unit_of t.session) disk.count t.session.held m r.initiator_task_tag r.asks f)));
}

-- one step
pub step_goes : (protected : Bool) (disk : Disk) (s : Machine) (m : Message) → IsSound disk.count s.tasks
    → KeepsWrites disk.count (target_step protected s disk m)
step_goes protected disk s m o = step_parts (reliable protected) disk (λ s m r. Sounds disk s r) (parts_go protected disk) s m o

-- ---- the number of blocks

count_kept : (protected : Bool) (disk : Disk) (es : List Execution) → (disk_after protected (map supplied es) disk).count ≡ disk.count
unfolding disk_after
count_kept protected disk [] = refl
count_kept protected disk (e ∷ es) = count_kept protected (effect protected disk e.order (piece_data e.pieces)).disk es
    ∙ count_by_plan (guarded protected e.order.deed (plan_of e.order disk.count)) disk e.order (piece_data e.pieces)

pub step_count : (protected : Bool) (s : Machine) (disk : Disk) (m : Message) → (target_step protected s disk m).disk.count ≡ disk.count
step_count protected s disk m = ap (λ (d : Disk). d.count) (step_folds protected s disk m) ∙ count_kept protected disk (target_step protected s disk m).executed

pub answers_count : (protected : Bool) (s : Machine) (disk : Disk) (ms : List Message) → (answers protected s disk ms).disk.count ≡ disk.count
unfolding answers
answers_count protected s disk [] = refl
answers_count protected s disk (m ∷ ms) = answers_count protected (target_step protected s disk m).machine (target_step protected s disk m).disk ms
    ∙ step_count protected s disk m

-- ---- from the opening state

pub answers_sound : (protected : Bool) (s : Machine) (disk : Disk) (ms : List Message) → IsSound disk.count s.tasks
    → IsSound disk.count (answers protected s disk ms).machine.tasks
unfolding answers
answers_sound protected s disk [] o = o
answers_sound protected s disk (m ∷ ms) o =
    let first : TargetStep = target_step protected s disk m in
    let same : first.disk.count ≡ disk.count = step_count protected s disk m in
    let now : IsSound first.disk.count first.machine.tasks = subst (λ (n : ℕ). IsSound n first.machine.tasks) (sym same)
    (step_goes protected disk s m o).sound in
    subst (λ (n : ℕ). IsSound n (answers protected first.machine first.disk ms).machine.tasks) same (answers_sound protected first.machine first.disk ms now)

-- after any messages, the next one keeps what is said of writes
pub reached_keeps : (protected : Bool) (settings : TargetSettings) (n : ℕ) (disk : Disk) (ms : List Message) (m : Message)
    → KeepsWrites (answers protected (opening_machine settings n) disk ms).disk.count
    (target_step protected (answers protected (opening_machine settings n) disk ms).machine
    (answers protected (opening_machine settings n) disk ms).disk m)
reached_keeps protected settings n disk ms m =
    let r : TargetStep = answers protected (opening_machine settings n) disk ms in
    step_goes protected r.disk r.machine m
    (subst (λ (k : ℕ). IsSound k r.machine.tasks) (sym (answers_count protected (opening_machine settings n) disk ms))
    (answers_sound protected (opening_machine settings n) disk ms tt))

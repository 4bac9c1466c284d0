-- What happens in the table of a service, one thing behind the other.
use Rattle.std.proofs.Common.{◌≡◌, ◌<◌, ◌≤◌, ◌+◌, ◌-◌, ℕ, zero, suc, Bool, true, false, if◌then◌else◌, List, [], ◌∷◌, ◌++◌, length, Option, None, Some, refl, sym, ap, subst, ◌∙◌, arith}
use Rattle.std.proofs.Common.{get_or, inl, inr, replicate, set}
use Rattle.std.proofs.lemmas.Bool.{cases_lt, ltb-true, ltb-false}
use Rattle.std.proofs.lemmas.List.{get_or_past, length-set, set-get_or}
use Rattle.std.proofs.lemmas.List.Quantifiers.{position-Some}
use mathlib.Core.Path.{fun_ext}
use Rattle.std.specs.Prelude.{Result, IfNone, IfSome, is_none, is_some, nat_lt, not}
use Rattle.std.specs.List.{AllByRecursion, position}
use Rattle.scsi_disk.specs.Disk.{Disk}
use Rattle.iscsi_target_session.specs.Configured.{TargetSettings}
use Rattle.iscsi_target.specs.declared.fault.TargetFault.{TargetFault}
use Rattle.iscsi_target.specs.State.{Machine, opening_machine}
use Rattle.iscsi_target.specs.Feed.{Store}
use Rattle.iscsi_target.specs.Advances.{store_of}
use Rattle.iscsi_serving.specs.Executed.{HasExecuted}
use Rattle.iscsi_sessions.specs.Slots.{SlotFinishes, SessionTable, Slot, free_slots, opening_slot, may_take_at, slot_with_read, slot_at, slot_waiting, table_may_take, with_slot, with_sent, SlotChanges}
use Rattle.iscsi_sessions.specs.Slots.{SlotTakesPdu as TakesAtSlot}
use Rattle.iscsi_sessions.specs.Turns.{SlotEvent, Comes, Ends, Goes, Syncs, Takes, SlotEventStep, HappensIn, SlotEventsRun, Slots, SameMachines, TakesTurn}
use Rattle.iscsi_sessions.specs.Turns.{SessionEvents, KeepsSession, KeepsSlot, slot_events, Turn, executed_in, executed_of, machine_in, machines}
use Rattle.iscsi_sessions.specs.Access.{IsLetIn}
use Rattle.iscsi_sessions.proofs.AccessLemmas.{let_in}
use Rattle.iscsi_sessions.proofs.SlotLemmas.{changed_other, may_there, some_within, taken_within}
use Rattle.iscsi_sessions.proofs.RunLemmas.{own_session, runs_append, runs_lead, runs_none, runs_one}
pub use Rattle.iscsi_serving.proofs.ExecutedLemmas.{none_executed}
use Rattle.iscsi_event_loop.specs.declared.budget.Budget.{Budget}
use Rattle.iscsi_event_loop.specs.Giving.{most_given}
use Rattle.iscsi_event_loop.specs.inner.Giving.{GivesWithin}
use Rattle.iscsi_event_loop.specs.Serving.{IsEmpty}
use Rattle.iscsi_serving.specs.Access.{Door, IsAdmitted}
use Rattle.iscsi_event_loop.specs.Admitting.{ComesBy}
use Rattle.iscsi_event_loop.specs.Running.{Room, IsSameRoom, AreAdmitted, with_table}
use Rattle.iscsi_event_loop.specs.Running.{InTurns, IsAmong, IsSlotEvent, OthersAreKept, RunsFew, RunsIdle, RunsInTurns, RunsWithin, Served, TurnOf, SlotTurns, most_pdus, no_sessions, only_at_slot, taken_at, pdus_by}
use Rattle.iscsi_event_loop.specs.inner.Running.{SlotRuns, RunsIdleAt, below}
use Rattle.iscsi_event_loop.proofs.GivingLemmas.{comes_kept, goes_kept, none_gives, none_kept, same_kept, sent_gives, silent_gives, then_gives, then_kept, turn_gives, waits_less, waits_same}

all_append : (P : SlotEvent → Type 0) (es fs : List SlotEvent) → AllByRecursion P es → AllByRecursion P fs → AllByRecursion P (es ++ fs)
all_append P [] fs p q = q
all_append P (e ∷ es) fs p q = (p.0, all_append P es fs p.1 q)

-- ---- how much is taken

taken_append : (k : ℕ) (es fs : List SlotEvent) → taken_at k (es ++ fs) ≡ taken_at k es + taken_at k fs
taken_append k [] fs = omega arith
taken_append k (e ∷ es) fs = omega (arith, taken_append k es fs)

-- at one slot, by whether another one lies before or behind it
only_most : (a b : Bool) (n most : ℕ) → n ≤ most → (if a then 0 else if b then 0 else n) ≤ (if a then 0 else if b then 0 else most)
only_most true b n most le = omega arith
only_most false true n most le = omega arith
only_most false false n most le = le

only_less : (a b : Bool) (n : ℕ) → 0 < n
    → (if a then 0 else if b then 0 else 1) + (if a then 0 else if b then 0 else (n - 1)) ≤ (if a then 0 else if b then 0 else n)
only_less true b n some = omega arith
only_less false true n some = omega arith
only_less false false n some = omega (arith, some)

-- one slot more
below_more : (i k n : ℕ) (a b c : Bool) → nat_lt k i ≡ a → nat_lt i k ≡ b → nat_lt k (suc i) ≡ c
    → (if a then n else 0) + (if a then 0 else if b then 0 else n) ≤ (if c then n else 0)
below_more i k n true b true x y z = omega arith
below_more i k n true b false x y z = absurd (omega (arith, ltb-true k i x, ltb-false k (suc i) z))
below_more i k n false true true x y z = omega arith
below_more i k n false true false x y z = omega arith
below_more i k n false false true x y z = omega arith
below_more i k n false false false x y z =
    absurd (omega (arith, ltb-false k i x, ltb-false i k y, ltb-false k (suc i) z))

below_next : (i n k : ℕ) → below i n k + only_at_slot i n k ≤ below (suc i) n k
below_next i n k = below_more i k n (nat_lt k i) (nat_lt i k) (nat_lt k (suc i)) refl refl refl

below_most : (a : Bool) (n : ℕ) → (if a then n else 0) ≤ n
below_most true n = omega arith
below_most false n = omega arith

-- a count that rises, and rises again
pub rises_on : (a b c : ℕ) → a ≤ b → b ≤ c → a ≤ c
rises_on a b c p q = omega (arith, p, q)

-- ---- in the whole table

-- the same room
same_room : (room : Room) → IsSameRoom room room
same_room room = (refl, refl)

then_same : (a b c : Room) → IsSameRoom a b → IsSameRoom b c → IsSameRoom a c
then_same a b c p q = (q.0 ∙ p.0, q.1 ∙ p.1)

-- events of two runs of it
both_admitted : (a b : Room) (es fs : List SlotEvent) → IsSameRoom a b → AreAdmitted a es → AreAdmitted b fs → AreAdmitted a (es ++ fs)
both_admitted a b es fs same p q = (
  all_append (IsAmong (length a.table.slots)) es fs p.0 (subst (λ (n : ℕ). AllByRecursion (IsAmong n) fs) same.0 q.0),
  all_append (ComesBy a.door) es fs p.1 (subst (λ (d : Door). AllByRecursion (ComesBy d) fs) same.1 q.1),
)

pub none_runs : (protected : Bool) (room : Room) (store : Store) → RunsWithin protected room store room store
unfolding RunsWithin
none_runs protected room store =
    (same_room room, [], (tt, tt), runs_none protected (machines room.table) (machines room.table) store (λ k. refl))

pub then_runs : (protected : Bool) (a b c : Room) (s t u : Store) → RunsWithin protected a s b t → RunsWithin protected b t c u → RunsWithin protected a s c u
unfolding RunsWithin
then_runs protected a b c s t u p q = (
  then_same a b c p.0 q.0,
  p.1 ++ q.1,
  both_admitted a b p.1 q.1 p.0 p.2 q.2,
  runs_append protected (machines a.table) (machines b.table) (machines c.table) s t u p.1 q.1 p.3 q.3,
)

-- few events are events
pub few_runs : (protected : Bool) (most : ℕ → ℕ) (old new : Room) (before after : Store) → RunsFew protected most old before new after
    → RunsWithin protected old before new after
unfolding RunsFew RunsWithin
few_runs protected most old new before after p = (p.0, p.1, p.2, p.3)

pub none_few : (protected : Bool) (most : ℕ → ℕ) (room : Room) (store : Store) → RunsFew protected most room store room store
unfolding RunsFew
none_few protected most room store =
    (same_room room, [], (tt, tt), runs_none protected (machines room.table) (machines room.table) store (λ k. refl), λ k. omega arith)

pub then_few : (protected : Bool) (f g most : ℕ → ℕ) (a b c : Room) (s t u : Store) → ((k : ℕ) → f k + g k ≤ most k)
    → RunsFew protected f a s b t → RunsFew protected g b t c u → RunsFew protected most a s c u
unfolding RunsFew
then_few protected f g most a b c s t u le p q = (
  then_same a b c p.0 q.0,
  p.1 ++ q.1,
  both_admitted a b p.1 q.1 p.0 p.2 q.2,
  runs_append protected (machines a.table) (machines b.table) (machines c.table) s t u p.1 q.1 p.3 q.3,
  λ k. omega (arith, taken_append k p.1 q.1, p.4 k, q.4 k, le k),
)

pub none_idle : (room : Room) → RunsIdle room room
unfolding RunsIdle
none_idle room = (none_kept room.table, λ protected store. none_few protected (λ k. 0) room store)

pub then_idle : (a b c : Room) → RunsIdle a b → RunsIdle b c → RunsIdle a c
unfolding RunsIdle
then_idle a b c p q = (
  then_kept a.table b.table c.table p.0 q.0,
  λ protected store. then_few protected (λ k. 0) (λ k. 0) (λ k. 0) a b c store store store (λ k. omega arith) (p.1 protected store) (q.1 protected store),
)

pub idle_few : (protected : Bool) (most : ℕ → ℕ) (a b c : Room) (s t : Store) → RunsIdle a b → RunsFew protected most b s c t → RunsFew protected
    most a s c t
unfolding RunsIdle
idle_few protected most a b c s t p q = then_few protected (λ k. 0) most most a b c s s t (λ k. omega arith) (p.1 protected s) q

pub few_idle : (protected : Bool) (most : ℕ → ℕ) (a b c : Room) (s t : Store) → RunsFew protected most a s b t → RunsIdle b c → RunsFew protected
    most a s c t
unfolding RunsIdle
few_idle protected most a b c s t p q = then_few protected most (λ k. 0) most a b c s t t (λ k. omega arith) p (q.1 protected t)

-- the slots of a room at whose door these come
abbrev at_door : Door → SessionTable → Room
at_door door table = record { table = table; door = door }

-- a session comes
comes_idle : (door : Door) (old new : SessionTable) (place : ℕ) (settings : TargetSettings) → IsAdmitted door settings
    → position is_none old.slots ≡ Some place
    → new ≡ with_slot old place (Some (opening_slot settings)) → HappensIn (Comes place settings) old new → RunsIdle (at_door door old) (at_door door new)
unfolding RunsIdle RunsFew
comes_idle door old new place settings admitted first is h =
    let within : place < length old.slots = (position-Some is_none old.slots place None first).0 in (
      comes_kept place old new settings within is,
      λ protected store. (
        (ap (λ (x : SessionTable). length x.slots) is ∙ length-set old.slots place (Some (opening_slot settings)), refl),
        Comes place settings ∷ [],
        ((within, tt), (admitted, tt)),
        runs_one protected (machines old) (machines new) store store (Comes place settings) (h protected store),
        λ k. omega arith,
      ),
    )

-- a session gets a slot, or none is free
pub slot_idle : (door : Door) (old new : SessionTable) (settings : TargetSettings) (result : Option ℕ) → IsAdmitted door settings
    → result ≡ position is_none old.slots
    → IfSome result (λ place. new ≡ with_slot old place (Some (opening_slot settings))) → IfNone result (new ≡ old)
    → IfSome result (λ place. HappensIn (Comes place settings) old new) → RunsIdle (at_door door old) (at_door door new)
slot_idle door old new settings None admitted first filled full comes =
    subst (λ (x : SessionTable). RunsIdle (at_door door old) (at_door door x)) (sym full) (none_idle (at_door door old))
slot_idle door old new settings (Some place) admitted first filled full comes =
    comes_idle door old new place settings admitted (sym first) filled comes

-- a session goes, or the slot was none of the table
outside_is : (old new : SessionTable) (place : ℕ) → length old.slots ≤ place → new ≡ with_slot old place None → new.slots ≡ old.slots
outside_is old new place le is =
    ap (λ (x : SessionTable). x.slots) is
    ∙ ap (λ (o : Option Slot). set old.slots place o) (sym (get_or_past old.slots place None le))
    ∙ set-get_or old.slots place None

goes_if : (b : Bool) (door : Door) (old new : SessionTable) (place : ℕ) → nat_lt place (length old.slots) ≡ b → new ≡ with_slot old place None
    → HappensIn (Goes place) old new → RunsIdle (at_door door old) (at_door door new)
unfolding RunsIdle RunsFew
goes_if true door old new place lt is h =
    let within : place < length old.slots = ltb-true place (length old.slots) lt in (
      goes_kept place old new within is,
      λ protected store. (
        (ap (λ (x : SessionTable). length x.slots) is ∙ length-set old.slots place None, refl),
        Goes place ∷ [],
        ((within, tt), (tt, tt)),
        runs_one protected (machines old) (machines new) store store (Goes place) (h protected store),
        λ k. omega arith,
      ),
    )
goes_if false door old new place lt is h =
    let same : new.slots ≡ old.slots = outside_is old new place (ltb-false place (length old.slots) lt) is in (
      same_kept old new same,
      λ protected store. (
        (ap (λ (x : List (Option Slot)). length x) same, refl),
        [],
        (tt, tt),
        runs_none protected (machines old) (machines new) store (λ k. ap (λ (x : List (Option Slot)). machine_in (get_or x k None)) same),
        λ k. omega arith,
      ),
    )

pub goes_idle : (door : Door) (old new : SessionTable) (place : ℕ) → new ≡ with_slot old place None → HappensIn (Goes place) old new
    → RunsIdle (at_door door old) (at_door door new)
goes_idle door old new place is h = goes_if (nat_lt place (length old.slots)) door old new place refl is h

-- what the events executed left the blocks
pub runs_executed : (protected : Bool) (old new : Room) (before after : Disk) (counted failures : ℕ)
    → RunsWithin protected old (store_of before counted) new (store_of after failures) → HasExecuted protected before after
unfolding RunsWithin
runs_executed protected old new before after counted failures r =
    (executed_in r.1, runs_lead protected (machines old.table) (machines new.table) (store_of before counted) (store_of after failures) r.1 r.3)

-- ---- at one slot

pub none_at : (protected : Bool) (slot : ℕ) (had : Budget) (table : SessionTable) (store : Store) → SlotRuns protected slot had had table store table store
unfolding SlotRuns
none_at protected slot had table store = (
  λ k ne. refl,
  refl,
  [],
  tt,
  runs_none protected (machines table) (machines table) store (λ k. refl),
  ((λ k. omega arith), none_gives slot had.given table table refl),
)

pub then_at : (protected : Bool) (slot : ℕ) (had mid left : Budget) (a b c : SessionTable) (s t u : Store) → 0 < mid.given → SlotRuns protected slot had mid
    a s b t
    → SlotRuns protected slot mid left b t c u → SlotRuns protected slot had left a s c u
unfolding SlotRuns
then_at protected slot had mid left a b c s t u some p q = (
  λ k ne. q.0 k ne ∙ p.0 k ne,
  q.1 ∙ p.1,
  p.2 ++ q.2,
  all_append (IsSlotEvent slot (length a.slots)) p.2 q.2 p.3 (subst (λ (n : ℕ). AllByRecursion (IsSlotEvent slot n) q.2) p.1 q.3),
  runs_append protected (machines a) (machines b) (machines c) s t u p.2 q.2 p.4 q.4,
  (
    (λ k. omega (arith, taken_append k p.2 q.2, p.5.0 k, q.5.0 k)),
    then_gives slot had.given mid.given left.given a b c p.2 q.2 some p.5.1 q.5.1,
  ),
)

-- the turn is over, though it might do more
pub spent_at : (protected : Bool) (slot : ℕ) (had left : Budget) (old new : SessionTable) (before after : Store) → SlotRuns protected slot had left old
    before new after
    → SlotTurns protected slot had old before new after
unfolding SlotRuns SlotTurns
spent_at protected slot had left old new before after p = (
  p.0,
  p.1,
  p.2,
  p.3,
  p.4,
  ((λ k. omega (arith, p.5.0 k)), p.5.1.most),
)

all_among : (slot count : ℕ) (es : List SlotEvent) → AllByRecursion (IsSlotEvent slot count) es → AllByRecursion (IsAmong count) es
all_among slot count [] p = tt
all_among slot count (e ∷ es) p = (p.0.1, all_among slot count es p.1)

-- nobody comes in it
none_comes : (door : Door) (e : SlotEvent) → KeepsSession true e → ComesBy door e
none_comes door (Comes k settings) x = absurd x
none_comes door (Takes turn) x = tt
none_comes door (Syncs k) x = tt
none_comes door (Ends k) x = tt
none_comes door (Goes k) x = tt

none_come : (door : Door) (slot count : ℕ) (es : List SlotEvent) → AllByRecursion (IsSlotEvent slot count) es → AllByRecursion (ComesBy door) es
none_come door slot count [] p = tt
none_come door slot count (e ∷ es) p = (none_comes door e p.0.2, none_come door slot count es p.1)

at_few : (protected : Bool) (slot most : ℕ) (budget : Budget) (old : Room) (new : SessionTable) (before after : Store) → budget.pdus ≤ most
    → SlotTurns protected slot budget old.table before new after → RunsFew protected (only_at_slot slot most) old before (with_table new old) after
unfolding SlotTurns RunsFew
at_few protected slot most budget old new before after le p = (
  (p.1, refl),
  p.2,
  (all_among slot (length old.table.slots) p.2 p.3, none_come old.door slot (length old.table.slots) p.2 p.3),
  p.4,
  λ k. omega (arith, p.5.0 k, only_most (nat_lt k slot) (nat_lt slot k) budget.pdus most le),
)

pub none_idle_at : (slot : ℕ) (table : SessionTable) → RunsIdleAt slot table table
unfolding RunsIdleAt
none_idle_at slot table = λ protected store had. none_at protected slot had table store

pub idle_at : (protected : Bool) (slot : ℕ) (had : Budget) (old new : SessionTable) (store : Store) → RunsIdleAt slot old new
    → SlotRuns protected slot had had old store new store
unfolding RunsIdleAt
idle_at protected slot had old new store p = p protected store had

changed_length : (slot : ℕ) (old new : SessionTable) (P : Slot → Slot → Type 0) → SlotChanges slot old new P → length new.slots ≡ length old.slots
changed_length slot old new P c = ap (λ (x : List (Option Slot)). length x) c.now ∙ length-set old.slots slot (Some c.after)

changed_within : (slot : ℕ) (old new : SessionTable) (P : Slot → Slot → Type 0) → SlotChanges slot old new P → slot < length old.slots
changed_within slot old new P c = some_within old.slots slot c.before c.was

changed_others : (slot : ℕ) (old new : SessionTable) (P : Slot → Slot → Type 0) → SlotChanges slot old new P → OthersAreKept slot old new
changed_others slot old new P c = λ k ne. changed_other slot k old new (Some c.after) ne c.now

-- an event that changes one slot
changed_at : (protected : Bool) (slot : ℕ) (had left : Budget) (old new : SessionTable) (before after : Store) (P : Slot → Slot → Type 0) (e : SlotEvent)
    → SlotChanges slot old new P
    → IsSlotEvent slot (length old.slots) e → SlotEventStep protected (machines old) before e (machines new) after
    → ((k : ℕ) → pdus_by k e + only_at_slot slot left.pdus k ≤ only_at_slot slot had.pdus k) → GivesWithin slot had.given left.given old (e ∷ []) new
    → SlotRuns protected slot had left old before new after
unfolding SlotRuns
changed_at protected slot had left old new before after P e c is h few gives = (
  changed_others slot old new P c,
  changed_length slot old new P c,
  e ∷ [],
  (is, tt),
  runs_one protected (machines old) (machines new) before after e h,
  ((λ k. omega (arith, few k)), gives),
)

-- a PDU
pub turn_at : (protected : Bool) (slot : ℕ) (had left : Budget) (old new : SessionTable) (before after : Store) (result : Result ℕ TargetFault) → 0 < had.pdus
    → left.pdus ≡ had.pdus - 1 → left.given ≡ had.given → table_may_take old slot ≡ true
    → TakesAtSlot protected slot old before result new after → TakesTurn protected slot old before result new after
    → SlotRuns protected slot had left old before new after
turn_at protected slot had left old new before after result some one same may c h =
    let within : slot < length old.slots = some_within old.slots slot c.before c.was in
    changed_at protected slot had left old new before after _ (Takes h.turn) c
    (h.slot_is, subst (λ (k : ℕ). k < length old.slots) (sym h.slot_is) within, tt) h.is_turn
    (λ k. subst (λ (n : ℕ). pdus_by k (Takes h.turn) + only_at_slot slot n k ≤ only_at_slot slot had.pdus k) (sym one)
    (subst (λ (s : ℕ). only_at_slot s 1 k + only_at_slot slot (had.pdus - 1) k ≤ only_at_slot slot had.pdus k) (sym h.slot_is)
    (only_less (nat_lt k slot) (nat_lt slot k) had.pdus some)))
    (subst (λ (n : ℕ). GivesWithin slot had.given n old (Takes h.turn ∷ []) new) (sym same)
    (turn_gives protected slot had.given old new before after result h (may_there (not old.lost) (may_take_at (slot_at old slot)) may)))

-- a sync, where something waits at the slot
waits_taken : (o : Option Slot) → 0 < length (slot_waiting o) → is_some o ≡ true
waits_taken None lt = absurd (omega (arith, lt))
waits_taken (Some s) lt = refl

pub sync_at : (protected : Bool) (slot : ℕ) (had : Budget) (old new : SessionTable) (before after : Store) → 0 < length (slot_waiting (slot_at old slot))
    → new.slots ≡ old.slots
    → SlotEventStep protected (machines old) before (Syncs slot) (machines new) after → SlotRuns protected slot had had old before new after
unfolding SlotRuns
sync_at protected slot had old new before after waits same h = (
  λ k ne. ap (λ (x : List (Option Slot)). get_or x k None) same,
  ap (λ (x : List (Option Slot)). length x) same,
  Syncs slot ∷ [],
  ((refl, taken_within old.slots slot (waits_taken (slot_at old slot) waits), tt), tt),
  runs_one protected (machines old) (machines new) before after (Syncs slot) h,
  (
    (λ k. omega arith),
    silent_gives slot had.given old new (Syncs slot) refl (ap (λ (x : List (Option Slot)). length (slot_waiting (get_or x slot None))) same),
  ),
)

-- what changes behind a sync changes a slot of the table before it
before_sync : (slot : ℕ) (old new : SessionTable) (P : Slot → Slot → Type 0) → SlotChanges slot (record old { settled = Some slot }) new P
    → SlotChanges slot old new P
before_sync slot old new P c = record {
  before = c.before;
  after = c.after;
  was = c.was;
  now = c.now;
  lost = c.lost;
  does = c.does;
}

-- a write behind it
pub write_at : (protected : Bool) (slot count : ℕ) (had left : Budget) (old mid new : SessionTable) (before after : Store) → left.pdus ≡ had.pdus
    → left.given ≡ had.given - count → mid ≡ record old { settled = Some slot }
    → SlotChanges slot mid new (λ was now. now ≡ with_sent count was) → SameMachines mid new
    → SlotEventStep protected (machines old) before (Syncs slot) (machines mid) after → SlotRuns protected slot had left old before new after
write_at protected slot count had left old mid new before after pdus given is sent left_same h =
    let c : SlotChanges slot old new (λ was now. now ≡ with_sent count was) =
    before_sync slot old new _ (subst (λ (x : SessionTable). SlotChanges slot x new (λ was now. now ≡ with_sent count was)) is sent) in
    let same : SameMachines old new = subst (λ (x : SessionTable). SameMachines x new) is left_same in
    changed_at protected slot had left old new before after _ (Syncs slot) c (refl, changed_within slot old new _ c, tt) (same, h.1, h.2)
    (λ k. subst (λ (n : ℕ). 0 + only_at_slot slot n k ≤ only_at_slot slot had.pdus k) (sym pdus) (omega arith))
    (sent_gives slot count had.given left.given old new (Syncs slot) refl (waits_less slot count old new c) given)

-- what changes no session, and leaves what waits
same_at : (slot : ℕ) (old new : SessionTable) (P : Slot → Slot → Type 0) (c : SlotChanges slot old new P) → SameMachines old new
    → c.after.waiting ≡ c.before.waiting → RunsIdleAt slot old new
unfolding RunsIdleAt SlotRuns
same_at slot old new P c same waits = λ protected store had. (
  changed_others slot old new P c,
  changed_length slot old new P c,
  [],
  tt,
  runs_none protected (machines old) (machines new) store same,
  ((λ k. omega arith), none_gives slot had.given old new (waits_same slot old new P c waits)),
)

-- a read
pub receive_at : (slot : ℕ) (piece : List ℕ) (old new : SessionTable) → SlotChanges slot old new (λ was now. now ≡ slot_with_read piece was)
    → SameMachines old new → RunsIdleAt slot old new
receive_at slot piece old new c same = same_at slot old new _ c same (ap (λ (s : Slot). s.waiting) c.does)

-- a write of which nothing went
pub unsent_at : (slot : ℕ) (old new : SessionTable) → SlotChanges slot old new (λ was now. now ≡ with_sent 0 was) → SameMachines old new
    → RunsIdleAt slot old new
unsent_at slot old new c same = same_at slot old new _ c same (ap (λ (s : Slot). s.waiting) c.does)

-- the end of a stream
pub ends_at : (slot : ℕ) (old new : SessionTable) (result : Result (Unit {0}) TargetFault)
    → SlotChanges slot old new (λ was now. SlotFinishes was result now) → HappensIn (Ends slot) old new → RunsIdleAt slot old new
unfolding RunsIdleAt
ends_at slot old new result c h =
    λ protected store had. changed_at protected slot had had old new store store _ (Ends slot) c (refl, changed_within slot old new _ c, tt) (h protected store)
    (λ k. omega arith) (silent_gives slot had.given old new (Ends slot) refl (waits_same slot old new _ c c.does.waiting))

-- ---- at one slot after another

none_turns_at : (protected : Bool) (slot : ℕ) (budget : Budget) (table : SessionTable) (store : Store) → SlotTurns protected slot budget table store table store
unfolding SlotTurns
none_turns_at protected slot budget table store = (
  λ k ne. refl,
  refl,
  [],
  tt,
  runs_none protected (machines table) (machines table) store (λ k. refl),
  ((λ k. omega arith), omega arith),
)

-- nobody is at the slot
pub none_turn : (protected : Bool) (slot : ℕ) (budget : Budget) (room : Room) (store : Store) → TurnOf protected slot budget room store room store
unfolding TurnOf
none_turn protected slot budget room store = (room.table, none_turns_at protected slot budget room.table store, none_idle room)

pub idle_turn : (protected : Bool) (slot : ℕ) (budget : Budget) (a : Room) (b : SessionTable) (c : Room) (s t : Store) → SlotTurns protected slot budget a.table s b t
    → RunsIdle (with_table b a) c → TurnOf protected slot budget a s c t
unfolding TurnOf
idle_turn protected slot budget a b c s t p q = (b, p, q)

turn_few : (protected : Bool) (slot most : ℕ) (budget : Budget) (old new : Room) (before after : Store) → budget.pdus ≤ most
    → TurnOf protected slot budget old before new after → RunsFew protected (only_at_slot slot most) old before new after
unfolding TurnOf
turn_few protected slot most budget old new before after le p =
    few_idle protected (only_at_slot slot most) old (with_table p.0 old) new before after (at_few protected slot most budget old p.0 before after le p.1) p.2

in_turns_few : (protected : Bool) (n : ℕ) (old new : Room) (before after : Store) → InTurns protected n old before new after
    → RunsFew protected (below n most_pdus) old before new after
unfolding InTurns
in_turns_few protected zero old new before after p =
    subst (λ (t : Store). RunsFew protected (below 0 most_pdus) old before new t) (sym p.1)
    (idle_few protected (below 0 most_pdus) old new new before before p.0 (none_few protected (below 0 most_pdus) new before))
in_turns_few protected (suc n) old new before after p =
    then_few protected (below n most_pdus) (only_at_slot n most_pdus) (below (suc n) most_pdus) old p.0 new before p.1 after (below_next n most_pdus)
    (in_turns_few protected n old p.0 before p.1 p.4) (turn_few protected n most_pdus p.2 p.0 new p.1 after p.3.0 p.5)

below_few : (protected : Bool) (i n : ℕ) (old new : Room) (before after : Store) → RunsFew protected (below i n) old before new after
    → RunsFew protected (λ k. n) old before new after
unfolding RunsFew
below_few protected i n old new before after p = (
  p.0,
  p.1,
  p.2,
  p.3,
  λ k. omega (arith, p.4 k, below_most (nat_lt k i) n),
)

-- no slot had a turn
pub none_in_turns : (protected : Bool) (room : Room) (store : Store) → InTurns protected 0 room store room store
unfolding InTurns
none_in_turns protected room store = (none_idle room, refl)

-- a slot more had its turn
pub next_turns : (protected : Bool) (n : ℕ) (budget : Budget) (a b c : Room) (s t u : Store) → budget.pdus ≤ most_pdus → budget.given ≤ most_given
    → InTurns protected n a s b t → TurnOf protected n budget b t c u → InTurns protected (n + 1) a s c u
unfolding InTurns
next_turns protected n budget a b c s t u few much p q =
    let next : suc n ≡ n + 1 = omega arith in
    subst (λ (j : ℕ). InTurns protected j a s c u) next (b, t, budget, (few, much), p, q)

idle_in_turns : (protected : Bool) (n : ℕ) (a b c : Room) (s t : Store) → RunsIdle a b → InTurns protected n b s c t → InTurns protected n a s c t
unfolding InTurns
idle_in_turns protected zero a b c s t p q = (then_idle a b c p q.0, q.1)
idle_in_turns protected (suc n) a b c s t p q = (q.0, q.1, q.2, q.3, idle_in_turns protected n a b q.0 s q.1 p q.4, q.5)

-- all slots had their turns
pub all_turns : (protected : Bool) (n : ℕ) (old new : Room) (before after : Store) → InTurns protected n old before new after
    → RunsInTurns protected old before new after
unfolding RunsInTurns
all_turns protected n old new before after p = (n, p)

pub all_few : (protected : Bool) (n : ℕ) (old new : Room) (before after : Store) → InTurns protected n old before new after
    → RunsFew protected (λ k. most_pdus) old before new after
all_few protected n old new before after p = below_few protected n most_pdus old new before after (in_turns_few protected n old new before after p)

pub none_turns : (protected : Bool) (room : Room) (store : Store) → RunsInTurns protected room store room store
unfolding RunsInTurns
none_turns protected room store = (0, none_in_turns protected room store)

pub idle_turns : (protected : Bool) (a b c : Room) (s t : Store) → RunsIdle a b → RunsInTurns protected b s c t → RunsInTurns protected a s c t
unfolding RunsInTurns
idle_turns protected a b c s t p q = (q.0, idle_in_turns protected q.0 a b c s t p q.1)

-- ---- from free slots on

abbrev no_slot : Option Slot
no_slot = None

free_at : (n k : ℕ) → get_or (replicate n no_slot) k no_slot ≡ no_slot
free_at zero k = refl
free_at (suc n) zero = refl
free_at (suc n) (suc k) = free_at n k

pub none_served : (protected : Bool) (count : ℕ) (door : Door) (store : Store) → Served protected count door store store
none_served protected count door store =
    record { events = []; few = tt; admitted = tt; slots = no_sessions; runs = runs_none protected no_sessions no_sessions store (λ k. refl) }

pub all_served : (protected : Bool) (count : ℕ) (door : Door) (old new : Room) (before after : Store) → length old.table.slots ≡ count
    → old.table ≡ free_slots count → old.door ≡ door
    → RunsWithin protected old before new after → Served protected count door before after
unfolding RunsWithin
all_served protected count door old new before after many free same r = record {
  events = r.1;
  few = subst (λ (n : ℕ). AllByRecursion (IsAmong n) r.1) many r.2.0;
  admitted = subst (λ (d : Door). AllByRecursion (ComesBy d) r.1) same r.2.1;
  slots = machines new.table;
  runs = subst (λ (x : Slots). SlotEventsRun protected x before r.1 (machines new.table) after)
      (fun_ext (λ k. ap (λ (h : SessionTable). machines h k) free ∙ ap machine_in (free_at count k))) r.3;
}

none_of : {A : Type 0} (o : Option A) → is_some o ≡ false → o ≡ None
none_of None e = refl
none_of (Some x) e = absurd (let h : true ≡ false = e in cc)

-- slots that are free have no session
pub free_empty : (table : SessionTable) (count : ℕ) → table ≡ free_slots count → IsEmpty table
free_empty table count free slot lt = ap (λ (t : SessionTable). is_some (slot_at t slot)) free ∙ ap is_some (free_at count slot)

empty_at : (table : SessionTable) → IsEmpty table → (k : ℕ) → slot_at table k ≡ None
empty_at table empty k = elim (cases_lt k (length table.slots)) [
  | inl lt ↦ none_of (slot_at table k) (empty k lt)
  | inr ge ↦ get_or_past table.slots k None ge
]

-- a run from slots without a session on is one from free slots on
pub empty_served : (protected : Bool) (old new : Room) (before after : Store) → RunsWithin protected old before new after → IsEmpty old.table
    → Served protected (length old.table.slots) old.door before after
unfolding RunsWithin
empty_served protected old new before after r empty = record {
  events = r.1;
  few = r.2.0;
  admitted = r.2.1;
  slots = machines new.table;
  runs = subst (λ (x : Slots). SlotEventsRun protected x before r.1 (machines new.table) after)
      (fun_ext (λ k. ap machine_in (empty_at old.table empty k))) r.3;
}

-- a run keeps the slots, and who may come there
pub runs_same : (protected : Bool) (old new : Room) (before after : Store) → RunsWithin protected old before new after → IsSameRoom old new
unfolding RunsWithin
runs_same protected old new before after r = r.0

-- ---- a part of a run

runs_split : (protected : Bool) (slots after : Slots) (store last : Store) (es fs : List SlotEvent) → SlotEventsRun protected slots store (es ++ fs) after last
    → (mid : Slots) × (now : Store) × SlotEventsRun protected slots store es mid now × SlotEventsRun protected mid now fs after last
unfolding SlotEventsRun
runs_split protected slots after store last [] fs r = (slots, store, ((λ k. refl), refl), r)
runs_split protected slots after store last (e ∷ es) fs r =
    let rest = runs_split protected r.0 after r.1 last es fs r.3 in (rest.0, rest.1, (r.0, r.1, r.2, rest.2), rest.3)

-- a session from the event by which it comes
pub served_own : (protected : Bool) (count : ℕ) (door : Door) (before after : Store) (s : Served protected count door before after) (past es later : List SlotEvent)
    (slot : ℕ) (settings : TargetSettings)
    → s.events ≡ past ++ (Comes slot settings ∷ (es ++ later)) → KeepsSlot slot es
    → (end : Machine) × SessionEvents protected (opening_machine settings 1) (slot_events slot es) end
unfolding SlotEventsRun
served_own protected count door before after s past es later slot settings is stays =
    let whole : SlotEventsRun protected no_sessions before (past ++ (Comes slot settings ∷ (es ++ later))) s.slots after =
    subst (λ (x : List SlotEvent). SlotEventsRun protected no_sessions before x s.slots after) is s.runs in
    let behind = runs_split protected no_sessions s.slots before after past (Comes slot settings ∷ (es ++ later)) whole in
    let comes = behind.3 in
    let stay = runs_split protected comes.0 s.slots comes.1 after es later comes.3 in
    let own = own_session protected comes.0 stay.0 comes.1 stay.1 es slot (opening_machine settings 1) stay.2 comes.2.1 stays in
    (own.0, own.2)

-- ---- who was let in

all_front : (P : SlotEvent → Type 0) (es fs : List SlotEvent) → AllByRecursion P (es ++ fs) → AllByRecursion P es
all_front P [] fs p = tt
all_front P (e ∷ es) fs p = (p.0, all_front P es fs p.1)

all_at : (P : SlotEvent → Type 0) (es : List SlotEvent) (e : SlotEvent) (fs : List SlotEvent) → AllByRecursion P (es ++ e ∷ fs) → P e
all_at P [] e fs p = p.0
all_at P (f ∷ es) e fs p = all_at P es e fs p.1

pub let_in_at : (protected : Bool) (count : ℕ) (door : Door) (before after : Store) (s : Served protected count door before after)
    (past later : List SlotEvent) (t : Turn) → s.events ≡ past ++ Takes t ∷ later → (executed_of t ≡ [] → ⊥)
    → (settings : TargetSettings) × IsAdmitted door settings × IsLetIn protected past t settings
let_in_at protected count door before after s past later t is some =
    let x = let_in protected no_sessions s.slots before after past later t
    (subst (λ (es : List SlotEvent). SlotEventsRun protected no_sessions before es s.slots after) is s.runs) (λ k. refl) some in
    let came : AllByRecursion (ComesBy door) past =
    all_front (ComesBy door) past (Takes t ∷ later) (subst (λ (es : List SlotEvent). AllByRecursion (ComesBy door) es) is s.admitted) in (
      x.0,
      all_at (ComesBy door) x.1.earlier (Comes t.slot x.0) x.1.own (subst (λ (es : List SlotEvent). AllByRecursion (ComesBy door) es) x.1.split came),
      x.1,
    )

-- What the one list of commands has of one slot.
use Rattle.std.proofs.Common.{◌≡◌, inl, inr, ℕ, Bool, true, false, ◌==◌, List, [], ◌∷◌, ◌++◌, Some, refl, sym, ap, subst, ◌∙◌, append-nil, map}
use Rattle.std.specs.Prelude.{filter}
use Rattle.std.specs.List.{AllByRecursion}
use Rattle.std.proofs.lemmas.List.{map-append}
use Rattle.std.proofs.lemmas.List.Elements.{filter-append}
use Rattle.scsi_disk.specs.Disk.{Disk}
use Rattle.iscsi_target_session.specs.Configured.{TargetSettings}
use Rattle.iscsi_target.specs.State.{Machine, Execution, TargetStep, opening_machine}
use Rattle.iscsi_target.specs.Machine.{answers, is_machine_closed}
use Rattle.iscsi_target.specs.Feed.{Store}
use Rattle.iscsi_target.specs.Laws.{AreInOrder, TaggedOrder, joined_execution, orders_done, orders_asked}
use Rattle.iscsi_sessions.specs.Turns.{SlotEvent, Comes, Takes, Syncs, Ends, Goes, IsEnded, IsLeftSession, SlotEventsRun, Slots, SessionEvents, KeepsSlot, executed_by, executed_in, slot_events, event_if}
use Rattle.iscsi_sessions.specs.Turns.{slot_of}
use Rattle.iscsi_sessions.specs.Company.{Group, IsCalm, answers_over, groups_in}
use Rattle.iscsi_sessions.specs.OwnOrder.{Placed, placed_by, placed_in, executed_for}
use Rattle.iscsi_sessions.proofs.RunLemmas.{own_session}
use Rattle.iscsi_sessions.proofs.CompanyLemmas.{closed_quiet, over_in_order, over_joined, over_settings}

-- ---- the list

abbrev command_of : Placed → Execution
command_of p = p.1

at_slot : (k : ℕ) (xs : List Execution) → map command_of (map (λ (x : Execution). (k, x)) xs) ≡ xs
at_slot k [] = refl
at_slot k (x ∷ xs) = ap (λ (ys : List Execution). x ∷ ys) (at_slot k xs)

pub placed_all : (es : List SlotEvent) → map (λ p. p.1) (placed_in es) ≡ executed_in es
placed_all [] = refl
placed_all (e ∷ es) =
    map-append command_of (placed_by e) (placed_in es)
    ∙ ap (λ (xs : List Execution). xs ++ map command_of (placed_in es)) (at_slot (slot_of e) (executed_by e))
    ∙ ap (λ (xs : List Execution). executed_by e ++ xs) (placed_all es)

-- ---- one slot of it

kept : (k slot : ℕ) (xs : List Execution) → (k == slot) ≡ true → executed_for slot (map (λ (x : Execution). (k, x)) xs) ≡ xs
kept k slot [] e = refl
kept k slot (x ∷ xs) e = rw e (ap (λ (ys : List Execution). x ∷ ys) (kept k slot xs e))

left_out : (k slot : ℕ) (xs : List Execution) → (k == slot) ≡ false → executed_for slot (map (λ (x : Execution). (k, x)) xs) ≡ []
left_out k slot [] e = refl
left_out k slot (x ∷ xs) e = rw e (left_out k slot xs e)

one_part : (b : Bool) (e : SlotEvent) (es : List SlotEvent) (slot : ℕ) → (slot_of e == slot) ≡ b
    → executed_for slot (placed_by e) ++ executed_in es ≡ executed_in (event_if b e es)
one_part true e es slot h = ap (λ (xs : List Execution). xs ++ executed_in es) (kept (slot_of e) slot (executed_by e) h)
one_part false e es slot h = ap (λ (xs : List Execution). xs ++ executed_in es) (left_out (slot_of e) slot (executed_by e) h)

for_append : (slot : ℕ) (a b : List Placed) → executed_for slot (a ++ b) ≡ executed_for slot a ++ executed_for slot b
for_append slot a b =
    ap (λ (ps : List Placed). map command_of ps) (filter-append (λ (p : Placed). p.0 == slot) a b)
    ∙ map-append command_of (filter (λ (p : Placed). p.0 == slot) a) (filter (λ (p : Placed). p.0 == slot) b)

pub own_turns : (es : List SlotEvent) (slot : ℕ) → executed_for slot (placed_in es) ≡ executed_in (slot_events slot es)
own_turns [] slot = refl
own_turns (e ∷ es) slot =
    for_append slot (placed_by e) (placed_in es)
    ∙ ap (λ (xs : List Execution). executed_for slot (placed_by e) ++ xs) (own_turns es slot)
    ∙ one_part (slot_of e == slot) e (slot_events slot es) slot refl

-- ---- what the session's own machine executes

abbrev whole : List Execution → List Execution
whole es = map joined_execution es

-- behind this machine the rest of the session executes so
abbrev Executes : Bool → List SlotEvent → Machine → Type 0
Executes protected es s = (disk : Disk) → whole (executed_in es) ≡ whole (answers_over protected s disk (groups_in es)).executed

quiet_executes : (protected : Bool) (s m end : Machine) (es : List SlotEvent) → is_machine_closed m ≡ true → SessionEvents protected m es end
    → Executes protected es s
unfolding answers_over
quiet_executes protected s m end es e h disk =
    let q = closed_quiet protected m end es e h in
    ap whole q.2 ∙ ap (λ (gs : List Group). whole (answers_over protected s disk gs).executed) (sym q.1)

left_executes : (protected : Bool) (s m end : Machine) (es : List SlotEvent) → IsLeftSession s m → SessionEvents protected m es end → Executes protected es m
    → Executes protected es s
left_executes protected s m end es (inl same) h go disk =
    go disk ∙ ap (λ (x : Machine). whole (answers_over protected x disk (groups_in es)).executed) same
    ∙ ap (λ (r : TargetStep). r.executed) (over_joined protected s disk (groups_in es))
left_executes protected s m end es (inr over) h go disk = quiet_executes protected s m end es (ap is_machine_closed over) h disk

ended_executes : (protected : Bool) (s m end : Machine) (es : List SlotEvent) → IsEnded s m → SessionEvents protected m es end → Executes protected es m
    → Executes protected es s
ended_executes protected s m end es (inl same) h go disk = go disk ∙ ap (λ (x : Machine). whole (answers_over protected x disk (groups_in es)).executed) same
ended_executes protected s m end es (inr over) h go disk = quiet_executes protected s m end es (ap is_machine_closed over) h disk

session_executes : (protected : Bool) (s end : Machine) (es : List SlotEvent) → SessionEvents protected s es end → AllByRecursion IsCalm es
    → Executes protected es s
unfolding SessionEvents answers_over
session_executes protected s end [] h calm disk = refl
session_executes protected s end (Comes k settings ∷ es) h calm disk = absurd h
session_executes protected s end (Goes k ∷ es) h calm disk = absurd h
session_executes protected s end (Syncs k ∷ es) h calm disk = session_executes protected s end es h calm.1 disk
session_executes protected s end (Ends k ∷ es) h calm disk = ended_executes protected s h.0 end es h.1 h.2
    (session_executes protected h.0 end es h.2 calm.1) disk
session_executes protected s end (Takes t ∷ es) h calm disk =
    let r : TargetStep = answers protected s t.before.disk t.messages in
    let is : t.stepped ≡ r = h.1.works calm.0.0 in
    let machine : t.front.machine ≡ r.machine = ap (λ (x : TargetStep). x.machine) (calm.0.1) ∙ ap (λ (x : TargetStep). x.machine) is in
    let own : t.stepped.executed ++ t.front.executed ≡ r.executed =
    ap (λ (x : TargetStep). t.stepped.executed ++ x.executed) calm.0.1 ∙ append-nil t.stepped.executed ∙ ap (λ (x : TargetStep). x.executed) is in
    let later : TargetStep = answers_over protected r.machine r.disk (groups_in es) in
    ap (λ (xs : List Execution). whole (xs ++ executed_in es)) own
    ∙ map-append joined_execution r.executed (executed_in es)
    ∙ ap (λ (xs : List Execution). whole r.executed ++ xs)
    (left_executes protected r.machine h.0 end es (subst (λ (x : Machine). IsLeftSession x h.0) machine h.2) h.3
    (session_executes protected h.0 end es h.3 calm.1) r.disk)
    ∙ sym (map-append joined_execution r.executed later.executed)

pub own_executed : (protected : Bool) (slots after : Slots) (store last : Store) (es : List SlotEvent) (slot : ℕ) (s : Machine)
    → SlotEventsRun protected slots store es after last →
    slots slot ≡ Some s → KeepsSlot slot es → AllByRecursion IsCalm (slot_events slot es) → (disk : Disk)
    → map joined_execution (executed_for slot (placed_in es)) ≡ map joined_execution (answers_over protected s disk (groups_in (slot_events slot es))).executed
own_executed protected slots after store last es slot s r has stays calm disk =
    let own = own_session protected slots after store last es slot s r has stays in
    ap whole (own_turns es slot) ∙ session_executes protected s own.0 (slot_events slot es) own.2 calm disk

-- ---- its commands

tasks_whole : (es : List Execution) → orders_done (whole es) ≡ orders_done es
tasks_whole [] = refl
tasks_whole (e ∷ es) = ap (λ (ts : List TaggedOrder). (e.initiator_task_tag, e.order) ∷ ts) (tasks_whole es)

pub own_accepted : (protected : Bool) (slots after : Slots) (store last : Store) (es : List SlotEvent) (slot n : ℕ) (settings : TargetSettings)
    → SlotEventsRun protected slots store es after last →
    slots slot ≡ Some (opening_machine settings n) → KeepsSlot slot es → AllByRecursion IsCalm (slot_events slot es) → (disk : Disk)
    → (more : List TaggedOrder)
    × (orders_asked settings.extras.unit (answers_over protected (opening_machine settings n) disk (groups_in (slot_events slot es))).accepted ≡ orders_done
    (executed_for slot (placed_in es))
    ++ more)
own_accepted protected slots after store last es slot n settings r has stays calm disk =
    let gs : List Group = groups_in (slot_events slot es) in
    let run : TargetStep = answers_over protected (opening_machine settings n) disk gs in
    let order : AreInOrder run = over_in_order protected settings n disk gs in
    let same : orders_done run.executed ≡ orders_done (executed_for slot (placed_in es)) =
    sym (tasks_whole run.executed) ∙ ap orders_done (sym (own_executed protected slots after store last es slot (opening_machine settings n) r has stays calm
    disk))
    ∙ tasks_whole (executed_for slot (placed_in es)) in (
      order.more,
      ap (λ (p : TargetSettings). orders_asked p.extras.unit run.accepted) (sym (over_settings protected (opening_machine settings n) disk gs)) ∙ order.order
          ∙ ap (λ (ts : List TaggedOrder). ts ++ order.more) same,
    )

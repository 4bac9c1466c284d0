-- One session in company: its answers, its order, and what tiles.
use Rattle.std.proofs.Common.{Bool, ◌≡◌, ◌<◌, inl, inr, ℕ, ◌^◌, true, false, List, [], ◌∷◌, ◌++◌, refl, sym, ap, subst, ◌∙◌, append-nil, append_assoc, map, Option}
use Rattle.std.specs.List.{AllByRecursion}
use Rattle.std.proofs.lemmas.List.{map-append}
use Rattle.std.proofs.lemmas.Grind.{flat_map-append}
use Rattle.scsi_disk.specs.Disk.{Disk}
use Rattle.scsi_unit.specs.LogicalUnit.{LogicalUnit}
use Rattle.iscsi_stream.specs.Stream.{Message}
use Rattle.iscsi_login.specs.Negotiation.{ArePreferencesInRange}
use Rattle.iscsi_target_session.specs.Configured.{TargetSettings}
use Rattle.iscsi_target.specs.State.{Machine, Execution, TargetStep, writes_joined, opening_machine, unit_of}
use Rattle.iscsi_target.specs.Execution.{reliable}
use Rattle.iscsi_target.specs.Machine.{answers, is_machine_closed, target_step, then_stepped}
use Rattle.iscsi_target.specs.Tiles.{TilesDataIn}
use Rattle.iscsi_target.specs.Laws.{AreInOrder, TaggedOrder, CountOn, given_number, joined_stepped, response_tag, response_tags, stat_sn_of, stat_sns}
use Rattle.iscsi_target.specs.Laws.{order_done, orders_done, orders_asked, orders_waiting}
use Rattle.iscsi_target_session.proofs.CaseLemmas.{by_cases}
use Rattle.iscsi_target.proofs.Queue.AcceptedOrderLaw.{Queues, answers_queue, tasks_append}
use Rattle.iscsi_target.proofs.Writes.JoiningLemmas.{answers_joined, joined_then}
use Rattle.iscsi_target.proofs.Steps.NumberLaws.{IsFit, answers_fit, answers_settings, answers_stat_sns, answers_tags, closed_answers, count_on}
use Rattle.iscsi_target.proofs.Steps.ReachableLemmas.{reached_fit, gives_tiles}
use Rattle.iscsi_target.proofs.Answers.ReplyLemmas.{Count}
use Rattle.iscsi_target.proofs.Steps.SendingLemmas.{StepTells, count_append, step_tells}
use Rattle.iscsi_target.proofs.Writes.WriteTilingLaws.{KeepsWrites, answers_sound, step_goes}
use Rattle.iscsi_target.proofs.Writes.WriteTilingLaws.{IsSound}
use Rattle.iscsi_sessions.specs.Turns.{SlotEvent, Comes, Takes, Syncs, Ends, Goes, IsEnded, IsLeftSession, SessionEvents, executed_in}
use Rattle.iscsi_sessions.specs.Company.{Group, HaveCount, IsCalm, answers_in, answers_over, groups_in}

-- ---- StatSN and tags

over_stat_sns : (protected : Bool) (s : Machine) (disk : Disk) (gs : List Group) → Count s.session.stat_sn (stat_sns (answers_over protected s disk gs).answers)
    (answers_over protected s disk gs).machine.session.stat_sn
unfolding answers_over
over_stat_sns protected s disk [] = refl
over_stat_sns protected s disk (g ∷ gs) =
    let first : TargetStep = answers protected s g.0 g.1 in
    let later : TargetStep = answers_over protected first.machine first.disk gs in
    subst (λ (ns : List ℕ). Count s.session.stat_sn ns later.machine.session.stat_sn)
    (sym (flat_map-append (λ (x : Message). given_number (stat_sn_of x.head)) first.answers later.answers))
    (count_append s.session.stat_sn (stat_sns first.answers) (stat_sns later.answers) first.machine.session.stat_sn later.machine.session.stat_sn
    (answers_stat_sns protected s g.0 g.1) (over_stat_sns protected first.machine first.disk gs))

pub over_status : (protected : Bool) (s : Machine) (disk : Disk) (gs : List Group) → s.session.stat_sn < 2 ^ 32
    → CountOn s.session.stat_sn (stat_sns (answers_over protected s disk gs).answers)
over_status protected s disk gs lt =
    count_on s.session.stat_sn (stat_sns (answers_over protected s disk gs).answers) (answers_over protected s disk gs).machine.session.stat_sn lt
    (over_stat_sns protected s disk gs)

pub over_tags : (protected : Bool) (s : Machine) (disk : Disk) (gs : List Group) → response_tags (answers_over protected s disk gs).answers
    ≡ map (λ (e : Execution). e.initiator_task_tag) (answers_over protected s disk gs).executed
unfolding answers_over
over_tags protected s disk [] = refl
over_tags protected s disk (g ∷ gs) =
    let first : TargetStep = answers protected s g.0 g.1 in
    let later : TargetStep = answers_over protected first.machine first.disk gs in
    flat_map-append (λ (x : Message). response_tag x.head) first.answers later.answers
    ∙ ap (λ (ts : List ℕ). ts ++ response_tags later.answers) (answers_tags protected s g.0 g.1)
    ∙ ap (λ (ts : List ℕ). map (λ (e : Execution). e.initiator_task_tag) first.executed ++ ts) (over_tags protected first.machine first.disk gs)
    ∙ sym (map-append (λ (e : Execution). e.initiator_task_tag) first.executed later.executed)

-- ---- a closed session

pub over_closed : (protected : Bool) (s : Machine) (disk : Disk) (gs : List Group) → is_machine_closed s ≡ true
    → ((answers_over protected s disk gs).accepted ≡ [])
    × ((answers_over protected s disk gs).executed ≡ []) × (is_machine_closed (answers_over protected s disk gs).machine ≡ true)
unfolding answers_over
over_closed protected s disk [] e = (refl, refl, e)
over_closed protected s disk (g ∷ gs) e =
    subst (λ (r : TargetStep). ((then_stepped r (answers_over protected r.machine r.disk gs)).accepted ≡ [])
    × ((then_stepped r (answers_over protected r.machine r.disk gs)).executed ≡ [])
    × (is_machine_closed (answers_over protected r.machine r.disk gs).machine ≡ true))
    (sym (closed_answers protected s g.0 g.1 e)) (over_closed protected s g.0 gs e)

-- ---- the order

-- what a session was configured with stays
pub over_settings : (protected : Bool) (s : Machine) (disk : Disk) (gs : List Group)
    → (answers_over protected s disk gs).machine.session.settings ≡ s.session.settings
unfolding answers_over
over_settings protected s disk [] = refl
over_settings protected s disk (g ∷ gs) = over_settings protected (answers protected s g.0 g.1).machine (answers protected s g.0 g.1).disk gs
    ∙ answers_settings protected s g.0 g.1

end_queues : (unit : Option LogicalUnit) (tasks : _) (first later : TargetStep) → Queues unit tasks first → is_machine_closed first.machine ≡ true →
    later.accepted ≡ [] → later.executed ≡ [] →
    is_machine_closed later.machine ≡ true → Queues unit tasks (then_stepped first later)
end_queues unit tasks first later q e a x c = record {
  more = q.more;
  order = ap (λ (ms : List Message). orders_waiting tasks ++ orders_asked unit (first.accepted ++ ms)) a
      ∙ ap (λ (ms : List Message). orders_waiting tasks ++ orders_asked unit ms) (append-nil first.accepted) ∙ q.order
      ∙ ap (λ (es : List Execution). orders_done es ++ q.more) (sym (append-nil first.executed))
      ∙ ap (λ (es : List Execution). orders_done (first.executed ++ es) ++ q.more) (sym x);
  open_ = λ f. absurd (cc (c, f));
}

open_queues : (unit : Option LogicalUnit) (tasks : _) (first later : TargetStep) → Queues unit tasks first → is_machine_closed first.machine ≡ false →
    Queues unit first.machine.tasks later →
    Queues unit tasks (then_stepped first later)
open_queues unit tasks first later q e p = record {
  more = p.more;
  order =
      ap (λ (ts : List TaggedOrder). orders_waiting tasks ++ ts) (tasks_append unit first.accepted later.accepted)
      ∙ sym (append_assoc (orders_waiting tasks) (orders_asked unit first.accepted) (orders_asked unit later.accepted))
      ∙ ap (λ (ts : List TaggedOrder). ts ++ orders_asked unit later.accepted) q.order
      ∙ append_assoc (orders_done first.executed) q.more (orders_asked unit later.accepted)
      ∙ ap (λ (ts : List TaggedOrder). orders_done first.executed ++ (ts ++ orders_asked unit later.accepted)) (q.open_ e)
      ∙ ap (λ (ts : List TaggedOrder). orders_done first.executed ++ ts) p.order
      ∙ sym (append_assoc (orders_done first.executed) (orders_done later.executed) p.more)
      ∙ ap (λ (ts : List TaggedOrder). ts ++ p.more) (sym (map-append order_done first.executed later.executed));
  open_ = p.open_;
}

over_queue : (protected : Bool) (s : Machine) (disk : Disk) (gs : List Group) → Queues (unit_of s.session) s.tasks (answers_over protected s disk gs)
unfolding answers_over
over_queue protected s disk [] = record { more = orders_waiting s.tasks; order = append-nil (orders_waiting s.tasks); open_ = λ f. refl }
over_queue protected s disk (g ∷ gs) =
    let first : TargetStep = answers protected s g.0 g.1 in
    let q : Queues (unit_of s.session) s.tasks first = answers_queue protected s g.0 g.1 in
    by_cases (is_machine_closed first.machine)
    (λ e. let c = over_closed protected first.machine first.disk gs e in
    end_queues (unit_of s.session) s.tasks first (answers_over protected first.machine first.disk gs) q e c.0 c.1 c.2)
    (λ e. open_queues (unit_of s.session) s.tasks first (answers_over protected first.machine first.disk gs) q e
    (subst (λ (p : TargetSettings). Queues p.extras.unit first.machine.tasks (answers_over protected first.machine first.disk gs))
    (answers_settings protected s g.0 g.1) (over_queue protected first.machine first.disk gs)))

pub over_in_order : (protected : Bool) (settings : TargetSettings) (n : ℕ) (disk : Disk) (gs : List Group)
    → AreInOrder (answers_over protected (opening_machine settings n) disk gs)
over_in_order protected settings n disk gs =
    let r : TargetStep = answers_over protected (opening_machine settings n) disk gs in
    let q : Queues (unit_of r.machine.session) [] r = subst (λ (p : TargetSettings). Queues p.extras.unit [] r)
    (sym (over_settings protected (opening_machine settings n) disk gs)) (over_queue protected (opening_machine settings n) disk gs) in
    record { more = q.more; order = q.order; open_ = q.open_ }

-- ---- what tiles

over_fit : (protected : Bool) (s : Machine) (disk : Disk) (gs : List Group) → IsFit s → IsFit (answers_over protected s disk gs).machine
unfolding answers_over
over_fit protected s disk [] f = f
over_fit protected s disk (g ∷ gs) f = over_fit protected (answers protected s g.0 g.1).machine (answers protected s g.0 g.1).disk gs
    (answers_fit protected s g.0 g.1 f)

opening_fit : (protected : Bool) (settings : TargetSettings) (n : ℕ) (disk : Disk) → IsFit (opening_machine settings n)
unfolding answers
opening_fit protected settings n disk = reached_fit protected settings n disk []

pub over_data_in : (protected : Bool) (settings : TargetSettings) (n : ℕ) (disk now : Disk) (gs : List Group) (m : Message)
    → ArePreferencesInRange settings.preferences
    → TilesDataIn protected (target_step protected (answers_over protected (opening_machine settings n) disk gs).machine now m)
over_data_in protected settings n disk now gs m p =
    let r : TargetStep = answers_over protected (opening_machine settings n) disk gs in
    let t : StepTells (reliable protected) r.machine m (target_step protected r.machine now m) = step_tells (reliable protected) now r.machine m in
    let q : ArePreferencesInRange r.machine.session.settings.preferences =
    subst (λ (x : TargetSettings). ArePreferencesInRange x.preferences) (sym (over_settings protected (opening_machine settings n) disk gs)) p in
    gives_tiles protected (target_step protected r.machine now m).answers (target_step protected r.machine now m).executed
    (t.gives q ((over_fit protected (opening_machine settings n) disk gs (opening_fit protected settings n disk)).held q))

pub over_sound : (protected : Bool) (count : ℕ) (s : Machine) (disk : Disk) (gs : List Group) → HaveCount count gs → IsSound count s.tasks →
    IsSound count (answers_over protected s disk gs).machine.tasks
unfolding answers_over
over_sound protected count s disk [] all o = o
over_sound protected count s disk (g ∷ gs) all o =
    over_sound protected count (answers protected s g.0 g.1).machine (answers protected s g.0 g.1).disk gs all.1
    (subst (λ (k : ℕ). IsSound k (answers protected s g.0 g.1).machine.tasks) all.0
    (answers_sound protected s g.0 g.1 (subst (λ (k : ℕ). IsSound k s.tasks) (sym all.0) o)))

pub over_keeps : (protected : Bool) (settings : TargetSettings) (n : ℕ) (disk now : Disk) (gs : List Group) (m : Message) → HaveCount now.count gs
    → KeepsWrites now.count (target_step protected (answers_over protected (opening_machine settings n) disk gs).machine now m)
over_keeps protected settings n disk now gs m all =
    step_goes protected now (answers_over protected (opening_machine settings n) disk gs).machine m
    (over_sound protected now.count (opening_machine settings n) disk gs all tt)

-- ---- a session of a table

pub over_joined : (protected : Bool) (s : Machine) (disk : Disk) (gs : List Group)
    → joined_stepped (answers_over protected (writes_joined s) disk gs) ≡ joined_stepped (answers_over protected s disk gs)
unfolding answers_over answers
over_joined protected s disk [] = answers_joined protected s disk []
over_joined protected s disk (g ∷ gs) =
    let a : TargetStep = answers protected (writes_joined s) g.0 g.1 in
    let b : TargetStep = answers protected s g.0 g.1 in
    let e : joined_stepped a ≡ joined_stepped b = answers_joined protected s g.0 g.1 in
    joined_then a (answers_over protected a.machine a.disk gs)
    ∙ ap (λ (r : TargetStep). then_stepped (joined_stepped a) r) (sym (over_joined protected a.machine a.disk gs))
    ∙ ap (λ (r : TargetStep). then_stepped r (joined_stepped (answers_over protected r.machine r.disk gs))) e
    ∙ ap (λ (r : TargetStep). then_stepped (joined_stepped b) r) (over_joined protected b.machine b.disk gs)
    ∙ sym (joined_then b (answers_over protected b.machine b.disk gs))

pub closed_quiet : (protected : Bool) (s end : Machine) (es : List SlotEvent) → is_machine_closed s ≡ true → SessionEvents protected s es end
    → (answers_in es ≡ [])
    × (groups_in es ≡ [])
    × (executed_in es ≡ [])
unfolding SessionEvents
closed_quiet protected s end [] e h = (refl, refl, refl)
closed_quiet protected s end (Comes k settings ∷ es) e h = absurd h
closed_quiet protected s end (Goes k ∷ es) e h = absurd h
closed_quiet protected s end (Takes t ∷ es) e h = let f : is_machine_closed s ≡ false = h.1.live in absurd (cc (e, f))
closed_quiet protected s end (Syncs k ∷ es) e h = closed_quiet protected s end es e h
closed_quiet protected s end (Ends k ∷ es) e h = elim h.1 [
  | inl same ↦ closed_quiet protected h.0 end es (ap is_machine_closed same ∙ e) h.2
  | inr over ↦ closed_quiet protected h.0 end es (ap is_machine_closed over) h.2
]

-- behind this machine the rest of the session answers so
abbrev Answers : Bool → List SlotEvent → Machine → Type 0
Answers protected es s = (disk : Disk) → answers_in es ≡ (answers_over protected s disk (groups_in es)).answers

quiet_answers : (protected : Bool) (s m end : Machine) (es : List SlotEvent) → is_machine_closed m ≡ true → SessionEvents protected m es end
    → Answers protected es s
unfolding answers_over
quiet_answers protected s m end es e h disk =
    let q = closed_quiet protected m end es e h in
    q.0 ∙ ap (λ (gs : List Group). (answers_over protected s disk gs).answers) (sym q.1)

left_answers : (protected : Bool) (s m end : Machine) (es : List SlotEvent) → IsLeftSession s m → SessionEvents protected m es end → Answers protected es m
    → Answers protected es s
left_answers protected s m end es (inl same) h go disk =
    go disk ∙ ap (λ (x : Machine). (answers_over protected x disk (groups_in es)).answers) same
    ∙ ap (λ (r : TargetStep). r.answers) (over_joined protected s disk (groups_in es))
left_answers protected s m end es (inr over) h go disk = quiet_answers protected s m end es (ap is_machine_closed over) h disk

ended_answers : (protected : Bool) (s m end : Machine) (es : List SlotEvent) → IsEnded s m → SessionEvents protected m es end → Answers protected es m
    → Answers protected es s
ended_answers protected s m end es (inl same) h go disk = go disk ∙ ap (λ (x : Machine). (answers_over protected x disk (groups_in es)).answers) same
ended_answers protected s m end es (inr over) h go disk = quiet_answers protected s m end es (ap is_machine_closed over) h disk

pub session_answers : (protected : Bool) (s end : Machine) (es : List SlotEvent) → SessionEvents protected s es end → AllByRecursion IsCalm es
    → Answers protected es s
unfolding SessionEvents answers_over
session_answers protected s end [] h calm disk = refl
session_answers protected s end (Comes k settings ∷ es) h calm disk = absurd h
session_answers protected s end (Goes k ∷ es) h calm disk = absurd h
session_answers protected s end (Syncs k ∷ es) h calm disk = session_answers protected s end es h calm.1 disk
session_answers protected s end (Ends k ∷ es) h calm disk = ended_answers protected s h.0 end es h.1 h.2 (session_answers protected h.0 end es h.2 calm.1) disk
session_answers protected s end (Takes t ∷ es) h calm disk =
    let r : TargetStep = answers protected s t.before.disk t.messages in
    let is : t.stepped ≡ r = h.1.works calm.0.0 in
    let machine : t.front.machine ≡ r.machine = ap (λ (x : TargetStep). x.machine) (calm.0.1) ∙ ap (λ (x : TargetStep). x.machine) is in
    let own : t.stepped.answers ++ t.front.answers ≡ r.answers =
    ap (λ (x : TargetStep). t.stepped.answers ++ x.answers) calm.0.1 ∙ append-nil t.stepped.answers ∙ ap (λ (x : TargetStep). x.answers) is in
    ap (λ (ms : List Message). ms ++ answers_in es) own
    ∙ ap (λ (ms : List Message). r.answers ++ ms)
    (left_answers protected r.machine h.0 end es (subst (λ (x : Machine). IsLeftSession x h.0) machine h.2) h.3
    (session_answers protected h.0 end es h.3 calm.1) r.disk)

-- A call of feed_next is a turn.
use Rattle.std.proofs.Common.{◌≡◌, ◌≤◌, ◌<◌, ◌⊎◌, inl, inr, ℕ, Bool, true, false, ◌==◌, ◌&&◌, not, List, [], ◌∷◌, ◌++◌, length, Option, Some, refl, sym, ap, subst, ◌∙◌}
use Rattle.std.proofs.Common.{arith, append-nil, drop}
use Rattle.std.specs.Prelude.{Result, Ok, Err, OnOk}
use Rattle.iscsi_stream.specs.Canonical.{canon}
use Rattle.iscsi_stream.specs.Framing.{Framing}
use Rattle.iscsi_stream.specs.Stream.{Message}
use Rattle.iscsi_target_session.specs.Configured.{TargetSettings}
use Rattle.scsi_disk.specs.Disk.{Disk}
use Rattle.scsi_unit.specs.WriteCache.{writes_back}
use Rattle.iscsi_login.specs.declared.phase.Phase.{Phase}
use Rattle.iscsi_target.specs.declared.fault.TargetFault.{TargetFault}
use Rattle.iscsi_target.specs.declared.fault.TargetFault.TheVariants as faults
use Rattle.iscsi_target.specs.Asking.{NoneAsks, NotesAsking, has_cache}
use Rattle.iscsi_target.specs.State.{Execution, Machine, TargetStep, unchanged}
use Rattle.iscsi_target.specs.Machine.{MayAnswer, is_machine_closed}
use Rattle.iscsi_target.proofs.Steps.KeepingLemmas.{step_settings}
use Rattle.iscsi_target.specs.Feed.{AsksForMemory, AnswersPdus, TargetConnection, CallProgress, Scene, Store, FeedNextPost, FeedNextPostIfClosed, OutputStands, StopsForMemory, PartlyDonePdu, remainder, scene}
use Rattle.iscsi_sessions.specs.Slots.{Slot, SessionTable, slot_asks, has_cache_at, notes_asking, still_asks, phase_of, slot_at, slot_waiting, with_phase, SlotTakesPdu, SlotFeedsNext, has_answer_room, may_take, may_take_at}
use Rattle.iscsi_sessions.specs.inner.Slots.{gathering}
use Rattle.iscsi_sessions.specs.Turns.{Turn, IsTaskFront, IsOwn, IsLeftSession, TakesTurn, answers_of, executed_of, machines, machine_in}
use Rattle.iscsi_sessions.proofs.SlotLemmas.{some_within, changed_same, others_stay}

-- what a call did, as a turn of a slot with n messages
record Acts (protected : Bool) (slot : ℕ) (old : Scene) (most : ℕ → Type 0) (asking : List Execution → Type 0) (new : Scene) : Type 0 where
  pub turn : Turn
  pub slot_is : turn.slot ≡ slot
  pub met : turn.before ≡ old.store
  pub last_is : new.store ≡ turn.after
  pub few : most (length turn.messages)
  pub own : IsOwn protected old.connection.machine turn
  pub left : IsLeftSession turn.front.machine new.connection.machine
  pub answers_are : new.output ≡ old.output ++ canon (answers_of turn)
  pub asks : asking (executed_of turn)

-- no fault of memory
acts_whole : (protected : Bool) (slot : ℕ) (old new : Scene) (bytes : List ℕ) (most : ℕ → Type 0) (asking : List Execution → Type 0) (now : CallProgress)
    (a : AnswersPdus protected old.connection old.store bytes now new.store)
    → is_machine_closed old.connection.machine ≡ false → most (length now.messages) → OutputStands old.output now.stepped a.failures new.store new.output
    → IsLeftSession now.stepped.machine new.connection.machine → asking now.stepped.executed → Acts protected slot old most asking new
acts_whole protected slot old new bytes most asking now a open_ few s l asks = record {
  turn = record {
    slot = slot;
    before = old.store;
    messages = now.messages;
    stepped = now.stepped;
    front = unchanged now.stepped.machine now.stepped.disk;
    after = new.store;
  };
  slot_is = refl;
  met = refl;
  last_is = refl;
  few = few;
  own = record {
    live = open_;
    counted = a.failures;
    may = a.may;
    works = a.works;
    front = inl (refl, omega (arith, s.failures));
    disk = s.disk;
  };
  left = l;
  answers_are = s.output_is ∙ ap (λ ms. old.output ++ canon ms) (sym (append-nil now.stepped.answers));
  asks = subst asking (sym (append-nil now.stepped.executed)) asks;
}

front_of : (protected : Bool) (framing : Framing) (rest : List ℕ) (r : TargetStep) (counted : ℕ) (front : TargetStep) (after : ℕ) →
    ((front ≡ unchanged r.machine r.disk) × (counted ≤ after) × AsksForMemory framing rest) ⊎ PartlyDonePdu protected framing rest r counted front after
    → IsTaskFront protected r counted front after
front_of protected framing rest r counted front after (inl none) = inl (none.0, none.1)
front_of protected framing rest r counted front after (inr at) = inr (at.message, at.stops)

-- memory ran out
acts_short : (protected : Bool) (slot : ℕ) (old new : Scene) (bytes rest : List ℕ) (most : ℕ → Type 0) (asking : List Execution → Type 0) (now : CallProgress)
    (a : AnswersPdus protected old.connection old.store bytes now new.store)
    → is_machine_closed old.connection.machine ≡ false → most (length now.messages)
    → StopsForMemory protected old.output (remainder now.framing rest now.stepped a.failures) new.connection.machine new.store new.output
    → ((es : List Execution) → asking es) → Acts protected slot old most asking new
acts_short protected slot old new bytes rest most asking now a open_ few s asks = record {
  turn = record {
    slot = slot;
    before = old.store;
    messages = now.messages;
    stepped = now.stepped;
    front = s.front;
    after = new.store;
  };
  slot_is = refl;
  met = refl;
  last_is = refl;
  few = few;
  own = record {
    live = open_;
    counted = a.failures;
    may = a.may;
    works = a.works;
    front = front_of protected now.framing rest now.stepped a.failures s.front new.store.failures s.stops;
    disk = s.disk;
  };
  left = inr s.shut;
  answers_are = s.output_is;
  asks = asks (now.stepped.executed ++ s.front.executed);
}

-- what a session was configured with stays
may_settings : (protected : Bool) (s : Machine) (disk : Disk) (before : ℕ) (ms : List Message) (r : TargetStep) (after : ℕ)
    → MayAnswer protected s disk before ms r after → r.machine.session.settings ≡ s.session.settings
unfolding MayAnswer
may_settings protected s disk before [] r after h = ap (λ (x : TargetStep). x.machine.session.settings) h.0
may_settings protected s disk before (m ∷ ms) r after h =
    ap (λ (x : TargetStep). x.machine.session.settings) h.5 ∙ may_settings protected h.0.machine h.0.disk h.2 ms h.1 after h.4
    ∙ ap (λ (x : TargetStep). x.machine.session.settings) h.3.is ∙ step_settings h.3.device s disk m

cache_stays : (protected : Bool) (b : Bool) (old new : Scene) (piece : List ℕ) (phase : Phase) (result : Result ℕ TargetFault) → b ≡ false
    → FeedNextPostIfClosed protected b old piece (with_phase phase result) new
    → OnOk result (has_cache new.connection.machine ≡ has_cache old.connection.machine)
cache_stays protected true old new piece phase result live f = absurd cc
cache_stays protected false old new piece phase (Ok n) live f =
    ap (λ (s : Machine). has_cache s) f.fed.ends.1
    ∙ ap (λ (p : TargetSettings). writes_back p.extras.unit)
    (may_settings protected old.connection.machine old.store.disk old.store.failures f.fed.messages f.fed.stepped f.fed.answered.failures
    f.fed.answered.may)
cache_stays protected false old new piece phase (Err fault) live f = tt

abbrev one_if : Result ℕ TargetFault → ℕ → Type 0
one_if result n = OnOk result (n ≤ 1)

-- what is noted of commands that ask, where the call goes well
abbrev asks_if : Result ℕ TargetFault → Bool → Bool → Bool → List Execution → Type 0
asks_if result cache noted notes es = OnOk result (cache ≡ true → notes ≡ false → (noted ≡ false) × NoneAsks es)

acts : (protected : Bool) (b : Bool) (slot : ℕ) (old new : Scene) (piece : List ℕ) (phase : Phase) (result : Result ℕ TargetFault) (noted notes : Bool)
    → is_machine_closed old.connection.machine ≡ false
    → b ≡ false → FeedNextPostIfClosed protected b old piece (with_phase phase result) new
    → NotesAsking protected old piece (with_phase phase result) new noted notes
    → Acts protected slot old (one_if result) (asks_if result (has_cache old.connection.machine) noted notes) new
acts protected true slot old new piece phase result noted notes open_ live f a = absurd cc
acts protected false slot old new piece phase (Ok n) noted notes open_ live f a =
    let one = a.0 in
    acts_whole protected slot old new _ (one_if (Ok n)) (asks_if (Ok n) (has_cache old.connection.machine) noted notes) _ one.fed.answered open_ one.one
    one.fed.leaves (inl one.fed.ends.1) a.1
acts protected false slot old new piece phase (Err faults.NoMemory) noted notes open_ live f a =
    acts_short protected slot old new _ _ (one_if (Err faults.NoMemory)) (asks_if (Err faults.NoMemory) (has_cache old.connection.machine) noted notes) _
    f.answered open_ tt f.leaves (λ es. tt)
acts protected false slot old new piece phase (Err (faults.Stream fault)) noted notes open_ live f a =
    acts_whole protected slot old new _ (one_if (Err (faults.Stream fault)))
    (asks_if (Err (faults.Stream fault)) (has_cache old.connection.machine) noted notes) _ f.answered open_ tt f.leaves (inr f.ends.3) tt
acts protected false slot old new piece phase (Err (faults.Protocol rule)) noted notes open_ live f a =
    acts_whole protected slot old new _ (one_if (Err (faults.Protocol rule)))
    (asks_if (Err (faults.Protocol rule)) (has_cache old.connection.machine) noted notes) _ f.answered open_ tt f.leaves (inl f.ends.1) tt
acts protected false slot old new piece phase (Err faults.Closed) noted notes open_ live f a = absurd f.ends

-- a session that may take a PDU is not closed
open_if : (written over unfed : Bool) → ((written && not over) && unfed) ≡ true → over ≡ false
open_if true false unfed e = refl
open_if true true unfed e = absurd cc
open_if false over unfed e = absurd cc

-- ---- a turn of one slot

-- the phase that a call answers is that behind it
phase_now : (protected b : Bool) (old new : Scene) (piece : List ℕ) (n : ℕ) (phase : Phase) → b ≡ false
    → FeedNextPostIfClosed protected b old piece (Ok (n, phase)) new → phase ≡ new.connection.machine.session.phase
phase_now protected true old new piece n phase live f = absurd cc
phase_now protected false old new piece n phase live f = f.fed.ends.2 ∙ ap (λ (s : Machine). s.session.phase) (sym f.fed.ends.1)

-- a call of feed_next with what a slot has, kept as its parts
pub takes_at : (protected : Bool) (old : Slot) (from to : Scene) (done : ℕ × Phase)
    (piece unfed rest : List ℕ) (sent : ℕ) (noted notes offered : Bool)
    → may_take old ≡ true
    → record { connection = from.connection; waiting = drop sent from.output; offered = offered; unfed = unfed; asks = noted } ≡ gathering old
    → (offered ≡ false → sent ≡ 0) → piece ≡ unfed → rest ≡ drop done.0 unfed
    → FeedNextPost protected from piece (Ok done) to
    → NotesAsking protected from piece (Ok done) to noted notes
    → SlotFeedsNext protected old from.store (Ok done.0)
    (record { connection = to.connection; waiting = drop sent to.output; offered = offered; unfed = rest; asks = notes }) to.store
takes_at protected old from to done piece unfed rest sent noted notes offered may same first whole left fed asks =
    let quiet : offered ≡ false = ap (λ (s : Slot). s.offered) same in
    let none : sent ≡ 0 = first quiet in
    let here : from.connection ≡ old.connection = ap (λ (s : Slot). s.connection) same in
    let waits : from.output ≡ old.waiting = sym (ap (λ (k : ℕ). drop k from.output) none) ∙ ap (λ (s : Slot). s.waiting) same in
    let mine : piece ≡ old.unfed = whole ∙ ap (λ (s : Slot). s.unfed) same in
    let ends : to.output ≡ drop sent to.output = sym (ap (λ (k : ℕ). drop k to.output) none) in
    let asked : noted ≡ still_asks old = ap (λ (s : Slot). s.asks) same in
    let Does : TargetConnection → List ℕ → List ℕ → List ℕ → Bool → Phase → Type 0 = λ x o p w b e.
    FeedNextPost protected (scene x from.store o) p (Ok (done.0, e)) (scene to.connection to.store w)
    × NotesAsking protected (scene x from.store o) p (Ok (done.0, e)) (scene to.connection to.store w) b notes in
    let at_place : Does old.connection old.waiting old.unfed (drop sent to.output) (still_asks old) done.1 =
    subst (λ (b : Bool). Does old.connection old.waiting old.unfed (drop sent to.output) b done.1) asked
    (subst (λ (w : List ℕ). Does old.connection old.waiting old.unfed w noted done.1) ends
    (subst (λ (p : List ℕ). Does old.connection old.waiting p to.output noted done.1) mine
    (subst (λ (o : List ℕ). Does old.connection o piece to.output noted done.1) waits
    (subst (λ (x : TargetConnection). Does x from.output piece to.output noted done.1) here (fed, asks))))) in
    let live : is_machine_closed old.connection.machine ≡ false =
    open_if (has_answer_room old) (is_machine_closed old.connection.machine) (not (length old.unfed == 0)) may in
    let is : done.1 ≡ to.connection.machine.session.phase =
    phase_now protected (is_machine_closed old.connection.machine) (scene old.connection from.store old.waiting)
    (scene to.connection to.store (drop sent to.output)) old.unfed done.0
    done.1
    live at_place.0 in
    let does : Does old.connection old.waiting old.unfed (drop sent to.output) (still_asks old) to.connection.machine.session.phase =
    subst (λ (e : Phase). Does old.connection old.waiting old.unfed (drop sent to.output) (still_asks old) e) is at_place in
    record {
      fed = does.0;
      offered = quiet;
      unfed = left ∙ ap (λ (s : Slot). drop done.0 s.unfed) same;
      asks = does.1;
    }

-- ---- a turn of a table

takes_open : (o : Option Slot) (s : Slot) → o ≡ Some s → may_take_at o ≡ true → is_machine_closed s.connection.machine ≡ false
takes_open o s same may =
    let e : may_take s ≡ true = subst (λ (x : Option Slot). may_take_at x ≡ true) same may in
    open_if (has_answer_room s) (is_machine_closed s.connection.machine) (not (length s.unfed == 0)) e

-- so it is one of a table
pub takes_turn : (protected : Bool) (slot : ℕ) (old new : SessionTable) (before after : Store) (result : Result ℕ TargetFault)
    (t : SlotTakesPdu protected slot old before result new after)
    → may_take_at (slot_at old slot) ≡ true → TakesTurn protected slot old before result new after
takes_turn protected slot old new before after result t may =
    let live : is_machine_closed t.before.connection.machine ≡ false = takes_open (slot_at old slot) t.before t.was may in
    let within : slot < length old.slots = some_within old.slots slot t.before t.was in
    let now : slot_at new slot ≡ Some t.after = changed_same slot old new (Some t.after) within t.now in
    let first : Scene = scene t.before.connection before t.before.waiting in
    let last : Scene = scene t.after.connection after t.after.waiting in
    let a : Acts protected slot first (one_if result)
    (asks_if result (has_cache t.before.connection.machine) (still_asks t.before) t.after.asks) last =
    acts protected (is_machine_closed t.before.connection.machine) slot first last t.before.unfed (phase_of t.after) result (still_asks t.before) t.after.asks
    live live t.does.fed t.does.asks in
    record {
      turn = a.turn;
      slot_is = a.slot_is;
      one = a.few;
      is_turn = record {
        met = a.met;
        machine = t.before.connection.machine;
        had = ap (machines old) a.slot_is ∙ ap machine_in t.was;
        own = a.own;
        left = t.after.connection.machine;
        is_left = a.left;
        has = ap (machines new) a.slot_is ∙ ap machine_in now;
        others = λ k ne. others_stay slot old new (Some t.after) t.now k (ap (λ (j : ℕ). j == k) (sym a.slot_is) ∙ ne);
        last_is = a.last_is;
      };
      answers_are = ap slot_waiting now ∙ a.answers_are
          ∙ ap (λ (w : List ℕ). w ++ canon (answers_of a.turn)) (sym (ap slot_waiting t.was));
      asks = subst (λ (o : Option Slot). OnOk result (has_cache_at o ≡ true → notes_asking (slot_at new slot) ≡ false
          → (slot_asks o ≡ false) × NoneAsks (executed_of a.turn))) (sym t.was)
          (subst (λ (o : Option Slot). OnOk result (has_cache t.before.connection.machine ≡ true → notes_asking o ≡ false
          → (still_asks t.before ≡ false) × NoneAsks (executed_of a.turn))) (sym now) a.asks);
      cache = subst (λ (o : Option Slot). OnOk result (has_cache_at (slot_at new slot) ≡ has_cache_at o)) (sym t.was)
          (subst (λ (o : Option Slot). OnOk result (has_cache_at o ≡ has_cache t.before.connection.machine)) (sym now)
          (cache_stays protected (is_machine_closed t.before.connection.machine) first last t.before.unfed (phase_of t.after) result live t.does.fed));
    }

-- The slots of a table.
use Rattle.std.proofs.Common.{inl, inr, ◌≡◌, ◌<◌, ℕ, zero, suc, true, false, ◌==◌, ◌&&◌, Bool, List, [], ◌∷◌, length, Option, None, Some, refl, sym, ap, ◌∙◌, arith}
use Rattle.std.proofs.Common.{get_or, set, is_some}
use Rattle.std.proofs.lemmas.Option.{none-some}
use Rattle.std.proofs.lemmas.Bool.{eqb-false}
use Rattle.std.proofs.lemmas.List.{get_or-set_same, get_or-set_other}
use Rattle.std.proofs.lemmas.List.Quantifiers.{position-Some}
use Rattle.std.specs.Prelude.{is_none, Result, Ok, Err}
use Rattle.std.specs.List.{position}
use Rattle.iscsi_target_session.specs.Configured.{TargetSettings}
use Rattle.iscsi_target.specs.declared.fault.TargetFault.{TargetFault}
use Rattle.iscsi_target.specs.declared.fault.TargetFault.TheVariants as faults
use Rattle.iscsi_target.specs.Feed.{TargetConnection, TargetFinishPost}
use Rattle.iscsi_sessions.specs.Slots.{Slot, SessionTable, SlotFinishes, opening_slot, slot_at, with_slot, SlotChanges}
use Rattle.iscsi_sessions.specs.Turns.{Comes, Ends, HappensIn, IsEnded, OthersStay, machine_in, machines}

-- a taken slot is one of the table
pub some_within : (xs : List (Option Slot)) (k : ℕ) (s : Slot) → get_or xs k None ≡ Some s → k < length xs
some_within [] k s e = absurd (none-some s e)
some_within (x ∷ xs) zero s e = omega arith
some_within (x ∷ xs) (suc k) s e = let h : k < length xs = some_within xs k s e in omega arith

pub taken_within : (xs : List (Option Slot)) (k : ℕ) → is_some (get_or xs k None) ≡ true → k < length xs
taken_within [] k e = absurd cc
taken_within (x ∷ xs) zero e = omega arith
taken_within (x ∷ xs) (suc k) e = let h : k < length xs = taken_within xs k e in omega arith

-- what may be done at a slot of a table that lost nothing
pub may_there : (live may : Bool) → (live && may) ≡ true → may ≡ true
may_there true may e = e
may_there false may e = absurd cc

-- the slot that changed
pub changed_same : (place : ℕ) (old new : SessionTable) (o : Option Slot) → place < length old.slots → new.slots ≡ set old.slots place o → slot_at new place ≡ o
changed_same place old new o within e =
    ap (λ (x : List (Option Slot)). get_or x place None) e ∙ get_or-set_same old.slots place o None within

-- and each other
pub changed_other : (place k : ℕ) (old new : SessionTable) (o : Option Slot) → (place == k) ≡ false → new.slots ≡ set old.slots place o → slot_at new k ≡
    slot_at old k
changed_other place k old new o ne e =
    ap (λ (x : List (Option Slot)). get_or x k None) e ∙ get_or-set_other old.slots place k o None (λ same. eqb-false place k ne (sym same))

pub others_stay : (place : ℕ) (old new : SessionTable) (o : Option Slot) → new.slots ≡ set old.slots place o → OthersStay place (machines old) (machines new)
others_stay place old new o e = λ k ne. ap machine_in (changed_other place k old new o ne e)

-- ---- events

free_is : (o : Option Slot) → is_none o ≡ true → o ≡ None
free_is None e = refl
free_is (Some s) e = absurd cc

pub comes_in : (old new : SessionTable) (place : ℕ) (settings : TargetSettings) → position is_none old.slots ≡ Some place
    → new ≡ with_slot old place (Some (opening_slot settings)) → HappensIn (Comes place settings) old new
comes_in old new place settings e n =
    let p = position-Some is_none old.slots place None e in
    let slots : new.slots ≡ set old.slots place (Some (opening_slot settings)) = ap (λ (h : SessionTable). h.slots) n in
    λ protected store. (
      ap machine_in (free_is (slot_at old place) p.1),
      ap machine_in (changed_same place old new (Some (opening_slot settings)) p.0 slots),
      others_stay place old new (Some (opening_slot settings)) slots,
      refl,
    )

finish_ends : (old new : TargetConnection) (result : Result (Unit {0}) TargetFault) → TargetFinishPost old result new → IsEnded old.machine new.machine
finish_ends old new (Ok done) f = inl (ap (λ (c : TargetConnection). c.machine) f.1)
finish_ends old new (Err faults.Closed) f = inl (ap (λ (c : TargetConnection). c.machine) f.1)
finish_ends old new (Err (faults.Stream fault)) f = inr f.2
finish_ends old new (Err faults.NoMemory) f = absurd f
finish_ends old new (Err (faults.Protocol rule)) f = absurd f

pub ends_in : (old new : SessionTable) (place : ℕ) (result : Result (Unit {0}) TargetFault)
    → SlotChanges place old new (λ before after. SlotFinishes before result after) → HappensIn (Ends place) old new
ends_in old new place result c =
    let within : place < length old.slots = some_within old.slots place c.before c.was in
    λ protected store. (
      record {
        machine = c.before.connection.machine;
        had = ap machine_in c.was;
        left = c.after.connection.machine;
        does = finish_ends c.before.connection c.after.connection result c.does.finishes;
        has = ap machine_in (changed_same place old new (Some c.after) within c.now);
        others = others_stay place old new (Some c.after) c.now;
      },
      refl,
    )

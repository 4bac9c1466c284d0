-- What lasts since a flush, change by change.
use Rattle.std.proofs.Common.{◌≡◌, ◌⊎◌, inl, inr, ℕ, List, [], ◌∷◌, length, Bool, true, false, Option, Some, None, refl, subst}
use Rattle.std.specs.Prelude.{◌==◌, ◌&&◌, ◌||◌, not, if◌then◌else◌, Result, Ok, Err, OnOk}
use Rattle.scsi_disk.specs.Disk.{Disk}
use Rattle.scsi_disk.specs.Lasting.{SettledDisk, Within}
use Rattle.scsi_disk.specs.Runs.{Supplied}
use Rattle.iscsi_target_session.proofs.CaseLemmas.{by_cases}
use Rattle.iscsi_target.specs.declared.fault.TargetFault.{TargetFault}
use Rattle.iscsi_target.specs.Asking.{NoneAsks, has_cache}
use Rattle.iscsi_target.specs.Crash.{CrashesNext, commands_at}
use Rattle.iscsi_target.specs.State.{Execution}
use Rattle.iscsi_target.specs.Machine.{is_machine_closed}
use Rattle.iscsi_target.proofs.Steps.AskingLemmas.{both_none}
use Rattle.iscsi_target.proofs.Steps.TurnLemmas.{neither}
use Rattle.iscsi_target.specs.Feed.{TargetConnection, Store}
use Rattle.iscsi_sessions.specs.Flushes.{AreNextCommands, AreNoted, Change, IsWrittenIn, LeaveInTurn, CrashLeavesCommands, change, owed_behind}
use Rattle.iscsi_sessions.specs.Slots.{SessionTable, Slot, slot_asks, has_cache_at, must_sync, notes_asking, slot_at, slot_waiting}
use Rattle.iscsi_sessions.specs.Turns.{TakesTurn, executed_of}

-- a crash leaves what it would have left at first, or what was written since
left_since : {S : Type 0} (protected : Bool) (disk : S → Disk) (kept : S → ℕ → List ℕ → Type 0) (first last : S) (cs : List (Change S)) (n : ℕ) (bytes : List ℕ)
    → LeaveInTurn protected disk kept first cs last → kept last n bytes → kept first n bytes ⊎ IsWrittenIn protected disk cs n bytes
unfolding LeaveInTurn
left_since protected disk kept first last [] n bytes h k = inl (subst (λ s. kept s n bytes) h k)
left_since protected disk kept first last (c ∷ cs) n bytes h k = elim (left_since protected disk kept c.after last cs n bytes h.2 k) [
  | inl was ↦ elim (h.1 n bytes was) [
    | inl before ↦ inl (subst (λ s. kept s n bytes) h.0 before)
    | inr here ↦ inr (inl here)
  ]
  | inr later ↦ inr (inr later)
]

pub since_flush : {S : Type 0} (protected : Bool) (disk : S → Disk) (kept : S → ℕ → List ℕ → Type 0) (first last : S) (cs : List (Change S)) (n : ℕ)
    (bytes : List ℕ)
    → SettledDisk (disk first) (kept first) → LeaveInTurn protected disk kept first cs last → kept last n bytes
    → (bytes ≡ (disk first).block n) ⊎ IsWrittenIn protected disk cs n bytes
since_flush protected disk kept first last cs n bytes settled h k = elim (left_since protected disk kept first last cs n bytes h k) [
  | inl was ↦ inl (settled n bytes was)
  | inr later ↦ inr later
]

-- a turn is such a change
pub turn_leaves : {S : Type 0} (protected : Bool) (disk : S → Disk) (kept : S → ℕ → List ℕ → Type 0) (old : TargetConnection) (piece : List ℕ) (a b : S)
    → CrashesNext protected old piece (disk a) (disk b) (kept a) (kept b)
    → (orders : List Supplied) × AreNextCommands old piece (disk a).count orders × CrashLeavesCommands protected disk kept (change a orders b)
turn_leaves protected disk kept old piece a b (inl none) = ([], inl refl, none.adds)
turn_leaves protected disk kept old piece a b (inr h) = (commands_at old.machine (disk a).count h.0, inr (h.0, h.1, refl), h.2.adds)

-- and so is a sync
pub sync_leaves : {S : Type 0} (protected : Bool) (disk : S → Disk) (kept : S → ℕ → List ℕ → Type 0) (a b : S)
    → Within (kept a) (kept b) → CrashLeavesCommands protected disk kept (change a [] b)
sync_leaves protected disk kept a b h = λ n bytes k. inl (h n bytes k)

-- ---- who asks

and_true : (a : Bool) → (a && true) ≡ false → a ≡ false
and_true true e = e
and_true false e = refl

-- of the commands whose answers still wait, none asks where the slot doesn't
owed_none : (old : Option Slot) (owed : List Execution) → slot_asks old ≡ false → AreNoted old owed
    → NoneAsks (if length (slot_waiting old) == 0 then [] else owed)
owed_none None owed e noted = tt
owed_none (Some s) owed e noted =
    by_cases (length s.waiting == 0) (λ f. rw f tt)
    (λ f. rw f (noted (and_true s.asks (let g : (s.asks && not (length s.waiting == 0)) ≡ false = e in rw f at g))))

noted_by : (result : Result ℕ TargetFault) (old new : Option Slot) (owed executed : List Execution) → has_cache_at old ≡ true
    → OnOk result (has_cache_at old ≡ true → notes_asking new ≡ false → (slot_asks old ≡ false) × NoneAsks executed)
    → AreNoted old owed → OnOk result (AreNoted new (owed_behind old owed executed))
noted_by (Ok n) old new owed executed cache h noted = λ quiet.
    (let now = h cache quiet in
    both_none (if length (slot_waiting old) == 0 then [] else owed) executed (owed_none old owed now.0 noted) now.1)
noted_by (Err fault) old new owed executed cache h noted = tt

pub turn_noted : (protected : Bool) (slot : ℕ) (old new : SessionTable) (before after : Store) (result : Result ℕ TargetFault)
    (owed : List Execution) (t : TakesTurn protected slot old before result new after)
    → has_cache_at (slot_at old slot) ≡ true → AreNoted (slot_at old slot) owed
    → OnOk result (AreNoted (slot_at new slot) (owed_behind (slot_at old slot) owed (executed_of t.turn)))
turn_noted protected slot old new before after result owed t cache noted =
    noted_by result (slot_at old slot) (slot_at new slot) owed (executed_of t.turn) cache t.asks noted

-- ---- who waits for a sync

quiet : (slot : Option Slot) → must_sync slot ≡ false → notes_asking slot ≡ false
quiet None e = absurd cc
quiet (Some s) e =
    (neither s.asks (is_machine_closed s.connection.machine)
    (neither (not (has_cache s.connection.machine)) (s.asks || is_machine_closed s.connection.machine) e).1).0

-- where the slot doesn't wait for a sync, no command asks whose answer waits
pub unsynced_none : (slot : Option Slot) (owed : List Execution) → AreNoted slot owed → must_sync slot ≡ false → NoneAsks owed
unsynced_none slot owed noted e = noted (quiet slot e)

-- without a write cache each slot waits
pub plain_waits : (slot : Option Slot) → has_cache_at slot ≡ false → must_sync slot ≡ true
plain_waits None e = refl
plain_waits (Some s) e = rw e refl

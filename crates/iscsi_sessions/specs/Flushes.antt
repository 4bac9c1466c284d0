-- What lasts over a disk with a write cache: what there was at the last flush, and what was written
-- since (SBC-3, section 4.15).
--
-- `protected` says of the store that it refuses each write; `disk` and `kept` are its blocks, and what
-- each of them may be after a crash.
use Rattle.std.specs.Prelude.{Bool, ◌≡◌, ◌⊎◌, false, ◌==◌, if◌then◌else◌, ℕ, List, [], ◌∷◌, ◌++◌, length, Option, Some}
use Rattle.scsi_disk.specs.Disk.{Disk}
use Rattle.scsi_disk.specs.Effect.{guarded}
use Rattle.scsi_disk.specs.Plan.{plan_of}
use Rattle.scsi_disk.specs.Runs.{Supplied}
use Rattle.iscsi_stream.specs.Stream.{Message}
use Rattle.iscsi_target.specs.Asking.{NoneAsks}
use Rattle.iscsi_target.specs.Crash.{IsBehindCommand, IsNextPdu, commands_at}
use Rattle.iscsi_target.specs.Feed.{TargetConnection}
use Rattle.iscsi_target.specs.State.{Execution}
use Rattle.iscsi_sessions.specs.Blocks.{aimed_block, aimed_by}
use Rattle.iscsi_sessions.specs.Slots.{Slot, notes_asking, slot_waiting}

-- What happens to a store: the store before it and behind it, and the commands that may be executed
-- meanwhile. A sync has none.
pub record Change (S : Type 0) : Type 0 where
  pub before : S
  pub orders : List Supplied
  pub after : S

-- The parts of what happens.
abbrev pub change : {S : Type 0} → S → List Supplied → S → Change S
change before orders after = record { before = before; orders = orders; after = after }

-- Behind it a crash leaves each block as it would have left it before, or as a command leaves it.
abbrev pub CrashLeavesCommands : {S : Type 0} → Bool → (S → Disk) → (S → ℕ → List ℕ → Type 0)
    → Change S → Type 0
CrashLeavesCommands protected disk kept c =
    (n : ℕ) (bytes : List ℕ) → kept c.after n bytes
    → kept c.before n bytes ⊎ IsBehindCommand protected (disk c.before) c.orders n bytes

-- These are the commands that may be executed for the PDU that the bytes complete, on a disk of n
-- blocks, or none.
abbrev pub AreNextCommands : TargetConnection → List ℕ → ℕ → List Supplied → Type 0
AreNextCommands old piece count orders =
    (orders ≡ [])
    ⊎ ((m : Message) × IsNextPdu old piece m × (orders ≡ commands_at old.machine count m))

-- Such changes, one after another, lead from one store to another.
unfoldable pub LeaveInTurn : {S : Type 0} → Bool → (S → Disk) → (S → ℕ → List ℕ → Type 0) → S
    → List (Change S) → S → Type 0
LeaveInTurn protected disk kept first [] last = last ≡ first
LeaveInTurn protected disk kept first (c ∷ cs) last =
    (c.before ≡ first) × CrashLeavesCommands protected disk kept c
    × LeaveInTurn protected disk kept c.after cs last

-- The block has these bytes as a command of one of these changes leaves it.
abbrev pub IsWrittenIn : {S : Type 0} → Bool → (S → Disk) → List (Change S) → ℕ → List ℕ → Type 0
IsWrittenIn protected disk [] n bytes = ⊥
IsWrittenIn protected disk (c ∷ cs) n bytes =
    IsBehindCommand protected (disk c.before) c.orders n bytes
    ⊎ IsWrittenIn protected disk cs n bytes

-- ---- writes of a block

-- One of these commands writes these bytes to block n, on a disk that has `count` blocks.
abbrev pub IsOrdered : Bool → ℕ → List Supplied → ℕ → List ℕ → Type 0
IsOrdered protected count [] n bytes = ⊥
IsOrdered protected count (o ∷ orders) n bytes =
    (aimed_block (guarded protected o.0.deed (plan_of o.0 count)) o.0 o.1 n ≡ Some bytes)
    ⊎ IsOrdered protected count orders n bytes

-- One of these commands, which were executed, wrote these bytes to block n.
abbrev pub IsWrittenBy : Bool → ℕ → List Execution → ℕ → List ℕ → Type 0
IsWrittenBy protected count [] n bytes = ⊥
IsWrittenBy protected count (e ∷ es) n bytes =
    (aimed_by protected count e n ≡ Some bytes) ⊎ IsWrittenBy protected count es n bytes

-- ---- who asks

-- Unless it is noted at a slot, none of these commands asks that what was written lasts: those that
-- were executed there, and whose answers may wait.
abbrev pub AreNoted : Option Slot → List Execution → Type 0
AreNoted slot owed = notes_asking slot ≡ false → NoneAsks owed

-- The commands whose answers may wait behind a turn: those of before, unless all of their answers were
-- written, and those of the turn.
abbrev pub owed_behind : Option Slot → List Execution → List Execution → List Execution
owed_behind old owed executed =
    (if length (slot_waiting old) == 0 then [] else owed) ++ executed

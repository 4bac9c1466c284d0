-- What a crash leaves of the blocks of a disk, each by itself.
use Rattle.std.specs.Prelude.{◌≡◌, ◌⊎◌, ℕ, List, Bool, true}
use Rattle.scsi_disk.specs.Disk.{Disk}

-- a crash leaves this disk and no other
abbrev pub SettledDisk : Disk → (ℕ → List ℕ → Type 0) → Type 0
SettledDisk disk kept = (n : ℕ) (bytes : List ℕ) → kept n bytes → bytes ≡ disk.block n

-- where what was written was made to last, a crash leaves this disk and no other
abbrev pub LastsOnceSynced : Bool → Disk → (ℕ → List ℕ → Type 0) → Type 0
LastsOnceSynced synced disk kept = synced ≡ true → SettledDisk disk kept

-- a crash leaves nothing that it would not have left before
abbrev pub Within : (ℕ → List ℕ → Type 0) → (ℕ → List ℕ → Type 0) → Type 0
Within old new = (n : ℕ) (bytes : List ℕ) → new n bytes → old n bytes

-- a crash leaves of each block what it would have left before, or that of this disk
abbrev pub CrashAddsDisk : Disk → (ℕ → List ℕ → Type 0) → (ℕ → List ℕ → Type 0) → Type 0
CrashAddsDisk disk old new =
    (n : ℕ) (bytes : List ℕ) → new n bytes → old n bytes ⊎ (bytes ≡ disk.block n)

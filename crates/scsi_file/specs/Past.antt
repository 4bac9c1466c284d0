-- The contents that a medium in memory had since it was synced.
use Rattle.std.specs.Prelude.{◌≡◌, ◌⊎◌, ℕ, List, [], ◌∷◌, Vec}
use Rattle.std.specs.declared.alloc.Global.{Global}
use Rattle.scsi_disk.specs.Disk.{cut}

-- block n was this in one of them
abbrev pub HadBeen : List (Vec ℕ Global) → ℕ → List ℕ → Type 0
HadBeen [] n c = ⊥
HadBeen (before ∷ past) n c = (c ≡ cut 512 before.items n) ⊎ HadBeen past n c

-- block n is this, or was it since the last sync
abbrev pub MayBe : List ℕ → List (Vec ℕ Global) → ℕ → List ℕ → Type 0
MayBe bytes past n c = (c ≡ cut 512 bytes n) ⊎ HadBeen past n c

-- What a medium did and did not say.
use Rattle.std.specs.Prelude.{◌≡◌, ◌≤◌, ℕ, Bool, true, false, Result, IsErrOf}
use Rattle.scsi_disk.specs.declared.store.StoreFault.{StoreFault}
use Rattle.scsi_disk.specs.declared.store.StoreFault.TheVariants.{NoMemory}
use Rattle.scsi_disk.specs.Disk.{Disk}

-- the same blocks, on a medium that does not tell each failure
abbrev pub hiding : Disk → Disk
hiding disk = record { count = disk.count; block = disk.block; tells = false }

-- How often a medium did something else than it said, before a call and after it. A medium that
-- tells each failure never does so, and no medium does so at a call at which memory ran out.
pub record HidesFailures {T : Type 0} (tells : Bool) (before after : ℕ)
    (result : Result T StoreFault)
    : Type 0 where
  pub rises : before ≤ after
  pub honest : tells ≡ true → after ≡ before
  pub memory : IsErrOf result NoMemory → after ≡ before

-- More of `Effect`, of which no public contract speaks.
use Rattle.std.specs.Prelude.{◌≡◌, ◌<◌, ◌≤◌, ◌⊎◌, ℕ, Bool, true, false, List, Option, Some, None, option_map}
use Rattle.scsi_cdb.specs.declared.sense.Sense.{Sense}
use Rattle.scsi_cdb.specs.declared.sense.Sense.TheVariants.{Miscompare, ReadError}
use Rattle.scsi_disk.specs.declared.order.Order.{Order}
use Rattle.scsi_disk.specs.declared.order.Outcome.{Outcome}
use Rattle.scsi_disk.specs.declared.order.Plan.TheVariants.{Take}
use Rattle.scsi_disk.specs.Deed.{compares}
use Rattle.scsi_disk.specs.Disk.{Disk}
use Rattle.scsi_disk.specs.Effect.{Effect, StoreFailureLeaves, check_condition, deed_failure, disk_taken, outcome_taken}
use Rattle.scsi_disk.specs.Plan.{taken_length}

-- what a comparison may give where what was read for it is not so
abbrev pub IsAnyVerdict : Order → Option Outcome → Type 0
IsAnyVerdict order given =
    (given ≡ None) ⊎ ((place : ℕ) × (given ≡ Some (check_condition order (Miscompare place))))

-- A command was held against blocks, over a store whose failures were counted before and after; it fails
-- for this reason, if for any.
pub record IsVerified (tells : Bool) (order : Order) (reason : Option Sense) (before after : ℕ)
    (given : Option Outcome) : Type 0 where
  pub rises : before ≤ after
  pub works : after ≡ before → given ≡ option_map (λ sense. check_condition order sense) reason
  pub fails : before < after
      → (given ≡ Some (check_condition order ReadError))
      ⊎ ((tells ≡ false) × IsAnyVerdict order given)

-- the same of any command that takes data, of which only some are held against blocks
pub record IsUndone (tells : Bool) (order : Order) (reason : Option Sense) (before after : ℕ)
    (given : Option Outcome) : Type 0 where
  pub verdict : IsVerified tells order reason before after given
  pub reads : before < after → compares order.deed ≡ true

-- A command that takes data was done, over a store whose failures were counted before and after.
pub record IsTakenBy (before after : ℕ) (disk : Disk) (order : Order) (bytes : List ℕ)
    (left : Effect) : Type 0 where
  pub rises : before ≤ after
  pub works : after ≡ before → left ≡ record {
    disk = disk_taken (deed_failure disk order bytes) disk order bytes;
    outcome = outcome_taken (deed_failure disk order bytes) order (taken_length order);
  }
  pub fails : before < after
      → StoreFailureLeaves (Take (taken_length order)) disk order bytes left

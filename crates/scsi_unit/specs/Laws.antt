-- What a unit answers to an order.
use Rattle.std.specs.Prelude.{ℕ, Bool, List, Some}
use Rattle.scsi_disk.specs.Disk.{Disk}
use Rattle.scsi_disk.specs.Effect.{effect}
use Rattle.scsi_disk.specs.declared.order.Order.{Order}
use Rattle.scsi_disk.specs.declared.order.Outcome.{Outcome}
use Rattle.scsi_unit.specs.LogicalUnit.{LogicalUnit}
use Rattle.scsi_unit.specs.Telling.{outcome_with_unit}
use Rattle.scsi_unit.specs.Deeds.{meant}

-- The outcome of an order, with these bytes, on a disk with a unit, whose store refuses each write or takes
-- them, and doesn't fail.
abbrev pub answered : LogicalUnit → Bool → Disk → Order → List ℕ → Outcome
answered unit protected disk order bytes =
    outcome_with_unit (Some unit) disk.count (meant (Some unit) order)
    (effect protected disk (meant (Some unit) order) bytes).outcome

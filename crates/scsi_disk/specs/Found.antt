-- What is found of an order when it is planned, from which it is executed.
use Rattle.std.specs.Prelude.{ℕ, ◌≡◌, ◌+◌, ◌*◌, ◌≤◌, true, false, min, [], length, unwrap_or}
use Rattle.scsi_disk.specs.declared.order.Order.{Order}
use Rattle.scsi_disk.specs.declared.order.Plan.{Plan}
use Rattle.scsi_disk.specs.declared.order.Plan.TheVariants as plans
use Rattle.scsi_disk.specs.declared.found.Found.{Found}
use Rattle.scsi_disk.specs.declared.found.Work.{Work}
use Rattle.scsi_disk.specs.declared.found.Work.TheVariants.{Refuse, Write, Read, Tell}
use Rattle.scsi_disk.specs.declared.reading.BlockRange.{BlockRange}
use Rattle.scsi_disk.specs.Plan.{named_transfer, is_read, parameter_data, taken_length, expected_length, plan_of}

-- The order names these blocks, few enough and of a disk of n blocks.
pub record NamesFewBlocks (order : Order) (blocks : ℕ) (range : BlockRange) : Type 0 where
  pub first : range.first ≡ (named_transfer order.cdb).first
  pub count : range.count ≡ (named_transfer order.cdb).count
  pub few : range.count ≤ 8192
  pub inside : range.first + range.count ≤ blocks

-- the plan, by what the order comes to
abbrev pub plan_by_work : Order → Work → Plan
plan_by_work order (Refuse sense) = plans.Refuse sense
plan_by_work order (Write range) = plans.Take (taken_length order)
plan_by_work order (Read range) = plans.Give (min (512 * range.count) (expected_length order))
plan_by_work order (Tell told) = plans.Give (min (length told.items) (expected_length order))

-- What the order comes to is of its kind, and has what it names or gives.
abbrev pub WorkFitsOrder : Order → ℕ → Work → Type 0
WorkFitsOrder order blocks (Refuse sense) = Unit {0}
WorkFitsOrder order blocks (Write range) = NamesFewBlocks order blocks range
WorkFitsOrder order blocks (Read range) =
    (is_read order.cdb ≡ true) × NamesFewBlocks order blocks range
WorkFitsOrder order blocks (Tell told) =
    (is_read order.cdb ≡ false) × (told.items ≡ unwrap_or (parameter_data order blocks) [])

-- That was found of the order: it decides the plan.
pub record IsFound (order : Order) (found : Found) : Type 0 where
  pub plan : plan_of order found.blocks ≡ plan_by_work order found.work
  pub carries : WorkFitsOrder order found.blocks found.work

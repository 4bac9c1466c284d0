-- What a unit tells of itself is no answer to a READ or a WRITE.
use Rattle.std.proofs.Common.{◌≡◌, ℕ, true, Option, Some, None, refl}
use Rattle.std.specs.Prelude.{◌==◌, ◌||◌, option_map, unwrap_or}
use Rattle.std.proofs.lemmas.Bool.{false≢true}
use Rattle.scsi_cdb.specs.declared.cdb.Cdb.{Cdb}
use Rattle.scsi_cdb.specs.declared.cdb.Cdb.TheVariants.{Inquiry, Capacity16, Unknown}
use Rattle.scsi_disk.specs.Plan.{is_read, is_write}
use Rattle.scsi_disk.specs.declared.order.Order.{Order}
use Rattle.scsi_disk.specs.declared.order.Outcome.{Outcome}
use Rattle.scsi_unit.specs.LogicalUnit.{LogicalUnit}
use Rattle.scsi_unit.specs.Telling.{outcome_with_unit, told_outcome, data_told}

by_command : (unit : LogicalUnit) (blocks : ℕ) (order : Order) (cdb : Cdb) (outcome : Outcome) → (is_read cdb || is_write cdb) ≡ true
    → unwrap_or (option_map (told_outcome blocks order) (data_told unit (order.lun == 0) blocks cdb)) outcome ≡ outcome
by_command unit blocks order (Inquiry a b c d) outcome e = absurd (false≢true e)
by_command unit blocks order (Capacity16 a b) outcome e = absurd (false≢true e)
by_command unit blocks order (Unknown a) outcome e = absurd (false≢true e)
by_command unit blocks order _ outcome e = refl

-- a READ or a WRITE has the outcome that it has on any disk
pub not_told : (unit : Option LogicalUnit) (blocks : ℕ) (order : Order) (outcome : Outcome) → (is_read order.cdb || is_write order.cdb) ≡ true
    → outcome_with_unit unit blocks order outcome ≡ outcome
not_told None blocks order outcome e = refl
not_told (Some unit) blocks order outcome e = by_command unit blocks order order.cdb outcome e

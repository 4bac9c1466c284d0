-- What comes of an order on a disk that may have a unit: few bytes, and none where none are expected.
use Rattle.std.specs.Prelude.{min, nat_lt, not, ◌==◌, ◌&&◌, ◌||◌, if◌then◌else◌, option_map, unwrap_or}
use Rattle.std.proofs.Common.{◌≡◌, ◌≤◌, ℕ, Bool, true, false, List, [], length, take, Option, Some, None, refl, ap, arith}
use Rattle.std.proofs.lemmas.List.{length-take}
use Rattle.scsi_cdb.specs.declared.sense.Sense.{Sense}
use Rattle.scsi_cdb.specs.declared.sense.Sense.TheVariants.{InvalidField, NoUnit, OutOfRange}
use Rattle.scsi_disk.specs.Disk.{Disk}
use Rattle.scsi_disk.specs.Effect.{Effect, effect}
use Rattle.scsi_disk.specs.Plan.{expected_length, first_reason, is_unknown, is_write}
use Rattle.scsi_disk.specs.declared.order.Order.{Order}
use Rattle.scsi_disk.specs.declared.order.Outcome.{Outcome}
use Rattle.scsi_unit.specs.LogicalUnit.{LogicalUnit}
use Rattle.scsi_unit.specs.Telling.{data_told, is_for_any_unit, outcome_or_refused, outcome_with_unit, reaches, told_outcome, told_refusals}
use Rattle.scsi_unit.specs.Deeds.{meant}
use Rattle.iscsi_target.specs.Execution.{as_told}
use Rattle.iscsi_target.proofs.Answers.OrderLemmas.{expected_by}
use Rattle.iscsi_pair.specs.LocalDisk.{effect_here}

-- what is executed, on a disk that may have a unit
abbrev pub told : Option LogicalUnit → Disk → Order → List ℕ → Effect
told unit disk order bytes = as_told unit disk.count order (effect false disk order bytes)

-- here it is what the order means there
pub here_is : (unit : Option LogicalUnit) (disk : Disk) (order : Order) (bytes : List ℕ)
    → effect_here unit disk order bytes ≡ told unit disk (meant unit order) bytes
here_is None disk order bytes = refl
here_is (Some unit) disk order bytes = refl

-- ---- what the unit answers of itself

by_found : (P : Outcome → Type 0) (blocks : ℕ) (order : Order) (outcome : Outcome) (found : Option (Option (List ℕ))) → P outcome
    → ((f : Option (List ℕ)) → found ≡ Some f → P (told_outcome blocks order f))
    → P (unwrap_or (option_map (told_outcome blocks order) found) outcome)
by_found P blocks order outcome None kept tells = kept
by_found P blocks order outcome (Some f) kept tells = tells f refl

-- what holds of the outcome on any disk, and of each answer of the unit, holds of what is told
pub by_unit : (P : Outcome → Type 0) (unit : Option LogicalUnit) (blocks : ℕ) (order : Order) (outcome : Outcome) → P outcome
    → ((u : LogicalUnit) (f : Option (List ℕ)) → data_told u (order.lun == 0) blocks order.cdb ≡ Some f → P (told_outcome blocks order f))
    → P (outcome_with_unit unit blocks order outcome)
by_unit P None blocks order outcome kept tells = kept
by_unit P (Some u) blocks order outcome kept tells = by_found P blocks order outcome (data_told u (order.lun == 0) blocks order.cdb) kept (tells u)

-- ---- no more bytes than are expected

few_by : (f : Option Sense) (order : Order) (bytes : List ℕ) → length (outcome_or_refused f order bytes).bytes ≤ order.expected
few_by (Some sense) order bytes = omega arith
few_by None order bytes =
    omega (
      arith,
      length-take (min (length bytes) (expected_length order)) bytes,
      expected_by (order.read || (order.write && (is_write order.cdb || is_unknown order.cdb))) order.expected,
    )

few_answered : (blocks : ℕ) (order : Order) (f : Option (List ℕ)) → length (told_outcome blocks order f).bytes ≤ order.expected
few_answered blocks order None = omega arith
few_answered blocks order (Some bytes) = few_by (first_reason (told_refusals blocks order)) order bytes

pub told_few : (unit : Option LogicalUnit) (disk : Disk) (order : Order) (bytes : List ℕ)
    → length (effect false disk order bytes).outcome.bytes ≤ order.expected → length (told unit disk order bytes).outcome.bytes ≤ order.expected
told_few unit disk order bytes few =
    by_unit (λ (o : Outcome). length o.bytes ≤ order.expected) unit disk.count order (effect false disk order bytes).outcome few
    (λ u f e. few_answered disk.count order f)

-- ---- no bytes to who sends data, or expects none

none_by : (elsewhere writes past : Bool) (order : Order) (bytes : List ℕ) → order.read ≡ false → order.write ≡ writes
    → (outcome_or_refused (if elsewhere then Some NoUnit else (if writes then Some InvalidField else (if past then Some OutOfRange else None))) order bytes).bytes ≡ []
none_by true writes past order bytes reads is = refl
none_by false true past order bytes reads is = refl
none_by false false true order bytes reads is = refl
none_by false false false order bytes reads is =
    let none : expected_length order ≡ 0 = rw (reads, is) refl in
    let least : min (length bytes) (expected_length order) ≡ 0 = omega (arith, none) in
    ap (λ (n : ℕ). take n bytes) least

none_answered : (blocks : ℕ) (order : Order) (f : Option (List ℕ)) → order.read ≡ false → (told_outcome blocks order f).bytes ≡ []
none_answered blocks order None reads = refl
none_answered blocks order (Some bytes) reads =
    none_by (not (order.lun == 0) && not (is_for_any_unit order.cdb)) order.write (nat_lt blocks (reaches order.cdb)) order bytes reads refl

pub told_none : (unit : Option LogicalUnit) (disk : Disk) (order : Order) (bytes : List ℕ) → order.read ≡ false
    → (effect false disk order bytes).outcome.bytes ≡ [] → (told unit disk order bytes).outcome.bytes ≡ []
told_none unit disk order bytes reads none =
    by_unit (λ (o : Outcome). o.bytes ≡ []) unit disk.count order (effect false disk order bytes).outcome none
    (λ u f e. none_answered disk.count order f reads)

-- What an order answers and leaves. Status and sense are those of SPC-4; residuals are own rules.
use Rattle.std.specs.Prelude.{◌≡◌, ◌⊎◌, ℕ, ◌-◌, ◌<◌, ◌≤◌, nat_lt, IsTrue, Bool, true, false, if◌then◌else◌, min, List, [], length as size, length, take, Option, Some, None, unwrap_or}
use Rattle.scsi_cdb.specs.declared.sense.Sense.TheVariants.{Miscompare, ReadError, WriteError, WriteProtected}
use Rattle.scsi_cdb.specs.declared.residual.Residual.{Residual}
use Rattle.scsi_cdb.specs.declared.residual.Residual.TheVariants.{Exact, Under, Over}
use Rattle.scsi_disk.specs.declared.deed.Deed.{Deed}
use Rattle.scsi_disk.specs.declared.order.Order.{Order}
use Rattle.scsi_cdb.specs.declared.sense.Sense.{Sense}
use Rattle.scsi_disk.specs.declared.order.Outcome.{Outcome}
use Rattle.scsi_disk.specs.declared.order.Plan.{Plan}
use Rattle.scsi_disk.specs.declared.order.Plan.TheVariants.{Refuse, Take, Give}
use Rattle.scsi_disk.specs.Disk.{Disk, IsOldOrNew, blocks_from, disk_written}
use Rattle.scsi_disk.specs.Deed.{compares, failure_by, writes, written_bytes, written_first}
use Rattle.scsi_disk.specs.Plan.{named_transfer, is_read, parameter_data, expected_length, wanted_length, plan_of}

-- ---- outcomes

-- how the bytes that a command has differ from those that were expected
abbrev pub residual_of : ℕ → ℕ → Residual
residual_of wanted expected =
    if nat_lt wanted expected then Under (expected - wanted)
    else if nat_lt expected wanted then Over (wanted - expected)
    else Exact

-- GOOD, for a command that has n bytes
abbrev pub good_outcome : Order → ℕ → List ℕ → Outcome
good_outcome order wanted bytes = record {
  status = 0x00;
  sense = None;
  bytes = bytes;
  residual = residual_of wanted (expected_length order);
}

-- GOOD, for a command that gives these data of its own, cut at what the initiator expects
abbrev pub data_given : Order → List ℕ → Outcome
data_given order bytes =
    good_outcome order (size bytes) (take (min (size bytes) (expected_length order)) bytes)

-- CHECK CONDITION: no data, so that all that was expected is missing
abbrev pub check_condition : Order → Sense → Outcome
check_condition order sense = record {
  status = 0x02;
  sense = Some sense;
  bytes = [];
  residual = residual_of 0 (expected_length order);
}

-- the data that a command would give to an initiator that expects enough
abbrev pub wanted_data : Disk → Order → List ℕ
wanted_data disk order =
    let named = named_transfer order.cdb in
    if is_read order.cdb then blocks_from disk named.first named.count
    else unwrap_or (parameter_data order disk.count) []

-- ---- the effect of an order

-- the first block that an order with these bytes writes
abbrev pub write_first : Order → List ℕ → ℕ
write_first order bytes = written_first order.deed (named_transfer order.cdb) bytes

-- the bytes that it leaves from there on
abbrev pub write_block_data : Order → List ℕ → List ℕ
write_block_data order bytes = written_bytes order.deed (named_transfer order.cdb) bytes

-- why an order fails with these bytes, on this disk; None where it does what it is for
abbrev pub deed_failure : Disk → Order → List ℕ → Option Sense
deed_failure disk order bytes = failure_by order.deed (named_transfer order.cdb) disk bytes

-- the disk once the order was done
abbrev pub disk_done : Disk → Order → List ℕ → Disk
disk_done disk order bytes =
    disk_written (write_first order bytes) (write_block_data order bytes) disk

-- what it answers, by why it fails
abbrev pub outcome_taken : Option Sense → Order → ℕ → Outcome
outcome_taken None order length = good_outcome order length []
outcome_taken (Some sense) order length = check_condition order sense

-- the disk that it leaves, by why it fails
abbrev pub disk_taken : Option Sense → Disk → Order → List ℕ → Disk
disk_taken None disk order bytes = disk_done disk order bytes
disk_taken (Some sense) disk order bytes = disk

-- what an order answers, by its plan
abbrev pub outcome_by : Plan → Disk → Order → List ℕ → Outcome
outcome_by (Refuse sense) disk order bytes = check_condition order sense
outcome_by (Take length) disk order bytes =
    outcome_taken (deed_failure disk order bytes) order length
outcome_by (Give length) disk order bytes =
    good_outcome order (wanted_length order disk.count) (take length (wanted_data disk order))

-- the disk that it leaves, by its plan
abbrev pub disk_by : Plan → Disk → Order → List ℕ → Disk
disk_by (Take length) disk order bytes =
    disk_taken (deed_failure disk order bytes) disk order bytes
disk_by _ disk order bytes = disk

-- the disk that it leaves where it is done, by its plan
abbrev pub done_by : Plan → Disk → Order → List ℕ → Disk
done_by (Take length) disk order bytes = disk_done disk order bytes
done_by _ disk order bytes = disk

-- the plan of an order on a store that refuses each write, or on one that takes them
abbrev pub guarded : Bool → Deed → Plan → Plan
guarded true deed (Take length) = if writes deed then Refuse WriteProtected else Take length
guarded protected deed planned = planned

-- a disk after an order, and the outcome
pub record Effect : Type 0 where
  pub disk : Disk
  pub outcome : Outcome

-- the effect of an order, with these bytes, on a disk whose store refuses each write, or takes them
abbrev pub effect : Bool → Disk → Order → List ℕ → Effect
effect protected disk order bytes =
    let planned = guarded protected order.deed (plan_of order disk.count) in
    record {
      disk = disk_by planned disk order bytes;
      outcome = outcome_by planned disk order bytes;
    }

-- the disk that an order leaves there where it is done, also where a comparison would fail
abbrev pub disk_aimed : Bool → Disk → Order → List ℕ → Disk
disk_aimed protected disk order bytes =
    done_by (guarded protected order.deed (plan_of order disk.count)) disk order bytes

-- ---- a call

-- where n bytes are taken, there are as many
abbrev pub IsSuppliedBy : Plan → List ℕ → Type 0
IsSuppliedBy (Take n) bytes = length bytes ≡ n
IsSuppliedBy _ bytes = Unit {0}

-- the bytes are those that the order takes, on a disk of n blocks
abbrev pub IsSupplied : ℕ → Order → List ℕ → Type 0
IsSupplied count order bytes = IsSuppliedBy (plan_of order count) bytes

-- GOOD, with as many bytes as are due, whatever they are
abbrev pub HasOtherData : Disk → Order → ℕ → Outcome → Type 0
HasOtherData disk order length outcome =
    (bytes : List ℕ) × (size bytes ≡ length)
    × (outcome ≡ good_outcome order (wanted_length order disk.count) bytes)

-- what a command that took n bytes may answer where what was read for it is not so: GOOD, or that a
-- comparison fails at any place
abbrev pub IsAnyTaken : Order → ℕ → Outcome → Type 0
IsAnyTaken order length outcome =
    (outcome ≡ good_outcome order length [])
    ⊎ ((compares order.deed ≡ true) × (place : ℕ) × (outcome ≡ check_condition order (Miscompare place)))

-- What a command that took n bytes may answer where the store failed: CHECK CONDITION, of a comparison
-- also for a read, or over a store that does not tell each failure anything that it may answer.
abbrev pub IsFailedTaking : Bool → Order → ℕ → Outcome → Type 0
IsFailedTaking tells order length outcome =
    (outcome ≡ check_condition order WriteError)
    ⊎ (((compares order.deed ≡ true) × (outcome ≡ check_condition order ReadError))
    ⊎ ((tells ≡ false) × IsAnyTaken order length outcome))

-- What a failure of the store leaves: CHECK CONDITION, or over a store that does not tell each
-- failure also GOOD. After a write each block in range is old or new, and no other has changed.
-- After a read no block has changed, and GOOD comes with any bytes.
abbrev pub StoreFailureLeaves : Plan → Disk → Order → List ℕ → Effect → Type 0
StoreFailureLeaves (Refuse sense) disk order bytes after = ⊥
StoreFailureLeaves (Take length) disk order bytes after =
    IsFailedTaking disk.tells order length after.outcome
    × IsOldOrNew disk (disk_done disk order bytes) after.disk
StoreFailureLeaves (Give length) disk order bytes after =
    ((after.outcome ≡ check_condition order ReadError)
    ⊎ ((disk.tells ≡ false) × HasOtherData disk order length after.outcome))
    × IsTrue (is_read order.cdb) × (after.disk ≡ disk)

-- An order was executed on a store, whose failures were counted before and after. The store refuses
-- each write, or takes them.
pub record OrderExecuted (protected : Bool) (failures_before failures_after : ℕ) (disk : Disk)
    (order : Order) (bytes : List ℕ) (after : Effect) : Type 0 where
  pub rises : failures_before ≤ failures_after
  pub works : failures_after ≡ failures_before → after ≡ effect protected disk order bytes
  pub fails : failures_before < failures_after
      → StoreFailureLeaves (guarded protected order.deed (plan_of order disk.count)) disk order bytes after

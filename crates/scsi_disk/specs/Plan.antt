-- What an order leads to: the first reason to refuse it, else the bytes that it takes or gives.
-- The commands are those of SPC-4 and SBC-3; the order of the reasons and the choice of each sense
-- are own rules.
use Rattle.std.specs.Prelude.{ℕ, ◌+◌, ◌-◌, ◌*◌, Bool, true, false, not, ◌==◌, ◌&&◌, ◌||◌, nat_lt, bit_and, min, if◌then◌else◌, List, [], ◌∷◌, length, take, Option, Some, None, option_map, is_none, unwrap_or}
use Rattle.scsi_cdb.specs.ParameterData.{plain_inquiry_data, vpd, capacity10_of, capacity16_of, luns}
use Rattle.scsi_cdb.specs.declared.cdb.Cdb.{Cdb}
use Rattle.scsi_cdb.specs.declared.cdb.Cdb.TheVariants.{Inquiry, Capacity10, Read10, Write10, SyncCache10, Read16, Write16, Capacity16, ReportLuns, Unknown}
use Rattle.scsi_cdb.specs.declared.sense.Sense.{Sense}
use Rattle.scsi_cdb.specs.declared.sense.Sense.TheVariants.{InvalidCode, OutOfRange, InvalidField, NoUnit}
use Rattle.scsi_disk.specs.declared.order.Order.{Order}
use Rattle.scsi_disk.specs.declared.order.Plan.{Plan}
use Rattle.scsi_disk.specs.declared.order.Plan.TheVariants.{Refuse, Take, Give}
use Rattle.scsi_disk.specs.declared.command.transfer.Transfer.{Transfer}
use Rattle.scsi_disk.specs.Deed.{is_twofold, taken_by}

-- ---- commands

-- a block of no known command
abbrev pub is_unknown : Cdb → Bool
is_unknown (Unknown _) = true
is_unknown _ = false

-- WRITE(10) or WRITE(16)
abbrev pub is_write : Cdb → Bool
is_write (Write10 _) = true
is_write (Write16 _) = true
is_write _ = false

-- READ(10) or READ(16)
abbrev pub is_read : Cdb → Bool
is_read (Read10 _) = true
is_read (Read16 _) = true
is_read _ = false

-- an INQUIRY for the standard data
abbrev pub is_standard_inquiry : Cdb → Bool
is_standard_inquiry (Inquiry evpd page allocation_length control) = not evpd
is_standard_inquiry _ = false

-- the blocks that a READ or a WRITE names, with its options, and none of another command
abbrev pub named_transfer : Cdb → Transfer
named_transfer (Read10 t) = record {
  first = t.logical_block_address;
  count = t.blocks;
  options = t.options;
}
named_transfer (Write10 t) = record {
  first = t.logical_block_address;
  count = t.blocks;
  options = t.options;
}
named_transfer (Read16 t) = record {
  first = t.logical_block_address;
  count = t.blocks;
  options = t.options;
}
named_transfer (Write16 t) = record {
  first = t.logical_block_address;
  count = t.blocks;
  options = t.options;
}
named_transfer _ = record { first = 0; count = 0; options = 0 }

-- the blocks that a SYNCHRONIZE CACHE names, and none of another command; no blocks are those up to
-- the last one
abbrev pub synchronized : Cdb → Transfer
synchronized (SyncCache10 s) = record {
  first = s.logical_block_address;
  count = s.blocks;
  options = s.options;
}
synchronized _ = record { first = 0; count = 0; options = 0 }

-- The data that a command other than a READ gives, cut at its allocation length, where the unit is
-- there or not and this is the last block. None for a page or a report that there is not.
abbrev pub cut_parameter_data : Bool → ℕ → Cdb → Option (List ℕ)
cut_parameter_data present last (Inquiry true page allocation_length control) =
    option_map (take allocation_length) (vpd page)
cut_parameter_data present last (Inquiry false page allocation_length control) =
    if page == 0 then Some (take allocation_length (plain_inquiry_data present)) else None
cut_parameter_data present last (Capacity10 control) = Some (capacity10_of last)
cut_parameter_data present last (Capacity16 allocation_length control) =
    Some (take allocation_length (capacity16_of last))
cut_parameter_data present last (ReportLuns select allocation_length control) =
    option_map (take allocation_length) (luns select)
cut_parameter_data present last _ = Some []

-- the data that an order other than a READ gives, on a disk of n blocks; only unit 0 is there
abbrev pub parameter_data : Order → ℕ → Option (List ℕ)
parameter_data order blocks = cut_parameter_data (order.lun == 0) (blocks - 1) order.cdb

-- how many bytes a command that takes data takes, which is a WRITE in the table of blocks
abbrev pub taken_length : Order → ℕ
taken_length order = taken_by order.deed (named_transfer order.cdb).count

-- ---- refusals

-- The reasons to refuse an order on a disk of n blocks, in their order. The command is unknown, or
-- the unit is not 0, but for the standard INQUIRY data. Data go both ways, or to a command that
-- takes none. The command asks for protection (RDPROTECT or WRPROTECT), or for a page or a report
-- that there is not. It names over 8,192 blocks, or over one where it takes the data of each twice, or
-- blocks past the end. A WRITE expects other than what it takes, or sends none of it. A SYNCHRONIZE
-- CACHE names blocks past the end.
abbrev pub refusals : Order → ℕ → List (Bool × Sense)
refusals order blocks =
    let named = named_transfer order.cdb in
    let flushed = synchronized order.cdb in
    (is_unknown order.cdb, InvalidCode)
    ∷ (not (order.lun == 0) && not (is_standard_inquiry order.cdb), NoUnit)
    ∷ (order.read && order.write, InvalidField)
    ∷ (order.write && not (is_write order.cdb), InvalidField)
    ∷ (not (bit_and named.options 0xe0 == 0), InvalidField)
    ∷ (is_none (parameter_data order blocks), InvalidField)
    ∷ (nat_lt 8192 named.count, InvalidField)
    ∷ (is_twofold order.deed && nat_lt 1 named.count, InvalidField)
    ∷ (nat_lt blocks (named.first + named.count), OutOfRange)
    ∷ (is_write order.cdb && not (order.expected == taken_length order), InvalidField)
    ∷ (is_write order.cdb && not order.write && nat_lt 0 (taken_length order), InvalidField)
    ∷ (nat_lt blocks (flushed.first + flushed.count), OutOfRange)
    ∷ []

-- the first reason that holds
abbrev pub first_reason : {A : Type 0} → List (Bool × A) → Option A
first_reason [] = None
first_reason (row ∷ rows) = if row.0 then Some row.1 else first_reason rows

-- the first reason to refuse an order
abbrev pub first_refusal : Order → ℕ → Option Sense
first_refusal order blocks = first_reason (refusals order blocks)

-- ---- lengths, in bytes

-- What the initiator expects: nothing, where it names no direction, or only data that the command
-- does not take. An unknown command may have either.
abbrev pub expected_length : Order → ℕ
expected_length order =
    if order.read || (order.write && (is_write order.cdb || is_unknown order.cdb))
    then order.expected
    else 0

-- what a command that gives data would give to an initiator that expects enough
abbrev pub wanted_length : Order → ℕ → ℕ
wanted_length order blocks =
    if is_read order.cdb then 512 * (named_transfer order.cdb).count
    else length (unwrap_or (parameter_data order blocks) [])

-- the plan, by the first reason to refuse
abbrev pub plan_by : Option Sense → Order → ℕ → Plan
plan_by (Some sense) order blocks = Refuse sense
plan_by None order blocks =
    if is_write order.cdb then Take (taken_length order)
    else Give (min (wanted_length order blocks) (expected_length order))

-- what an order leads to, on a disk of n blocks
abbrev pub plan_of : Order → ℕ → Plan
plan_of order blocks = plan_by (first_refusal order blocks) order blocks

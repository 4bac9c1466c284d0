-- What a unit answers of itself, whatever its blocks hold (SPC-4; the order of the reasons to refuse,
-- and the choice of each sense, are own rules).
use Rattle.std.specs.Prelude.{ℕ, ◌+◌, ◌-◌, Bool, true, false, not, ◌==◌, ◌&&◌, ◌||◌, nat_lt, bit_and, min, if◌then◌else◌, List, [], ◌∷◌, ◌++◌, take, replicate, Option, Some, None, option_map, is_some, unwrap_or}
use Rattle.std.specs.Int.{to_be_bytes, w32, w64}
use Rattle.scsi_cdb.specs.Layout.{bits_at, is_set, number_at}
use Rattle.scsi_cdb.specs.Sense.{sense_bytes, triple_of}
use Rattle.scsi_cdb.specs.declared.cdb.Cdb.{Cdb}
use Rattle.scsi_cdb.specs.declared.cdb.Cdb.TheVariants.{Inquiry, Capacity16, Unknown}
use Rattle.scsi_cdb.specs.declared.sense.Sense.{Sense}
use Rattle.scsi_cdb.specs.declared.sense.Sense.TheVariants.{InvalidField, NoUnit, OutOfRange}
use Rattle.scsi_disk.specs.Effect.{check_condition, data_given}
use Rattle.scsi_disk.specs.Plan.{first_reason, is_standard_inquiry}
use Rattle.scsi_disk.specs.declared.order.Order.{Order}
use Rattle.scsi_disk.specs.declared.order.Outcome.{Outcome}
use Rattle.scsi_unit.specs.LogicalUnit.{LogicalUnit}
use Rattle.scsi_unit.specs.Modes.{asked_page, mode_pages, behind_short_header, behind_long_header}
use Rattle.scsi_unit.specs.Pages.{standard_inquiry, thin_capacity, vital_page}
use Rattle.scsi_unit.specs.Spellings.{loads}
use Rattle.scsi_unit.specs.Supported.{commands_told}
use Rattle.scsi_unit.specs.WriteSame.{same_blocks}

-- NO SENSE, which REQUEST SENSE gives, since each sense went with its response (SPC-4, section 6.39):
-- in descriptor format or in fixed format.
abbrev pub no_sense : Bool → List ℕ
no_sense true = 0x72 ∷ replicate 7 0
no_sense false = 0x70 ∷ 0x00 ∷ 0x00 ∷ 0x00 ∷ 0x00 ∷ 0x00 ∷ 0x00 ∷ 0x0a ∷ replicate 10 0

-- LOGICAL UNIT NOT SUPPORTED, which it gives of a unit that is not there (SPC-4, section 6.39).
abbrev pub unit_sense : Bool → List ℕ
unit_sense true =
    0x72 ∷ (triple_of NoUnit).0 ∷ (triple_of NoUnit).1 ∷ (triple_of NoUnit).2 ∷ replicate 4 0
unit_sense false = sense_bytes NoUnit

-- The data of REQUEST SENSE, where the unit is there or not.
abbrev pub requested_sense : Bool → Bool → List ℕ
requested_sense present descriptor =
    if present then no_sense descriptor else unit_sense descriptor

-- The data of INQUIRY, where the unit is there or not; None where there is no such page.
abbrev pub inquiry_data : LogicalUnit → Bool → Bool → ℕ → Option (List ℕ)
inquiry_data unit present true page = vital_page unit page
inquiry_data unit present false page =
    if page == 0x00 then Some (standard_inquiry present) else None

-- The block is one of REPORT SUPPORTED OPERATION CODES, a service action of MAINTENANCE IN.
abbrev pub asks_commands : List ℕ → Bool
asks_commands block = (number_at 0 0 block == 0xa3) && (bits_at 1 0x1f block == 0x0c)

-- The block is one of GET LBA STATUS, another service action of the code of READ CAPACITY(16).
abbrev pub asks_mapping : List ℕ → Bool
asks_mapping block = (number_at 0 0 block == 0x9e) && (bits_at 1 0x1f block == 0x12)

-- The data of GET LBA STATUS from this block on, of a unit of n blocks (SBC-3, section 5.6): all blocks up
-- to the last one are mapped.
abbrev pub all_mapped : ℕ → ℕ → List ℕ
all_mapped blocks first =
    0x00 ∷ 0x00 ∷ 0x00 ∷ 0x14 ∷ replicate 4 0
    ++ to_be_bytes w64 first ++ to_be_bytes w32 (min (blocks - first) 0xffffffff) ++ replicate 4 0

-- A VERIFY that is sent no bytes has no data. It is refused where it asks for protection (VRPROTECT), or to
-- be sent the bytes of one block for all (BYTCHK).
abbrev pub verify_data : List ℕ → Option (List ℕ)
verify_data block = if bit_and (number_at 1 1 block) 0xe6 == 0 then Some [] else None

-- The data of a command, by its code and block, which has no record of its own in the table of blocks:
-- REQUEST SENSE, MODE SENSE(6) or (10), START STOP UNIT, PREFETCH or VERIFY, which have none, REPORT SUPPORTED
-- OPERATION CODES, or of a thin unit of n blocks GET LBA STATUS. None for another block; Some None where
-- there is no such page or option, where a medium is to be loaded, and for an UNMAP or a WRITE SAME that a
-- thin unit doesn't take.
unfoldable pub unit_block_data : LogicalUnit → Bool → ℕ → ℕ → List ℕ → Option (Option (List ℕ))
unit_block_data unit present blocks code block =
    if code == 0x03
    then Some (Some (take (number_at 4 4 block) (requested_sense present (is_set 1 0x01 block))))
    else (if code == 0x1a
    then Some (option_map (λ pages. take (number_at 4 4 block) (behind_short_header unit pages))
    (mode_pages unit (asked_page block)))
    else (if code == 0x5a
    then Some (option_map (λ pages. take (number_at 7 8 block) (behind_long_header unit pages))
    (mode_pages unit (asked_page block)))
    else (if code == 0x1b then Some (if loads block then None else Some [])
    else (if code == 0x34 then Some (Some [])
    else (if code == 0x90 then Some (Some [])
    else (if code == 0x2f then Some (verify_data block)
    else (if code == 0xaf then Some (verify_data block)
    else (if code == 0x8f then Some (verify_data block)
    else (if asks_commands block
    then Some (option_map (take (number_at 6 9 block)) (commands_told unit.thin block))
    else (if not unit.thin then None
    else (if asks_mapping block
    then Some (Some (take (number_at 10 13 block) (all_mapped blocks (number_at 2 9 block))))
    else (if code == 0x42 then Some None
    else (if is_some (same_blocks block) then Some None
    else None)))))))))))))

-- The data of READ CAPACITY(16), of a thin unit; another one leaves it to its disk.
abbrev pub capacity_told : LogicalUnit → ℕ → ℕ → Option (Option (List ℕ))
capacity_told unit blocks allocation_length =
    if unit.thin then Some (Some (take allocation_length (thin_capacity (blocks - 1)))) else None

-- The data of a command that the unit answers of itself, cut at the allocation length, where the unit
-- is there or not and has n blocks. None for another command; Some None where there is no such page.
abbrev pub data_told : LogicalUnit → Bool → ℕ → Cdb → Option (Option (List ℕ))
data_told unit present blocks (Inquiry evpd page allocation_length control) =
    Some (option_map (take allocation_length) (inquiry_data unit present evpd page))
data_told unit present blocks (Capacity16 allocation_length control) =
    capacity_told unit blocks allocation_length
data_told unit present blocks (Unknown block) =
    unit_block_data unit present blocks (number_at 0 0 block) block
data_told unit present blocks _ = None

-- The end of the blocks that a PREFETCH, a VERIFY or a GET LBA STATUS names; 0 of another command (SBC-3).
abbrev pub block_reaches : ℕ → List ℕ → ℕ
block_reaches code block =
    if (code == 0x34) || (code == 0x2f) then number_at 2 5 block + number_at 7 8 block
    else if (code == 0x90) || (code == 0x8f) then number_at 2 9 block + number_at 10 13 block
    else if code == 0xaf then number_at 2 5 block + number_at 6 9 block
    else if asks_mapping block then number_at 2 9 block + 1
    else 0

abbrev pub reaches : Cdb → ℕ
reaches (Unknown block) = block_reaches (number_at 0 0 block) block
reaches _ = 0

-- The command is answered for any unit: the standard INQUIRY data, or REQUEST SENSE.
abbrev pub is_for_any_unit : Cdb → Bool
is_for_any_unit (Unknown block) = number_at 0 0 block == 0x03
is_for_any_unit cdb = is_standard_inquiry cdb

-- The reasons to refuse such a command to a unit of n blocks, in their order. The unit is not 0, but for a
-- command that is answered for any. The initiator sends data. The blocks that it names end past the last.
abbrev pub told_refusals : ℕ → Order → List (Bool × Sense)
told_refusals blocks order =
    (not (order.lun == 0) && not (is_for_any_unit order.cdb), NoUnit)
    ∷ (order.write, InvalidField)
    ∷ (nat_lt blocks (reaches order.cdb), OutOfRange)
    ∷ []

-- The outcome by the first reason to refuse the command.
abbrev pub outcome_or_refused : Option Sense → Order → List ℕ → Outcome
outcome_or_refused (Some sense) order bytes = check_condition order sense
outcome_or_refused None order bytes = data_given order bytes

-- The outcome of a command with these data, on a unit of n blocks; where there is no such page, it is
-- refused for that last.
abbrev pub told_outcome : ℕ → Order → Option (List ℕ) → Outcome
told_outcome blocks order None =
    check_condition order (unwrap_or (first_reason (told_refusals blocks order)) InvalidField)
told_outcome blocks order (Some bytes) =
    outcome_or_refused (first_reason (told_refusals blocks order)) order bytes

-- What a unit of n blocks answers of itself to an order, if it does.
abbrev pub unit_outcome : LogicalUnit → ℕ → Order → Option Outcome
unit_outcome unit blocks order =
    option_map (told_outcome blocks order) (data_told unit (order.lun == 0) blocks order.cdb)

-- The outcome of an order to a disk of n blocks that tells more of itself, or to one that doesn't: what the unit
-- answers of itself takes the place of the outcome that the order has.
abbrev pub outcome_with_unit : Option LogicalUnit → ℕ → Order → Outcome → Outcome
outcome_with_unit None blocks order outcome = outcome
outcome_with_unit (Some unit) blocks order outcome =
    unwrap_or (unit_outcome unit blocks order) outcome

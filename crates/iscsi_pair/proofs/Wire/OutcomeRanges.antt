-- The numbers of an outcome have room in its response.
use Rattle.std.specs.Prelude.{◌≡◌, ◌-◌, ◌*◌, ◌^◌, ◌<◌, ◌≤◌, bit_and, nat_lt, not, ◌==◌, ◌||◌, ◌&&◌, if◌then◌else◌, IfSome, is_some, unwrap_or}
use Rattle.std.specs.Option.{option_map}
use Rattle.std.proofs.Common.{ℕ, Bool, true, false, List, [], ◌++◌, length, take, Option, Some, None, refl, subst, arith}
use Rattle.std.proofs.lemmas.Bool.{cond_both}
use Rattle.std.proofs.lemmas.List.{length-take}
use Rattle.scsi_cdb.specs.Blocks.{cdb_rows, record_of}
use Rattle.scsi_cdb.specs.Layout.{HaveRoom, is_set, number_at}
use Rattle.scsi_cdb.specs.ParameterData.{plain_inquiry_data, vpd, capacity16_of, luns}
use Rattle.scsi_cdb.specs.declared.cdb.Cdb.{Cdb}
use Rattle.scsi_cdb.specs.declared.cdb.Cdb.TheVariants.{Inquiry, Capacity16, ReportLuns, Unknown}
use Rattle.scsi_cdb.specs.declared.cdb.Transfer16.{Transfer16}
use Rattle.scsi_cdb.specs.declared.sense.Sense.{Sense}
use Rattle.scsi_cdb.specs.declared.residual.Residual.{Residual}
use Rattle.scsi_cdb.specs.declared.residual.Residual.TheVariants.{Exact, Under, Over}
use Rattle.scsi_disk.specs.declared.order.Order.{Order}
use Rattle.scsi_disk.specs.declared.order.Outcome.{Outcome}
use Rattle.scsi_disk.specs.declared.order.Plan.{Plan}
use Rattle.scsi_disk.specs.declared.order.Plan.TheVariants.{Refuse, Take, Give}
use Rattle.scsi_disk.specs.Disk.{Disk}
use Rattle.scsi_disk.specs.Effect.{check_condition, deed_failure, effect, outcome_by, outcome_taken, residual_of}
use Rattle.scsi_disk.specs.Plan.{cut_parameter_data, expected_length, first_reason, is_read, is_unknown, is_write, parameter_data, plan_of, named_transfer, wanted_length}
use Rattle.scsi_cdb.proofs.RecordLemmas.{IsRecord-room, record_is}
use Rattle.scsi_disk.proofs.PlanLemmas.{given}
use Rattle.iscsi_target.proofs.Writes.WriteTilingLaws.{take_is}
use Rattle.scsi_unit.specs.LogicalUnit.{LogicalUnit}
use Rattle.scsi_unit.specs.Modes.{ModePage, asked_page, behind_long_header, behind_short_header, caching_page, control_page, is_enabled, mode_pages}
use Rattle.scsi_unit.proofs.LengthLemmas.{AreShort, commands_short}
use Rattle.scsi_unit.specs.Pages.{thin_capacity}
use Rattle.scsi_unit.specs.Spellings.{loads, spelled, spelled_block, stops}
use Rattle.scsi_unit.specs.Supported.{commands_told}
use Rattle.scsi_unit.specs.Telling.{all_mapped, asks_commands, asks_mapping, data_told, inquiry_data, outcome_or_refused, requested_sense, told_outcome, told_refusals, unit_block_data}
use Rattle.scsi_unit.specs.Deeds.{Taken, as_write, meant_cdb, taken_for}
use Rattle.scsi_unit.specs.WriteSame.{same_blocks}
use Rattle.iscsi_pdu.specs.Meaning.{AreBytes}
use Rattle.iscsi_target.specs.Execution.{residual_count}
use Rattle.iscsi_pair.proofs.Wire.ToldOutcomes.{by_unit, told}

-- the numbers of the response have room
pub record HasRoom (outcome : Outcome) : Type 0 where
  pub status : outcome.status < 256
  pub residual : IfSome (residual_count outcome.residual) (λ n. n < 2 ^ 32)

-- the longest data that are no blocks, the standard INQUIRY data, have 36 bytes
abbrev IsFew : Option (List ℕ) → Type 0
IsFew found = IfSome found (λ bytes. length bytes ≤ 36)

-- a front of few bytes is few
few_of : (n : ℕ) (found : Option (List ℕ)) → IsFew found → IsFew (option_map (take n) found)
few_of n None f = f
few_of n (Some bytes) f = omega (arith, f, length-take n bytes)

-- a page, a report and the standard data are few
few_vpd : (page : ℕ) → IsFew (vpd page)
few_vpd page =
    cond_both (page == 0x00) _ _ IsFew (λ e. omega arith) (λ e.
    cond_both (page == 0x80) _ _ IsFew (λ e. omega arith) (λ e.
    cond_both (page == 0x83) _ _ IsFew (λ e. omega arith) (λ e. tt)))

few_luns : (select : ℕ) → IsFew (luns select)
few_luns select =
    cond_both (select == 0x00 || select == 0x02) _ _ IsFew (λ e. omega arith) (λ e.
    cond_both (select == 0x01) _ _ IsFew (λ e. omega arith) (λ e. tt))

few_inquiry : (present : Bool) → length (plain_inquiry_data present) ≤ 36
few_inquiry true = omega arith
few_inquiry false = omega arith

-- a command other than a READ gives few bytes
few_data : (present : Bool) (last : ℕ) (cdb : Cdb) → IsFew (cut_parameter_data present last cdb)
few_data present last (Inquiry true page n control) = few_of n (vpd page) (few_vpd page)
few_data present last (Inquiry false page n control) = cond_both (page == 0) (Some (take n (plain_inquiry_data present))) None IsFew
    (λ e. omega (arith, few_inquiry present, length-take n (plain_inquiry_data present))) (λ e. tt)
few_data present last (Capacity16 n control) = (let all : length (capacity16_of last) ≡ 32 = refl in omega (arith, all, length-take n (capacity16_of last)))
few_data present last (ReportLuns select n control) = few_of n (luns select) (few_luns select)
few_data present last _ = omega arith

few_bytes : (found : Option (List ℕ)) → IsFew found → length (unwrap_or found []) ≤ 36
few_bytes None f = omega arith
few_bytes (Some bytes) f = f

-- an order for at most 8,192 blocks wants at most their bytes
wanted_most : (order : Order) (blocks : ℕ) → (named_transfer order.cdb).count ≤ 8192 → wanted_length order blocks ≤ 4194304
wanted_most order blocks few =
    let other : length (unwrap_or (parameter_data order blocks) []) ≤ 36 =
    few_bytes (parameter_data order blocks) (few_data (order.lun == 0) (blocks - 1) order.cdb) in
    cond_both (is_read order.cdb) (512 * (named_transfer order.cdb).count) (length (unwrap_or (parameter_data order blocks) [])) (λ n. n ≤ 4194304)
    (λ e. omega (arith, few)) (λ e. omega (arith, other))

expected_most : (order : Order) → order.expected ≤ 4194304 → expected_length order ≤ 4194304
expected_most order few = cond_both (order.read || (order.write && (is_write order.cdb || is_unknown order.cdb))) order.expected 0 (λ n. n ≤ 4194304) (λ e. few)
    (λ e. omega arith)

-- a residual is at most the greater of its two numbers
residual_fits : (wanted expected : ℕ) → wanted ≤ 4194304 → expected ≤ 4194304 → IfSome (residual_count (residual_of wanted expected)) (λ n. n < 2 ^ 32)
residual_fits wanted expected w e =
    cond_both (nat_lt wanted expected) (Under (expected - wanted)) _ (λ (r : Residual). IfSome (residual_count r) (λ n. n < 2 ^ 32)) (λ h. omega (arith, e))
    (λ h.
    cond_both (nat_lt expected wanted) (Over (wanted - expected)) Exact (λ (r : Residual). IfSome (residual_count r) (λ n. n < 2 ^ 32)) (λ h. omega (arith, w))
    (λ h. tt))

-- by its plan
failed_fits : (order : Order) (sense : Sense) → order.expected ≤ 4194304 → HasRoom (check_condition order sense)
failed_fits order sense few = record {
  status = omega arith;
  residual = residual_fits 0 (expected_length order) (omega arith) (expected_most order few);
}

taken_fits : (reason : Option Sense) (order : Order) (n : ℕ) → n ≤ 4194304 → order.expected ≤ 4194304 → HasRoom (outcome_taken reason order n)
taken_fits None order n size few = record {
  status = omega arith;
  residual = residual_fits n (expected_length order) size (expected_most order few);
}
taken_fits (Some sense) order n size few = failed_fits order sense few

fits_by : (p : Plan) (disk : Disk) (order : Order) (bytes : List ℕ) → plan_of order disk.count ≡ p → order.expected ≤ 4194304
    → HasRoom (outcome_by p disk order bytes)
fits_by (Refuse sense) disk order bytes e few = failed_fits order sense few
fits_by (Take n) disk order bytes e few =
    taken_fits (deed_failure disk order bytes) order n (omega (arith, take_is order disk.count n e, few)) few
fits_by (Give n) disk order bytes e few =
    let facts = given order disk.count n e in
    record {
      status = omega arith;
      residual = residual_fits (wanted_length order disk.count) (expected_length order) (wanted_most order disk.count facts.names.few)
          (expected_most order few);
    }

-- ---- what a unit tells of itself

-- an INQUIRY, the answer to which may be long, has an allocation length of two bytes
abbrev pub IsShort : Cdb → Type 0
IsShort (Inquiry evpd page n control) = n < 65536
IsShort _ = Unit {0}

short_rows : (cdb : Cdb) → HaveRoom (cdb_rows cdb) → IsShort cdb
short_rows (Inquiry evpd page n control) room = room.1.1.1.0.1
short_rows _ room = tt

short_write : (taken : Option Taken) (cdb : Cdb) → IsShort cdb → IsShort (as_write taken cdb)
short_write None cdb short = short
short_write (Some taken) cdb short = tt

-- what a block spells in another way is no INQUIRY
short_spelled : (code : ℕ) (block : List ℕ) → IsShort (spelled_block code block)
unfolding spelled_block
short_spelled code block =
    cond_both (code == 0x08) _ _ IsShort (λ e. tt) (λ e.
    cond_both (code == 0x0a) _ _ IsShort (λ e. tt) (λ e.
    cond_both (code == 0xa8) _ _ IsShort (λ e. tt) (λ e.
    cond_both (code == 0xaa) _ _ IsShort (λ e. tt) (λ e.
    cond_both (code == 0x2e) _ _ IsShort (λ e. tt) (λ e.
    cond_both (code == 0xae) _ _ IsShort (λ e. tt) (λ e.
    cond_both (code == 0x8e) _ _ IsShort (λ e. tt) (λ e.
    cond_both (code == 0x91) _ _ IsShort (λ e. tt) (λ e.
    cond_both (code == 0x1b && stops block) _ _ IsShort (λ e. tt) (λ e. tt)))))))))

spelled_short : (unit : Option LogicalUnit) (cdb : Cdb) → IsShort cdb → IsShort (spelled unit cdb)
spelled_short None cdb short = short
spelled_short (Some unit) (Inquiry evpd page n control) short = short
spelled_short (Some unit) (Unknown block) short = short_spelled (number_at 0 0 block) block
spelled_short (Some unit) _ short = tt

-- so a block of bytes has, whatever it means to a unit
pub short_block : (unit : Option LogicalUnit) (block : List ℕ) → length block ≡ 16 → AreBytes block
    → IsShort (meant_cdb unit (record_of block))
short_block unit block size are =
    short_write (taken_for unit (record_of block)) (spelled unit (record_of block))
    (spelled_short unit (record_of block)
    (short_rows (record_of block) (IsRecord-room block (record_of block) are (record_is block size))))

-- data that are told, if there are any, have fewer than 65,536 bytes
abbrev AreBelow : Option (List ℕ) → Type 0
AreBelow found = IfSome found (λ bytes. length bytes ≤ 65535)

abbrev AreTold : Option (Option (List ℕ)) → Type 0
AreTold found = IfSome found AreBelow

below_of : (n : ℕ) (found : Option (List ℕ)) → n < 65536 → AreBelow (option_map (take n) found)
below_of n None room = tt
below_of n (Some bytes) room = omega (arith, room, length-take n bytes)

abbrev AreFewPages : Option (List ℕ) → Type 0
AreFewPages found = IfSome found (λ pages. length pages ≤ 32)

caching_size : (enabled : Bool) → length (caching_page enabled) ≡ 20
caching_size true = refl
caching_size false = refl

all_size : (enabled : Bool) → length (caching_page enabled ++ control_page) ≡ 32
all_size true = refl
all_size false = refl

few_pages : (unit : LogicalUnit) (asked : ModePage) → AreFewPages (mode_pages unit asked)
few_pages unit asked =
    cond_both (asked.values == 3) _ _ AreFewPages (λ e. tt) (λ e.
    cond_both (asked.page == 0x08 && asked.subpage == 0x00) _ _ AreFewPages (λ e. omega (arith, caching_size (is_enabled unit asked))) (λ e.
    cond_both (asked.page == 0x0a && asked.subpage == 0x00) _ _ AreFewPages (λ e. omega arith) (λ e.
    cond_both (asked.page == 0x3f && (asked.subpage == 0x00 || asked.subpage == 0xff)) _ _ AreFewPages
    (λ e. omega (arith, all_size (is_enabled unit asked))) (λ e. tt))))

short_pages : (n : ℕ) (unit : LogicalUnit) (found : Option (List ℕ)) → AreFewPages found
    → AreBelow (option_map (λ pages. take n (behind_short_header unit pages)) found)
short_pages n unit None few = tt
short_pages n unit (Some pages) few = omega (arith, few, length-take n (behind_short_header unit pages))

long_pages : (n : ℕ) (unit : LogicalUnit) (found : Option (List ℕ)) → AreFewPages found
    → AreBelow (option_map (λ pages. take n (behind_long_header unit pages)) found)
long_pages n unit None few = tt
long_pages n unit (Some pages) few = omega (arith, few, length-take n (behind_long_header unit pages))

few_sense : (present descriptor : Bool) → length (requested_sense present descriptor) ≤ 18
few_sense true true = omega arith
few_sense true false = omega arith
few_sense false true = omega arith
few_sense false false = omega arith

-- a START STOP UNIT gives nothing
few_stop : (loaded : Bool) → AreBelow (if loaded then None else Some [])
few_stop true = tt
few_stop false = omega arith

few_commands : (n : ℕ) (told : Option (List ℕ)) → AreShort told → AreBelow (option_map (take n) told)
few_commands n None short = tt
few_commands n (Some bytes) short = omega (arith, short, length-take n bytes)

-- a VERIFY gives nothing
few_verified : (plain : Bool) → AreBelow (if plain then Some [] else None)
few_verified true = omega arith
few_verified false = tt

mapped_size : (blocks first : ℕ) → length (all_mapped blocks first) ≡ 24
mapped_size blocks first = refl

few_block : (unit : LogicalUnit) (present : Bool) (blocks code : ℕ) (block : List ℕ) → AreTold (unit_block_data unit present blocks code block)
unfolding unit_block_data
few_block unit present blocks code block =
    cond_both (code == 0x03) _ _ AreTold
    (λ e. omega (arith, few_sense present (is_set 1 0x01 block), length-take (number_at 4 4 block) (requested_sense present (is_set 1 0x01 block)))) (λ e.
    cond_both (code == 0x1a) _ _ AreTold
    (λ e. short_pages (number_at 4 4 block) unit (mode_pages unit (asked_page block)) (few_pages unit (asked_page block))) (λ e.
    cond_both (code == 0x5a) _ _ AreTold
    (λ e. long_pages (number_at 7 8 block) unit (mode_pages unit (asked_page block)) (few_pages unit (asked_page block))) (λ e.
    cond_both (code == 0x1b) _ _ AreTold (λ e. few_stop (loads block)) (λ e.
    cond_both (code == 0x34) _ _ AreTold (λ e. omega arith) (λ e.
    cond_both (code == 0x90) _ _ AreTold (λ e. omega arith) (λ e.
    cond_both (code == 0x2f) _ _ AreTold (λ e. few_verified (bit_and (number_at 1 1 block) 0xe6 == 0)) (λ e.
    cond_both (code == 0xaf) _ _ AreTold (λ e. few_verified (bit_and (number_at 1 1 block) 0xe6 == 0)) (λ e.
    cond_both (code == 0x8f) _ _ AreTold (λ e. few_verified (bit_and (number_at 1 1 block) 0xe6 == 0)) (λ e.
    cond_both (asks_commands block) _ _ AreTold
    (λ e. few_commands (number_at 6 9 block) (commands_told unit.thin block) (commands_short unit.thin block)) (λ e.
    cond_both (not unit.thin) _ _ AreTold (λ e. tt) (λ e.
    cond_both (asks_mapping block) _ _ AreTold
    (λ e. omega (arith, mapped_size blocks (number_at 2 9 block), length-take (number_at 10 13 block) (all_mapped blocks (number_at 2 9 block)))) (λ e.
    cond_both (code == 0x42) _ _ AreTold (λ e. tt) (λ e.
    cond_both (is_some (same_blocks block)) _ _ AreTold (λ e. tt) (λ e. tt))))))))))))))

few_told : (unit : LogicalUnit) (present : Bool) (blocks : ℕ) (cdb : Cdb) → IsShort cdb → AreTold (data_told unit present blocks cdb)
few_told unit present blocks (Inquiry evpd page n control) short = below_of n (inquiry_data unit present evpd page) short
few_told unit present blocks (Capacity16 n control) short =
    (let all : length (thin_capacity (blocks - 1)) ≡ 32 = refl in
    cond_both unit.thin _ _ AreTold (λ e. omega (arith, all, length-take n (thin_capacity (blocks - 1)))) (λ e. tt))
few_told unit present blocks (Unknown block) short = few_block unit present blocks (number_at 0 0 block) block
few_told unit present blocks _ short = tt

refused_fits : (order : Order) (sense : Sense) → order.expected ≤ 4194304 → HasRoom (outcome_or_refused (Some sense) order [])
refused_fits order sense few = record {
  status = omega arith;
  residual = residual_fits 0 (expected_length order) (omega arith) (expected_most order few);
}

answer_fits : (f : Option Sense) (order : Order) (bytes : List ℕ) → order.expected ≤ 4194304 → length bytes ≤ 65535
    → HasRoom (outcome_or_refused f order bytes)
answer_fits (Some sense) order bytes few size = refused_fits order sense few
answer_fits None order bytes few size = record {
  status = omega arith;
  residual = residual_fits (length bytes) (expected_length order) (omega (arith, size)) (expected_most order few);
}

told_fits : (blocks : ℕ) (order : Order) (f : Option (List ℕ)) → order.expected ≤ 4194304 → AreBelow f → HasRoom (told_outcome blocks order f)
told_fits blocks order None few size = record {
  status = omega arith;
  residual = residual_fits 0 (expected_length order) (omega arith) (expected_most order few);
}
told_fits blocks order (Some bytes) few size = answer_fits (first_reason (told_refusals blocks order)) order bytes few size

-- what an order that expects so few bytes answers has room
pub outcome_fits : (unit : Option LogicalUnit) (disk : Disk) (order : Order) (bytes : List ℕ) → order.expected ≤ 4194304 → IsShort order.cdb
    → HasRoom (told unit disk order bytes).outcome
outcome_fits unit disk order bytes few short =
    by_unit HasRoom unit disk.count order (effect false disk order bytes).outcome (fits_by (plan_of order disk.count) disk order bytes refl few)
    (λ u f e. told_fits disk.count order f few (subst AreTold e (few_told u (order.lun == 0) disk.count order.cdb short)))

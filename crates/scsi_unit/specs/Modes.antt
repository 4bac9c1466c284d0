-- The data of MODE SENSE (SPC-4, sections 6.11, 6.12, 7.5.5 and 7.5.8; SBC-3, section 6.4.5).
use Rattle.std.specs.Prelude.{ℕ, ◌+◌, Bool, not, ◌==◌, ◌&&◌, ◌||◌, if◌then◌else◌, List, ◌∷◌, ◌++◌, length, replicate, Option, Some, None}
use Rattle.scsi_cdb.specs.Layout.{bits_at, number_at}
use Rattle.scsi_unit.specs.LogicalUnit.{LogicalUnit}

-- Which page is asked for, and which of its values.
pub record ModePage : Type 0 where
  pub values : ℕ
  pub page : ℕ
  pub subpage : ℕ

-- The page that a block of MODE SENSE(6) or (10) asks for.
abbrev pub asked_page : List ℕ → ModePage
asked_page block = record {
  values = bits_at 2 0xc0 block;
  page = bits_at 2 0x3f block;
  subpage = number_at 3 3 block;
}

-- The caching page, where WCE is set or not: it is set where there is a write cache, and else a write
-- lasts before it is answered (SBC-3, section 6.4.5).
abbrev pub caching_page : Bool → List ℕ
caching_page enabled = 0x08 ∷ 0x12 ∷ (if enabled then 0x04 else 0x00) ∷ replicate 17 0

-- The control page (SPC-4, section 7.5.8).
abbrev pub control_page : List ℕ
control_page = 0x0a ∷ 0x0a ∷ replicate 10 0

-- WCE is set in the values that are asked for: in current and default ones of a unit that has a write
-- cache, and not in changeable ones (1), since no command changes it.
abbrev pub is_enabled : LogicalUnit → ModePage → Bool
is_enabled unit asked = unit.write_back && not (asked.values == 1)

-- The pages that are asked for, or None where there are none. But for WCE, all current, changeable
-- and default values are 0; there are no saved ones (3).
abbrev pub mode_pages : LogicalUnit → ModePage → Option (List ℕ)
mode_pages unit asked =
    if asked.values == 3 then None
    else if asked.page == 0x08 && asked.subpage == 0x00
    then Some (caching_page (is_enabled unit asked))
    else if asked.page == 0x0a && asked.subpage == 0x00 then Some control_page
    else if asked.page == 0x3f && (asked.subpage == 0x00 || asked.subpage == 0xff)
    then Some (caching_page (is_enabled unit asked) ++ control_page)
    else None

-- The device-specific byte: WP, that the unit takes no write, and DPOFUA, that it takes the bits DPO
-- and FUA (SBC-3, section 6.4.1). It always does: what a command with FUA writes lasts before the answer.
abbrev pub device_specific : LogicalUnit → ℕ
device_specific unit = if unit.write_protected then 0x90 else 0x10

-- The pages behind the header of MODE SENSE(6), with no block descriptor (SPC-4, section 7.5.4).
abbrev pub behind_short_header : LogicalUnit → List ℕ → List ℕ
behind_short_header unit pages =
    (length pages + 3) ∷ 0x00 ∷ device_specific unit ∷ 0x00 ∷ pages

-- The pages behind the header of MODE SENSE(10), with no block descriptor (SPC-4, section 7.5.4).
abbrev pub behind_long_header : LogicalUnit → List ℕ → List ℕ
behind_long_header unit pages =
    0x00 ∷ (length pages + 6) ∷ 0x00 ∷ device_specific unit ∷ 0x00 ∷ 0x00 ∷ 0x00 ∷ 0x00 ∷ pages

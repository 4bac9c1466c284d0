-- The data of INQUIRY (SPC-4, sections 6.6 and 7.8; SBC-3, section 6.5). Vendor and product are own rules.
use Rattle.std.specs.Prelude.{ℕ, Bool, true, false, ◌==◌, ◌&&◌, if◌then◌else◌, List, [], ◌∷◌, ◌++◌, length, replicate, Option, Some, None, codes}
use Rattle.std.specs.Int.{to_be_bytes, w16, w64}
use Rattle.scsi_unit.specs.Designators.{designators}
use Rattle.scsi_unit.specs.LogicalUnit.{LogicalUnit}

-- Standard INQUIRY data (SPC-4, section 6.6): a disk, or no unit, with the versions of the standards
-- behind the names: iSCSI, SPC-4 and SBC-3.
abbrev pub standard_inquiry : Bool → List ℕ
standard_inquiry present =
    (if present then 0x00 else 0x7f) ∷ 0x00 ∷ 0x06 ∷ 0x12 ∷ 0x5b ∷ 0x00 ∷ 0x00 ∷ 0x02
    ∷ codes "LANTHOVRISCSI DISK      0001" ++ replicate 22 0
    ++ 0x09 ∷ 0x60 ∷ 0x04 ∷ 0x60 ∷ 0x04 ∷ 0xc0 ∷ replicate 32 0

-- Which pages there are, of a thin unit or of another (SPC-4, section 7.8.13).
abbrev pub page_list : Bool → List ℕ
page_list false = 0x00 ∷ 0x00 ∷ 0x00 ∷ 0x05 ∷ 0x00 ∷ 0x80 ∷ 0x83 ∷ 0xb0 ∷ 0xb1 ∷ []
page_list true = 0x00 ∷ 0x00 ∷ 0x00 ∷ 0x06 ∷ 0x00 ∷ 0x80 ∷ 0x83 ∷ 0xb0 ∷ 0xb1 ∷ 0xb2 ∷ []

-- The serial number (SPC-4, section 7.8.14).
abbrev pub serial_page : List ℕ → List ℕ
serial_page serial = 0x00 ∷ 0x80 ∷ 0x00 ∷ length serial ∷ serial

-- The names of the unit (SPC-4, section 7.8.5).
abbrev pub name_page : List ℕ → List ℕ → List ℕ
name_page name serial =
    0x00 ∷ 0x83 ∷ to_be_bytes w16 (length (designators name serial)) ++ designators name serial

-- The limits of a transfer (SBC-3, section 6.5.3): at most 8,192 blocks, and one of a COMPARE AND WRITE. Of
-- a thin unit these are also the limits of a WRITE SAME, which names a block at least (WSNZ) and gives back
-- any number, and of an UNMAP, which has one range.
abbrev pub limits_page : Bool → List ℕ
limits_page false =
    0x00 ∷ 0xb0 ∷ 0x00 ∷ 0x3c ∷ 0x00 ∷ 0x01 ∷ 0x00 ∷ 0x00 ∷ 0x00 ∷ 0x00 ∷ 0x20 ∷ 0x00 ∷ replicate 52 0
limits_page true =
    0x00 ∷ 0xb0 ∷ 0x00 ∷ 0x3c ∷ 0x01 ∷ 0x01 ∷ 0x00 ∷ 0x00 ∷ 0x00 ∷ 0x00 ∷ 0x20 ∷ 0x00 ∷ replicate 8 0
    ++ 0x00 ∷ 0x00 ∷ 0x20 ∷ 0x00 ∷ 0x00 ∷ 0x00 ∷ 0x00 ∷ 0x01
    ∷ 0x00 ∷ 0x00 ∷ 0x00 ∷ 0x01 ∷ replicate 4 0
    ++ 0x00 ∷ 0x00 ∷ 0x00 ∷ 0x00 ∷ 0x00 ∷ 0x00 ∷ 0x20 ∷ 0x00 ∷ replicate 20 0

-- The kind of the medium (SBC-3, section 6.5.2): it doesn't rotate.
abbrev pub medium_page : List ℕ
medium_page = 0x00 ∷ 0xb1 ∷ 0x00 ∷ 0x3c ∷ 0x00 ∷ 0x01 ∷ replicate 58 0

-- How a thin unit gives blocks back (SBC-3, section 6.5.4): by UNMAP, and by WRITE SAME(16) and (10) with
-- the bit UNMAP. They read as zeros then.
abbrev pub provisioning_page : List ℕ
provisioning_page = 0x00 ∷ 0xb2 ∷ 0x00 ∷ 0x04 ∷ 0x00 ∷ 0xe4 ∷ 0x02 ∷ 0x00 ∷ []

-- READ CAPACITY(16) of a thin unit (SBC-3, section 5.16): the last block, the 512 bytes of a block, and
-- that blocks may be given back and then read as zeros (LBPME and LBPRZ).
abbrev pub thin_capacity : ℕ → List ℕ
thin_capacity last =
    to_be_bytes w64 last ++ 0x00 ∷ 0x00 ∷ 0x02 ∷ 0x00 ∷ 0x00 ∷ 0x00 ∷ 0xc0 ∷ replicate 17 0

-- A page of vital product data by its code.
abbrev pub vital_page : LogicalUnit → ℕ → Option (List ℕ)
vital_page unit page =
    if page == 0x00 then Some (page_list unit.thin)
    else if page == 0x80 then Some (serial_page unit.serial)
    else if page == 0x83 then Some (name_page unit.name unit.serial)
    else if page == 0xb0 then Some (limits_page unit.thin)
    else if page == 0xb1 then Some medium_page
    else if unit.thin && (page == 0xb2) then Some provisioning_page
    else None

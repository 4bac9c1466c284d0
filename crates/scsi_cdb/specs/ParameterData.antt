-- The data of INQUIRY, READ CAPACITY and REPORT LUNS (SPC-4, sections 6.6, 6.33 and 7.8; SBC-3,
-- sections 5.15 and 5.16).
use Rattle.std.specs.Prelude.{ℕ, Bool, if◌then◌else◌, ◌==◌, ◌||◌, min, List, [], ◌∷◌, ◌++◌, Option, Some, None, replicate, codes}
use Rattle.std.specs.Int.{to_be_bytes, w32, w64}

-- standard INQUIRY data (SPC-4, section 6.6): a disk, or no unit, and then the names, which are own
-- profile
abbrev pub plain_inquiry_data : Bool → List ℕ
plain_inquiry_data present =
    (if present then 0x00 else 0x7f) ∷ 0x00 ∷ 0x06 ∷ 0x12 ∷ 0x1f ∷ 0x00 ∷ 0x00 ∷ 0x02
    ∷ codes "VERIDISKISCSI DISK      0001"

-- pages of vital product data (SPC-4, section 7.8): the pages, the serial number, the name of the
-- unit; the names are own rules
abbrev pub vpd : ℕ → Option (List ℕ)
vpd page =
    if page == 0x00 then Some (0x00 ∷ 0x00 ∷ 0x00 ∷ 0x03 ∷ 0x00 ∷ 0x80 ∷ 0x83 ∷ [])
    else if page == 0x80 then Some (0x00 ∷ 0x80 ∷ 0x00 ∷ 0x08 ∷ codes "00000001")
    else if page == 0x83 then Some (0x00 ∷ 0x83 ∷ 0x00 ∷ 0x14 ∷ 0x02 ∷ 0x01 ∷ 0x00 ∷ 0x10
    ∷ codes "VERIDISK00000001")
    else None

-- READ CAPACITY(10) (SBC-3, section 5.15): the last block, or ffffffff where it is above that, and
-- the 512 bytes of a block
abbrev pub capacity10_of : ℕ → List ℕ
capacity10_of last = to_be_bytes w32 (min last 0xffffffff) ++ 0x00 ∷ 0x00 ∷ 0x02 ∷ 0x00 ∷ []

-- READ CAPACITY(16) (SBC-3, section 5.16): the last block, the 512 bytes of a block, and no
-- protection
abbrev pub capacity16_of : ℕ → List ℕ
capacity16_of last = to_be_bytes w64 last ++ 0x00 ∷ 0x00 ∷ 0x02 ∷ 0x00 ∷ replicate 20 0

-- REPORT LUNS (SPC-4, section 6.33): the length of the list, 4 reserved bytes, and unit 0 where it
-- is asked for
abbrev pub luns : ℕ → Option (List ℕ)
luns select =
    if select == 0x00 || select == 0x02 then Some (0x00 ∷ 0x00 ∷ 0x00 ∷ 0x08 ∷ replicate 12 0)
    else if select == 0x01 then Some (replicate 8 0)
    else None

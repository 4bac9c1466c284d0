-- The table of descriptor blocks (SPC-4, sections 6.6 and 6.33; SBC-3, sections 5.15 and 5.16 and
-- the READ, WRITE and SYNCHRONIZE CACHE commands).
-- Each record is a list of rows over the 16 bytes; bits of no row are free, and are written 0.
use Rattle.std.specs.Prelude.{◌≡◌, ℕ, Bool, false, ◌==◌, ◌&&◌, ◌||◌, if◌then◌else◌, List, [], ◌∷◌, length, replicate}
use Rattle.std.specs.List.{list_any}
use Rattle.scsi_cdb.specs.declared.cdb.Cdb.{Cdb}
use Rattle.scsi_cdb.specs.declared.cdb.Cdb.TheVariants.{TestUnitReady, Inquiry, Capacity10, Read10, Write10, SyncCache10, Read16, Write16, Capacity16, ReportLuns, Unknown}
use Rattle.scsi_cdb.specs.declared.cdb.Transfer10.{Transfer10}
use Rattle.scsi_cdb.specs.declared.cdb.Transfer16.{Transfer16}
use Rattle.scsi_cdb.specs.declared.cdb.Synchronize10.{Synchronize10}
use Rattle.scsi_cdb.specs.Layout.{Row, always, RowsHold, AreFilled, put_all, is_set, bits_at, number_at, part}
use Rattle.scsi_cdb.specs.Layout.Row.{bit, bits, bytes, raw}

-- the operation code of a command, byte 0 of its block (SPC-4 and SBC-3)
abbrev pub code_row : ℕ → Row
code_row n = bytes 0 0 (always n)

-- READ(10) and WRITE(10) (SBC-3), past their codes
abbrev pub transfer10 : Transfer10 → List Row
transfer10 t =
    bytes 1 1 (always t.options)
    ∷ bytes 2 5 (always t.logical_block_address)
    ∷ bits 6 0x1f (always t.group_number)
    ∷ bytes 7 8 (always t.blocks)
    ∷ bytes 9 9 (always t.control)
    ∷ []

-- READ(16) and WRITE(16) (SBC-3), past their codes
abbrev pub transfer16 : Transfer16 → List Row
transfer16 t =
    bytes 1 1 (always t.options)
    ∷ bytes 2 9 (always t.logical_block_address)
    ∷ bytes 10 13 (always t.blocks)
    ∷ bits 14 0x1f (always t.group_number)
    ∷ bytes 15 15 (always t.control)
    ∷ []

-- SYNCHRONIZE CACHE(10) (SBC-3), past its code
abbrev pub synchronize10 : Synchronize10 → List Row
synchronize10 s =
    bits 1 0x06 (always s.options)
    ∷ bytes 2 5 (always s.logical_block_address)
    ∷ bits 6 0x1f (always s.group_number)
    ∷ bytes 7 8 (always s.blocks)
    ∷ bytes 9 9 (always s.control)
    ∷ []

-- The rows of a record. TEST UNIT READY, INQUIRY and REPORT LUNS are SPC-4's, the others SBC-3's;
-- Unknown is own rule.
abbrev pub cdb_rows : Cdb → List Row
cdb_rows (TestUnitReady control) =
    code_row 0x00
    ∷ bytes 5 5 (always control)
    ∷ []
cdb_rows (Inquiry evpd page allocation_length control) =
    code_row 0x12
    ∷ bit 1 0x01 (always evpd)
    ∷ bytes 2 2 (always page)
    ∷ bytes 3 4 (always allocation_length)
    ∷ bytes 5 5 (always control)
    ∷ []
cdb_rows (Capacity10 control) =
    code_row 0x25
    ∷ bytes 9 9 (always control)
    ∷ []
cdb_rows (Read10 t) = code_row 0x28 ∷ transfer10 t
cdb_rows (Write10 t) = code_row 0x2a ∷ transfer10 t
cdb_rows (SyncCache10 s) = code_row 0x35 ∷ synchronize10 s
cdb_rows (Read16 t) = code_row 0x88 ∷ transfer16 t
cdb_rows (Write16 t) = code_row 0x8a ∷ transfer16 t
cdb_rows (Capacity16 allocation_length control) =
    code_row 0x9e
    ∷ bits 1 0x1f (always 0x10)
    ∷ bytes 10 13 (always allocation_length)
    ∷ bytes 15 15 (always control)
    ∷ []
cdb_rows (ReportLuns select allocation_length control) =
    code_row 0xa0
    ∷ bytes 2 2 (always select)
    ∷ bytes 6 9 (always allocation_length)
    ∷ bytes 11 11 (always control)
    ∷ []
cdb_rows (Unknown block) = raw 0 15 (always block) ∷ []

-- the block is one of those that have a record of their own: its code is one of the table's, 9e
-- with service action 10
abbrev pub is_block_listed : List ℕ → Bool
is_block_listed b =
    list_any (λ n. n == number_at 0 0 b)
    (0x00 ∷ 0x12 ∷ 0x25 ∷ 0x28 ∷ 0x2a ∷ 0x35 ∷ 0x88 ∷ 0x8a ∷ 0xa0 ∷ [])
    || (number_at 0 0 b == 0x9e && bits_at 1 0x1f b == 0x10)

-- Unknown is for blocks that have no record of their own
abbrev pub IsUnlisted : Cdb → Type 0
IsUnlisted (Unknown block) = is_block_listed block ≡ false
IsUnlisted _ = Unit {0}

-- What 16 bytes mean: each row of the record holds in them, and Unknown is for bytes of no other
-- record.
pub record IsRecord (b : List ℕ) (c : Cdb) : Type 0 where
  pub size : length b ≡ 16
  pub rows : RowsHold b (cdb_rows c)
  pub unlisted : IsUnlisted c

-- The record fits the table.
pub record CdbFits (c : Cdb) : Type 0 where
  pub filled : AreFilled (cdb_rows c)
  pub unlisted : IsUnlisted c

-- the one spelling of a record, in which each free bit is 0
abbrev pub canonical : Cdb → List ℕ
canonical c = put_all (cdb_rows c) (replicate 16 0)

-- ---- the same, computed

-- READ(10) and WRITE(10) (SBC-3), past their codes, as they are read
abbrev pub transfer10_of : List ℕ → Transfer10
transfer10_of b = record {
  options = number_at 1 1 b;
  logical_block_address = number_at 2 5 b;
  group_number = bits_at 6 0x1f b;
  blocks = number_at 7 8 b;
  control = number_at 9 9 b;
}

-- SYNCHRONIZE CACHE(10) (SBC-3), past its code, as it is read
abbrev pub synchronize10_of : List ℕ → Synchronize10
synchronize10_of b = record {
  options = bits_at 1 0x06 b;
  logical_block_address = number_at 2 5 b;
  group_number = bits_at 6 0x1f b;
  blocks = number_at 7 8 b;
  control = number_at 9 9 b;
}

-- READ(16) and WRITE(16) (SBC-3), past their codes, as they are read
abbrev pub transfer16_of : List ℕ → Transfer16
transfer16_of b = record {
  options = number_at 1 1 b;
  logical_block_address = number_at 2 9 b;
  blocks = number_at 10 13 b;
  group_number = bits_at 14 0x1f b;
  control = number_at 15 15 b;
}

-- The record of a block by its operation code. A block of no other record is Unknown, 9e with another
-- service action than 10, too.
abbrev pub record_by : ℕ → List ℕ → Cdb
record_by code b =
    if code == 0x00 then TestUnitReady (number_at 5 5 b)
    else (if code == 0x12
    then Inquiry (is_set 1 0x01 b) (number_at 2 2 b) (number_at 3 4 b) (number_at 5 5 b)
    else (if code == 0x25 then Capacity10 (number_at 9 9 b)
    else (if code == 0x28 then Read10 (transfer10_of b)
    else (if code == 0x2a then Write10 (transfer10_of b)
    else (if code == 0x35 then SyncCache10 (synchronize10_of b)
    else (if code == 0x88 then Read16 (transfer16_of b)
    else (if code == 0x8a then Write16 (transfer16_of b)
    else (if code == 0x9e && bits_at 1 0x1f b == 0x10
    then Capacity16 (number_at 10 13 b) (number_at 15 15 b)
    else (if code == 0xa0
    then ReportLuns (number_at 2 2 b) (number_at 6 9 b) (number_at 11 11 b)
    else Unknown (part 0 15 b))))))))))

-- The one record that 16 bytes mean.
unfoldable pub record_of : List ℕ → Cdb
record_of b = record_by (number_at 0 0 b) b

-- What a write cache has to make last, and when (SBC-3, sections 4.15, 5.8, 5.18 and 5.32).
use Rattle.std.specs.Prelude.{Bool, true, false, not, ◌==◌, ◌||◌, bit_and, Option, None, Some}
use Rattle.scsi_cdb.specs.declared.cdb.Cdb.{Cdb}
use Rattle.scsi_cdb.specs.declared.cdb.Cdb.TheVariants.{SyncCache10}
use Rattle.scsi_disk.specs.Plan.{named_transfer}
use Rattle.scsi_unit.specs.LogicalUnit.{LogicalUnit}

-- A SYNCHRONIZE CACHE, also one that would be answered before it is done (IMMED): it is answered once
-- it is done.
abbrev pub is_flush : Cdb → Bool
is_flush (SyncCache10 s) = true
is_flush _ = false

-- A READ or a WRITE with the bit FUA. What it reads or writes lasts before it is answered.
abbrev pub has_fua : Cdb → Bool
has_fua cdb = not (bit_and (named_transfer cdb).options 0x08 == 0)

-- The command asks that what was written lasts before it is answered. All that was written does then,
-- and not its blocks alone.
abbrev pub asks_to_last : Cdb → Bool
asks_to_last cdb = is_flush cdb || has_fua cdb

-- There is a write cache, where the disk tells of one; else a write lasts before it is answered.
abbrev pub writes_back : Option LogicalUnit → Bool
writes_back None = false
writes_back (Some unit) = unit.write_back

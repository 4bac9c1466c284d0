-- READs, WRITEs and flushes in other spellings than those of the table of blocks (SBC-3). A unit takes
-- each for a command of the table.
use Rattle.std.specs.Prelude.{ℕ, ◌+◌, ◌*◌, Bool, not, ◌==◌, ◌&&◌, ◌||◌, bit_and, if◌then◌else◌, List, Option, Some, None}
use Rattle.scsi_cdb.specs.Layout.{bits_at, is_set, number_at}
use Rattle.scsi_cdb.specs.declared.cdb.Cdb.{Cdb}
use Rattle.scsi_cdb.specs.declared.cdb.Cdb.TheVariants.{Unknown, Read16, SyncCache10, Write16}
use Rattle.scsi_cdb.specs.declared.cdb.Transfer16.{Transfer16}
use Rattle.scsi_cdb.specs.declared.cdb.Synchronize10.{Synchronize10}
use Rattle.scsi_unit.specs.LogicalUnit.{LogicalUnit}

-- The blocks that a command names, and byte 1 of its block.
abbrev pub naming : ℕ → ℕ → ℕ → Transfer16
naming options first count = record {
  options = options;
  logical_block_address = first;
  blocks = count;
  group_number = 0;
  control = 0;
}

-- READ(6) and WRITE(6): 21 bits of an address, and 256 blocks where none are named (SBC-3, section 5.7).
abbrev pub transfer6 : List ℕ → Transfer16
transfer6 block =
    naming 0 (65536 * bits_at 1 0x1f block + number_at 2 3 block)
    (if number_at 4 4 block == 0 then 256 else number_at 4 4 block)

-- The blocks of a command of 12 bytes, with these options (SBC-3).
abbrev pub transfer12 : ℕ → List ℕ → Transfer16
transfer12 options block = naming options (number_at 2 5 block) (number_at 6 9 block)

-- The options of a WRITE AND VERIFY: WRPROTECT, and FUA, since it lasts before it is answered. It isn't
-- read again, so BYTCHK makes no difference (own rule).
abbrev pub lasting_options : List ℕ → ℕ
lasting_options block = bit_and (number_at 1 1 block) 0xe0 + 0x08

-- The blocks of a WRITE AND VERIFY(10) and (16) (SBC-3).
abbrev pub verified10 : List ℕ → Transfer16
verified10 block = naming (lasting_options block) (number_at 2 5 block) (number_at 7 8 block)

abbrev pub verified16 : List ℕ → Transfer16
verified16 block = naming (lasting_options block) (number_at 2 9 block) (number_at 10 13 block)

-- A flush of all blocks.
abbrev pub all_flushed : Synchronize10
all_flushed = record {
  options = 0;
  logical_block_address = 0;
  group_number = 0;
  blocks = 0;
  control = 0;
}

-- A START STOP UNIT asks to load or to eject a medium (LOEJ; SBC-3, section 5.25).
abbrev pub loads : List ℕ → Bool
loads block = is_set 4 0x02 block

-- A START STOP UNIT after which the power may be cut: it stops the unit (START is 0), or asks for a
-- power condition. So what was written has to last (SBC-3, section 5.25).
abbrev pub stops : List ℕ → Bool
stops block = not (loads block) && (not (is_set 4 0x01 block) || is_set 4 0xf0 block)

-- What a block means to a unit, by its operation code (SBC-3): the command of the table that it spells in
-- another way, or itself. The range of a SYNCHRONIZE CACHE(16) isn't looked at (own rule).
unfoldable pub spelled_block : ℕ → List ℕ → Cdb
spelled_block code block =
    if code == 0x08 then Read16 (transfer6 block)
    else (if code == 0x0a then Write16 (transfer6 block)
    else (if code == 0xa8 then Read16 (transfer12 (number_at 1 1 block) block)
    else (if code == 0xaa then Write16 (transfer12 (number_at 1 1 block) block)
    else (if code == 0x2e then Write16 (verified10 block)
    else (if code == 0xae then Write16 (transfer12 (lasting_options block) block)
    else (if code == 0x8e then Write16 (verified16 block)
    else (if code == 0x91 then SyncCache10 all_flushed
    else (if code == 0x1b && stops block then SyncCache10 all_flushed
    else Unknown block))))))))

-- The same of a command: to a disk that tells no more of itself each is itself.
abbrev pub spelled : Option LogicalUnit → Cdb → Cdb
spelled None cdb = cdb
spelled (Some unit) (Unknown block) = spelled_block (number_at 0 0 block) block
spelled (Some unit) cdb = cdb

-- Commands that take data for something else than a WRITE, and have no record of their own in the table
-- of blocks (SBC-3): WRITE SAME, UNMAP, VERIFY with bytes, and COMPARE AND WRITE.
use Rattle.std.specs.Prelude.{ℕ, Bool, not, ◌==◌, ◌&&◌, bit_and, if◌then◌else◌, List, Option, Some, None, option_map}
use Rattle.scsi_cdb.specs.Layout.{bits_at, is_set, number_at}
use Rattle.scsi_cdb.specs.declared.cdb.Cdb.{Cdb}
use Rattle.scsi_cdb.specs.declared.cdb.Cdb.TheVariants.{Unknown, Write16}
use Rattle.scsi_cdb.specs.declared.cdb.Transfer16.{Transfer16}
use Rattle.scsi_disk.specs.declared.deed.Deed.{Deed}
use Rattle.scsi_disk.specs.declared.deed.Deed.TheVariants.{Same, Verify, Compare, Unmap}
use Rattle.scsi_disk.specs.declared.order.Order.{Order}
use Rattle.scsi_unit.specs.LogicalUnit.{LogicalUnit}
use Rattle.scsi_unit.specs.Spellings.{naming, spelled}
use Rattle.scsi_unit.specs.WriteSame.{if_plain, same_blocks}

-- The WRITE that a command is taken for, and what it does with the data.
abbrev pub Taken : Type 0
Taken = Transfer16 × Deed

-- The blocks of a COMPARE AND WRITE (SBC-3, section 5.3).
abbrev pub compared16 : List ℕ → Transfer16
compared16 block = naming (number_at 1 1 block) (number_at 2 9 block) (number_at 13 13 block)

-- The bits VRPROTECT of a VERIFY, as a WRITE has them.
abbrev pub verify_options : List ℕ → ℕ
verify_options block = bit_and (number_at 1 1 block) 0xe0

-- The blocks of a VERIFY(10), (12) and (16) (SBC-3).
abbrev pub verify10 : List ℕ → Transfer16
verify10 block = naming (verify_options block) (number_at 2 5 block) (number_at 7 8 block)

abbrev pub verify12 : List ℕ → Transfer16
verify12 block = naming (verify_options block) (number_at 2 5 block) (number_at 6 9 block)

abbrev pub verify16 : List ℕ → Transfer16
verify16 block = naming (verify_options block) (number_at 2 9 block) (number_at 10 13 block)

-- A VERIFY is sent bytes, one for each of its blocks (BYTCHK is 01; SBC-3, section 5.29).
abbrev pub checks_bytes : List ℕ → Bool
checks_bytes block = bits_at 1 0x06 block == 0x01

-- An UNMAP asks for an anchor (SBC-3, section 5.28).
abbrev pub anchors : List ℕ → Bool
anchors block = is_set 1 0x01 block

-- A WRITE in place of a WRITE SAME. With the bit UNMAP it is the same: blocks that are given back read as
-- zeros.
abbrev pub same_taken : Transfer16 → Taken
same_taken named = (naming 0 named.logical_block_address named.blocks, Same)

-- What a block is taken for, by its operation code, to a unit that is thin or not; None of another. Only a
-- thin unit takes an UNMAP, or a WRITE SAME.
unfoldable pub block_taken : Bool → ℕ → List ℕ → Option Taken
block_taken thin code block =
    if code == 0x89 then Some (compared16 block, Compare)
    else (if (code == 0x2f) && checks_bytes block then Some (verify10 block, Verify)
    else (if (code == 0xaf) && checks_bytes block then Some (verify12 block, Verify)
    else (if (code == 0x8f) && checks_bytes block then Some (verify16 block, Verify)
    else (if not thin then None
    else (if (code == 0x42) && not (anchors block)
    then Some (naming 0 0 0, Unmap (number_at 7 8 block))
    else option_map same_taken (if_plain (same_blocks block)))))))

-- What a command is taken for by a disk that may tell more of itself.
abbrev pub taken_for : Option LogicalUnit → Cdb → Option Taken
taken_for (Some unit) (Unknown block) = block_taken unit.thin (number_at 0 0 block) block
taken_for _ cdb = None

-- That WRITE; any other command is as it was.
abbrev pub as_write : Option Taken → Cdb → Cdb
as_write None cdb = cdb
as_write (Some taken) cdb = Write16 taken.0

-- And what it does with its data.
abbrev pub as_deed : Option Taken → Deed → Deed
as_deed None deed = deed
as_deed (Some taken) deed = taken.1

-- What a command means to such a disk: a command of the table in another spelling, the WRITE that it is
-- taken for, or itself.
abbrev pub meant_cdb : Option LogicalUnit → Cdb → Cdb
meant_cdb unit cdb = as_write (taken_for unit cdb) (spelled unit cdb)

-- What an order means to such a disk.
abbrev pub meant : Option LogicalUnit → Order → Order
meant unit order = record order {
  cdb = meant_cdb unit order.cdb;
  deed = as_deed (taken_for unit order.cdb) order.deed;
}

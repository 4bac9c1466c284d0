-- WRITE SAME(10) and WRITE SAME(16), which have no record of their own in the table of blocks (SBC-3).
-- A thin unit takes them: their one block of data goes to each block that they name.
use Rattle.std.specs.Prelude.{ℕ, Bool, ◌==◌, ◌&&◌, ◌||◌, nat_lt, bit_and, if◌then◌else◌, List, Option, Some, None}
use Rattle.scsi_cdb.specs.Layout.{number_at}
use Rattle.scsi_cdb.specs.declared.cdb.Transfer16.{Transfer16}
use Rattle.scsi_unit.specs.Spellings.{naming}

-- The blocks that a WRITE SAME(10) or (16) names, by its block; none of another command.
abbrev pub same_blocks : List ℕ → Option Transfer16
same_blocks block =
    if number_at 0 0 block == 0x41
    then Some (naming (number_at 1 1 block) (number_at 2 5 block) (number_at 7 8 block))
    else if number_at 0 0 block == 0x93
    then Some (naming (number_at 1 1 block) (number_at 2 9 block) (number_at 10 13 block))
    else None

-- A WRITE SAME that a thin unit takes. It names a block (WSNZ), and asks neither for protection
-- (WRPROTECT) nor for an anchor, nor for block numbers in the data (PBDATA and LBDATA), and sends data
-- (NDOB).
abbrev pub is_plain : Transfer16 → Bool
is_plain named = (bit_and named.options 0xf7 == 0) && nat_lt 0 named.blocks

-- Those blocks, of a WRITE SAME that is plain.
abbrev pub if_plain : Option Transfer16 → Option Transfer16
if_plain None = None
if_plain (Some named) = if is_plain named then Some named else None

-- Commands in which each field that says nothing of blocks or lengths is 0 (SPC-4 and SBC-3).
use Rattle.std.specs.Prelude.{ℕ, ◌^◌, nat_lt, if◌then◌else◌}
use Rattle.scsi_cdb.specs.declared.cdb.Cdb.{Cdb}
use Rattle.scsi_cdb.specs.declared.cdb.Cdb.TheVariants as cdb
use Rattle.scsi_cdb.specs.declared.cdb.Transfer10.{Transfer10}
use Rattle.scsi_cdb.specs.declared.cdb.Transfer16.{Transfer16}

-- A transfer of n blocks from this one on, with each other field 0 (SBC-3, READ(10)).
abbrev pub plain_transfer : ℕ → ℕ → Transfer10
plain_transfer logical_block_address blocks = record {
  options = 0;
  logical_block_address = logical_block_address;
  group_number = 0;
  blocks = blocks;
  control = 0;
}

-- The same with room for more (SBC-3, READ(16)).
abbrev pub long_transfer : ℕ → ℕ → Transfer16
long_transfer logical_block_address blocks = record {
  options = 0;
  logical_block_address = logical_block_address;
  blocks = blocks;
  group_number = 0;
  control = 0;
}

-- READ(10), or READ(16) where that has no room for the first block (SBC-3).
abbrev pub reading : ℕ → ℕ → Cdb
reading logical_block_address blocks =
    if nat_lt logical_block_address (2 ^ 32)
    then cdb.Read10 (plain_transfer logical_block_address blocks)
    else cdb.Read16 (long_transfer logical_block_address blocks)

-- WRITE(10), or WRITE(16) where that has no room for the first block (SBC-3).
abbrev pub writing : ℕ → ℕ → Cdb
writing logical_block_address blocks =
    if nat_lt logical_block_address (2 ^ 32)
    then cdb.Write10 (plain_transfer logical_block_address blocks)
    else cdb.Write16 (long_transfer logical_block_address blocks)

-- A flush of n blocks from this one on, with each other field 0 (SBC-3, SYNCHRONIZE CACHE
-- (10)).
abbrev pub flush : ℕ → ℕ → Cdb
flush logical_block_address blocks = cdb.SyncCache10 (record {
  options = 0;
  logical_block_address = logical_block_address;
  group_number = 0;
  blocks = blocks;
  control = 0;
})

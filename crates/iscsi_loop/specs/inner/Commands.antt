-- More of `Commands`, of which no public contract speaks.
use Rattle.std.specs.Prelude.{◌^◌, ◌<◌}
use Rattle.iscsi_loop.specs.declared.command.Command.{Command}
use Rattle.iscsi_loop.specs.declared.command.Command.TheVariants.{TestUnitReady, Inquiry, Capacity, Capacity16, Luns, Read, Write, Sync, Ping, Logout}

-- The numbers of a command are those of their fields.
abbrev pub HasNumbers : Command → Type 0
HasNumbers (TestUnitReady unit) = unit < 256
HasNumbers (Inquiry unit allocation_length) = (unit < 256) × (allocation_length < 2 ^ 16)
HasNumbers Capacity = Unit {0}
HasNumbers Capacity16 = Unit {0}
HasNumbers Luns = Unit {0}
HasNumbers (Read logical_block_address blocks) =
    (logical_block_address < 2 ^ 64) × (blocks < 2 ^ 16)
HasNumbers (Write logical_block_address blocks byte) =
    (logical_block_address < 2 ^ 64) × (blocks < 2 ^ 16)
HasNumbers (Sync logical_block_address blocks) =
    (logical_block_address < 2 ^ 32) × (blocks < 2 ^ 16)
HasNumbers (Ping bytes) = Unit {0}
HasNumbers Logout = Unit {0}

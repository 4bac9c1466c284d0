-- More of `Script`, of which no public contract speaks.
use Rattle.std.specs.Prelude.{◌≤◌, ◌<◌, ℕ, ◌^◌, List, [], ◌∷◌, length}
use Rattle.iscsi_loop.specs.declared.command.Command.{Command}
use Rattle.iscsi_loop.specs.declared.command.Command.TheVariants.{TestUnitReady, Inquiry, Capacity, Capacity16, Luns, Read, Write, Sync, Ping, Logout}
use Rattle.iscsi_serving.specs.declared.fault.ServeFault.{ServeFault}
use Rattle.iscsi_serving.specs.declared.fault.ServeFault.TheVariants as serve
use Rattle.iscsi_loop.specs.Script.{IsFirstBad}

-- ---- commands by their arguments

-- The numbers of a command are within these bounds.
abbrev pub IsCommandInRange : Command → Type 0
IsCommandInRange (TestUnitReady unit) = unit < 256
IsCommandInRange (Inquiry unit allocation_length) = (unit < 256) × (allocation_length < 65536)
IsCommandInRange Capacity = Unit {0}
IsCommandInRange Capacity16 = Unit {0}
IsCommandInRange Luns = Unit {0}
IsCommandInRange (Read logical_block_address blocks) =
    (logical_block_address < 2 ^ 64) × (blocks ≤ 8192)
IsCommandInRange (Write logical_block_address blocks byte) =
    (logical_block_address < 2 ^ 64) × (blocks ≤ 8192) × (byte < 256)
IsCommandInRange (Sync logical_block_address blocks) =
    (logical_block_address < 2 ^ 32) × (blocks < 65536)
IsCommandInRange (Ping bytes) = (0 < length bytes) × (length bytes ≤ 8192)
IsCommandInRange Logout = Unit {0}

-- The numbers of each command are within these bounds.
abbrev pub AreCommandsInRange : List Command → Type 0
AreCommandsInRange [] = Unit {0}
AreCommandsInRange (command ∷ commands) = IsCommandInRange command × AreCommandsInRange commands

-- ---- scripts

-- When the lines of a script are refused.
abbrev pub LinesFail : ServeFault → List ℕ → Type 0
LinesFail (serve.Script n) script = IsFirstBad script n
LinesFail serve.NoMemory script = Unit {0}
LinesFail serve.Read script = ⊥
LinesFail (serve.Target fault) script = ⊥
LinesFail (serve.Initiator fault) script = ⊥
LinesFail serve.Network script = ⊥
LinesFail serve.Sync script = ⊥
LinesFail serve.NoRandom script = ⊥
LinesFail serve.Write script = ⊥

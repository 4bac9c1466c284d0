-- What a medium in memory has and had.
use Rattle.std.specs.Prelude.{ℕ, List, Vec}
use Rattle.std.specs.declared.alloc.Global.{Global}
use Rattle.scsi_file.specs.declared.crash_memory.CrashMemory.{CrashMemory}

-- its bytes
abbrev pub memory_bytes : CrashMemory → List ℕ
memory_bytes m = m.bytes.items

-- those before each write since the last sync
abbrev pub past_of : CrashMemory → List (Vec ℕ Global)
past_of m = m.past.items

-- A store of which one call fails.
use Rattle.std.specs.Prelude.{ℕ, ◌-◌, ◌==◌, Bool, false, List, Option, Some, None, is_none, if◌then◌else◌}
use Rattle.scsi_disk.specs.Disk.{Disk, disk_of}

-- the bytes, and how many calls come before the one that fails, if that is still to come
pub record FailingStore : Type 0 where
  pub bytes : List ℕ
  pub before : Option ℕ

-- the disk of its bytes
abbrev pub failing_disk : FailingStore → Disk
failing_disk s = disk_of s.bytes

-- it has failed once, or not yet
abbrev pub failures_in : FailingStore → ℕ
failures_in s = if is_none s.before then 1 else 0

-- the next call is the one that fails
abbrev pub fails_next_call : Option ℕ → Bool
fails_next_call None = false
fails_next_call (Some n) = n == 0

-- what is still to come after a call
abbrev pub later : Option ℕ → Option ℕ
later None = None
later (Some n) = if n == 0 then None else Some (n - 1)

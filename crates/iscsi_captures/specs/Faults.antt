-- The exit status of a fault.
use Rattle.std.specs.Prelude.{ℕ}
use Rattle.iscsi_captures.specs.declared.fault.CapturesFault.{CapturesFault}
use Rattle.iscsi_captures.specs.declared.fault.CapturesFault.TheVariants as faults

-- 1 if the capture is refused, 2 if it has no such connection, 3 for memory, and 4 for reading and
-- writing
abbrev pub captures_exit_status : CapturesFault → ℕ
captures_exit_status faults.NoMemory = 3
captures_exit_status faults.Read = 4
captures_exit_status faults.Absent = 4
captures_exit_status faults.NotPermitted = 4
captures_exit_status faults.Write = 4
captures_exit_status faults.Directory = 4
captures_exit_status (faults.Reads connection) = 4
captures_exit_status (faults.NoConnection connection) = 2
captures_exit_status _ = 1

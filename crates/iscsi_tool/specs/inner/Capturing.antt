-- More of `Captures`, of which no public contract speaks: why a capture is not read.
use Rattle.std.specs.Prelude.{ℕ, Option, unwrap_or}
use Rattle.std.specs.declared.io.ErrorKind.{ErrorKind}
use Rattle.std.specs.declared.io.ErrorKind.TheVariants as kinds
use Rattle.iscsi_captures.specs.declared.fault.CapturesFault.{CapturesFault}
use Rattle.iscsi_captures.specs.declared.fault.CapturesFault.TheVariants as faults

-- Why a file is not opened, by the kind of the system's error.
abbrev pub not_opened : ErrorKind → CapturesFault
not_opened kinds.NotFound = faults.Absent
not_opened kinds.PermissionDenied = faults.NotPermitted
not_opened _ = faults.Read

-- Why a read of a direction failed: the fault of the direction, or else it was read as often as it may
-- be.
abbrev pub not_read : Option CapturesFault → ℕ → CapturesFault
not_read fault connection = unwrap_or fault (faults.Reads connection)

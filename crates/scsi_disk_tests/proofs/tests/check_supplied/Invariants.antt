use Rattle.std.proofs.Common.{ℕ, ◌<◌, get_or}
use Rattle.scsi_disk.specs.Effect.{IsSupplied}
use Rattle.scsi_disk.specs.Runs.{Supplied}
use Rattle.scsi_disk_tests.proofs.tests.check_supplied.Given as goal

-- The orders so far take the bytes beside them.
abbrev pub invariant-loop-order : goal.invariant-loop-order
invariant-loop-order g l =
    (k : ℕ) (default : Supplied) → k < l.order-index
    → IsSupplied l.blocks (get_or l.orders k default).0 (get_or l.orders k default).1

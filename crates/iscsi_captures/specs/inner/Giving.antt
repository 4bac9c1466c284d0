-- More of `Giving`, of which no public contract speaks.
use Rattle.std.specs.Prelude.{ℕ, List, Option}
use Rattle.iscsi_captures.specs.declared.fault.CapturesFault.{CapturesFault}
use Rattle.iscsi_captures.specs.declared.fault.CapturesFault.TheVariants as faults
use Rattle.iscsi_captures.specs.Giving.{IsFaultOf}

-- ---- why it fails

-- the same, whatever the file has left
abbrev pub IsDirectionFault : ℕ → CapturesFault → Type 0
IsDirectionFault number fault = (left : Option (List ℕ)) → IsFaultOf number left fault

-- a fault of bytes that were not captured leaves the bytes before them
abbrev pub IfCut : CapturesFault → Type 0 → Type 0
IfCut (faults.Cut at packet) P = P
IfCut _ P = Unit {0}

-- What a comparison of two captures answers and writes.
use Rattle.std.specs.Prelude.{◌≡◌, ◌⊎◌, ℕ, List, [], Result, Ok, Err}
use Rattle.iscsi_compare.specs.declared.verdict.Verdict.{Verdict}
use Rattle.iscsi_compare.specs.Comparing.{ReadInput}
use Rattle.iscsi_comparison.specs.declared.comparing.Sameness.{Sameness}
use Rattle.iscsi_comparison.specs.declared.comparing.ComparisonFault.{ComparisonFault}
use Rattle.iscsi_words.specs.declared.capture_comparing.CaptureComparisonFault.{CaptureComparisonFault}
use Rattle.iscsi_comparison.specs.Comparisons.{ComparesBytes}

-- The verdict is that of a comparison of two streams, whose bytes the two directions gave, and so is
-- what is written. A fault stands for one of that comparison, or nothing was compared.
abbrev pub ComparesCaptures : Sameness → Result Verdict CaptureComparisonFault → List ℕ → Type 0
ComparesCaptures sameness (Ok verdict) written = (first : ReadInput) × (second : ReadInput)
    × ComparesBytes sameness (Ok verdict) first second written
ComparesCaptures sameness (Err fault) written = (written ≡ [])
    ⊎ ((first : ReadInput) × (second : ReadInput) × (reason : ComparisonFault)
    × ComparesBytes sameness (Err reason) first second written)

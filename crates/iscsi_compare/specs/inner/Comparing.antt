-- More of `Comparing`, of which no public contract speaks.
use Rattle.std.specs.Prelude.{ℕ, List, Option}
use Rattle.iscsi_compare.specs.Comparing.{ReadInput}

-- what was read, and what is left
abbrev pub input_of : List ℕ → Option (List ℕ) → ReadInput
input_of read left = record { read = read; left = left }

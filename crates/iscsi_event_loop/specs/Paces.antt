-- How many lines a second are told (own rule).
use Rattle.std.specs.Prelude.{ℕ}

-- How many a second at most, how many were told in this one, and how many were left out since one was told.
pub record Pace : Type 0 where
  pub most : ℕ
  pub told : ℕ
  pub left_out : ℕ

use Rattle.std.proofs.Common.{ℕ, ◌<◌, ◌≤◌}
use Rattle.std.specs.Prelude.{slice_get}
use Rattle.capture_connections.specs.inner.Waiting.{larger_at}
use Rattle.capture_connections.proofs.connections.most_waiting.Given as goal

-- in none before is there more
abbrev pub invariant-loop-k : goal.invariant-loop-k
invariant-loop-k l = (j : ℕ) → j < l.k
    → larger_at (slice_get l.list j) ≤ larger_at (slice_get l.list l.number)

-- How many bytes a read or a write of a connection gave.
use Rattle.std.specs.Prelude.{ℕ, ◌≤◌}
use Rattle.iscsi_event_loop.specs.declared.connection.Moved.{Moved}
use Rattle.iscsi_event_loop.specs.declared.connection.Moved.TheVariants as moved

-- No more than n bytes went.
abbrev pub MovesAtMost : ℕ → Moved → Type 0
MovesAtMost most (moved.Bytes count) = count ≤ most
MovesAtMost most moved.Nothing = Unit {0}
MovesAtMost most moved.End = Unit {0}
MovesAtMost most moved.Failed = Unit {0}
MovesAtMost most moved.NoMemory = Unit {0}

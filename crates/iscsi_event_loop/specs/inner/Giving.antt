-- More of `Giving`, of which no public contract speaks.
use Rattle.std.specs.Prelude.{◌<◌, ◌≤◌, ℕ, ◌+◌, List}
use Rattle.iscsi_sessions.specs.Slots.{SessionTable}
use Rattle.iscsi_sessions.specs.Turns.{SlotEvent}
use Rattle.iscsi_event_loop.specs.Giving.{waits_at, given_at, most_waiting_at}

-- Before these events `had` bytes might be given, and `left` may be given behind them. Once none is
-- left, what was given is more than `had` by one write at most.
pub record GivesWithin (slot had left : ℕ) (old : SessionTable) (es : List SlotEvent) (new : SessionTable) : Type
    0 where
  pub going : 0 < left → given_at slot old es new + left ≤ had
  pub most : given_at slot old es new ≤ had + most_waiting_at slot old es
  pub waits : waits_at slot new ≤ most_waiting_at slot old es

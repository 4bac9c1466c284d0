-- More of `Slots`, of which no public contract speaks.
use Rattle.std.specs.Prelude.{false}
use Rattle.iscsi_sessions.specs.Slots.{Slot, still_asks}

-- ---- a slot

-- The slot where answers are gathered: the peer was not offered what waits.
abbrev pub gathering : Slot → Slot
gathering s = record s { offered = false; asks = still_asks s }

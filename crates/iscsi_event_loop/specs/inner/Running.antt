-- More of `Running`, of which no public contract speaks.
use Rattle.std.specs.Prelude.{Bool, ◌≤◌, ℕ, ◌+◌, nat_lt, if◌then◌else◌}
use Rattle.iscsi_target.specs.Feed.{Store}
use Rattle.iscsi_sessions.specs.Slots.{SessionTable}
use Rattle.iscsi_event_loop.specs.declared.budget.Budget.{Budget}
use Rattle.iscsi_event_loop.specs.inner.Giving.{GivesWithin}
use Rattle.iscsi_event_loop.specs.Running.{only_at_slot, taken_at, HappensAt}

-- ---- how much is taken

-- So many at each slot before one, and none from it on.
abbrev pub below : ℕ → ℕ → ℕ → ℕ
below slot n k = if nat_lt k slot then n else 0

-- ---- at one slot

-- Some events of the session at one slot do so. Before them its turn might do as much as `had`
-- says, and may do as much as `left` says behind them.
unfoldable pub SlotRuns : Bool → ℕ → Budget → Budget → SessionTable → Store → SessionTable → Store → Type 0
SlotRuns protected slot had left old before new after = HappensAt protected slot old before
    (λ es. ((k : ℕ) → taken_at k es + only_at_slot slot left.pdus k ≤ only_at_slot slot had.pdus k)
    × GivesWithin slot had.given left.given old es new)
    new after

-- Some events of that session do so whatever the store, leave it as it is, take no PDU, and give
-- the peer nothing.
unfoldable pub RunsIdleAt : ℕ → SessionTable → SessionTable → Type 0
RunsIdleAt slot old new =
    (protected : Bool) (store : Store) (had : Budget)
    → SlotRuns protected slot had had old store new store

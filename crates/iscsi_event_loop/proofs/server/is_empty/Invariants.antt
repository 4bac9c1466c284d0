use Rattle.std.proofs.Common.{◌≡◌, ℕ, ◌<◌, false, is_some}
use Rattle.iscsi_sessions.specs.Slots.{slot_at}
use Rattle.iscsi_event_loop.proofs.server.is_empty.Given as goal

abbrev pub invariant-loop-slot : goal.invariant-loop-slot
invariant-loop-slot l = (k : ℕ) → k < l.slot → is_some (slot_at l.table k) ≡ false

-- The order of one session's commands in the one list of all that was executed (RFC 7143, section
-- 4.2.2.1).
use Rattle.std.specs.Prelude.{ℕ, ◌==◌, List, map, filter}
use Rattle.std.specs.List.{flat_map}
use Rattle.iscsi_target.specs.State.{Execution}
use Rattle.iscsi_sessions.specs.Turns.{SlotEvent, executed_by, slot_of}

-- A command that was executed, with the slot whose session had it done.
abbrev pub Placed : Type 0
Placed = ℕ × Execution

-- What an event executed, with its slot.
abbrev pub placed_by : SlotEvent → List Placed
placed_by e = map (λ x. (slot_of e, x)) (executed_by e)

-- The one list of what was executed, in order, each with its slot.
abbrev pub placed_in : List SlotEvent → List Placed
placed_in es = flat_map placed_by es

-- What the list has of one slot, in the order of the list.
abbrev pub executed_for : ℕ → List Placed → List Execution
executed_for slot placed = map (λ p. p.1) (filter (λ p. p.0 == slot) placed)

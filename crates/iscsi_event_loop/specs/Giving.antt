-- How many bytes are given to the peer of a slot (own rule).
use Rattle.std.specs.Prelude.{◌≡◌, ◌⊎◌, ℕ, ◌+◌, ◌-◌, max, List, [], ◌∷◌, length, Option, None, Some}
use Rattle.iscsi_stream.specs.Canonical.{canon}
use Rattle.iscsi_target_session.specs.Configured.{TargetSettings}
use Rattle.iscsi_sessions.specs.Slots.{SessionTable, Slot, opening_slot, slot_at, slot_waiting}
use Rattle.iscsi_sessions.specs.Turns.{SlotEvent, Comes, Ends, Goes, Syncs, Takes, answers_of}

-- How many bytes an event answers: those of the answers to a PDU.
abbrev pub bytes_answered : SlotEvent → ℕ
bytes_answered (Takes turn) = length (canon (answers_of turn))
bytes_answered (Comes slot settings) = 0
bytes_answered (Syncs slot) = 0
bytes_answered (Ends slot) = 0
bytes_answered (Goes slot) = 0

-- How many bytes events answer.
abbrev pub answered_in : List SlotEvent → ℕ
answered_in [] = 0
answered_in (e ∷ es) = bytes_answered e + answered_in es

-- The most bytes that one of the events answers.
abbrev pub most_answered : List SlotEvent → ℕ
most_answered [] = 0
most_answered (e ∷ es) = max (bytes_answered e) (most_answered es)

-- How many bytes wait at a slot.
abbrev pub waits_at : ℕ → SessionTable → ℕ
waits_at slot table = length (slot_waiting (slot_at table slot))

-- How many bytes the peer of a slot was given while its session had these events. They are those
-- that waited or were answered, without those that wait behind the events.
abbrev pub given_at : ℕ → SessionTable → List SlotEvent → SessionTable → ℕ
given_at slot old es new = waits_at slot old + answered_in es - waits_at slot new

-- The most bytes that wait there at one time: those that waited before, or 65,535 and the answers
-- to one PDU.
abbrev pub most_waiting_at : ℕ → SessionTable → List SlotEvent → ℕ
most_waiting_at slot old es = max (waits_at slot old) (65_535 + most_answered es)

-- How many bytes a turn gives a peer at most in all its writes but the last (own rule).
abbrev pub most_given : ℕ
most_given = 262_144

-- The peer of a slot is given nothing: the slot is as it was, or its session left and what waited
-- is dropped. Then it is free, or has a new session.
abbrev pub IsSlotKept : Option Slot → Option Slot → Type 0
IsSlotKept old new =
    (new ≡ old) ⊎ ((new ≡ None) ⊎ ((settings : TargetSettings)
    × (new ≡ Some (opening_slot settings))))

-- No peer is given anything.
abbrev pub GivesNothing : SessionTable → SessionTable → Type 0
GivesNothing old new = (k : ℕ) → IsSlotKept (slot_at old k) (slot_at new k)

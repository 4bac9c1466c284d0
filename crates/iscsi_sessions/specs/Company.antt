-- One session in company: what it does with its PDUs where other sessions change the blocks between
-- them (RFC 7143, section 4.2).
--
-- `protected` says of the store that it refuses each write.
use Rattle.std.specs.Prelude.{Bool, ◌≡◌, ℕ, List, [], ◌∷◌}
use Rattle.std.specs.List.{flat_map, AllByRecursion}
use Rattle.scsi_disk.specs.Disk.{Disk}
use Rattle.iscsi_stream.specs.Stream.{Message}
use Rattle.iscsi_target.specs.State.{Machine, TargetStep, unchanged}
use Rattle.iscsi_target.specs.Machine.{answers, then_stepped}
use Rattle.iscsi_sessions.specs.Turns.{SlotEvent, Takes, answers_of}

-- PDUs that came together, and the disk that they met.
abbrev pub Group : Type 0
Group = Disk × List Message

-- Any PDUs, over a store that doesn't fail: each group meets its disk, whatever the one before it
-- left.
unfoldable pub answers_over : Bool → Machine → Disk → List Group → TargetStep
answers_over protected s disk [] = unchanged s disk
answers_over protected s disk (g ∷ gs) =
    then_stepped (answers protected s g.0 g.1)
    (answers_over protected (answers protected s g.0 g.1).machine
    (answers protected s g.0 g.1).disk gs)

-- The PDUs of all groups.
abbrev pub messages_in : List Group → List Message
messages_in gs = flat_map (λ g. g.1) gs

-- Each group met a disk of n blocks.
abbrev pub HaveCount : ℕ → List Group → Type 0
HaveCount count gs = AllByRecursion (λ g. g.0.count ≡ count) gs

-- The PDUs of an event, with the disk that they met.
abbrev pub groups_by : SlotEvent → List Group
groups_by (Takes t) = (t.before.disk, t.messages) ∷ []
groups_by _ = []

-- The PDUs of events, turn by turn.
abbrev pub groups_in : List SlotEvent → List Group
groups_in es = flat_map groups_by es

-- What an event answered.
abbrev pub answers_by : SlotEvent → List Message
answers_by (Takes t) = answers_of t
answers_by _ = []

-- What events answered.
abbrev pub answers_in : List SlotEvent → List Message
answers_in es = flat_map answers_by es

-- No failure was counted in the event, and memory didn't run out.
abbrev pub IsCalm : SlotEvent → Type 0
IsCalm (Takes t) = (t.after.failures ≡ t.before.failures)
    × (t.front ≡ unchanged t.stepped.machine t.stepped.disk)
IsCalm _ = Unit {0}

-- The queue of a target between two PDUs: the requests that it has accepted and not yet done (RFC
-- 7143, sections 4.2.2.1 and 11.8).
use Rattle.std.specs.Prelude.{◌≡◌, ◌≤◌, ◌<◌, ◌^◌, ℕ, Bool, true, false, List, [], ◌∷◌}
use Rattle.std.specs.List.{AllByRecursion}
use Rattle.iscsi_pdu.specs.Serial.{distance}
use Rattle.iscsi_target.specs.declared.due.Due.{Due}
use Rattle.iscsi_target.specs.declared.due.Due.TheVariants.{Solicited}
use Rattle.iscsi_target.specs.declared.tasks.Task.{Task}
use Rattle.iscsi_target.specs.declared.tasks.Task.TheVariants.{Data}
use Rattle.iscsi_target.specs.State.{takes_place, waiting_tasks}
use Rattle.iscsi_target.specs.Transfer.{is_whole_write, is_nothing_due}

-- The tasks behind the first.
abbrev pub tasks_behind : List Task → List Task
tasks_behind [] = []
tasks_behind (task ∷ more) = more

-- Each of these takes a place of the window (section 4.2.2.1).
abbrev pub TakePlaces : List Task → Type 0
TakePlaces tasks = AllByRecursion (λ task. takes_place task ≡ true) tasks

-- The first task is a write that waits for data.
abbrev pub IsPending : List Task → Type 0
IsPending [] = Unit {0}
IsPending (Data w ∷ more) = (is_whole_write w ≡ false) × (is_nothing_due w.due ≡ false)
IsPending (task ∷ more) = ⊥

-- No R2T was sent for what is due (section 11.8).
abbrev pub is_unasked : Due → Bool
is_unasked (Solicited tag data_sn end) = false
is_unasked _ = true

-- No R2T was sent for the task (section 11.8).
abbrev pub IsUnasked : Task → Type 0
IsUnasked (Data w) = is_unasked w.due ≡ true
IsUnasked _ = Unit {0}

-- At most eight take a place of the window, and the first alone may be one that takes none. The first
-- is a write that waits for data, and no R2T was sent for one behind it (sections 4.2.2.1 and 11.8).
pub record IsQueue (tasks : List Task) : Type 0 where
  pub few : waiting_tasks tasks ≤ 8
  pub places : TakePlaces (tasks_behind tasks)
  pub pending : IsPending tasks
  pub unasked : AllByRecursion IsUnasked (tasks_behind tasks)

-- The second number is not before the first, round the circle of 2^32 (section 4.2.2.1).
abbrev pub IsNotBefore : ℕ → ℕ → Type 0
IsNotBefore a b = distance a b < 2 ^ 31

-- Room in a window of eight commands.
use Rattle.std.proofs.Common.{◌≡◌, ◌<◌, ◌≤◌, ℕ, suc, ◌+◌, ◌-◌, ◌^◌, ◌%◌, List, [], ◌∷◌, length, Bool, true, false, refl, ap, arith, rules}
use Rattle.iscsi_pdu.specs.Serial.{distance, is_within}
use Rattle.iscsi_target.specs.declared.tasks.Task.{Task}
use Rattle.iscsi_target.specs.State.{Machine, takes_place, waiting_tasks, max_cmd_sn}
use Rattle.iscsi_target.specs.Machine.{is_busy}
use Rattle.iscsi_target.specs.Queue.{TakePlaces, tasks_behind}

-- a number within the window leaves a place free
pub has_room : (exp waits : ℕ) → exp < 2 ^ 32 → waits ≤ 9 → distance exp ((exp + (2 ^ 32 + 7 - waits)) % 2 ^ 32) < 2 ^ 31 → waits ≤ 7
has_room exp waits lt most near = omega (arith, lt, most, near)

all_wait : (tasks : List Task) → TakePlaces tasks → waiting_tasks tasks ≡ length tasks
all_wait [] p = refl
all_wait (task ∷ more) p = rw p.0 (ap (λ (n : ℕ). suc n) (all_wait more p.1))

-- with the first alone immediate, they are one more at most than those that wait
pub few_more : (tasks : List Task) → TakePlaces (tasks_behind tasks) → length tasks ≤ waiting_tasks tasks + 1
few_more [] p = omega arith
few_more (task ∷ more) p = by_place task more (takes_place task) refl p
  where
    by_place : (task : Task) (more : List Task) (b : Bool) → takes_place task ≡ b → TakePlaces more → length (task ∷ more) ≤ waiting_tasks (task ∷ more) + 1
    by_place task more true e p = rw e (let f = all_wait more p in omega (arith, f))
    by_place task more false e p = rw e (let f = all_wait more p in omega (arith, f))

-- the same of a target, of which a number lies within the window
pub room_within : (s : Machine) (n : ℕ) (b : Bool) → b ≡ is_within n s.session.exp_cmd_sn (max_cmd_sn s)
    → b ≡ true → s.session.exp_cmd_sn < 2 ^ 32 → waiting_tasks s.tasks ≤ 9 → waiting_tasks s.tasks ≤ 7
room_within s n b is e fits few =
    let near : (distance s.session.exp_cmd_sn (max_cmd_sn s) < 2 ^ 31) × (distance s.session.exp_cmd_sn n ≤ distance s.session.exp_cmd_sn (max_cmd_sn s)) =
    search rules in
    has_room s.session.exp_cmd_sn (waiting_tasks s.tasks) fits few near.0

-- no task, or some
pub no_length : (tasks : List Task) → length tasks ≡ 0 → tasks ≡ []
no_length [] e = refl
no_length (task ∷ more) e = absurd (omega (arith, e))

pub some_length : (tasks : List Task) → 0 < length tasks → is_busy tasks ≡ true
some_length [] lt = absurd (omega (arith, lt))
some_length (task ∷ more) lt = refl

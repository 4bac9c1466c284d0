-- Worked actions of three ports, as a cluster of two nodes and a stranger.
use Rattle.std.specs.Prelude.{ℕ, Bool, false, List, [], ◌∷◌}
use Rattle.scsi_reservations.specs.declared.kind.Kind.TheVariants as kinds
use Rattle.scsi_reservations.specs.declared.kind.Access.TheVariants as access
use Rattle.scsi_reservations.specs.declared.ask.Action.{Action}
use Rattle.scsi_reservations.specs.declared.ask.Action.TheVariants as actions
use Rattle.scsi_reservations.specs.declared.ask.Ask.{Ask}
use Rattle.scsi_reservations.specs.declared.ask.Verdict.{Verdict}
use Rattle.scsi_reservations.specs.Reservations.{Nexus, Reservations, may, no_reservations, reserve}

-- Three ports.
abbrev pub port : ℕ → Nexus
port n = record { name = n ∷ []; isid = 0 ∷ 0 ∷ 0 ∷ 0 ∷ 0 ∷ n ∷ [] }

-- An action of a port, which may say no more than GOOD.
pub record Asked : Type 0 where
  pub port : ℕ
  pub action : Action
  pub key : ℕ
  pub service_key : ℕ

-- The port asks this with a key and a service key.
abbrev pub asks : ℕ → Action → ℕ → ℕ → Asked
asks port action key service_key = record { port = port; action = action; key = key; service_key = service_key }

-- It as PERSISTENT RESERVE OUT has it.
abbrev pub ask_of : Asked → Ask
ask_of a = record { action = a.action; key = a.key; service_key = a.service_key; lasts = false }

-- What is reserved behind these actions, and what was answered.
pub record Course : Type 0 where
  pub reservations : Reservations
  pub verdicts : List Verdict

-- The actions in turn, from these reservations on.
abbrev pub course_from : Reservations → List Asked → Course
course_from r [] = record { reservations = r; verdicts = [] }
course_from r (a ∷ more) =
    record {
      reservations = (course_from (reserve r (port a.port) (ask_of a)).reservations more).reservations;
      verdicts = (reserve r (port a.port) (ask_of a)).verdict
          ∷ (course_from (reserve r (port a.port) (ask_of a)).reservations more).verdicts;
    }

-- The actions in turn, from the start.
abbrev pub course : List Asked → Course
course asked = course_from no_reservations asked

-- Two nodes register, and one reserves for registered ones.
abbrev pub cluster : List Asked
cluster =
    asks 1 actions.RegisterAndIgnore 0 11
    ∷ asks 2 actions.RegisterAndIgnore 0 22
    ∷ asks 1 (actions.Reserve kinds.WriteExclusiveRegistrants) 11 0
    ∷ []

-- Node 2 takes node 1 off, and holds the reservation.
abbrev pub fencing : List Asked
fencing =
    asks 1 actions.RegisterAndIgnore 0 11
    ∷ asks 2 actions.RegisterAndIgnore 0 22
    ∷ asks 1 (actions.Reserve kinds.WriteExclusiveRegistrants) 11 0
    ∷ asks 2 (actions.PreemptAndAbort kinds.WriteExclusiveRegistrants) 22 11
    ∷ asks 1 (actions.Release kinds.WriteExclusiveRegistrants) 11 0
    ∷ asks 1 actions.Register 11 33
    ∷ []

-- The holder of an exclusive reservation is off: nothing is reserved.
abbrev pub leaving : List Asked
leaving =
    asks 1 actions.RegisterAndIgnore 0 11
    ∷ asks 2 actions.RegisterAndIgnore 0 22
    ∷ asks 1 (actions.Reserve kinds.ExclusiveAccess) 11 0
    ∷ asks 2 (actions.Reserve kinds.ExclusiveAccess) 22 0
    ∷ asks 1 actions.Register 11 0
    ∷ []

-- The same where all hold it: it stays, and the other releases it.
abbrev pub sharing : List Asked
sharing =
    asks 1 actions.RegisterAndIgnore 0 11
    ∷ asks 2 actions.RegisterAndIgnore 0 22
    ∷ asks 1 (actions.Reserve kinds.ExclusiveAccessAll) 11 0
    ∷ asks 1 actions.Register 11 0
    ∷ asks 2 (actions.Release kinds.WriteExclusive) 22 0
    ∷ asks 2 (actions.Release kinds.ExclusiveAccessAll) 22 0
    ∷ []

-- What a port may do, behind these actions: read, and change.
abbrev pub may_behind : List Asked → ℕ → Bool × Bool
may_behind asked n =
    (may (course asked).reservations (port n) access.Reads, may (course asked).reservations (port n) access.Changes)

-- How long a peer may keep its slot.
use Rattle.std.specs.Prelude.{ℕ, ◌*◌, ◌-◌, Option, Some, None, min}
use Rattle.iscsi_login.specs.declared.phase.Phase.{Phase}
use Rattle.iscsi_login.specs.declared.phase.Phase.TheVariants as phase
use Rattle.iscsi_options.specs.declared.limits.Limits.{Limits}

-- A peer takes none of the last answers of a closed session for n seconds at most.
abbrev pub last_write : ℕ
last_write = 30

-- How many nanoseconds are left of a limit in seconds after n; no limit is never over.
abbrev pub limit_left : Option ℕ → ℕ → Option ℕ
limit_left (Some limit) gone = Some (limit * 1_000_000_000 - gone)
limit_left None gone = None

-- The shorter of two times, of which none is the longest.
abbrev pub shorter : Option ℕ → Option ℕ → Option ℕ
shorter (Some one) (Some other) = Some (min one other)
shorter (Some one) None = Some one
shorter None other = other

-- How many nanoseconds are left to a session that was accepted, and had its last byte, n
-- nanoseconds ago, if no byte comes; none: any.
abbrev pub time_left : Limits → Phase → ℕ → ℕ → Option ℕ
time_left limits phase.Login accepted silent =
    shorter (limit_left limits.idle silent) (limit_left limits.login_within accepted)
time_left limits phase.Full accepted silent = limit_left limits.idle silent
time_left limits phase.Closed accepted silent =
    shorter (limit_left limits.idle silent) (limit_left (Some last_write) silent)

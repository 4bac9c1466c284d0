-- Why a session ends: by a fault of its target, or by its limits.
use Rattle.std.specs.Prelude.{ℕ, Bool, false, Option, Some, None, nat_le, ◌||◌, if◌then◌else◌}
use Rattle.iscsi_login.specs.declared.phase.Phase.{Phase}
use Rattle.iscsi_login.specs.declared.phase.Phase.TheVariants as phase
use Rattle.iscsi_options.specs.declared.limits.Limits.{Limits}
use Rattle.iscsi_options.specs.Limits.{last_write}
use Rattle.iscsi_target.specs.declared.fault.TargetFault.{TargetFault}
use Rattle.iscsi_target.specs.declared.fault.TargetFault.TheVariants as target
use Rattle.iscsi_serving.specs.declared.session_end.SessionEnd.{SessionEnd}
use Rattle.iscsi_serving.specs.declared.session_end.SessionEnd.TheVariants as ends

-- By a fault of its target, of which a want of memory is an end of its own.
abbrev pub end_of : TargetFault → SessionEnd
end_of target.NoMemory = ends.NoMemory
end_of (target.Stream fault) = ends.Target (target.Stream fault)
end_of (target.Protocol rule) = ends.Target (target.Protocol rule)
end_of target.Closed = ends.Target target.Closed

-- There is a limit, and n seconds reach it.
abbrev pub is_passed : Option ℕ → ℕ → Bool
is_passed (Some limit) seconds = nat_le limit seconds
is_passed None seconds = false

-- Why a session is ended that was accepted, and had its last byte, n seconds ago.
abbrev pub broken_limit : Limits → Phase → ℕ → ℕ → Option SessionEnd
broken_limit limits phase.Login accepted silent =
    if is_passed limits.login_within accepted then Some ends.LoginTooLate
    else if is_passed limits.idle silent then Some ends.Idle else None
broken_limit limits phase.Full accepted silent =
    if is_passed limits.idle silent then Some ends.Idle else None
broken_limit limits phase.Closed accepted silent =
    if is_passed limits.idle silent || nat_le last_write silent then Some ends.Idle else None

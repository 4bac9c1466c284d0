-- The stages of a login, and the moves between them (RFC 7143, section 6.3).
use Rattle.std.specs.Prelude.{ℕ, Bool, true, false}
use Rattle.iscsi_login.specs.declared.phase.Phase.{Phase}
use Rattle.iscsi_login.specs.declared.phase.Phase.TheVariants as phases
use Rattle.iscsi_login.specs.declared.stage.Stage.{Stage}
use Rattle.iscsi_login.specs.declared.stage.Stage.TheVariants.{Security, Operational, Full}

-- The number that a stage has on the wire (section 11.12.3).
abbrev pub stage_number : Stage → ℕ
stage_number Security = 0
stage_number Operational = 1
stage_number Full = 3

-- A login may move from the first to the second: forward, and never back (section 6.3).
abbrev pub may_move : Stage → Stage → Bool
may_move Security Operational = true
may_move Security Full = true
may_move Operational Full = true
may_move _ _ = false

-- The session is over (section 6.3).
abbrev pub is_closed_phase : Phase → Bool
is_closed_phase phases.Closed = true
is_closed_phase _ = false

-- What the functions that answer whole streams ask of a call.
use Rattle.std.specs.Prelude.{Bool, true, false, Result, Err}
use Rattle.iscsi_login.specs.declared.phase.Phase.{Phase}
use Rattle.iscsi_target.specs.declared.fault.TargetFault.{TargetFault}
use Rattle.iscsi_target.specs.declared.fault.TargetFault.TheVariants as faults

-- Memory ran out in a call of feed.
abbrev pub ran_out : Result Phase TargetFault → Bool
ran_out (Err faults.NoMemory) = true
ran_out _ = false

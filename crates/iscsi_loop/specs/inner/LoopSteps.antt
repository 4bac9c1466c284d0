-- More of `LoopSteps`, of which no public contract speaks.
use Rattle.std.specs.Prelude.{◌≡◌, List, [], ◌∷◌, ℕ, Option}
use Rattle.std.specs.Io.KnownBytes.{Appends}
use Rattle.iscsi_target.specs.declared.fault.TargetFault.TheVariants as target
use Rattle.iscsi_initiator.specs.declared.fault.InitiatorFault.TheVariants as initiator
use Rattle.iscsi_initiator.specs.declared.request.Done.{Done}
use Rattle.iscsi_initiator.specs.declared.request.Request.{Request}
use Rattle.iscsi_initiator.specs.declared.request.SubmitFault.{SubmitFault}
use Rattle.iscsi_initiator.specs.declared.request.SubmitFault.TheVariants as refusals
use Rattle.iscsi_initiator.specs.State.{InitiatorSession}
use Rattle.iscsi_initiator.specs.Laws.{InitiatorEvent, run, accepted_requests, outcomes_given}
use Rattle.iscsi_loop.specs.declared.command.Command.{Command}
use Rattle.iscsi_serving.specs.declared.fault.ServeFault.{ServeFault}
use Rattle.iscsi_serving.specs.declared.fault.ServeFault.TheVariants as serve
use Rattle.iscsi_stream.specs.Normalising.{WroteFront}
use Rattle.iscsi_loop.specs.Commands.{command_request}
use Rattle.iscsi_loop.specs.Reports.{report}
use Rattle.iscsi_loop.specs.Looping.{HaveOutcomes, FirstHaveOutcomes, reports, up_to_logout}

-- The faults of the session itself. None wraps the want of memory.
abbrev pub IsSessionFault : ServeFault → Type 0
IsSessionFault serve.NoMemory = Unit {0}
IsSessionFault serve.Network = Unit {0}
IsSessionFault (serve.Target target.NoMemory) = ⊥
IsSessionFault (serve.Target fault) = Unit {0}
IsSessionFault (serve.Initiator initiator.NoMemory) = ⊥
IsSessionFault (serve.Initiator fault) = Unit {0}
IsSessionFault (serve.Script n) = ⊥
IsSessionFault serve.Read = ⊥
IsSessionFault serve.Sync = ⊥
IsSessionFault serve.NoRandom = ⊥
IsSessionFault serve.Write = ⊥

-- A request that is refused counts as handed to a closed session, but where memory ran out.
abbrev pub refusal_fault : SubmitFault → ServeFault
refusal_fault refusals.NoMemory = serve.NoMemory
refusal_fault _ = serve.Initiator initiator.Closed

-- A session's fault comes behind the lines of the first commands' outcomes, and a failed write
-- leaves a front of such lines.
abbrev pub ScriptStops : ServeFault → List Command → Option (List ℕ) → Option (List ℕ) → Type 0
ScriptStops serve.Write commands contents_old contents_new =
    (outcomes : List Done) × FirstHaveOutcomes (up_to_logout commands) outcomes
    × WroteFront contents_old contents_new (reports outcomes)
ScriptStops fault commands contents_old contents_new = IsSessionFault fault
    × ((outcomes : List Done) × FirstHaveOutcomes (up_to_logout commands) outcomes
    × Appends contents_old contents_new (reports outcomes))

-- The commands up to the first logout were done, and the lines of their outcomes written.
abbrev pub ScriptRuns : List Command → Option (List ℕ) → Option (List ℕ) → Type 0
ScriptRuns commands contents_old contents_new =
    (outcomes : List Done) × HaveOutcomes (up_to_logout commands) outcomes
    × Appends contents_old contents_new (reports outcomes)

-- ---- the initiator's part

-- Events led the initiator from one state to the other, in which these requests were accepted and
-- these outcomes taken.
pub record InitiatorContinues (old : InitiatorSession) (asked : List Request) (taken : List Done)
    (new : InitiatorSession)
    : Type 0 where
  pub events : List InitiatorEvent
  pub reached : new ≡ run old events
  pub requests : accepted_requests old events ≡ asked
  pub outcomes : outcomes_given old events ≡ taken

-- A command's fault: one of the session comes before its line is written, and a failed write leaves
-- a front of the line of an outcome that the initiator gave.
abbrev pub CommandFails : ServeFault → InitiatorSession → Command → InitiatorSession → Option (List ℕ) → Option (List ℕ) → Type 0
CommandFails serve.Write old command new contents_old contents_new =
    (done : Done) × InitiatorContinues old (command_request command ∷ []) (done ∷ []) new
    × WroteFront contents_old contents_new (report done)
CommandFails fault old command new contents_old contents_new =
    IsSessionFault fault × Appends contents_old contents_new []

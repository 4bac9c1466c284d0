-- What one step of an initiator leads to (RFC 7143, section 6).
use Rattle.std.specs.Prelude.{ℕ, List, [], Option, Some, None}
use Rattle.iscsi_login.specs.declared.phase.Phase.TheVariants.{Closed}
use Rattle.iscsi_stream.specs.Stream.{Message}
use Rattle.iscsi_initiator.specs.declared.fault.InitiatorFault.{InitiatorFault}
use Rattle.iscsi_initiator.specs.declared.fault.InitiatorFault.TheVariants.{Protocol}
use Rattle.iscsi_initiator.specs.State.{InitiatorSession}

-- The session after a step, what it sends, and the fault, if there is one.
pub record InitiatorStep : Type 0 where
  pub machine : InitiatorSession
  pub output : List Message
  pub fault : Option InitiatorFault

-- Closing keeps all but the phase.
abbrev pub closed_session : InitiatorSession → InitiatorSession
closed_session m = record m { phase = Closed }

-- A fault closes the session, and nothing is sent (section 7.7; own rule).
abbrev pub fails : InitiatorSession → InitiatorFault → InitiatorStep
fails m fault = record { machine = closed_session m; output = []; fault = Some fault }

-- The target broke this rule (section 7.7; the numbers are own rule).
abbrev pub rule_broken : InitiatorSession → ℕ → InitiatorStep
rule_broken m rule = fails m (Protocol rule)

-- A step that sends these.
abbrev pub step_sending : InitiatorSession → List Message → InitiatorStep
step_sending m messages = record { machine = m; output = messages; fault = None }

-- A step that sends nothing.
abbrev pub quiet : InitiatorSession → InitiatorStep
quiet m = step_sending m []

-- The initiator's session, step by step over whole messages (RFC 7143, sections 4 to 11).
use Rattle.std.specs.Prelude.{if◌then◌else◌, List, [], ◌∷◌, ◌++◌, None}
use Rattle.iscsi_login.specs.declared.phase.Phase.{Phase}
use Rattle.iscsi_login.specs.declared.phase.Phase.TheVariants.{Login, Full, Closed}
use Rattle.iscsi_stream.specs.Segment.{segment_bytes}
use Rattle.iscsi_stream.specs.Stream.{Message}
use Rattle.iscsi_initiator.specs.State.{InitiatorSession, is_session_closed}
use Rattle.iscsi_initiator.specs.Steps.{InitiatorStep, rule_broken, quiet}
use Rattle.iscsi_initiator.specs.Login.{initiator_login_step}
use Rattle.iscsi_initiator.specs.Full.{initiator_full_step}
use Rattle.iscsi_pdu.specs.Rules.{kind_not_due}

-- A message comes in this phase; a closed session drops it (section 6.3; dropping is own rule).
abbrev pub step_in : Phase → InitiatorSession → Message → InitiatorStep
step_in Login m message =
    if m.started then initiator_login_step m message.head message.segment
    else rule_broken m kind_not_due
step_in Full m message = initiator_full_step m message.head (segment_bytes message.segment)
step_in Closed m message = quiet m

-- A message comes (section 4).
unfoldable pub initiator_step : InitiatorSession → Message → InitiatorStep
initiator_step m message = step_in m.phase m message

-- The outcome is handed out to who takes it.
abbrev pub outcome_handed_out : InitiatorSession → InitiatorSession
outcome_handed_out m = record m { done = None }

-- A step, and then others.
abbrev pub then_steps : InitiatorStep → InitiatorStep → InitiatorStep
then_steps a b = record b { output = a.output ++ b.output }

-- Several messages come, up to the first at which the session closes (section 4).
unfoldable pub steps : InitiatorSession → List Message → InitiatorStep
steps m [] = quiet m
steps m (message ∷ messages) =
    if is_session_closed (initiator_step m message).machine then initiator_step m message
    else then_steps (initiator_step m message) (steps (initiator_step m message).machine messages)

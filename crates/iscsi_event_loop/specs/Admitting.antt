-- Who comes to the slots of a service (RFC 7143, section 12.1.3).
use Rattle.iscsi_serving.specs.Access.{Door, IsAdmitted}
use Rattle.iscsi_sessions.specs.Turns.{SlotEvent, Comes}

-- A session that comes has the settings of one that is let in.
abbrev pub ComesBy : Door → SlotEvent → Type 0
ComesBy door (Comes slot settings) = IsAdmitted door settings
ComesBy door _ = Unit {0}

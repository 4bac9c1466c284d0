-- A session that takes the place of an older one: its initiator logged in once more, as after a
-- restart without a logout (RFC 7143, section 6.3.5).
use Rattle.std.specs.Prelude.{ℕ, Bool, true, false, not, ◌==◌, ◌&&◌, Option, None, Some}
use Rattle.std.specs.Str.{bytes_eq}
use Rattle.iscsi_login.specs.declared.phase.Phase.{Phase}
use Rattle.iscsi_login.specs.declared.phase.Phase.TheVariants as phases
use Rattle.iscsi_target_session.specs.Session.{Session}
use Rattle.iscsi_target_session.specs.LoginText.{is_normal}
use Rattle.iscsi_sessions.specs.Slots.{SessionTable, Slot, slot_at}

-- The login is completed, and the session goes on (section 6.3).
abbrev pub is_full_phase : Phase → Bool
is_full_phase phases.Full = true
is_full_phase _ = false

-- The session has commands: it is a normal one in full feature phase. One of discovery takes no
-- other's place and keeps its own (section 6.3; own rule).
abbrev pub is_served : Session → Bool
is_served s = is_full_phase s.phase && is_normal s.session_type

-- Both are with one port of an initiator: its name and its ISID are the same (section 4.1).
abbrev pub is_same_port : Session → Session → Bool
is_same_port s t = bytes_eq s.initiator_name t.initiator_name && bytes_eq s.isid t.isid

-- The newer session takes the place of the older one (section 6.3.5).
abbrev pub takes_over : Session → Session → Bool
takes_over newer older = is_served newer && (is_served older && is_same_port newer older)

-- The session of a slot.
abbrev pub session_of : Slot → Session
session_of s = s.connection.machine.session

-- A slot has a normal session whose login is completed.
abbrev pub is_served_at : Option Slot → Bool
is_served_at None = false
is_served_at (Some s) = is_served (session_of s)

-- The session of a slot takes the place of another slot's; free slots have none.
abbrev pub takes_over_at : Option Slot → Option Slot → Bool
takes_over_at None older = false
takes_over_at (Some newer) None = false
takes_over_at (Some newer) (Some older) = takes_over (session_of newer) (session_of older)

-- The session of this slot takes the place of that of another one (section 6.3.5).
abbrev pub takes_place_of : SessionTable → ℕ → ℕ → Bool
takes_place_of table slot place =
    not (place == slot) && takes_over_at (slot_at table slot) (slot_at table place)

-- The words of the law of access: whose session a turn is, and what its login showed (RFC 7143,
-- section 12.1.3).
--
-- `protected` says of the store that it refuses each write.
use Rattle.std.specs.Prelude.{◌≡◌, ℕ, Bool, true, List, [], ◌∷◌, ◌++◌, Some}
use Rattle.iscsi_text.specs.Key.{is_among}
use Rattle.iscsi_access.specs.Chap.{Chap}
use Rattle.iscsi_target_session.specs.Configured.{TargetSettings}
use Rattle.iscsi_target.specs.State.{Machine, opening_machine}
use Rattle.iscsi_target.specs.Access.{HasResponded}
use Rattle.iscsi_sessions.specs.Turns.{Turn, SlotEvent, Comes, Takes, KeepsSlot, SessionEvents, slot_events}

-- In one of the turns of a session a message ended a login text that has the name of an account that
-- this initiator may use, and the response of its secret to the challenge (section 12.1.3).
pub record HasRespondedIn (protected : Bool) (s : Machine) (c : Chap) (initiator : List ℕ)
    (es : List SlotEvent) : Type 0 where
  pub past : List SlotEvent
  pub turn : Turn
  pub later : List SlotEvent
  pub split : es ≡ past ++ Takes turn ∷ later
  pub machine : Machine
  pub reached : SessionEvents protected s past machine
  pub responded : HasResponded protected machine turn.before.disk c initiator turn.messages

-- The session of a turn came with these settings before it, and kept its slot. Where its login had to
-- show a secret, it did so. Where names are listed, its initiator has one of them.
pub record IsLetIn (protected : Bool) (past : List SlotEvent) (t : Turn)
    (settings : TargetSettings) : Type 0 where
  pub earlier : List SlotEvent
  pub own : List SlotEvent
  pub split : past ≡ earlier ++ Comes t.slot settings ∷ own
  pub keeps : KeepsSlot t.slot own
  pub end : Machine
  pub events : SessionEvents protected (opening_machine settings 1)
      (slot_events t.slot (own ++ Takes t ∷ [])) end
  pub secret : (c : Chap) → settings.extras.chap ≡ Some c
      → HasRespondedIn protected (opening_machine settings 1) c end.session.initiator_name
      (slot_events t.slot (own ++ Takes t ∷ []))
  pub name : (names : List (List ℕ)) → settings.extras.names ≡ Some names
      → is_among names end.session.initiator_name ≡ true

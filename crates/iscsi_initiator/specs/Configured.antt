-- What an initiator is configured with, and what is refused (RFC 7143, section 6.3).
use Rattle.std.specs.Prelude.{◌≡◌, ◌≤◌, Result, Ok, Err}
use Rattle.iscsi_login.specs.declared.stage.Stage.{Stage}
use Rattle.iscsi_login.specs.declared.stage.Stage.TheVariants as stages
use Rattle.iscsi_login.specs.declared.config_fault.ConfigFault.{ConfigFault}
use Rattle.iscsi_login.specs.declared.config_fault.ConfigFault.TheVariants.{NoMemory, BadName, OutOfRange}
use Rattle.iscsi_login.specs.Name.{IsName}
use Rattle.iscsi_login.specs.Negotiation.{ArePreferencesInRange}
use Rattle.iscsi_initiator.specs.State.{InitiatorSettings}

-- Both names are names (section 4.2.7).
pub record AreNames (settings : InitiatorSettings) : Type 0 where
  pub initiator : IsName settings.proposal.initiator
  pub target : IsName settings.proposal.target

-- A login starts at one of the first two stages (section 6.3).
abbrev pub IsStart : Stage → Type 0
IsStart stages.Security = Unit {0}
IsStart stages.Operational = Unit {0}
IsStart stages.Full = ⊥

-- Each number and the stage are in their ranges (section 13; that of the segment is own rule).
pub record AreSettingsInRange (settings : InitiatorSettings) : Type 0 where
  pub preferences : ArePreferencesInRange settings.proposal.prefs
  pub start : IsStart settings.start
  pub least : 64 ≤ settings.login_segment
  pub most : settings.login_segment ≤ 8192

-- Settings that are not refused.
pub record AreValid (settings : InitiatorSettings) : Type 0 where
  pub names : AreNames settings
  pub in_range : AreSettingsInRange settings

-- The settings are those that were given; each fault has its cause, the names' first.
abbrev pub InitiatorConfigPost : InitiatorSettings → Result InitiatorSettings ConfigFault → Type 0
InitiatorConfigPost given (Ok settings) = AreValid given × (settings ≡ given)
InitiatorConfigPost given (Err BadName) = ¬ AreNames given
InitiatorConfigPost given (Err OutOfRange) = AreNames given × (¬ AreSettingsInRange given)
InitiatorConfigPost given (Err NoMemory) = AreValid given

-- What the target of a session is configured with.
use Rattle.std.specs.Prelude.{ℕ, List}
use Rattle.iscsi_login.specs.declared.preferences.Preferences.{Preferences}
use Rattle.iscsi_target_session.specs.Configured.{TargetSettings, no_extras}

-- What the target is configured with for the session of a number: portal group 1, and the number as
-- its TSIH (RFC 7143, section 11.12.6; own rule). It is told no more.
abbrev pub settings_of : List ℕ → ℕ → Preferences → TargetSettings
settings_of name number preferences = record {
  name = name;
  group = 1;
  tsih = number;
  preferences = preferences;
  extras = no_extras;
}

-- What a service of several sessions at a time is asked for.
use Rattle.std.specs.Prelude.{◌<◌, ◌≤◌, ℕ, IfSome}
use Rattle.iscsi_login.specs.Name.{IsName}
use Rattle.iscsi_login.specs.Negotiation.{ArePreferencesInRange}
use Rattle.iscsi_portal.specs.Portal.{IsPortal}
use Rattle.iscsi_login.specs.declared.preferences.Preferences.{Preferences}
use Rattle.iscsi_options.specs.declared.limits.Limits.{Limits}
use Rattle.iscsi_options.specs.declared.options.Options.{Options}
use Rattle.iscsi_options.specs.declared.options.PortalOption.{PortalOption}
use Rattle.iscsi_options.specs.declared.options.PortalOption.TheVariants as portals
use Rattle.iscsi_options.specs.declared.options.Stop.{Stop}
use Rattle.iscsi_options.specs.declared.options.Stop.TheVariants as stops

-- the longest segment and burst that may be asked for, in bytes (own rule)
abbrev pub longest_asked : ℕ
longest_asked = 1048576

-- Each preference is in its key's range (RFC 7143, sections 13.12 to 13.16), and no segment or burst
-- is longer than may be asked for.
pub record AreOffered (preferences : Preferences) : Type 0 where
  pub range : ArePreferencesInRange preferences
  pub segment : preferences.max_recv ≤ longest_asked
  pub burst : preferences.max_burst ≤ longest_asked
  pub first_burst : preferences.first_burst ≤ preferences.max_burst

-- A limit of time is 1 second at least.
abbrev pub AreLimits : Limits → Type 0
AreLimits limits = IfSome limits.idle (λ s. 0 < s) × IfSome limits.login_within (λ s. 0 < s)

-- A disk in memory takes what one group of blocks does at least, and what 2^40 blocks do at most, in
-- bytes (own rule).
abbrev pub IsMemory : ℕ → Type 0
IsMemory memory = (32768 ≤ memory) × (memory ≤ 562949953421312)

-- How many connections or logins a service ends after.
abbrev pub stop_count : Stop → ℕ
stop_count (stops.Connections count) = count
stop_count (stops.Logins count) = count

-- An address that is told is that of a portal (RFC 7143, sections 4.2.7 and 13.8).
abbrev pub IsPortalOption : PortalOption → Type 0
IsPortalOption (portals.Other address) = IsPortal address.now
IsPortalOption _ = Unit {0}

-- 1 to 64 sessions at a time (own rule), a target's name, and the address of its portal, if it is told.
pub record IsService (options : Options) : Type 0 where
  pub some_slots : 0 < options.at_once
  pub few_slots : options.at_once ≤ 64
  pub name : IsName options.name.now
  pub portal : IsPortalOption options.portal
  pub preferences : AreOffered options.preferences

-- Who may log in at a service.
use Rattle.std.specs.Prelude.{◌≡◌, ◌<◌, ℕ, List, Option, None, Some, length, map}
use Rattle.std.specs.Option.{option_map}
use Rattle.iscsi_secrets.specs.Secrets.{Secrets, demand_of}
use Rattle.iscsi_target_session.specs.Configured.{TargetSettings}
use Rattle.iscsi_serving.specs.declared.access.Access.{Access}

-- The settings with these names of initiators, where names are listed.
abbrev pub settings_with_names : Option (List (List ℕ)) → TargetSettings → TargetSettings
settings_with_names None settings = settings
settings_with_names (Some names) settings = record settings {
  extras = record settings.extras { names = Some names };
}

-- Where there are secrets, a login has to show one, by an identifier of a byte and a challenge of 16
-- (RFC 1994, section 4.1).
abbrev pub DemandsSecret : Option Secrets → TargetSettings → TargetSettings → Type 0
DemandsSecret None settings made = made ≡ settings
DemandsSecret (Some secrets) settings made = (identifier : ℕ) × (challenge : List ℕ)
    × (identifier < 256) × (length challenge ≡ 16)
    × (made ≡ record settings {
      extras = record settings.extras { chap = Some (demand_of secrets identifier challenge) };
    })

-- The names of the initiators that may log in, if they are listed, and the secrets of which a login has
-- to show one, if there are some.
pub record Door : Type 0 where
  pub names : Option (List (List ℕ))
  pub secrets : Option Secrets

-- The door of a service for those who have this access.
abbrev pub door_of : Access → Door
door_of access = record {
  names = option_map (λ names. map (λ name. name.now) names.now) access.initiators;
  secrets = option_map (λ secrets. secrets.now) access.secrets;
}

-- Nobody is kept out.
abbrev pub open_door : Door
open_door = record { names = None; secrets = None }

-- The settings of a connection list these names, and demand one of these secrets by a challenge of
-- their own.
abbrev pub IsAdmitted : Door → TargetSettings → Type 0
IsAdmitted door settings = (base : TargetSettings)
    × DemandsSecret door.secrets (settings_with_names door.names base) settings

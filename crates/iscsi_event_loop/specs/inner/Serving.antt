-- More of `Serving`, of which no public contract speaks.
use Rattle.std.specs.Prelude.{ℕ, List, Option, None, Some}
use Rattle.iscsi_target_session.specs.Configured.{TargetSettings}
use Rattle.iscsi_options.specs.declared.options.UnitOptions.{UnitOptions}

-- The settings with the address of this portal, where one is told (RFC 7143, section 13.8).
abbrev pub settings_with_portal : Option (List ℕ) → TargetSettings → TargetSettings
settings_with_portal None settings = settings
settings_with_portal (Some portal) settings = record settings {
  extras = record settings.extras { portal = Some portal };
}

-- The settings with the disk of this name and serial number that tells more of itself, where it does (SPC-4; that it does is own rule).
abbrev pub telling : List ℕ → List ℕ → Option UnitOptions → TargetSettings → TargetSettings
telling name serial None settings = settings
telling name serial (Some unit) settings = record settings {
  extras = record settings.extras {
    unit = Some (record {
      name = name;
      serial = serial;
      write_protected = unit.write_protected;
      thin = unit.thin;
      write_back = unit.write_back;
    });
  };
}

-- The settings with Data-In of so many bytes at most, where a number is said.
abbrev pub limiting : Option ℕ → TargetSettings → TargetSettings
limiting None settings = settings
limiting (Some most) settings = record settings {
  extras = record settings.extras { longest_data_in = Some most };
}

-- The address of a portal (RFC 7143, section 13.8).
use Rattle.std.specs.Prelude.{◌≡◌, ◌≢◌, ℕ, ◌<◌, ◌≤◌, List, length, All, Result, Ok, Err}
use Rattle.iscsi_portal.specs.declared.portal.PortalFault.{PortalFault}
use Rattle.iscsi_portal.specs.declared.portal.PortalFault.TheVariants.{BadPortal, NoMemory}

-- A byte of `!` to `~` that is no comma, behind which the tag of the group stands (section 13.8; the
-- bytes are own rule).
abbrev pub IsInPortal : ℕ → Type 0
IsInPortal byte = (0x21 ≤ byte) × (byte ≤ 0x7e) × (byte ≢ 0x2c)

-- An address has 1 to 255 such bytes (section 13.8; the length is own rule).
pub record IsPortal (portal : List ℕ) : Type 0 where
  pub some : 0 < length portal
  pub few : length portal ≤ 255
  pub each : All IsInPortal portal

-- A portal keeps the address that it was given; each fault has its cause.
abbrev pub NewPortalPost : List ℕ → Result (List ℕ) PortalFault → Type 0
NewPortalPost bytes (Ok portal) = IsPortal bytes × (portal ≡ bytes)
NewPortalPost bytes (Err BadPortal) = ¬ IsPortal bytes
NewPortalPost bytes (Err NoMemory) = IsPortal bytes

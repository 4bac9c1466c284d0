-- A logical unit that tells more of itself than the profile does.
use Rattle.std.specs.Prelude.{ℕ, ◌<◌, ◌≤◌, Bool, List, length, All}

-- The name of its target, its serial number, whether it takes no write, whether it takes WRITE SAME, as
-- a thin unit does, and whether it has a write cache: then a write may be lost in a crash until it is
-- made to last.
pub record LogicalUnit : Type 0 where
  pub name : List ℕ
  pub serial : List ℕ
  pub write_protected : Bool
  pub thin : Bool
  pub write_back : Bool

-- A byte of `!` to `~` (own rule).
abbrev pub IsInSerial : ℕ → Type 0
IsInSerial byte = (0x21 ≤ byte) × (byte ≤ 0x7e)

-- A serial number has 1 to 16 such bytes (own rule).
pub record IsSerial (serial : List ℕ) : Type 0 where
  pub some : 0 < length serial
  pub few : length serial ≤ 16
  pub each : All IsInSerial serial

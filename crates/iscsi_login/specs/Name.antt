-- Names of initiators and targets (RFC 7143, section 4.2.7).
use Rattle.std.specs.Prelude.{ℕ, ◌<◌, ◌≤◌, List, length, All}

-- A name has 1 to 223 bytes, each of `!` to `~` (section 4.2.7; the bytes are own rule).
pub record IsName (name : List ℕ) : Type 0 where
  pub some : 0 < length name
  pub few : length name ≤ 223
  pub each : All (λ byte. (0x21 ≤ byte) × (byte ≤ 0x7e)) name

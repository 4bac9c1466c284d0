-- How far the open command is (RFC 7143, sections 11.7 and 11.8).
use Rattle.std.specs.Prelude.{ℕ, List}

-- A command that may read: the bytes expected, those received, and the next DataSN (section 11.7).
pub record ReadProgress : Type 0 where
  pub expected : ℕ
  pub received : List ℕ
  pub next_data_sn : ℕ

-- A command that may write: its data, how many of them are sent, and the next R2TSN (section 11.8).
pub record WriteProgress : Type 0 where
  pub bytes : List ℕ
  pub sent : ℕ
  pub next_r2t_sn : ℕ

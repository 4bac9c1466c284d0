-- Pairs, wherever their bytes lie in memory (RFC 7143, section 6.1).
use Rattle.std.specs.Prelude.{◌≡◌, ℕ, List, ◌∷◌, ◌++◌, map}
use Rattle.iscsi_text.specs.declared.pair.Pair.{Pair}
use Rattle.iscsi_text.specs.Value.{Typed, typed}
use Rattle.iscsi_text.specs.Text.{Pairs, HasNo}

-- A pair, wherever its bytes lie in memory (section 6.1).
abbrev pub shown : Pair → List ℕ × Typed
shown p = (p.key.now, typed p.value)

-- The pairs, wherever their bytes lie in memory (section 6.1).
abbrev pub all_shown : List Pair → Pairs
all_shown pairs = map shown pairs

-- The byte's first place is between these two parts (section 6.1).
pub record SplitsAtByte (bytes : List ℕ) (byte : ℕ) (front back : List ℕ) : Type 0 where
  pub whole : bytes ≡ front ++ byte ∷ back
  pub first : HasNo byte front

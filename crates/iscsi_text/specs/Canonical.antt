-- The canonical text of a map (own rule of RFC 7143, section 6.1).
use Rattle.std.specs.Prelude.{ℕ, List, [], ◌∷◌, ◌++◌}
use Rattle.std.specs.List.{flat_map}
use Rattle.iscsi_text.specs.Value.{Typed, value_text}
use Rattle.iscsi_text.specs.Text.{Pairs}

-- A pair with its canonical value and its final 0 (section 6.1).
abbrev pub pair_text : List ℕ × Typed → List ℕ
pair_text p = p.0 ++ 61 ∷ value_text p.1 ++ 0 ∷ []

-- Its pairs in their order, which in a meaning is that of the keys' bytes, and no spare byte.
abbrev pub canonical_text : Pairs → List ℕ
canonical_text pairs = flat_map pair_text pairs

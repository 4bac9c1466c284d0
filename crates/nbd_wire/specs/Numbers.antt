-- Numbers in a message, whose highest byte comes first ("Values").
use Rattle.std.specs.Prelude.{ℕ, List, take, drop}
use Rattle.std.specs.Int.{from_be_bytes, w16, w32, w64}

-- the number in the two bytes from an offset on
abbrev pub u16_of : ℕ → List ℕ → ℕ
u16_of at bytes = from_be_bytes w16 (take 2 (drop at bytes))

-- that in four bytes
abbrev pub u32_of : ℕ → List ℕ → ℕ
u32_of at bytes = from_be_bytes w32 (take 4 (drop at bytes))

-- that in eight bytes
abbrev pub u64_of : ℕ → List ℕ → ℕ
u64_of at bytes = from_be_bytes w64 (take 8 (drop at bytes))

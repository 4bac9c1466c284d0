-- More of `Listing`, of which no public contract speaks.
use Rattle.std.specs.Prelude.{◌≡◌, ℕ, List, ◌++◌}

-- the text goes on
abbrev pub TextGoesOn : List ℕ → List ℕ → Type 0
TextGoesOn old new = (more : List ℕ) × (new ≡ old ++ more)

-- What a job that has no other statement writes, and one that fails to write.
use Rattle.std.specs.Prelude.{ℕ, ◌<◌, List, length, take, Option}
use Rattle.std.specs.Io.KnownBytes.{Appends}

-- Some bytes were written.
abbrev pub WroteBytes : Option (List ℕ) → Option (List ℕ) → Type 0
WroteBytes old new = (written : List ℕ) × Appends old new written

-- A front of these bytes was written, and not all of them.
abbrev pub WroteLess : Option (List ℕ) → Option (List ℕ) → List ℕ → Type 0
WroteLess old new bytes = (n : ℕ) × (n < length bytes) × Appends old new (take n bytes)

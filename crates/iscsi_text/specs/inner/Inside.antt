-- What the parts of this crate do, as its own functions see it.
use Rattle.std.specs.Prelude.{◌≡◌, ◌≢◌, ℕ, ◌-◌, Bool, true, false, List, [], ◌∷◌, ◌++◌, length, Option}
use Rattle.std.specs.Borrow.{Bor}
use Rattle.std.specs.Option.{MatchOption, option_map}
use Rattle.std.specs.List.{flat_map, AllByRecursion}
use Rattle.std.specs.Str.{bytes_eq}
use Rattle.std.specs.Ordering.{nat_cmp, match_ordering}
use Rattle.std.specs.Cmp.Lexicographic.{slice_cmp}
use Rattle.iscsi_text.specs.declared.fault.TextFault.{TextFault}
use Rattle.iscsi_text.specs.declared.key.KeyKind.{KeyKind}
use Rattle.iscsi_text.specs.Key.{target_address}
use Rattle.iscsi_text.specs.Value.{Typed}
use Rattle.iscsi_text.specs.Text.{Pairs, values_of, Field, entry_bytes, IsInOrder, IsTextEntry, pairs_of}
use Rattle.iscsi_text.specs.Fault.{IsFaulty, place_of}

-- A row of the known keys, wherever its name lies in memory (section 6.1).
abbrev pub row_shown : Bor (List ℕ) × KeyKind → List ℕ × KeyKind
row_shown row = (row.0.now, row.1)

-- New is old with the pair behind the others of its key, of which there are none but at
-- `TargetAddress` (section 13.8).
pub record InsertsPair (old : Pairs) (pair : List ℕ × Typed) (new : Pairs) : Type 0 where
  pub in_order : IsInOrder new
  pub values : (key : List ℕ) → values_of key new ≡ values_of key old ++ values_of key (pair ∷ [])
  pub single : pair.0 ≢ target_address → values_of pair.0 old ≡ []

-- The second pair may stand right behind the first, in the order of keys and with no key twice but
-- `TargetAddress` (section 13.8).
abbrev pub follows : List ℕ × Typed → List ℕ × Typed → Bool
follows p q = match_ordering (slice_cmp nat_cmp p.0 q.0) true (bytes_eq p.0 target_address) false

-- The bytes begin with an entry in which nothing is wrong, of this pair, if it is no spare byte
-- (section 6.1).
pub record ReadsEntry (bytes : List ℕ) (pair : Option (List ℕ × Typed)) (rest : List ℕ) : Type 0 where
  pub entry : Option Field
  pub spelled : bytes ≡ entry_bytes entry ++ rest
  pub good : IsTextEntry entry
  pub shows : pair ≡ option_map (λ f. (f.key, f.value)) entry

-- The rest, at this place of a text, begins with an entry that is wrong in this way, whatever stands
-- before it (section 6.1).
pub record IsWrong (rest : List ℕ) (at : ℕ) (fault : TextFault) : Type 0 where
  pub place : place_of fault ≡ at
  pub faulty : IsFaulty [] rest fault

-- The bytes up to the rest are a row of entries, of these pairs, repeated keys among them (section
-- 6.1).
pub record GathersTo (bytes rest : List ℕ) (pairs : Pairs) : Type 0 where
  pub entries : List (Option Field)
  pub spelled : bytes ≡ flat_map entry_bytes entries ++ rest
  pub each : AllByRecursion IsTextEntry entries
  pub gathered : pairs ≡ pairs_of entries

-- The row is all there is, or this fault is behind it.
pub record GathersRow (bytes : List ℕ) (pairs : Pairs) (ended_by : Option TextFault) : Type 0 where
  pub rest : List ℕ
  pub row : GathersTo bytes rest pairs
  pub ended : MatchOption ended_by (rest ≡ []) (IsWrong rest (length bytes - length rest))

-- New is old with something behind it, as what is left where memory ran out.
abbrev pub ExtendsBytes : List ℕ → List ℕ → Type 0
ExtendsBytes old new = (more : List ℕ) × (new ≡ old ++ more)

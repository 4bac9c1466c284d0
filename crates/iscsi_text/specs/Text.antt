-- Texts of `key=value` pairs, each ended by a byte 0 (RFC 7143, section 6.1), and what they mean.
use Rattle.std.specs.Prelude.{◌≡◌, ◌≢◌, ℕ, ◌≤◌, Bool, true, not, List, [], ◌∷◌, ◌++◌, length, map, filter, All, Option, Some, None}
use Rattle.std.specs.List.{flat_map, AllByRecursion}
use Rattle.std.specs.Str.{bytes_eq}
use Rattle.std.specs.Ordering.{nat_cmp, is_le}
use Rattle.std.specs.Cmp.Lexicographic.{slice_cmp}
use Rattle.iscsi_text.specs.Key.{IsKey, is_among, kind_of, target_address}
use Rattle.iscsi_text.specs.Value.{Typed, MeansValue}

-- ---- the map

-- A map from keys to values, as its list of pairs: each value of a repeated key is a pair (section
-- 6.1).
abbrev pub Pairs : Type 0
Pairs = List (List ℕ × Typed)

-- The values of one key, in order: what the map has at this key (section 6.1).
abbrev pub values_of : List ℕ → Pairs → List Typed
values_of key pairs = map (λ p. p.1) (filter (λ p. bytes_eq p.0 key) pairs)

-- The pairs of other keys than these, in their order (section 6.1).
abbrev pub without : List (List ℕ) → Pairs → Pairs
without keys pairs = filter (λ p. not (is_among keys p.0)) pairs

-- No key but `TargetAddress` stands twice (sections 6.2 and 13.8).
abbrev pub IsSingle : Pairs → Type 0
IsSingle pairs = (key : List ℕ) → key ≢ target_address → length (values_of key pairs) ≤ 1

-- The byte order of keys (own rule; section 6.1 gives pairs no order).
abbrev pub key_le : List ℕ → List ℕ → Bool
key_le a b = is_le (slice_cmp nat_cmp a b)

-- Each key is at most those behind it.
abbrev pub IsInOrder : Pairs → Type 0
IsInOrder [] = Unit {0}
IsInOrder (p ∷ pairs) = AllByRecursion (λ q. key_le p.0 q.0 ≡ true) pairs × IsInOrder pairs

-- Arranged has the same values of each key, with the keys in order: both are the same map.
pub record ArrangesPairs (pairs arranged : Pairs) : Type 0 where
  pub in_order : IsInOrder arranged
  pub same : (key : List ℕ) → values_of key arranged ≡ values_of key pairs

-- ---- the bytes

-- The byte isn't among these (section 6.1: `=` ends a key, and 0 a pair).
abbrev pub HasNo : ℕ → List ℕ → Type 0
HasNo byte bytes = All (λ b. b ≢ byte) bytes

-- A pair as it stands in a text: its key, the bytes behind the `=`, and what they mean (section
-- 6.1).
pub record Field : Type 0 where
  pub key : List ℕ
  pub bytes : List ℕ
  pub value : Typed

-- An entry with its final 0; one with nothing before the 0 is a spare byte (section 6.1; spare
-- bytes are own rules).
abbrev pub entry_bytes : Option Field → List ℕ
entry_bytes None = 0 ∷ []
entry_bytes (Some f) = f.key ++ 61 ∷ f.bytes ++ 0 ∷ []

-- The key is one, the value ends at the 0, and its bytes mean it (section 6.1).
pub record IsField (f : Field) : Type 0 where
  pub key : IsKey f.key
  pub ends : HasNo 0 f.bytes
  pub value : MeansValue (kind_of f.key) f.bytes f.value

-- An entry in which nothing is wrong (section 6.1).
abbrev pub IsTextEntry : Option Field → Type 0
IsTextEntry None = Unit {0}
IsTextEntry (Some f) = IsField f

-- The pairs of a row of entries, in its order (section 6.1).
abbrev pub pairs_of : List (Option Field) → Pairs
pairs_of [] = []
pairs_of (None ∷ entries) = pairs_of entries
pairs_of (Some f ∷ entries) = (f.key, f.value) ∷ pairs_of entries

-- The bytes begin with a row of these entries, in which nothing is wrong (section 6.1).
pub record BeginsWithEntries (bytes : List ℕ) (entries : List (Option Field)) (rest : List ℕ) : Type
    0 where
  pub spelled : bytes ≡ flat_map entry_bytes entries ++ rest
  pub each : AllByRecursion IsTextEntry entries
  pub single : IsSingle (pairs_of entries)

-- ---- the meaning

-- The text is a row of entries and nothing else, and this is its map, in the order of keys (section
-- 6.1).
pub record TextMeans (text : List ℕ) (arranged : Pairs) : Type 0 where
  pub entries : List (Option Field)
  pub row : BeginsWithEntries text entries []
  pub arranges : ArrangesPairs (pairs_of entries) arranged

-- A pair that some text has (section 6.1).
pub record IsPair (pair : List ℕ × Typed) : Type 0 where
  pub key : IsKey pair.0
  pub bytes : List ℕ
  pub ends : HasNo 0 bytes
  pub means : MeansValue (kind_of pair.0) bytes pair.1

-- A map that some text means: pairs in the order of keys, none twice but `TargetAddress` (section
-- 6.1).
pub record IsMeaning (arranged : Pairs) : Type 0 where
  pub in_order : IsInOrder arranged
  pub single : IsSingle arranged
  pub each : AllByRecursion IsPair arranged

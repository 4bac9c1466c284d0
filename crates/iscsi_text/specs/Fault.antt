-- What can be wrong in a text, and which fault is the first (RFC 7143, section 6.1; the order of
-- faults is own rule).
use Rattle.std.specs.Prelude.{◌≡◌, ◌≢◌, ℕ, ◌<◌, List, [], ◌∷◌, ◌++◌, length, Option}
use Rattle.std.specs.List.{flat_map}
use Rattle.iscsi_text.specs.declared.fault.TextFault.{TextFault}
use Rattle.iscsi_text.specs.declared.fault.TextFault.TheVariants.{NoMemory, Unterminated, NoEquals, BadKey, Repeated}
use Rattle.iscsi_text.specs.Key.{IsKey, target_address}
use Rattle.iscsi_text.specs.Text.{Pairs, values_of, Field, entry_bytes, HasNo, pairs_of, BeginsWithEntries}

-- There is a pair, and no byte 0 ends it (section 6.1).
pub record IsUnended (rest : List ℕ) : Type 0 where
  pub some : rest ≢ []
  pub no_end : HasNo 0 rest

-- The first pair is ended and has no `=` (section 6.1).
pub record LacksEquals (rest : List ℕ) : Type 0 where
  pub pair : List ℕ
  pub more : List ℕ
  pub whole : rest ≡ pair ++ 0 ∷ more
  pub some : pair ≢ []
  pub no_end : HasNo 0 pair
  pub no_equals : HasNo 61 pair

-- The first pair is ended, and this stands before its first `=` (section 6.1).
pub record NamesFirst (key rest : List ℕ) : Type 0 where
  pub bytes : List ℕ
  pub more : List ℕ
  pub whole : rest ≡ key ++ 61 ∷ bytes ++ 0 ∷ more
  pub no_equals : HasNo 61 key
  pub key_ends : HasNo 0 key
  pub bytes_end : HasNo 0 bytes

-- What stands before the `=` is no key (section 6.1).
pub record HasBadKey (rest : List ℕ) : Type 0 where
  pub key : List ℕ
  pub first : NamesFirst key rest
  pub bad : ¬ IsKey key

-- The key stands among these pairs already, and isn't the one that may (sections 6.2 and 13.8).
pub record RepeatsKey (pairs : Pairs) (rest : List ℕ) : Type 0 where
  pub key : List ℕ
  pub first : NamesFirst key rest
  pub good : IsKey key
  pub other : key ≢ target_address
  pub again : 0 < length (values_of key pairs)

-- The rest, behind pairs with nothing wrong, begins with a pair that is wrong in this way (section
-- 6.1).
abbrev pub IsFaulty : Pairs → List ℕ → TextFault → Type 0
IsFaulty pairs rest (Unterminated at) = IsUnended rest
IsFaulty pairs rest (NoEquals at) = LacksEquals rest
IsFaulty pairs rest (BadKey at) = HasBadKey rest
IsFaulty pairs rest (Repeated at) = RepeatsKey pairs rest
-- being out of memory is no fault of a text
IsFaulty pairs rest NoMemory = ⊥

-- The place that a fault names; being out of memory names none.
abbrev pub place_of : TextFault → ℕ
place_of (Unterminated at) = at
place_of (NoEquals at) = at
place_of (BadKey at) = at
place_of (Repeated at) = at
place_of NoMemory = 0

-- The fault is that of the first faulty pair, and names the number of bytes before it.
pub record IsFirstFault (text : List ℕ) (fault : TextFault) : Type 0 where
  pub entries : List (Option Field)
  pub rest : List ℕ
  pub row : BeginsWithEntries text entries rest
  pub place : place_of fault ≡ length (flat_map entry_bytes entries)
  pub faulty : IsFaulty (pairs_of entries) rest fault

-- Keys, and the kinds of value that the known ones have (RFC 7143, sections 6.1 and 13).
use Rattle.std.specs.Prelude.{Bool, ◌≡◌, ℕ, ◌≤◌, ◌⊎◌, List, [], ◌∷◌, ◌++◌, length, map, find, All, slice_index, Option, codes}
use Rattle.std.specs.Option.{option_map}
use Rattle.std.specs.List.{list_any}
use Rattle.std.specs.Str.{bytes_eq}
use Rattle.iscsi_text.specs.declared.key.KeyKind.{KeyKind}
use Rattle.iscsi_text.specs.declared.key.KeyKind.TheVariants.{Number, Boolean, Plain}
use Rattle.iscsi_text.specs.Negotiated.{name_of, rule_of, kind_by, all_keys}

-- A letter of ASCII (section 6.1).
abbrev pub IsLetter : ℕ → Type 0
IsLetter c = ((65 ≤ c) × (c ≤ 90)) ⊎ ((97 ≤ c) × (c ≤ 122))

-- A decimal digit (section 6.1).
abbrev pub IsDigit : ℕ → Type 0
IsDigit c = (48 ≤ c) × (c ≤ 57)

-- A letter, a digit, or one of `.` `-` `+` `@` `_` `#` (section 6.1; `#` is own rule).
abbrev pub IsKeyByte : ℕ → Type 0
IsKeyByte c = IsLetter c
    ⊎ (IsDigit c ⊎ ((c ≡ 46) ⊎ ((c ≡ 45) ⊎ ((c ≡ 43) ⊎ ((c ≡ 64) ⊎ ((c ≡ 95) ⊎ (c ≡ 35)))))))

-- 1 to 63 such bytes, the first of them a letter (section 6.1; that it may be a small one is own
-- rule).
pub record IsKey (key : List ℕ) : Type 0 where
  pub size : length key ≤ 63
  pub first : IsLetter (slice_index key 0)
  pub bytes : All IsKeyByte key

-- The key is one of these names; case counts (section 6.1).
abbrev pub is_among : List (List ℕ) → List ℕ → Bool
is_among names key = list_any (λ name. bytes_eq name key) names

-- The only key that may stand more than once in a text (section 13.8).
abbrev pub target_address : List ℕ
target_address = codes "TargetAddress"

-- The known keys that aren't negotiated, each with the kind of its value (section 13; the markers'
-- keys are of RFC 3720, appendix A).
abbrev pub declared : List (List ℕ × KeyKind)
declared = (codes "MaxRecvDataSegmentLength", Number) ∷ (codes "TargetPortalGroupTag", Number)
    ∷ (codes "IFMarker", Boolean) ∷ (codes "OFMarker", Boolean)
    ∷ (codes "InitiatorName", Plain) ∷ (codes "TargetName", Plain)
    ∷ (codes "InitiatorAlias", Plain) ∷ (codes "TargetAlias", Plain)
    ∷ (target_address, Plain) ∷ (codes "SessionType", Plain)
    ∷ (codes "IFMarkInt", Plain) ∷ (codes "OFMarkInt", Plain)
    ∷ (codes "SendTargets", Plain) ∷ []

-- The known keys, each with the kind of its value (section 13).
abbrev pub known : List (List ℕ × KeyKind)
known = map (λ key. (name_of key, kind_by (rule_of key))) all_keys ++ declared

-- The names of the known keys (section 13).
abbrev pub known_keys : List (List ℕ)
known_keys = map name_of all_keys ++ map (λ key. key.0) declared

-- The kind that the first key of this name has; case counts (section 6.1).
abbrev pub kind_in : List (List ℕ × KeyKind) → List ℕ → Option KeyKind
kind_in keys name = option_map (λ key. key.1) (find (λ key. bytes_eq key.0 name) keys)

-- The kind of value that a known key has, and none for an unknown key (section 13).
unfoldable pub kind_of : List ℕ → Option KeyKind
kind_of name = kind_in known name

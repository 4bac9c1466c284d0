-- Typed values, and the bytes that mean them (RFC 7143, section 6.1).
use Rattle.std.specs.Prelude.{◌≡◌, ◌≢◌, ℕ, ◌<◌, ◌==◌, Bool, true, false, List, length, All, Option, Some, None, codes}
use Rattle.std.specs.List.{slice_split}
use Rattle.iscsi_text.specs.declared.key.KeyKind.{KeyKind}
use Rattle.iscsi_text.specs.declared.key.KeyKind.TheVariants as kinds
use Rattle.iscsi_text.specs.declared.value.Value.{Value}
use Rattle.iscsi_text.specs.declared.value.Value.TheVariants as values
use Rattle.iscsi_text.specs.Numeral.{SpellsNumber, canonical_number}

-- A value by its key's type, wherever its bytes lie in memory (section 6.1).
pub data Typed : Type 0 where
  Number : ℕ → Typed
  Boolean : Bool → Typed
  Items : List ℕ → Typed
  Plain : List ℕ → Typed
  Odd : List ℕ → Typed

-- What the code's value is, its slices read (section 6.1).
abbrev pub typed : Value → Typed
typed (values.Number n) = Number n
typed (values.Boolean b) = Boolean b
typed (values.Items bytes) = Items bytes.now
typed (values.Plain bytes) = Plain bytes.now
typed (values.Odd bytes) = Odd bytes.now

-- The two boolean values (section 6.1).
abbrev pub boolean_text : Bool → List ℕ
boolean_text true = codes "Yes"
boolean_text false = codes "No"

-- A list of values: items of one byte or more, separated by commas (section 6.1).
abbrev pub IsItems : List ℕ → Type 0
IsItems bytes = All (λ item. 0 < length item) (slice_split (λ b. b == 44) bytes)

-- Behind a key of this kind the bytes mean the value (section 6.1; that bytes of the wrong form
-- stay, as odd, is own rule).
abbrev pub MeansValue : Option KeyKind → List ℕ → Typed → Type 0
MeansValue (Some kinds.Number) bytes (Number n) = SpellsNumber bytes n
MeansValue (Some kinds.Number) bytes (Odd odd) = (odd ≡ bytes) × ((n : ℕ) → ¬ SpellsNumber bytes n)
MeansValue (Some kinds.Boolean) bytes (Boolean b) = bytes ≡ boolean_text b
MeansValue (Some kinds.Boolean) bytes (Odd odd) =
    (odd ≡ bytes) × ((b : Bool) → bytes ≢ boolean_text b)
MeansValue (Some kinds.Items) bytes (Items items) = (items ≡ bytes) × IsItems bytes
MeansValue (Some kinds.Items) bytes (Odd odd) = (odd ≡ bytes) × (¬ IsItems bytes)
MeansValue (Some kinds.Plain) bytes (Plain plain) = plain ≡ bytes
-- behind an unknown key they stay as they are
MeansValue None bytes (Plain plain) = plain ≡ bytes
-- and mean nothing else
MeansValue _ bytes _ = ⊥

-- The canonical bytes of a value: the canonical numeral, or the bytes that it keeps (own rule of
-- section 6.1).
abbrev pub value_text : Typed → List ℕ
value_text (Number n) = canonical_number n
value_text (Boolean b) = boolean_text b
value_text (Items bytes) = bytes
value_text (Plain bytes) = bytes
value_text (Odd bytes) = bytes

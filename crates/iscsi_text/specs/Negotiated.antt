-- The negotiated keys: one row for each (RFC 7143, sections 13 and 12.1).
use Rattle.std.specs.Prelude.{ℕ, ◌≤◌, Bool, true, false, List, [], ◌∷◌, ◌++◌, Option, find, codes}
use Rattle.std.specs.Str.{bytes_eq}
use Rattle.iscsi_text.specs.declared.key.KeyKind.{KeyKind}
use Rattle.iscsi_text.specs.declared.key.KeyKind.TheVariants as kinds
use Rattle.iscsi_text.specs.declared.negotiated.NegKey.{NegKey}
use Rattle.iscsi_text.specs.declared.negotiated.NegKey.TheVariants as keys
use Rattle.iscsi_text.specs.declared.negotiated.Range.{Range}
use Rattle.iscsi_text.specs.declared.negotiated.Rule.{Rule}
use Rattle.iscsi_text.specs.declared.negotiated.Rule.TheVariants.{Minimum, Maximum, Or, And, NoneItem}
use Rattle.iscsi_text.specs.declared.negotiated.Answered.{Answered}
use Rattle.iscsi_text.specs.declared.negotiated.Answered.TheVariants as answers
use Rattle.iscsi_text.specs.declared.negotiated.Session.{Session}
use Rattle.iscsi_text.specs.declared.negotiated.Session.TheVariants.{Normal, Discovery}

-- What the table has for a key (section 13).
pub record KeyRow : Type 0 where
  -- its place among all keys
  pub place : ℕ
  -- as it stands in a text
  pub name : List ℕ
  -- the values that it may have, and how an offer and a preference give one of them
  pub rule : Rule
  -- the value held where none was agreed
  pub default : Answered
  -- whether a discovery session answers it by `Irrelevant` (own rule)
  pub irrelevant : Bool

-- A row of the table (section 13).
abbrev pub line : ℕ → List ℕ → Rule → Answered → Bool → KeyRow
line place name rule default irrelevant =
    record { place = place; name = name; rule = rule; default = default; irrelevant = irrelevant }

-- The number is in the range, ends included (section 13).
abbrev pub IsWithin : Range → ℕ → Type 0
IsWithin range n = (range.low ≤ n) × (n ≤ range.high)

-- The numbers from low to high (section 13).
abbrev pub between : ℕ → ℕ → Range
between low high = record { low = low; high = high }

-- The table: place, name, rule, default, irrelevant in a discovery session (sections 13.1, 13.2,
-- 13.10 to 13.20, 12.1).
abbrev pub row : NegKey → KeyRow
row keys.MaxConnections = line 0 (codes "MaxConnections") (Minimum (between 1 65535)) (answers.Number 1) true
row keys.InitialR2T = line 1 (codes "InitialR2T") Or (answers.Flag true) true
row keys.ImmediateData = line 2 (codes "ImmediateData") And (answers.Flag true) true
row keys.MaxBurstLength = line 3 (codes "MaxBurstLength") (Minimum (between 512 16777215)) (answers.Number 262144) true
row keys.FirstBurstLength = line 4 (codes "FirstBurstLength") (Minimum (between 512 16777215)) (answers.Number 65536) true
row keys.DefaultTime2Wait = line 5 (codes "DefaultTime2Wait") (Maximum (between 0 3600)) (answers.Number 2) true
row keys.DefaultTime2Retain = line 6 (codes "DefaultTime2Retain") (Minimum (between 0 3600)) (answers.Number 20) true
row keys.MaxOutstandingR2T = line 7 (codes "MaxOutstandingR2T") (Minimum (between 1 65535)) (answers.Number 1) true
row keys.DataPDUInOrder = line 8 (codes "DataPDUInOrder") Or (answers.Flag true) true
row keys.DataSequenceInOrder = line 9 (codes "DataSequenceInOrder") Or (answers.Flag true) true
row keys.ErrorRecoveryLevel = line 10 (codes "ErrorRecoveryLevel") (Minimum (between 0 2)) (answers.Number 0) true
row keys.HeaderDigest = line 11 (codes "HeaderDigest") NoneItem answers.NoneItem false
row keys.DataDigest = line 12 (codes "DataDigest") NoneItem answers.NoneItem false
-- that nothing offered means `None` is own rule
row keys.AuthMethod = line 13 (codes "AuthMethod") NoneItem answers.NoneItem false

-- The keys that are offered in the operational stage (section 13).
abbrev pub operational_keys : List NegKey
operational_keys = keys.MaxConnections ∷ keys.InitialR2T ∷ keys.ImmediateData
    ∷ keys.MaxBurstLength ∷ keys.FirstBurstLength ∷ keys.DefaultTime2Wait
    ∷ keys.DefaultTime2Retain ∷ keys.MaxOutstandingR2T ∷ keys.DataPDUInOrder
    ∷ keys.DataSequenceInOrder ∷ keys.ErrorRecoveryLevel ∷ keys.HeaderDigest ∷ keys.DataDigest ∷ []

-- Every key, in the order of the table (sections 13 and 12.1).
abbrev pub all_keys : List NegKey
all_keys = operational_keys ++ keys.AuthMethod ∷ []

-- A key's place in `all_keys`.
abbrev pub key_place : NegKey → ℕ
key_place key = (row key).place

-- The key as it stands in a text (section 13).
abbrev pub name_of : NegKey → List ℕ
name_of key = (row key).name

-- The values that it may have, and how an offer and a preference give one of them (section 13).
abbrev pub rule_of : NegKey → Rule
rule_of key = (row key).rule

-- The kind of the values of a key with this rule (section 6.1).
abbrev pub kind_by : Rule → KeyKind
kind_by (Minimum range) = kinds.Number
kind_by (Maximum range) = kinds.Number
kind_by Or = kinds.Boolean
kind_by And = kinds.Boolean
kind_by NoneItem = kinds.Items

-- The value held where none was agreed (section 13).
abbrev pub default_of : NegKey → Answered
default_of key = (row key).default

-- The negotiated key of this name; case counts (section 6.1).
abbrev pub key_named : List ℕ → Option NegKey
key_named name = find (λ key. bytes_eq (name_of key) name) all_keys

-- The session answers the key by `Irrelevant` (section 6.2; that it does in each discovery session
-- is own rule).
abbrev pub is_irrelevant : Session → NegKey → Bool
is_irrelevant Normal key = false
is_irrelevant Discovery key = (row key).irrelevant

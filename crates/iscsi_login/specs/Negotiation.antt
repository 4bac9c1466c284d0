-- What an offer and a preference give, and which answers are legal (RFC 7143, sections 6.2, 13 and
-- 12.1).
use Rattle.std.specs.Prelude.{◌≡◌, ℕ, ◌==◌, ◌⊎◌, Bool, true, false, not, ◌&&◌, ◌||◌, IsTrue, List, [], ◌∷◌, nat_le, min, max, if◌then◌else◌, codes}
use Rattle.std.specs.List.{list_any, slice_split}
use Rattle.std.specs.Str.{bytes_eq}
use Rattle.iscsi_text.specs.Key.{is_among}
use Rattle.iscsi_text.specs.Value.{Typed}
use Rattle.iscsi_text.specs.Value as values
use Rattle.iscsi_text.specs.declared.negotiated.NegKey.{NegKey}
use Rattle.iscsi_text.specs.declared.negotiated.NegKey.TheVariants as keys
use Rattle.iscsi_text.specs.declared.negotiated.Range.{Range}
use Rattle.iscsi_text.specs.declared.negotiated.Rule.{Rule}
use Rattle.iscsi_text.specs.declared.negotiated.Rule.TheVariants as rules
use Rattle.iscsi_text.specs.declared.negotiated.Answered.{Answered}
use Rattle.iscsi_text.specs.declared.negotiated.Answered.TheVariants.{Number, Flag, NoneItem, Reject}
use Rattle.iscsi_login.specs.declared.preferences.Preferences.{Preferences}
use Rattle.iscsi_text.specs.Negotiated.{rule_of, default_of, between, IsWithin}

-- ---- preferences

-- The preference for a key, its default where no field says one (own rule of section 13).
abbrev pub preference : Preferences → NegKey → Answered
preference p keys.InitialR2T = Flag p.initial_r2t
preference p keys.ImmediateData = Flag p.immediate_data
preference p keys.MaxBurstLength = Number p.max_burst
preference p keys.FirstBurstLength = Number p.first_burst
preference p keys.DefaultTime2Wait = Number p.time2wait
preference p keys.DefaultTime2Retain = Number p.time2retain
preference p key = default_of key

-- What an end prefers that was told nothing else (own rule).
abbrev pub standard_preferences : Preferences
standard_preferences = record {
  initial_r2t = false;
  immediate_data = true;
  max_burst = 262144;
  first_burst = 65536;
  time2wait = 2;
  time2retain = 20;
  max_recv = 8192;
}

-- ---- values

-- The rule allows the value (section 13).
abbrev pub AllowsValue : Rule → Answered → Type 0
AllowsValue (rules.Minimum range) (Number n) = IsWithin range n
AllowsValue (rules.Maximum range) (Number n) = IsWithin range n
AllowsValue rules.Or (Flag b) = Unit {0}
AllowsValue rules.And (Flag b) = Unit {0}
AllowsValue rules.NoneItem NoneItem = Unit {0}
AllowsValue _ _ = ⊥

-- How many bytes a receiver may declare as the most that it takes in one segment (section 13.12).
abbrev pub max_recv_range : Range
max_recv_range = between 512 16777215

-- Each number is in its key's range (section 13).
pub record ArePreferencesInRange (p : Preferences) : Type 0 where
  pub max_burst : AllowsValue (rule_of keys.MaxBurstLength) (Number p.max_burst)
  pub first_burst : AllowsValue (rule_of keys.FirstBurstLength) (Number p.first_burst)
  pub time2wait : AllowsValue (rule_of keys.DefaultTime2Wait) (Number p.time2wait)
  pub time2retain : AllowsValue (rule_of keys.DefaultTime2Retain) (Number p.time2retain)
  pub max_recv : IsWithin max_recv_range p.max_recv

-- An item of the list is `None` (section 6.2.1).
abbrev pub has_none : List ℕ → Bool
has_none items = list_any (λ item. bytes_eq item (codes "None")) (slice_split (λ b. b == 44) items)

-- The number, or `Reject` where it is out of the range (section 13).
abbrev pub in_range : Range → ℕ → Answered
in_range range n = if nat_le range.low n && nat_le n range.high then Number n else Reject

-- The value that the rule allows and a typed value stands for, or `Reject` where there is none
-- (section 6.2).
abbrev pub value_of : Rule → Typed → Answered
value_of (rules.Minimum range) (values.Number n) = in_range range n
value_of (rules.Maximum range) (values.Number n) = in_range range n
value_of rules.Or (values.Boolean b) = Flag b
value_of rules.And (values.Boolean b) = Flag b
value_of rules.NoneItem (values.Items items) = if has_none items then NoneItem else Reject
value_of _ _ = Reject

-- ---- results

-- The function of a rule on an offered and a preferred value (sections 6.2 and 13).
abbrev pub chosen : Rule → Answered → Answered → Answered
chosen (rules.Minimum range) (Number a) (Number b) = Number (min a b)
chosen (rules.Maximum range) (Number a) (Number b) = Number (max a b)
chosen rules.Or (Flag a) (Flag b) = Flag (a || b)
chosen rules.And (Flag a) (Flag b) = Flag (a && b)
chosen rules.NoneItem NoneItem NoneItem = NoneItem
chosen _ _ _ = Reject

-- What an offer of a key and a preferred value give, or `Reject` (section 6.2).
abbrev pub result_with : NegKey → Typed → Answered → Answered
result_with key offer preferred = chosen (rule_of key) (value_of (rule_of key) offer) preferred

-- What an offer gives at an end with these preferences, or `Reject` (section 6.2).
abbrev pub result_of : NegKey → Typed → Preferences → Answered
result_of key offer p = result_with key offer (preference p key)

-- ---- answers

-- The words that answer for a value (section 6.2).
abbrev pub words : List (List ℕ)
words = codes "Reject" ∷ codes "Irrelevant" ∷ codes "NotUnderstood" ∷ []

-- The value is one of these words, whatever its key's kind (section 6.2).
abbrev pub is_answer_word : Typed → Bool
is_answer_word (values.Items bytes) = is_among words bytes
is_answer_word (values.Plain bytes) = is_among words bytes
is_answer_word (values.Odd bytes) = is_among words bytes
is_answer_word _ = false

-- A word as it is read behind a key of this rule (section 6.1).
abbrev pub word : Rule → List ℕ → Typed
word rules.NoneItem bytes = values.Items bytes
word _ bytes = values.Odd bytes

-- A value, or the word `Reject`, as it is read behind a key of this rule (section 6.1).
abbrev pub answered_value : Rule → Answered → Typed
answered_value rule (Number n) = values.Number n
answered_value rule (Flag b) = values.Boolean b
answered_value rule NoneItem = values.Items (codes "None")
answered_value rule Reject = word rule (codes "Reject")

-- The answer is what the offer and some preference that the key allows give, and a value of the key
-- (section 6.2).
pub record IsChoice (key : NegKey) (offer answer : Typed) : Type 0 where
  pub preferred : Answered
  pub allowed : AllowsValue (rule_of key) preferred
  pub result : AllowsValue (rule_of key) (result_with key offer preferred)
  pub same : answer ≡ answered_value (rule_of key) (result_with key offer preferred)

-- The answer is one of the words, or a choice (section 6.2).
abbrev pub IsLegal : NegKey → Typed → Typed → Type 0
IsLegal key offer answer = IsTrue (is_answer_word answer) ⊎ IsChoice key offer answer

-- ---- the test

-- Some preference that the rule allows gives this value from this offer (section 6.2).
abbrev pub is_given : Rule → Answered → Answered → Bool
is_given (rules.Minimum range) (Number offer) (Number answer) = nat_le answer offer
is_given (rules.Maximum range) (Number offer) (Number answer) = nat_le offer answer
is_given rules.Or (Flag offer) (Flag answer) = not offer || answer
is_given rules.And (Flag offer) (Flag answer) = offer || not answer
is_given rules.NoneItem NoneItem NoneItem = true
is_given _ _ _ = false

-- An answered list has one item (section 6.2.1).
abbrev pub is_one_item : Typed → Bool
is_one_item (values.Items bytes) = bytes_eq bytes (codes "None")
is_one_item _ = true

-- The test of `IsLegal` (section 6.2).
abbrev pub is_legal : NegKey → Typed → Typed → Bool
is_legal key offer answer =
    is_answer_word answer
    || (is_given (rule_of key) (value_of (rule_of key) offer) (value_of (rule_of key) answer)
    && is_one_item answer)

-- ---- held values

-- The value, or the default for `Reject` (section 6.2; that it is the default is own rule).
abbrev pub or_default : Answered → Answered → Answered
or_default Reject default = default
or_default value default = value

-- What an end holds of a login: a value of each negotiated key, and what each end takes (RFC 7143,
-- section 13).
use Rattle.std.specs.Prelude.{ℕ, Bool, false, List, map, min, max, slice_index_or}
use Rattle.iscsi_text.specs.declared.negotiated.NegKey.{NegKey}
use Rattle.iscsi_text.specs.declared.negotiated.NegKey.TheVariants as keys
use Rattle.iscsi_login.specs.declared.preferences.Preferences.{Preferences}
use Rattle.iscsi_text.specs.declared.negotiated.Answered.{Answered}
use Rattle.iscsi_text.specs.declared.negotiated.Answered.TheVariants.{Flag, Number, Reject}
use Rattle.iscsi_text.specs.Negotiated.{rule_of, default_of, all_keys, key_place, IsWithin}
use Rattle.iscsi_login.specs.Negotiation.{AllowsValue, max_recv_range}

-- The held values (section 13).
pub record Held : Type 0 where
  -- one for each key, in the order of `all_keys`
  pub values : List Answered
  -- the most bytes that the initiator, and the target, take in one segment
  pub initiator_max_recv : ℕ
  pub target_max_recv : ℕ

-- The values before anything is agreed or declared (sections 13 and 13.12).
abbrev pub defaults : Held
defaults = record {
  values = map default_of all_keys;
  initiator_max_recv = 8192;
  target_max_recv = 8192;
}

-- The value at a key's place.
abbrev pub value_at : List Answered → NegKey → Answered
value_at values key = slice_index_or values (key_place key) Reject

-- The held value of a key (section 13).
abbrev pub held_value : Held → NegKey → Answered
held_value held key = value_at held.values key

-- The number that a value is (section 13).
abbrev pub number_of : Answered → ℕ
number_of (Number n) = n
number_of _ = 0

-- The value of a boolean key (section 6.1).
abbrev pub flag_of : Answered → Bool
flag_of (Flag b) = b
flag_of _ = false

-- The held value of the key is `Yes` (section 6.1).
abbrev pub is_on : Held → NegKey → Bool
is_on held key = flag_of (held_value held key)

-- How many bytes a sequence of data has at most (section 13.13).
abbrev pub max_burst : Held → ℕ
max_burst held = number_of (held_value held keys.MaxBurstLength)

-- How many bytes a command may send before it is asked for more (sections 13.13 and 13.14).
abbrev pub first_burst : Held → ℕ
first_burst held =
    min (number_of (held_value held keys.FirstBurstLength)) (max_burst held)

-- How many of n bytes of a command may come unasked (sections 13.11 and 13.14).
abbrev pub unasked : Held → ℕ → ℕ
unasked held n = min n (first_burst held)

-- The longest segment that an end takes: the one that it declares, or one of a login (section
-- 13.12; that 8,192 bytes fit is own rule). Before a login the end declares nothing.
abbrev pub longest_taken : Preferences → ℕ
longest_taken p = max 8192 p.max_recv

-- Each key has a value that it allows, and each length is one that may be declared (section 13).
pub record IsHeld (held : Held) : Type 0 where
  pub values : (key : NegKey) → AllowsValue (rule_of key) (held_value held key)
  pub initiator_max_recv : IsWithin max_recv_range held.initiator_max_recv
  pub target_max_recv : IsWithin max_recv_range held.target_max_recv

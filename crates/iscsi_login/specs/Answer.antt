-- The target's answer to a login text, and what each end holds after it (RFC 7143, sections 6.2 and
-- 13).
use Rattle.std.specs.Prelude.{ℕ, Bool, false, ◌&&◌, nat_le, List, [], ◌∷◌, ◌++◌, map, unwrap_or, Option, Some, None, is_some, if◌then◌else◌, codes}
use Rattle.std.specs.List.{flat_map}
use Rattle.std.specs.Option.{option_map, option_map_or}
use Rattle.iscsi_text.specs.Key.{is_among, kind_of}
use Rattle.iscsi_text.specs.Value.{Typed}
use Rattle.iscsi_text.specs.Value as values
use Rattle.iscsi_text.specs.Text.{Pairs, values_of}
use Rattle.iscsi_text.specs.declared.negotiated.NegKey.{NegKey}
use Rattle.iscsi_text.specs.declared.negotiated.Session.{Session}
use Rattle.iscsi_text.specs.declared.negotiated.Answered.{Answered}
use Rattle.iscsi_login.specs.declared.preferences.Preferences.{Preferences}
use Rattle.iscsi_text.specs.Negotiated.{name_of, rule_of, default_of, key_named, is_irrelevant, all_keys, IsWithin}
use Rattle.iscsi_login.specs.Negotiation.{max_recv_range, result_of, value_of, word, answered_value, or_default}
use Rattle.iscsi_login.specs.Held.{Held, held_value}
use Rattle.iscsi_text.specs.Reading.{in_order}

-- ---- one key

-- The answer to an offer: its result, or `Irrelevant` (section 6.2).
abbrev pub answer_to : Session → Preferences → NegKey → Typed → Typed
answer_to session p key offer =
    if is_irrelevant session key then word (rule_of key) (codes "Irrelevant")
    else answered_value (rule_of key) (result_of key offer p)

-- What the target holds once it has answered this offer (section 6.2).
abbrev pub held_by_target : Session → Preferences → NegKey → Typed → Answered
held_by_target session p key offer =
    if is_irrelevant session key then default_of key
    else or_default (result_of key offer p) (default_of key)

-- What the initiator holds once it has this answer: the words are no values (section 6.2).
abbrev pub held_by_initiator : NegKey → Typed → Answered
held_by_initiator key answer = or_default (value_of (rule_of key) answer) (default_of key)

-- ---- a whole text

-- Keys that are answered `No` (RFC 3720, appendix A; RFC 7143 has them as obsolete).
abbrev pub answered_no : List (List ℕ)
answered_no = codes "IFMarker" ∷ codes "OFMarker" ∷ []

-- Known keys that are answered `Reject` in a login (RFC 3720, appendix A, and section 13.3; own
-- rule).
abbrev pub rejected_keys : List (List ℕ)
rejected_keys = codes "IFMarkInt" ∷ codes "OFMarkInt" ∷ codes "SendTargets" ∷ []

-- The answer to a key that isn't negotiated: none to the other known keys, which are declared
-- (section 6.2).
abbrev pub other_answer : List ℕ → Option Typed
other_answer key =
    if is_among answered_no key then Some (values.Boolean false) else (
    if is_among rejected_keys key then Some (values.Plain (codes "Reject")) else (
    if is_some (kind_of key) then None else Some (values.Plain (codes "NotUnderstood"))))

-- The answer to a value of a key, if it has one (section 6.2).
abbrev pub answer_value : Session → Preferences → List ℕ → Typed → Option Typed
answer_value session p key offer = option_map_or (λ k. Some (answer_to session p k offer))
    (key_named key) (other_answer key)

-- The pair of a key and its value, if it has one (section 6.1).
abbrev pub pairs_with : List ℕ → Option Typed → Pairs
pairs_with key None = []
pairs_with key (Some value) = (key, value) ∷ []

-- The answer to a given pair (section 6.2).
abbrev pub answers_to : Session → Preferences → List ℕ × Typed → Pairs
answers_to session p pair = pairs_with pair.0 (answer_value session p pair.0 pair.1)

-- The key by which a target names its portal group (section 13.9).
abbrev pub tag_key : List ℕ
tag_key = codes "TargetPortalGroupTag"

-- The key by which an end declares the most bytes that it takes in one segment (section 13.12).
abbrev pub max_recv_key : List ℕ
max_recv_key = codes "MaxRecvDataSegmentLength"

-- What the target declares of itself, where it is given (sections 13.9 and 13.12).
abbrev pub declarations : Option ℕ → Option ℕ → Pairs
declarations tag max_recv =
    pairs_with max_recv_key (option_map values.Number max_recv)
    ++ pairs_with tag_key (option_map values.Number tag)

-- The answer to a text: what is declared, and an answer to each pair that has one (section 6.2).
abbrev pub answer : Session → Preferences → Option ℕ → Option ℕ → Pairs → Pairs
answer session p tag max_recv given =
    in_order (declarations tag max_recv ++ flat_map (answers_to session p) given)

-- ---- what is held after a text and its answer

-- What the first of these values makes an end hold, or what it held before (section 6.2).
abbrev pub first_or : (Typed → Answered) → Answered → List Typed → Answered
first_or held before [] = before
first_or held before (value ∷ vs) = held value

-- The first of these values, where it is a number (section 6.1).
abbrev pub first_number : List Typed → Option ℕ
first_number (values.Number n ∷ vs) = Some n
first_number _ = None

-- The most bytes in one segment that a text declares, if it does (section 13.12).
abbrev pub declared_max_recv : Pairs → Option ℕ
declared_max_recv pairs = first_number (values_of max_recv_key pairs)

-- A number of bytes that may be declared as the most that one segment has (section 13.12).
abbrev pub IsSegmentLength : Typed → Type 0
IsSegmentLength (values.Number n) = IsWithin max_recv_range n
IsSegmentLength _ = ⊥

-- The test of it (section 13.12).
abbrev pub is_segment_length : Typed → Bool
is_segment_length (values.Number n) =
    nat_le max_recv_range.low n && nat_le n max_recv_range.high
is_segment_length _ = false

-- There is no value, or the first may be declared (section 13.12).
abbrev pub IsLengthOrNone : List Typed → Type 0
IsLengthOrNone [] = Unit {0}
IsLengthOrNone (value ∷ vs) = IsSegmentLength value

-- What the text declares, if anything, is a length that may be declared (section 13.12).
abbrev pub DeclaresWell : Pairs → Type 0
DeclaresWell pairs = IsLengthOrNone (values_of max_recv_key pairs)

-- What the target holds of a key once it has answered the given text (section 6.2).
abbrev pub value_after_offers : Session → Preferences → Pairs → Held → NegKey → Answered
value_after_offers session p given held key =
    first_or (held_by_target session p key) (held_value held key) (values_of (name_of key) given)

-- The target once it has answered the given text and, if given, declared this length (sections 6.2
-- and 13.12).
abbrev pub target_holds : Session → Preferences → Option ℕ → Pairs → Held → Held
target_holds session p max_recv given held = record {
  values = map (value_after_offers session p given held) all_keys;
  initiator_max_recv = unwrap_or (declared_max_recv given) held.initiator_max_recv;
  target_max_recv = unwrap_or max_recv held.target_max_recv;
}

-- What the initiator holds of a key once it has this answer (section 6.2).
abbrev pub value_after_answer : Pairs → Held → NegKey → Answered
value_after_answer answered held key =
    first_or (held_by_initiator key) (held_value held key) (values_of (name_of key) answered)

-- The initiator once it has the answer and, if given, declared this length in its text (sections
-- 6.2 and 13.12).
abbrev pub initiator_holds : Option ℕ → Pairs → Held → Held
initiator_holds max_recv answered held = record {
  values = map (value_after_answer answered held) all_keys;
  initiator_max_recv = unwrap_or max_recv held.initiator_max_recv;
  target_max_recv = unwrap_or (declared_max_recv answered) held.target_max_recv;
}

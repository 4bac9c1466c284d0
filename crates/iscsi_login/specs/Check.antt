-- Which answers an initiator takes (RFC 7143, section 6.2; that it refuses the others is own rule).
use Rattle.std.specs.Prelude.{◌≡◌, ℕ, ◌<◌, Bool, true, false, not, ◌&&◌, ◌||◌, List, [], ◌∷◌, ◌++◌, length, map, find, Option, Some, None, is_some, is_none, slice_get, codes}
use Rattle.std.specs.List.{AllByRecursion}
use Rattle.std.specs.Str.{bytes_eq}
use Rattle.iscsi_text.specs.Key.{is_among}
use Rattle.iscsi_text.specs.Value.{Typed}
use Rattle.iscsi_text.specs.Text.{Pairs, values_of, IsSingle}
use Rattle.iscsi_text.specs.declared.negotiated.NegKey.{NegKey}
use Rattle.iscsi_text.specs.Negotiated.{name_of, all_keys, key_named}
use Rattle.iscsi_login.specs.Negotiation.{IsLegal, is_legal}
use Rattle.iscsi_login.specs.Answer.{max_recv_key, tag_key, IsSegmentLength, is_segment_length}

-- An offered value has one answer, a legal one, and a key that wasn't offered has none (section
-- 6.2).
abbrev pub AnswersOffer : NegKey → List Typed → List Typed → Type 0
AnswersOffer key [] [] = Unit {0}
AnswersOffer key (offer ∷ []) (answer ∷ []) = IsLegal key offer answer
AnswersOffer key _ _ = ⊥

-- What a target may declare of itself (sections 13.6, 13.8, 13.9 and 13.12).
abbrev pub declarable : List (List ℕ)
declarable = tag_key ∷ codes "TargetAlias" ∷ codes "TargetAddress" ∷ max_recv_key ∷ []

-- A pair that a target may declare of itself (sections 13.6, 13.8, 13.9 and 13.12).
abbrev pub may_declare : List ℕ × Typed → Bool
may_declare pair =
    is_among declarable pair.0 && (not (bytes_eq pair.0 max_recv_key) || is_segment_length pair.1)

-- An answer to a key with a result function, by what was offered (section 6.2).
abbrev pub may_answer : NegKey → Option Typed → Typed → Bool
may_answer key None answer = false
may_answer key (Some offer) answer = is_legal key offer answer

-- A pair that may stand in an answer to these offers (section 6.2).
abbrev pub is_good_pair : Option NegKey → Pairs → List ℕ × Typed → Bool
is_good_pair None offered pair = may_declare pair
is_good_pair (Some key) offered pair =
    may_answer key (slice_get (values_of pair.0 offered) 0) pair.1

-- A pair that may not (section 6.2).
abbrev pub is_bad : Pairs → List ℕ × Typed → Bool
is_bad offered pair = not (is_good_pair (key_named pair.0) offered pair)

-- An offered key with a result function that the answer leaves out (section 6.2).
abbrev pub is_unanswered : Pairs → List ℕ × Typed → Bool
is_unanswered answer pair = is_some (key_named pair.0)
    && is_none (slice_get (values_of pair.0 answer) 0)

-- The key of a pair, or another.
abbrev pub key_or : Option (List ℕ × Typed) → Option (List ℕ) → Option (List ℕ)
key_or None other = other
key_or (Some pair) other = Some pair.0

-- The key for which an initiator refuses the answer to its offers. It is the key of the first pair
-- that may not stand there, else the first offered key without an answer (section 6.2; the order is
-- own rule).
abbrev pub bad_key : Pairs → Pairs → Option (List ℕ)
bad_key offered answer =
    key_or (find (is_bad offered) answer) (key_or (find (is_unanswered answer) offered) None)

-- What an initiator says of itself and its session (sections 13.4, 13.5, 13.12 and 13.21).
abbrev pub described : List (List ℕ)
described = codes "InitiatorName" ∷ codes "SessionType" ∷ codes "TargetName" ∷ max_recv_key ∷ []

-- What an initiator may say: each key once, and no keys but the negotiated ones and its own
-- (section 6.2).
pub record IsOffer (offered : Pairs) : Type 0 where
  pub single : IsSingle offered
  pub keys : (key : List ℕ) → 0 < length (values_of key offered) →
      is_among (map name_of all_keys ++ described) key ≡ true

-- One legal answer to each negotiated key that was offered, and no key that an initiator refuses
-- (section 6.2).
pub record IsGoodAnswer (offered answer : Pairs) : Type 0 where
  pub negotiated : (key : NegKey) → AnswersOffer key (values_of (name_of key) offered)
      (values_of (name_of key) answer)
  pub max_recv : AllByRecursion IsSegmentLength (values_of max_recv_key answer)
  pub others : (key : List ℕ) → 0 < length (values_of key answer) →
      is_among (map name_of all_keys ++ declarable) key ≡ true

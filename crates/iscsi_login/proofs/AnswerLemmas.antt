-- What the answer to a text has for each key.
use Rattle.std.proofs.Common.{◌≡◌, ◌≢◌, ℕ, false, List, [], ◌∷◌, ◌++◌, map, Option, Some, None, refl, sym, ap, ◌∙◌, inl, inr}
use Rattle.std.specs.List.{flat_map}
use Rattle.std.specs.Option.{option_map, option_map_or, option_to_list}
use Rattle.std.specs.Str.{bytes_eq}
use Rattle.iscsi_text.specs.Value.{Typed}
use Rattle.iscsi_text.specs.Value as values
use Rattle.iscsi_text.specs.Text.{Pairs, values_of}
use Rattle.iscsi_text.proofs.KeyLemmas.{bytes_eq_same}
use Rattle.iscsi_text.proofs.PairLemmas.{values_of-same, values_of-other, values_of-append, key_cases}
use Rattle.iscsi_text.specs.declared.negotiated.NegKey.{NegKey}
use Rattle.iscsi_text.specs.declared.negotiated.NegKey.TheVariants as keys
use Rattle.iscsi_text.specs.declared.negotiated.Session.{Session}
use Rattle.iscsi_login.specs.declared.preferences.Preferences.{Preferences}
use Rattle.iscsi_text.specs.Negotiated.{name_of, key_named}
use Rattle.iscsi_login.specs.Answer.{answer_to, other_answer, answer_value, pairs_with, answers_to, tag_key, max_recv_key, declarations, answer}
use Rattle.iscsi_text.proofs.OrderLemmas.{values_in_order}

values_with-same : (key k : List ℕ) (v : Option Typed) → k ≡ key → values_of key (pairs_with k v) ≡ option_to_list v
values_with-same key k None same = refl
values_with-same key k (Some v) same = values_of-same key (k, v) [] same

values_with-other : (key k : List ℕ) (v : Option Typed) → k ≢ key → values_of key (pairs_with k v) ≡ []
values_with-other key k None apart = refl
values_with-other key k (Some v) apart = values_of-other key (k, v) [] apart

-- the answers to a key's value
abbrev pub answer_values : Session → Preferences → List ℕ → Typed → List Typed
answer_values session p key value = option_to_list (answer_value session p key value)

pub values_of-answers : (session : Session) (p : Preferences) (key : List ℕ) (given : Pairs) → values_of key (flat_map (answers_to session p) given)
    ≡ flat_map (answer_values session p key) (values_of key given)
values_of-answers session p key [] = refl
values_of-answers session p key (pair ∷ given) =
    let rest = values_of-answers session p key given in
    let split = values_of-append key (answers_to session p pair) (flat_map (answers_to session p) given) in
    elim (key_cases pair.0 key) [
      | inl same ↦
          let here : values_of key (answers_to session p pair) ≡ answer_values session p key pair.1 =
          values_with-same key pair.0 (answer_value session p pair.0 pair.1) same ∙ ap (λ k. answer_values session p k pair.1) same in
          split ∙ ap (λ vs. vs ++ values_of key (flat_map (answers_to session p) given)) here ∙ ap (λ vs. answer_values session p key pair.1 ++ vs) rest
          ∙ ap (flat_map (answer_values session p key)) (sym (values_of-same key pair given same))
      | inr apart ↦
          split ∙ ap (λ vs. vs ++ values_of key (flat_map (answers_to session p) given))
          (values_with-other key pair.0 (answer_value session p pair.0 pair.1) apart) ∙ rest
          ∙ ap (flat_map (answer_values session p key)) (sym (values_of-other key pair given apart))
    ]

-- Each key has what is declared of it, and an answer to each value given.
pub values_of-answer : (session : Session) (p : Preferences) (tag max_recv : Option ℕ) (given : Pairs) (key : List ℕ)
    → values_of key (answer session p tag max_recv given) ≡ values_of key (declarations tag max_recv)
    ++ flat_map (answer_values session p key) (values_of key given)
values_of-answer session p tag max_recv given key =
    values_in_order key (declarations tag max_recv ++ flat_map (answers_to session p) given)
    ∙ values_of-append key (declarations tag max_recv) (flat_map (answers_to session p) given)
    ∙ ap (λ vs. values_of key (declarations tag max_recv) ++ vs) (values_of-answers session p key given)

pub key_named-name : (key : NegKey) → key_named (name_of key) ≡ Some key
key_named-name keys.MaxConnections = refl
key_named-name _ = refl

apart_from_test : (a b : List ℕ) → bytes_eq a b ≡ false → a ≢ b
apart_from_test a b e same = let yes = bytes_eq_same a b same in cc

not_max_recv : (key : NegKey) → bytes_eq max_recv_key (name_of key) ≡ false
not_max_recv keys.MaxConnections = refl
not_max_recv _ = refl

not_tag : (key : NegKey) → bytes_eq tag_key (name_of key) ≡ false
not_tag keys.MaxConnections = refl
not_tag _ = refl

-- a key that is neither of the declared ones has no declaration
pub undeclared : (key : List ℕ) (tag max_recv : Option ℕ) → max_recv_key ≢ key → tag_key ≢ key → values_of key (declarations tag max_recv) ≡ []
undeclared key tag max_recv not_max not_tag =
    values_of-append key (pairs_with max_recv_key (option_map values.Number max_recv)) (pairs_with tag_key (option_map values.Number tag))
    ∙ ap (λ vs. vs ++ values_of key (pairs_with tag_key (option_map values.Number tag)))
    (values_with-other key max_recv_key (option_map values.Number max_recv) not_max)
    ∙ values_with-other key tag_key (option_map values.Number tag) not_tag

-- a negotiated key's answer
answer_of_name : (session : Session) (p : Preferences) (key : NegKey) (v : Typed) → answer_value session p (name_of key) v ≡ Some (answer_to session p key v)
answer_of_name session p key v = ap (λ k. option_map_or (λ k. Some (answer_to session p k v)) k (other_answer (name_of key))) (key_named-name key)

each_negotiated : (session : Session) (p : Preferences) (key : NegKey) (vs : List Typed) → flat_map (answer_values session p (name_of key)) vs
    ≡ map (answer_to session p key) vs
each_negotiated session p key [] = refl
each_negotiated session p key (v ∷ vs) = ap (λ a. option_to_list a ++ flat_map (answer_values session p (name_of key)) vs) (answer_of_name session p key v)
    ∙ ap (λ ws. answer_to session p key v ∷ ws) (each_negotiated session p key vs)

-- A negotiated key has one answer for each value given.
pub answers_of_key : (session : Session) (p : Preferences) (tag max_recv : Option ℕ) (given : Pairs) (key : NegKey)
    → values_of (name_of key) (answer session p tag max_recv given) ≡ map (answer_to session p key) (values_of (name_of key) given)
answers_of_key session p tag max_recv given key =
    values_of-answer session p tag max_recv given (name_of key)
    ∙ ap (λ vs. vs ++ flat_map (answer_values session p (name_of key)) (values_of (name_of key) given))
    (undeclared (name_of key) tag max_recv (apart_from_test max_recv_key (name_of key) (not_max_recv key))
    (apart_from_test tag_key (name_of key) (not_tag key)))
    ∙ each_negotiated session p key (values_of (name_of key) given)

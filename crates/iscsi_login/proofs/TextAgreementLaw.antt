-- The ends agree on whole texts.
use Rattle.std.proofs.Common.{◌≡◌, ◌≢◌, ℕ, ◌<◌, ◌≤◌, true, false, ◌||◌, List, [], ◌∷◌, ◌++◌, map, length, Option, Some, None, unwrap_or, refl, sym, ap, subst}
use Rattle.std.proofs.Common.{◌∙◌, inl, inr, arith, codes}
use Rattle.std.specs.List.{flat_map, AllByRecursion}
use Rattle.std.specs.Option.{option_map, option_to_list, IfSome}
use Rattle.std.specs.Str.{bytes_eq}
use Rattle.std.proofs.lemmas.List.{append-nil}
use Rattle.std.proofs.lemmas.Bool.{or_cases, or_left}
use Rattle.std.proofs.lemmas.List.Folds.{list_any-append}
use Rattle.iscsi_text.specs.Key.{kind_of, is_among, target_address}
use Rattle.iscsi_text.specs.Value.{Typed}
use Rattle.iscsi_text.specs.Value as values
use Rattle.iscsi_text.specs.Text.{Pairs, values_of}
use Rattle.iscsi_text.proofs.KeyLemmas.{bytes_eq_same, same_key}
use Rattle.iscsi_text.proofs.PairLemmas.{key_cases}
use Rattle.iscsi_text.specs.declared.negotiated.NegKey.{NegKey}
use Rattle.iscsi_text.specs.declared.negotiated.NegKey.TheVariants as keys
use Rattle.iscsi_text.specs.declared.negotiated.Session.{Session}
use Rattle.iscsi_text.specs.declared.negotiated.Answered.{Answered}
use Rattle.iscsi_login.specs.declared.preferences.Preferences.{Preferences}
use Rattle.iscsi_text.specs.Negotiated.{name_of, all_keys, IsWithin}
use Rattle.iscsi_login.specs.Negotiation.{ArePreferencesInRange, max_recv_range}
use Rattle.iscsi_login.specs.Held.{Held, held_value}
use Rattle.iscsi_login.specs.Answer.{IsSegmentLength, answer_to, answer_value, held_by_target, held_by_initiator, first_or, first_number, declared_max_recv}
use Rattle.iscsi_login.specs.Answer.{max_recv_key, tag_key, declarations, answer, target_holds, initiator_holds}
use Rattle.iscsi_login.specs.Check.{AnswersOffer, declarable, described, IsOffer, IsGoodAnswer}
use Rattle.iscsi_login.proofs.AgreementLaw.{answer_legal, ends_agree}
use Rattle.iscsi_login.proofs.AnswerLemmas.{answers_of_key, values_of-answer, answer_values, undeclared}
use Rattle.iscsi_login.proofs.AnswerLoopLemmas.{unanswered_max_recv}

-- what is held after the answers to these values
held_same : (session : Session) (p : Preferences) → ArePreferencesInRange p → (key : NegKey) (before : Answered) (offers : List Typed)
    → first_or (held_by_initiator key) before (map (answer_to session p key) offers) ≡ first_or (held_by_target session p key) before offers
held_same session p is key before [] = refl
held_same session p is key before (offer ∷ offers) = ends_agree session p is key offer

map_same : {A B : Type 0} (f g : A → B) (xs : List A) → ((x : A) → f x ≡ g x) → map f xs ≡ map g xs
map_same f g [] same = refl
map_same f g (x ∷ xs) same = λ i. same x i ∷ map_same f g xs same i

pub unanswered : (session : Session) (p : Preferences) (key : List ℕ) (vs : List Typed) → ((v : Typed) → answer_value session p key v ≡ None) →
    flat_map (answer_values session p key) vs ≡ []
unanswered session p key [] none = refl
unanswered session p key (v ∷ vs) none = ap (λ a. option_to_list a ++ flat_map (answer_values session p key) vs) (none v) ∙ unanswered session p key vs none

-- the declared lengths
declared_lengths : (tag max_recv : Option ℕ) → values_of max_recv_key (declarations tag max_recv) ≡ option_to_list (option_map values.Number max_recv)
declared_lengths None None = refl
declared_lengths None (Some m) = refl
declared_lengths (Some t) None = refl
declared_lengths (Some t) (Some m) = refl

pub answered_lengths : (session : Session) (p : Preferences) (tag max_recv : Option ℕ) (given : Pairs) →
    values_of max_recv_key (answer session p tag max_recv given) ≡ option_to_list (option_map values.Number max_recv)
answered_lengths session p tag max_recv given =
    values_of-answer session p tag max_recv given max_recv_key
    ∙ ap (λ vs. values_of max_recv_key (declarations tag max_recv) ++ vs) (unanswered session p max_recv_key (values_of max_recv_key given)
    (unanswered_max_recv session p))
    ∙ append-nil (values_of max_recv_key (declarations tag max_recv)) ∙ declared_lengths tag max_recv

number_again : (m : Option ℕ) → first_number (option_to_list (option_map values.Number m)) ≡ m
number_again None = refl
number_again (Some m) = refl

-- after the target's answer the initiator holds what the target holds
pub texts_agree : (session : Session) (p : Preferences) → ArePreferencesInRange p → (tag max_recv : Option ℕ) (given : Pairs) (held : Held)
    → initiator_holds (declared_max_recv given) (answer session p tag max_recv given) held ≡ target_holds session p max_recv given held
texts_agree session p is tag max_recv given held =
    let each : (key : NegKey) → first_or (held_by_initiator key) (held_value held key) (values_of (name_of key) (answer session p tag max_recv given))
    ≡ first_or (held_by_target session p key) (held_value held key) (values_of (name_of key) given) =
    λ key. ap (first_or (held_by_initiator key) (held_value held key)) (answers_of_key session p tag max_recv given key)
    ∙ held_same session p is key (held_value held key) (values_of (name_of key) given) in
    let lengths : unwrap_or (declared_max_recv (answer session p tag max_recv given)) held.target_max_recv ≡ unwrap_or max_recv held.target_max_recv =
    ap (λ vs. unwrap_or (first_number vs) held.target_max_recv) (answered_lengths session p tag max_recv given)
    ∙ ap (λ m. unwrap_or m held.target_max_recv) (number_again max_recv) in
    let all = map_same (λ key. first_or (held_by_initiator key) (held_value held key) (values_of (name_of key) (answer session p tag max_recv given)))
    (λ key. first_or (held_by_target session p key) (held_value held key) (values_of (name_of key) given)) all_keys each in
    λ i. record { values = all i; initiator_max_recv = unwrap_or (declared_max_recv given) held.initiator_max_recv; target_max_recv = lengths i }

-- one answer for each value
answers_match : (session : Session) (p : Preferences) → ArePreferencesInRange p → (key : NegKey) (offers : List Typed) → length offers ≤ 1 →
    AnswersOffer key offers (map (answer_to session p key) offers)
answers_match session p is key [] le = tt
answers_match session p is key (offer ∷ []) le = answer_legal session p is key offer
answers_match session p is key (a ∷ b ∷ offers) le = absurd (omega arith)

pub not_address : (key : NegKey) → name_of key ≢ target_address
not_address key same = let yes = bytes_eq_same (name_of key) target_address same in absurd (no key yes)
  where
    no : (key : NegKey) → bytes_eq (name_of key) target_address ≡ true → ⊥
    no keys.MaxConnections e = cc
    no _ e = cc

segment_lengths : (max_recv : Option ℕ) → IfSome max_recv (IsWithin max_recv_range) →
    AllByRecursion IsSegmentLength (option_to_list (option_map values.Number max_recv))
segment_lengths None is = tt
segment_lengths (Some m) is = (is, tt)

-- the keys that have no answer, among those that an initiator offers
unanswered_name : (session : Session) (p : Preferences) (v : Typed) → answer_value session p (codes "InitiatorName") v ≡ None
unfolding kind_of
unanswered_name session p v = refl

unanswered_type : (session : Session) (p : Preferences) (v : Typed) → answer_value session p (codes "SessionType") v ≡ None
unfolding kind_of
unanswered_type session p v = refl

unanswered_target : (session : Session) (p : Preferences) (v : Typed) → answer_value session p (codes "TargetName") v ≡ None
unfolding kind_of
unanswered_target session p v = refl

unanswered_at : (session : Session) (p : Preferences) (name key : List ℕ) (vs : List Typed) → ((v : Typed) → answer_value session p name v ≡ None) →
    bytes_eq name key ≡ true → flat_map (answer_values session p key) vs ≡ []
unanswered_at session p name key vs none e = unanswered session p key vs (subst (λ k. (v : Typed) → answer_value session p k v ≡ None)
    (same_key name key e) none)

declared_keys_unanswered : (session : Session) (p : Preferences) (key : List ℕ) (vs : List Typed) → is_among described key ≡ true →
    flat_map (answer_values session p key) vs ≡ []
declared_keys_unanswered session p key vs e = elim (or_cases (bytes_eq (codes "InitiatorName") key)
    (bytes_eq (codes "SessionType") key || (bytes_eq (codes "TargetName") key || (bytes_eq max_recv_key key || false))) e) [
      | inl one ↦ unanswered_at session p (codes "InitiatorName") key vs (unanswered_name session p) one
      | inr more ↦ elim (or_cases (bytes_eq (codes "SessionType") key) (bytes_eq (codes "TargetName") key || (bytes_eq max_recv_key key || false)) more) [
        | inl two ↦ unanswered_at session p (codes "SessionType") key vs (unanswered_type session p) two
        | inr more ↦ elim (or_cases (bytes_eq (codes "TargetName") key) (bytes_eq max_recv_key key || false) more) [
          | inl three ↦ unanswered_at session p (codes "TargetName") key vs (unanswered_target session p) three
          | inr more ↦ elim (or_cases (bytes_eq max_recv_key key) false more) [
            | inl four ↦ unanswered_at session p max_recv_key key vs (unanswered_max_recv session p) four
            | inr none ↦ cc
          ]
        ]
      ]
    ]

-- what has an answer is negotiated
offered_some : (session : Session) (p : Preferences) (key : List ℕ) (vs : List Typed) → 0 < length (flat_map (answer_values session p key) vs) → 0 < length vs
offered_some session p key [] some = some
offered_some session p key (v ∷ vs) some = omega arith

negotiated_key : (session : Session) (p : Preferences) (offered : Pairs) → IsOffer offered → (key : List ℕ) → 0
    < length (flat_map (answer_values session p key) (values_of key offered)) → is_among (map name_of all_keys ++ declarable) key ≡ true
negotiated_key session p offered is key some =
    elim (or_cases (is_among (map name_of all_keys) key) (is_among described key)
    (sym (list_any-append (λ name. bytes_eq name key) (map name_of all_keys) described)
    ∙ is.keys key (offered_some session p key (values_of key offered) some))) [
      | inl named ↦ list_any-append (λ name. bytes_eq name key) (map name_of all_keys) declarable
          ∙ or_left (is_among (map name_of all_keys) key) (is_among declarable key) named
      | inr other ↦ let none = ap length (declared_keys_unanswered session p key (values_of key offered) other) in absurd (omega (arith, some, none))
    ]

pub good_answer : (session : Session) (p : Preferences) → ArePreferencesInRange p → (tag max_recv : Option ℕ) → IfSome max_recv (IsWithin max_recv_range) →
    (offered : Pairs) → IsOffer offered
    → IsGoodAnswer offered (answer session p tag max_recv offered)
good_answer session p range tag max_recv length_range offered is = record {
  negotiated = λ key. subst (AnswersOffer key (values_of (name_of key) offered)) (sym (answers_of_key session p tag max_recv offered key))
      (answers_match session p range key (values_of (name_of key) offered) (is.single (name_of key) (not_address key)));
  max_recv = subst (AllByRecursion IsSegmentLength) (sym (answered_lengths session p tag max_recv offered)) (segment_lengths max_recv length_range);
  others = λ key some. elim (key_cases max_recv_key key) [
    | inl same ↦ subst (λ k. is_among (map name_of all_keys ++ declarable) k ≡ true) same refl
    | inr not_max ↦ elim (key_cases tag_key key) [
      | inl same ↦ subst (λ k. is_among (map name_of all_keys ++ declarable) k ≡ true) same refl
      | inr not_tag ↦ negotiated_key session p offered is key (subst (λ vs. 0 < length vs)
          (values_of-answer session p tag max_recv offered key ∙ ap (λ vs. vs ++ flat_map (answer_values session p key) (values_of key offered))
          (undeclared key tag max_recv not_max not_tag)) some)
    ]
  ];
}

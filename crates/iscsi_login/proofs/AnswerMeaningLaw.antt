-- The answer to a text is what some text means.
use Rattle.std.proofs.Common.{◌≡◌, ◌≢◌, ℕ, ◌^◌, ◌<◌, ◌≤◌, Bool, true, false, cond, ◌||◌, List, [], ◌∷◌, ◌++◌, length, find, Option, Some, None, is_some, refl}
use Rattle.std.proofs.Common.{sym, ap, subst, ◌∙◌, inl, inr, arith, codes}
use Rattle.std.specs.List.{flat_map, AllByRecursion}
use Rattle.std.specs.Option.{option_map, option_map_or, option_to_list, IfSome}
use Rattle.std.specs.Str.{bytes_eq}
use Rattle.std.proofs.lemmas.List.{append-nil, length-append}
use Rattle.std.proofs.lemmas.List.Elements.{All-from_recursion}
use Rattle.std.proofs.lemmas.Bool.{or_cases}
use Rattle.iscsi_text.specs.declared.key.KeyKind.{KeyKind}
use Rattle.iscsi_text.specs.declared.key.KeyKind.TheVariants as kinds
use Rattle.iscsi_text.specs.Key.{kind_of, is_among, IsKey}
use Rattle.iscsi_text.specs.Numeral.{SpellsNumber, canonical_number}
use Rattle.iscsi_text.specs.Value.{Typed, MeansValue, boolean_text}
use Rattle.iscsi_text.specs.Value as values
use Rattle.iscsi_text.specs.Text.{Pairs, values_of, HasNo, IsMeaning, IsPair}
use Rattle.iscsi_text.proofs.NumeralLemmas.{canonical_spells, spelling_no_zero}
use Rattle.iscsi_text.proofs.KeyLemmas.{same_key}
use Rattle.iscsi_text.proofs.PairLemmas.{key_cases}
use Rattle.iscsi_text.specs.declared.negotiated.NegKey.{NegKey}
use Rattle.iscsi_text.specs.declared.negotiated.NegKey.TheVariants as keys
use Rattle.iscsi_text.specs.declared.negotiated.Rule.{Rule}
use Rattle.iscsi_text.specs.declared.negotiated.Rule.TheVariants as rules
use Rattle.iscsi_text.specs.declared.negotiated.Session.{Session}
use Rattle.iscsi_text.specs.declared.negotiated.Answered.{Answered}
use Rattle.iscsi_text.specs.declared.negotiated.Answered.TheVariants.{Number, Flag, NoneItem}
use Rattle.iscsi_login.specs.declared.preferences.Preferences.{Preferences}
use Rattle.iscsi_text.specs.Negotiated.{name_of, rule_of, all_keys, key_named, is_irrelevant}
use Rattle.iscsi_login.specs.Negotiation.{ArePreferencesInRange, AllowsValue, result_of, preference, word, answered_value}
use Rattle.iscsi_login.specs.Answer.{answer_to, other_answer, answered_no, rejected_keys, answer_value, answers_to, pairs_with, max_recv_key, tag_key, declarations}
use Rattle.iscsi_login.specs.Answer.{answer}
use Rattle.iscsi_login.proofs.AgreementLaw.{outcome, preference_allowed}
use Rattle.iscsi_login.proofs.AnswerLemmas.{values_of-answer, answer_values, undeclared}
use Rattle.iscsi_login.proofs.AnswerLoopLemmas.{unanswered_tag}
use Rattle.iscsi_text.proofs.OrderLemmas.{in_order_is, all_in_order}
use Rattle.iscsi_login.proofs.TextAgreementLaw.{answered_lengths, unanswered}
use Rattle.iscsi_login.proofs.KeyTestLemmas.{key_from, no_zero_from}

-- some bytes mean the value behind a key of this kind
pub record Writable (kind : Option KeyKind) (v : Typed) : Type 0 where
  pub bytes : List ℕ
  pub ends : HasNo 0 bytes
  pub means : MeansValue kind bytes v

abbrev pub kind_behind : Rule → KeyKind
kind_behind (rules.Minimum range) = kinds.Number
kind_behind (rules.Maximum range) = kinds.Number
kind_behind rules.Or = kinds.Boolean
kind_behind rules.And = kinds.Boolean
kind_behind rules.NoneItem = kinds.Items

pub kind_of_name : (key : NegKey) → kind_of (name_of key) ≡ Some (kind_behind (rule_of key))
unfolding kind_of
kind_of_name keys.MaxConnections = refl
kind_of_name _ = refl

pub writable_number : (n : ℕ) → n < 2 ^ 64 → Writable (Some kinds.Number) (values.Number n)
writable_number n small = let spells = canonical_spells n small in record {
  bytes = canonical_number n;
  ends = spelling_no_zero (canonical_number n) n spells;
  means = spells;
}

writable_boolean : (b : Bool) → Writable (Some kinds.Boolean) (values.Boolean b)
writable_boolean true = record { bytes = codes "Yes"; ends = no_zero_from (codes "Yes") refl; means = refl }
writable_boolean false = record { bytes = codes "No"; ends = no_zero_from (codes "No") refl; means = refl }

-- the words are no numbers, and lists of one item
reject_unspelled : (n : ℕ) → ¬ SpellsNumber (codes "Reject") n
reject_unspelled n spells = elim spells.form [
  | inl decimal ↦ (let digit = decimal.digits.1.0 in omega arith)
  | inr hexadecimal ↦ (let first = hexadecimal.0 in
      omega arith)
]

irrelevant_unspelled : (n : ℕ) → ¬ SpellsNumber (codes "Irrelevant") n
irrelevant_unspelled n spells = elim spells.form [
  | inl decimal ↦ (let digit = decimal.digits.1.0 in
      omega arith)
  | inr hexadecimal ↦ (let first = hexadecimal.0 in omega arith)
]

boolean_no_reject : (b : Bool) → codes "Reject" ≢ boolean_text b
boolean_no_reject true e = cc
boolean_no_reject false e = cc

boolean_no_irrelevant : (b : Bool) → codes "Irrelevant" ≢ boolean_text b
boolean_no_irrelevant true e = cc
boolean_no_irrelevant false e = cc

writable_reject : (rule : Rule) → Writable (Some (kind_behind rule)) (word rule (codes "Reject"))
writable_reject (rules.Minimum range) = record { bytes = codes "Reject"; ends = no_zero_from (codes "Reject") refl; means = (refl, reject_unspelled) }
writable_reject (rules.Maximum range) = record { bytes = codes "Reject"; ends = no_zero_from (codes "Reject") refl; means = (refl, reject_unspelled) }
writable_reject rules.Or = record { bytes = codes "Reject"; ends = no_zero_from (codes "Reject") refl; means = (refl, boolean_no_reject) }
writable_reject rules.And = record { bytes = codes "Reject"; ends = no_zero_from (codes "Reject") refl; means = (refl, boolean_no_reject) }
writable_reject rules.NoneItem = record {
  bytes = codes "Reject";
  ends = no_zero_from (codes "Reject") refl;
  means = (refl, All-from_recursion (λ item. 0 < length item) (codes "Reject" ∷ []) (omega arith, tt));
}

writable_irrelevant : (rule : Rule) → Writable (Some (kind_behind rule)) (word rule (codes "Irrelevant"))
writable_irrelevant (rules.Minimum range) = record {
  bytes = codes "Irrelevant";
  ends = no_zero_from (codes "Irrelevant") refl;
  means = (refl, irrelevant_unspelled);
}
writable_irrelevant (rules.Maximum range) = record {
  bytes = codes "Irrelevant";
  ends = no_zero_from (codes "Irrelevant") refl;
  means = (refl, irrelevant_unspelled);
}
writable_irrelevant rules.Or = record { bytes = codes "Irrelevant"; ends = no_zero_from (codes "Irrelevant") refl; means = (refl, boolean_no_irrelevant) }
writable_irrelevant rules.And = record { bytes = codes "Irrelevant"; ends = no_zero_from (codes "Irrelevant") refl; means = (refl, boolean_no_irrelevant) }
writable_irrelevant rules.NoneItem = record {
  bytes = codes "Irrelevant";
  ends = no_zero_from (codes "Irrelevant") refl;
  means = (refl, All-from_recursion (λ item. 0 < length item) (codes "Irrelevant" ∷ []) (omega arith, tt));
}

-- allowed numbers are small
abbrev pub highest : Rule → ℕ
highest (rules.Minimum range) = range.high
highest (rules.Maximum range) = range.high
highest _ = 0

pub highest_small : (key : NegKey) → highest (rule_of key) < 2 ^ 64
highest_small keys.MaxConnections = omega arith
highest_small _ = omega arith

pub writable_value : (rule : Rule) (v : Answered) → highest rule < 2 ^ 64 → AllowsValue rule v → Writable (Some (kind_behind rule)) (answered_value rule v)
writable_value (rules.Minimum range) (Number n) small a = writable_number n (omega (arith, a.1))
writable_value (rules.Minimum range) _ small a = absurd a
writable_value (rules.Maximum range) (Number n) small a = writable_number n (omega (arith, a.1))
writable_value (rules.Maximum range) _ small a = absurd a
writable_value rules.Or (Flag b) small a = writable_boolean b
writable_value rules.Or _ small a = absurd a
writable_value rules.And (Flag b) small a = writable_boolean b
writable_value rules.And _ small a = absurd a
writable_value rules.NoneItem NoneItem small a = record {
  bytes = codes "None";
  ends = no_zero_from (codes "None") refl;
  means = (refl, All-from_recursion (λ item. 0 < length item) (codes "None" ∷ []) (omega arith, tt));
}
writable_value rules.NoneItem _ small a = absurd a

writable_answer : (session : Session) (p : Preferences) → ArePreferencesInRange p → (key : NegKey) (v : Typed) →
    Writable (Some (kind_behind (rule_of key))) (answer_to session p key v)
writable_answer session p range key v = by (is_irrelevant session key)
  where
    by : (t : Bool) → Writable (Some (kind_behind (rule_of key))) (cond t (word (rule_of key) (codes "Irrelevant"))
        (answered_value (rule_of key) (result_of key v p)))
    by true = writable_irrelevant (rule_of key)
    by false = elim (outcome (rule_of key) v (preference p key) (preference_allowed p range key)) [
      | inl out ↦ subst (λ a. Writable (Some (kind_behind (rule_of key))) (answered_value (rule_of key) a)) (sym out) (writable_reject (rule_of key))
      | inr allowed ↦ writable_value (rule_of key) (result_of key v p) (highest_small key) allowed
    ]

-- a key that is found has that name
named_is : (ks : List NegKey) (name : List ℕ) (key : NegKey) → find (λ k. bytes_eq (name_of k) name) ks ≡ Some key → name_of key ≡ name
named_is [] name key e = cc
named_is (k ∷ ks) name key e = by (named_is ks name key) (bytes_eq (name_of k) name) refl e
  where
    by : (find (λ k. bytes_eq (name_of k) name) ks ≡ Some key → name_of key ≡ name) → (t : Bool) → bytes_eq (name_of k) name ≡ t →
        cond t (Some k) (find (λ k. bytes_eq (name_of k) name) ks) ≡ Some key → name_of key ≡ name
    by rest true is_named found = let same : k ≡ key = cc in subst (λ x. name_of x ≡ name) same (same_key (name_of k) name is_named)
    by rest false is_other found = rest found

-- the kinds of the other answered keys
kind_no_1 : kind_of (codes "IFMarker") ≡ Some kinds.Boolean
unfolding kind_of
kind_no_1 = refl

kind_no_2 : kind_of (codes "OFMarker") ≡ Some kinds.Boolean
unfolding kind_of
kind_no_2 = refl

kind_rejected_1 : kind_of (codes "IFMarkInt") ≡ Some kinds.Plain
unfolding kind_of
kind_rejected_1 = refl

kind_rejected_2 : kind_of (codes "OFMarkInt") ≡ Some kinds.Plain
unfolding kind_of
kind_rejected_2 = refl

kind_rejected_3 : kind_of (codes "SendTargets") ≡ Some kinds.Plain
unfolding kind_of
kind_rejected_3 = refl

kind_at : (name key : List ℕ) (kind : Option KeyKind) → kind_of name ≡ kind → bytes_eq name key ≡ true → kind_of key ≡ kind
kind_at name key kind is e = ap kind_of (sym (same_key name key e)) ∙ is

answered_no_kind : (key : List ℕ) → is_among answered_no key ≡ true → kind_of key ≡ Some kinds.Boolean
answered_no_kind key e = elim (or_cases (bytes_eq (codes "IFMarker") key) (bytes_eq (codes "OFMarker") key || false) e) [
  | inl one ↦ kind_at (codes "IFMarker") key (Some kinds.Boolean) kind_no_1 one
  | inr more ↦ elim (or_cases (bytes_eq (codes "OFMarker") key) false more) [
    | inl two ↦ kind_at (codes "OFMarker") key (Some kinds.Boolean) kind_no_2 two
    | inr
        none ↦ cc
  ]
]

rejected_kind : (key : List ℕ) → is_among rejected_keys key ≡ true → kind_of key ≡ Some kinds.Plain
rejected_kind key e = elim (or_cases (bytes_eq (codes "IFMarkInt") key) (bytes_eq (codes "OFMarkInt") key || (bytes_eq (codes "SendTargets") key || false)) e) [
  | inl one ↦ kind_at (codes "IFMarkInt") key (Some kinds.Plain) kind_rejected_1 one
  | inr more ↦ elim (or_cases (bytes_eq (codes "OFMarkInt") key) (bytes_eq (codes "SendTargets") key || false) more) [
    | inl two ↦ kind_at (codes "OFMarkInt") key (Some kinds.Plain) kind_rejected_2 two
    | inr more ↦ elim (or_cases (bytes_eq (codes "SendTargets") key) false more)
        [ inl three ↦ kind_at (codes "SendTargets") key (Some kinds.Plain) kind_rejected_3 three | inr none ↦ cc ]
  ]
]

unknown_kind : (kind : Option KeyKind) → is_some kind ≡ false → kind ≡ None
unknown_kind None e = refl
unknown_kind (Some k) e = cc

writable_other : (key : List ℕ) (w : Typed) → other_answer key ≡ Some w → Writable (kind_of key) w
writable_other key w e = no (is_among answered_no key) refl e
  where
    last : (t : Bool) → is_some (kind_of key) ≡ t → cond t None (Some (values.Plain (codes "NotUnderstood"))) ≡ Some w → Writable (kind_of key) w
    last true known found = cc
    last false unknown found = let is : values.Plain (codes "NotUnderstood") ≡ w = cc in
        subst (λ kind. Writable kind w) (sym (unknown_kind (kind_of key) unknown))
        (subst (Writable None) is (record { bytes = codes "NotUnderstood"; ends = no_zero_from (codes "NotUnderstood") refl; means = refl }))

    reject : (t : Bool) → is_among rejected_keys key ≡ t → cond t (Some (values.Plain (codes "Reject")))
        (cond (is_some (kind_of key)) None (Some (values.Plain (codes "NotUnderstood")))) ≡ Some w → Writable (kind_of key) w
    reject true is_ found = let is : values.Plain (codes "Reject") ≡ w = cc in
        subst (λ kind. Writable kind w) (sym (rejected_kind key is_)) (subst (Writable (Some kinds.Plain)) is
        (record { bytes = codes "Reject"; ends = no_zero_from (codes "Reject") refl; means = refl }))
    reject false not_ found = last (is_some (kind_of key)) refl found

    no : (t : Bool) → is_among answered_no key ≡ t → cond t (Some (values.Boolean false))
        (cond (is_among rejected_keys key) (Some (values.Plain (codes "Reject")))
        (cond (is_some (kind_of key)) None (Some (values.Plain (codes "NotUnderstood")))))
        ≡ Some w → Writable (kind_of key) w
    no true is_ found = let is : values.Boolean false ≡ w = cc in
        subst (λ kind. Writable kind w) (sym (answered_no_kind key is_)) (subst (Writable (Some kinds.Boolean)) is (writable_boolean false))
    no false not_ found = reject (is_among rejected_keys key) refl found

writable_any : (session : Session) (p : Preferences) → ArePreferencesInRange p → (key : List ℕ) (v w : Typed) → answer_value session p key v ≡ Some w →
    Writable (kind_of key) w
writable_any session p range key v w e = by (key_named key) refl e
  where
    by : (n : Option NegKey) → key_named key ≡ n → option_map_or (λ k. Some (answer_to session p k v)) n (other_answer key) ≡ Some w → Writable (kind_of key) w
    by None unnamed found = writable_other key w found
    by (Some k) named found =
        let is : answer_to session p k v ≡ w = cc in
        let kind : kind_of key ≡ Some (kind_behind (rule_of k)) = ap kind_of (sym (named_is all_keys key k named)) ∙ kind_of_name k in
        subst (λ x. Writable x w) (sym kind) (subst (Writable (Some (kind_behind (rule_of k)))) is (writable_answer session p range k v))

pub pair_of : (key : List ℕ) (w : Typed) → IsKey key → Writable (kind_of key) w → IsPair (key, w)
pair_of key w is writable = record { key = is; bytes = writable.bytes; ends = writable.ends; means = writable.means }

pub all_append : (P : List ℕ × Typed → Type 0) (xs ys : Pairs) → AllByRecursion P xs → AllByRecursion P ys → AllByRecursion P (xs ++ ys)
all_append P [] ys a b = b
all_append P (x ∷ xs) ys a b = (a.0, all_append P xs ys a.1 b)

pairs_are : (key : List ℕ) (o : Option Typed) → IsKey key → ((w : Typed) → o ≡ Some w → Writable (kind_of key) w) → AllByRecursion IsPair (pairs_with key o)
pairs_are key None is writable = tt
pairs_are key (Some w) is writable = (pair_of key w is (writable w refl), tt)

answers_are : (session : Session) (p : Preferences) → ArePreferencesInRange p → (given : Pairs) → AllByRecursion IsPair given →
    AllByRecursion IsPair (flat_map (answers_to session p) given)
answers_are session p range [] all = tt
answers_are session p range (pair ∷ given) all =
    all_append IsPair (answers_to session p pair) (flat_map (answers_to session p) given)
    (pairs_are pair.0 (answer_value session p pair.0 pair.1) all.0.key (λ w e. writable_any session p range pair.0 pair.1 w e))
    (answers_are session p range given all.1)

pub kind_max_recv : kind_of max_recv_key ≡ Some kinds.Number
unfolding kind_of
kind_max_recv = refl

kind_tag : kind_of tag_key ≡ Some kinds.Number
unfolding kind_of
kind_tag = refl

number_is : (key : List ℕ) → IsKey key → kind_of key ≡ Some kinds.Number → (o : Option ℕ) → IfSome o (λ n. n < 2 ^ 64) →
    AllByRecursion IsPair (pairs_with key (option_map values.Number o))
number_is key is kind None small = tt
number_is key is kind (Some n) small = (pair_of key (values.Number n) is (subst (λ k. Writable k (values.Number n)) (sym kind) (writable_number n small)), tt)

declared_tags : (tag max_recv : Option ℕ) → values_of tag_key (declarations tag max_recv) ≡ option_to_list (option_map values.Number tag)
declared_tags None None = refl
declared_tags None (Some m) = refl
declared_tags (Some t) None = refl
declared_tags (Some t) (Some m) = refl

at_most_one : {A : Type 0} (o : Option A) → length (option_to_list o) ≤ 1
at_most_one None = omega arith
at_most_one (Some x) = omega arith

answered_at_most : (session : Session) (p : Preferences) (key : List ℕ) (vs : List Typed) → length (flat_map (answer_values session p key) vs) ≤ length vs
answered_at_most session p key [] = omega arith
answered_at_most session p key (v ∷ vs) = omega (
  arith,
  answered_at_most session p key vs,
  at_most_one (answer_value session p key v),
  length-append (answer_values session p key v) (flat_map (answer_values session p key) vs),
)

pub answer_meaning : (session : Session) (p : Preferences) → ArePreferencesInRange p → (tag max_recv : Option ℕ) → IfSome tag (λ n. n < 2 ^ 64) →
    IfSome max_recv (λ n. n < 2 ^ 64) → (given : Pairs) → IsMeaning given → IsMeaning (answer session p tag max_recv given)
answer_meaning session p range tag max_recv small_tag small_max given is = record {
  in_order = in_order_is (declarations tag max_recv ++ flat_map (answers_to session p) given);
  single = λ key other. elim (key_cases max_recv_key key) [
    | inl same ↦ subst (λ k. length (values_of k (answer session p tag max_recv given))
        ≤ 1) same (omega (arith, ap length (answered_lengths session p tag max_recv given), at_most_one (option_map values.Number max_recv)))
    | inr not_max ↦ elim (key_cases tag_key key) [
      | inl same ↦ subst (λ k. length (values_of k (answer session p tag max_recv given))
          ≤ 1) same (omega (
            arith,
            at_most_one (option_map values.Number tag),
            ap length (values_of-answer session p tag max_recv given tag_key
                ∙ ap (λ vs. values_of tag_key (declarations tag max_recv) ++ vs)
                (unanswered session p tag_key (values_of tag_key given) (unanswered_tag session p))
                ∙ append-nil (values_of tag_key (declarations tag max_recv)) ∙ declared_tags tag max_recv),
          ))
      | inr not_tag ↦ omega (
        arith,
        is.single key other,
        answered_at_most session p key (values_of key given),
        ap length (values_of-answer session p tag max_recv given key ∙ ap (λ vs. vs ++ flat_map (answer_values session p key) (values_of key given))
            (undeclared key tag max_recv not_max not_tag)),
      )
    ]
  ];
  each = all_in_order IsPair (declarations tag max_recv ++ flat_map (answers_to session p) given)
      (all_append IsPair (declarations tag max_recv) (flat_map (answers_to session p) given)
      (all_append IsPair (pairs_with max_recv_key (option_map values.Number max_recv)) (pairs_with tag_key (option_map values.Number tag))
      (number_is max_recv_key (key_from max_recv_key refl refl refl) kind_max_recv max_recv small_max)
      (number_is tag_key (key_from tag_key refl refl refl) kind_tag tag small_tag))
      (answers_are session p range given is.each));
}

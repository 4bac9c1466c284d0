-- An answer in which no key is bad is a good one, and a good one has none.
use Rattle.std.proofs.Common.{◌≡◌, ◌≢◌, ℕ, ◌<◌, ◌≤◌, Bool, true, false, not, ◌&&◌, ◌||◌, List, [], ◌∷◌, ◌++◌, length, map, find, nat_le, Option, Some, None}
use Rattle.std.proofs.Common.{is_some, is_none, slice_get, if◌then◌else◌, refl, sym, ap, subst, ◌∙◌, inl, inr, arith}
use Rattle.std.specs.List.{AllByRecursion}
use Rattle.std.specs.Option.{IfSome}
use Rattle.std.specs.Str.{bytes_eq}
use Rattle.std.proofs.lemmas.Bool.{and_parts, and_from, or_cases, or_left, or_right, not-false, not_from_true, leb-true, le-leb}
use Rattle.std.proofs.lemmas.List.Folds.{list_any-append}
use Rattle.iscsi_text.specs.Key.{is_among}
use Rattle.iscsi_text.specs.Value.{Typed}
use Rattle.iscsi_text.specs.Value as values
use Rattle.iscsi_text.specs.Text.{Pairs, values_of, IsPair, IsMeaning}
use Rattle.iscsi_text.proofs.KeyLemmas.{same_key}
use Rattle.iscsi_text.specs.declared.negotiated.NegKey.{NegKey}
use Rattle.iscsi_text.specs.declared.negotiated.NegKey.TheVariants as keys
use Rattle.iscsi_text.specs.Negotiated.{name_of, all_keys, key_named}
use Rattle.iscsi_login.specs.Negotiation.{max_recv_range}
use Rattle.iscsi_login.specs.Answer.{max_recv_key, IsSegmentLength, is_segment_length, IsLengthOrNone, DeclaresWell}
use Rattle.iscsi_login.specs.Check.{AnswersOffer, declarable, may_declare, may_answer, is_good_pair, is_bad, is_unanswered, key_or, bad_key, IsOffer, IsGoodAnswer}
use Rattle.iscsi_login.proofs.AnswerLemmas.{key_named-name}
use Rattle.iscsi_login.proofs.KeyValueLemmas.{found_passes, found_has, none_passes, none_found, all_from, each_value, each_pair, neither}
use Rattle.iscsi_login.proofs.LegalAnswerLemmas.{legal_from, legal_passes}
use Rattle.iscsi_login.proofs.TextAgreementLaw.{not_address}

-- ---- declared lengths

length_from : (v : Typed) → is_segment_length v ≡ true → IsSegmentLength v
length_from (values.Number n) e = let both = and_parts (nat_le max_recv_range.low n) (nat_le n max_recv_range.high) e in
    (leb-true max_recv_range.low n both.0, leb-true n max_recv_range.high both.1)
length_from _ e = absurd cc

length_passes : (v : Typed) → IsSegmentLength v → is_segment_length v ≡ true
length_passes (values.Number n) is = and_from (nat_le max_recv_range.low n) (nat_le n max_recv_range.high) (le-leb max_recv_range.low n is.0)
    (le-leb n max_recv_range.high is.1)
length_passes _ is = absurd is

-- a pair with the key of a declared length
good_length : (offered : Pairs) (v : Typed) → is_bad offered (max_recv_key, v) ≡ false → IsSegmentLength v
good_length offered v e = length_from v (not-false (is_segment_length v) e)

lengths_of : (offered answer : Pairs) → find (is_bad offered) answer ≡ None → AllByRecursion IsSegmentLength (values_of max_recv_key answer)
lengths_of offered answer e =
    all_from (λ v. is_bad offered (max_recv_key, v) ≡ false) IsSegmentLength (values_of max_recv_key answer) (good_length offered)
    (each_value (λ p. is_bad offered p ≡ false) answer (none_passes (is_bad offered) answer e) max_recv_key)

first_length : (vs : List Typed) → AllByRecursion IsSegmentLength vs → IsLengthOrNone vs
first_length [] all = tt
first_length (v ∷ vs) all = all.0

-- an answer without a bad key declares a length that may be declared
pub taken_declares : (offered answer : Pairs) → bad_key offered answer ≡ None → DeclaresWell answer
taken_declares offered answer e = first_length (values_of max_recv_key answer) (lengths_of offered answer (neither (find (is_bad offered) answer)
    (find (is_unanswered answer) offered) e).0)

-- ---- names

-- the key has this name, where it is found by it
named_is : (name : List ℕ) → IfSome (key_named name) (λ key. name_of key ≡ name)
named_is name = by (key_named name) (found_passes (λ key. bytes_eq (name_of key) name) all_keys)
  where
    by : (o : Option NegKey) → IfSome o (λ key. bytes_eq (name_of key) name ≡ true) → IfSome o (λ key. name_of key ≡ name)
    by None is = tt
    by (Some key) is = same_key (name_of key) name is

named_among : (name : List ℕ) (ks : List NegKey) → is_among (map name_of ks) name ≡ is_some (find (λ key. bytes_eq (name_of key) name) ks)
named_among name [] = refl
named_among name (k ∷ ks) = by (named_among name ks) (bytes_eq (name_of k) name)
  where
    by : is_among (map name_of ks) name ≡ is_some (find (λ key. bytes_eq (name_of key) name) ks) → (t : Bool) → (t || is_among (map name_of ks) name)
        ≡ is_some (if t then Some k else find (λ key. bytes_eq (name_of key) name) ks)
    by rest true = refl
    by rest false = rest

name_is_short : (key : NegKey) → nat_le (length (name_of key)) 63 ≡ true
name_is_short keys.MaxConnections = refl
name_is_short _ = refl

-- the key for which an answer is refused is no longer than a key of a text
short_of : (o : Option (List ℕ × Typed)) (other : Option (List ℕ)) → IfSome o (λ p. length p.0 ≤ 63) → IfSome other (λ key. length key ≤ 63) →
    IfSome (key_or o other) (λ key. length key ≤ 63)
short_of None other is rest = rest
short_of (Some p) other is rest = is

key_size : (o : Option (List ℕ × Typed)) → IfSome o IsPair → IfSome o (λ p. length p.0 ≤ 63)
key_size None is = tt
key_size (Some p) is = is.key.size

unanswered_size : (answer : Pairs) (o : Option (List ℕ × Typed)) → IfSome o (λ p. is_unanswered answer p ≡ true) → IfSome o (λ p. length p.0 ≤ 63)
unanswered_size answer None is = tt
unanswered_size answer (Some p) is = by (key_named p.0) (named_is p.0) (and_parts (is_some (key_named p.0)) (is_none (slice_get (values_of p.0 answer) 0)) is).0
  where
    by : (k : Option NegKey) → IfSome k (λ key. name_of key ≡ p.0) → is_some k ≡ true → length p.0 ≤ 63
    by None name some = absurd cc
    by (Some key) name some = subst (λ bytes. length bytes ≤ 63) name (leb-true (length (name_of key)) 63 (name_is_short key))

-- an offered key that is left out has a name, and is found by it
pub name_back : (name : List ℕ) (key : NegKey) → key_named name ≡ Some key → name_of key ≡ name
name_back name key is = subst (λ k. IfSome k (λ key. name_of key ≡ name)) is (named_is name)

pub unanswered_named : (answer : Pairs) (pair : List ℕ × Typed) → is_unanswered answer pair ≡ true → key_named pair.0 ≢ None
unanswered_named answer pair is none = let some : false ≡ true = sym (ap is_some none)
    ∙ (and_parts (is_some (key_named pair.0)) (is_none (slice_get (values_of pair.0 answer) 0)) is).0 in cc

pub key_is_short : (offered answer : Pairs) → IsMeaning answer → IfSome (bad_key offered answer) (λ key. length key ≤ 63)
key_is_short offered answer meaning =
    short_of (find (is_bad offered) answer) (key_or (find (is_unanswered answer) offered) None)
    (key_size (find (is_bad offered) answer) (found_has IsPair (is_bad offered) answer meaning.each))
    (short_of (find (is_unanswered answer) offered) None (unanswered_size answer (find (is_unanswered answer) offered)
    (found_passes (is_unanswered answer) offered)) tt)

-- ---- without a bad key it is good

-- a value of a negotiated key
good_value : (key : NegKey) (offered : Pairs) (v : Typed) → is_bad offered (name_of key, v) ≡ false →
    may_answer key (slice_get (values_of (name_of key) offered) 0) v ≡ true
good_value key offered v e =
    not-false (may_answer key (slice_get (values_of (name_of key) offered) 0) v)
    (sym (ap (λ k. not (is_good_pair k offered (name_of key, v))) (key_named-name key)) ∙ e)

-- an offered value has an answer
answered_value_of : (answers offers : List Typed) → AllByRecursion (λ v. is_none (slice_get answers 0) ≡ false) offers → 0 < length offers → 0 < length answers
answered_value_of answers [] all some = absurd (omega arith)
answered_value_of [] (o ∷ offers) all some = absurd (none all.0)
  where
    none : true ≡ false → ⊥
    none e = cc
answered_value_of (a ∷ answers) (o ∷ offers) all some = omega arith

answers_from : (key : NegKey) (offers answers : List Typed) → length offers ≤ 1 → length answers ≤ 1 →
    AllByRecursion (λ v. may_answer key (slice_get offers 0) v ≡ true) answers → (0 < length offers → 0 < length answers) → AnswersOffer key offers answers
answers_from key [] [] few one all some = tt
answers_from key [] (a ∷ answers) few one all some = let bad : false ≡ true = all.0 in cc
answers_from key (o ∷ []) [] few one all some = absurd (omega (arith, some (omega arith)))
answers_from key (o ∷ []) (a ∷ []) few one all some = legal_from key o a all.0
answers_from key (o ∷ []) (a ∷ b ∷ answers) few one all some = absurd (omega arith)
answers_from key (o ∷ p ∷ offers) answers few one all some = absurd (omega arith)

-- a value whose pair isn't bad has a key that a target may say
good_key : (offered : Pairs) (name : List ℕ) (v : Typed) → is_bad offered (name, v) ≡ false → is_among (map name_of all_keys ++ declarable) name ≡ true
good_key offered name v e = list_any-append (λ k. bytes_eq k name) (map name_of all_keys) declarable ∙ by (key_named name) refl
  where
    by : (k : Option NegKey) → key_named name ≡ k → (is_among (map name_of all_keys) name || is_among declarable name) ≡ true
    by (Some key) is = or_left (is_among (map name_of all_keys) name) (is_among declarable name) (named_among name all_keys ∙ ap is_some is)
    by None is =
        let good : may_declare (name, v) ≡ true = not-false (may_declare (name, v)) (sym (ap (λ k. not (is_good_pair k offered (name, v))) is) ∙ e) in
        or_right (is_among (map name_of all_keys) name) (is_among declarable name)
        (and_parts (is_among declarable name) (not (bytes_eq name max_recv_key) || is_segment_length v) good).0

good_keys : (offered : Pairs) (name : List ℕ) (vs : List Typed) → AllByRecursion (λ v. is_bad offered (name, v) ≡ false) vs → 0 < length vs →
    is_among (map name_of all_keys ++ declarable) name ≡ true
good_keys offered name [] all some = absurd (omega arith)
good_keys offered name (v ∷ vs) all some = good_key offered name v all.0

pub none_is_good : (offered answer : Pairs) → IsOffer offered → IsMeaning answer → bad_key offered answer ≡ None → IsGoodAnswer offered answer
none_is_good offered answer offer meaning e =
    let parts : (find (is_bad offered) answer ≡ None) × (find (is_unanswered answer) offered ≡ None) =
    neither (find (is_bad offered) answer) (find (is_unanswered answer) offered) e in
    let good : AllByRecursion (λ p. is_bad offered p ≡ false) answer = none_passes (is_bad offered) answer parts.0 in
    let answered : AllByRecursion (λ p. is_unanswered answer p ≡ false) offered = none_passes (is_unanswered answer) offered parts.1 in
    record {
      negotiated = λ key.
          answers_from key (values_of (name_of key) offered) (values_of (name_of key) answer) (offer.single (name_of key) (not_address key))
          (meaning.single (name_of key) (not_address key))
          (all_from (λ v. is_bad offered (name_of key, v) ≡ false) (λ v. may_answer key (slice_get (values_of (name_of key) offered) 0) v ≡ true)
          (values_of (name_of key) answer) (good_value key offered) (each_value (λ p. is_bad offered p ≡ false) answer good (name_of key)))
          (answered_value_of (values_of (name_of key) answer) (values_of (name_of key) offered)
          (all_from (λ v. is_unanswered answer (name_of key, v) ≡ false) (λ v. is_none (slice_get (values_of (name_of key) answer) 0) ≡ false)
          (values_of (name_of key) offered)
          (λ v h. sym (ap (λ k. is_some k && is_none (slice_get (values_of (name_of key) answer) 0)) (key_named-name key)) ∙ h)
          (each_value (λ p. is_unanswered answer p ≡ false) offered answered (name_of key))));
      max_recv = lengths_of offered answer parts.0;
      others = λ key some. good_keys offered key (values_of key answer) (each_value (λ p. is_bad offered p ≡ false) answer good key) some;
    }

-- ---- a good one has none

-- the answers to an offer, and what they answer
good_values : (key : NegKey) (offers answers : List Typed) → AnswersOffer key offers answers →
    AllByRecursion (λ v. may_answer key (slice_get offers 0) v ≡ true) answers
good_values key [] [] is = tt
good_values key (o ∷ []) (a ∷ []) is = (legal_passes key o a is, tt)
good_values key [] (a ∷ answers) is = absurd is
good_values key (o ∷ []) [] is = absurd is
good_values key (o ∷ []) (a ∷ b ∷ answers) is = absurd is
good_values key (o ∷ p ∷ offers) answers is = absurd is

all_answered : (key : NegKey) (offers answers : List Typed) → AnswersOffer key offers answers
    → AllByRecursion (λ v. is_none (slice_get answers 0) ≡ false) offers
all_answered key [] [] is = tt
all_answered key (o ∷ []) (a ∷ []) is = (refl, tt)
all_answered key [] (a ∷ answers) is = absurd is
all_answered key (o ∷ []) [] is = absurd is
all_answered key (o ∷ []) (a ∷ b ∷ answers) is = absurd is
all_answered key (o ∷ p ∷ offers) answers is = absurd is

-- a declared value
length_or_other : (name : List ℕ) (v : Typed) → (bytes_eq name max_recv_key ≡ true → is_segment_length v ≡ true) →
    (not (bytes_eq name max_recv_key) || is_segment_length v) ≡ true
length_or_other name v is = by (bytes_eq name max_recv_key) is
  where
    by : (t : Bool) → (t ≡ true → is_segment_length v ≡ true) → (not t || is_segment_length v) ≡ true
    by true is = is refl
    by false is = refl

declared_values : (name : List ℕ) (vs : List Typed) → (0 < length vs → is_among declarable name ≡ true) →
    AllByRecursion (λ v. bytes_eq name max_recv_key ≡ true → is_segment_length v ≡ true) vs → AllByRecursion (λ v. may_declare (name, v) ≡ true) vs
declared_values name [] some all = tt
declared_values name (v ∷ vs) some all = (
  and_from (is_among declarable name) (not (bytes_eq name max_recv_key) || is_segment_length v) (some (omega arith)) (length_or_other name v all.0),
  declared_values name vs (λ more. some (omega arith)) all.1,
)

lengths_pass : (answer : Pairs) (name : List ℕ) → AllByRecursion IsSegmentLength (values_of max_recv_key answer) →
    AllByRecursion (λ v. bytes_eq name max_recv_key ≡ true → is_segment_length v ≡ true) (values_of name answer)
lengths_pass answer name all = by (bytes_eq name max_recv_key) refl
  where
    none_asked : (vs : List Typed) → AllByRecursion (λ v. false ≡ true → is_segment_length v ≡ true) vs
    none_asked [] = tt
    none_asked (v ∷ vs) = (λ e. cc, none_asked vs)

    by : (t : Bool) → bytes_eq name max_recv_key ≡ t → AllByRecursion (λ v. t ≡ true → is_segment_length v ≡ true) (values_of name answer)
    by false e = none_asked (values_of name answer)
    by true e = all_from IsSegmentLength (λ v. true ≡ true → is_segment_length v ≡ true) (values_of name answer) (λ v is _. length_passes v is)
        (subst (λ k. AllByRecursion IsSegmentLength (values_of k answer)) (sym (same_key name max_recv_key e)) all)

-- each value of a key in a good answer
good_at : (offered answer : Pairs) → IsGoodAnswer offered answer → (name : List ℕ) →
    AllByRecursion (λ v. is_bad offered (name, v) ≡ false) (values_of name answer)
good_at offered answer good name = by (key_named name) refl (named_is name)
  where
    by : (k : Option NegKey) → key_named name ≡ k → IfSome k (λ key. name_of key ≡ name) →
        AllByRecursion (λ v. not (is_good_pair (key_named name) offered (name, v)) ≡ false) (values_of name answer)
    by (Some key) is same =
        all_from (λ v. may_answer key (slice_get (values_of name offered) 0) v ≡ true) (λ v. not (is_good_pair (key_named name) offered (name, v)) ≡ false)
        (values_of name answer)
        (λ v may. ap (λ k. not (is_good_pair k offered (name, v))) is ∙ not_from_true (may_answer key (slice_get (values_of name offered) 0) v) may)
        (subst (λ n. AllByRecursion (λ v. may_answer key (slice_get (values_of n offered) 0) v ≡ true) (values_of n answer)) same
        (good_values key (values_of (name_of key) offered) (values_of (name_of key) answer) (good.negotiated key)))
    by None is same =
        all_from (λ v. may_declare (name, v) ≡ true) (λ v. not (is_good_pair (key_named name) offered (name, v)) ≡ false) (values_of name answer)
        (λ v may. ap (λ k. not (is_good_pair k offered (name, v))) is ∙ not_from_true (may_declare (name, v)) may)
        (declared_values name (values_of name answer) (declared is) (lengths_pass answer name good.max_recv))
      where
        declared : key_named name ≡ None → 0 < length (values_of name answer) → is_among declarable name ≡ true
        declared is some = elim (or_cases (is_among (map name_of all_keys) name) (is_among declarable name)
            (sym (list_any-append (λ k. bytes_eq k name) (map name_of all_keys) declarable) ∙ good.others name some)) [
              | inl named ↦ let bad : true ≡ false = sym named ∙ named_among name all_keys ∙ ap is_some is in cc
              | inr here ↦ here
            ]

-- each offered value has its answer
answered_at : (offered answer : Pairs) → IsGoodAnswer offered answer → (name : List ℕ) →
    AllByRecursion (λ v. is_unanswered answer (name, v) ≡ false) (values_of name offered)
answered_at offered answer good name = by (key_named name) (named_is name)
  where
    unasked : (vs : List Typed) → AllByRecursion (λ v. false ≡ false) vs
    unasked [] = tt
    unasked (v ∷ vs) = (refl, unasked vs)

    by : (k : Option NegKey) → IfSome k (λ key. name_of key ≡ name) → AllByRecursion (λ v. (is_some k && is_none (slice_get (values_of name answer) 0)) ≡ false)
        (values_of name offered)
    by (Some key) same = subst (λ n. AllByRecursion (λ v. is_none (slice_get (values_of n answer) 0) ≡ false) (values_of n offered)) same
        (all_answered key (values_of (name_of key) offered) (values_of (name_of key) answer) (good.negotiated key))
    by None same = unasked (values_of name offered)

pub good_is_taken : (offered answer : Pairs) → IsGoodAnswer offered answer → bad_key offered answer ≡ None
good_is_taken offered answer good =
    ap (λ o. key_or o (key_or (find (is_unanswered answer) offered) None)) (none_found (is_bad offered) answer
    (each_pair (λ p. is_bad offered p ≡ false) answer (good_at offered answer good)))
    ∙ ap (λ o. key_or o None) (none_found (is_unanswered answer) offered (each_pair (λ p. is_unanswered answer p
    ≡ false) offered (answered_at offered answer good)))

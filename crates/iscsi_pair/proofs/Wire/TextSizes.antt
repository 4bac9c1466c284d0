-- How long the texts of a login of two ends are.
use Rattle.std.proofs.Common.{◌≡◌, ◌<◌, ◌≤◌, inl, inr, ℕ, ◌+◌, ◌*◌, Bool, true, false, List, [], ◌∷◌, ◌++◌, length, map, Option, Some, None, refl, ap, arith}
use Rattle.std.specs.Prelude.{◌^◌, ◌&&◌, nat_le, if◌then◌else◌, is_some, IfSome, codes}
use Rattle.std.specs.Fmt.{decimal}
use Rattle.std.specs.List.{AllByRecursion, flat_map}
use Rattle.std.specs.Option.{option_map, option_map_or}
use Rattle.std.proofs.lemmas.List.{length-append}
use Rattle.std.proofs.lemmas.Fmt.{length-decimal-le}
use Rattle.iscsi_text.specs.Key.{is_among, kind_of}
use Rattle.iscsi_text.specs.Numeral.{canonical_number}
use Rattle.iscsi_text.specs.Value.{Typed, Number, Boolean, Items, Plain, Odd, value_text}
use Rattle.iscsi_text.specs.Text.{Pairs, key_le}
use Rattle.iscsi_text.specs.Canonical.{canonical_text, pair_text}
use Rattle.iscsi_text.proofs.NumeralLemmas.{canonical_is}
use Rattle.iscsi_text.specs.declared.negotiated.NegKey.{NegKey}
use Rattle.iscsi_text.specs.declared.negotiated.NegKey.TheVariants as keys
use Rattle.iscsi_text.specs.declared.negotiated.Session.{Session}
use Rattle.iscsi_text.specs.declared.negotiated.Session.TheVariants as sessions
use Rattle.iscsi_login.specs.declared.offers.Auth.{Auth}
use Rattle.iscsi_login.specs.declared.offers.Auth.TheVariants as auths
use Rattle.iscsi_text.specs.declared.negotiated.Answered.{Answered}
use Rattle.iscsi_text.specs.declared.negotiated.Answered.TheVariants as answers
use Rattle.iscsi_login.specs.declared.preferences.Preferences.{Preferences}
use Rattle.iscsi_text.specs.Negotiated.{name_of, rule_of, key_named, is_irrelevant, operational_keys}
use Rattle.iscsi_text.specs.declared.negotiated.Range.{Range}
use Rattle.iscsi_text.specs.declared.negotiated.Rule.{Rule}
use Rattle.iscsi_text.specs.declared.negotiated.Rule.TheVariants as rules
use Rattle.iscsi_login.specs.Negotiation.{ArePreferencesInRange, has_none, preference, in_range, value_of, chosen, result_of, word, answered_value}
use Rattle.iscsi_login.specs.Answer.{answer_to, answer_value, answers_to, other_answer, answered_no, rejected_keys, pairs_with, declarations, answer, max_recv_key}
use Rattle.iscsi_login.specs.Answer.{tag_key}
use Rattle.iscsi_text.specs.Reading.{placed, in_order}
use Rattle.iscsi_login.specs.Offers.{Proposal, auth_items, session_name, target_pair, names, security_offers, operational_offers, single_offers, preferred_pair}
use Rattle.iscsi_text.proofs.OrderLemmas.{all_in_order}
use Rattle.iscsi_login.proofs.AnswerMeaningLaw.{all_append}

-- ---- values and texts

-- the value has at most 223 bytes in a text
abbrev pub IsShortValue : Typed → Type 0
IsShortValue (Number n) = n < 2 ^ 64
IsShortValue (Boolean b) = Unit {0}
IsShortValue (Items bytes) = length bytes ≤ 223
IsShortValue (Plain bytes) = length bytes ≤ 223
IsShortValue (Odd bytes) = length bytes ≤ 223

abbrev pub IsShort : List ℕ × Typed → Type 0
IsShort pair = (length pair.0 ≤ 63) × IsShortValue pair.1

number_short : (n : ℕ) → n < 2 ^ 64 → length (canonical_number n) ≤ 20
number_short n lt =
    let d : length (decimal n) ≤ 20 = length-decimal-le 20 n (omega arith) (omega (arith, lt)) lt in
    elim (canonical_is n) [
      | inl e ↦ (let f = ap length e.0 in omega (arith, f, d))
      | inr e ↦ (let f = ap length e.0 in let g = e.1 in omega (arith, f, g, d))
    ]

value_short : (v : Typed) → IsShortValue v → length (value_text v) ≤ 223
value_short (Number n) s = (let f = number_short n s in omega (arith, f))
value_short (Boolean true) s = omega arith
value_short (Boolean false) s = omega arith
value_short (Items bytes) s = s
value_short (Plain bytes) s = s
value_short (Odd bytes) s = s

pub text_short : (pairs : Pairs) → AllByRecursion IsShort pairs → length (canonical_text pairs) ≤ 288 * length pairs
text_short [] a = omega arith
text_short (p ∷ pairs) a =
    let rest = text_short pairs a.1 in
    let value = value_short p.1 a.0.1 in
    let key = a.0.0 in
    let one : length (pair_text p) ≡ length (p.0 ++ (61 ∷ value_text p.1)) + 1 = length-append (p.0 ++ (61 ∷ value_text p.1)) (0 ∷ []) in
    let two : length (p.0 ++ (61 ∷ value_text p.1)) ≡ length p.0 + length (61 ∷ value_text p.1) = length-append p.0 (61 ∷ value_text p.1) in
    let three : length (61 ∷ value_text p.1) ≡ length (value_text p.1) + 1 = omega arith in
    let all : length (canonical_text (p ∷ pairs)) ≡ length (pair_text p) + length (canonical_text pairs) = length-append (pair_text p) (canonical_text pairs) in
    omega (arith, rest, value, key, one, two, three, all)

-- an order of pairs has as many
placed_if : (b : Bool) (p q : List ℕ × Typed) (pairs : Pairs) → length (placed p pairs) ≡ length pairs + 1
    → length (if b then p ∷ q ∷ pairs else q ∷ placed p pairs) ≡ length (q ∷ pairs) + 1
placed_if true p q pairs e = omega arith
placed_if false p q pairs e = omega (arith, e)

length-placed : (p : List ℕ × Typed) (pairs : Pairs) → length (placed p pairs) ≡ length pairs + 1
length-placed p [] = refl
length-placed p (q ∷ pairs) = placed_if (key_le p.0 q.0) p q pairs (length-placed p pairs)

pub length-in_order : (pairs : Pairs) → length (in_order pairs) ≡ length pairs
length-in_order [] = refl
length-in_order (p ∷ pairs) = (let a = length-placed p (in_order pairs) in let b = length-in_order pairs in omega (arith, a, b))

-- ---- what is offered

-- a value of a preference is short
abbrev IsSmall : Answered → Type 0
IsSmall (answers.Number n) = n < 2 ^ 64
IsSmall _ = Unit {0}

word_short : (rule : Rule) (bytes : List ℕ) → length bytes ≤ 223 → IsShortValue (word rule bytes)
word_short (rules.Minimum range) bytes le = le
word_short (rules.Maximum range) bytes le = le
word_short rules.Or bytes le = le
word_short rules.And bytes le = le
word_short rules.NoneItem bytes le = le

answered_short : (rule : Rule) (a : Answered) → IsSmall a → IsShortValue (answered_value rule a)
answered_short rule (answers.Number n) s = s
answered_short rule (answers.Flag b) s = tt
answered_short rule answers.NoneItem s = omega arith
answered_short rule answers.Reject s = word_short rule (codes "Reject") (omega arith)

preference_small : (p : Preferences) (key : NegKey) → ArePreferencesInRange p → IsSmall (preference p key)
preference_small p keys.MaxConnections r = omega arith
preference_small p keys.InitialR2T r = tt
preference_small p keys.ImmediateData r = tt
preference_small p keys.MaxBurstLength r = omega (arith, r.max_burst.1)
preference_small p keys.FirstBurstLength r = omega (arith, r.first_burst.1)
preference_small p keys.DefaultTime2Wait r = omega (arith, r.time2wait.1)
preference_small p keys.DefaultTime2Retain r = omega (arith, r.time2retain.1)
preference_small p keys.MaxOutstandingR2T r = omega arith
preference_small p keys.DataPDUInOrder r = tt
preference_small p keys.DataSequenceInOrder r = tt
preference_small p keys.ErrorRecoveryLevel r = omega arith
preference_small p keys.HeaderDigest r = tt
preference_small p keys.DataDigest r = tt
preference_small p keys.AuthMethod r = tt

name_short : (key : NegKey) → length (name_of key) ≤ 63
name_short keys.MaxConnections = omega arith
name_short keys.InitialR2T = omega arith
name_short keys.ImmediateData = omega arith
name_short keys.MaxBurstLength = omega arith
name_short keys.FirstBurstLength = omega arith
name_short keys.DefaultTime2Wait = omega arith
name_short keys.DefaultTime2Retain = omega arith
name_short keys.MaxOutstandingR2T = omega arith
name_short keys.DataPDUInOrder = omega arith
name_short keys.DataSequenceInOrder = omega arith
name_short keys.ErrorRecoveryLevel = omega arith
name_short keys.HeaderDigest = omega arith
name_short keys.DataDigest = omega arith
name_short keys.AuthMethod = omega arith

preferred_short : (p : Preferences) → ArePreferencesInRange p → (ks : List NegKey) → AllByRecursion IsShort (map (preferred_pair p) ks)
preferred_short p r [] = tt
preferred_short p r (key ∷ ks) = ((name_short key, answered_short (rule_of key) (preference p key) (preference_small p key r)), preferred_short p r ks)

pub operational_short : (o : Proposal) → ArePreferencesInRange o.prefs → AllByRecursion IsShort (operational_offers o)
operational_short o r = ((omega arith, omega (arith, r.max_recv.1)), preferred_short o.prefs r operational_keys)

auth_short : (auth : Auth) → length (auth_items auth) ≤ 223
auth_short auths.None = omega arith
auth_short auths.ChapOrNone = omega arith
auth_short auths.Chap = omega arith

session_short : (session : Session) → length (session_name session) ≤ 223
session_short sessions.Normal = omega arith
session_short sessions.Discovery = omega arith

target_short : (session : Session) (name : List ℕ) → length name ≤ 223 → AllByRecursion IsShort (target_pair session name)
target_short sessions.Normal name le = ((omega arith, le), tt)
target_short sessions.Discovery name le = tt

pub names_short : (o : Proposal) → length o.initiator ≤ 223 → length o.target ≤ 223 → AllByRecursion IsShort (names o)
names_short o a b = ((omega arith, a), ((omega arith, session_short o.session), target_short o.session o.target b))

pub security_short : (o : Proposal) → length o.initiator ≤ 223 → length o.target ≤ 223 → AllByRecursion IsShort (security_offers o)
security_short o a b = ((omega arith, auth_short o.auth), names_short o a b)

pub single_short : (o : Proposal) → length o.initiator ≤ 223 → length o.target ≤ 223 → ArePreferencesInRange o.prefs → AllByRecursion IsShort (single_offers o)
single_short o a b r = all_append IsShort (names o) (operational_offers o) (names_short o a b) (operational_short o r)

-- ---- what answers it

small_if : (b : Bool) (n : ℕ) → n < 2 ^ 64 → IsSmall (if b then answers.Number n else answers.Reject)
small_if true n lt = lt
small_if false n lt = tt

in_range_small : (range : Range) (n : ℕ) → n < 2 ^ 64 → IsSmall (in_range range n)
in_range_small range n lt = small_if (nat_le range.low n && nat_le n range.high) n lt

value_small : (rule : Rule) (v : Typed) → IsShortValue v → IsSmall (value_of rule v)
value_small (rules.Minimum range) (Number n) s = in_range_small range n s
value_small (rules.Maximum range) (Number n) s = in_range_small range n s
value_small rules.Or (Boolean b) s = tt
value_small rules.And (Boolean b) s = tt
value_small rules.NoneItem (Items items) s = none_if (has_none items)
  where
    none_if : (b : Bool) → IsSmall (if b then answers.NoneItem else answers.Reject)
    none_if true = tt
    none_if false = tt
value_small _ _ s = tt

chosen_small : (rule : Rule) (x y : Answered) → IsSmall x → IsSmall y → IsSmall (chosen rule x y)
chosen_small (rules.Minimum range) (answers.Number a) (answers.Number b) s t = omega (arith, s, t)
chosen_small (rules.Maximum range) (answers.Number a) (answers.Number b) s t = omega (arith, s, t)
chosen_small rules.Or (answers.Flag a) (answers.Flag b) s t = tt
chosen_small rules.And (answers.Flag a) (answers.Flag b) s t = tt
chosen_small rules.NoneItem answers.NoneItem answers.NoneItem s t = tt
chosen_small _ _ _ s t = tt

short_if : (b : Bool) (x y : Typed) → IsShortValue x → IsShortValue y → IsShortValue (if b then x else y)
short_if true x y s t = s
short_if false x y s t = t

answer_short : (session : Session) (p : Preferences) (key : NegKey) (v : Typed) → ArePreferencesInRange p → IsShortValue v
    → IsShortValue (answer_to session p key v)
answer_short session p key v r s =
    short_if (is_irrelevant session key) (word (rule_of key) (codes "Irrelevant")) (answered_value (rule_of key) (result_of key v p))
    (word_short (rule_of key) (codes "Irrelevant") (omega arith))
    (answered_short (rule_of key) (result_of key v p) (chosen_small (rule_of key) (value_of (rule_of key) v) (preference p key) (value_small (rule_of key) v s)
    (preference_small p key r)))

-- the value of an answer, if there is one
abbrev IsShortOption : Option Typed → Type 0
IsShortOption o = IfSome o IsShortValue

option_if : (b : Bool) (x y : Option Typed) → IsShortOption x → IsShortOption y → IsShortOption (if b then x else y)
option_if true x y s t = s
option_if false x y s t = t

other_short : (key : List ℕ) → IsShortOption (other_answer key)
other_short key =
    option_if (is_among answered_no key) (Some (Boolean false)) _ tt
    (option_if (is_among rejected_keys key) (Some (Plain (codes "Reject"))) _ (omega arith)
    (option_if (is_some (kind_of key)) None (Some (Plain (codes "NotUnderstood"))) tt (omega arith)))

value_by : (o : Option NegKey) (session : Session) (p : Preferences) (key : List ℕ) (v : Typed) → ArePreferencesInRange p → IsShortValue v
    → IsShortOption (option_map_or (λ k. Some (answer_to session p k v)) o (other_answer key))
value_by None session p key v r s = other_short key
value_by (Some k) session p key v r s = answer_short session p k v r s

pair_short : (key : List ℕ) (o : Option Typed) → length key ≤ 63 → IsShortOption o → AllByRecursion IsShort (pairs_with key o)
pair_short key None le s = tt
pair_short key (Some v) le s = ((le, s), tt)

pair_count : (key : List ℕ) (o : Option Typed) → length (pairs_with key o) ≤ 1
pair_count key None = omega arith
pair_count key (Some v) = omega arith

given_short : (session : Session) (p : Preferences) (given : Pairs) → ArePreferencesInRange p → AllByRecursion IsShort given
    → AllByRecursion IsShort (flat_map (answers_to session p) given)
given_short session p [] r a = tt
given_short session p (pair ∷ given) r a =
    all_append IsShort (answers_to session p pair) (flat_map (answers_to session p) given)
    (pair_short pair.0 (answer_value session p pair.0 pair.1) a.0.0 (value_by (key_named pair.0) session p pair.0 pair.1 r a.0.1))
    (given_short session p given r a.1)

given_count : (session : Session) (p : Preferences) (given : Pairs) → length (flat_map (answers_to session p) given) ≤ length given
given_count session p [] = omega arith
given_count session p (pair ∷ given) =
    let one = pair_count pair.0 (answer_value session p pair.0 pair.1) in
    let rest = given_count session p given in
    let all = length-append (answers_to session p pair) (flat_map (answers_to session p) given) in
    omega (arith, one, rest, all)

number_option : (o : Option ℕ) → IfSome o (λ n. n < 2 ^ 64) → IsShortOption (option_map Number o)
number_option None s = tt
number_option (Some n) s = s

-- the answer to a short text is short
pub answer_is_short : (session : Session) (p : Preferences) (tag most : Option ℕ) (given : Pairs) → ArePreferencesInRange p → IfSome tag (λ n. n < 2 ^ 64)
    → IfSome most (λ n. n < 2 ^ 64)
    → AllByRecursion IsShort given → length given ≤ 20 → length (canonical_text (answer session p tag most given)) ≤ 8192
answer_is_short session p tag most given r tag_fits most_fits a few =
    let first : Pairs = pairs_with max_recv_key (option_map Number most) in
    let second : Pairs = pairs_with tag_key (option_map Number tag) in
    let rest : Pairs = flat_map (answers_to session p) given in
    let all : AllByRecursion IsShort (declarations tag most ++ rest) =
    all_append IsShort (declarations tag most) rest
    (all_append IsShort first second (pair_short max_recv_key (option_map Number most) (omega arith) (number_option most most_fits))
    (pair_short tag_key (option_map Number tag) (omega arith) (number_option tag tag_fits)))
    (given_short session p given r a) in
    let size = text_short (in_order (declarations tag most ++ rest)) (all_in_order IsShort (declarations tag most ++ rest) all) in
    let order = length-in_order (declarations tag most ++ rest) in
    let sum = length-append (first ++ second) rest in
    let both = length-append first second in
    let one = pair_count max_recv_key (option_map Number most) in
    let two = pair_count tag_key (option_map Number tag) in
    let count = given_count session p given in
    omega (arith, size, order, sum, both, one, two, count, few)

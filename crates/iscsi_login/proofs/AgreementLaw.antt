-- The ends agree on each key.
use Rattle.std.proofs.Common.{◌≡◌, ℕ, ◌⊎◌, Bool, true, false, cond, ◌&&◌, List, [], ◌∷◌, map, nat_le, unwrap_or, Option, Some, None, refl, sym, ap, subst, inl}
use Rattle.std.proofs.Common.{inr, arith, codes}
use Rattle.std.proofs.lemmas.Bool.{le-leb, and_from}
use Rattle.std.specs.Option.{IfSome}
use Rattle.std.proofs.lemmas.Bool.Decides.{nat_tests}
use Rattle.iscsi_text.specs.Value.{Typed}
use Rattle.iscsi_text.specs.Value as values
use Rattle.iscsi_text.specs.declared.negotiated.NegKey.{NegKey}
use Rattle.iscsi_text.specs.declared.negotiated.NegKey.TheVariants as keys
use Rattle.iscsi_text.specs.declared.negotiated.Range.{Range}
use Rattle.iscsi_text.specs.declared.negotiated.Rule.{Rule}
use Rattle.iscsi_text.specs.declared.negotiated.Rule.TheVariants as rules
use Rattle.iscsi_text.specs.declared.negotiated.Session.{Session}
use Rattle.iscsi_text.specs.declared.negotiated.Answered.{Answered}
use Rattle.iscsi_text.specs.declared.negotiated.Answered.TheVariants.{Number, Flag, NoneItem, Reject}
use Rattle.iscsi_login.specs.declared.preferences.Preferences.{Preferences}
use Rattle.iscsi_text.specs.Negotiated.{name_of, all_keys, rule_of, default_of, is_irrelevant, IsWithin}
use Rattle.iscsi_login.specs.Negotiation.{preference, AllowsValue, ArePreferencesInRange, in_range, has_none, value_of, chosen, result_of, is_answer_word, word, answered_value}
use Rattle.iscsi_login.specs.Negotiation.{IsLegal, or_default}
use Rattle.iscsi_login.specs.Answer.{answer_to, held_by_target, held_by_initiator, first_or, value_after_offers, value_after_answer}
use Rattle.iscsi_login.specs.Held.{Held, held_value, value_at}
use Rattle.iscsi_text.specs.Text.{Pairs, values_of}

-- every preference is a value of its key
pub preference_allowed : (p : Preferences) → ArePreferencesInRange p → (key : NegKey) → AllowsValue (rule_of key) (preference p key)
preference_allowed p is keys.MaxConnections = (omega arith, omega arith)
preference_allowed p is keys.InitialR2T = tt
preference_allowed p is keys.ImmediateData = tt
preference_allowed p is keys.MaxBurstLength = is.max_burst
preference_allowed p is keys.FirstBurstLength = is.first_burst
preference_allowed p is keys.DefaultTime2Wait = is.time2wait
preference_allowed p is keys.DefaultTime2Retain = is.time2retain
preference_allowed p is keys.MaxOutstandingR2T = (omega arith, omega arith)
preference_allowed p is keys.DataPDUInOrder = tt
preference_allowed p is keys.DataSequenceInOrder = tt
preference_allowed p is keys.ErrorRecoveryLevel = (omega arith, omega arith)
preference_allowed p is keys.HeaderDigest = tt
preference_allowed p is keys.DataDigest = tt
preference_allowed p is keys.AuthMethod = tt

-- every default is a value of its key
pub default_allowed : (key : NegKey) → AllowsValue (rule_of key) (default_of key)
default_allowed keys.MaxConnections = (omega arith, omega arith)
default_allowed keys.MaxBurstLength = (omega arith, omega arith)
default_allowed keys.FirstBurstLength = (omega arith, omega arith)
default_allowed keys.DefaultTime2Wait = (omega arith, omega arith)
default_allowed keys.DefaultTime2Retain = (omega arith, omega arith)
default_allowed keys.MaxOutstandingR2T = (omega arith, omega arith)
default_allowed keys.ErrorRecoveryLevel = (omega arith, omega arith)
default_allowed _ = tt

-- the number is in the range, or the value is `Reject`
pub in_range_cases : (range : Range) (n : ℕ) → (in_range range n ≡ Reject) ⊎ ((in_range range n ≡ Number n) × IsWithin range n)
in_range_cases range n = by (nat_le range.low n && nat_le n range.high) refl
  where
    by : (t : Bool) → (nat_le range.low n && nat_le n range.high) ≡ t → (in_range range n ≡ Reject) ⊎ ((in_range range n ≡ Number n) × IsWithin range n)
    by true e = inr (ap (λ b. cond b (Number n) Reject) e, (grind (arith, nat_tests), grind (arith, nat_tests)))
    by false e = inl (ap (λ b. cond b (Number n) Reject) e)

pub in_range_within : (range : Range) (n : ℕ) → IsWithin range n → in_range range n ≡ Number n
in_range_within range n is = ap (λ b. cond b (Number n) Reject) (and_from (nat_le range.low n) (nat_le n range.high) (le-leb range.low n is.0)
    (le-leb n range.high is.1))

-- The function of a key gives an allowed value, or `Reject`.
pub outcome : (rule : Rule) (offer : Typed) (preferred : Answered) → AllowsValue rule preferred
    → (chosen rule (value_of rule offer) preferred ≡ Reject) ⊎ AllowsValue rule (chosen rule (value_of rule offer) preferred)
outcome (rules.Minimum range) (values.Number n) (Number q) a = elim (in_range_cases range n) [
  | inl out ↦ inl (ap (λ v. chosen (rules.Minimum range) v (Number q)) out)
  | inr within ↦ inr (subst (λ v. AllowsValue (rules.Minimum range) (chosen (rules.Minimum range) v (Number q))) (sym within.0)
      (omega (arith, within.1.0, within.1.1), omega (arith, within.1.0, within.1.1)))
]
outcome (rules.Minimum range) (values.Number n) _ a = absurd a
outcome (rules.Minimum range) _ preferred a = inl refl
outcome (rules.Maximum range) (values.Number n) (Number q) a = elim (in_range_cases range n) [
  | inl out ↦ inl (ap (λ v. chosen (rules.Maximum range) v (Number q)) out)
  | inr within ↦ inr (subst (λ v. AllowsValue (rules.Maximum range) (chosen (rules.Maximum range) v (Number q))) (sym within.0)
      (omega (arith, within.1.0, within.1.1), omega (arith, within.1.0, within.1.1)))
]
outcome (rules.Maximum range) (values.Number n) _ a = absurd a
outcome (rules.Maximum range) _ preferred a = inl refl
outcome rules.Or (values.Boolean b) (Flag c) a = inr tt
outcome rules.Or (values.Boolean b) _ a = absurd a
outcome rules.Or _ preferred a = inl refl
outcome rules.And (values.Boolean b) (Flag c) a = inr tt
outcome rules.And (values.Boolean b) _ a = absurd a
outcome rules.And _ preferred a = inl refl
outcome rules.NoneItem (values.Items items) NoneItem a = by (has_none items)
  where
    by : (t : Bool) → (chosen rules.NoneItem (cond t NoneItem Reject) NoneItem ≡ Reject)
        ⊎ AllowsValue rules.NoneItem (chosen rules.NoneItem (cond t NoneItem Reject) NoneItem)
    by true = inr tt
    by false = inl refl
outcome rules.NoneItem (values.Items items) _ a = absurd a
outcome rules.NoneItem _ preferred a = inl refl

-- an allowed value in a text, read back
value_again : (rule : Rule) (v default : Answered) → AllowsValue rule v → or_default (value_of rule (answered_value rule v)) default ≡ or_default v default
value_again (rules.Minimum range) (Number n) default a = ap (λ v. or_default v default) (in_range_within range n a)
value_again (rules.Minimum range) _ default a = absurd a
value_again (rules.Maximum range) (Number n) default a = ap (λ v. or_default v default) (in_range_within range n a)
value_again (rules.Maximum range) _ default a = absurd a
value_again rules.Or (Flag b) default a = refl
value_again rules.Or _ default a = absurd a
value_again rules.And (Flag b) default a = refl
value_again rules.And _ default a = absurd a
value_again rules.NoneItem NoneItem default a = refl
value_again rules.NoneItem _ default a = absurd a

-- the words are words, and no values
rejected_is_word : (rule : Rule) → is_answer_word (answered_value rule Reject) ≡ true
rejected_is_word rules.NoneItem = refl
rejected_is_word _ = refl

irrelevant_is_word : (rule : Rule) → is_answer_word (word rule (codes "Irrelevant")) ≡ true
irrelevant_is_word rules.NoneItem = refl
irrelevant_is_word _ = refl

rejected_again : (rule : Rule) (default : Answered) → or_default (value_of rule (answered_value rule Reject)) default ≡ default
rejected_again rules.NoneItem default = refl
rejected_again _ default = refl

irrelevant_again : (rule : Rule) (default : Answered) → or_default (value_of rule (word rule (codes "Irrelevant"))) default ≡ default
irrelevant_again rules.NoneItem default = refl
irrelevant_again _ default = refl

-- each answer of the target is legal
pub answer_legal : (session : Session) (p : Preferences) → ArePreferencesInRange p → (key : NegKey) (offer : Typed)
    → IsLegal key offer (answer_to session p key offer)
answer_legal session p is key offer = by (is_irrelevant session key)
  where
    by : (t : Bool) → IsLegal key offer (cond t (word (rule_of key) (codes "Irrelevant")) (answered_value (rule_of key) (result_of key offer p)))
    by true = inl (irrelevant_is_word (rule_of key))
    by false = elim (outcome (rule_of key) offer (preference p key) (preference_allowed p is key)) [
      | inl out ↦ inl (subst (λ v. is_answer_word (answered_value (rule_of key) v) ≡ true) (sym out) (rejected_is_word (rule_of key)))
      | inr allowed ↦ inr (record { preferred = preference p key; allowed = preference_allowed p is key; result = allowed; same = refl })
    ]

-- what the initiator holds from the answer is what the target holds
pub ends_agree : (session : Session) (p : Preferences) → ArePreferencesInRange p → (key : NegKey) (offer : Typed)
    → held_by_initiator key (answer_to session p key offer)
    ≡ held_by_target session p key offer
ends_agree session p is key offer = by (is_irrelevant session key)
  where
    by : (t : Bool) → held_by_initiator key (cond t (word (rule_of key) (codes "Irrelevant")) (answered_value (rule_of key) (result_of key offer p)))
        ≡ cond t (default_of key) (or_default (result_of key offer p) (default_of key))
    by true = irrelevant_again (rule_of key) (default_of key)
    by false = elim (outcome (rule_of key) offer (preference p key) (preference_allowed p is key)) [
      | inl out ↦ subst (λ v. or_default (value_of (rule_of key) (answered_value (rule_of key) v)) (default_of key) ≡ or_default v (default_of key)) (sym out)
          (rejected_again (rule_of key) (default_of key))
      | inr allowed ↦ value_again (rule_of key) (result_of key offer p) (default_of key) allowed
    ]

-- a value that isn't `Reject` is held as it is
kept : (rule : Rule) (v default : Answered) → AllowsValue rule v → or_default v default ≡ v
kept rule (Number n) default a = refl
kept rule (Flag b) default a = refl
kept rule NoneItem default a = refl
kept (rules.Minimum range) Reject default a = absurd a
kept (rules.Maximum range) Reject default a = absurd a
kept rules.Or Reject default a = absurd a
kept rules.And Reject default a = absurd a
kept rules.NoneItem Reject default a = absurd a

-- so what is held is a value of its key
or_default_allowed : (key : NegKey) (v : Answered) → (v ≡ Reject) ⊎ AllowsValue (rule_of key) v → AllowsValue (rule_of key) (or_default v (default_of key))
or_default_allowed key v either = elim either [
  | inl out ↦ subst (λ w. AllowsValue (rule_of key) (or_default w (default_of key))) (sym out) (default_allowed key)
  | inr allowed ↦ subst (AllowsValue (rule_of key)) (sym (kept (rule_of key) v (default_of key) allowed)) allowed
]

-- at the target
target_allowed : (session : Session) (p : Preferences) → ArePreferencesInRange p → (key : NegKey) (offer : Typed) →
    AllowsValue (rule_of key) (held_by_target session p key offer)
target_allowed session p is key offer = by (is_irrelevant session key)
  where
    by : (t : Bool) → AllowsValue (rule_of key) (cond t (default_of key) (or_default (result_of key offer p) (default_of key)))
    by true = default_allowed key
    by false = or_default_allowed key (result_of key offer p) (outcome (rule_of key) offer (preference p key) (preference_allowed p is key))

-- a typed value stands for one that the rule allows, or for none
pub value_cases : (rule : Rule) (v : Typed) → (value_of rule v ≡ Reject) ⊎ AllowsValue rule (value_of rule v)
value_cases (rules.Minimum range) (values.Number n) = elim (in_range_cases range n) [
  | inl out ↦ inl out
  | inr within ↦ inr (subst (AllowsValue (rules.Minimum range)) (sym within.0) within.1)
]
value_cases (rules.Minimum range) _ = inl refl
value_cases (rules.Maximum range) (values.Number n) = elim (in_range_cases range n) [
  | inl out ↦ inl out
  | inr within ↦ inr (subst (AllowsValue (rules.Maximum range)) (sym within.0) within.1)
]
value_cases (rules.Maximum range) _ = inl refl
value_cases rules.Or (values.Boolean b) = inr tt
value_cases rules.Or _ = inl refl
value_cases rules.And (values.Boolean b) = inr tt
value_cases rules.And _ = inl refl
value_cases rules.NoneItem (values.Items items) = by (has_none items)
  where
    by : (t : Bool) → (cond t NoneItem Reject ≡ Reject) ⊎ AllowsValue rules.NoneItem (cond t NoneItem Reject)
    by true = inr tt
    by false = inl refl
value_cases rules.NoneItem _ = inl refl

-- at the initiator
initiator_allowed : (key : NegKey) (answer : Typed) → AllowsValue (rule_of key) (held_by_initiator key answer)
initiator_allowed key answer = or_default_allowed key (value_of (rule_of key) answer) (value_cases (rule_of key) answer)

first_allowed : (P : Answered → Type 0) (held : Typed → Answered) (before : Answered) (vs : List Typed) → ((v : Typed) → P (held v)) → P before →
    P (first_or held before vs)
first_allowed P held before [] each first = first
first_allowed P held before (v ∷ vs) each first = each v

value_at-map : (f : NegKey → Answered) (key : NegKey) → value_at (map f all_keys) key ≡ f key
value_at-map f keys.MaxConnections = refl
value_at-map f _ = refl

-- each value of its key, after a text and after an answer
abbrev pub EachAllowed : List Answered → Type 0
EachAllowed vs = (key : NegKey) → AllowsValue (rule_of key) (value_at vs key)

pub allowed_after_offers : (session : Session) (p : Preferences) → ArePreferencesInRange p → (given : Pairs) (held : Held) → EachAllowed held.values →
    EachAllowed (map (value_after_offers session p given held) all_keys)
allowed_after_offers session p is given held before key =
    subst (AllowsValue (rule_of key)) (sym (value_at-map (value_after_offers session p given held) key))
    (first_allowed (AllowsValue (rule_of key)) (held_by_target session p key) (held_value held key) (values_of (name_of key) given)
    (target_allowed session p is key)
    (before key))

pub allowed_after_answer : (answered : Pairs) (held : Held) → EachAllowed held.values → EachAllowed (map (value_after_answer answered held) all_keys)
allowed_after_answer answered held before key =
    subst (AllowsValue (rule_of key)) (sym (value_at-map (value_after_answer answered held) key))
    (first_allowed (AllowsValue (rule_of key)) (held_by_initiator key) (held_value held key) (values_of (name_of key) answered) (initiator_allowed key)
    (before key))

-- a declared length is in range, and so is the one before
pub declared_within : (range : Range) (before : ℕ) (declared : Option ℕ) → IsWithin range before → IfSome declared (IsWithin range) →
    IsWithin range (unwrap_or declared before)
declared_within range before None is some = is
declared_within range before (Some n) is some = some

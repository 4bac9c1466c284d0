-- The test of a legal answer, and what it tests.
use Rattle.std.proofs.Common.{◌≡◌, ◌≢◌, ◌⊎◌, Bool, true, false, cond, ◌&&◌, min, max, refl, sym, ap, subst, ◌∙◌, inl, inr, arith, codes}
use Rattle.std.proofs.lemmas.Bool.{and_parts, and_from, or_cases, or_left, or_right, leb-true, le-leb}
use Rattle.iscsi_text.specs.Value.{Typed}
use Rattle.iscsi_text.specs.Value as values
use Rattle.iscsi_text.proofs.KeyLemmas.{same_key}
use Rattle.iscsi_text.specs.declared.negotiated.NegKey.{NegKey}
use Rattle.iscsi_text.specs.declared.negotiated.Rule.{Rule}
use Rattle.iscsi_text.specs.declared.negotiated.Rule.TheVariants as rules
use Rattle.iscsi_text.specs.declared.negotiated.Answered.{Answered}
use Rattle.iscsi_text.specs.declared.negotiated.Answered.TheVariants.{Number, Flag, NoneItem, Reject}
use Rattle.iscsi_text.specs.Negotiated.{rule_of}
use Rattle.iscsi_login.specs.Negotiation.{AllowsValue, has_none, value_of, chosen, is_answer_word, answered_value, IsChoice, IsLegal, is_given, is_one_item, is_legal}
use Rattle.iscsi_login.proofs.AgreementLaw.{in_range_cases, in_range_within, value_cases}

-- the offer and this value as the preference give the value
given_chosen : (rule : Rule) (x y : Answered) → is_given rule x y ≡ true → chosen rule x y ≡ y
given_chosen (rules.Minimum range) (Number n) (Number m) e = let same : min n m ≡ m = omega (arith, leb-true m n e) in ap (λ k. Number k) same
given_chosen (rules.Maximum range) (Number n) (Number m) e = let same : max n m ≡ m = omega (arith, leb-true n m e) in ap (λ k. Number k) same
given_chosen rules.Or (Flag true) (Flag true) e = refl
given_chosen rules.Or (Flag true) (Flag false) e = cc
given_chosen rules.Or (Flag false) (Flag b) e = refl
given_chosen rules.And (Flag true) (Flag b) e = refl
given_chosen rules.And (Flag false) (Flag true) e = cc
given_chosen rules.And (Flag false) (Flag false) e = refl
given_chosen rules.NoneItem NoneItem NoneItem e = refl
given_chosen _ _ _ e = cc

-- and it is a value
given_some : (rule : Rule) (x y : Answered) → is_given rule x y ≡ true → y ≢ Reject
given_some (rules.Minimum range) (Number n) (Number m) e same = cc
given_some (rules.Maximum range) (Number n) (Number m) e same = cc
given_some rules.Or (Flag a) (Flag b) e same = cc
given_some rules.And (Flag a) (Flag b) e same = cc
given_some rules.NoneItem NoneItem NoneItem e same = cc
given_some _ _ _ e same = cc

-- a value with one item is the one that it stands for
spelled : (rule : Rule) (v : Typed) → is_one_item v ≡ true → (value_of rule v ≡ Reject) ⊎ (v ≡ answered_value rule (value_of rule v))
spelled (rules.Minimum range) (values.Number n) e = elim (in_range_cases range n) [
  | inl out ↦ inl out
  | inr within ↦ inr (ap (answered_value (rules.Minimum range)) (sym within.0))
]
spelled (rules.Maximum range) (values.Number n) e = elim (in_range_cases range n) [
  | inl out ↦ inl out
  | inr within ↦ inr (ap (answered_value (rules.Maximum range)) (sym within.0))
]
spelled rules.Or (values.Boolean b) e = inr refl
spelled rules.And (values.Boolean b) e = inr refl
spelled rules.NoneItem (values.Items items) e = by (has_none items)
  where
    by : (t : Bool) → (cond t NoneItem Reject ≡ Reject) ⊎ (values.Items items ≡ answered_value rules.NoneItem (cond t NoneItem Reject))
    by true = inr (ap (λ bytes. values.Items bytes) (same_key items (codes "None") e))
    by false = inl refl
spelled _ _ e = inl refl

choice : (key : NegKey) (offer answer : Typed) → is_given (rule_of key) (value_of (rule_of key) offer) (value_of (rule_of key) answer) ≡ true →
    is_one_item answer ≡ true → IsChoice key offer answer
choice key offer answer given one =
    let rule = rule_of key in
    let preferred = value_of (rule_of key) answer in
    let some : preferred ≢ Reject = given_some rule (value_of rule offer) preferred given in
    let same : chosen rule (value_of rule offer) preferred ≡ preferred = given_chosen rule (value_of rule offer) preferred given in
    let allowed : AllowsValue rule preferred = elim (value_cases rule answer) [ inl out ↦ absurd (some out) | inr is ↦ is ] in
    record {
      preferred = preferred;
      allowed = allowed;
      result = subst (AllowsValue rule) (sym same) allowed;
      same = elim (spelled rule answer one) [ inl out ↦ absurd (some out) | inr is ↦ is ∙ ap (answered_value rule) (sym same) ];
    }

-- what passes the test is legal
pub legal_from : (key : NegKey) (offer answer : Typed) → is_legal key offer answer ≡ true → IsLegal key offer answer
legal_from key offer answer e = elim (or_cases (is_answer_word answer) (is_given (rule_of key) (value_of (rule_of key) offer) (value_of (rule_of key) answer)
    && is_one_item answer) e) [
      | inl is ↦ inl is
      | inr rest ↦ let both = and_parts (is_given (rule_of key) (value_of (rule_of key) offer) (value_of (rule_of key) answer)) (is_one_item answer) rest in
          inr (choice key offer answer both.0 both.1)
    ]

-- an allowed value in a text stands for itself, and has one item
value_back : (rule : Rule) (v : Answered) → AllowsValue rule v → value_of rule (answered_value rule v) ≡ v
value_back (rules.Minimum range) (Number n) a = in_range_within range n a
value_back (rules.Maximum range) (Number n) a = in_range_within range n a
value_back rules.Or (Flag b) a = refl
value_back rules.And (Flag b) a = refl
value_back rules.NoneItem NoneItem a = refl
value_back _ _ a = absurd a

one_item_back : (rule : Rule) (v : Answered) → AllowsValue rule v → is_one_item (answered_value rule v) ≡ true
one_item_back rule (Number n) a = refl
one_item_back rule (Flag b) a = refl
one_item_back rule NoneItem a = refl
one_item_back (rules.Minimum range) Reject a = absurd a
one_item_back (rules.Maximum range) Reject a = absurd a
one_item_back rules.Or Reject a = absurd a
one_item_back rules.And Reject a = absurd a
one_item_back rules.NoneItem Reject a = absurd a

-- a result is given by its offer
result_given : (rule : Rule) (x y : Answered) → AllowsValue rule (chosen rule x y) → is_given rule x (chosen rule x y) ≡ true
result_given (rules.Minimum range) (Number n) (Number m) a = le-leb (min n m) n (omega arith)
result_given (rules.Maximum range) (Number n) (Number m) a = le-leb n (max n m) (omega arith)
result_given rules.Or (Flag true) (Flag b) a = refl
result_given rules.Or (Flag false) (Flag b) a = refl
result_given rules.And (Flag true) (Flag b) a = refl
result_given rules.And (Flag false) (Flag b) a = refl
result_given rules.NoneItem NoneItem NoneItem a = refl
result_given _ _ _ a = absurd a

-- what is legal passes the test
pub legal_passes : (key : NegKey) (offer answer : Typed) → IsLegal key offer answer → is_legal key offer answer ≡ true
legal_passes key offer answer legal = elim legal [
  | inl is ↦ or_left (is_answer_word answer) (is_given (rule_of key) (value_of (rule_of key) offer) (value_of (rule_of key) answer) && is_one_item answer) is
  | inr choice ↦
      let rule = rule_of key in
      let given = value_of (rule_of key) offer in
      let result = chosen (rule_of key) (value_of (rule_of key) offer) choice.preferred in
      let back : value_of rule answer ≡ result = ap (value_of rule) choice.same ∙ value_back rule result choice.result in
      or_right (is_answer_word answer) (is_given rule given (value_of rule answer) && is_one_item answer)
      (and_from (is_given rule given (value_of rule answer)) (is_one_item answer)
      (ap (is_given rule given) back ∙ result_given rule given choice.preferred choice.result)
      (ap is_one_item choice.same ∙ one_item_back rule result choice.result))
]

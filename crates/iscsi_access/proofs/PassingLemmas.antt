-- What leads to the end of the exchange.
use Rattle.std.proofs.Common.{◌≡◌, ◌⊎◌, inl, inr, ◌∙◌, ℕ, Bool, true, false, List, Option, Some, None, Result, Ok, Err, refl, sym, ap, subst}
use Rattle.std.specs.Prelude.{IfOk, not, ◌&&◌, ◌||◌, if◌then◌else◌, codes}
use Rattle.std.specs.Str.{bytes_eq}
use Rattle.std.proofs.lemmas.Bool.{and_parts}
use Rattle.iscsi_text.specs.Text.{Pairs}
use Rattle.iscsi_text.proofs.KeyLemmas.{same_key}
use Rattle.iscsi_chap.specs.declared.algorithm.Algorithm.{Algorithm}
use Rattle.iscsi_chap.specs.Response.{chap_response}
use Rattle.iscsi_access.specs.Chap.{Account, Chap, allows}
use Rattle.iscsi_access.specs.Exchange.{judge, plain_of, binary_in, is_right, is_response, account_named, own_said, passing, challenging, known_in, stands, has_chap_key, has_more_than_algorithms, lists, exchange_value}
use Rattle.iscsi_access.specs.Laws.{AnswersChallenge, AnswersStep}
use Rattle.iscsi_access.specs.declared.verdict.Progress.{Progress}
use Rattle.iscsi_access.specs.declared.verdict.Progress.TheVariants.{Unasked, Chosen, Challenged, Passed}
use Rattle.iscsi_access.specs.declared.verdict.Said.{Said}
use Rattle.iscsi_access.specs.declared.verdict.Said.TheVariants.{Nothing, Method}
use Rattle.iscsi_access.specs.declared.verdict.Verdict.{Verdict}
use Rattle.iscsi_access.specs.declared.verdict.Verdict.TheVariants.{Goes, Refused}

-- the text answers the challenge by this algorithm
abbrev AnswersBy : Chap → Algorithm → List ℕ → Pairs → Type 0
AnswersBy c algorithm initiator pairs = (answer : AnswersChallenge c initiator pairs) × (answer.algorithm ≡ algorithm)

right_by : (c : Chap) (algorithm : Algorithm) (initiator : List ℕ) (pairs : Pairs) (name : Option (List ℕ)) (account : Option Account) (given : Option (List ℕ))
    → plain_of (codes "CHAP_N") pairs ≡ name → account_named name c.accounts ≡ account → binary_in (plain_of (codes "CHAP_R") pairs) ≡ given
    → is_response c algorithm initiator account given ≡ true → AnswersBy c algorithm initiator pairs
right_by c algorithm initiator pairs None None given n a g e = absurd cc
right_by c algorithm initiator pairs None (Some account) given n a g e = absurd (cc a)
right_by c algorithm initiator pairs (Some name) None given n a g e = absurd cc
right_by c algorithm initiator pairs (Some name) (Some account) None n a g e = absurd cc
right_by c algorithm initiator pairs (Some name) (Some account) (Some given) n a g e =
    let due : List ℕ = chap_response algorithm c.identifier account.secret c.challenge in
    let both : (bytes_eq given due ≡ true) × (allows account.initiator initiator ≡ true) = and_parts (bytes_eq given due)
    (allows account.initiator initiator) e in (
      record {
        name = name;
        account = account;
        named = n;
        known = a;
        allowed = both.1;
        algorithm = algorithm;
        response = g ∙ ap Some (same_key given due both.0);
      },
      refl,
    )

right_answers : (c : Chap) (algorithm : Algorithm) (initiator : List ℕ) (pairs : Pairs) → is_right c algorithm initiator pairs ≡ true
    → AnswersBy c algorithm initiator pairs
right_answers c algorithm initiator pairs e =
    right_by c algorithm initiator pairs (plain_of (codes "CHAP_N") pairs) (account_named (plain_of (codes "CHAP_N") pairs) c.accounts)
    (binary_in (plain_of (codes "CHAP_R") pairs)) refl refl refl e

chosen_only : (b : Bool) (v : Verdict) (said : Said) → (v ≡ Goes Passed said → ⊥) → (if b then v else Refused) ≡ Goes Passed said → ⊥
chosen_only true v said never e = never e
chosen_only false v said never e = absurd (cc e)

others_only : (b : Bool) (v : Verdict) (said : Said) → (v ≡ Goes Passed said → ⊥) → (if b then Refused else v) ≡ Goes Passed said → ⊥
others_only true v said never e = absurd (cc e)
others_only false v said never e = never e

unpassed : (algorithm : Option Algorithm) (said : Said) → challenging algorithm ≡ Goes Passed said → ⊥
unpassed None said e = absurd (cc e)
unpassed (Some algorithm) said e = absurd (cc e)

responded : (b t : Bool) (v : Verdict) (said : Said) → (if b then Refused else if not t then Refused else v) ≡ Goes Passed said → t ≡ true
responded true t v said e = absurd (cc e)
responded false true v said e = refl
responded false false v said e = absurd (cc e)

-- the end of the exchange comes by a right response, or has come
pub passed_step : (c : Chap) (before : Progress) (initiator : List ℕ) (pairs : Pairs) (said : Said) → judge c before initiator pairs ≡ Goes Passed said
    → (before ≡ Passed) ⊎ AnswersStep c before initiator pairs
passed_step c Unasked initiator pairs said e = absurd (chosen_only (not (has_chap_key pairs) && lists (codes "CHAP") (exchange_value (codes "AuthMethod") pairs))
    (Goes Chosen Method) said (λ f. absurd (cc f)) e)
passed_step c Chosen initiator pairs said e = absurd (others_only (has_more_than_algorithms pairs)
    (challenging (known_in (exchange_value (codes "CHAP_A") pairs))) said (unpassed (known_in (exchange_value (codes "CHAP_A") pairs)) said) e)
passed_step c (Challenged algorithm) initiator pairs said e =
    let right : AnswersBy c algorithm initiator pairs = right_answers c algorithm initiator pairs
    (responded (stands (codes "AuthMethod") pairs || stands (codes "CHAP_A") pairs) (is_right c algorithm initiator pairs)
    (passing (own_said c algorithm (plain_of (codes "CHAP_I") pairs) (plain_of (codes "CHAP_C") pairs))) said e) in
    inr (right.0, ap Challenged (sym right.1))
passed_step c Passed initiator pairs said e = inl refl

-- the same of any algorithm
pub passed_by : (c : Chap) (before : Progress) (initiator : List ℕ) (pairs : Pairs) (said : Said) → judge c before initiator pairs ≡ Goes Passed said
    → (before ≡ Passed) ⊎ AnswersChallenge c initiator pairs
passed_by c before initiator pairs said e = elim (passed_step c before initiator pairs said e) [
  | inl was ↦ inl was
  | inr answers ↦ inr answers.0
]

rests : (b : Bool) (v : Verdict) (p : Progress) (said : Said) → ((s : Said) → (q : Progress) → v ≡ Goes q s → q ≡ Passed)
    → (if b then Refused else v) ≡ Goes p said → p ≡ Passed
rests true v p said only e = absurd (cc e)
rests false v p said only e = only said p e

-- behind the end it stays
pub passed_stays : (c : Chap) (initiator : List ℕ) (pairs : Pairs) (p : Progress) (said : Said) → judge c Passed initiator pairs ≡ Goes p said → p ≡ Passed
passed_stays c initiator pairs p said e = rests (stands (codes "AuthMethod") pairs || has_chap_key pairs) (Goes Passed Nothing) p said (λ s q f. sym (cc f)) e

-- the same of a verdict that is the one of the definition
pub passed_verdict : (c : Chap) (before : Progress) (initiator : List ℕ) (pairs : Pairs) (verdict : Verdict) → verdict ≡ judge c before initiator pairs
    → (said : Said) → verdict ≡ Goes Passed said → (before ≡ Passed) ⊎ AnswersStep c before initiator pairs
passed_verdict c before initiator pairs verdict e said f = passed_step c before initiator pairs said (sym e ∙ f)

-- the same of a call that gives this verdict, where the initiator has the challenge
pub passed_result : {E : Type 0} {algorithm : Algorithm} (c : Chap) (before : Progress) (initiator : List ℕ) (pairs : Pairs) (r : Result Verdict E)
    → IfOk r (λ v. v ≡ judge c (Challenged algorithm) initiator pairs)
    → before ≡ Challenged algorithm → IfOk r (λ v. (said : Said) → v ≡ Goes Passed said → (before ≡ Passed) ⊎ AnswersStep c before initiator pairs)
passed_result {algorithm = algorithm} c before initiator pairs (Ok v) e is = λ said f. subst (λ (p : Progress). (p ≡ Passed) ⊎ AnswersStep c p initiator pairs) (sym is)
    (passed_verdict c (Challenged algorithm) initiator pairs v e said f)
passed_result {algorithm = algorithm} c before initiator pairs (Err x) e is = tt

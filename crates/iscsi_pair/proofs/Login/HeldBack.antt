-- What a target answers that demands CHAP, where the initiator has no secret: CHAP is chosen, and the login stays in its stage.
use Rattle.std.proofs.Common.{◌≡◌, ◌<◌, ◌∙◌, inl, inr, ℕ, Bool, true, false, List, [], ◌∷◌, length, map, Option, refl, sym, ap, subst, arith, codes}
use Rattle.std.specs.Prelude.{not, ◌&&◌, if◌then◌else◌, ◌^◌, IfSome}
use Rattle.std.proofs.lemmas.List.Elements.{All-from_recursion}
use Rattle.iscsi_text.specs.Value.{Typed}
use Rattle.iscsi_text.specs.Value as values
use Rattle.iscsi_text.specs.Text.{Pairs, values_of, IsPair, IsMeaning}
use Rattle.iscsi_text.specs.Reading.{in_order}
use Rattle.iscsi_text.proofs.OrderLemmas.{values_in_order, in_order_is, all_in_order}
use Rattle.iscsi_text.proofs.PairLemmas.{key_cases, values_of-same, values_of-other}
use Rattle.iscsi_text.proofs.WithoutLemmas.{meaning_kept, left_out}
use Rattle.iscsi_text.specs.declared.negotiated.NegKey.TheVariants as keys
use Rattle.iscsi_login.specs.declared.preferences.Preferences.{Preferences}
use Rattle.iscsi_text.specs.declared.negotiated.Session.{Session as SessionType}
use Rattle.iscsi_login.specs.Negotiation.{ArePreferencesInRange}
use Rattle.iscsi_login.specs.Answer.{answer, answer_to}
use Rattle.iscsi_login.proofs.AnswerLemmas.{answers_of_key}
use Rattle.iscsi_login.proofs.AnswerMeaningLaw.{Writable, answer_meaning, kind_of_name, pair_of}
use Rattle.iscsi_login.proofs.KeyTestLemmas.{key_from, no_zero_from}
use Rattle.iscsi_text.specs.Key.{is_among}
use Rattle.iscsi_access.specs.Chap.{Chap}
use Rattle.iscsi_access.specs.Exchange.{judge, has_chap_key, lists, exchange_value}
use Rattle.iscsi_access.specs.declared.verdict.Progress.{Progress}
use Rattle.iscsi_access.specs.declared.verdict.Progress.TheVariants.{Unasked, Chosen, Challenged, Passed}
use Rattle.iscsi_access.specs.declared.verdict.Said.{Said}
use Rattle.iscsi_access.specs.declared.verdict.Said.TheVariants.{Method}
use Rattle.iscsi_access.specs.declared.verdict.Verdict.TheVariants.{Goes, Refused}
use Rattle.iscsi_target_session.specs.Login.{rest_of, exchange_keys}

-- ---- what comes of the first text

-- CHAP is chosen, and that is said
pub record Chooses (p : Progress) (said : Said) : Type 0 where
  pub progress : p ≡ Chosen
  pub said_is : said ≡ Method

chosen_by : (b : Bool) (p : Progress) (said : Said) → (if b then Goes Chosen Method else Refused) ≡ Goes p said → Chooses p said
chosen_by true p said e = record { progress = cc e; said_is = cc e }
chosen_by false p said e = absurd (cc e)

judged_first : (c : Chap) (before p : Progress) (name : List ℕ) (pairs : Pairs) (said : Said) → before ≡ Unasked → judge c before name pairs ≡ Goes p said
    → Chooses p said
judged_first c Unasked p name pairs said is e =
    chosen_by (not (has_chap_key pairs) && lists (codes "CHAP") (exchange_value (codes "AuthMethod") pairs)) p said e
judged_first c Chosen p name pairs said is e = absurd (cc is)
judged_first c (Challenged algorithm) p name pairs said is e = absurd (cc is)
judged_first c Passed p name pairs said is e = absurd (cc is)

pub chooses : (c : Chap) (b : Bool) (before p : Progress) (name : List ℕ) (pairs : Pairs) (said : Said) → before ≡ Unasked
    → (if b then Refused else judge c before name pairs) ≡ Goes p said → Chooses p said
chooses c true before p name pairs said is e = absurd (cc e)
chooses c false before p name pairs said is e = judged_first c before p name pairs said is e

-- ---- the answer is a text

abbrev method : List ℕ × Typed
method = (codes "AuthMethod", values.Items (codes "CHAP"))

method_is : IsPair method
method_is = pair_of (codes "AuthMethod") (values.Items (codes "CHAP")) (key_from (codes "AuthMethod") refl refl refl)
    (subst (λ k. Writable k (values.Items (codes "CHAP"))) (sym (kind_of_name keys.AuthMethod)) (record {
      bytes = codes "CHAP";
      ends = no_zero_from (codes "CHAP") refl;
      means = (refl, All-from_recursion (λ item. 0 < length item) (codes "CHAP" ∷ []) (omega arith, tt));
    }))

with_method : (pairs : Pairs) → IsMeaning pairs → values_of (codes "AuthMethod") pairs ≡ [] → IsMeaning (in_order (method ∷ pairs))
with_method pairs is none = record {
  in_order = in_order_is (method ∷ pairs);
  single = λ key other. elim (key_cases (codes "AuthMethod") key) [
    | inl same ↦ omega (
      arith,
      ap length (values_in_order key (method ∷ pairs)),
      ap length (values_of-same key method pairs same),
      ap length (subst (λ k. values_of k pairs ≡ []) same none),
    )
    | inr apart ↦ omega (arith, ap length (values_in_order key (method ∷ pairs)), ap length (values_of-other key method pairs apart), is.single key other)
  ];
  each = all_in_order IsPair (method ∷ pairs) (method_is, is.each);
}

pub said_meaning : (session : SessionType) (p : Preferences) → ArePreferencesInRange p → (tag max_recv : Option ℕ) → IfSome tag (λ n. n < 2 ^ 64)
    → IfSome max_recv (λ n. n < 2 ^ 64) → (pairs : Pairs) → IsMeaning pairs → IsMeaning (in_order (method ∷ answer session p tag max_recv (rest_of pairs)))
said_meaning session p range tag max_recv small_tag small_max pairs is =
    with_method (answer session p tag max_recv (rest_of pairs))
    (answer_meaning session p range tag max_recv small_tag small_max (rest_of pairs) (meaning_kept (λ q. not (is_among exchange_keys q.0)) pairs is))
    (answers_of_key session p tag max_recv (rest_of pairs) keys.AuthMethod
    ∙ ap (map (answer_to session p keys.AuthMethod)) (left_out exchange_keys (codes "AuthMethod") refl pairs))

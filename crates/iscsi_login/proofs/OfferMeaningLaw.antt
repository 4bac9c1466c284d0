-- The offers are what some text means, and what an initiator may offer.
use Rattle.std.proofs.Common.{◌≡◌, ℕ, ◌<◌, ◌≤◌, true, false, not, List, [], ◌∷◌, ◌++◌, map, length, refl, sym, ap, subst, ◌∙◌, inl, inr, arith}
use Rattle.std.proofs.Common.{codes}
use Rattle.std.specs.List.{list_all}
use Rattle.std.specs.Str.{bytes_eq}
use Rattle.std.proofs.lemmas.Bool.{and_parts, not-true}
use Rattle.iscsi_text.specs.Key.{is_among}
use Rattle.iscsi_text.specs.Value.{Typed}
use Rattle.iscsi_text.specs.Value as values
use Rattle.iscsi_text.specs.Text.{Pairs, values_of}
use Rattle.iscsi_text.proofs.KeyLemmas.{bytes_eq_same}
use Rattle.iscsi_text.proofs.PairLemmas.{values_of-same, values_of-other, key_cases}
use Rattle.iscsi_text.specs.declared.negotiated.Session.{Session}
use Rattle.iscsi_text.specs.declared.negotiated.Session.TheVariants.{Normal, Discovery}
use Rattle.iscsi_text.specs.Negotiated.{name_of, all_keys}
use Rattle.iscsi_text.specs.Reading.{in_order}
use Rattle.iscsi_login.specs.Offers.{Proposal, auth_items, session_name, target_pair, security_offers, operational_offers, single_offers}
use Rattle.iscsi_login.specs.Check.{described, IsOffer}
use Rattle.iscsi_login.specs.inner.Inside.{is_new, all_new}
use Rattle.iscsi_text.proofs.OrderLemmas.{values_in_order}

new_absent : (key : List ℕ) (ps : Pairs) → is_new key ps ≡ true → values_of key ps ≡ []
new_absent key [] e = refl
new_absent key (p ∷ ps) e =
    let both = and_parts (not (bytes_eq p.0 key)) (is_new key ps) e in
    let other : bytes_eq p.0 key ≡ false = not-true (bytes_eq p.0 key) both.0 in
    values_of-other key p ps (λ same. let is = bytes_eq_same p.0 key same in cc) ∙ new_absent key ps both.1

pub at_most_one : (key : List ℕ) (ps : Pairs) → all_new ps ≡ true → length (values_of key ps) ≤ 1
at_most_one key [] e = omega arith
at_most_one key (p ∷ ps) e =
    let both = and_parts (is_new p.0 ps) (all_new ps) e in
    elim (key_cases p.0 key) [
      | inl same ↦ omega (
        arith,
        ap length (values_of-same key p ps same ∙ ap (λ vs. p.1 ∷ vs)
            (subst (λ k. values_of k ps ≡ []) same (new_absent p.0 ps both.0))),
      )
      | inr other ↦ omega (arith, ap length (values_of-other key p ps other), at_most_one key ps both.1)
    ]

all_among : (names : List (List ℕ)) (ps : Pairs) → list_all (λ p. is_among names p.0) ps ≡ true → (key : List ℕ) → 0 < length (values_of key ps) →
    is_among names key ≡ true
all_among names [] e key some = absurd (omega arith)
all_among names (p ∷ ps) e key some =
    let both = and_parts (is_among names p.0) (list_all (λ q. is_among names q.0) ps) e in
    elim (key_cases p.0 key) [
      | inl same ↦ subst (λ k. is_among names k ≡ true) same both.0
      | inr other ↦ all_among names ps both.1 key (omega (arith, some, ap length (values_of-other key p ps other)))
    ]

abbrev offer_names : List (List ℕ)
offer_names = map name_of all_keys ++ described

offer_from : (ps : Pairs) → all_new ps ≡ true → list_all (λ p. is_among offer_names p.0) ps ≡ true → IsOffer (in_order ps)
offer_from ps new among = record {
  single = λ key other. subst (λ vs. length vs ≤ 1) (sym (values_in_order key ps)) (at_most_one key ps new);
  keys = λ key some. all_among offer_names ps among key (subst (λ vs. 0 < length vs) (values_in_order key ps) some);
}

abbrev name_pair : List ℕ → List ℕ × Typed
name_pair name = (codes "InitiatorName", values.Plain name)

abbrev session_pair : Session → List ℕ × Typed
session_pair session = (codes "SessionType", values.Plain (session_name session))

pub security_is_offer : (o : Proposal) → IsOffer (in_order (security_offers o))
security_is_offer o = by o.session
  where
    by : (s : Session) → IsOffer (in_order ((codes "AuthMethod", values.Items (auth_items o.auth)) ∷ name_pair o.initiator ∷ session_pair s ∷ target_pair s
        o.target))
    by Normal = offer_from ((codes "AuthMethod", values.Items (auth_items o.auth)) ∷ name_pair o.initiator ∷ session_pair Normal ∷ target_pair Normal o.target)
        refl refl
    by Discovery = offer_from ((codes "AuthMethod", values.Items (auth_items o.auth)) ∷ name_pair o.initiator ∷ session_pair Discovery ∷ []) refl refl

pub operational_is_offer : (o : Proposal) → IsOffer (in_order (operational_offers o))
operational_is_offer o = offer_from (operational_offers o) refl refl

pub single_is_offer : (o : Proposal) → IsOffer (in_order (single_offers o))
single_is_offer o = by o.session
  where
    by : (s : Session) → IsOffer (in_order (name_pair o.initiator ∷ session_pair s ∷ target_pair s o.target ++ operational_offers o))
    by Normal = offer_from (name_pair o.initiator ∷ session_pair Normal ∷ target_pair Normal o.target ++ operational_offers o) refl refl
    by Discovery = offer_from (name_pair o.initiator ∷ session_pair Discovery ∷ [] ++ operational_offers o) refl refl

-- The pairs that are offered, before they are in order.
use Rattle.std.proofs.Common.{◌≡◌, ℕ, zero, suc, true, List, [], ◌∷◌, ◌++◌, length, map, take, drop, slice_set, refl, sym, ap, arith, codes, ◌∙◌}
use Rattle.std.proofs.lemmas.List.{map-set, map-append, length-map}
use Rattle.iscsi_text.specs.declared.pair.Pair.{Pair}
use Rattle.iscsi_text.specs.declared.negotiated.NegKey.TheVariants as keys
use Rattle.iscsi_text.specs.declared.negotiated.Session.{Session}
use Rattle.iscsi_text.specs.declared.negotiated.Session.TheVariants.{Normal, Discovery}
use Rattle.iscsi_text.specs.Value as values
use Rattle.iscsi_text.specs.Value.{Typed}
use Rattle.iscsi_text.specs.Text.{Pairs}
use Rattle.iscsi_text.specs.Negotiated.{all_keys, key_place}
use Rattle.iscsi_text.specs.Shown.{shown, all_shown}
use Rattle.iscsi_text.specs.Reading.{in_order}
use Rattle.iscsi_login.specs.declared.preferences.Preferences.{Preferences}
use Rattle.iscsi_login.specs.Offers.{Proposal, session_name, preferred_pair, max_recv_pair, operational_offers, single_offers}
use Rattle.iscsi_login.specs.inner.Inside.{all_new, sent_pairs}

-- ---- the operational stage

-- the preference for each key, and the most bytes of a segment in the place of the authentication
abbrev offered : Preferences → Pairs
offered p = slice_set (map (preferred_pair p) all_keys) (key_place keys.AuthMethod) (max_recv_pair p)

pub offered_are : (p : Preferences) (xs : List Pair) (n : ℕ) (last : Pair) → all_shown xs ≡ map (preferred_pair p) all_keys → n ≡ key_place keys.AuthMethod →
    shown last ≡ max_recv_pair p → all_shown (slice_set xs n last) ≡ offered p
offered_are p xs n last all place is = map-set shown xs n last ∙ (λ i. slice_set (all i) (place i) (is i))

pub offered_new : (p : Preferences) → all_new (offered p) ≡ true
offered_new p = refl

pub offered_in_order : (o : Proposal) → in_order (offered o.prefs) ≡ in_order (operational_offers o)
offered_in_order o = refl

-- ---- and who speaks to whom

abbrev name_of : Proposal → List ℕ × Typed
name_of o = (codes "InitiatorName", values.Plain o.initiator)

abbrev kind_of : Proposal → List ℕ × Typed
kind_of o = (codes "SessionType", values.Plain (session_name o.session))

abbrev target_of : Proposal → List ℕ × Typed
target_of o = (codes "TargetName", values.Plain o.target)

-- behind the pairs of the stage
abbrev without_target : Proposal → Pairs
without_target o = in_order (operational_offers o) ++ name_of o ∷ kind_of o ∷ []

abbrev with_target : Proposal → Pairs
with_target o = in_order (operational_offers o) ++ name_of o ∷ kind_of o ∷ target_of o ∷ []

module _ (name kind target : Pair) where
  -- as they are written
  abbrev filled : List Pair → ℕ → List Pair
  filled xs n = slice_set (slice_set (xs ++ target ∷ target ∷ target ∷ []) n name) (suc n) kind

  written : (xs : List Pair) (n : ℕ) → length xs ≡ n → filled xs n ≡ xs ++ name ∷ kind ∷ target ∷ []
  written [] zero long = refl
  written [] (suc n) long = absurd (omega (arith, long))
  written (x ∷ xs) zero long = absurd (omega (arith, long))
  written (x ∷ xs) (suc n) long = ap (λ l. x ∷ l) (written xs n (omega (arith, long)))

  front : (xs : List Pair) (n : ℕ) → length xs ≡ n → take (suc (suc n)) (xs ++ name ∷ kind ∷ target ∷ []) ≡ xs ++ name ∷ kind ∷ []
  front [] zero long = refl
  front [] (suc n) long = absurd (omega (arith, long))
  front (x ∷ xs) zero long = absurd (omega (arith, long))
  front (x ∷ xs) (suc n) long = ap (λ l. x ∷ l) (front xs n (omega (arith, long)))

  behind : (xs : List Pair) (n : ℕ) → length xs ≡ n → drop (suc (suc n)) (xs ++ name ∷ kind ∷ target ∷ []) ≡ target ∷ []
  behind [] zero long = refl
  behind [] (suc n) long = absurd (omega (arith, long))
  behind (x ∷ xs) zero long = absurd (omega (arith, long))
  behind (x ∷ xs) (suc n) long = behind xs n (omega (arith, long))

  module _ (o : Proposal) (xs : List Pair) (pairs : all_shown xs ≡ in_order (operational_offers o)) (who : shown name ≡ name_of o)
      (what : shown kind ≡ kind_of o) (whom : shown target ≡ target_of o) where
    long : length xs ≡ length all_keys
    long = sym (length-map xs shown) ∙ ap length pairs

    all_are : all_shown (filled xs (length all_keys)) ≡ with_target o
    all_are = ap all_shown (written xs (length all_keys) long) ∙ map-append shown xs (name ∷ kind ∷ target ∷ [])
        ∙ (λ i. pairs i ++ who i ∷ what i ∷ whom i ∷ [])

    front_are : all_shown (take (suc (suc (length all_keys))) (filled xs (length all_keys))) ≡ without_target o
    front_are = ap (λ l. all_shown (take (suc (suc (length all_keys))) l)) (written xs (length all_keys) long) ∙ ap all_shown (front xs (length all_keys) long)
        ∙ map-append shown xs (name ∷ kind ∷ []) ∙ (λ i. pairs i ++ who i ∷ what i ∷ [])

    behind_is : all_shown (drop (suc (suc (length all_keys))) (filled xs (length all_keys))) ≡ target_of o ∷ []
    behind_is = ap (λ l. all_shown (drop (suc (suc (length all_keys))) l)) (written xs (length all_keys) long)
        ∙ ap all_shown (behind xs (length all_keys) long) ∙ (λ i. whom i ∷ [])

    pub all_are_new : all_new (all_shown (filled xs (length all_keys))) ≡ true
    all_are_new = ap all_new all_are

    pub front_is_new : all_new (all_shown (take (suc (suc (length all_keys))) (filled xs (length all_keys)))) ≡ true
    front_is_new = ap all_new front_are

    pub said_in_Normal : (ys : List Pair) → o.session ≡ Normal → all_shown ys ≡ in_order (all_shown (filled xs (length all_keys))) →
        sent_pairs o.session (all_shown ys) ≡ in_order (single_offers o)
    said_in_Normal ys normal sorted = ap (sent_pairs o.session) (sorted ∙ ap in_order all_are) ∙ by o.session normal
      where
        by : (s : Session) → s ≡ Normal → sent_pairs s (in_order (with_target (record o { session = s }))) ≡ in_order (single_offers (record o { session = s }))
        by Normal is = refl
        by Discovery is = cc

    pub said_in_Discovery : (ys : List Pair) → o.session ≡ Discovery → all_shown ys
        ≡ in_order (all_shown (take (suc (suc (length all_keys))) (filled xs (length all_keys)))) →
        sent_pairs o.session (all_shown (ys ++ drop (suc (suc (length all_keys))) (filled xs (length all_keys)))) ≡ in_order (single_offers o)
    said_in_Discovery ys discovery sorted =
        ap (sent_pairs o.session) (map-append shown ys (drop (suc (suc (length all_keys))) (filled xs (length all_keys)))
        ∙ (λ i. (sorted ∙ ap in_order front_are) i ++ behind_is i)) ∙ by o.session discovery
      where
        by : (s : Session) → s ≡ Discovery → sent_pairs s (in_order (without_target (record o { session = s })) ++ target_of o ∷ [])
            ≡ in_order (single_offers (record o { session = s }))
        by Normal is = cc
        by Discovery is = refl

-- Answers added pair by pair.
use Rattle.std.proofs.Common.{◌≡◌, ◌≢◌, ℕ, zero, suc, ◌+◌, ◌<◌, ◌≤◌, List, [], ◌∷◌, ◌++◌, length, take, get_or, Option, None, IsSome, refl, sym, ap}
use Rattle.std.proofs.Common.{subst, ◌∙◌, append_assoc, add-one, arith}
use Rattle.std.specs.List.{flat_map}
use Rattle.std.proofs.lemmas.List.{append-nil, length-append}
use Rattle.std.proofs.lemmas.Grind.{flat_map-append}
use Rattle.iscsi_text.specs.declared.pair.Pair.{Pair}
use Rattle.iscsi_text.specs.Key.{kind_of, target_address}
use Rattle.iscsi_text.specs.Value.{Typed}
use Rattle.iscsi_text.specs.Text.{Pairs, values_of, ArrangesPairs, IsMeaning}
use Rattle.iscsi_text.specs.Shown.{shown, all_shown}
use Rattle.iscsi_text.specs.inner.Inside.{InsertsPair}
use Rattle.iscsi_text.proofs.PairLemmas.{values_of-append, values_of-same}
use Rattle.iscsi_text.specs.declared.negotiated.Session.{Session}
use Rattle.iscsi_login.specs.declared.preferences.Preferences.{Preferences}
use Rattle.iscsi_login.specs.Answer.{answer_value, answers_to, tag_key, max_recv_key, declarations}
use Rattle.iscsi_login.proofs.AnswerLemmas.{values_of-answers, undeclared, answer_values}

pub arranges_insert : (old : Pairs) (pair : List ℕ × Typed) (new : Pairs) → InsertsPair old pair new → ArrangesPairs (old ++ pair ∷ []) new
arranges_insert old pair new is = record { in_order = is.in_order; same = λ key. is.values key ∙ sym (values_of-append key old (pair ∷ [])) }

-- what arranges the arranged pairs and more
pub arranges_more : (row old more new : Pairs) → ArrangesPairs row old → ArrangesPairs (old ++ more) new → ArrangesPairs (row ++ more) new
arranges_more row old more new first then = record {
  in_order = then.in_order;
  same = λ key. then.same key ∙ values_of-append key old more ∙ ap (λ vs. vs ++ values_of key more) (first.same key) ∙ sym (values_of-append key row more);
}

-- the pair at a place, between those before it and those behind it
pub record StandsAt (given : Pairs) (n : ℕ) (pair : List ℕ × Typed) : Type 0 where
  pub rest : Pairs
  pub whole : given ≡ take n given ++ pair ∷ rest
  pub more : take (suc n) given ≡ take n given ++ pair ∷ []

stands_at : (xs : List Pair) (n : ℕ) (d : Pair) → n < length xs → StandsAt (all_shown xs) n (shown (get_or xs n d))
stands_at [] n d lt = absurd (omega arith)
stands_at (x ∷ xs) zero d lt = record { rest = all_shown xs; whole = refl; more = refl }
stands_at (x ∷ xs) (suc n) d lt = let s = stands_at xs n d (omega arith) in record {
  rest = s.rest;
  whole = ap (λ qs. shown x ∷ qs) s.whole;
  more = ap (λ qs. shown x ∷ qs) s.more;
}

pub stands_in : (xs : List Pair) (given : Pairs) (n : ℕ) (d : Pair) → all_shown xs ≡ given → n < length xs → StandsAt given n (shown (get_or xs n d))
stands_in xs given n d is lt = subst (λ ps. StandsAt ps n (shown (get_or xs n d))) is (stands_at xs n d lt)

-- the keys that have no answer
pub unanswered_max_recv : (session : Session) (p : Preferences) (v : Typed) → answer_value session p max_recv_key v ≡ None
unfolding kind_of
unanswered_max_recv session p v = refl

pub unanswered_tag : (session : Session) (p : Preferences) (v : Typed) → answer_value session p tag_key v ≡ None
unfolding kind_of
unanswered_tag session p v = refl

unanswered_address : (session : Session) (p : Preferences) (v : Typed) → answer_value session p target_address v ≡ None
unfolding kind_of
unanswered_address session p v = refl

apart_from_unanswered : (session : Session) (p : Preferences) (k key : List ℕ) (v : Typed) → answer_value session p k v ≡ None →
    IsSome (answer_value session p key v) → k ≢ key
apart_from_unanswered session p k key v none some same = let is : answer_value session p key v
    ≡ None = subst (λ x. answer_value session p x v ≡ None) same none in let bad : IsSome {T = Typed} None = subst IsSome is some in cc

empty : (vs : List Typed) → length vs ≤ 0 → vs ≡ []
empty [] le = refl
empty (v ∷ vs) le = absurd (omega arith)

-- the key of an answered pair has no answer yet
pub no_answer_before : (session : Session) (p : Preferences) (tag max_recv : Option ℕ) (given : Pairs) (n : ℕ) (pair : List ℕ × Typed) (pairs : Pairs) →
    IsMeaning given → StandsAt given n pair
    → ArrangesPairs (declarations tag max_recv ++ flat_map (answers_to session p) (take n given)) pairs → IsSome (answer_value session p pair.0 pair.1) →
    values_of pair.0 pairs ≡ []
no_answer_before session p tag max_recv given n pair pairs is at arranges some =
    let single : length (values_of pair.0 given) ≤ 1 = is.single pair.0 (λ same. apart_from_unanswered session p target_address pair.0 pair.1
    (unanswered_address session p pair.1) some (sym same)) in
    let before = values_of-append pair.0 (take n given) (pair ∷ at.rest) in
    let here = values_of-same pair.0 pair at.rest refl in
    let size = ap length (ap (values_of pair.0) at.whole ∙ before ∙ ap (λ vs. values_of pair.0 (take n given) ++ vs) here) in
    let none : values_of pair.0 (take n given) ≡ [] = empty (values_of pair.0 (take n given))
    (omega (arith, size, single, length-append (values_of pair.0 (take n given)) (pair.1 ∷ values_of pair.0 at.rest))) in
    arranges.same pair.0 ∙ values_of-append pair.0 (declarations tag max_recv) (flat_map (answers_to session p) (take n given))
    ∙ ap (λ vs. vs ++ values_of pair.0 (flat_map (answers_to session p) (take n given)))
    (undeclared pair.0 tag max_recv (apart_from_unanswered session p max_recv_key pair.0 pair.1 (unanswered_max_recv session p pair.1) some)
    (apart_from_unanswered session p tag_key pair.0 pair.1 (unanswered_tag session p pair.1) some))
    ∙ values_of-answers session p pair.0 (take n given) ∙ ap (flat_map (answer_values session p pair.0)) none

-- one more pair answered
pub answered_more : (session : Session) (p : Preferences) (declared given : Pairs) (n : ℕ) (pair : List ℕ × Typed) (old new : Pairs) → StandsAt given n pair
    → ArrangesPairs (declared ++ flat_map (answers_to session p) (take n given)) old → ArrangesPairs (old ++ answers_to session p pair) new →
    ArrangesPairs (declared ++ flat_map (answers_to session p) (take (n + 1) given)) new
answered_more session p declared given n pair old new at first then =
    let more = arranges_more (declared ++ flat_map (answers_to session p) (take n given)) old (answers_to session p pair) new first then in
    let row : flat_map (answers_to session p) (take (n + 1) given) ≡ flat_map (answers_to session p) (take n given) ++ answers_to session p pair =
    ap (λ k. flat_map (answers_to session p) (take k given)) (add-one n) ∙ ap (flat_map (answers_to session p)) at.more
    ∙ flat_map-append (answers_to session p) (take n given) (pair ∷ [])
    ∙ ap (λ qs. flat_map (answers_to session p) (take n given) ++ qs) (append-nil (answers_to session p pair)) in
    subst (λ ps. ArrangesPairs ps new) (append_assoc declared (flat_map (answers_to session p) (take n given)) (answers_to session p pair)
    ∙ ap (λ qs. declared ++ qs) (sym row)) more

-- The answer to a text request, pair by pair.
use Rattle.std.proofs.Common.{◌≡◌, ◌≤◌, ◌∙◌, ℕ, zero, suc, ◌+◌, List, [], ◌∷◌, ◌++◌, Bool, true, false, not, length, take, drop, get_or, Some, None, refl, sym}
use Rattle.std.proofs.Common.{ap, subst, arith, append_assoc}
use Rattle.std.specs.Prelude.{slice_get, codes, ◌&&◌, ◌||◌, if◌then◌else◌}
use Rattle.std.specs.List.{AllByRecursion, AllWithin}
use Rattle.std.specs.List.Sorted.{IsPartitionedBy}
use Rattle.std.specs.Str.{bytes_eq}
use Rattle.std.proofs.lemmas.List.Concat.{flat_map-append}
use Rattle.iscsi_text.specs.declared.pair.Pair.{Pair}
use Rattle.iscsi_text.specs.Value.{Typed}
use Rattle.iscsi_text.specs.Value as values
use Rattle.iscsi_text.specs.Text.{Pairs, IsInOrder, key_le}
use Rattle.iscsi_text.specs.Canonical.{canonical_text, pair_text}
use Rattle.iscsi_text.specs.Shown.{shown, all_shown}
use Rattle.iscsi_text.specs.Reading.{has_key, placed, in_order}
use Rattle.iscsi_text.proofs.KeyLemmas.{key_le_both, key_le_trans, same_key, bytes_eq_same}
use Rattle.iscsi_target_session.specs.TextRequests.{replies, reply_to, word_for, name_if, reply_pairs, is_asked}
use Rattle.iscsi_target_session.specs.inner.Inside.{has_first, has_reply}
use Rattle.iscsi_target_session.proofs.CaseLemmas.{by_cases}
use Rattle.iscsi_text.proofs.PairLemmas.{at_all}
use Rattle.iscsi_stream.proofs.ReadyLemmas.{apart}

pub first_some : (ps : Pairs) (n : ℕ) (p : List ℕ × Typed) (key : List ℕ) → slice_get ps n ≡ Some p → bytes_eq p.0 key ≡ has_first key (drop n ps)
first_some [] n p key e = absurd cc
first_some (q ∷ qs) zero p key e = let f : q ≡ p = cc in ap (λ (x : List ℕ × Typed). bytes_eq x.0 key) (sym f)
first_some (q ∷ qs) (suc n) p key e = first_some qs n p key e

pub first_none : (ps : Pairs) (n : ℕ) (key : List ℕ) → slice_get ps n ≡ None → false ≡ has_first key (drop n ps)
first_none [] zero key e = refl
first_none [] (suc n) key e = refl
first_none (q ∷ qs) zero key e = absurd cc
first_none (q ∷ qs) (suc n) key e = first_none qs n key e

drop_at : (ps : Pairs) (n : ℕ) (p : List ℕ × Typed) → slice_get ps n ≡ Some p → drop n ps ≡ p ∷ drop (suc n) ps
drop_at [] n p e = absurd cc
drop_at (q ∷ qs) zero p e = let f : q ≡ p = cc in ap (λ (x : List ℕ × Typed). x ∷ qs) f
drop_at (q ∷ qs) (suc n) p e = drop_at qs n p e

order_drop : (ps : Pairs) (n : ℕ) → IsInOrder ps → IsInOrder (drop n ps)
order_drop ps zero h = h
order_drop [] (suc n) h = tt
order_drop (p ∷ ps) (suc n) h = order_drop ps n h.1

no_later : (key at : List ℕ) (ps : Pairs) → key_le key at ≡ true → bytes_eq at key ≡ false → AllByRecursion (λ q. key_le at q.0 ≡ true) ps → has_key key ps
    ≡ false
no_later key at [] le other all = refl
no_later key at (p ∷ ps) le other all =
    by_cases (bytes_eq p.0 key)
    (λ e. absurd (apart (bytes_eq_same at key (key_le_both at key (subst (λ (k : List ℕ). key_le at k ≡ true) (same_key p.0 key e) all.0) le)) other))
    (λ e. ap (λ (b : Bool). b || has_key key ps) e ∙ no_later key at ps le other all.1)

-- a key that stands again stands next
repeats_next : (p : List ℕ × Typed) (ps : Pairs) → IsInOrder (p ∷ ps) → has_key p.0 ps ≡ has_first p.0 ps
repeats_next p [] h = refl
repeats_next p (q ∷ qs) h =
    by_cases (bytes_eq q.0 p.0) (λ e. ap (λ (b : Bool). b || has_key p.0 qs) e ∙ sym e)
    (λ e. ap (λ (b : Bool). b || has_key p.0 qs) e ∙ no_later p.0 q.0 qs h.0.0 e h.1.0 ∙ sym e)

replies_at : (asked : Bool) (ps : Pairs) (n : ℕ) (p : List ℕ × Typed) (b : Bool) → IsInOrder ps → slice_get ps n ≡ Some p → b ≡ has_first p.0 (drop (suc n) ps)
    → replies asked (drop n ps) ≡ (if b then replies asked (drop (suc n) ps) else reply_to asked p.0 ++ replies asked (drop (suc n) ps))
replies_at asked ps n p b order at is =
    let here : drop n ps ≡ p ∷ drop (suc n) ps = drop_at ps n p at in
    let again : has_key p.0 (drop (suc n) ps) ≡ b = repeats_next p (drop (suc n) ps) (subst IsInOrder here (order_drop ps n order)) ∙ sym is in
    ap (replies asked) here ∙ ap (λ (x : Bool). if x then replies asked (drop (suc n) ps) else reply_to asked p.0 ++ replies asked (drop (suc n) ps)) again

abbrev chosen : Bool → Bool → List ℕ → Pairs
chosen a b key = if a then [] else (if b then [] else (key, values.Plain (word_for key)) ∷ [])

reply_by : (a b : Bool) (key : List ℕ) (ps : Pairs) → (not a && not b) ≡ true → chosen a b key ++ ps ≡ (key, values.Plain (word_for key)) ∷ ps
reply_by true b key ps e = absurd cc
reply_by false true key ps e = absurd cc
reply_by false false key ps e = refl

no_reply_by : (a b : Bool) (key : List ℕ) (ps : Pairs) → (not a && not b) ≡ false → chosen a b key ++ ps ≡ ps
no_reply_by true b key ps e = refl
no_reply_by false true key ps e = refl
no_reply_by false false key ps e = absurd cc

pub no_more : (asked : Bool) (ps : Pairs) (n next : ℕ) (p : List ℕ × Typed) → next ≡ n + 1 → IsInOrder ps → slice_get ps n ≡ Some p →
    has_first p.0 (drop next ps) ≡ true → replies asked (drop next ps) ≡ replies asked (drop n ps)
no_more asked ps n next p e order at again =
    let step : next ≡ suc n = omega (arith, e) in
    let next_is : drop next ps ≡ drop (suc n) ps = ap (λ (k : ℕ). drop k ps) step in
    ap (replies asked) next_is ∙ sym (replies_at asked ps n p true order at (sym (sym (ap (has_first p.0) next_is) ∙ again)))

pub unanswered : (asked : Bool) (ps : Pairs) (n next : ℕ) (p : List ℕ × Typed) → next ≡ n + 1 → IsInOrder ps → slice_get ps n ≡ Some p →
    has_first p.0 (drop next ps) ≡ false → has_reply asked p.0 ≡ false
    → replies asked (drop next ps) ≡ replies asked (drop n ps)
unanswered asked ps n next p e order at again none =
    let step : next ≡ suc n = omega (arith, e) in
    let next_is : drop next ps ≡ drop (suc n) ps = ap (λ (k : ℕ). drop k ps) step in
    ap (replies asked) next_is ∙ sym (replies_at asked ps n p false order at (sym (sym (ap (has_first p.0) next_is) ∙ again))
    ∙ no_reply_by (bytes_eq p.0 (codes "SendTargets")) (asked && bytes_eq p.0 (codes "TargetName")) p.0 (replies asked (drop (suc n) ps)) none)

pub answered_at : (asked : Bool) (ps : Pairs) (n next : ℕ) (p : List ℕ × Typed) (word : List ℕ) → next ≡ n + 1 → IsInOrder ps → slice_get ps n ≡ Some p →
    has_first p.0 (drop next ps) ≡ false → has_reply asked p.0 ≡ true
    → word ≡ word_for p.0 → (p.0, values.Plain word) ∷ replies asked (drop next ps) ≡ replies asked (drop n ps)
answered_at asked ps n next p word e order at again some is =
    let step : next ≡ suc n = omega (arith, e) in
    let next_is : drop next ps ≡ drop (suc n) ps = ap (λ (k : ℕ). drop k ps) step in
    ap (λ (w : List ℕ). (p.0, values.Plain w) ∷ replies asked (drop next ps)) is
    ∙ ap (λ (x : Pairs). (p.0, values.Plain (word_for p.0)) ∷ replies asked x) next_is
    ∙ sym (replies_at asked ps n p false order at (sym (sym (ap (has_first p.0) next_is) ∙ again))
    ∙ reply_by (bytes_eq p.0 (codes "SendTargets")) (asked && bytes_eq p.0 (codes "TargetName")) p.0 (replies asked (drop (suc n) ps)) some)

-- ---- the order of the answers

all_chosen : (k : List ℕ) (a b : Bool) (key : List ℕ) (ps : Pairs) → key_le k key ≡ true → AllByRecursion (λ q. key_le k q.0 ≡ true) ps →
    AllByRecursion (λ q. key_le k q.0 ≡ true) (chosen a b key ++ ps)
all_chosen k true b key ps le all = all
all_chosen k false true key ps le all = all
all_chosen k false false key ps le all = (le, all)

order_chosen : (a b : Bool) (key : List ℕ) (ps : Pairs) → AllByRecursion (λ q. key_le key q.0 ≡ true) ps → IsInOrder ps → IsInOrder (chosen a b key ++ ps)
order_chosen true b key ps all order = order
order_chosen false true key ps all order = order
order_chosen false false key ps all order = (all, order)

all_replies : (k : List ℕ) (asked : Bool) (ps : Pairs) → AllByRecursion (λ q. key_le k q.0 ≡ true) ps →
    AllByRecursion (λ q. key_le k q.0 ≡ true) (replies asked ps)
all_replies k asked [] all = tt
all_replies k asked (p ∷ ps) all =
    by_cases (has_key p.0 ps) (λ e. rw e (all_replies k asked ps all.1))
    (λ e. rw e (all_chosen k (bytes_eq p.0 (codes "SendTargets")) (asked && bytes_eq p.0 (codes "TargetName")) p.0 (replies asked ps) all.0
    (all_replies k asked ps all.1)))

pub order_replies : (asked : Bool) (ps : Pairs) → IsInOrder ps → IsInOrder (replies asked ps)
order_replies asked [] order = tt
order_replies asked (p ∷ ps) order =
    by_cases (has_key p.0 ps) (λ e. rw e (order_replies asked ps order.1))
    (λ e. rw e (order_chosen (bytes_eq p.0 (codes "SendTargets")) (asked && bytes_eq p.0 (codes "TargetName")) p.0 (replies asked ps)
    (all_replies p.0 asked ps order.0) (order_replies asked ps order.1)))

placed_first : (p : List ℕ × Typed) (ps : Pairs) → AllByRecursion (λ q. key_le p.0 q.0 ≡ true) ps → placed p ps ≡ p ∷ ps
placed_first p [] all = refl
placed_first p (q ∷ qs) all = rw all.0 refl

pub in_order_same : (ps : Pairs) → IsInOrder ps → in_order ps ≡ ps
in_order_same [] order = refl
in_order_same (p ∷ ps) order = ap (placed p) (in_order_same ps order.1) ∙ placed_first p ps order.0

pub reply_unnamed : (name : List ℕ) (ps : Pairs) → IsInOrder ps → is_asked name ps ≡ false → replies false ps ≡ reply_pairs name ps
reply_unnamed name ps order e = sym (in_order_same (replies false ps) (order_replies false ps order))
    ∙ sym (ap (λ (b : Bool). in_order (name_if b name ++ replies b ps)) e)

pub reply_named : (name : List ℕ) (ps : Pairs) → IsInOrder ps → is_asked name ps ≡ true → placed (codes "TargetName", values.Plain name) (replies true ps)
    ≡ reply_pairs name ps
reply_named name ps order e =
    ap (placed (codes "TargetName", values.Plain name)) (sym (in_order_same (replies true ps) (order_replies true ps order)))
    ∙ sym (ap (λ (b : Bool). in_order (name_if b name ++ replies b ps)) e)

-- ---- the place of the name

not_before : (key a b : List ℕ) → key_le a b ≡ true → not (key_le key b) ≡ true → not (key_le key a) ≡ true
not_before key a b le h =
    by_cases (key_le key a) (λ e. absurd (apart h (ap not (key_le_trans key a b e le)))) (λ e. ap not e)

pub partitioned : (key : List ℕ) (xs : List Pair) → IsInOrder (all_shown xs) → IsPartitionedBy (λ y. not (key_le key y.key.now)) xs
partitioned key [] order i j d le lt h = absurd (omega arith)
partitioned key (x ∷ xs) order zero zero d le lt h = h
partitioned key (x ∷ xs) order zero (suc j) d le lt h = not_before key x.key.now (get_or xs j d).key.now (at_all x.key.now xs j d order.0 (omega arith)) h
partitioned key (x ∷ xs) order (suc i) zero d le lt h = absurd (omega arith)
partitioned key (x ∷ xs) order (suc i) (suc j) d le lt h = partitioned key xs order.1 i j d (omega arith) (omega arith) h

not_is : (b : Bool) → not b ≡ true → b ≡ false
not_is true e = absurd cc
not_is false e = refl

not_isnt : (b : Bool) → not b ≡ false → b ≡ true
not_isnt true e = refl
not_isnt false e = absurd cc

pub placed_split : (p : List ℕ × Typed) (xs : List Pair) (i : ℕ) → AllWithin (λ y. not (key_le p.0 y.key.now) ≡ true) xs 0 i →
    AllWithin (λ y. not (key_le p.0 y.key.now) ≡ false) xs i (length xs) → i ≤ length xs
    → placed p (all_shown xs) ≡ all_shown (take i xs) ++ p ∷ all_shown (drop i xs)
placed_split p [] zero front back le = refl
placed_split p [] (suc i) front back le = absurd (omega arith)
placed_split p (x ∷ xs) zero front back le = rw (not_isnt (key_le p.0 x.key.now) (back 0 x (omega arith) (omega arith))) refl
placed_split p (x ∷ xs) (suc i) front back le =
    rw (not_is (key_le p.0 x.key.now) (front 0 x (omega arith) (omega arith)))
    (ap (λ (ps : Pairs). shown x ∷ ps) (placed_split p xs i (λ k d low high. front (suc k) d (omega arith) (omega arith))
    (λ k d low high. back (suc k) d (omega arith) (omega arith)) (omega arith)))

pub named : (p : List ℕ × Typed) (ps front back : Pairs) (out one two three : List ℕ) → placed p ps ≡ front ++ p ∷ back → out ≡ [] → one ≡ out
    ++ canonical_text front → two ≡ one ++ canonical_text (p ∷ []) → three ≡ two ++ canonical_text back
    → three ≡ canonical_text (placed p ps)
named p ps front back out one two three split none is_one is_two is_three =
    is_three ∙ ap (λ (x : List ℕ). x ++ canonical_text back) (is_two ∙ ap (λ (x : List ℕ). x ++ canonical_text (p ∷ []))
    (is_one ∙ ap (λ (x : List ℕ). x ++ canonical_text front) none))
    ∙ append_assoc (canonical_text front) (canonical_text (p ∷ [])) (canonical_text back)
    ∙ ap (λ (x : List ℕ). canonical_text front ++ x) (sym (flat_map-append pair_text (p ∷ []) back))
    ∙ sym (flat_map-append pair_text front (p ∷ back)) ∙ ap canonical_text (sym split)

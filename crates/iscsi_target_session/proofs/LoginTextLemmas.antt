-- What a login text has of a key.
use Rattle.std.proofs.Common.{◌<◌, ◌≤◌, ◌+◌, ◌++◌, length, take, drop, get_or, arith, append_assoc, ◌≡◌, ℕ, List, [], ◌∷◌, Bool, true, false, refl}
use Rattle.std.proofs.Common.{sym, ap, ◌∙◌}
use Rattle.std.specs.Prelude.{slice_get, is_some, not, ◌&&◌, ◌||◌, slice_set}
use Rattle.std.proofs.lemmas.List.{drop_more, drop_all, take_all, take_more_set, append-nil}
use Rattle.iscsi_text.specs.Key.{known_keys, target_address}
use Rattle.std.specs.Str.{bytes_eq}
use Rattle.iscsi_text.specs.Value.{Typed}
use Rattle.iscsi_text.specs.Text.{Pairs}
use Rattle.iscsi_text.specs.Reading.{has_key}
use Rattle.iscsi_target_session.specs.LoginText.{first_value, login_value, repeats_key, seen_with}

pub first_is : (vs : List Typed) → slice_get vs 0 ≡ first_value vs
first_is [] = refl
first_is (v ∷ vs) = refl

has_key_by : (key : List ℕ) (p : List ℕ × Typed) (ps : Pairs) (b : Bool) → bytes_eq p.0 key ≡ b → is_some (login_value key ps) ≡ has_key key ps →
    is_some (login_value key (p ∷ ps)) ≡ has_key key (p ∷ ps)
has_key_by key p ps true e more = rw e refl
has_key_by key p ps false e more = rw e more

pub has_key_is : (key : List ℕ) (ps : Pairs) → is_some (login_value key ps) ≡ has_key key ps
has_key_is key [] = refl
has_key_is key (p ∷ ps) = has_key_by key p ps (bytes_eq p.0 key) refl (has_key_is key ps)

abbrev pub repeated : Bool → List ℕ → Pairs → Bool
repeated was key ps = was && (not (bytes_eq key target_address) && has_key key ps)

again_by : (keys : List (List ℕ)) (seen : List Bool) (n : ℕ) (ps : Pairs) → n < length keys → n < length seen
    → repeats_key (drop n keys) (drop n seen) ps ≡ repeated (get_or seen n false) (get_or keys n []) ps
    || repeats_key (drop (n + 1) keys) (drop (n + 1) seen) ps
again_by keys seen n ps lt lt' = λ i. repeats_key (drop_more keys n [] lt i) (drop_more seen n false lt' i) ps

pub again_found : (seen : List Bool) (n : ℕ) (ps : Pairs) → n < length known_keys → length seen ≡ length known_keys → repeated (get_or seen n false)
    (get_or known_keys n []) ps ≡ true
    → repeats_key (drop n known_keys) (drop n seen) ps ≡ true
again_found seen n ps lt size found = again_by known_keys seen n ps lt (omega (arith, lt, size))
    ∙ ap (λ (b : Bool). b || repeats_key (drop (n + 1) known_keys) (drop (n + 1) seen) ps) found

pub again_more : (seen : List Bool) (n : ℕ) (ps : Pairs) → n < length known_keys → length seen ≡ length known_keys → repeated (get_or seen n false)
    (get_or known_keys n []) ps ≡ false
    → repeats_key (drop (n + 1) known_keys) (drop (n + 1) seen) ps ≡ repeats_key (drop n known_keys) (drop n seen) ps
again_more seen n ps lt size not_found = sym (again_by known_keys seen n ps lt (omega (arith, lt, size))
    ∙ ap (λ (b : Bool). b || repeats_key (drop (n + 1) known_keys) (drop (n + 1) seen) ps) not_found)

seen_by : (keys : List (List ℕ)) (seen : List Bool) (n : ℕ) (ps : Pairs) → n < length keys → n < length seen
    → seen_with (drop n keys) (drop n seen) ps ≡ (get_or seen n false || has_key (get_or keys n []) ps) ∷ seen_with (drop (n + 1) keys) (drop (n + 1) seen) ps
seen_by keys seen n ps lt lt' = λ i. seen_with (drop_more keys n [] lt i) (drop_more seen n false lt' i) ps

pub seen_more : (seen now next : List Bool) (n : ℕ) (ps : Pairs) (b : Bool) → n < length known_keys → length seen ≡ length known_keys → length now ≡ length
    known_keys → b
    ≡ (get_or seen n false || has_key (get_or known_keys n []) ps)
    → take n now ++ seen_with (drop n known_keys) (drop n seen) ps ≡ seen_with known_keys seen ps
    → take (n + 1) (slice_set now n b) ++ seen_with (drop (n + 1) known_keys) (drop (n + 1) seen) ps ≡ seen_with known_keys seen ps
seen_more seen now next n ps b lt size size' is before =
    ap (λ (x : List Bool). x ++ seen_with (drop (n + 1) known_keys) (drop (n + 1) seen) ps) (take_more_set now n b (omega (arith, lt, size')))
    ∙ append_assoc (take n now) (b ∷ []) (seen_with (drop (n + 1) known_keys) (drop (n + 1) seen) ps)
    ∙ ap (λ (x : Bool). take n now ++ x ∷ seen_with (drop (n + 1) known_keys) (drop (n + 1) seen) ps) is
    ∙ ap (λ (x : List Bool). take n now ++ x) (sym (seen_by known_keys seen n ps lt (omega (arith, lt, size)))) ∙ before

pub seen_all : (seen now : List Bool) (n : ℕ) (ps : Pairs) → length known_keys ≤ n → length now ≡ length known_keys → take n now ++ seen_with
    (drop n known_keys) (drop n seen) ps
    ≡ seen_with known_keys seen ps → now ≡ seen_with known_keys seen ps
seen_all seen now n ps le size h =
    sym (append-nil now) ∙ ap (λ (x : List Bool). x ++ []) (sym (take_all n now (omega (arith, le, size))))
    ∙ ap (λ (keys : List (List ℕ)). take n now ++ seen_with keys (drop n seen) ps) (sym (drop_all n known_keys le)) ∙ h

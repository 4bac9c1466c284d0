-- The known keys: the negotiated ones, and then the others.
use Rattle.std.proofs.Common.{◌≡◌, ℕ, ◌<◌, ◌≤◌, ◌-◌, Bool, true, false, cond, Bor, List, [], ◌∷◌, ◌++◌, length, map, find, Option, Some, None, get_or, refl, sym, ap, ◌∙◌}
use Rattle.std.specs.Option.{option_map}
use Rattle.std.specs.Str.{bytes_eq}
use Rattle.std.proofs.lemmas.List.{get_or-map, get_or_append_left, get_or-append_right}
use Rattle.iscsi_text.specs.declared.key.KeyKind.{KeyKind}
use Rattle.iscsi_text.specs.declared.negotiated.NegKey.{NegKey}
use Rattle.iscsi_text.specs.declared.negotiated.NegKey.TheVariants as keys
use Rattle.iscsi_text.specs.Negotiated.{name_of, rule_of, kind_by, key_named, all_keys}
use Rattle.iscsi_text.specs.Key.{declared, known_keys, kind_in, kind_of}
use Rattle.iscsi_text.specs.inner.Inside.{row_shown}

-- ---- names by their places

pub negotiated_name : (n : ℕ) → n < length all_keys → name_of (get_or all_keys n keys.AuthMethod) ≡ get_or known_keys n []
negotiated_name n lt = sym (get_or-map name_of all_keys n keys.AuthMethod [] lt)
    ∙ sym (get_or_append_left (map name_of all_keys) (map (λ key. key.0) declared) [] n lt)

pub declared_name : (n : ℕ) → length all_keys ≤ n → get_or (map (λ key. key.0) declared) (n - length all_keys) [] ≡ get_or known_keys n []
declared_name n le = sym (get_or-append_right (map name_of all_keys) (map (λ key. key.0) declared) (length all_keys) n [] refl le)

-- ---- kinds by the tables

-- the kind of a negotiated key, or else this one
abbrev pub kind_or : Option NegKey → Option KeyKind → Option KeyKind
kind_or (Some key) rest = Some (kind_by (rule_of key))
kind_or None rest = rest

-- what is found among the first, or else among the rest
found_in : (xs : List NegKey) (rest : List (List ℕ × KeyKind)) (name : List ℕ) → kind_in (map (λ key. (name_of key, kind_by (rule_of key))) xs ++ rest) name
    ≡ kind_or (find (λ key. bytes_eq (name_of key) name) xs) (kind_in rest name)
found_in [] rest name = refl
found_in (x ∷ xs) rest name = by (found_in xs rest name) (bytes_eq (name_of x) name)
  where
    by : kind_in (map (λ key. (name_of key, kind_by (rule_of key))) xs ++ rest) name ≡ kind_or (find (λ key. bytes_eq (name_of key) name) xs)
        (kind_in rest name) →
        (t : Bool) → option_map (λ k. k.1) (cond t (Some (name_of x, kind_by (rule_of x))) (find (λ k. bytes_eq k.0 name)
        (map (λ key. (name_of key, kind_by (rule_of key))) xs ++ rest))) ≡ kind_or (cond t (Some x) (find (λ key. bytes_eq (name_of key) name) xs))
        (kind_in rest name)
    by more true = refl
    by more false = more

pub negotiated_kind : (name : List ℕ) (key : NegKey) → key_named name ≡ Some key → Some (kind_by (rule_of key)) ≡ kind_of name
unfolding kind_of
negotiated_kind name key is = sym (found_in all_keys declared name ∙ ap (λ k. kind_or k (kind_in declared name)) is)

pub other_kind : (name : List ℕ) → key_named name ≡ None → kind_in declared name ≡ kind_of name
unfolding kind_of
other_kind name is = sym (found_in all_keys declared name ∙ ap (λ k. kind_or k (kind_in declared name)) is)

-- the kind that is found, read where the rows lie
pub find_row : (name : List ℕ) (rows : List (Bor (List ℕ) × KeyKind)) → option_map (λ row. row.1) (find (λ row. bytes_eq row.0.now name) rows)
    ≡ kind_in (map row_shown rows) name
find_row name [] = refl
find_row name (row ∷ rows) = by (find_row name rows) (bytes_eq row.0.now name)
  where
    by : option_map (λ r. r.1) (find (λ r. bytes_eq r.0.now name) rows) ≡ kind_in (map row_shown rows) name → (t : Bool) →
        option_map (λ r. r.1) (cond t (Some row) (find (λ r. bytes_eq r.0.now name) rows))
        ≡ option_map (λ k. k.1) (cond t (Some (row_shown row)) (find (λ k. bytes_eq k.0 name) (map row_shown rows)))
    by more true = refl
    by more false = more

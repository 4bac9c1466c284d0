-- An entry read, and a row read so far.
use Rattle.std.proofs.Common.{◌≡◌, ◌≢◌, ℕ, List, [], ◌∷◌, ◌++◌, length, Option, Some, None, refl, sym, ap, subst, ◌∙◌, inl, inr, append_assoc, arith}
use Rattle.std.specs.Option.{option_map, option_to_list}
use Rattle.std.specs.List.{flat_map, AllByRecursion}
use Rattle.std.proofs.lemmas.List.{append-nil}
use Rattle.std.proofs.lemmas.List.Elements.{All-from_recursion, recursion_from_All}
use Rattle.std.proofs.lemmas.Grind.{flat_map-append}
use Rattle.iscsi_text.specs.declared.fault.TextFault.TheVariants.{BadKey}
use Rattle.iscsi_text.specs.Key.{IsKey, kind_of, target_address}
use Rattle.iscsi_text.specs.Value.{Typed, MeansValue}
use Rattle.iscsi_text.specs.Text.{Pairs, values_of, Field, entry_bytes, HasNo, IsTextEntry, IsSingle, pairs_of}
use Rattle.iscsi_text.specs.Fault.{NamesFirst}
use Rattle.iscsi_text.specs.Shown.{SplitsAtByte}
use Rattle.iscsi_text.specs.inner.Inside.{ReadsEntry, IsWrong, GathersTo}
use Rattle.iscsi_text.proofs.PairLemmas.{values_of-append, values_of-same, values_of-other, key_cases}

pub pairs_of-append : (xs ys : List (Option Field)) → pairs_of (xs ++ ys) ≡ pairs_of xs ++ pairs_of ys
pairs_of-append [] ys = refl
pairs_of-append (None ∷ xs) ys = pairs_of-append xs ys
pairs_of-append (Some f ∷ xs) ys = ap (λ ps. (f.key, f.value) ∷ ps) (pairs_of-append xs ys)

all_push : (P : Option Field → Type 0) (xs : List (Option Field)) (x : Option Field) → AllByRecursion P xs → P x → AllByRecursion P (xs ++ x ∷ [])
all_push P [] x all here = (here, tt)
all_push P (y ∷ xs) x all here = (all.0, all_push P xs x all.1 here)

-- one entry more
spelled_more : (bytes rest more : List ℕ) (entries : List (Option Field)) (e : Option Field) → bytes ≡ flat_map entry_bytes entries ++ rest → rest
    ≡ entry_bytes e ++ more → bytes ≡ flat_map entry_bytes (entries ++ e ∷ []) ++ more
spelled_more bytes rest more entries e spelled next =
    let all : flat_map entry_bytes (entries ++ e ∷ []) ≡ flat_map entry_bytes entries ++ entry_bytes e = flat_map-append entry_bytes entries (e ∷ [])
    ∙ ap (λ bs. flat_map entry_bytes entries ++ bs) (append-nil (entry_bytes e)) in
    spelled ∙ ap (λ bs. flat_map entry_bytes entries ++ bs) next ∙ sym (append_assoc (flat_map entry_bytes entries) (entry_bytes e) more)
    ∙ ap (λ bs. bs ++ more) (sym all)

-- the bytes of a field, up to the rest
pub field_spelled : (rest entry more key value : List ℕ) → rest ≡ entry ++ 0 ∷ more → entry ≡ key ++ 61 ∷ value → rest ≡ key ++ 61 ∷ value ++ 0 ∷ more
field_spelled rest entry more key value whole parts = whole ∙ ap (λ bs. bs ++ 0 ∷ more) parts

pub no_front : (byte : ℕ) (xs ys : List ℕ) → HasNo byte (xs ++ ys) → HasNo byte xs
no_front byte xs ys h = All-from_recursion (λ b. b ≢ byte) xs (front xs ys (recursion_from_All (λ b. b ≢ byte) (xs ++ ys) h))
  where
    front : (xs ys : List ℕ) → AllByRecursion (λ b. b ≢ byte) (xs ++ ys) → AllByRecursion (λ b. b ≢ byte) xs
    front [] ys h = tt
    front (x ∷ xs) ys h = (h.0, front xs ys h.1)

pub no_back : (byte : ℕ) (xs ys : List ℕ) → HasNo byte (xs ++ ys) → HasNo byte ys
no_back byte xs ys h = All-from_recursion (λ b. b ≢ byte) ys (back xs ys (recursion_from_All (λ b. b ≢ byte) (xs ++ ys) h))
  where
    back : (xs ys : List ℕ) → AllByRecursion (λ b. b ≢ byte) (xs ++ ys) → AllByRecursion (λ b. b ≢ byte) ys
    back [] ys h = h
    back (x ∷ xs) ys h = back xs ys h.1

-- an entry without 0 has parts without 0
pub no_parts : (entry key value : List ℕ) → HasNo 0 entry → entry ≡ key ++ 61 ∷ value → HasNo 0 key × HasNo 0 value
no_parts entry key value none parts =
    let whole : HasNo 0 (key ++ 61 ∷ value) = subst (HasNo 0) parts none in
    (no_front 0 key (61 ∷ value) whole, no_back 0 (61 ∷ []) value (no_back 0 key (61 ∷ value) whole))

-- an entry, taken apart at its `=`
pub reads_pair : (rest entry more key value : List ℕ) (v : Typed) → SplitsAtByte rest 0 entry more → SplitsAtByte entry 61 key value → IsKey key →
    MeansValue (kind_of key) value v → ReadsEntry rest (Some (key, v)) more
reads_pair rest entry more key value v at_end at_equals is_key means = record {
  entry = Some (record { key = key; bytes = value; value = v });
  spelled = field_spelled rest entry more key value at_end.whole at_equals.whole ∙ sym (append_assoc (key ++ 61 ∷ value) (0 ∷ []) more);
  good = record { key = is_key; ends = (no_parts entry key value at_end.first at_equals.whole).1; value = means };
  shows = refl;
}

-- the pair's parts, as the faults name them
names_first : (rest entry more key value : List ℕ) → SplitsAtByte rest 0 entry more → SplitsAtByte entry 61 key value → NamesFirst key rest
names_first rest entry more key value at_end at_equals =
    let parts = no_parts entry key value at_end.first at_equals.whole in
    record {
      bytes = value;
      more = more;
      whole = field_spelled rest entry more key value at_end.whole at_equals.whole;
      no_equals = at_equals.first;
      key_ends = parts.0;
      bytes_end = parts.1;
    }

pub bad_key : (rest entry more key value : List ℕ) (at : ℕ) → SplitsAtByte rest 0 entry more → SplitsAtByte entry 61 key value → (IsKey key → ⊥) →
    IsWrong rest at (BadKey at)
bad_key rest entry more key value at at_end at_equals bad = record {
  place = refl;
  faulty = record { key = key; first = names_first rest entry more key value at_end at_equals; bad = bad };
}

-- ---- a row, entry by entry

-- a spare byte adds no pair, another entry its own
pub gathers_more : (bytes rest more : List ℕ) (pairs : Pairs) (pair : Option (List ℕ × Typed)) → GathersTo bytes rest pairs → ReadsEntry rest pair more →
    GathersTo bytes more (pairs ++ option_to_list pair)
gathers_more bytes rest more pairs pair so_far next = record {
  entries = so_far.entries ++ next.entry ∷ [];
  spelled = spelled_more bytes rest more so_far.entries next.entry so_far.spelled next.spelled;
  each = all_push IsTextEntry so_far.entries next.entry so_far.each next.good;
  gathered = ap (λ ps. ps ++ option_to_list pair) so_far.gathered ∙ ap (λ p. pairs_of so_far.entries ++ option_to_list p) next.shows
      ∙ sym (pairs_of-append so_far.entries (next.entry ∷ []) ∙ ap (λ ps. pairs_of so_far.entries ++ ps) (one next.entry));
}
  where
    one : (e : Option Field) → pairs_of (e ∷ []) ≡ option_to_list (option_map (λ f. (f.key, f.value)) e)
    one None = refl
    one (Some f) = refl

pub single_more : (ps : Pairs) (p : List ℕ × Typed) → IsSingle ps → (p.0 ≢ target_address → values_of p.0 ps ≡ []) → IsSingle (ps ++ p ∷ [])
single_more ps p single new key other = elim (key_cases p.0 key) [
  | inl same ↦
      let none : values_of key ps ≡ [] = subst (λ k. values_of k ps ≡ []) same (new (λ is. other (sym same ∙ is))) in
      omega (arith, ap length (values_of-append key ps (p ∷ []) ∙ ap (λ vs. vs ++ values_of key (p ∷ [])) none ∙ values_of-same key p [] same))
  | inr apart ↦
      omega (
        arith,
        ap length (values_of-append key ps (p ∷ []) ∙ ap (λ vs. values_of key ps ++ vs) (values_of-other key p [] apart)
            ∙ append-nil (values_of key ps)),
        single key other,
      )
]

-- A text is one row.
use Rattle.std.proofs.Common.{◌≡◌, ◌≢◌, ℕ, ◌<◌, List, [], ◌∷◌, ◌++◌, length, ◌⊎◌, inl, inr, Option, Some, None, refl, sym, ap, subst, ◌∙◌, append_assoc, arith}
use Rattle.std.specs.List.{flat_map, AllByRecursion}
use Rattle.std.proofs.lemmas.List.{append-nil, length-append}
use Rattle.std.proofs.lemmas.List.Elements.{All-from_recursion, recursion_from_All}
use Rattle.iscsi_text.specs.Key.{IsKey, IsKeyByte, kind_of}
use Rattle.iscsi_text.specs.Value.{MeansValue}
use Rattle.iscsi_text.specs.Text.{Pairs, values_of, Field, entry_bytes, HasNo, IsTextEntry, IsField, pairs_of, BeginsWithEntries, TextMeans}
use Rattle.iscsi_text.proofs.MeaningLemmas.{one_value}
use Rattle.iscsi_text.proofs.ArrangementLemmas.{one_order}

-- the first place of a byte is one place
cut_by : (byte : ℕ) (xs ys x y : List ℕ) → AllByRecursion (λ b. b ≢ byte) xs → AllByRecursion (λ b. b ≢ byte) ys → xs ++ byte ∷ x ≡ ys ++ byte ∷ y → (xs ≡ ys)
    × (x ≡ y)
cut_by byte [] [] x y none none' e = (refl, cc)
cut_by byte [] (b ∷ ys) x y none none' e = absurd (none'.0 (let h : b ≡ byte = cc in h))
cut_by byte (b ∷ xs) [] x y none none' e = absurd (none.0 (let h : b ≡ byte = cc in h))
cut_by byte (b ∷ xs) (d ∷ ys) x y none none' e =
    let heads : b ≡ d = cc in
    let tails : xs ++ byte ∷ x ≡ ys ++ byte ∷ y = cc in
    let rest = cut_by byte xs ys x y none.1 none'.1 tails in
    ((λ i. heads i ∷ rest.0 i), rest.1)

pub cut : (byte : ℕ) (xs ys x y : List ℕ) → HasNo byte xs → HasNo byte ys → xs ++ byte ∷ x ≡ ys ++ byte ∷ y → (xs ≡ ys) × (x ≡ y)
cut byte xs ys x y none none' = cut_by byte xs ys x y (recursion_from_All (λ b. b ≢ byte) xs none) (recursion_from_All (λ b. b ≢ byte) ys none')

-- no byte of a key is `=` or 0
key_byte : (c : ℕ) → IsKeyByte c → (c ≢ 61) × (c ≢ 0)
key_byte c is = grind arith

key_without : (byte : ℕ) → ((c : ℕ) → IsKeyByte c → c ≢ byte) → (key : List ℕ) → IsKey key → HasNo byte key
key_without byte not key is = λ k d lt. not _ (is.bytes k d lt)

pub key_no_equals : (key : List ℕ) → IsKey key → HasNo 61 key
key_no_equals = key_without 61 (λ c is. (key_byte c is).0)

pub key_no_zero : (key : List ℕ) → IsKey key → HasNo 0 key
key_no_zero = key_without 0 (λ c is. (key_byte c is).1)

-- a field's bytes before its final 0 have none
pub no_append : (byte : ℕ) (xs ys : List ℕ) → HasNo byte xs → HasNo byte ys → HasNo byte (xs ++ ys)
no_append byte xs ys none none' = All-from_recursion (λ b. b ≢ byte) (xs ++ ys) (by xs (recursion_from_All (λ b. b ≢ byte) xs none))
  where
    by : (xs : List ℕ) → AllByRecursion (λ b. b ≢ byte) xs → AllByRecursion (λ b. b ≢ byte) (xs ++ ys)
    by [] all = recursion_from_All (λ b. b ≢ byte) ys none'
    by (b ∷ xs) all = (all.0, by xs all.1)

pub field_no_zero : (f : Field) → IsField f → HasNo 0 (f.key ++ 61 ∷ f.bytes)
field_no_zero f is = no_append 0 f.key (61 ∷ f.bytes) (key_no_zero f.key is.key)
    (no_append 0 (61 ∷ []) f.bytes (All-from_recursion (λ b. b ≢ 0) (61 ∷ []) ((λ e. omega arith), tt)) is.ends)

-- a key isn't empty
pub key_some : (key : List ℕ) → IsKey key → 0 < length key
key_some [] is = absurd (grind (arith, is.first))
key_some (c ∷ key) is = omega arith

-- what begins with a field begins with no empty entry
field_first : (f : Field) (x y : List ℕ) → IsField f → (entry_bytes (Some f) ++ x) ≡ 0 ∷ y → ⊥
field_first f x y is e = by f.key (key_some f.key is.key) (key_no_zero f.key is.key) e
  where
    by : (key : List ℕ) → 0 < length key → HasNo 0 key → (((key ++ 61 ∷ f.bytes) ++ 0 ∷ []) ++ x) ≡ 0 ∷ y → ⊥
    by [] some none e = omega arith
    by (c ∷ key) some none e = (recursion_from_All (λ b. b ≢ 0) (c ∷ key) none).0 (let h : c ≡ 0 = cc in h)

-- two fields of the same bytes
same_field : (f g : Field) (x y : List ℕ) → IsField f → IsField g → entry_bytes (Some f) ++ x ≡ entry_bytes (Some g) ++ y → (f ≡ g) × (x ≡ y)
same_field f g x y is is' e =
    let ends = cut 0 (f.key ++ 61 ∷ f.bytes) (g.key ++ 61 ∷ g.bytes) x y (field_no_zero f is) (field_no_zero g is')
    (sym (append_assoc (f.key ++ 61 ∷ f.bytes) (0 ∷ []) x) ∙ e ∙ append_assoc (g.key ++ 61 ∷ g.bytes) (0 ∷ []) y) in
    let parts = cut 61 f.key g.key f.bytes g.bytes (key_no_equals f.key is.key) (key_no_equals g.key is'.key) ends.0 in
    let means : MeansValue (kind_of g.key) g.bytes f.value = subst (λ k. MeansValue (kind_of k) g.bytes f.value) parts.0
    (subst (λ bs. MeansValue (kind_of f.key) bs f.value) parts.1 is.value) in
    let value : f.value ≡ g.value = one_value (kind_of g.key) g.bytes f.value g.value means is'.value in
    ((λ i. record { key = parts.0 i; bytes = parts.1 i; value = value i }), ends.1)

same_entry : (d e : Option Field) (x y : List ℕ) → IsTextEntry d → IsTextEntry e → entry_bytes d ++ x ≡ entry_bytes e ++ y → (d ≡ e) × (x ≡ y)
same_entry None None x y is is' e = (refl, cc)
same_entry None (Some g) x y is is' e = absurd (field_first g y x is' (sym e))
same_entry (Some f) None x y is is' e = absurd (field_first f x y is e)
same_entry (Some f) (Some g) x y is is' e = let both = same_field f g x y is is' e in (ap (λ h. Some h) both.0, both.1)

-- the row fs goes on behind es by more
pub record GoesOn (es fs : List (Option Field)) (x y : List ℕ) : Type 0 where
  pub more : List (Option Field)
  pub whole : fs ≡ es ++ more
  pub rest : x ≡ flat_map entry_bytes more ++ y
  pub each : AllByRecursion IsTextEntry more

-- of two rows of the same bytes one goes on behind the other
pub compared : (es fs : List (Option Field)) (x y : List ℕ) → AllByRecursion IsTextEntry es → AllByRecursion IsTextEntry fs → flat_map entry_bytes es ++ x
    ≡ flat_map entry_bytes fs ++ y → GoesOn es fs x y ⊎ GoesOn fs es y x
compared [] fs x y a b e = inl (record { more = fs; whole = refl; rest = e; each = b })
compared (d ∷ es) [] x y a b e = inr (record { more = d ∷ es; whole = refl; rest = sym e; each = a })
compared (d ∷ es) (f ∷ fs) x y a b e =
    let heads = same_entry d f (flat_map entry_bytes es ++ x) (flat_map entry_bytes fs
    ++ y) a.0 b.0 (sym (append_assoc (entry_bytes d) (flat_map entry_bytes es) x) ∙ e ∙ append_assoc (entry_bytes f) (flat_map entry_bytes fs) y) in
    elim (compared es fs x y a.1 b.1 heads.1) [
      | inl on ↦ inl (record { more = on.more; whole = ap (λ r. f ∷ r) on.whole ∙ ap (λ r. r ∷ (es ++ on.more)) (sym heads.0); rest = on.rest; each = on.each })
      | inr on ↦ inr (record { more = on.more; whole = ap (λ r. d ∷ r) on.whole ∙ ap (λ r. r ∷ (fs ++ on.more)) heads.0; rest = on.rest; each = on.each })
    ]

-- an entry has a byte
pub entry_some : (e : Option Field) → 0 < length (entry_bytes e)
entry_some None = omega arith
entry_some (Some f) = omega (arith, length-append (f.key ++ 61 ∷ f.bytes) (0 ∷ []))

nothing_more : (more : List (Option Field)) → [] ≡ flat_map entry_bytes more ++ [] → more ≡ []
nothing_more [] e = refl
nothing_more (e ∷ more) none = absurd (omega (
  arith,
  ap length none,
  entry_some e,
  length-append (entry_bytes e ++ flat_map entry_bytes more) [],
  length-append (entry_bytes e) (flat_map entry_bytes more),
))

ended : (es fs : List (Option Field)) → GoesOn es fs [] [] → fs ≡ es
ended es fs on = on.whole ∙ ap (λ m. es ++ m) (nothing_more on.more on.rest) ∙ append-nil es

pub one_row : (text : List ℕ) (es fs : List (Option Field)) → BeginsWithEntries text es [] → BeginsWithEntries text fs [] → es ≡ fs
one_row text es fs a b = elim (compared es fs [] [] a.each b.each (sym a.spelled ∙ b.spelled)) [ inl on ↦ sym (ended es fs on) | inr on ↦ ended fs es on ]

-- a text has one meaning
pub one_meaning : (text : List ℕ) (ps qs : Pairs) → TextMeans text ps → TextMeans text qs → ps ≡ qs
one_meaning text ps qs a b =
    let row = one_row text a.entries b.entries a.row b.row in
    one_order ps qs a.arranges.in_order b.arranges.in_order (λ key. a.arranges.same key ∙ ap (λ es. values_of key (pairs_of es)) row
    ∙ sym (b.arranges.same key))

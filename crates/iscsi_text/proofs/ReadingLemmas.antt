-- What the computed reading of bytes gives is what they mean.
use Rattle.std.proofs.Common.{◌≡◌, ◌≢◌, ℕ, ◌<◌, ◌≤◌, ◌^◌, ◌==◌, Bool, true, false, not, ◌&&◌, ◌||◌, List, [], ◌∷◌, ◌++◌, length, Option, Some, None, refl, sym}
use Rattle.std.proofs.Common.{ap, subst, ◌∙◌, ◌⊎◌, inl, inr, leb-true, le-leb, eq-eqb, ne_eqb, append_assoc, arith}
use Rattle.std.specs.Bool.{Decides}
use Rattle.std.specs.Option.{MatchOption, option_map}
use Rattle.std.specs.List.{flat_map, AllByRecursion, list_any, list_all, join_with_byte, onto_first}
use Rattle.std.specs.Prelude.{nat_le, slice_index}
use Rattle.std.specs.Char.{digit_value, is_digit}
use Rattle.std.specs.Str.{bytes_eq}
use Rattle.std.specs.Str.Parse.{AllDigits, IsNumeral, digits_value}
use Rattle.std.proofs.lemmas.Bool.{false≢true, cases_lt, cond-true, cond-false}
use Rattle.std.proofs.lemmas.Bool.Decides.{Decides-eqb, Decides-ltb, Decides-at, Decides-like, Decides-not, Decides-and, Decides-or, Decides-by_and}
use Rattle.std.proofs.Math.Bool.{or-false}
use Rattle.std.proofs.lemmas.List.{append-nil, length-append}
use Rattle.std.proofs.lemmas.List.Elements.{All-nil, All-cons, All-from_recursion, recursion_from_All}
use Rattle.std.proofs.lemmas.List.Splits.{join_with_byte-slice_split, length-slice_split, slice_split_at}
use Rattle.std.proofs.lemmas.Slice.Eq.{bytes_eq-Decides}
use Rattle.iscsi_text.specs.declared.key.KeyKind.{KeyKind}
use Rattle.iscsi_text.specs.declared.key.KeyKind.TheVariants as kinds
use Rattle.iscsi_text.specs.Numeral.{IsHexadecimal, SpellsNumber}
use Rattle.iscsi_text.specs.Key.{IsLetter, IsKeyByte, IsKey, kind_of, target_address}
use Rattle.iscsi_text.specs.Value.{Typed, MeansValue, boolean_text}
use Rattle.iscsi_text.specs.Text.{Pairs, values_of, IsSingle, Field, entry_bytes, HasNo, IsField, IsTextEntry, pairs_of, TextMeans}
use Rattle.iscsi_text.specs.Shown.{SplitsAtByte}
use Rattle.iscsi_text.specs.Reading.{is_empty, parts_at, onto_front, cut_at, number_of_digits, number_behind_zero, number_in, number_or_odd, value_in}
use Rattle.iscsi_text.specs.Reading.{is_letter, is_key_byte, is_key, pair_of_cut, pair_in, has_key, added, pairs_in, in_order, text_in}
use Rattle.iscsi_text.proofs.KeyLemmas.{bytes_eq_same, bytes_eq_other}
use Rattle.iscsi_text.proofs.PairLemmas.{values_of-same, values_of-other, key_cases}
use Rattle.iscsi_text.proofs.MeaningLemmas.{one_value}
use Rattle.iscsi_text.proofs.ArrangementLemmas.{one_order}
use Rattle.iscsi_text.proofs.ReadInvariant.{no_parts}
use Rattle.iscsi_text.proofs.RowLemmas.{key_some, key_no_equals, field_no_zero}
use Rattle.iscsi_text.proofs.OrderLemmas.{in_order_is, values_in_order}

-- ---- tests and what they decide

-- what a test says, either way
decided : {P : Type 0} (b : Bool) → Decides b P → ((b ≡ true) × P) ⊎ ((b ≡ false) × (P → ⊥))
decided true d = inl (refl, d.0 refl)
decided false d = inr (refl, λ p. false≢true (d.1 p))

is_le : (a b : ℕ) → Decides (nat_le a b) (a ≤ b)
is_le a b = (leb-true a b, le-leb a b)

is_same : (n c : ℕ) → Decides (n == c) (c ≡ n)
is_same n c = Decides-like (n == c) sym sym (Decides-eqb n c)

is_letter_decides : (c : ℕ) → Decides (is_letter c) (IsLetter c)
is_letter_decides c = Decides-or _ _ (Decides-and _ _ (is_le 65 c) (is_le c 90)) (Decides-and _ _ (is_le 97 c) (is_le c 122))

is_key_byte_decides : (c : ℕ) → Decides (is_key_byte c) (IsKeyByte c)
is_key_byte_decides c = Decides-or _ _ (is_letter_decides c) (Decides-or _ _ (Decides-and _ _ (is_le 48 c) (is_le c 57))
    (Decides-or _ _ (is_same 46 c) (Decides-or _ _ (is_same 45 c) (Decides-or _ _ (is_same 43 c) (Decides-or _ _ (is_same 64 c) (Decides-or _ _ (is_same 95 c)
    (Decides-at _ (35 == c) (or-false (35 == c)) (is_same 35 c))))))))

is_key_decides : (key : List ℕ) → Decides (is_key key) (IsKey key)
is_key_decides [] = ((λ e. absurd (false≢true e)), (λ is. absurd (omega (arith, key_some [] is))))
is_key_decides (c ∷ key) = Decides-like _ (λ h. record { size = omega (arith, h.0); first = h.1.0; bytes = h.1.1 })
    (λ is. (omega (arith, is.size), (is.first, is.bytes)))
    (Decides-and _ _ (is_le (length key) 62) (Decides-and _ _ (is_letter_decides c)
    (Decides-by_and is_key_byte IsKeyByte (list_all is_key_byte) is_key_byte_decides refl (λ _ _. refl) (c ∷ key))))

-- ---- numbers

all_digits : (radix : ℕ) (text : List ℕ) → Decides (list_all (λ c. is_digit c radix) text) (AllDigits radix text)
all_digits radix [] = ((λ _. tt), (λ _. refl))
all_digits radix (c ∷ text) = Decides-and _ _ (Decides-ltb (digit_value c) radix) (all_digits radix text)

some_bytes : (text : List ℕ) → Decides (not (is_empty text)) (0 < length text)
some_bytes [] = ((λ e. absurd (false≢true e)), (λ lt. absurd (omega arith)))
some_bytes (c ∷ text) = ((λ _. omega arith), (λ _. refl))

-- what digits are read to
record Read (radix : ℕ) (text : List ℕ) : Type 0 where
  numeral : IsNumeral radix text
  fits : digits_value radix text < 2 ^ 64

digits_read : (radix : ℕ) (text : List ℕ) → ((number_of_digits radix text ≡ Some (digits_value radix text)) × Read radix text)
    ⊎ ((number_of_digits radix text ≡ None) × (Read radix text → ⊥))
digits_read radix text = elim (decided _ (Decides-and _ _ (some_bytes text) (Decides-and _ _ (all_digits radix text)
    (Decides-ltb (digits_value radix text) (2 ^ 64))))) [
      | inl h ↦ inl (cond-true _ _ _ h.0, record { numeral = (h.1.0, h.1.1.0); fits = h.1.1.1 })
      | inr h ↦ inr (cond-false _ _ _ h.0, λ r. h.1 (r.numeral.0, (r.numeral.1, r.fits)))
    ]

-- a numeral is read, and nothing else
abbrev pub Exact : List ℕ → Option ℕ → Type 0
Exact bytes r = MatchOption r ((n : ℕ) → SpellsNumber bytes n → ⊥) (SpellsNumber bytes)

no_hexadecimal : (text : List ℕ) → (1 < length text → slice_index text 0 ≢ 48) → (n : ℕ) → IsHexadecimal text n → ⊥
no_hexadecimal [] lead n h = h
no_hexadecimal (z ∷ []) lead n h = h
no_hexadecimal (z ∷ x ∷ text) lead n h = lead (omega arith) h.0

decimal_exact : (text : List ℕ) → (1 < length text → slice_index text 0 ≢ 48) → Exact text (number_of_digits 10 text)
decimal_exact text lead = elim (digits_read 10 text) [
  | inl h ↦ subst (Exact text) (sym h.0) (record { fits = h.1.fits; form = inl (record { digits = h.1.numeral; value = refl; no_leading_zero = lead }) })
  | inr h ↦ subst (Exact text) (sym h.0) (λ n spelled. elim spelled.form [
    | inl d ↦ h.1 (record { numeral = d.digits; fits = subst (λ (m : ℕ). m < 2 ^ 64) (sym d.value) spelled.fits })
    | inr x ↦ no_hexadecimal text lead n x
  ])
]

hexadecimal_exact : (c x : ℕ) (text : List ℕ) → c ≡ 48 → (x ≡ 120) ⊎ (x ≡ 88) → Exact (c ∷ x ∷ text) (number_of_digits 16 text)
hexadecimal_exact c x text zero_digit is_x = elim (digits_read 16 text) [
  | inl h ↦ subst (Exact (c ∷ x ∷ text)) (sym h.0) (record { fits = h.1.fits; form = inr (zero_digit, is_x, h.1.numeral, refl) })
  | inr h ↦ subst (Exact (c ∷ x ∷ text)) (sym h.0) (λ n spelled. elim spelled.form [
    | inl d ↦ d.no_leading_zero (omega arith) zero_digit
    | inr s ↦ h.1 (record { numeral = s.2; fits = subst (λ (m : ℕ). m < 2 ^ 64) (sym s.3) spelled.fits })
  ])
]

zero_exact : (c x : ℕ) (text : List ℕ) → c ≡ 48 → Exact (c ∷ x ∷ text) (number_behind_zero x text)
zero_exact c x text zero_digit = elim (decided _ (Decides-or _ _ (Decides-eqb x 120) (Decides-eqb x 88))) [
  | inl h ↦ subst (Exact (c ∷ x ∷ text)) (sym (cond-true _ _ _ h.0)) (hexadecimal_exact c x text zero_digit h.1)
  | inr h ↦ subst (Exact (c ∷ x ∷ text)) (sym (cond-false _ _ _ h.0)) (λ n spelled. elim spelled.form [
    | inl d ↦ d.no_leading_zero (omega arith) zero_digit
    | inr s ↦ h.1 s.1
  ])
]

pub number_exact : (bytes : List ℕ) → Exact bytes (number_in bytes)
number_exact [] = λ n spelled. elim spelled.form [ inl d ↦ omega (arith, d.digits.0) | inr x ↦ x ]
number_exact (c ∷ []) = decimal_exact (c ∷ []) (λ long. absurd (omega arith))
number_exact (c ∷ x ∷ text) = elim (decided (c == 48) (Decides-eqb c 48)) [
  | inl h ↦ subst (Exact (c ∷ x ∷ text)) (sym (cond-true _ _ _ h.0)) (zero_exact c x text h.1)
  | inr h ↦ subst (Exact (c ∷ x ∷ text)) (sym (cond-false _ _ _ h.0)) (decimal_exact (c ∷ x ∷ text) (λ _. h.1))
]

-- ---- values

some_items : (parts : List (List ℕ)) → Decides (not (list_any is_empty parts)) (AllByRecursion (λ item. 0 < length item) parts)
some_items [] = ((λ _. tt), (λ _. refl))
some_items ([] ∷ parts) = ((λ e. absurd (false≢true e)), (λ all. absurd (omega (arith, all.0))))
some_items ((c ∷ item) ∷ parts) = let rest = some_items parts in ((λ e. (omega arith, rest.0 e)), (λ all. rest.1 all.1))

not_true : (t : Bool) → t ≡ true → not t ≡ true → ⊥
not_true true e f = false≢true f
not_true false e f = false≢true e

value_means : (kind : Option KeyKind) (bytes : List ℕ) → MeansValue kind bytes (value_in kind bytes)
value_means (Some kinds.Number) bytes = by (number_in bytes) (number_exact bytes)
  where
    by : (r : Option ℕ) → Exact bytes r → MeansValue (Some kinds.Number) bytes (number_or_odd bytes r)
    by None never = (refl, never)
    by (Some n) spelled = spelled
value_means (Some kinds.Boolean) bytes = elim (decided _ (bytes_eq-Decides bytes (boolean_text true))) [
  | inl h ↦ subst (MeansValue (Some kinds.Boolean) bytes) (sym (cond-true _ _ _ h.0)) h.1
  | inr h ↦ subst (MeansValue (Some kinds.Boolean) bytes) (sym (cond-false _ _ _ h.0)) (elim (decided _ (bytes_eq-Decides bytes (boolean_text false))) [
    | inl k ↦ subst (MeansValue (Some kinds.Boolean) bytes) (sym (cond-true _ _ _ k.0)) k.1
    | inr k ↦ subst (MeansValue (Some kinds.Boolean) bytes) (sym (cond-false _ _ _ k.0)) (refl, neither h.1 k.1)
  ])
]
  where
    neither : (bytes ≡ boolean_text true → ⊥) → (bytes ≡ boolean_text false → ⊥) → (b : Bool) → bytes ≢ boolean_text b
    neither not_yes not_no true = not_yes
    neither not_yes not_no false = not_no
value_means (Some kinds.Items) bytes = by (list_any is_empty (parts_at 44 bytes)) refl
  where
    by : (t : Bool) → list_any is_empty (parts_at 44 bytes) ≡ t → MeansValue (Some kinds.Items) bytes (value_in (Some kinds.Items) bytes)
    by true e = subst (MeansValue (Some kinds.Items) bytes) (sym (cond-true _ _ _ e))
        (refl, λ items. not_true _ e ((some_items (parts_at 44 bytes)).1 (recursion_from_All (λ item. 0 < length item) (parts_at 44 bytes) items)))
    by false e = subst (MeansValue (Some kinds.Items) bytes) (sym (cond-false _ _ _ e))
        (refl, All-from_recursion (λ item. 0 < length item) (parts_at 44 bytes) ((some_items (parts_at 44 bytes)).0 (ap not e)))
value_means (Some kinds.Plain) bytes = refl
value_means None bytes = refl

-- ---- pairs

cut_found : (byte : ℕ) (front back : List ℕ) → AllByRecursion (λ b. b ≢ byte) front → cut_at byte (front ++ byte ∷ back) ≡ Some (front, back)
cut_found byte [] back none = cond-true (byte == byte) _ _ (eq-eqb byte byte refl)
cut_found byte (c ∷ front) back none = cond-false (c == byte) _ _ (ne_eqb c byte none.0) ∙ ap (onto_front c) (cut_found byte front back none.1)

abbrev IsCut : List ℕ → ℕ → Option (List ℕ × List ℕ) → Type 0
IsCut bytes byte r = MatchOption r (Unit {0}) (λ p. SplitsAtByte bytes byte p.0 p.1)

cut_exact : (byte : ℕ) (bytes : List ℕ) → IsCut bytes byte (cut_at byte bytes)
cut_exact byte [] = tt
cut_exact byte (c ∷ bytes) = elim (decided (c == byte) (Decides-eqb c byte)) [
  | inl h ↦ subst (IsCut (c ∷ bytes) byte) (sym (cond-true _ _ _ h.0)) (record { whole = ap (λ (b : ℕ). b ∷ bytes) h.1; first = All-nil (λ b. b ≢ byte) })
  | inr h ↦ subst (IsCut (c ∷ bytes) byte) (sym (cond-false _ _ _ h.0)) (onto (cut_at byte bytes) h.1 (cut_exact byte bytes))
]
  where
    onto : (r : Option (List ℕ × List ℕ)) → c ≢ byte → IsCut bytes byte r → IsCut (c ∷ bytes) byte (onto_front c r)
    onto None apart is = tt
    onto (Some p) apart is = record { whole = ap (λ bs. c ∷ bs) is.whole; first = All-cons (λ b. b ≢ byte) c p.0 apart is.first }

-- the entry is this pair
record IsPairOf (entry : List ℕ) (p : List ℕ × Typed) : Type 0 where
  bytes : List ℕ
  whole : entry ≡ p.0 ++ 61 ∷ bytes
  key : IsKey p.0
  means : MeansValue (kind_of p.0) bytes p.1

abbrev IsPairIn : List ℕ → Option (List ℕ × Typed) → Type 0
IsPairIn entry r = MatchOption r (Unit {0}) (IsPairOf entry)

pair_exact : (entry : List ℕ) → IsPairIn entry (pair_in entry)
pair_exact entry = by (cut_at 61 entry) (cut_exact 61 entry)
  where
    by : (r : Option (List ℕ × List ℕ)) → IsCut entry 61 r → IsPairIn entry (pair_of_cut r)
    by None is = tt
    by (Some p) is = elim (decided (is_key p.0) (is_key_decides p.0)) [
      | inl h ↦ subst (IsPairIn entry) (sym (cond-true _ _ _ h.0)) (record { bytes = p.1; whole = is.whole; key = h.1; means = value_means (kind_of p.0) p.1 })
      | inr h ↦ subst (IsPairIn entry) (sym (cond-false _ _ _ h.0)) tt
    ]

pair_found : (f : Field) → IsField f → pair_in (f.key ++ 61 ∷ f.bytes) ≡ Some (f.key, f.value)
pair_found f is =
    ap pair_of_cut (cut_found 61 f.key f.bytes (recursion_from_All (λ b. b ≢ 61) f.key (key_no_equals f.key is.key)))
    ∙ cond-true (is_key f.key) _ _ ((is_key_decides f.key).1 is.key)
    ∙ ap (λ (v : Typed). Some (f.key, v)) (one_value (kind_of f.key) f.bytes _ f.value (value_means (kind_of f.key) f.bytes) is.value)

-- ---- rows

pub has_decides : (key : List ℕ) (ps : Pairs) → Decides (has_key key ps) (0 < length (values_of key ps))
has_decides key [] = ((λ e. absurd (false≢true e)), (λ lt. absurd (omega arith)))
has_decides key (p ∷ ps) = elim (key_cases p.0 key) [
  | inl same ↦ ((λ _. omega (arith, ap length (values_of-same key p ps same))), (λ _. ap (λ b. b || has_key key ps) (bytes_eq_same p.0 key same)))
  | inr other ↦ Decides-at _ (has_key key ps) (ap (λ b. b || has_key key ps) (bytes_eq_other p.0 key other))
      (Decides-like _ (λ lt. omega (arith, ap length (values_of-other key p ps other))) (λ lt. omega (arith, ap length (values_of-other key p ps other)))
      (has_decides key ps))
]

again_decides : (p : List ℕ × Typed) (ps : Pairs) → Decides (has_key p.0 ps && not (bytes_eq p.0 target_address))
    ((0 < length (values_of p.0 ps)) × (p.0 ≢ target_address))
again_decides p ps = Decides-and _ _ (has_decides p.0 ps) (Decides-not _ (bytes_eq-Decides p.0 target_address))

-- one pair more in front
pub single_cons : (p : List ℕ × Typed) (ps : Pairs) → IsSingle ps → ((0 < length (values_of p.0 ps)) × (p.0 ≢ target_address) → ⊥) → IsSingle (p ∷ ps)
single_cons p ps single new key other = elim (key_cases p.0 key) [
  | inl same ↦ elim (cases_lt 0 (length (values_of p.0 ps))) [
    | inl some ↦ absurd (new (some, λ is. other (sym same ∙ is)))
    | inr none ↦ omega (arith, ap length (values_of-same key p ps same), none, ap (λ k. length (values_of k ps)) same)
  ]
  | inr apart ↦ omega (arith, ap length (values_of-other key p ps apart), single key other)
]

single_first : (p : List ℕ × Typed) (ps : Pairs) → IsSingle (p ∷ ps) → (0 < length (values_of p.0 ps)) × (p.0 ≢ target_address) → ⊥
single_first p ps single again = omega (arith, again.0, single p.0 again.1, ap length (values_of-same p.0 p ps refl))

pub single_rest : (p : List ℕ × Typed) (ps : Pairs) → IsSingle (p ∷ ps) → IsSingle ps
single_rest p ps single key other = elim (key_cases p.0 key) [
  | inl same ↦ omega (arith, ap length (values_of-same key p ps same), single key other)
  | inr apart ↦ omega (arith, ap length (values_of-other key p ps apart), single key other)
]

not_again : (p : List ℕ × Typed) (ps : Pairs) → IsSingle (p ∷ ps) → added (Some p) (Some ps) ≡ Some (p ∷ ps)
not_again p ps single = elim (decided _ (again_decides p ps)) [
  | inl h ↦ absurd (single_first p ps single h.1)
  | inr h ↦ cond-false _ _ _ h.0
]

-- the parts of a row: the first is an entry, and others are behind it
some_parts : (bytes : List ℕ) → 0 < length (parts_at 0 bytes)
some_parts bytes = omega (arith, length-slice_split (λ (b : ℕ). b == 0) bytes)

spare_part : (parts : List (List ℕ)) → 0 < length parts → pairs_in ([] ∷ parts) ≡ pairs_in parts
spare_part [] some = absurd (omega arith)
spare_part (next ∷ parts) some = refl

pair_part : (part : List ℕ) (parts : List (List ℕ)) → 0 < length part → 0 < length parts → pairs_in (part ∷ parts) ≡ added (pair_in part) (pairs_in parts)
pair_part [] parts some more = absurd (omega arith)
pair_part (c ∷ part) [] some more = absurd (omega arith)
pair_part (c ∷ part) (next ∷ parts) some more = refl

field_part : (f : Field) (rest : List ℕ) → IsField f → parts_at 0 (entry_bytes (Some f) ++ rest) ≡ (f.key ++ 61 ∷ f.bytes) ∷ parts_at 0 rest
field_part f rest is =
    ap (parts_at 0) (append_assoc (f.key ++ 61 ∷ f.bytes) (0 ∷ []) rest)
    ∙ slice_split_at (λ (b : ℕ). b == 0) (f.key ++ 61 ∷ f.bytes) 0 rest (λ k d lt. ne_eqb _ 0 (field_no_zero f is k d lt)) refl

row_read : (es : List (Option Field)) → AllByRecursion IsTextEntry es → IsSingle (pairs_of es) → pairs_in (parts_at 0 (flat_map entry_bytes es))
    ≡ Some (pairs_of es)
row_read [] each single = refl
row_read (None ∷ es) each single = spare_part (parts_at 0 (flat_map entry_bytes es)) (some_parts (flat_map entry_bytes es)) ∙ row_read es each.1 single
row_read (Some f ∷ es) each single =
    let rest = flat_map entry_bytes es in
    ap pairs_in (field_part f rest each.0)
    ∙ pair_part (f.key ++ 61 ∷ f.bytes) (parts_at 0 rest) (omega (arith, length-append f.key (61 ∷ f.bytes))) (some_parts rest)
    ∙ ap (λ p. added p (pairs_in (parts_at 0 rest))) (pair_found f each.0)
    ∙ ap (added (Some (f.key, f.value))) (row_read es each.1 (single_rest (f.key, f.value) (pairs_of es) single))
    ∙ not_again (f.key, f.value) (pairs_of es) single

-- the bytes are a row with these pairs
record IsRow (bytes : List ℕ) (ps : Pairs) : Type 0 where
  entries : List (Option Field)
  spelled : bytes ≡ flat_map entry_bytes entries
  each : AllByRecursion IsTextEntry entries
  single : IsSingle (pairs_of entries)
  pairs : pairs_of entries ≡ ps

abbrev IsRowIn : List ℕ → Option Pairs → Type 0
IsRowIn bytes r = MatchOption r (Unit {0}) (IsRow bytes)

no_row : IsRow [] []
no_row = record { entries = []; spelled = refl; each = tt; single = λ key other. omega arith; pairs = refl }

spare_row : (bytes : List ℕ) (r : Option Pairs) → IsRowIn bytes r → IsRowIn (0 ∷ bytes) r
spare_row bytes None is = tt
spare_row bytes (Some ps) is = record {
  entries = None ∷ is.entries;
  spelled = ap (λ bs. 0 ∷ bs) is.spelled;
  each = (tt, is.each);
  single = is.single;
  pairs = is.pairs;
}

pair_row : (part bytes : List ℕ) (o : Option (List ℕ × Typed)) (r : Option Pairs) → HasNo 0 part → IsPairIn part o → IsRowIn bytes r →
    IsRowIn (part ++ 0 ∷ bytes) (added o r)
pair_row part bytes None r none is row = tt
pair_row part bytes (Some p) None none is row = tt
pair_row part bytes (Some p) (Some ps) none is row = elim (decided _ (again_decides p ps)) [
  | inl h ↦ subst (IsRowIn (part ++ 0 ∷ bytes)) (sym (cond-true _ _ _ h.0)) tt
  | inr h ↦ subst (IsRowIn (part ++ 0 ∷ bytes)) (sym (cond-false _ _ _ h.0)) (
      let f : Field = record { key = p.0; bytes = is.bytes; value = p.1 } in
      record {
        entries = Some f ∷ row.entries;
        spelled = ap (λ bs. part ++ 0 ∷ bs) row.spelled ∙ ap (λ bs. bs ++ 0 ∷ flat_map entry_bytes row.entries) is.whole
            ∙ sym (append_assoc (p.0 ++ 61 ∷ is.bytes) (0 ∷ []) (flat_map entry_bytes row.entries));
        each = (record { key = is.key; ends = (no_parts part p.0 is.bytes none is.whole).1; value = is.means }, row.each);
        single = subst (λ qs. IsSingle (p ∷ qs)) (sym row.pairs) (single_cons p ps (subst IsSingle row.pairs row.single) h.1);
        pairs = ap (λ qs. p ∷ qs) row.pairs;
      })
]

row_exact : (parts : List (List ℕ)) → AllByRecursion (HasNo 0) parts → IsRowIn (join_with_byte 0 parts) (pairs_in parts)
row_exact [] all = no_row
row_exact ([] ∷ []) all = no_row
row_exact ((c ∷ part) ∷ []) all = tt
row_exact ([] ∷ next ∷ parts) all = spare_row (join_with_byte 0 (next ∷ parts)) (pairs_in (next ∷ parts)) (row_exact (next ∷ parts) all.1)
row_exact ((c ∷ part) ∷ next ∷ parts) all =
    pair_row (c ∷ part) (join_with_byte 0 (next ∷ parts)) (pair_in (c ∷ part)) (pairs_in (next ∷ parts)) all.0 (pair_exact (c ∷ part))
    (row_exact (next ∷ parts) all.1)

parts_end : (bytes : List ℕ) → AllByRecursion (HasNo 0) (parts_at 0 bytes)
parts_end [] = (All-nil (λ b. b ≢ 0), tt)
parts_end (c ∷ bytes) = elim (decided (c == 0) (Decides-eqb c 0)) [
  | inl h ↦ subst (AllByRecursion (HasNo 0)) (sym (cond-true _ _ _ h.0)) (All-nil (λ b. b ≢ 0), parts_end bytes)
  | inr h ↦ subst (AllByRecursion (HasNo 0)) (sym (cond-false _ _ _ h.0)) (onto (parts_at 0 bytes) h.1 (parts_end bytes))
]
  where
    onto : (parts : List (List ℕ)) → c ≢ 0 → AllByRecursion (HasNo 0) parts → AllByRecursion (HasNo 0) (onto_first c parts)
    onto [] apart all = (All-cons (λ b. b ≢ 0) c [] apart (All-nil (λ b. b ≢ 0)), tt)
    onto (part ∷ parts) apart all = (All-cons (λ b. b ≢ 0) c part apart all.0, all.1)

-- ---- texts

abbrev pub IsThere : Option Pairs → Type 0
IsThere None = ⊥
IsThere (Some ps) = Unit {0}

-- what is read is meant
pub read_means : (bytes : List ℕ) (m : Pairs) → text_in bytes ≡ Some m → TextMeans bytes m
read_means bytes m read = by (pairs_in (parts_at 0 bytes)) (subst (λ bs. IsRowIn bs (pairs_in (parts_at 0 bytes))) (join_with_byte-slice_split 0 bytes)
    (row_exact (parts_at 0 bytes) (parts_end bytes))) read
  where
    by : (r : Option Pairs) → IsRowIn bytes r → option_map in_order r ≡ Some m → TextMeans bytes m
    by None row read = absurd (subst IsThere (sym read) tt)
    by (Some ps) row read =
        let is : in_order ps ≡ m = cc in
        subst (TextMeans bytes) is (record {
          entries = row.entries;
          row = record { spelled = row.spelled ∙ sym (append-nil (flat_map entry_bytes row.entries)); each = row.each; single = row.single };
          arranges = record { in_order = in_order_is ps; same = λ key. values_in_order key ps ∙ ap (values_of key) (sym row.pairs) };
        })

-- and what is meant is read
pub means_read : (bytes : List ℕ) (m : Pairs) → TextMeans bytes m → text_in bytes ≡ Some m
means_read bytes m means =
    let ps = pairs_of means.entries in
    ap text_in (means.row.spelled ∙ append-nil (flat_map entry_bytes means.entries))
    ∙ ap (option_map in_order) (row_read means.entries means.row.each means.row.single)
    ∙ ap (λ (qs : Pairs). Some qs) (one_order (in_order ps) m (in_order_is ps) means.arranges.in_order (λ key. values_in_order key ps
    ∙ sym (means.arranges.same key)))

-- What bytes mean as a text, computed from them (RFC 7143, section 6.1). That this is `TextMeans`
-- is the law `reading_is_meaning`.
use Rattle.std.specs.Prelude.{ℕ, ◌^◌, Bool, true, false, not, ◌==◌, ◌&&◌, ◌||◌, nat_lt, nat_le, if◌then◌else◌, List, [], ◌∷◌, length, Option, Some, None, option_map, codes}
use Rattle.std.specs.List.{list_any, list_all, slice_split}
use Rattle.std.specs.Char.{is_digit}
use Rattle.std.specs.Str.{bytes_eq}
use Rattle.std.specs.Str.Parse.{digits_value}
use Rattle.iscsi_text.specs.declared.key.KeyKind.{KeyKind}
use Rattle.iscsi_text.specs.declared.key.KeyKind.TheVariants as kinds
use Rattle.iscsi_text.specs.Key.{kind_of, target_address}
use Rattle.iscsi_text.specs.Value.{Typed, Number, Boolean, Items, Plain, Odd, boolean_text}
use Rattle.iscsi_text.specs.Text.{Pairs, key_le}

-- Nothing stands there, as in a spare byte's entry or an empty item (section 6.1).
abbrev pub is_empty : List ℕ → Bool
is_empty [] = true
is_empty (c ∷ bytes) = false

-- The parts between the places of a byte: 0 ends a pair, a comma an item (section 6.1).
abbrev pub parts_at : ℕ → List ℕ → List (List ℕ)
parts_at byte bytes = slice_split (λ b. b == byte) bytes

-- One byte more before the first of two parts, where there are two (section 6.1).
abbrev pub onto_front : ℕ → Option (List ℕ × List ℕ) → Option (List ℕ × List ℕ)
onto_front c None = None
onto_front c (Some p) = Some (c ∷ p.0, p.1)

-- What stands before a byte's first place, and behind it: `=` ends a key (section 6.1).
abbrev pub cut_at : ℕ → List ℕ → Option (List ℕ × List ℕ)
cut_at byte [] = None
cut_at byte (c ∷ bytes) = if c == byte then Some ([], bytes) else onto_front c (cut_at byte bytes)

-- ---- values

-- The number that digits in this radix write, where they are digits and it has 64 bits (section
-- 6.1).
abbrev pub number_of_digits : ℕ → List ℕ → Option ℕ
number_of_digits radix text =
    if not (is_empty text)
    && (list_all (λ c. is_digit c radix) text && nat_lt (digits_value radix text) (2 ^ 64))
    then Some (digits_value radix text) else None

-- The number behind a first `0`, whose next byte this is (section 6.1).
abbrev pub number_behind_zero : ℕ → List ℕ → Option ℕ
number_behind_zero x text = if (x == 120) || (x == 88) then number_of_digits 16 text else None

-- The number that bytes spell (section 6.1).
abbrev pub number_in : List ℕ → Option ℕ
number_in [] = None
number_in (c ∷ []) = number_of_digits 10 (c ∷ [])
number_in (c ∷ x ∷ text) = if c == 48 then number_behind_zero x text
    else number_of_digits 10 (c ∷ x ∷ text)

-- The number, or the bytes as they are (own rule).
abbrev pub number_or_odd : List ℕ → Option ℕ → Typed
number_or_odd bytes None = Odd bytes
number_or_odd bytes (Some n) = Number n

-- What bytes mean behind a key of this kind (section 6.1).
abbrev pub value_in : Option KeyKind → List ℕ → Typed
value_in (Some kinds.Number) bytes = number_or_odd bytes (number_in bytes)
value_in (Some kinds.Boolean) bytes =
    if bytes_eq bytes (boolean_text true) then Boolean true else (
    if bytes_eq bytes (boolean_text false) then Boolean false else Odd bytes)
value_in (Some kinds.Items) bytes = if list_any is_empty (parts_at 44 bytes) then Odd bytes
    else Items bytes
value_in (Some kinds.Plain) bytes = Plain bytes
value_in None bytes = Plain bytes

-- ---- keys

-- A letter of ASCII (section 6.1).
abbrev pub is_letter : ℕ → Bool
is_letter c = (nat_le 65 c && nat_le c 90) || (nat_le 97 c && nat_le c 122)

-- A byte that a key may have (section 6.1).
abbrev pub is_key_byte : ℕ → Bool
is_key_byte c = is_letter c || ((nat_le 48 c && nat_le c 57)
    || list_any (λ n. n == c) (codes ".-+@_#"))

-- The bytes may stand as a key (section 6.1).
abbrev pub is_key : List ℕ → Bool
is_key [] = false
is_key (c ∷ key) = nat_le (length key) 62 && (is_letter c && list_all is_key_byte (c ∷ key))

-- ---- pairs

-- The key and the value that an entry's two sides mean (section 6.1).
abbrev pub pair_of_cut : Option (List ℕ × List ℕ) → Option (List ℕ × Typed)
pair_of_cut None = None
pair_of_cut (Some p) = if is_key p.0 then Some (p.0, value_in (kind_of p.0) p.1) else None

-- The key and the value of an entry without its final 0 (section 6.1).
abbrev pub pair_in : List ℕ → Option (List ℕ × Typed)
pair_in entry = pair_of_cut (cut_at 61 entry)

-- The key stands among the pairs (section 6.1).
abbrev pub has_key : List ℕ → Pairs → Bool
has_key key pairs = list_any (λ p. bytes_eq p.0 key) pairs

-- One pair more in front, unless its key may not stand again (sections 6.2 and 13.8).
abbrev pub added : Option (List ℕ × Typed) → Option Pairs → Option Pairs
added None pairs = None
added (Some p) None = None
added (Some p) (Some pairs) =
    if has_key p.0 pairs && not (bytes_eq p.0 target_address) then None else Some (p ∷ pairs)

-- The pairs of a row's parts, of which the last is what stands behind the last 0 (section 6.1).
abbrev pub pairs_in : List (List ℕ) → Option Pairs
pairs_in [] = Some []
pairs_in (part ∷ []) = if is_empty part then Some [] else None
pairs_in (part ∷ next ∷ parts) = if is_empty part then pairs_in (next ∷ parts)
    else added (pair_in part) (pairs_in (next ∷ parts))

-- ---- order

-- The pair before the first whose key isn't less.
abbrev pub placed : List ℕ × Typed → Pairs → Pairs
placed pair [] = pair ∷ []
placed pair (p ∷ pairs) = if key_le pair.0 p.0 then pair ∷ p ∷ pairs else p ∷ placed pair pairs

-- The pairs in the order of their keys.
abbrev pub in_order : Pairs → Pairs
in_order [] = []
in_order (p ∷ pairs) = placed p (in_order pairs)

-- The map that bytes mean as a text, where they are one (section 6.1).
abbrev pub text_in : List ℕ → Option Pairs
text_in bytes = option_map in_order (pairs_in (parts_at 0 bytes))

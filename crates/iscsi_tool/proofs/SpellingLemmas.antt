-- Digits that were written, and the bytes that they spell.
use Rattle.std.proofs.Common.{true, false, ◌≡◌, ℕ, zero, suc, ◌+◌, ◌-◌, ◌*◌, ◌/◌, ◌%◌, ◌<◌, ◌≤◌, Bool, List, [], ◌∷◌, ◌++◌}
use Rattle.std.proofs.Common.{length, take, drop, Option, Some, None, Result, Ok, Err, refl, sym, ap, subst, ◌∙◌, append_assoc, arith, slice_index}
use Rattle.std.proofs.Common.{slice_index_or, ltb}
use Rattle.std.specs.Prelude.{if◌then◌else◌}
use Rattle.std.specs.Option.{option_map}
use Rattle.std.specs.Str.{bytes_eq}
use Rattle.std.proofs.lemmas.Slice.Eq.{bytes_eq-Decides}
use Rattle.std.proofs.lemmas.List.{length-append, take_all, take_more, take-append-drop}
use Rattle.std.proofs.lemmas.Bool.{lt-ltb, le-ltb}
use Rattle.std.proofs.Math.Seq.{take-append_seam}
use Rattle.std.specs.Io.KnownBytes.{Appends, Keeps}
use Rattle.std.proofs.KnownBytes.{Appends-trans}
use Rattle.hex.specs.Hex.{IsBytes, decode_of, encode_lower, encode_with, lower_digits}
use Rattle.hex.specs.declared.error.FromHexError.{FromHexError}
use Rattle.hex.proofs.HexLemmas.{length-encode_with, decode_of-encode_lower, decode_of-ok}
use Rattle.iscsi_tool.specs.Spelling.{if_spelled, spelled_by, marked_from, marked_digits, without_last, whole_digits, hex_contents, lent_contents}
use Rattle.iscsi_tool.specs.declared.hex_writer.HexWriter.{HexWriter}
use Rattle.iscsi_tool.specs.declared.hex_writer.LentWriter.{LentWriter}

-- ---- digits

pub encode-append : (xs ys : List ℕ) → encode_lower (xs ++ ys) ≡ encode_lower xs ++ encode_lower ys
unfolding encode_with
encode-append [] ys = refl
encode-append (b ∷ xs) ys =
    ap (λ (l : List ℕ). slice_index lower_digits (b / 16) ∷ slice_index lower_digits (b % 16) ∷ l) (encode-append xs ys)

pub encode-take : (n : ℕ) (xs : List ℕ) → take (2 * n) (encode_lower xs) ≡ encode_lower (take n xs)
unfolding encode_with
encode-take zero xs = refl
encode-take (suc n) [] = take_all {A = ℕ} (2 * suc n) [] (omega arith)
encode-take (suc n) (b ∷ xs) =
    let two : 2 * suc n ≡ suc (suc (2 * n)) = omega arith in
    rw two (ap (λ (l : List ℕ). slice_index lower_digits (b / 16) ∷ slice_index lower_digits (b % 16) ∷ l) (encode-take n xs))

pub encode-length : (xs : List ℕ) → length (encode_lower xs) ≡ 2 * length xs
encode-length xs = length-encode_with lower_digits xs

-- ---- the bytes that a text spells

-- the lower-case digits of bytes spell these bytes
pub spelled-encode : (bytes : List ℕ) → IsBytes bytes → spelled_by (encode_lower bytes) ≡ Some bytes
spelled-encode bytes h =
    let same = (bytes_eq-Decides (encode_lower bytes) (encode_lower bytes)).1 refl in
    rw (decode_of-encode_lower bytes h, same) refl

if_spelled-is : (text : List ℕ) (r : Result (List ℕ) FromHexError) (bytes : List ℕ) → decode_of text ≡ r → if_spelled text r ≡ Some bytes
    → (encode_lower bytes ≡ text) × IsBytes bytes
if_spelled-is text (Ok found) bytes d e = go (bytes_eq (encode_lower found) text) refl e
  where
    go : (b : Bool) → bytes_eq (encode_lower found) text ≡ b → (if b then Some found else None) ≡ Some bytes → (encode_lower bytes ≡ text) × IsBytes bytes
    go true same is =
        let one : found ≡ bytes = cc is in
        let digits : encode_lower found ≡ text = (bytes_eq-Decides (encode_lower found) text).0 same in
        (subst (λ (x : List ℕ). encode_lower x ≡ text) one digits, subst (λ (x : List ℕ). IsBytes x) one (decode_of-ok text found d).3)
    go false same is = absurd (cc is)
if_spelled-is text (Err fault) bytes d e = absurd (cc e)

-- a text that spells bytes is their lower-case digits
pub spelled-is : (text bytes : List ℕ) → spelled_by text ≡ Some bytes → (encode_lower bytes ≡ text) × IsBytes bytes
spelled-is text bytes e = if_spelled-is text (decode_of text) bytes refl e

-- ---- bytes

take_within : (i k : ℕ) (xs : List ℕ) → i ≤ length (take k xs) → take i (take k xs) ≡ take i xs
take_within zero k xs h = refl
take_within (suc i) zero xs h = absurd (omega (arith, h))
take_within (suc i) (suc k) [] h = refl
take_within (suc i) (suc k) (x ∷ xs) h = ap (λ (l : List ℕ). x ∷ l) (take_within i k xs (omega (arith, h)))

pub bytes_front : (n : ℕ) (bytes : List ℕ) → IsBytes bytes → IsBytes (take n bytes)
bytes_front zero bytes h i = omega arith
bytes_front (suc n) [] h i = h i
bytes_front (suc n) (b ∷ bytes) h zero = h zero
bytes_front (suc n) (b ∷ bytes) h (suc i) = bytes_front n bytes (λ k. h (suc k)) i

bytes_both : (xs ys : List ℕ) → IsBytes xs → IsBytes ys → IsBytes (xs ++ ys)
bytes_both [] ys h k i = k i
bytes_both (x ∷ xs) ys h k zero = h zero
bytes_both (x ∷ xs) ys h k (suc i) = bytes_both xs ys (λ j. h (suc j)) k i

-- ---- digits behind a text

-- a text that spells no bytes does not spell any with digits behind it
spelled-none : (text bytes found : List ℕ) → spelled_by text ≡ None → encode_lower found ≡ text ++ encode_lower bytes → IsBytes found → ⊥
spelled-none text bytes found none e h =
    let m : ℕ = length found - length bytes in
    let len : length text ≡ 2 * m = omega (arith, ap length e, encode-length found, encode-length bytes, length-append text (encode_lower bytes)) in
    let front : encode_lower (take m found) ≡ text =
    sym (encode-take m found) ∙ ap (take (2 * m)) e
    ∙ ap (λ (n : ℕ). take n (text ++ encode_lower bytes)) (sym len) ∙ take-append_seam text (encode_lower bytes) in
    let some = spelled-encode (take m found) (bytes_front m found h) in
    let both : None ≡ Some (take m found) = sym none ∙ ap spelled_by (sym front) ∙ some in
    cc both

-- the bytes that a text spells with the digits of bytes behind it
spelled_more : List ℕ → Option (List ℕ) → Option (List ℕ)
spelled_more bytes (Some front) = Some (front ++ bytes)
spelled_more bytes None = None

spelled-more : (text bytes : List ℕ) → IsBytes bytes → spelled_by (text ++ encode_lower bytes) ≡ spelled_more bytes (spelled_by text)
unfolding spelled_more
spelled-more text bytes h = go (spelled_by text) refl
  where
    at_none : spelled_by text ≡ None → (r : Option (List ℕ)) → spelled_by (text ++ encode_lower bytes) ≡ r → r ≡ None
    at_none none None e = refl
    at_none none (Some found) e =
        let p = spelled-is (text ++ encode_lower bytes) found e in
        absurd (spelled-none text bytes found none p.0 p.1)

    go : (r : Option (List ℕ)) → spelled_by text ≡ r → spelled_by (text ++ encode_lower bytes) ≡ spelled_more bytes r
    go (Some front) e =
        let p = spelled-is text front e in
        let all : text ++ encode_lower bytes ≡ encode_lower (front ++ bytes) =
        ap (λ (x : List ℕ). x ++ encode_lower bytes) (sym p.0) ∙ sym (encode-append front bytes) in
        ap spelled_by all ∙ spelled-encode (front ++ bytes) (bytes_both front bytes p.1 h)
    go None e = at_none e (spelled_by (text ++ encode_lower bytes)) refl

-- digits behind a text are bytes behind what it stands for
pub marked-more : (text bytes : List ℕ) → IsBytes bytes → marked_digits (text ++ encode_lower bytes) ≡ marked_digits text ++ bytes
unfolding marked_digits encode_with spelled_more
marked-more [] [] h = refl
marked-more [] (b ∷ bytes) h = rw (spelled-encode (b ∷ bytes) h) refl
marked-more (c ∷ text) bytes h = go (marked-more text bytes h) (spelled_by (c ∷ text)) refl
  where
    more : spelled_by (c ∷ text ++ encode_lower bytes) ≡ spelled_more bytes (spelled_by (c ∷ text))
    more = spelled-more (c ∷ text) bytes h

    go : marked_digits (text ++ encode_lower bytes) ≡ marked_digits text ++ bytes → (r : Option (List ℕ)) → spelled_by (c ∷ text) ≡ r
        → marked_from c (marked_digits (text ++ encode_lower bytes)) (spelled_by (c ∷ text ++ encode_lower bytes)) ≡ marked_from c (marked_digits text) r
        ++ bytes
    go others (Some front) e = rw (more, e) refl
    go others None e = rw (more, e) (ap (λ (l : List ℕ). (256 + c) ∷ l) others)

-- ---- the text that bytes and marked characters stand for

abbrev unmark : ℕ → List ℕ
unmark n = if ltb n 256 then encode_lower (n ∷ []) else (n - 256) ∷ []

abbrev unmarked : List ℕ → List ℕ
unmarked [] = []
unmarked (n ∷ ns) = unmark n ++ unmarked ns

unmarked-bytes : (bytes : List ℕ) → IsBytes bytes → unmarked bytes ≡ encode_lower bytes
unfolding encode_with
unmarked-bytes [] h = refl
unmarked-bytes (b ∷ bytes) h =
    rw (lt-ltb b 256 (h zero)) (ap (λ (l : List ℕ). encode_lower (b ∷ []) ++ l) (unmarked-bytes bytes (λ i. h (suc i))))

unmark-marked : (c : ℕ) → unmark (256 + c) ≡ c ∷ []
unmark-marked c =
    let no : ltb (256 + c) 256 ≡ false = le-ltb (256 + c) 256 (omega arith) in
    let back : 256 + c - 256 ≡ c = omega arith in
    rw (no, back) refl

pub unmarked-marked : (text : List ℕ) → unmarked (marked_digits text) ≡ text
unfolding marked_digits
unmarked-marked [] = refl
unmarked-marked (c ∷ text) = go (unmarked-marked text) (spelled_by (c ∷ text)) refl
  where
    go : unmarked (marked_digits text) ≡ text → (r : Option (List ℕ)) → spelled_by (c ∷ text) ≡ r → unmarked (marked_from c (marked_digits text) r) ≡ c ∷ text
    go others (Some front) e =
        let p = spelled-is (c ∷ text) front e in
        unmarked-bytes front p.1 ∙ p.0
    go others None e = ap (λ (l : List ℕ). l ++ unmarked (marked_digits text)) (unmark-marked c) ∙ ap (λ (l : List ℕ). c ∷ l) others

-- ---- what a writer holds

-- digits that were written behind known ones are bytes that were written
pub marked_grows : (a b : Option (List ℕ)) (bytes : List ℕ) → IsBytes bytes → Appends a b (encode_lower bytes)
    → Appends (option_map marked_digits a) (option_map marked_digits b) bytes
marked_grows None b bytes h p = tt
marked_grows (Some x) None bytes h p = absurd p
marked_grows (Some x) (Some y) bytes h p = ap marked_digits p ∙ marked-more x bytes h

-- bytes that were written are digits that were written behind known ones
pub marked_grew : (a b : Option (List ℕ)) (bytes : List ℕ) → IsBytes bytes → Appends (option_map marked_digits a) (option_map marked_digits b) bytes
    → Appends a b (encode_lower bytes)
marked_grew None b bytes h p = tt
marked_grew (Some x) None bytes h p = absurd p
marked_grew (Some x) (Some y) bytes h p =
    let same : marked_digits y ≡ marked_digits (x ++ encode_lower bytes) = p ∙ sym (marked-more x bytes h) in
    sym (unmarked-marked y) ∙ ap unmarked same ∙ unmarked-marked (x ++ encode_lower bytes)

-- ---- the digits of a piece

pub even_digits : (k n : ℕ) (bytes digits : List ℕ) → digits ≡ encode_lower (take k bytes) → n ≤ length digits → n % 2 ≡ 0
    → take n digits ≡ encode_lower (take (n / 2) bytes)
even_digits k n bytes digits is fits even =
    let twice : n ≡ 2 * (n / 2) = omega arith in
    let half : n / 2 ≤ length (take k bytes) = omega (arith, encode-length (take k bytes), ap length is) in
    ap (take n) is ∙ ap (λ (m : ℕ). take m (encode_lower (take k bytes))) twice ∙ encode-take (n / 2) (take k bytes)
    ∙ ap encode_lower (take_within (n / 2) k bytes half)

pub odd_digits : (k n : ℕ) (bytes digits : List ℕ) → digits ≡ encode_lower (take k bytes) → n ≤ length digits → n % 2 ≡ 1
    → take n digits ++ slice_index_or digits n 0 ∷ [] ≡ encode_lower (take (n / 2 + 1) bytes)
odd_digits k n bytes digits is fits odd =
    let len = encode-length (take k bytes) in
    let same = ap length is in
    let below : n < length digits = omega (arith, len, same) in
    let half : (n + 1) / 2 ≡ n / 2 + 1 = omega arith in
    sym (take_more digits n 0 below) ∙ even_digits k (n + 1) bytes digits is (omega arith) (omega arith) ∙ ap (λ (m : ℕ). encode_lower (take m bytes)) half

-- an even number of digits was written
pub even_written : (a b : Option (List ℕ)) (k n : ℕ) (bytes digits : List ℕ) → Appends a b (take n digits)
    → digits ≡ encode_lower (take k bytes) → n ≤ length digits → n % 2 ≡ 0
    → Appends a b (encode_lower (take (n / 2) bytes))
even_written a b k n bytes digits p is fits even = subst (λ (l : List ℕ). Appends a b l) (even_digits k n bytes digits is fits even) p

-- an odd number of digits was written, and then the next one
pub odd_written : (a b c : Option (List ℕ)) (k n : ℕ) (bytes digits : List ℕ) → Appends a b (take n digits) → Appends b c (slice_index_or digits n 0 ∷ [])
    → digits ≡ encode_lower (take k bytes) → n ≤ length digits → n % 2 ≡ 1 → Appends a c (encode_lower (take (n / 2 + 1) bytes))
odd_written a b c k n bytes digits p q is fits odd =
    subst (λ (l : List ℕ). Appends a c l) (odd_digits k n bytes digits is fits odd) (Appends-trans a b c (take n digits) (slice_index_or digits n 0 ∷ []) p q)

without_last-snoc : (xs : List ℕ) (x : ℕ) → without_last (xs ++ x ∷ []) ≡ xs
without_last-snoc xs x =
    let len : length (xs ++ x ∷ []) - 1 ≡ length xs = omega (arith, length-append xs (x ∷ [])) in
    ap (λ (n : ℕ). take n (xs ++ x ∷ [])) len ∙ take-append_seam xs (x ∷ [])

-- an odd number of digits was written, and not the next one
pub cut_written : (a b c : Option (List ℕ)) (k n : ℕ) (bytes digits : List ℕ) → Appends a b (take n digits) → Keeps b c
    → digits ≡ encode_lower (take k bytes) → n ≤ length digits → n % 2 ≡ 1 → Appends a (option_map without_last c) (encode_lower (take (n / 2) bytes))
cut_written None b c k n bytes digits p q is fits odd = tt
cut_written (Some x) None c k n bytes digits p q is fits odd = absurd p
cut_written (Some x) (Some y) None k n bytes digits p q is fits odd = absurd q
cut_written (Some x) (Some y) (Some z) k n bytes digits p q is fits odd =
    let m : ℕ = n - 1 in
    let next : n ≡ m + 1 = omega (arith, odd) in
    let half : m / 2 ≡ n / 2 = omega (arith, odd) in
    let front : take m digits ≡ encode_lower (take (n / 2) bytes) =
    even_digits k m bytes digits is (omega arith) (omega (arith, odd)) ∙ ap (λ (i : ℕ). encode_lower (take i bytes)) half in
    let one : take n digits ≡ take m digits ++ slice_index_or digits m 0 ∷ [] = ap (λ (i : ℕ). take i digits) next ∙ take_more digits m 0 (omega arith) in
    let all : z ≡ (x ++ take m digits) ++ slice_index_or digits m 0 ∷ [] =
    q ∙ p ∙ ap (λ (l : List ℕ). x ++ l) one ∙ sym (append_assoc x (take m digits) (slice_index_or digits m 0 ∷ [])) in
    ap without_last all ∙ without_last-snoc (x ++ take m digits) (slice_index_or digits m 0) ∙ ap (λ (l : List ℕ). x ++ l) front

without_last-cons : (n c : ℕ) (y : List ℕ) → without_last (n ∷ c ∷ y) ≡ n ∷ take (length y) (c ∷ y)
without_last-cons n c y =
    let len : length (n ∷ c ∷ y) - 1 ≡ suc (length y) = omega arith in
    ap (λ (k : ℕ). take k (n ∷ c ∷ y)) len

-- ---- a writer that is lent

-- a lent writer that took digits is the same one
pub lent_same : (m n : ℕ) (x : List ℕ) (b : Option (List ℕ)) (is_cut : Bool) (digits : List ℕ)
    → Appends (Some (m ∷ x)) (whole_digits is_cut (option_map (λ c. n ∷ c) b)) digits → n ≡ m
lent_same m n x None true digits p = absurd p
lent_same m n x None false digits p = absurd p
lent_same m n x (Some y) false digits p = ap (λ (l : List ℕ). slice_index l 0) p
lent_same m n x (Some []) true digits p = absurd (cc p)
lent_same m n x (Some (c ∷ y)) true digits p = ap (λ (l : List ℕ). slice_index l 0) (sym (without_last-cons n c y) ∙ p)

-- what it took
abbrev pub lent_took : Bool → Option (List ℕ) → List ℕ → List ℕ
lent_took true (Some y) digits = digits ++ drop (length y - 1) y
lent_took true None digits = digits
lent_took false b digits = digits

pub lent_grew : (m n : ℕ) (a b : Option (List ℕ)) (is_cut : Bool) (digits : List ℕ)
    → Appends (option_map (λ c. m ∷ c) a) (whole_digits is_cut (option_map (λ c. n ∷ c) b)) digits → Appends a b (lent_took is_cut b digits)
lent_grew m n None b is_cut digits p = tt
lent_grew m n (Some x) None true digits p = absurd p
lent_grew m n (Some x) None false digits p = absurd p
lent_grew m n (Some x) (Some y) false digits p = ap (drop {A = ℕ} 1) p
lent_grew m n (Some x) (Some []) true digits p = absurd (cc p)
lent_grew m n (Some x) (Some (c ∷ y)) true digits p =
    let front : take (length y) (c ∷ y) ≡ x ++ digits = ap (drop {A = ℕ} 1) (sym (without_last-cons n c y) ∙ p) in
    let len : length (c ∷ y) - 1 ≡ length y = omega arith in
    sym (take-append-drop (length y) (c ∷ y)) ∙ ap (λ (l : List ℕ). l ++ drop (length y) (c ∷ y)) front ∙ append_assoc x digits (drop (length y) (c ∷ y))
    ∙ ap (λ (k : ℕ). x ++ (digits ++ drop k (c ∷ y))) (sym len)

-- The bytes that a writer of digits took are digits, and perhaps a cut one, that the writer took which
-- is lent to it. What was then written to the lent writer comes behind these digits.
pub through_lent : {W : Type 0} (contents : W → Option (List ℕ)) (start after : HexWriter (LentWriter W)) (a z last : Option (List ℕ))
    (bytes ending : List ℕ) → IsBytes bytes
    → start.is_cut ≡ false → contents start.inner.writer.now ≡ a
    → Appends (hex_contents (lent_contents contents) start) (hex_contents (lent_contents contents) after) bytes
    → (after.inner.writer.ghost_name ≡ start.inner.writer.ghost_name → z ≡ last)
    → Appends (contents after.inner.writer.now) last ending
    → Appends a z (lent_took after.is_cut (contents after.inner.writer.now) (encode_lower bytes) ++ ending)
through_lent contents start after None z last bytes ending h whole begin p same more = tt
through_lent contents start after (Some x) z last bytes ending h whole begin p same more =
    let m : ℕ = start.inner.writer.ghost_name in
    let n : ℕ = after.inner.writer.ghost_name in
    let b : Option (List ℕ) = contents after.inner.writer.now in
    let old : hex_contents (lent_contents contents) start ≡ Some (marked_digits (m ∷ x)) = rw (whole, begin) refl in
    let took = marked_grew (Some (m ∷ x)) (whole_digits after.is_cut (option_map (λ (c : List ℕ). n ∷ c) b)) bytes h
    (subst (λ (o : Option (List ℕ)). Appends o (hex_contents (lent_contents contents) after) bytes) old p) in
    let digits : List ℕ = lent_took after.is_cut b (encode_lower bytes) in
    let grew : Appends (Some x) b digits = lent_grew m n (Some x) b after.is_cut (encode_lower bytes) took in
    subst (λ (r : Option (List ℕ)). Appends (Some x) r (digits ++ ending)) (sym (same (lent_same m n x b after.is_cut (encode_lower bytes) took)))
    (Appends-trans (Some x) b last digits ending grew more)

-- Words of a line, their parts and their numbers.
use Rattle.std.specs.Prelude.{◌==◌, ◌&&◌, nat_le, if◌then◌else◌}
use Rattle.std.proofs.Common.{◌≡◌, ◌≢◌, ◌<◌, ◌+◌, ◌*◌, ◌-◌, ℕ, Bool, true, false, List, [], ◌∷◌, ◌++◌, length, None, refl, sym, ap, ◌∙◌}
use Rattle.std.proofs.Common.{arith, get_or, drop}
use Rattle.std.specs.List.{AllByRecursion}
use Rattle.std.specs.Char.{is_ascii_digit}
use Rattle.std.proofs.lemmas.Bool.{eq-eqb, eqb-true}
use Rattle.std.proofs.lemmas.List.{drop_more}
use Rattle.std.proofs.lemmas.List.Elements.{recursion_from_All}
use Rattle.iscsi_text.specs.Text.{HasNo}
use Rattle.iscsi_text.specs.Shown.{SplitsAtByte}
use Rattle.iscsi_job_text.specs.Words.{before, behind, in_front, pieces, not_empty, words_between, digits_behind, StartsWord}

-- ---- parts

-- what stands before and behind a byte
abbrev pub Parts : Type 0
Parts = List ℕ × List ℕ

abbrev parts_at : ℕ → List ℕ → Parts
parts_at byte bs = (before byte bs, behind byte bs)

-- a byte in front of what stands before the one that is looked for
abbrev longer : ℕ → Parts → Parts
longer b parts = (b ∷ parts.0, parts.1)

other_byte : (byte b : ℕ) (bs : List ℕ) → b ≢ byte → ◌≡◌ {A = Parts} (parts_at byte (b ∷ bs)) (longer b (parts_at byte bs))
other_byte byte b bs other = go (b == byte) refl
  where
    go : (t : Bool) → (b == byte) ≡ t → ◌≡◌ {A = Parts} ((if t then [] else b ∷ before byte bs), (if t then bs else behind byte bs)) (longer b (parts_at byte bs))
    go true e = absurd (other (eqb-true b byte e))
    go false e = refl

same_byte : (byte : ℕ) (back : List ℕ) → ◌≡◌ {A = Parts} (parts_at byte (byte ∷ back)) ([], back)
same_byte byte back = ap (λ (t : Bool). let p : Parts = ((if t then [] else byte ∷ before byte back), (if t then back else behind byte back)) in p) (eq-eqb byte byte refl)

found : (byte : ℕ) (front back : List ℕ) → AllByRecursion (λ b. b ≢ byte) front → ◌≡◌ {A = Parts} (parts_at byte (front ++ byte ∷ back)) (front, back)
found byte [] back none = same_byte byte back
found byte (b ∷ front) back none = other_byte byte b (front ++ byte ∷ back) none.0 ∙ ap (longer b) (found byte front back none.1)

lacking : (byte : ℕ) (bytes : List ℕ) → AllByRecursion (λ b. b ≢ byte) bytes → ◌≡◌ {A = Parts} (parts_at byte bytes) (bytes, [])
lacking byte [] none = refl
lacking byte (b ∷ bytes) none = other_byte byte b bytes none.0 ∙ ap (longer b) (lacking byte bytes none.1)

whole : (bytes : List ℕ) (byte : ℕ) (front back : List ℕ) → SplitsAtByte bytes byte front back → ◌≡◌ {A = Parts} (parts_at byte bytes) (front, back)
whole bytes byte front back splits = ap (parts_at byte) splits.whole ∙ found byte front back (recursion_from_All (λ b. b ≢ byte) front splits.first)

pub found_front : (bytes : List ℕ) (byte : ℕ) (front back : List ℕ) → SplitsAtByte bytes byte front back → front ≡ before byte bytes
found_front bytes byte front back splits = ap (λ (p : Parts). p.0) (sym (whole bytes byte front back splits))

pub found_behind : (bytes : List ℕ) (byte : ℕ) (front back : List ℕ) → SplitsAtByte bytes byte front back → back ≡ behind byte bytes
found_behind bytes byte front back splits = ap (λ (p : Parts). p.1) (sym (whole bytes byte front back splits))

pub lacking_front : (bytes : List ℕ) (byte : ℕ) → HasNo byte bytes → bytes ≡ before byte bytes
lacking_front bytes byte none = ap (λ (p : Parts). p.0) (sym (lacking byte bytes (recursion_from_All (λ b. b ≢ byte) bytes none)))

pub lacking_behind : (bytes : List ℕ) (byte : ℕ) → HasNo byte bytes → [] ≡ behind byte bytes
lacking_behind bytes byte none = ap (λ (p : Parts). p.1) (sym (lacking byte bytes (recursion_from_All (λ b. b ≢ byte) bytes none)))

-- ---- words

-- the pieces behind the first, by what a text is split into
record Front (bs front back : List ℕ) (split : List (List ℕ)) : Type 0 where
  others : List (List ℕ)
  first : split ≡ front ∷ others
  words : not_empty others ≡ not_empty (pieces back)

one_more : (t : Bool) (b : ℕ) (bs : List ℕ) → Front bs (before 0x20 bs) (behind 0x20 bs) (pieces bs)
    → Front (b ∷ bs) (if t then [] else b ∷ before 0x20 bs) (if t then bs else behind 0x20 bs) (if t then [] ∷ pieces bs else in_front b (pieces bs))
one_more true b bs front = record { others = pieces bs; first = refl; words = refl }
one_more false b bs front = record { others = front.others; first = ap (in_front b) front.first; words = front.words }

fronts : (bs : List ℕ) → Front bs (before 0x20 bs) (behind 0x20 bs) (pieces bs)
fronts [] = record { others = []; first = refl; words = refl }
fronts (b ∷ bs) = one_more (b == 0x20) b bs (fronts bs)

-- the first word, and those behind it
pub next_word : (bs : List ℕ) → StartsWord bs → 0 < length bs → words_between bs ≡ before 0x20 bs ∷ words_between (behind 0x20 bs)
unfolding words_between
next_word [] starts some = absurd (omega arith)
next_word (b ∷ bs) starts some =
    let front = fronts (b ∷ bs) in
    ap not_empty front.first ∙ ap (λ (word : List ℕ). not_empty (word ∷ front.others)) begins
    ∙ ap (λ (words : List (List ℕ)). (b ∷ before 0x20 bs) ∷ words) front.words ∙ ap (λ (word : List ℕ). word ∷ not_empty (pieces (behind 0x20 (b ∷ bs)))) (sym begins)
  where
    begins : before 0x20 (b ∷ bs) ≡ b ∷ before 0x20 bs
    begins = ap (λ (p : Parts). p.0) (other_byte 0x20 b bs starts)

-- no byte has no word
pub no_words : (bs : List ℕ) → length bs ≡ 0 → words_between bs ≡ []
unfolding words_between
no_words [] none = refl
no_words (b ∷ bs) none = absurd (omega arith)

-- a blank in front is none of a word
blank_in_front : (b : ℕ) (bs : List ℕ) → b ≡ 0x20 → words_between (b ∷ bs) ≡ words_between bs
unfolding words_between
blank_in_front b bs blank = ap (λ (t : Bool). not_empty (if t then [] ∷ pieces bs else in_front b (pieces bs))) (eq-eqb b 0x20 blank)

pub blank_more : (bs : List ℕ) (i : ℕ) → i < length bs → get_or bs i 0 ≡ 0x20 → words_between (drop (i + 1) bs) ≡ words_between (drop i bs)
blank_more bs i within blank = sym (ap words_between (drop_more bs i 0 within) ∙ blank_in_front (get_or bs i 0) (drop (i + 1) bs) blank)

pub word_starts : (bs : List ℕ) (i : ℕ) → i < length bs → get_or bs i 0 ≢ 0x20 → StartsWord (drop i bs)
word_starts bs i within other = rw (drop_more bs i 0 within) other

-- ---- numbers

abbrev next : ℕ → ℕ → ℕ
next n c = n * 10 + (c - 48)

pub number_more : (most n : ℕ) (digits : List ℕ) (i : ℕ) → i < length digits → is_ascii_digit (get_or digits i 0) ≡ true →
    nat_le (next n (get_or digits i 0)) most ≡ true
    → digits_behind most n (drop i digits) ≡ digits_behind most (next n (get_or digits i 0)) (drop (i + 1) digits)
number_more most n digits i within is fits =
    let c = get_or digits i 0 in
    ap (digits_behind most n) (drop_more digits i 0 within)
    ∙ ap (λ (t : Bool). if t && nat_le (next n c) most then digits_behind most (next n c) (drop (i + 1) digits) else None) is
    ∙ ap (λ (t : Bool). if t then digits_behind most (next n c) (drop (i + 1) digits) else None) fits

pub number_no_digit : (most n : ℕ) (digits : List ℕ) (i : ℕ) → i < length digits → is_ascii_digit (get_or digits i 0) ≡ false →
    digits_behind most n (drop i digits) ≡ None
number_no_digit most n digits i within is =
    let c = get_or digits i 0 in
    ap (digits_behind most n) (drop_more digits i 0 within)
    ∙ ap (λ (t : Bool). if t && nat_le (next n c) most then digits_behind most (next n c) (drop (i + 1) digits) else None) is

pub number_too_large : (most n : ℕ) (digits : List ℕ) (i : ℕ) → i < length digits → is_ascii_digit (get_or digits i 0) ≡ true →
    nat_le (next n (get_or digits i 0)) most ≡ false → digits_behind most n (drop i digits) ≡ None
number_too_large most n digits i within is fits =
    let c = get_or digits i 0 in
    ap (digits_behind most n) (drop_more digits i 0 within)
    ∙ ap (λ (t : Bool). if t && nat_le (next n c) most then digits_behind most (next n c) (drop (i + 1) digits) else None) is
    ∙ ap (λ (t : Bool). if t then digits_behind most (next n c) (drop (i + 1) digits) else None) fits

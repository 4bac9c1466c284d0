-- Words, lines and numbers of a script.
use Rattle.std.specs.Prelude.{◌==◌, ◌&&◌, nat_le, if◌then◌else◌}
use Rattle.std.proofs.Common.{◌≡◌, ◌≢◌, ◌<◌, ◌+◌, ◌*◌, ◌-◌, ℕ, Bool, true, false, List, [], ◌∷◌, ◌++◌, length, map, Option, Some, None, refl, sym, ap, ◌∙◌}
use Rattle.std.proofs.Common.{arith, get_or, drop, append-nil}
use Rattle.std.specs.List.{AllByRecursion}
use Rattle.std.specs.Char.{is_ascii_digit}
use Rattle.std.proofs.lemmas.Bool.{eq-eqb, eqb-true}
use Rattle.std.proofs.lemmas.List.{drop_more, length-append}
use Rattle.std.proofs.lemmas.List.Elements.{recursion_from_All}
use Rattle.iscsi_text.specs.Text.{HasNo}
use Rattle.iscsi_text.specs.Shown.{SplitsAtByte}
use Rattle.iscsi_loop.specs.declared.command.Command.{Command}
use Rattle.iscsi_loop.specs.Script.{parted, number_behind, script_lines, begin, meaning, meanings, AreCommands, IsFirstBad}
use Rattle.iscsi_loop.specs.inner.Script.{IsCommandInRange, AreCommandsInRange}

-- ---- parts

abbrev pub Parts : Type 0
Parts = List ℕ × Option (List ℕ)

-- a byte in front of what stands before the one that is looked for
abbrev longer : ℕ → Parts → Parts
longer b parts = (b ∷ parts.0, parts.1)

-- the byte that is looked for
abbrev here : List ℕ → Parts
here bs = ([], Some bs)

-- a byte that is another
other_byte : (byte b : ℕ) (bs : List ℕ) → b ≢ byte → ◌≡◌ {A = Parts} (parted byte (b ∷ bs)) (longer b (parted byte bs))
other_byte byte b bs other = go (b == byte) refl
  where
    go : (t : Bool) → (b == byte) ≡ t → ◌≡◌ {A = Parts} (if t then here bs else longer b (parted byte bs)) (longer b (parted byte bs))
    go true e = absurd (other (eqb-true b byte e))
    go false e = refl

-- the byte itself
same_byte : (byte : ℕ) (back : List ℕ) → ◌≡◌ {A = Parts} (parted byte (byte ∷ back)) (here back)
same_byte byte back = ap (λ (t : Bool). if t then here back else longer byte (parted byte back)) (eq-eqb byte byte refl)

found : (byte : ℕ) (front back : List ℕ) → AllByRecursion (λ b. b ≢ byte) front → ◌≡◌ {A = Parts} (parted byte (front ++ byte ∷ back)) (front, Some back)
found byte [] back none = same_byte byte back
found byte (b ∷ front) back none = other_byte byte b (front ++ byte ∷ back) none.0 ∙ ap (longer b) (found byte front back none.1)

lacking : (byte : ℕ) (bytes : List ℕ) → AllByRecursion (λ b. b ≢ byte) bytes → ◌≡◌ {A = Parts} (parted byte bytes) (bytes, None)
lacking byte [] none = refl
lacking byte (b ∷ bytes) none = other_byte byte b bytes none.0 ∙ ap (longer b) (lacking byte bytes none.1)

whole : (bytes : List ℕ) (byte : ℕ) (front back : List ℕ) → SplitsAtByte bytes byte front back → ◌≡◌ {A = Parts} (parted byte bytes) (front, Some back)
whole bytes byte front back splits = ap (parted byte) splits.whole ∙ found byte front back (recursion_from_All (λ b. b ≢ byte) front splits.first)

pub found_front : (bytes : List ℕ) (byte : ℕ) (front back : List ℕ) → SplitsAtByte bytes byte front back → front ≡ (parted byte bytes).0
found_front bytes byte front back splits = ap (λ (p : Parts). p.0) (sym (whole bytes byte front back splits))

pub found_behind : (bytes : List ℕ) (byte : ℕ) (front back : List ℕ) → SplitsAtByte bytes byte front back → Some back ≡ (parted byte bytes).1
found_behind bytes byte front back splits = ap (λ (p : Parts). p.1) (sym (whole bytes byte front back splits))

pub lacking_front : (bytes : List ℕ) (byte : ℕ) → HasNo byte bytes → bytes ≡ (parted byte bytes).0
lacking_front bytes byte none = ap (λ (p : Parts). p.0) (sym (lacking byte bytes (recursion_from_All (λ b. b ≢ byte) bytes none)))

pub lacking_behind : (bytes : List ℕ) (byte : ℕ) → HasNo byte bytes → None ≡ (parted byte bytes).1
lacking_behind bytes byte none = ap (λ (p : Parts). p.1) (sym (lacking byte bytes (recursion_from_All (λ b. b ≢ byte) bytes none)))

-- ---- lines

-- the lines behind the first
abbrev pub lines_behind : Option (List ℕ) → List (List ℕ)
lines_behind None = []
lines_behind (Some rest) = script_lines rest

-- the first line and those behind it
abbrev lines_at : Parts → List (List ℕ)
lines_at parts = parts.0 ∷ lines_behind parts.1

one_more : (t : Bool) (b : ℕ) (bs : List ℕ) (lines : List (List ℕ)) (parts : Parts) → begin b lines ≡ lines_at (longer b parts)
    → (if t then [] ∷ script_lines bs else begin b lines) ≡ lines_at (if t then here bs else longer b parts)
one_more true b bs lines parts e = refl
one_more false b bs lines parts e = e

lines_from : (b : ℕ) (bs : List ℕ) → script_lines (b ∷ bs) ≡ lines_at (parted 0x0a (b ∷ bs))
lines_from b [] = one_more (b == 0x0a) b [] [] ([], None) refl
lines_from b (c ∷ cs) = one_more (b == 0x0a) b (c ∷ cs) (script_lines (c ∷ cs)) (parted 0x0a (c ∷ cs)) (ap (begin b) (lines_from c cs))

-- the line before the first line end, and those behind it
pub lines_split : (bs front back : List ℕ) → SplitsAtByte bs 0x0a front back → 0 < length bs → script_lines bs ≡ front ∷ script_lines back
lines_split [] front back splits some = absurd (omega arith)
lines_split (b ∷ bs) front back splits some = lines_from b bs ∙ ap lines_at (whole (b ∷ bs) 0x0a front back splits)

-- the last line, which lacks its end
pub lines_last : (bs : List ℕ) → HasNo 0x0a bs → 0 < length bs → script_lines bs ≡ bs ∷ []
lines_last [] none some = absurd (omega arith)
lines_last (b ∷ bs) none some = lines_from b bs ∙ ap lines_at (lacking 0x0a (b ∷ bs) (recursion_from_All (λ c. c ≢ 0x0a) (b ∷ bs) none))

-- what stands behind a byte is shorter
pub shorter : (bs : List ℕ) (byte : ℕ) (front back : List ℕ) → SplitsAtByte bs byte front back → length back < length bs
shorter bs byte front back splits = omega (arith, ap length splits.whole, length-append front (byte ∷ back))

-- ---- commands

-- one command more
pub commands_more : (script rest line more : List ℕ) (commands : List Command) (command : Command) → meanings script ≡ map Some commands ++ meanings rest →
    script_lines rest ≡ line ∷ script_lines more → meaning line ≡ Some command
    → meanings script ≡ map Some (commands ++ command ∷ []) ++ meanings more
commands_more script rest line more commands command so_far lines is =
    so_far ∙ ap (λ (ls : List (List ℕ)). map Some commands ++ map meaning ls) lines ∙ ap (λ (o : Option Command). map Some commands ++ o ∷ meanings more) is
    ∙ moved commands
  where
    moved : (cs : List Command) → map Some cs ++ Some command ∷ meanings more ≡ map Some (cs ++ command ∷ []) ++ meanings more
    moved [] = refl
    moved (c ∷ cs) = ap (λ (os : List (Option Command)). Some c ∷ os) (moved cs)

-- one command more is in range
pub one_more_in_range : (commands : List Command) (command : Command) → AreCommandsInRange commands → IsCommandInRange command
    → AreCommandsInRange (commands ++ command ∷ [])
one_more_in_range [] command all is = (is, tt)
one_more_in_range (c ∷ commands) command all is = (all.0, one_more_in_range commands command all.1 is)

-- the first line that means nothing
pub commands_stop : (script rest line more : List ℕ) (commands : List Command) → meanings script ≡ map Some commands ++ meanings rest → script_lines rest
    ≡ line ∷ script_lines more → meaning line ≡ None
    → IsFirstBad script (length commands + 1)
commands_stop script rest line more commands so_far lines is = (
  commands,
  meanings more,
  so_far ∙ ap (λ (ls : List (List ℕ)). map Some commands ++ map meaning ls) lines
      ∙ ap (λ (o : Option Command). map Some commands ++ o ∷ meanings more) is,
  refl,
)

-- no line is left
pub commands_end : (script rest : List ℕ) (commands : List Command) → meanings script ≡ map Some commands ++ meanings rest → length rest ≡ 0 →
    AreCommands script commands
commands_end script [] commands so_far none = so_far ∙ append-nil (map Some commands)
commands_end script (b ∷ rest) commands so_far none = absurd (omega arith)

-- ---- numbers

abbrev next : ℕ → ℕ → ℕ
next n c = n * 10 + (c - 48)

pub number_more : (most n : ℕ) (digits : List ℕ) (i : ℕ) → i < length digits → is_ascii_digit (get_or digits i 0) ≡ true →
    nat_le (next n (get_or digits i 0)) most ≡ true
    → number_behind most n (drop i digits) ≡ number_behind most (next n (get_or digits i 0)) (drop (i + 1) digits)
number_more most n digits i within is fits =
    let c = get_or digits i 0 in
    ap (number_behind most n) (drop_more digits i 0 within)
    ∙ ap (λ (t : Bool). if t && nat_le (next n c) most then number_behind most (next n c) (drop (i + 1) digits) else None) is
    ∙ ap (λ (t : Bool). if t then number_behind most (next n c) (drop (i + 1) digits) else None) fits

pub number_no_digit : (most n : ℕ) (digits : List ℕ) (i : ℕ) → i < length digits → is_ascii_digit (get_or digits i 0) ≡ false →
    number_behind most n (drop i digits) ≡ None
number_no_digit most n digits i within is =
    let c = get_or digits i 0 in
    ap (number_behind most n) (drop_more digits i 0 within)
    ∙ ap (λ (t : Bool). if t && nat_le (next n c) most then number_behind most (next n c) (drop (i + 1) digits) else None) is

pub number_too_large : (most n : ℕ) (digits : List ℕ) (i : ℕ) → i < length digits → is_ascii_digit (get_or digits i 0) ≡ true →
    nat_le (next n (get_or digits i 0)) most ≡ false → number_behind most n (drop i digits) ≡ None
number_too_large most n digits i within is fits =
    let c = get_or digits i 0 in
    ap (number_behind most n) (drop_more digits i 0 within)
    ∙ ap (λ (t : Bool). if t && nat_le (next n c) most then number_behind most (next n c) (drop (i + 1) digits) else None) is
    ∙ ap (λ (t : Bool). if t then number_behind most (next n c) (drop (i + 1) digits) else None) fits

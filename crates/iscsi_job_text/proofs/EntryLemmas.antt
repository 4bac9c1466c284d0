-- Lines of a text, and what two entries say.
use Rattle.std.specs.Prelude.{◌==◌, ◌&&◌, ◌||◌, not, if◌then◌else◌}
use Rattle.std.proofs.Common.{◌≡◌, ◌<◌, ◌≤◌, ◌-◌, ℕ, Bool, true, false, List, [], ◌∷◌, length, map, Option, Some, None, refl, sym, ap, ◌∙◌, arith}
use Rattle.std.specs.List.{list_all, slice_get}
use Rattle.std.proofs.lemmas.Bool.{eqb-true}
use native.Mathlib.Numerals.{unary_clauses}
use Rattle.iscsi_job.specs.declared.item.Asked.{Asked}
use Rattle.iscsi_job.specs.declared.item.Ended.{Ended}
use Rattle.iscsi_job_text.specs.declared.entry.Entry.{Entry}
use Rattle.iscsi_job_text.specs.declared.entry.Stored.{Stored}
use Rattle.iscsi_job_text.specs.declared.entry.Time.{Time}
use Rattle.iscsi_job_text.specs.Words.{before, behind, in_front}
use Rattle.iscsi_job_text.specs.Entries.{said, said_if, AskTheSame, GaveTheSame}
use Rattle.iscsi_job_text.specs.Jobs.{EndsLine, text_lines, blank_of, is_plain_byte}

-- ---- lines

abbrev lines_by : List ℕ → List ℕ → List (List ℕ)
lines_by front back = front ∷ text_lines back

one_more : (t : Bool) (b : ℕ) (bs : List ℕ) (lines : List (List ℕ)) (front back : List ℕ) → in_front b lines ≡ lines_by (b ∷ front) back
    → (if t then [] ∷ text_lines bs else in_front b lines) ≡ lines_by (if t then [] else b ∷ front) (if t then bs else back)
one_more true b bs lines front back e = refl
one_more false b bs lines front back e = e

lines_from : (b : ℕ) (bs : List ℕ) → text_lines (b ∷ bs) ≡ lines_by (before 0x0a (b ∷ bs)) (behind 0x0a (b ∷ bs))
lines_from b [] = one_more (b == 0x0a) b [] [] [] [] refl
lines_from b (c ∷ cs) = one_more (b == 0x0a) b (c ∷ cs) (text_lines (c ∷ cs)) (before 0x0a (c ∷ cs)) (behind 0x0a (c ∷ cs)) (ap (in_front b) (lines_from c cs))

-- the first line, and those behind it
pub next_line : (bs : List ℕ) → 0 < length bs → text_lines bs ≡ before 0x0a bs ∷ text_lines (behind 0x0a bs)
next_line [] some = absurd (omega arith)
next_line (b ∷ bs) some = lines_from b bs

-- no byte has no line
pub no_line : (bs : List ℕ) → length bs ≡ 0 → text_lines bs ≡ []
no_line [] none = refl
no_line (b ∷ bs) none = absurd (omega arith)

not_longer : (byte : ℕ) (bs : List ℕ) → length (behind byte bs) ≤ length bs
not_longer byte [] = omega arith
not_longer byte (b ∷ bs) = go (b == byte) (not_longer byte bs)
  where
    go : (t : Bool) → length (behind byte bs) ≤ length bs → length (if t then bs else behind byte bs) ≤ length (b ∷ bs)
    go true more = omega arith
    go false more = omega arith

-- what stands behind a line is shorter
pub shorter : (bs : List ℕ) → 0 < length bs → length (behind 0x0a bs) < length bs
shorter [] some = absurd (omega arith)
shorter (b ∷ bs) some = go (b == 0x0a) (not_longer 0x0a bs)
  where
    go : (t : Bool) → length (behind 0x0a bs) ≤ length bs → length (if t then bs else behind 0x0a bs) < length (b ∷ bs)
    go true more = omega arith
    go false more = omega arith

-- and what is left is shorter
pub lines_shorter : (rest more : List ℕ) → 0 < length rest → more ≡ behind 0x0a rest → length more < length rest
lines_shorter rest more some back = omega (arith, shorter rest some, ap length back)

-- a text with this last byte ends with a line end
line_end : (bs : List ℕ) → slice_get bs (length bs - 1) ≡ Some 0x0a → EndsLine bs
line_end [] none = absurd (nothing_there none)
  where
    nothing_there : ◌≡◌ {A = Option ℕ} None (Some 0x0a) → ⊥
    nothing_there e = cc
line_end (b ∷ []) last = ([], ap (λ (b : ℕ). b ∷ []) (some_same b last))
  where
    some_same : (b : ℕ) → Some b ≡ Some 0x0a → b ≡ 0x0a
    some_same b e = cc
line_end (b ∷ c ∷ bs) last =
    let less : length (c ∷ bs) - 1 ≡ length bs = omega arith in
    let rest = line_end (c ∷ bs) (ap (slice_get (c ∷ bs)) less ∙ (simp unary_clauses at last)) in
    (b ∷ rest.0, ap (λ (them : List ℕ). b ∷ them) rest.1)

pub last_line_end : (bs : List ℕ) (b : ℕ) → Some b ≡ slice_get bs (length bs - 1) → (b == 0x0a) ≡ true → EndsLine bs
last_line_end bs b last is = line_end bs (sym last ∙ ap Some (eqb-true b 0x0a is))

-- ---- blanks

plain_byte : (b : ℕ) → is_plain_byte b ≡ true → blank_of b ≡ b
plain_byte b plain = go (b == 0x09) (b == 0x0d) plain
  where
    go : (tab return : Bool) → (not tab && not return) ≡ true → (if tab || return then 0x20 else b) ≡ b
    go false false e = refl
    go true return e = grind arith
    go false true e = grind arith

-- a text whose blanks are spaces is read as it is
pub plain_lines : (bs : List ℕ) → list_all is_plain_byte bs ≡ true → map blank_of bs ≡ bs
plain_lines [] plain = refl
plain_lines (b ∷ bs) plain = grind (arith, plain_byte b, plain_lines bs)

-- ---- what is said

-- an entry by its parts
abbrev entry_by : Asked → List ℕ → Option Ended → Option Stored → Option Time → List ℕ → List ℕ → Option Stored → Entry
entry_by asked sent ended stored time sense received place = record {
  item = record { asked = asked; sent = sent; ended = ended; sense = sense; received = received };
  sent = stored;
  received = place;
  time = time;
}

-- two entries that ask the same have the same parts but for what came
asks : (one other : Entry) (sense received : List ℕ) (place : Option Stored) → AskTheSame one other
    → entry_by one.item.asked one.item.sent one.item.ended one.sent one.time sense received place
    ≡ entry_by other.item.asked other.item.sent other.item.ended other.sent other.time sense received place
asks one other sense received place same =
    ap (λ (a : Asked). entry_by a one.item.sent one.item.ended one.sent one.time sense received place) same.asked
    ∙ ap (λ (s : List ℕ). entry_by other.item.asked s one.item.ended one.sent one.time sense received place) same.sent
    ∙ ap (λ (e : Option Ended). entry_by other.item.asked other.item.sent e one.sent one.time sense received place) same.ended
    ∙ ap (λ (p : Option Stored). entry_by other.item.asked other.item.sent other.item.ended p one.time sense received place) same.stored
    ∙ ap (λ (t : Option Time). entry_by other.item.asked other.item.sent other.item.ended other.sent t sense received place) same.time

-- two entries that ask the same, and were not answered
pub same_unanswered : (one other : Entry) → AskTheSame one other → one.item.ended ≡ None → said one ≡ said other
same_unanswered one other same none =
    ap (λ (e : Option Ended). said_if e one) none ∙ asks one other [] [] None same ∙ ap (λ (e : Option Ended). said_if e other) (sym none ∙ same.ended)

-- two entries that ask the same, and of which the same came
pub same_answered : (one other : Entry) → AskTheSame one other → GaveTheSame one other → said one ≡ said other
same_answered one other same gave = ap said whole
  where
    whole : one ≡ other
    whole = asks one other one.item.sense one.item.received one.received same
        ∙ ap (λ (s : List ℕ). entry_by other.item.asked other.item.sent other.item.ended other.sent other.time s one.item.received one.received) gave.sense
        ∙ ap (λ (r : List ℕ). entry_by other.item.asked other.item.sent other.item.ended other.sent other.time other.item.sense r one.received) gave.received
        ∙ ap (λ (p : Option Stored). entry_by other.item.asked other.item.sent other.item.ended other.sent other.time other.item.sense other.item.received p) gave.stored

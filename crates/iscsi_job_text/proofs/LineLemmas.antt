-- Lines that are read part by part.
use Rattle.std.specs.Prelude.{◌==◌, ◌||◌, if◌then◌else◌}
use Rattle.std.proofs.Common.{◌≡◌, ◌≢◌, ◌<◌, ◌≤◌, ◌-◌, ◌+◌, ℕ, Bool, IfSome, true, false, List, [], ◌∷◌, ◌++◌, length, map, Option, Some, None, refl, sym, ap, ◌∙◌, arith, take, drop, suc}
use Rattle.std.specs.Prelude.{slice_range}
use Rattle.std.specs.List.{AllByRecursion}
use Rattle.std.specs.Io.KnownBytes.{Consumes, IsAtEnd}
use Rattle.std.proofs.lemmas.Option.{none-some}
use Rattle.std.proofs.lemmas.List.{append_assoc, append-nil, drop-drop, drop-take, drop_all, length-take}
use Rattle.std.proofs.Math.Seq.{drop-append-add}
use Rattle.std.proofs.lemmas.List.Elements.{All-append, All-from_recursion, recursion_from_All}
use Rattle.iscsi_text.specs.Text.{HasNo}
use Rattle.iscsi_text.specs.Shown.{SplitsAtByte}
use Rattle.iscsi_job_text.specs.Words.{behind}
use Rattle.iscsi_job_text.specs.Jobs.{blank_of, job_lines, text_lines}
use Rattle.iscsi_job_text.specs.Reading.{LinesHeld, ReadsLine, TakesFront, TakesPart, behind_part}
use Rattle.iscsi_job_text.proofs.EntryLemmas.{next_line}
use Rattle.iscsi_job_text.proofs.JobLemmas.{plain_both}
use Rattle.iscsi_job_text.proofs.WordLemmas.{found_front, found_behind, lacking_front, lacking_behind}

-- ---- cases that can't be

pub true_false : ◌≡◌ {A = Bool} true false → ⊥
true_false e = cc

pub false_true : ◌≡◌ {A = Bool} false true → ⊥
false_true e = cc

pub same_bytes : {bs cs : List ℕ} → Some bs ≡ Some cs → bs ≡ cs
same_bytes e = cc

-- ---- the front of a piece

-- a front with its line end is taken
pub end_taken : (ahead old new front back : List ℕ) → SplitsAtByte ahead 0x0a front back → new ≡ old ++ front
    → TakesFront ahead old new (length front + 1) true
end_taken ahead old new front back splits grows = record {
  part = front;
  inside = splits.first;
  taken = splits.whole ∙ ap (λ (bs : List ℕ). front ++ 0x0a ∷ bs) (sym rest);
  line = grows;
  bound = bound;
  left = λ (e : ◌≡◌ {A = Bool} true false). absurd (true_false e);
}
  where
    rest : drop (length front + 1) ahead ≡ back
    rest = ap (drop (length front + 1)) splits.whole ∙ drop-append-add front (0x0a ∷ back) 1

    bound : length front + 1 ≤ length ahead
    bound = rw splits.whole (longer front)
      where
        longer : (front : List ℕ) → length front + 1 ≤ length (front ++ 0x0a ∷ back)
        longer [] = omega arith
        longer (b ∷ front) = let more = longer front in omega arith

-- and it lies in the range
pub within_range : (piece : List ℕ) (from to : ℕ) (front back : List ℕ) → from ≤ to → SplitsAtByte (slice_range piece from to) 0x0a front back → from + (length front + 1) ≤ to
within_range piece from to front back order splits =
    let taken = end_taken (slice_range piece from to) [] front front back splits refl in
    let size : length (slice_range piece from to) ≤ to - from = rw (length-take (to - from) (drop from piece)) (omega arith) in
    omega (arith, taken.bound, size)

-- all is taken where no line ends
pub all_taken : (ahead old new : List ℕ) → HasNo 0x0a ahead → new ≡ old ++ ahead → TakesFront ahead old new (length ahead) false
all_taken ahead old new none grows = record {
  part = ahead;
  inside = none;
  taken = sym (append-nil ahead) ∙ ap (λ (bs : List ℕ). ahead ++ bs) (sym (drop_all (length ahead) ahead (omega arith)));
  line = grows;
  bound = omega arith;
  left = λ (e : ◌≡◌ {A = Bool} false false). refl;
}

-- what is left of a piece behind bytes that were taken
rest_of : (piece : List ℕ) (from to count : ℕ) → from + count ≤ to → drop count (slice_range piece from to) ≡ slice_range piece (from + count) to
rest_of piece from to count within =
    let size : to - from ≡ count + (to - (from + count)) = omega arith in
    ap (λ (n : ℕ). drop count (take n (drop from piece))) size
    ∙ drop-take count (to - (from + count)) (drop from piece)
    ∙ ap (take (to - (from + count))) (drop-drop count from piece)

-- a reader whose piece begins behind bytes that were taken
pub part_taken : (piece : List ℕ) (from to count n : ℕ) (old new : List ℕ) (is_last : Bool) → from + count ≤ to
    → TakesFront (slice_range piece from to) old new count is_last
    → TakesPart (record { line = old; ahead = slice_range piece from to; count = n }) (record { line = new; ahead = slice_range piece (from + count) to; count = n }) is_last
part_taken piece from to count n old new is_last within front = record {
  part = front.part;
  inside = front.inside;
  taken = front.taken ∙ ap (λ (bs : List ℕ). front.part ++ behind_part is_last bs) (rest_of piece from to count within);
  line = front.line;
  left = λ (e : is_last ≡ false). sym (rest_of piece from to count within) ∙ drop_all count (slice_range piece from to) (let all = front.left e in omega arith);
  count = refl;
}

-- ---- a line, part by part

-- what was read of a line so far
pub record SoFar (old now : LinesHeld) (left : List ℕ) (known : Option (List ℕ)) : Type 0 where
  pub rest : List ℕ
  pub is : known ≡ Some rest
  pub whole : old.ahead ++ left ≡ now.line ++ (now.ahead ++ rest)
  pub inside : HasNo 0x0a now.line
  pub count : now.count ≡ old.count

no_byte : HasNo 0x0a []
no_byte = All-from_recursion (λ b. b ≢ 0x0a) [] tt

-- nothing was read
pub begun : (old now : LinesHeld) (left : List ℕ) → now.line ≡ [] → now.ahead ≡ old.ahead → now.count ≡ old.count → SoFar old now left (Some left)
begun old now left empty same count = record {
  rest = left;
  is = refl;
  whole = ap (λ (bs : List ℕ). bs ++ left) (sym same) ∙ ap (λ (bs : List ℕ). bs ++ (now.ahead ++ left)) (sym empty);
  inside = rw empty no_byte;
  count = count;
}

-- the line and what is behind it, once a part was taken
behind_it : (old now part_taken : LinesHeld) (left : List ℕ) (known : Option (List ℕ)) (is_last : Bool) (so_far : SoFar old now left known)
    → TakesPart now part_taken is_last → old.ahead ++ left ≡ part_taken.line ++ (behind_part is_last part_taken.ahead ++ so_far.rest)
behind_it old now new left known is_last so_far part =
    so_far.whole
    ∙ ap (λ (bs : List ℕ). now.line ++ (bs ++ so_far.rest)) part.taken
    ∙ ap (λ (bs : List ℕ). now.line ++ bs) (append_assoc part.part (behind_part is_last new.ahead) so_far.rest)
    ∙ sym (append_assoc now.line part.part (behind_part is_last new.ahead ++ so_far.rest))
    ∙ ap (λ (bs : List ℕ). bs ++ (behind_part is_last new.ahead ++ so_far.rest)) (sym part.line)

inside_it : (old now new : LinesHeld) (left : List ℕ) (known : Option (List ℕ)) (is_last : Bool) → SoFar old now left known
    → TakesPart now new is_last → HasNo 0x0a new.line
inside_it old now new left known is_last so_far part = rw part.line (All-append (λ b. b ≢ 0x0a) now.line part.part so_far.inside part.inside)

-- a line without its end, and the lines behind it
first_line : (line back : List ℕ) → HasNo 0x0a line → text_lines (line ++ 0x0a ∷ back) ≡ line ∷ text_lines back
first_line line back none =
    let splits : SplitsAtByte (line ++ 0x0a ∷ back) 0x0a line back = record { whole = refl; first = none } in
    next_line (line ++ 0x0a ∷ back) (longer line)
    ∙ ap (λ (bs : List ℕ). bs ∷ text_lines (behind 0x0a (line ++ 0x0a ∷ back))) (sym (found_front (line ++ 0x0a ∷ back) 0x0a line back splits))
    ∙ ap (λ (bs : List ℕ). line ∷ text_lines bs) (sym (found_behind (line ++ 0x0a ∷ back) 0x0a line back splits))
  where
    longer : (line : List ℕ) → 0 < length (line ++ 0x0a ∷ back)
    longer [] = omega arith
    longer (b ∷ line) = omega arith

last_line : (line : List ℕ) → 0 < length line → HasNo 0x0a line → text_lines line ≡ line ∷ []
last_line line some none =
    next_line line some
    ∙ ap (λ (bs : List ℕ). bs ∷ text_lines (behind 0x0a line)) (sym (lacking_front line 0x0a none))
    ∙ ap (λ (bs : List ℕ). line ∷ text_lines bs) (sym (lacking_behind line 0x0a none))

-- blanks are no line ends
plain_other : (b : ℕ) → b ≢ 0x0a → blank_of b ≢ 0x0a
plain_other b other = go (b == 0x09 || b == 0x0d)
  where
    go : (t : Bool) → (if t then 0x20 else b) ≢ 0x0a
    go true = λ e. omega (arith, e)
    go false = other

plain_inside : (line : List ℕ) → HasNo 0x0a line → HasNo 0x0a (map blank_of line)
plain_inside line none = All-from_recursion (λ b. b ≢ 0x0a) (map blank_of line) (go line (recursion_from_All (λ b. b ≢ 0x0a) line none))
  where
    go : (line : List ℕ) → AllByRecursion (λ b. b ≢ 0x0a) line → AllByRecursion (λ b. b ≢ 0x0a) (map blank_of line)
    go [] none = tt
    go (b ∷ line) none = (plain_other b none.0, go line none.1)

same_length : (line : List ℕ) → length (map blank_of line) ≡ length line
same_length [] = refl
same_length (b ∷ line) = ap (λ (n : ℕ). suc n) (same_length line)

-- a line is read whole at its end
pub line_ended : (old now part_taken new : LinesHeld) (left : List ℕ) (known : Option (List ℕ)) → SoFar old now left known
    → TakesPart now part_taken true → new.line ≡ map blank_of part_taken.line → new.ahead ≡ part_taken.ahead → (new.count == 1) ≡ (part_taken.count == 0)
    → (new.count == 0) ≡ false → ReadsLine old new left known true
line_ended old now taken new left known so_far part plain same first some = record {
  rest = so_far.rest;
  known = so_far.is;
  more = λ (e : ◌≡◌ {A = Bool} true true). lines;
  none = λ (e : ◌≡◌ {A = Bool} true false). absurd (true_false e);
  first = λ (e : ◌≡◌ {A = Bool} true true). first ∙ ap (λ (n : ℕ). n == 0) (part.count ∙ so_far.count);
  some = λ (e : ◌≡◌ {A = Bool} true true). some;
}
  where
    back : List ℕ
    back = taken.ahead ++ so_far.rest

    lines : job_lines (old.ahead ++ left) ≡ new.line ∷ job_lines (new.ahead ++ so_far.rest)
    lines =
        ap job_lines (behind_it old now taken left known true so_far part)
        ∙ ap text_lines (plain_both taken.line (0x0a ∷ back))
        ∙ first_line (map blank_of taken.line) (map blank_of back) (plain_inside taken.line (inside_it old now taken left known true so_far part))
        ∙ ap (λ (bs : List ℕ). bs ∷ job_lines back) (sym plain)
        ∙ ap (λ (bs : List ℕ). new.line ∷ job_lines (bs ++ so_far.rest)) (sym same)

-- the next piece was read
pub piece_read : (old now part_taken new : LinesHeld) (left : List ℕ) (known more : Option (List ℕ)) → SoFar old now left known
    → TakesPart now part_taken false → new.line ≡ part_taken.line → new.count ≡ part_taken.count → Consumes known more new.ahead
    → SoFar old new left more
piece_read old now taken new left known more so_far part line count consumes = go known more so_far consumes
  where
    go : (known more : Option (List ℕ)) (so_far : SoFar old now left known) → Consumes known more new.ahead → SoFar old new left more
    go None more so_far consumes = absurd (none-some so_far.rest so_far.is)
    go (Some rest) None so_far consumes = absurd consumes
    go (Some rest) (Some more) so_far consumes = record {
      rest = more;
      is = refl;
      whole =
          behind_it old now taken left (Some rest) false so_far part
          ∙ ap (λ (bs : List ℕ). taken.line ++ (bs ++ so_far.rest)) (part.left refl)
          ∙ ap (λ (bs : List ℕ). taken.line ++ bs) (sym (same_bytes so_far.is) ∙ consumes)
          ∙ ap (λ (bs : List ℕ). bs ++ (new.ahead ++ more)) (sym line);
      inside = rw line (inside_it old now taken left (Some rest) false so_far part);
      count = count ∙ part.count ∙ so_far.count;
    }

-- nothing more is read
end_whole : (old now : LinesHeld) (left : List ℕ) (known : Option (List ℕ)) (so_far : SoFar old now left known) → now.ahead ≡ [] → IsAtEnd known
    → (so_far.rest ≡ []) × (old.ahead ++ left ≡ now.line)
end_whole old now left None so_far empty at_end = absurd (none-some so_far.rest so_far.is)
end_whole old now left (Some known) so_far empty at_end = (none, whole)
  where
    none : so_far.rest ≡ []
    none = sym (same_bytes so_far.is) ∙ at_end

    whole : old.ahead ++ left ≡ now.line
    whole = so_far.whole ∙ ap (λ (bs : List ℕ). now.line ++ (bs ++ so_far.rest)) empty ∙ ap (λ (bs : List ℕ). now.line ++ bs) none ∙ append-nil now.line

-- the last line has no end
pub line_at_end : (old now new : LinesHeld) (left : List ℕ) (known : Option (List ℕ)) → SoFar old now left known → now.ahead ≡ [] → IsAtEnd known
    → 0 < length now.line → new.line ≡ map blank_of now.line → new.ahead ≡ now.ahead → (new.count == 1) ≡ (now.count == 0)
    → (new.count == 0) ≡ false → ReadsLine old new left known true
line_at_end old now new left known so_far empty at_end has plain same first some = record {
  rest = so_far.rest;
  known = so_far.is;
  more = λ (e : ◌≡◌ {A = Bool} true true). lines;
  none = λ (e : ◌≡◌ {A = Bool} true false). absurd (true_false e);
  first = λ (e : ◌≡◌ {A = Bool} true true). first ∙ ap (λ (n : ℕ). n == 0) so_far.count;
  some = λ (e : ◌≡◌ {A = Bool} true true). some;
}
  where
    ends : (so_far.rest ≡ []) × (old.ahead ++ left ≡ now.line)
    ends = end_whole old now left known so_far empty at_end

    lines : job_lines (old.ahead ++ left) ≡ new.line ∷ job_lines (new.ahead ++ so_far.rest)
    lines =
        ap job_lines ends.1
        ∙ last_line (map blank_of now.line) (rw (same_length now.line) has) (plain_inside now.line so_far.inside)
        ∙ ap (λ (bs : List ℕ). bs ∷ []) (sym plain)
        ∙ ap (λ (bs : List ℕ). new.line ∷ job_lines bs) (sym (ap (λ (bs : List ℕ). bs ++ so_far.rest) (same ∙ empty) ∙ ends.0))

-- ---- ways out

-- what follows from known bytes follows of all that are known
pub each_known : {P Q : List ℕ → Type 0} → (known : Option (List ℕ)) → ((left : List ℕ) → P left → Q left) → IfSome known P → IfSome known Q
each_known None step all = tt
each_known (Some left) step all = step left all

-- the same, by what says whether the part was the last one
pub ended_by : (is_last : Bool) (old now part_taken new : LinesHeld) (left : List ℕ) (known : Option (List ℕ)) → is_last ≡ true → TakesPart now part_taken is_last
    → new.line ≡ map blank_of part_taken.line → new.ahead ≡ part_taken.ahead → (new.count == 1) ≡ (part_taken.count == 0)
    → (new.count == 0) ≡ false → SoFar old now left known → ReadsLine old new left known true
ended_by true old now taken new left known is part plain same first some so_far = line_ended old now taken new left known so_far part plain same first some
ended_by false old now taken new left known is part plain same first some so_far = absurd (false_true is)

-- the line is what was read before the text ended
pub at_end_by : (is_last : Bool) (old now part_taken read new : LinesHeld) (left : List ℕ) (known more : Option (List ℕ)) → is_last ≡ false → TakesPart now part_taken is_last
    → read.line ≡ part_taken.line → read.count ≡ part_taken.count → Consumes known more read.ahead → read.ahead ≡ [] → IsAtEnd more
    → 0 < length read.line → new.line ≡ map blank_of read.line → new.ahead ≡ read.ahead → (new.count == 1) ≡ (read.count == 0)
    → (new.count == 0) ≡ false → SoFar old now left known → ReadsLine old new left more true
at_end_by true old now taken read new left known more is part line count consumes empty at_end has plain same first some so_far = absurd (true_false is)
at_end_by false old now taken read new left known more is part line count consumes empty at_end has plain same first some so_far =
    line_at_end old read new left more (piece_read old now taken read left known more so_far part line count consumes) empty at_end has plain same first some

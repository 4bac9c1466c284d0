-- Lines of texts, and the requests that they mean.
use Rattle.std.specs.Prelude.{◌==◌, if◌then◌else◌, option_and_then, option_map}
use Rattle.std.proofs.Common.{◌≡◌, ◌<◌, ℕ, Bool, true, false, List, [], ◌∷◌, ◌++◌, length, map, Option, Some, None, refl, sym, ap, ◌∙◌, arith}
use Rattle.std.proofs.lemmas.Option.{none-some}
use Rattle.iscsi_job_text.specs.declared.entry.Entry.{Entry}
use Rattle.iscsi_job_text.specs.Words.{before, behind, in_front, line_words, is_all_taken}
use Rattle.iscsi_job_text.specs.Entries.{PendingEntry, begun_pending}
use Rattle.iscsi_job_text.specs.Taking.{LineTaken, begins_behind, goes_on, is_indented, line_added, taken}
use Rattle.iscsi_job_text.specs.Jobs.{EndsLine, blank_of, job_lines, request_left, requests_from, requests_meant, text_lines, with_finished}
use Rattle.iscsi_job_text.proofs.EntryLemmas.{next_line}

-- ---- lines of two texts

in_front_of_both : (b : ℕ) (lines more : List (List ℕ)) → 0 < length lines → in_front b (lines ++ more) ≡ in_front b lines ++ more
in_front_of_both b [] more some = absurd (omega arith)
in_front_of_both b (line ∷ lines) more some = refl

has_line : (bs : List ℕ) → 0 < length bs → 0 < length (text_lines bs)
has_line bs some = rw (next_line bs some) (omega arith)

longer : (front : List ℕ) → 0 < length (front ++ 0x0a ∷ [])
longer [] = omega arith
longer (b ∷ front) = omega arith

lines_of_both : (front back : List ℕ) → text_lines ((front ++ 0x0a ∷ []) ++ back) ≡ text_lines (front ++ 0x0a ∷ []) ++ text_lines back
lines_of_both [] back = refl
lines_of_both (b ∷ front) back = go (b == 0x0a) (lines_of_both front back)
  where
    whole : List ℕ
    whole = front ++ 0x0a ∷ []

    go : (t : Bool) → text_lines (whole ++ back) ≡ text_lines whole ++ text_lines back
        → (if t then [] ∷ text_lines (whole ++ back) else in_front b (text_lines (whole ++ back)))
        ≡ (if t then [] ∷ text_lines whole else in_front b (text_lines whole)) ++ text_lines back
    go true e = ap (λ (lines : List (List ℕ)). [] ∷ lines) e
    go false e = ap (in_front b) e ∙ in_front_of_both b (text_lines whole) (text_lines back) (has_line whole (longer front))

pub plain_both : (front back : List ℕ) → map blank_of (front ++ back) ≡ map blank_of front ++ map blank_of back
plain_both [] back = refl
plain_both (b ∷ front) back = ap (λ (bs : List ℕ). blank_of b ∷ bs) (plain_both front back)

job_lines_of_both : (front back : List ℕ) → EndsLine front → job_lines (front ++ back) ≡ job_lines front ++ job_lines back
job_lines_of_both front back ends =
    let whole : map blank_of front ≡ map blank_of ends.0 ++ 0x0a ∷ [] = ap (map blank_of) ends.1 ∙ plain_both ends.0 (0x0a ∷ []) in
    ap text_lines (plain_both front back)
    ∙ ap (λ (bs : List ℕ). text_lines (bs ++ map blank_of back)) whole
    ∙ lines_of_both (map blank_of ends.0) (map blank_of back)
    ∙ ap (λ (bs : List ℕ). text_lines bs ++ job_lines back) (sym whole)

job_has_line : (front : List ℕ) → EndsLine front → 0 < length (job_lines front)
job_has_line front ends =
    let whole : map blank_of front ≡ map blank_of ends.0 ++ 0x0a ∷ [] = ap (map blank_of) ends.1 ∙ plain_both ends.0 (0x0a ∷ []) in
    rw whole (has_line (map blank_of ends.0 ++ 0x0a ∷ []) (longer (map blank_of ends.0)))

-- ---- requests of two texts

-- what lines give behind one that was taken
abbrev pub behind_line : Option LineTaken → List (List ℕ) → Option (List Entry)
behind_line it lines = option_and_then (λ it. with_finished it.finished (requests_from false it.pending lines)) it

-- the request that is read comes before those of more lines
left_before : (p : Option PendingEntry) (lines : List (List ℕ)) (some : List Entry) → requests_from false None lines ≡ Some some
    → requests_from false p lines ≡ Some (request_left p ++ some)
left_before p [] some e = whole p e
  where
    whole : (p : Option PendingEntry) → ◌≡◌ {A = Option (List Entry)} (Some []) (Some some) → Some (request_left p) ≡ Some (request_left p ++ some)
    whole None e = e
    whole (Some q) e = ap (option_map (λ (them : List Entry). q.entry ∷ them)) e
left_before p (line ∷ lines) some e = go (is_all_taken (line_words line)) (is_indented line) (begun_pending line) (left_before p lines some) e
  where
    last : (p q : Option PendingEntry) → requests_from false q lines ≡ Some some
        → with_finished (option_map (λ it. it.entry) p) (requests_from false q lines) ≡ Some (request_left p ++ some)
    last None q e = e
    last (Some old) q e = ap (option_map (λ (them : List Entry). old.entry ∷ them)) e

    go : (t i : Bool) (q : Option PendingEntry)
        → (requests_from false None lines ≡ Some some → requests_from false p lines ≡ Some (request_left p ++ some))
        → behind_line (if t then Some (goes_on None) else (if i then option_map (λ it. goes_on (Some it)) (line_added None line) else option_map (begins_behind None) q)) lines ≡ Some some
        → behind_line (if t then Some (goes_on p) else (if i then option_map (λ it. goes_on (Some it)) (line_added p line) else option_map (begins_behind p) q)) lines ≡ Some (request_left p ++ some)
    go true i q again e = again e
    go false true q again e = absurd (none-some some e)
    go false false None again e = absurd (none-some some e)
    go false false (Some q) again e = last p (Some q) e

-- more lines behind those that gave some requests
put_behind : (it : Option Entry) (got more : Option (List Entry)) (some others : List Entry)
    → ((them : List Entry) → got ≡ Some them → more ≡ Some (them ++ others))
    → with_finished it got ≡ Some some → with_finished it more ≡ Some (some ++ others)
put_behind None got more some others step e = step some e
put_behind (Some entry) None more some others step e = absurd (none-some some e)
put_behind (Some entry) (Some them) more some others step e =
    ap (option_map (λ (them : List Entry). entry ∷ them)) (step them refl)
    ∙ ap (option_map (λ (them : List Entry). them ++ others)) e

line_behind : (it : Option LineTaken) (lines more : List (List ℕ)) (some others : List Entry)
    → ((p : Option PendingEntry) (them : List Entry) → requests_from false p lines ≡ Some them → requests_from false p (lines ++ more) ≡ Some (them ++ others))
    → behind_line it lines ≡ Some some → behind_line it (lines ++ more) ≡ Some (some ++ others)
line_behind None lines more some others step e = absurd (none-some some e)
line_behind (Some it) lines more some others step e =
    put_behind it.finished (requests_from false it.pending lines) (requests_from false it.pending (lines ++ more)) some others (step it.pending) e

lines_behind : (p : Option PendingEntry) (lines more : List (List ℕ)) (some others : List Entry)
    → requests_from false None more ≡ Some others → requests_from false p lines ≡ Some some
    → requests_from false p (lines ++ more) ≡ Some (some ++ others)
lines_behind p [] more some others behind e =
    left_before p more others behind ∙ ap (option_map (λ (them : List Entry). them ++ others)) e
lines_behind p (line ∷ lines) more some others behind e =
    line_behind (taken false p line) lines more some others (λ (q : Option PendingEntry) (them : List Entry). lines_behind q lines more them others behind) e

first_behind : (first : Bool) (lines more : List (List ℕ)) (some others : List Entry) → 0 < length lines
    → requests_from first None lines ≡ Some some → requests_from false None more ≡ Some others
    → requests_from first None (lines ++ more) ≡ Some (some ++ others)
first_behind first [] more some others has e behind = absurd (omega arith)
first_behind first (line ∷ lines) more some others has e behind =
    line_behind (taken first None line) lines more some others (λ (q : Option PendingEntry) (them : List Entry). lines_behind q lines more them others behind) e

-- the requests of two texts are those of both
pub of_both : (first : Bool) (front back : List ℕ) (some more : List Entry) → EndsLine front → requests_meant first front ≡ Some some
    → requests_meant false back ≡ Some more → requests_meant first (front ++ back) ≡ Some (some ++ more)
of_both first front back some more ends e behind =
    ap (requests_from first None) (job_lines_of_both front back ends)
    ∙ first_behind first (job_lines front) (job_lines back) some more (job_has_line front ends) e behind

-- ---- lines that are read

-- a line that finishes no request is passed over
pub lines_go_on : (rest line more : List ℕ) (p q : Option PendingEntry) → 0 < length rest → line ≡ before 0x0a rest → more ≡ behind 0x0a rest
    → taken false p line ≡ Some (goes_on q) → requests_from false p (text_lines rest) ≡ requests_from false q (text_lines more)
lines_go_on rest line more p q some front back e =
    ap (requests_from false p) (next_line rest some)
    ∙ ap (λ (bs : List ℕ). behind_line (taken false p bs) (text_lines (behind 0x0a rest))) (sym front)
    ∙ ap (λ (it : Option LineTaken). behind_line it (text_lines (behind 0x0a rest))) e
    ∙ ap (λ (bs : List ℕ). requests_from false q (text_lines bs)) (sym back)

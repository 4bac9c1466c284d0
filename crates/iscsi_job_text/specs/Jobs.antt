-- The requests that a text means, and what lines say of one (own rules).
use Rattle.std.specs.Prelude.{◌≡◌, ℕ, ◌==◌, ◌||◌, ◌&&◌, not, Bool, false, if◌then◌else◌, List, [], ◌∷◌, ◌++◌, Option, Some, None, option_map, option_and_then, map}
use Rattle.iscsi_job_text.specs.declared.entry.Entry.{Entry}
use Rattle.iscsi_job_text.specs.Words.{in_front}
use Rattle.iscsi_job_text.specs.Entries.{PendingEntry, said}
use Rattle.iscsi_job_text.specs.Taking.{taken}

-- ---- lines

-- The lines of a text, of which the last may lack its end.
abbrev pub text_lines : List ℕ → List (List ℕ)
text_lines [] = []
text_lines (b ∷ bs) = if b == 0x0a then [] ∷ text_lines bs else in_front b (text_lines bs)

-- A tab and a carriage return are blanks.
abbrev pub blank_of : ℕ → ℕ
blank_of b = if b == 0x09 || b == 0x0d then 0x20 else b

-- A byte is no blank but a space.
abbrev pub is_plain_byte : ℕ → Bool
is_plain_byte b = not (b == 0x09) && not (b == 0x0d)

-- The lines of a text, with spaces for blanks.
abbrev pub job_lines : List ℕ → List (List ℕ)
job_lines text = text_lines (map blank_of text)

-- ---- requests

-- A request, if there is one.
abbrev pub request_left : Option PendingEntry → List Entry
request_left None = []
request_left (Some pending) = pending.entry ∷ []

-- These requests, and one in front of them if it is finished.
abbrev pub with_finished : Option Entry → Option (List Entry) → Option (List Entry)
with_finished None entries = entries
with_finished (Some entry) entries = option_map (λ them. entry ∷ them) entries

-- The requests that lines mean, with the one that is read before them; `first` says that no line was
-- before them.
abbrev pub requests_from : Bool → Option PendingEntry → List (List ℕ) → Option (List Entry)
requests_from first pending [] = Some (request_left pending)
requests_from first pending (line ∷ lines) =
    option_and_then (λ it. with_finished it.finished (requests_from false it.pending lines)) (taken first pending line)

-- The requests that a text means, in the order of its lines; `first` says that it is a whole job, whose first
-- line may name the form.
abbrev pub requests_meant : Bool → List ℕ → Option (List Entry)
requests_meant first text = requests_from first None (job_lines text)

-- ---- what lines say

-- A text ends with a line end.
abbrev pub EndsLine : List ℕ → Type 0
EndsLine text = (front : List ℕ) × (text ≡ front ++ 0x0a ∷ [])

-- Lines mean one request, of which they say all that is said of this one.
pub record Says (lines : List ℕ) (entry : Entry) : Type 0 where
  pub ended : EndsLine lines
  pub meant : Entry
  pub one : requests_meant false lines ≡ Some (meant ∷ [])
  pub same : said meant ≡ said entry

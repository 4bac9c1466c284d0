-- What a line makes of what was read of a job before it (own rules).
use Rattle.std.specs.Prelude.{ℕ, ◌==◌, Bool, true, false, if◌then◌else◌, List, [], ◌∷◌, Option, Some, None, option_map, codes}
use Rattle.iscsi_job_text.specs.declared.entry.Entry.{Entry}
use Rattle.iscsi_job_text.specs.Words.{line_words, is_next, is_all_taken, words_behind, number}
use Rattle.iscsi_job_text.specs.Requests.{whole_line}
use Rattle.iscsi_job_text.specs.Entries.{PendingEntry, begun_pending, pending_with_line}

-- The request to which no line is added any more, if there is one, and the one that is read.
pub record LineTaken : Type 0 where
  pub finished : Option Entry
  pub pending : Option PendingEntry

-- Nothing is finished, and this is read.
abbrev pub goes_on : Option PendingEntry → LineTaken
goes_on pending = record { finished = None; pending = pending }

-- A request begins, and the one before is finished.
abbrev pub begins_behind : Option PendingEntry → PendingEntry → LineTaken
begins_behind old new = record { finished = option_map (λ it. it.entry) old; pending = Some new }

-- A line begins with a blank.
abbrev pub is_indented : List ℕ → Bool
is_indented [] = false
is_indented (b ∷ bs) = b == 0x20

-- The form with this number is the one that is read.
abbrev pub is_form : Option ℕ → Option Bool
is_form None = None
is_form (Some n) = if n == 2 then Some true else None

-- Whether words name the form of the text; nothing, if they name another one.
abbrev pub form_by : List (List ℕ) → Option Bool
form_by words =
    if is_next (codes "job") words
    then is_form (whole_line (number 18446744073709551615 (words_behind words)))
    else Some false

-- Whether a line names the form; the first line alone may.
abbrev pub form_named : Bool → List ℕ → Option Bool
form_named true line = form_by (line_words line)
form_named false line = Some false

-- What a line makes that may name the form, and else begins a request.
abbrev pub line_begins : Option Bool → Option PendingEntry → List ℕ → Option LineTaken
line_begins None pending line = None
line_begins (Some true) pending line = Some (goes_on pending)
line_begins (Some false) pending line = option_map (begins_behind pending) (begun_pending line)

-- The request with the line below it, if there is one.
abbrev pub line_added : Option PendingEntry → List ℕ → Option PendingEntry
line_added None line = None
line_added (Some pending) line = pending_with_line pending line

-- What a line makes of the request that is read, if it is one of a job; `first` says that no line was
-- before it.
abbrev pub taken : Bool → Option PendingEntry → List ℕ → Option LineTaken
taken first pending line =
    if is_all_taken (line_words line) then Some (goes_on pending)
    else (if is_indented line
    then option_map (λ it. goes_on (Some it)) (line_added pending line)
    else line_begins (form_named first line) pending line)

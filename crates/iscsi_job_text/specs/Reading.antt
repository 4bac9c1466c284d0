-- What readers hold, and what they leave (own rules).
use Rattle.std.specs.Prelude.{◌≡◌, ◌≤◌, ℕ, ◌==◌, not, Bool, true, false, List, [], ◌∷◌, ◌++◌, length, drop, Option, Some, None}
use Rattle.iscsi_text.specs.Text.{HasNo}
use Rattle.iscsi_job_text.specs.declared.entry.Entry.{Entry}
use Rattle.iscsi_job_text.specs.Entries.{PendingEntry}
use Rattle.iscsi_job_text.specs.Jobs.{job_lines, requests_from, with_finished}

-- ---- lines

-- A reader of lines: the last line that was read, what was read behind it, and how many lines were read.
pub record LinesHeld : Type 0 where
  pub line : List ℕ
  pub ahead : List ℕ
  pub count : ℕ

-- No line was read.
abbrev pub no_lines : LinesHeld
no_lines = record { line = []; ahead = []; count = 0 }

-- What follows a part of a line: a line end, if it is the last one.
abbrev pub behind_part : Bool → List ℕ → List ℕ
behind_part true rest = 0x0a ∷ rest
behind_part false rest = rest

-- So many bytes were taken in front, of which those of a line went to it; a line end is behind them, or
-- nothing.
pub record TakesFront (ahead old new : List ℕ) (count : ℕ) (is_last : Bool) : Type 0 where
  pub part : List ℕ
  pub inside : HasNo 0x0a part
  pub taken : ahead ≡ part ++ behind_part is_last (drop count ahead)
  pub line : new ≡ old ++ part
  pub bound : count ≤ length ahead
  pub left : is_last ≡ false → count ≡ length ahead

-- A part of a line went from what was read to the line; it is the last one, or nothing is left.
pub record TakesPart (old new : LinesHeld) (is_last : Bool) : Type 0 where
  pub part : List ℕ
  pub inside : HasNo 0x0a part
  pub taken : old.ahead ≡ part ++ behind_part is_last new.ahead
  pub line : new.line ≡ old.line ++ part
  pub left : is_last ≡ false → new.ahead ≡ []
  pub count : new.count ≡ old.count

-- The next line was read, with spaces for its blanks, or none is left.
pub record ReadsLine (old new : LinesHeld) (left : List ℕ) (now : Option (List ℕ)) (is_more : Bool) : Type 0 where
  pub rest : List ℕ
  pub known : now ≡ Some rest
  pub more : is_more ≡ true → job_lines (old.ahead ++ left) ≡ new.line ∷ job_lines (new.ahead ++ rest)
  pub none : is_more ≡ false → (old.ahead ++ left ≡ []) × (new.ahead ++ rest ≡ [])
  pub first : is_more ≡ true → (new.count == 1) ≡ (old.count == 0)
  pub some : is_more ≡ true → (new.count == 0) ≡ false

-- ---- requests

-- A reader of a job: whether a line was read, the request that is read, and what was read behind it.
pub record JobHeld : Type 0 where
  pub is_begun : Bool
  pub pending : Option PendingEntry
  pub ahead : List ℕ

-- The same, by its reader of lines.
abbrev pub job_held : LinesHeld → Option PendingEntry → JobHeld
job_held lines pending = record { is_begun = not (lines.count == 0); pending = pending; ahead = lines.ahead }

-- Nothing of the job was read.
abbrev pub unread_job : JobHeld
unread_job = record { is_begun = false; pending = None; ahead = [] }

-- The requests that are still to come, if this is what is left of the text.
abbrev pub requests_left : JobHeld → List ℕ → Option (List Entry)
requests_left job left = requests_from (not job.is_begun) job.pending (job_lines (job.ahead ++ left))

-- The next of the requests that a text means was read, or none is left.
pub record ReadsRequest (old new : JobHeld) (left : List ℕ) (now : Option (List ℕ)) (found : Option Entry) : Type 0 where
  pub rest : List ℕ
  pub known : now ≡ Some rest
  pub next : requests_left old left ≡ with_finished found (requests_left new rest)
  pub end : found ≡ None → requests_left old left ≡ Some []

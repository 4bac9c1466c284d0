-- What the lines of a request mean together: the request, when it was sent, and what came of it (own
-- rules).
use Rattle.std.specs.Prelude.{◌≡◌, ℕ, ◌||◌, Bool, false, if◌then◌else◌, List, [], Option, Some, None, is_some, is_none, option_map, codes}
use Rattle.iscsi_job.specs.declared.item.Ended.{Ended}
use Rattle.iscsi_job_text.specs.declared.entry.Entry.{Entry}
use Rattle.iscsi_job_text.specs.declared.entry.Time.{Time}
use Rattle.iscsi_job_text.specs.Words.{Reading, ◌>>=◌, means, is_next, words_behind, line_words, number, optional}
use Rattle.iscsi_job_text.specs.Requests.{Request, request_of, whole_line}
use Rattle.iscsi_job_text.specs.Outcomes.{Outcome, outcome_in}

-- ---- one line

-- An entry of which its first line was read.
abbrev pub begun_entry : Request → Entry
begun_entry request = record {
  item = record {
    asked = request.0;
    sent = request.1.bytes;
    ended = None;
    sense = [];
    received = [];
  };
  sent = request.1.stored;
  received = None;
  time = None;
}

-- The entry that the line of a request begins, if it is one.
abbrev pub begun : List ℕ → Option Entry
begun line = option_map begun_entry (request_of line)

-- `T`, `T took D`
abbrev pub time_said : Reading Time
time_said = do
  sent ← number 18446744073709551615
  took ← optional (codes "took") (number 18446744073709551615)
  means (record { sent = sent; took = took })

-- The entry was sent then.
abbrev pub with_time : Entry → Time → Entry
with_time entry time = record entry { time = Some time }

-- This came of the entry.
abbrev pub with_outcome : Entry → Outcome → Entry
with_outcome entry outcome = record entry {
  item = record entry.item {
    ended = outcome.ended;
    sense = outcome.sense;
    received = outcome.received.bytes;
  };
  received = outcome.received.stored;
}

-- The entry with what words below it say: its time, or its outcome.
abbrev pub entry_with_words : Entry → List (List ℕ) → Option Entry
entry_with_words entry words =
    if is_next (codes "time") words
    then option_map (with_time entry) (whole_line (time_said (words_behind words)))
    else (if is_next (codes "was") words
    then option_map (with_outcome entry) (whole_line (outcome_in entry.item.asked (words_behind words)))
    else None)

-- The entry with what a line below it says.
abbrev pub entry_with_line : Entry → List ℕ → Option Entry
entry_with_line entry line = entry_with_words entry (line_words line)

-- ---- lines

-- A request to which lines may be added, until it has an outcome.
pub record PendingEntry : Type 0 where
  pub entry : Entry
  pub has_outcome : Bool

-- An entry to which no line was added.
abbrev pub fresh_entry : Entry → PendingEntry
fresh_entry entry = record { entry = entry; has_outcome = false }

-- The request that a line begins, if it is one.
abbrev pub begun_pending : List ℕ → Option PendingEntry
begun_pending line = option_map fresh_entry (begun line)

-- What the entry before turned to by a line; behind a time one line more is taken.
abbrev pub added_to : Entry → Entry → PendingEntry
added_to old new = record { entry = new; has_outcome = is_some old.time || is_none new.time }

-- The request with the line below it, if it is one and the request has no outcome yet.
abbrev pub pending_with_line : PendingEntry → List ℕ → Option PendingEntry
pending_with_line pending line =
    if pending.has_outcome then None
    else option_map (added_to pending.entry) (entry_with_line pending.entry line)

-- ---- what a text says

abbrev pub said_if : Option Ended → Entry → Entry
said_if (Some ended) entry = entry
said_if None entry = record entry {
  item = record entry.item { sense = []; received = [] };
  received = None;
}

-- What a text says of an entry: all, but that it leaves out what came of a request without an outcome.
abbrev pub said : Entry → Entry
said entry = said_if entry.item.ended entry

-- Two entries ask the same, ended alike, and have the same times and places.
pub record AskTheSame (one other : Entry) : Type 0 where
  pub asked : one.item.asked ≡ other.item.asked
  pub sent : one.item.sent ≡ other.item.sent
  pub ended : one.item.ended ≡ other.item.ended
  pub stored : one.sent ≡ other.sent
  pub time : one.time ≡ other.time

-- The same came of two entries.
pub record GaveTheSame (one other : Entry) : Type 0 where
  pub sense : one.item.sense ≡ other.item.sense
  pub received : one.item.received ≡ other.item.received
  pub stored : one.received ≡ other.received

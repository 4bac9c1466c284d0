-- What a line says of an outcome, by the words behind `was` (own rules).
use Rattle.std.specs.Prelude.{ℕ, if◌then◌else◌, List, [], Option, Some, None, unwrap_or, codes}
use Rattle.scsi_cdb.specs.declared.residual.Residual.{Residual}
use Rattle.scsi_cdb.specs.declared.residual.Residual.TheVariants as residuals
use Rattle.iscsi_job.specs.declared.item.Asked.{Asked}
use Rattle.iscsi_job.specs.declared.item.Asked.TheVariants as asked
use Rattle.iscsi_job.specs.declared.item.Ended.{Ended}
use Rattle.iscsi_job.specs.declared.item.Ended.TheVariants as ended
use Rattle.iscsi_job_text.specs.Words.{Reading, ◌>>=◌, means, is_next, words_behind, without_next, number, optional, byte, hex_behind, Data, no_data, data_before, data_behind}

-- How a request ended, if it was answered, and what came.
pub record Outcome : Type 0 where
  pub ended : Option Ended
  pub sense : List ℕ
  pub received : Data

-- It was not answered.
abbrev pub unanswered : Outcome
unanswered = record { ended = None; sense = []; received = no_data }

-- It ended so, with this sense and these data.
abbrev pub ends_with : Ended → List ℕ → Data → Outcome
ends_with end sense received = record { ended = Some end; sense = sense; received = received }

-- It ended so, and nothing came with it.
abbrev pub bare : Ended → Outcome
bare end = ends_with end [] no_data

-- ---- commands

-- A response and a status, of which one may be missing; it is 0 then. `good` stands in place of both, or
-- behind a response.
abbrev pub statuses : Option ℕ → Option ℕ → Reading (ℕ × ℕ)
statuses None None words =
    if is_next (codes "good") words then Some ((0, 0), words_behind words) else None
statuses (Some response) None words = Some ((response, 0), without_next (codes "good") words)
statuses response (Some status) words = Some ((unwrap_or response 0, status), words)

abbrev pub response_and_status : Reading (ℕ × ℕ)
response_and_status = do
  response ← optional (codes "response") byte
  status ← optional (codes "status") byte
  statuses response status

-- `over N` or nothing, where `under` stands not there
abbrev pub over_by : Option ℕ → Reading Residual
over_by None = means residuals.Exact
over_by (Some n) = means (residuals.Over n)

abbrev pub residual_by : Option ℕ → Reading Residual
residual_by (Some n) = means (residuals.Under n)
residual_by None = do
  over ← optional (codes "over") (number 4294967295)
  over_by over

-- `under N`, `over N` or nothing
abbrev pub residual_said : Reading Residual
residual_said = do
  under ← optional (codes "under") (number 4294967295)
  residual_by under

-- How a command ended, with its sense and its data.
abbrev pub command_ended : Reading Outcome
command_ended = do
  first ← response_and_status
  sense ← hex_behind (codes "sense")
  count ← residual_said
  received ← data_behind (codes "data")
  means (ends_with (ended.Command first.0 first.1 count) sense received)

-- ---- other requests

-- the data of an answer
abbrev pub answer_data : Ended → Reading Outcome
answer_data end = do
  received ← data_before []
  means (ends_with end [] received)

-- the answer that this word names
abbrev pub answer_named : List ℕ → Ended → Reading Outcome
answer_named word end words = if is_next word words then answer_data end (words_behind words) else None

-- `closed`
abbrev pub closed_said : Reading Outcome
closed_said words =
    if is_next (codes "closed") words then Some (bare ended.Closed, words_behind words) else None

abbrev pub task_end : Option ℕ → Reading Outcome
task_end None words = None
task_end (Some response) words = Some (bare (ended.Task response), words)

-- `done RR`
abbrev pub task_ended : Reading Outcome
task_ended = do
  response ← optional (codes "done") byte
  task_end response

-- How a request of this kind ended.
abbrev pub ended_said : Asked → Reading Outcome
ended_said (asked.Command lun block way expected) = command_ended
ended_said asked.Ping = answer_named (codes "ping") ended.Ping
ended_said asked.Text = answer_named (codes "text") ended.Text
ended_said asked.Logout = closed_said
ended_said (asked.Task function) = task_ended

-- What came of a request of this kind.
abbrev pub outcome_in : Asked → Reading Outcome
outcome_in what words =
    if is_next (codes "unanswered") words then Some (unanswered, words_behind words)
    else (if is_next (codes "none") words then Some (unanswered, words_behind words)
    else ended_said what words)

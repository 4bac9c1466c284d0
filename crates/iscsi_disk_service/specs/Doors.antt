-- Who may log in at the service of a disk, and what such a service did.
use Rattle.std.specs.Prelude.{◌≡◌, Bool, ℕ, List, [], ◌∷◌, Option, Some, None, is_some}
use Rattle.iscsi_target.specs.Feed.{Store}
use Rattle.iscsi_serving.specs.Access.{Door}
use Rattle.iscsi_event_loop.specs.Running.{Served}
use Rattle.iscsi_serve_words.specs.Rows.{serve_rows}
use Rattle.iscsi_serve_words.specs.Said.{SaysJob, said_names}
use Rattle.iscsi_serve_words.specs.declared.serve_words.ServeJob.{ServeJob}

-- The names, if there is one.
abbrev pub some_names : List (List ℕ) → Option (List (List ℕ))
some_names [] = None
some_names (name ∷ names) = Some (name ∷ names)

-- The names that the words list behind `--initiator`, if they list some.
abbrev pub listed_names : List (List ℕ) → Option (List (List ℕ))
listed_names words = some_names (said_names (serve_rows words))

-- What was done over a store was done by a service that the words ask for, and their job. Whoever came was
-- let in at a door where one secret has to be shown exactly if the job names a file of secrets, and which
-- lists the names that the words list. And the store refuses each write exactly if the job says so.
pub record ServesAsked (words : List (List ℕ)) (job : ServeJob) (protected : Bool) (before after : Store) : Type 0 where
  pub says : SaysJob words job
  pub door : Door
  pub secrets : is_some door.secrets ≡ is_some job.secrets
  pub names : door.names ≡ listed_names words
  pub read_only : protected ≡ job.read_only
  pub count : ℕ
  pub served : Served protected count door before after

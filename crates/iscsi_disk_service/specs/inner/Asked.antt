-- What a job asks of its service, whatever the store: who may log in, and whether blocks change.
use Rattle.std.specs.Prelude.{◌≡◌, Bool, ℕ, List, is_some}
use Rattle.iscsi_serving.specs.Access.{door_of}
use Rattle.iscsi_serving.specs.declared.access.Access.{Access}
use Rattle.iscsi_serve_words.specs.Said.{SaysJob}
use Rattle.iscsi_serve_words.specs.declared.serve_words.ServeJob.{ServeJob}
use Rattle.iscsi_disk_service.specs.Doors.{listed_names}

-- The job is what the words say. A login has to show a secret exactly where a file of secrets is named, the initiators that may log in
-- are those that the words list, if they list some, and the store refuses writes exactly where the disk
-- is to be read alone.
pub record IsAsked (words : List (List ℕ)) (job : ServeJob) (access : Access) (protected : Bool) : Type 0 where
  pub says : SaysJob words job
  pub secrets : is_some access.secrets ≡ is_some job.secrets
  pub names : (door_of access).names ≡ listed_names words
  pub read_only : protected ≡ job.read_only

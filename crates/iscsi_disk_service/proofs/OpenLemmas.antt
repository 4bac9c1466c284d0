-- Which images can be opened, and who may log in.
use Rattle.std.proofs.Common.{◌≡◌, ◌∙◌, ap, subst, refl, sym, Bool, ℕ, List, Option, Some, None, map, option_map}
use Rattle.std.specs.Prelude.{is_some}
use Rattle.iscsi_target.specs.Feed.{Store}
use Rattle.iscsi_event_loop.specs.Running.{Served}
use Rattle.iscsi_serve_words.specs.declared.serve_words.ServeJob.{ServeJob}
use Rattle.iscsi_serve_words.specs.declared.storage.Origin.{Origin}
use Rattle.iscsi_serve_words.specs.declared.storage.Origin.TheVariants as origin
use Rattle.iscsi_serve_words.specs.Storage.{CanBeOpened, IsOrigin}
use Rattle.iscsi_serve_words.specs.Rows.{serve_rows}
use Rattle.iscsi_serve_words.specs.Said.{said_names}
use Rattle.iscsi_serving.specs.Access.{Door, door_of}
use Rattle.iscsi_serving.specs.declared.access.Access.{Access}
use Rattle.iscsi_disk_service.specs.Doors.{ServesAsked, some_names, listed_names}
use Rattle.iscsi_disk_service.specs.inner.Asked.{IsAsked}

pub can_be_opened : (o : Origin) → IsOrigin o → CanBeOpened o
can_be_opened (origin.Found blocks) is = tt
can_be_opened (origin.New blocks) is = is

shown : {X Y : Type 0} (f : X → Y) (o : Option X) → is_some (option_map f o) ≡ is_some o
shown f (Some x) = refl
shown f None = refl

-- a run of the service is one that was asked for
pub serves_asked : (words : List (List ℕ)) (job : ServeJob) (access : Access) (protected : Bool) (count : ℕ) (before after : Store)
    → IsAsked words job access protected → Served protected count (door_of access) before after → ServesAsked words job protected before after
serves_asked words job access protected count before after is served = record {
  says = is.says;
  door = door_of access;
  secrets = shown (λ secrets. secrets.now) access.secrets ∙ is.secrets;
  names = is.names;
  read_only = is.read_only;
  count = count;
  served = served;
}

-- so is a run behind others, at the same door
pub run_asked : (words : List (List ℕ)) (job : ServeJob) (access : Access) (protected : Bool) (count : ℕ) (door : Door) (before after : Store)
    → IsAsked words job access protected → Served protected count door before after → door ≡ door_of access → ServesAsked words job protected before after
run_asked words job access protected count door before after is served same =
    serves_asked words job access protected count before after is (subst (λ (d : Door). Served protected count d before after) same served)

-- the names that were read are those that the words list
pub lists_them : (words names : List (List ℕ)) → names ≡ said_names (serve_rows words) → some_names names ≡ listed_names words
lists_them words names is = ap some_names is

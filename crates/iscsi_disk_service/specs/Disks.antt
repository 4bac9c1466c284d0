-- How the service of a disk ends, and with which exit status.
use Rattle.std.specs.Prelude.{◌≡◌, ℕ, Result, Ok, Err, Some}
use Rattle.iscsi_secrets.specs.declared.fault.SecretsFault.{SecretsFault}
use Rattle.iscsi_secrets.specs.declared.fault.SecretsFault.TheVariants as secrets
use Rattle.iscsi_serving.specs.Faults.{serve_exit_status}
use Rattle.iscsi_serve_words.specs.declared.command_line.LineFault.{LineFault}
use Rattle.iscsi_serve_words.specs.declared.serve_words.ServeJob.{ServeJob}
use Rattle.iscsi_serve_words.specs.declared.storage.Storage.{Storage}
use Rattle.iscsi_serve_words.specs.declared.storage.Storage.TheVariants as storage
use Rattle.iscsi_serve_words.specs.Services.{IsServeJob}
use Rattle.iscsi_serve_words.specs.Words.{words_status}
use Rattle.iscsi_disk_service.specs.declared.storing.DiskFault.{DiskFault}
use Rattle.iscsi_disk_service.specs.declared.storing.DiskFault.TheVariants as disk

-- The exit status of a file of secrets that is not taken: 3 for memory, else 4.
abbrev pub secrets_status : SecretsFault → ℕ
secrets_status secrets.NoMemory = 3
secrets_status _ = 4

-- The exit status of a fault: that of the service, that of the secrets, or 4 for an image and an export.
abbrev pub disk_status : DiskFault → ℕ
disk_status (disk.Session fault) = serve_exit_status fault
disk_status (disk.Image image fault) = 4
disk_status (disk.Nbd export fault) = 4
disk_status (disk.Secrets path fault) = secrets_status fault

-- The exit status of a service: 0 if it is done, else that of its fault.
abbrev pub service_status : Result (Unit {0}) DiskFault → ℕ
service_status (Ok done) = 0
service_status (Err fault) = disk_status fault

-- A service ended so: as its sessions did, or since this very image or export could not be served.
abbrev pub EndsStorage : Storage → Result (Unit {0}) DiskFault → Type 0
EndsStorage kept (Ok done) = Unit {0}
EndsStorage kept (Err (disk.Session fault)) = Unit {0}
EndsStorage (storage.Image image) (Err (disk.Image blamed fault)) = blamed ≡ image
EndsStorage (storage.Nbd export) (Err (disk.Nbd blamed fault)) = blamed ≡ export
EndsStorage _ _ = ⊥

-- A service that was asked for ended so: as its disk did, or since this very file of secrets was not taken.
abbrev pub EndsDisk : ServeJob → Result (Unit {0}) DiskFault → Type 0
EndsDisk job (Err (disk.Secrets path fault)) = job.secrets ≡ Some path
EndsDisk job said = EndsStorage job.storage said

-- What was asked for ended with this exit status: the service ran, or the words were refused.
abbrev pub RunsService : Result ServeJob LineFault → ℕ → Type 0
RunsService (Ok job) status = IsServeJob job × ((said : Result (Unit {0}) DiskFault)
    × EndsDisk job said × (status ≡ service_status said))
RunsService (Err fault) status = status ≡ words_status fault

-- Which services can be run: each number is in its range.
use Rattle.std.specs.Prelude.{IfSome}
use Rattle.scsi_unit.specs.LogicalUnit.{IsSerial}
use Rattle.iscsi_options.specs.Options.{AreLimits, IsMemory, IsService}
use Rattle.iscsi_serve_words.specs.declared.serve_words.ServeJob.{ServeJob}
use Rattle.iscsi_serve_words.specs.declared.serve_words.Service.{Service}
use Rattle.iscsi_serve_words.specs.declared.serve_words.Service.TheVariants as service
use Rattle.iscsi_serve_words.specs.Storage.{IsStorage}

-- A service has from 1 to 64 sessions at a time, and a target's name. A limit of time is 1 second at
-- least.
abbrev pub CanServe : Service → Type 0
CanServe (service.InTurn options) = IsService options
CanServe (service.AtOnce options) = IsService options × AreLimits options.limits

-- The disk has 1 to 2^40 blocks, but for that of an image that is there, and it can be served so. A serial
-- number that is said is one, and a limit of memory has room for some blocks.
pub record IsServeJob (job : ServeJob) : Type 0 where
  pub storage : IsStorage job.storage
  pub service : CanServe job.service
  pub serial : IfSome job.serial (λ serial. IsSerial serial.now)
  pub memory : IfSome job.memory IsMemory

-- Sessions over a socket: what they leave, and what ends them.
--
-- `protected` says of the store that it refuses each write.
use Rattle.std.specs.Prelude.{Bool, ◌≡◌, ℕ, List, Result, Ok, Err}
use Rattle.scsi_disk.specs.Disk.{Disk}
use Rattle.iscsi_target.specs.declared.fault.TargetFault.TheVariants as target
use Rattle.iscsi_target_session.specs.Configured.{TargetSettings}
use Rattle.iscsi_serve.specs.declared.session_fault.SessionFault.{SessionFault}
use Rattle.iscsi_serve.specs.declared.session_fault.SessionFault.TheVariants as session
use Rattle.iscsi_serving.specs.declared.fault.ServeFault.{ServeFault}
use Rattle.iscsi_serving.specs.declared.fault.ServeFault.TheVariants as serve
use Rattle.iscsi_serving.specs.Faults.{target_serve_fault}
use Rattle.iscsi_serve.specs.Session.{ServesAllPdus, ServesFirstPdus, ServesFront, SessionEndsBy}

-- A session's fault over a stream; its `NoMemory` is the session's own.
abbrev pub session_fault : SessionFault → ServeFault
session_fault session.NoMemory = serve.NoMemory
session_fault (session.Target fault) = target_serve_fault fault
session_fault session.Read = serve.Read
session_fault session.Sync = serve.Sync
session_fault session.Write = serve.Write

-- What a session over a socket leaves where it ends, and why it ends so: nothing is done where no
-- connection was accepted. No fault wraps the want of memory.
abbrev pub ServeOnePost : Bool → TargetSettings → Disk → Result (Unit {0}) ServeFault → List ℕ
    → Disk
    → List ℕ
    → Type 0
ServeOnePost protected settings disk (Ok done) read disk_now written =
    ServesAllPdus protected settings disk read disk_now written
    × SessionEndsBy protected settings disk (Ok done) read
ServeOnePost protected settings disk (Err (serve.Target target.NoMemory)) read disk_now written = ⊥
ServeOnePost protected settings disk (Err (serve.Target fault)) read disk_now written =
    ServesAllPdus protected settings disk read disk_now written
    × SessionEndsBy protected settings disk (Err (session.Target fault)) read
ServeOnePost protected settings disk (Err serve.Read) read disk_now written =
    ServesAllPdus protected settings disk read disk_now written
    × SessionEndsBy protected settings disk (Err session.Read) read
ServeOnePost protected settings disk (Err serve.Network) read disk_now written = disk_now ≡ disk
ServeOnePost protected settings disk (Err serve.NoMemory) read disk_now written =
    ServesFirstPdus protected settings disk read disk_now written
ServeOnePost protected settings disk (Err serve.Sync) read disk_now written =
    ServesFront protected settings disk read disk_now written
ServeOnePost protected settings disk (Err serve.Write) read disk_now written =
    ServesFront protected settings disk read disk_now written
ServeOnePost protected settings disk (Err serve.NoRandom) read disk_now written = ⊥
ServeOnePost protected settings disk (Err (serve.Initiator fault)) read disk_now written = ⊥
ServeOnePost protected settings disk (Err (serve.Script line)) read disk_now written = ⊥

-- More of `LoopPairs`, of which no public contract speaks.
use Rattle.std.specs.Prelude.{◌≡◌, ℕ, List, [], ◌∷◌, ◌++◌, None, Option, Result, Ok, Err}
use Rattle.std.specs.Io.KnownBytes.{Appends}
use Rattle.scsi_disk.specs.Disk.{Disk, disk_of, zeros}
use Rattle.iscsi_stream.specs.Normalising.{WroteFront}
use Rattle.iscsi_target.specs.Feed as target
use Rattle.iscsi_initiator.specs.Calls as initiator
use Rattle.iscsi_initiator.specs.declared.request.Done.{Done}
use Rattle.iscsi_initiator.specs.declared.request.Request.{Request}
use Rattle.iscsi_pair.specs.World.{World, PairEvent, new_pair}
use Rattle.iscsi_pair.specs.LocalDisk.{local}
use Rattle.iscsi_pair.specs.Served.{EndsInLogout, RunsServed, requests_of, local_disk_after}
use Rattle.iscsi_loop.specs.declared.command.Command.{Command}
use Rattle.iscsi_serving.specs.declared.fault.ServeFault.{ServeFault}
use Rattle.iscsi_serve.specs.Session.{target_settings}
use Rattle.iscsi_loop.specs.Reports.{report}
use Rattle.iscsi_loop.specs.Looping.{initiator_settings, reports}
use Rattle.iscsi_loop.specs.LoopSteps.{BlamesNoEnd}
use Rattle.iscsi_loop.specs.LoopPairs.{loop_opening, outcomes_on, command_outcomes}

-- ---- what was served

-- Both ends, the target's disk, and the bytes on their way to the target and to the initiator.
pub record BothEnds : Type 0 where
  pub initiator : initiator.InitiatorConnection
  pub target : target.TargetConnection
  pub disk : Disk
  pub out : List ℕ
  pub back : List ℕ

-- These five together.
abbrev pub ends_of : initiator.InitiatorConnection → target.TargetConnection → Disk → List ℕ
    → List ℕ → BothEnds
ends_of initiator target disk out back =
    record { initiator = initiator; target = target; disk = disk; out = out; back = back }

-- Both ends before the login, over n blocks of 00.
abbrev pub new_ends : ℕ → BothEnds
new_ends blocks = ends_of (initiator.opening_initiator initiator_settings)
    (target.opening_target target_settings 1) (zeros blocks) [] []

-- These ends as a pair of which none has failed, with the bytes of its blocks.
abbrev pub world_of : BothEnds → List ℕ → World
world_of ends bytes = record {
  target = ends.target;
  blocks = bytes;
  initiator = ends.initiator;
  to_target = ends.out;
  to_initiator = ends.back;
  target_fault = None;
  initiator_fault = None;
}

-- A new pair came to these ends in a run in which no growth was refused and each request was
-- accepted; these requests were handed in, and these outcomes taken.
pub record HaveServed (blocks : ℕ) (requests : List Request) (outcomes : List Done)
    (ends : BothEnds)
    : Type 0 where
  pub events : List PairEvent
  pub bytes : List ℕ
  pub disk_is : disk_of bytes ≡ ends.disk
  pub requests_are : requests_of events ≡ requests
  pub runs : RunsServed (new_pair (loop_opening blocks)) events (world_of ends bytes) outcomes

-- Whatever the ends had served before, they have served then, and nothing more was asked or taken.
abbrev pub GoOn : BothEnds → BothEnds → Type 0
GoOn old new = (blocks : ℕ) (requests : List Request) (outcomes : List Done)
    → HaveServed blocks requests outcomes old → HaveServed blocks requests outcomes new

-- Whatever the ends had served before, the fault is neither end's.
abbrev pub IsBlameless : BothEnds → ServeFault → Type 0
IsBlameless old fault = (blocks : ℕ) (requests : List Request) (outcomes : List Done)
    → HaveServed blocks requests outcomes old → BlamesNoEnd fault

-- ---- one local disk

-- The outcome of the next request there, behind these (section 4.2).
abbrev pub outcome_on : ℕ → List Request → Request → Done
outcome_on blocks past request =
    (local initiator_settings.proposal.prefs.max_recv None (local_disk_after (loop_opening blocks) past) request).outcome

-- The ends have served these requests as one local disk does, and nothing is on its way.
abbrev pub AreOneDisk : ℕ → List Request → BothEnds → Type 0
AreOneDisk blocks requests ends = HaveServed blocks requests (outcomes_on blocks requests) ends

-- So they have, and the last of the requests is no logout: the session goes on.
abbrev pub AreOpen : ℕ → List Request → BothEnds → Type 0
AreOpen blocks requests ends = AreOneDisk blocks requests ends × (¬ EndsInLogout requests)

-- The ends have served some requests as one local disk does, and nothing is on its way.
abbrev pub AreSomeDisk : ℕ → BothEnds → Type 0
AreSomeDisk blocks ends = (requests : List Request) × AreOneDisk blocks requests ends

-- A request's outcome is that of one local disk, and so are all with it.
abbrev pub PerformsOnDisk : BothEnds → Request → Done → BothEnds → Type 0
PerformsOnDisk old request done new =
    (blocks : ℕ) (past : List Request) → AreOneDisk blocks past old
    → (done ≡ outcome_on blocks past request) × AreOneDisk blocks (past ++ request ∷ []) new

-- A request behind others, on one local disk of n blocks.
pub record RequestOnDisk : Type 0 where
  pub blocks : ℕ
  pub past : List Request
  pub request : Request

-- These three together.
abbrev pub asked : ℕ → List Request → Request → RequestOnDisk
asked blocks past request = record { blocks = blocks; past = past; request = request }

-- The line of the request's outcome there.
abbrev pub outcome_line : RequestOnDisk → List ℕ
outcome_line next = report (outcome_on next.blocks next.past next.request)

-- The line of the request's outcome is written, and the ends have served it; before a fault a front
-- of that line is.
abbrev pub WritesLine : Result (Unit {0}) ServeFault → RequestOnDisk → BothEnds → Option (List ℕ)
    → Option (List ℕ) → Type 0
WritesLine (Ok done) next ends contents_old contents_new =
    AreOneDisk next.blocks (next.past ++ next.request ∷ []) ends
    × Appends contents_old contents_new (outcome_line next)
WritesLine (Err fault) next ends contents_old contents_new =
    WroteFront contents_old contents_new (outcome_line next)

-- The lines of one local disk are written, whole or, before a fault, a front of them.
abbrev pub WritesOnDisk : ℕ → List Command → Result (Unit {0}) ServeFault → Option (List ℕ)
    → Option (List ℕ) → Type 0
WritesOnDisk blocks commands (Ok done) contents_old contents_new =
    Appends contents_old contents_new (reports (command_outcomes blocks commands))
WritesOnDisk blocks commands (Err fault) contents_old contents_new =
    WroteFront contents_old contents_new (reports (command_outcomes blocks commands))

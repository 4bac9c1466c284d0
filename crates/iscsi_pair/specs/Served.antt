-- Runs in which memory is there and every request is accepted (RFC 7143, section 4.2).
use Rattle.std.specs.Prelude.{◌≡◌, ◌⊎◌, ℕ, ◌<◌, ◌≤◌, ◌^◌, false, List, [], ◌∷◌, ◌++◌, length, None}
use Rattle.scsi_disk.specs.Disk.{Disk, disk_of}
use Rattle.iscsi_pdu.specs.Meaning.{AreBytes}
use Rattle.iscsi_text.specs.declared.negotiated.Session.TheVariants as sessions
use Rattle.iscsi_initiator.specs.declared.request.Done.{Done}
use Rattle.iscsi_initiator.specs.declared.request.Request.{Request}
use Rattle.iscsi_initiator.specs.declared.request.Request.TheVariants as requests
use Rattle.iscsi_initiator.specs.Laws.{listed}
use Rattle.iscsi_initiator.specs.State as initiator
use Rattle.iscsi_initiator.specs.Submitted.{most_bytes, submitted}
use Rattle.iscsi_target.specs.State as target
use Rattle.iscsi_pair.specs.World.{World, Opening, IsOpening, SuitEachOther, PairEvent, Submits, Takes, PairEventStep, keeps_no_memory, new_pair}
use Rattle.iscsi_pair.specs.LocalDisk.{AreInStep, HaveParted, local_disk, local_outcomes}

-- The unit and the block of a command have room in their fields (section 11.3).
abbrev pub HasCommandRoom : ℕ → List ℕ → Type 0
HasCommandRoom lun cdb = (lun < 2 ^ 64) × (length cdb ≡ 16) × AreBytes cdb

-- A command, a ping or a logout, as a program can write it (sections 11.3, 11.14 and 11.18).
abbrev pub IsServed : Request → Type 0
IsServed (requests.In lun cdb expected) = HasCommandRoom lun cdb
IsServed (requests.Out lun cdb bytes) = HasCommandRoom lun cdb
IsServed (requests.Ping bytes) = Unit {0}
IsServed (requests.Text bytes) = ⊥
IsServed requests.Logout = Unit {0}

-- A command or a ping that any target takes between two others. A command moves no more than one
-- may, and a ping has no more bytes than each end takes at least (sections 11.3, 11.18 and 13.12).
abbrev pub IsAlwaysTaken : Request → Type 0
IsAlwaysTaken (requests.In lun cdb expected) = HasCommandRoom lun cdb × (expected ≤ most_bytes)
IsAlwaysTaken (requests.Out lun cdb bytes) = HasCommandRoom lun cdb × (length bytes ≤ most_bytes)
IsAlwaysTaken (requests.Ping bytes) = length bytes ≤ 512
IsAlwaysTaken (requests.Text bytes) = ⊥
IsAlwaysTaken requests.Logout = ⊥

-- A request that is handed in is one of these, and accepted (section 4.2).
abbrev pub IsAccepted : PairEvent → World → Type 0
IsAccepted (Submits request) w =
    IsServed request × ((submitted w.initiator.machine request).refusal ≡ None)
IsAccepted _ w = Unit {0}

-- The request that is handed in.
abbrev pub requests_in : PairEvent → List Request
requests_in (Submits request) = request ∷ []
requests_in _ = []

-- The requests that are handed in, in their order.
abbrev pub requests_of : List PairEvent → List Request
requests_of [] = []
requests_of (event ∷ events) = requests_in event ++ requests_of events

-- The outcome that is taken, if there is one.
abbrev pub pair_outcome_in : PairEvent → World → List Done
pair_outcome_in Takes w = listed w.initiator.machine.done
pair_outcome_in _ w = []

-- Events, one after another, in which no growth is refused and each request is accepted, and the
-- outcomes that were taken, in their order.
unfoldable pub RunsServed : World → List PairEvent → World → List Done → Type 0
RunsServed old [] new outcomes = (new ≡ old) × (outcomes ≡ [])
RunsServed old (event ∷ events) new outcomes =
    (mid : World) × (later : List Done) × PairEventStep old event mid × IsAccepted event old
    × (keeps_no_memory mid ≡ false) × (outcomes ≡ pair_outcome_in event old ++ later)
    × RunsServed mid events new later

-- Some run is served in which these requests are handed in and these outcomes taken, and after
-- which nothing is on its way.
pub record SomeRunServes (c : Opening) (all : List Request) (outcomes : List Done) : Type 0 where
  pub events : List PairEvent
  pub world : World
  pub requests_are : requests_of events ≡ all
  pub runs : RunsServed (new_pair c) events world outcomes
  pub none_out : world.to_target ≡ []
  pub none_back : world.to_initiator ≡ []

-- Both ends suit each other, in a normal session (section 6.3).
pub record IsNormal (c : Opening) : Type 0 where
  pub opening : IsOpening c
  pub suits : SuitEachOther c
  pub session : c.initiator.proposal.session ≡ sessions.Normal

-- The outcomes that requests have on one local disk: that of the pair at first, with the unit that the
-- target has, and with pings of as many bytes as the initiator takes.
abbrev pub disk_outcomes : Opening → List Request → List Done
disk_outcomes c =
    local_outcomes c.initiator.proposal.prefs.max_recv c.target.extras.unit (disk_of c.blocks)

-- The disk after them.
abbrev pub local_disk_after : Opening → List Request → Disk
local_disk_after c =
    local_disk c.initiator.proposal.prefs.max_recv c.target.extras.unit (disk_of c.blocks)

-- The last of these requests is a logout (section 11.14).
abbrev pub EndsInLogout : List Request → Type 0
EndsInLogout all = (past : List Request) × (all ≡ past ++ requests.Logout ∷ [])

-- Both ends are in step, or have parted after a logout, the last of these requests.
abbrev pub AreAtEnd : List Request → initiator.InitiatorSession → target.Machine → Type 0
AreAtEnd all m t = AreInStep m t ⊎ (HaveParted m t × EndsInLogout all)

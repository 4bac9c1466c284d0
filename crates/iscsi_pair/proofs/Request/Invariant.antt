-- What both ends keep on whole messages, where the target receives at once all that is sent.
use Rattle.std.proofs.Common.{◌≡◌, ◌≤◌, ℕ, false, List, [], ◌∷◌, ◌++◌, length, Some, None}
use Rattle.scsi_disk.specs.Disk.{Disk}
use Rattle.iscsi_stream.specs.declared.logins.Logins.{Logins}
use Rattle.iscsi_stream.specs.Segment.{logins_after, segment_bytes}
use Rattle.iscsi_stream.specs.Stream.{Message, logins_after_all}
use Rattle.iscsi_target_session.specs.Session as target_session
use Rattle.iscsi_target.specs.State as target
use Rattle.iscsi_target.specs.Machine as target_machine
use Rattle.iscsi_target.specs.Machine.{answers}
use Rattle.iscsi_initiator.specs.declared.request.Done.{Done}
use Rattle.iscsi_initiator.specs.declared.request.Request.{Request}
use Rattle.iscsi_initiator.specs.State as initiator
use Rattle.iscsi_initiator.specs.State.{is_session_closed}
use Rattle.iscsi_initiator.specs.Machine.{initiator_step, outcome_handed_out}
use Rattle.iscsi_initiator.specs.Submitted.{submitted}
use Rattle.iscsi_initiator.specs.Calls as calls
use Rattle.iscsi_pair.specs.World.{Opening}
use Rattle.iscsi_pair.specs.LocalDisk.{DiskExchange}
use Rattle.iscsi_pair.specs.Served.{IsServed}
use Rattle.iscsi_pair.proofs.Wire.PrefixLemmas.{Readable}

-- ---- what is sent

-- The message is read as it was written behind login PDUs that said this, and its segment has at most n bytes.
pub record IsWritten (most : ℕ) (logins : Logins) (m : Message) : Type 0 where
  pub readable : Readable logins m
  pub short : length (segment_bytes m.segment) ≤ most

-- so it is of all of these, one behind the other
abbrev pub AreWritten : ℕ → Logins → List Message → Type 0
AreWritten most logins [] = Unit {0}
AreWritten most logins (m ∷ ms) = IsWritten most logins m × AreWritten most (logins_after logins m.head) ms

-- two parts are written so where each is
pub written_append : (most : ℕ) (logins : Logins) (a b : List Message) → AreWritten most logins a → AreWritten most (logins_after_all logins a) b
    → AreWritten most logins (a ++ b)
written_append most logins [] b p q = q
written_append most logins (m ∷ a) b p q = (p.0, written_append most (logins_after logins m.head) a b p.1 q)

-- the target's session is open when each of these comes
abbrev pub IsOpenFor : target.Machine → Disk → List Message → Type 0
IsOpenFor t disk [] = Unit {0}
IsOpenFor t disk (m ∷ ms) =
    (target_machine.is_machine_closed t ≡ false) × IsOpenFor (target_machine.target_step false t disk m).machine
    (target_machine.target_step false t disk m).disk ms

-- The target receives these well: its session is open when each comes, none breaks a rule, and the answers are read as they
-- were written.
pub record ReceivesWell (most : ℕ) (t : target.Machine) (disk : Disk) (logins : Logins) (ms : List Message) : Type 0 where
  pub open_ : IsOpenFor t disk ms
  pub rule : (answers false t disk ms).rule ≡ None
  pub answered : AreWritten most logins (answers false t disk ms).answers

-- ---- what is kept

-- what was asked of the initiator and what was taken from it, in their order
pub record History : Type 0 where
  pub requests : List Request
  pub outcomes : List Done

-- two ends with the disk between them, where these answers are on their way to the initiator
abbrev pub between : initiator.InitiatorSession → target.Machine → Disk → List Message → DiskExchange
between i t disk back = record { initiator = i; target = t; disk = disk; answers = back }

-- what login PDUs said on the way out and back, those included that are on their way, and what was asked and taken
pub record SoFar : Type 0 where
  pub there : Logins
  pub here : Logins
  pub history : History

-- these three together
abbrev pub so_far : Logins → Logins → History → SoFar
so_far there here h = record { there = there; here = here; history = h }

-- how many bytes of a segment are read by the target, and by the initiator
pub record Limits : Type 0 where
  pub out : ℕ
  pub back : ℕ

-- these two together
abbrev pub limits : ℕ → ℕ → Limits
limits out back = record { out = out; back = back }

abbrev pub limits_of : Opening → Limits
limits_of c = limits (target_session.target_limit c.target) (calls.initiator_limit c.initiator)

-- What holds of both ends and the disk once the target has received all that was sent. The relation speaks also of
-- the answers that the initiator has not yet received, and of what was said, asked and taken.
abbrev pub Relation : Type 1
Relation = DiskExchange → SoFar → Type 0

-- The initiator sends these: they are read as they were written, the target receives them well, and the relation holds then.
pub record Sends (most : Limits) (P : Relation) (x : DiskExchange) (out : List Message) (s : SoFar) : Type 0 where
  pub written : AreWritten most.out s.there out
  pub received : ReceivesWell most.back x.target x.disk s.here out
  pub kept : (let r = answers false x.target x.disk out in
      P (between x.initiator r.machine r.disk (x.answers ++ r.answers)) (so_far (logins_after_all s.there out) (logins_after_all s.here r.answers) s.history))

-- the initiator receives an answer well, with those of the exchange behind it
pub record Goes (most : Limits) (P : Relation) (x : DiskExchange) (m : Message) (s : SoFar) : Type 0 where
  pub live : is_session_closed x.initiator ≡ false
  pub fault : (initiator_step x.initiator m).fault ≡ None
  pub sends : Sends most P (record x { initiator = (initiator_step x.initiator m).machine }) (initiator_step x.initiator m).output s

-- The relation is kept by all that can happen.
pub record IsKept (most : Limits) (P : Relation) : Type 1 where
  -- the next answer comes
  pub receives : (i : initiator.InitiatorSession) (t : target.Machine) (disk : Disk) (m : Message) (back : List Message) (there here : Logins) (h : History)
      → P (between i t disk (m ∷ back)) (so_far there here h) → Goes most P (between i t disk back) m (so_far there here h)
  -- a request is accepted
  pub asks : (i : initiator.InitiatorSession) (t : target.Machine) (disk : Disk) (back : List Message) (there here : Logins) (h : History) (request : Request)
      → P (between i t disk back) (so_far there here h) → IsServed request → (submitted i request).refusal ≡ None
      → Sends most P (between (submitted i request).machine t disk back) (submitted i request).output
      (so_far there here (record h { requests = h.requests ++ request ∷ [] }))
  -- an outcome is taken
  pub takes : (i : initiator.InitiatorSession) (t : target.Machine) (disk : Disk) (back : List Message) (there here : Logins) (h : History) (d : Done)
      → P (between i t disk back) (so_far there here h) → i.done ≡ Some d
      → P (between (outcome_handed_out i) t disk back) (so_far there here (record h { outcomes = h.outcomes ++ d ∷ [] }))

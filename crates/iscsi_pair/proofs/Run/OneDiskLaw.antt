-- One local disk, in every world of a served run.
use Rattle.std.proofs.Common.{false, ◌≡◌, ◌≤◌, inl, inr, List, [], ◌++◌, length, map, Option, None, sym, ap, ◌∙◌, subst}
use Rattle.scsi_disk.specs.Disk.{Disk, disk_of}
use Rattle.scsi_unit.specs.LogicalUnit.{LogicalUnit}
use Rattle.iscsi_stream.specs.declared.logins.Logins.{Logins}
use Rattle.iscsi_stream.specs.Stream.{Message, logins_after_all}
use Rattle.iscsi_login.specs.Held.{Held}
use Rattle.iscsi_target.specs.State as target
use Rattle.iscsi_target.specs.State.{writes_joined, joined_task}
use Rattle.iscsi_target.specs.declared.tasks.Task.{Task}
use Rattle.iscsi_target.specs.Machine.{answers}
use Rattle.iscsi_initiator.specs.declared.request.Done.{Done}
use Rattle.iscsi_initiator.specs.Laws.{listed}
use Rattle.iscsi_initiator.specs.Machine.{outcome_handed_out}
use Rattle.iscsi_initiator.specs.State as initiator
use Rattle.iscsi_pair.specs.World.{PairEvent, Opening, World, new_pair}
use Rattle.iscsi_pair.specs.LocalDisk.{AreInStep}
use Rattle.iscsi_pair.specs.Served.{AreAtEnd, IsNormal, RunsServed, requests_of, local_disk_after, disk_outcomes}
use Rattle.iscsi_pair.proofs.Request.Invariant.{History, between, so_far}
use Rattle.iscsi_pair.proofs.Run.CarriedBytes.{Stands}
use Rattle.iscsi_pair.proofs.Run.InvariantHolds.{carried, none_waits}
use Rattle.iscsi_pair.proofs.Run.DiskInvariant.{AreFirst, AreSettled, IsIdle, Serves, first_outcomes, first_sends, idle_serves, serves_kept}

-- what was asked and taken in these events
abbrev history : List PairEvent → List Done → History
history events outcomes = record { requests = requests_of events; outcomes = outcomes }

pub served : (c : Opening) (events : List PairEvent) (w : World) (outcomes : List Done) → IsNormal c → RunsServed (new_pair c) events w outcomes
    → Stands c (Serves c) (record { requests = requests_of events; outcomes = outcomes }) w
served c events w outcomes n r = carried c (Serves c) (serves_kept c n) (first_sends c n) events w outcomes r

pub taken_first : (c : Opening) (events : List PairEvent) (w : World) (outcomes : List Done) → IsNormal c → RunsServed (new_pair c) events w outcomes
    → (later : List Done) × (length later ≤ 1) × (outcomes ++ later ≡ disk_outcomes c (requests_of events))
taken_first c events w outcomes n r =
    let s : Stands c (Serves c) (history events outcomes) w = served c events w outcomes n r in
    let f : AreFirst c (history events outcomes) =
    first_outcomes c w.initiator.machine (answers false s.session s.disk s.out).machine (answers false s.session s.disk s.out).disk
    (s.back ++ (answers false s.session s.disk s.out).answers) s.there
    (logins_after_all s.here (answers false s.session s.disk s.out).answers) (history events outcomes) s.kept in
    (f.later, f.one, f.is)

-- the target's session, where nothing is on its way
record IsStill (c : Opening) (w : World) (h : History) : Type 0 where
  session : target.Machine
  machine : w.target.machine ≡ writes_joined session
  is_idle : IsIdle c w.initiator.machine session (disk_of w.blocks) h

none_said : (c : Opening) (i : initiator.InitiatorSession) (t : target.Machine) (disk : Disk) (out back : List Message) (there here : Logins) (h : History)
    → out ≡ []
    → back ≡ []
    → Serves c (between i (answers false t disk out).machine (answers false t disk out).disk (back ++ (answers false t disk out).answers))
    (so_far there (logins_after_all here (answers false t disk out).answers) h) → Serves c (between i t disk []) (so_far there here h)
unfolding answers
none_said c i t disk out back there here h p q k =
    let k' = subst (λ (x : List Message). Serves c (between i (answers false t disk x).machine (answers false t disk x).disk
    (back ++ (answers false t disk x).answers))
    (so_far there (logins_after_all here (answers false t disk x).answers) h)) p k in
    subst (λ (x : List Message). Serves c (between i t disk (x ++ [])) (so_far there here h)) q k'

still : (c : Opening) (events : List PairEvent) (w : World) (outcomes : List Done) → IsNormal c → RunsServed (new_pair c) events w outcomes → w.to_target ≡ []
    → w.to_initiator ≡ [] → IsStill c w (history events outcomes)
still c events w outcomes n r p q =
    let s : Stands c (Serves c) (history events outcomes) w = served c events w outcomes n r in
    let none = none_waits c (Serves c) (history events outcomes) w s p q in
    let k : Serves c (between w.initiator.machine s.session s.disk []) (so_far s.there s.here (history events outcomes)) =
    none_said c w.initiator.machine s.session s.disk s.out s.back s.there s.here (history events outcomes) none.0 none.1 s.kept in
    record {
      session = s.session;
      machine = s.machine;
      is_idle = subst (λ (d : Disk). IsIdle c w.initiator.machine s.session d (history events outcomes)) (sym s.disk_is)
          (idle_serves c w.initiator.machine s.session s.disk s.there s.here (history events outcomes) k);
    }

pub idle_none : (c : Opening) (events : List PairEvent) (w : World) (outcomes : List Done) → IsNormal c → RunsServed (new_pair c) events w outcomes
    → w.to_target ≡ [] → w.to_initiator ≡ [] → w.initiator.machine.outstanding ≡ None
idle_none c events w outcomes n r p q =
    elim (still c events w outcomes n r p q).is_idle.at_rest [
      | inl on_ ↦ on_.0.none_open
      | inr over ↦ over.0.none_open
    ]

pub idle_whole : (c : Opening) (events : List PairEvent) (w : World) (outcomes : List Done) → IsNormal c → RunsServed (new_pair c) events w outcomes
    → w.to_target ≡ [] → w.to_initiator ≡ []
    → (outcomes ++ listed w.initiator.machine.done ≡ disk_outcomes c (requests_of events)) × (disk_of w.blocks ≡ local_disk_after c (requests_of events))
idle_whole c events w outcomes n r p q =
    let i = (still c events w outcomes n r p q).is_idle in (i.outcomes_are, i.disk_is)

-- the program keeps no write as one piece where there is no task
joined_ends : (held : Held) (unit : Option LogicalUnit) (h : History) (i : initiator.InitiatorSession) (t : target.Machine) → AreSettled held unit h i t
    → AreAtEnd h.requests i (writes_joined t)
joined_ends held unit h i t rest =
    elim rest [
      | inl on_ ↦ (let same : t ≡ writes_joined t =
          ap (λ (tasks : List Task). record t { tasks = tasks }) on_.0.no_task
          ∙ sym (ap (λ (tasks : List Task). record t { tasks = map joined_task tasks }) on_.0.no_task) in
          inl (subst (AreInStep i) same on_.0))
      | inr over ↦ inr (record { initiator_phase = over.0.initiator_phase; target_phase = over.0.target_phase; none_open = over.0.none_open }, over.1)
    ]

pub idle_rests : (c : Opening) (events : List PairEvent) (w : World) (outcomes : List Done) → IsNormal c → RunsServed (new_pair c) events w outcomes
    → w.to_target ≡ [] → w.to_initiator ≡ []
    → AreAtEnd (requests_of events) (outcome_handed_out w.initiator.machine) w.target.machine
idle_rests c events w outcomes n r p q =
    let s = still c events w outcomes n r p q in
    subst (AreAtEnd (requests_of events) (outcome_handed_out w.initiator.machine)) (sym s.machine) (joined_ends s.is_idle.held c.target.extras.unit (history events outcomes)
    (outcome_handed_out w.initiator.machine) s.session s.is_idle.at_rest)

-- One request after another: some run serves them all.
use Rattle.std.specs.List.{AllByRecursion}
use Rattle.std.proofs.Common.{◌≡◌, ◌≤◌, inl, inr, ℕ, false, List, [], ◌∷◌, ◌++◌, length, Option, None, refl, sym, ap, ◌∙◌, subst, append_assoc, arith}
use Rattle.std.proofs.lemmas.Bool.{le-ltb}
use Rattle.std.proofs.lemmas.List.{append-nil}
use Rattle.scsi_disk.specs.Disk.{Disk, disk_of}
use Rattle.scsi_unit.specs.LogicalUnit.{LogicalUnit}
use Rattle.iscsi_stream.specs.declared.logins.Logins.{Logins}
use Rattle.iscsi_stream.specs.Stream.{Message, logins_after_all}
use Rattle.iscsi_login.specs.Held.{Held}
use Rattle.iscsi_target_session.specs.Configured as target_settings
use Rattle.iscsi_target_session.specs.Session as target_session
use Rattle.iscsi_target.specs.State as target
use Rattle.iscsi_target.specs.State.{unit_of}
use Rattle.iscsi_target.specs.Machine.{answers}
use Rattle.iscsi_initiator.specs.declared.request.Done.{Done}
use Rattle.iscsi_initiator.specs.declared.request.Done.TheVariants as done
use Rattle.iscsi_initiator.specs.declared.request.Request.{Request}
use Rattle.iscsi_initiator.specs.declared.request.Request.TheVariants as requests
use Rattle.iscsi_initiator.specs.State as initiator
use Rattle.iscsi_initiator.specs.Machine.{outcome_handed_out}
use Rattle.iscsi_initiator.specs.Submitted.{is_request_too_long, most_bytes, submitted}
use Rattle.iscsi_pair.specs.World.{Opening}
use Rattle.iscsi_pair.specs.LocalDisk.{AreAtRest, AreInStep, Local, DiskExchange, local, local_disk, local_outcomes}
use Rattle.iscsi_pair.specs.Served.{IsAlwaysTaken, IsNormal, IsServed, SomeRunServes, local_disk_after, disk_outcomes}
use Rattle.iscsi_pair.proofs.Request.AnswersInOrder.{Begins}
use Rattle.iscsi_pair.proofs.Request.Invariant.{History, between, so_far}
use Rattle.iscsi_pair.proofs.Request.OneRequestLaw.{accepts, begins, disk_more, outcomes_more}
use Rattle.iscsi_pair.proofs.Lists.LoginIsServed.{HasLoggedIn, logs_in}
use Rattle.iscsi_pair.proofs.Run.DiskInvariant.{HaveAgreed, receives_well, is_logout, most_out, pinged, written_within}
use Rattle.iscsi_pair.proofs.Lists.StepLemmas.{level}
use Rattle.iscsi_pair.proofs.Lists.RoundLemmas.{Arrives, Stays, arrives, gives_out, hands_in, received_all}

-- a run has come to two ends that are in step, with the outcomes of one local disk taken
record Rests (c : Opening) (asked_ : List Request) : Type 0 where
  held : Held
  initiator : initiator.InitiatorSession
  target : target.Machine
  there : Logins
  here : Logins
  stays : Stays c (between initiator target (local_disk_after c asked_) []) []
      (so_far there here (record { requests = asked_; outcomes = disk_outcomes c asked_ }))
  agreed : HaveAgreed c held
  in_step : AreInStep initiator target
  same : initiator.held ≡ held
  has : unit_of target.session ≡ c.target.extras.unit

-- so it is behind the login
first_rests : (c : Opening) → HasLoggedIn c → Rests c []
unfolding local_disk local_outcomes
first_rests c l = record {
  held = l.initiator.held;
  initiator = l.initiator;
  target = l.target;
  there = l.there;
  here = l.here;
  stays = l.stays;
  agreed = record {
    most = l.met.most;
    out = subst (λ (x : target_settings.TargetSettings). l.initiator.held.target_max_recv ≤ target_session.target_limit x) l.met.target_settings
        l.met.in_step.segment;
    back_ = (let most = l.met.most in omega (arith, most));
  };
  in_step = l.met.in_step;
  same = refl;
  has = ap (λ (x : target_settings.TargetSettings). x.extras.unit) l.met.target_settings;
}

-- ---- one request

-- what any target takes is a request that is served, and not too long
pub taken_served : (request : Request) → IsAlwaysTaken request → IsServed request
taken_served (requests.In lun cdb expected) a = a.0
taken_served (requests.Out lun cdb bytes) a = a.0
taken_served (requests.Ping bytes) a = tt
taken_served (requests.Text bytes) a = absurd a
taken_served requests.Logout a = absurd a

pub taken_short : (request : Request) (m : initiator.InitiatorSession) (t : target.Machine) → AreInStep m t → IsAlwaysTaken request
    → is_request_too_long m request ≡ false
taken_short (requests.In lun cdb expected) m t s a = le-ltb most_bytes expected a.1
taken_short (requests.Out lun cdb bytes) m t s a = le-ltb most_bytes (length bytes) a.1
taken_short (requests.Ping bytes) m t s a = (let least = s.is_held.target_max_recv.0 in le-ltb m.held.target_max_recv (length bytes) (omega (arith, least, a)))
taken_short (requests.Text bytes) m t s a = absurd a
taken_short requests.Logout m t s a = absurd a

not_parted : (request : Request) (most : ℕ) (unit : Option LogicalUnit) (disk : Disk) → IsAlwaysTaken request
    → (local most unit disk request).outcome ≡ done.Closed → ⊥
not_parted request most unit disk a e = subst IsAlwaysTaken (is_logout most unit disk request e) a

-- both ends are in step again
in_step_by : (held : Held) (unit : Option LogicalUnit) (request : Request) (most : ℕ) (disk : Disk) (i : initiator.InitiatorSession) (t : target.Machine)
    → IsAlwaysTaken request
    → AreAtRest held unit (local most unit disk request).outcome i t → AreInStep i t × (i.held ≡ held) × (target.unit_of t.session ≡ unit)
in_step_by held unit request most disk i t a rest = elim rest [
  | inl on ↦ on
  | inr over ↦ absurd (not_parted request most unit disk a over.1)
]

-- a request has had its outcome, and both ends rest
record HasOutcome (c : Opening) (past : List Request) (request : Request) : Type 0 where
  held : Held
  initiator : initiator.InitiatorSession
  target : target.Machine
  there : Logins
  here : Logins
  stays : (let all = past ++ request ∷ [] in
      Stays c (between initiator target (local_disk_after c all) []) [] (so_far there here (record { requests = all; outcomes = disk_outcomes c all })))
  agreed : HaveAgreed c held
  at_rest : AreAtRest held c.target.extras.unit (local (pinged c) c.target.extras.unit (local_disk_after c past) request).outcome initiator target

-- a request is handed in, and so is its outcome
one_done : (c : Opening) (past : List Request) (request : Request) → (r : Rests c past) → IsServed request → is_request_too_long r.initiator request ≡ false
    → HasOutcome c past request
one_done c past request r served short =
    let i : initiator.InitiatorSession = r.initiator in
    let t : target.Machine = r.target in
    let disk : Disk = local_disk_after c past in
    let h : History = record { requests = past; outcomes = disk_outcomes c past } in
    let g : History = record h { requests = past ++ request ∷ [] } in
    let unit : Option LogicalUnit = c.target.extras.unit in
    let here : Local = local (pinged c) unit disk request in
    let none : (submitted i request).refusal ≡ None = accepts i t request r.in_step short in
    let most : i.held.initiator_max_recv ≡ pinged c = ap (λ (x : Held). x.initiator_max_recv) r.same ∙ r.agreed.most in
    let now : HaveAgreed c i.held = subst (HaveAgreed c) (sym r.same) r.agreed in
    let b : Begins i.held i t disk request here =
    subst (λ (u : Option LogicalUnit). Begins i.held i t disk request (local (pinged c) u disk request)) r.has
    (subst (λ (n : ℕ). Begins i.held i t disk request (local n (target.unit_of t.session) disk request)) most
    (begins i t disk request served r.in_step none)) in
    let out : List Message = (submitted i request).output in
    let s : target.TargetStep = answers false t disk out in
    let sent : Stays c (between (submitted i request).machine t disk []) out (so_far r.there r.here g) = hands_in c h i t disk r.there r.here request r.stays
    served none in
    let received : Stays c (between (submitted i request).machine s.machine s.disk s.answers) [] (so_far (logins_after_all r.there out) r.here g) =
    received_all out c g (submitted i request).machine t disk [] r.there r.here sent
    (written_within i.held.target_max_recv (most_out c) r.there out now.out (b.received.written r.there))
    (receives_well c i.held t disk r.here out now b.received) in
    let last : DiskExchange = b.ends.last in
    let come : Arrives c g last = arrives b.ends.leads.0 c g i.held (submitted i request).machine s.machine s.disk s.answers
    (logins_after_all r.there out) r.here last now received b.ends.leads.2 in
    let quiet : Stays c (between last.initiator last.target last.disk []) [] (so_far come.there come.here g) =
    subst (λ (ms : List Message). Stays c (between last.initiator last.target last.disk ms) [] (so_far come.there come.here g)) b.ends.ended.silent come.stays
    in
    let given : Stays c (between (outcome_handed_out last.initiator) last.target last.disk []) []
    (so_far come.there come.here (record g { outcomes = disk_outcomes c past ++ here.outcome ∷ [] })) =
    gives_out c g last.initiator last.target last.disk come.there come.here here.outcome quiet b.ends.ended.done_is in
    record {
      held = i.held;
      initiator = outcome_handed_out last.initiator;
      target = last.target;
      there = come.there;
      here = come.here;
      stays = subst
          (λ (d : Disk). Stays c (between (outcome_handed_out last.initiator) last.target d []) []
          (so_far come.there come.here (record { requests = past ++ request ∷ []; outcomes = disk_outcomes c (past ++ request ∷ []) })))
          (b.ends.ended.disk_is ∙ sym (disk_more (pinged c) unit (disk_of c.blocks) past request))
          (subst (λ (x : List Done). Stays c (between (outcome_handed_out last.initiator) last.target last.disk []) []
          (so_far come.there come.here (record { requests = past ++ request ∷ []; outcomes = x })))
          (sym (outcomes_more (pinged c) unit (disk_of c.blocks) past request)) given);
      agreed = now;
      at_rest = subst (λ (u : Option LogicalUnit). AreAtRest i.held u here.outcome (outcome_handed_out last.initiator) last.target) r.has b.ends.ended.at_rest;
    }

one_more : (c : Opening) (past : List Request) (request : Request) → Rests c past → IsAlwaysTaken request → Rests c (past ++ request ∷ [])
one_more c past request r a =
    let d : HasOutcome c past request = one_done c past request r (taken_served request a) (taken_short request r.initiator r.target r.in_step a) in
    let rest = in_step_by d.held c.target.extras.unit request (pinged c) (local_disk_after c past) d.initiator d.target a d.at_rest in
    record {
      held = d.held;
      initiator = d.initiator;
      target = d.target;
      there = d.there;
      here = d.here;
      stays = d.stays;
      agreed = d.agreed;
      in_step = rest.0;
      same = rest.1;
      has = rest.2;
    }

-- ---- all of them

all_more : (c : Opening) (past more : List Request) → Rests c past → AllByRecursion IsAlwaysTaken more → Rests c (past ++ more)
all_more c past [] r a = subst (Rests c) (sym (append-nil past)) r
all_more c past (request ∷ more) r a = subst (Rests c) (append_assoc past (request ∷ []) more)
    (all_more c (past ++ request ∷ []) more (one_more c past request r a.0) a.1)

all_rest : (c : Opening) (all : List Request) → IsNormal c → AllByRecursion IsAlwaysTaken all → Rests c all
all_rest c all o a = all_more c [] all (first_rests c (logs_in c o)) a

-- such a run, where nothing is on its way
some_run : (c : Opening) (h : History) (i : initiator.InitiatorSession) (t : target.Machine) (disk : Disk) (there here : Logins)
    → Stays c (between i t disk []) [] (so_far there here h) → SomeRunServes c h.requests h.outcomes
some_run c h i t disk there here s = record {
  events = s.events;
  world = level c i t s.blocks s.place s.place_back there here [] [];
  requests_are = s.requests_are;
  runs = s.runs;
  none_out = refl;
  none_back = refl;
}

pub serves_all : (c : Opening) (all : List Request) → IsNormal c → AllByRecursion IsAlwaysTaken all → SomeRunServes c all (disk_outcomes c all)
serves_all c all o a =
    let r : Rests c all = all_rest c all o a in
    some_run c (record { requests = all; outcomes = disk_outcomes c all }) r.initiator r.target (local_disk_after c all) r.there r.here r.stays

-- and one that ends the session
pub serves_to_end : (c : Opening) (past : List Request) → IsNormal c → AllByRecursion IsAlwaysTaken past
    → (let all = past ++ requests.Logout ∷ [] in SomeRunServes c all (disk_outcomes c all))
serves_to_end c past o a =
    let all : List Request = past ++ requests.Logout ∷ [] in
    let d : HasOutcome c past requests.Logout = one_done c past requests.Logout (all_rest c past o a) tt refl in
    some_run c (record { requests = all; outcomes = disk_outcomes c all }) d.initiator d.target (local_disk_after c all) d.there d.here d.stays

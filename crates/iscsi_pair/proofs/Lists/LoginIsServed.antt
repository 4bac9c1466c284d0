-- The login of two ends that suit each other comes to its end, where each receives what was sent.
use Rattle.std.proofs.Common.{◌≡◌, ◌<◌, ◌≤◌, ◌⊎◌, inl, inr, ℕ, zero, suc, false, List, [], ◌∷◌, length, refl, sym, ap, ◌∙◌, subst, arith}
use Rattle.scsi_disk.specs.Disk.{Disk, disk_of}
use Rattle.iscsi_stream.specs.declared.logins.Logins.{Logins}
use Rattle.iscsi_stream.specs.Segment.{logins_after, no_login}
use Rattle.iscsi_stream.specs.Stream.{Message}
use Rattle.iscsi_login.specs.declared.stage.Stage.{Stage}
use Rattle.iscsi_login.specs.declared.stage.Stage.TheVariants as stages
use Rattle.iscsi_login.specs.Stage.{is_closed_phase}
use Rattle.iscsi_target.specs.State as target
use Rattle.iscsi_target.specs.Machine as target_machine
use Rattle.iscsi_target.specs.Machine.{answers}
use Rattle.iscsi_target.proofs.Steps.TurnLemmas.{then_nothing}
use Rattle.iscsi_initiator.specs.Configured.{IsStart}
use Rattle.iscsi_initiator.specs.State as initiator
use Rattle.iscsi_initiator.specs.Steps.{InitiatorStep}
use Rattle.iscsi_initiator.specs.Login.{start_step}
use Rattle.iscsi_initiator.specs.Machine.{initiator_step}
use Rattle.iscsi_pair.proofs.Lists.StepLemmas.{first_spot}
use Rattle.iscsi_pair.specs.World.{Opening}
use Rattle.iscsi_pair.specs.Served.{IsNormal, RunsServed}
use Rattle.iscsi_pair.proofs.Login.RoundAgrees.{Asking, Asks_on, Round, first_asks, round}
use Rattle.iscsi_pair.proofs.Login.RoundBegins.{Suited}
use Rattle.iscsi_pair.proofs.Login.RoundProgress.{Well, first_suited, goes_well}
use Rattle.iscsi_pair.proofs.Login.LoginEndsInStep.{HasMet, Meets, Numbered, first_numbered, meets}
use Rattle.iscsi_pair.proofs.Login.NearerLemmas.{IsNearer, nearer}
use Rattle.iscsi_pair.proofs.Ends.InitiatorEnds.{begun}
use Rattle.iscsi_pair.proofs.Request.Invariant.{Sends, between, so_far, limits_of}
use Rattle.iscsi_pair.proofs.Run.DiskInvariant.{Serves, login_sends, none_asked}
use Rattle.iscsi_pair.proofs.Lists.RoundLemmas.{Stays, received_all, received_one}

-- a login request is on its way
record Waits (c : Opening) (i : initiator.InitiatorSession) (t : target.Machine) (there here : Logins) (r : Message) : Type 0 where
  stays : Stays c (between i t (disk_of c.blocks) []) (r ∷ []) (so_far there here none_asked)
  asking : Asking c i t there r
  suited : Suited c i t
  numbered : Numbered c i t
  whole : here.response ≡ false

-- the login is completed
pub record HasLoggedIn (c : Opening) : Type 0 where
  pub initiator : initiator.InitiatorSession
  pub target : target.Machine
  pub there : Logins
  pub here : Logins
  pub stays : Stays c (between initiator target (disk_of c.blocks) []) [] (so_far there here none_asked)
  pub met : HasMet c initiator target

record WaitsOn (c : Opening) (i : initiator.InitiatorSession) : Type 0 where
  initiator : initiator.InitiatorSession
  target : target.Machine
  there : Logins
  here : Logins
  request : Message
  waits : Waits c initiator target there here request
  nearer : IsNearer i initiator

-- one message is one step
one_step : (t : target.Machine) (disk : Disk) (r : Message) → answers false t disk (r ∷ []) ≡ target_machine.target_step false t disk r
unfolding answers
one_step t disk r = then_nothing (target_machine.target_step false t disk r)

-- the target receives a login request, and the initiator its answer
one_round : (c : Opening) (i : initiator.InitiatorSession) (t : target.Machine) (there here : Logins) (r : Message) → IsNormal c → Waits c i t there here r
    → HasLoggedIn c ⊎ WaitsOn c i
one_round c i t there here r o p =
    let disk : Disk = disk_of c.blocks in
    let next : Logins = logins_after there r.head in
    let now : target.TargetStep = target_machine.target_step false t disk r in
    let turn : Round c i now next = round c i t there r disk o.opening p.asking in
    let s : InitiatorStep = initiator_step i turn.answer in
    let w : Well c i now s next = goes_well c i t there next r disk o.opening o.suits p.asking p.suited turn in
    let meet : Meets c i now s disk next = meets c i t there next r disk o.opening o.suits o.session p.asking p.suited p.numbered turn in
    let sends : Sends (limits_of c) (Serves c) (between i t disk []) (r ∷ []) (so_far there here none_asked) =
    login_sends c i (r ∷ []) t there here r o refl p.asking p.suited p.numbered p.whole in
    let received : Stays c (between i (answers false t disk (r ∷ [])).machine (answers false t disk (r ∷ [])).disk (answers false t disk (r ∷ [])).answers) []
    (so_far next here none_asked) =
    received_all (r ∷ []) c none_asked i t disk [] there here p.stays sends.written sends.received in
    let all : answers false t disk (r ∷ []) ≡ now = one_step t disk r in
    let answered : Stays c (between i now.machine disk (turn.answer ∷ [])) [] (so_far next here none_asked) =
    subst (λ (d : Disk). Stays c (between i now.machine d (turn.answer ∷ [])) [] (so_far next here none_asked)) meet.disk_is
    (subst (λ (ms : List Message). Stays c (between i now.machine now.disk ms) [] (so_far next here none_asked)) turn.is
    (subst (λ (x : target.TargetStep). Stays c (between i x.machine x.disk x.answers) [] (so_far next here none_asked)) all received)) in
    let on : Stays c (between s.machine now.machine disk []) s.output (so_far next (logins_after here turn.answer.head) none_asked) =
    received_one c none_asked i now.machine disk turn.answer [] next here answered (ap is_closed_phase p.asking.phase) w.fault in
    elim w.on [
      | inl agreed ↦ inl (record {
        initiator = s.machine;
        target = now.machine;
        there = next;
        here = logins_after here turn.answer.head;
        stays = subst (λ (ms : List Message). Stays c (between s.machine now.machine disk []) ms (so_far next (logins_after here turn.answer.head) none_asked))
            agreed.silent on;
        met = meet.met agreed;
      })
      | inr asks ↦ inr (record {
        initiator = s.machine;
        target = now.machine;
        there = next;
        here = logins_after here turn.answer.head;
        request = asks.0.request;
        waits = record {
          stays = subst (λ (ms : List Message). Stays c (between s.machine now.machine disk []) ms
              (so_far next (logins_after here turn.answer.head) none_asked))
              asks.0.is on;
          asking = asks.0.asking;
          suited = asks.1;
          numbered = meet.goes_on asks.0;
          whole = turn.last here p.whole;
        };
        nearer = nearer c i t there next r disk o.opening o.suits p.asking p.suited turn asks.0.asking.stage;
      })
    ]

-- ---- until it is completed

-- by where a round leads
second_by : (c : Opening) (i : initiator.InitiatorSession) → HasLoggedIn c ⊎ WaitsOn c i → i.stage ≡ stages.Operational
    → ((x : WaitsOn c i) → x.initiator.stage ≡ stages.Operational → length x.initiator.unsent_text < length i.unsent_text → HasLoggedIn c) → HasLoggedIn c
second_by c i (inl done) is more = done
second_by c i (inr x) is more = elim x.nearer [
  | inl less ↦ more x (less.0 ∙ is) less.1
  | inr second ↦ absurd (let bad : stages.Security ≡ stages.Operational = sym second.0 ∙ is in cc)
]

-- in the second stage
second_stage : (n : ℕ) (c : Opening) (i : initiator.InitiatorSession) (t : target.Machine) (there here : Logins) (r : Message) → IsNormal c
    → Waits c i t there here r → i.stage ≡ stages.Operational → length i.unsent_text ≤ n → HasLoggedIn c
second_stage zero c i t there here r o p is few = second_by c i (one_round c i t there here r o p) is (λ x second less. absurd (omega (arith, few, less)))
second_stage (suc n) c i t there here r o p is few =
    second_by c i (one_round c i t there here r o p) is
    (λ x second less. second_stage n c x.initiator x.target x.there x.here x.request o x.waits second (omega (arith, few, less)))

first_by : (c : Opening) (i : initiator.InitiatorSession) → IsNormal c → HasLoggedIn c ⊎ WaitsOn c i → i.stage ≡ stages.Security
    → ((x : WaitsOn c i) → x.initiator.stage ≡ stages.Security → length x.initiator.unsent_text < length i.unsent_text → HasLoggedIn c) → HasLoggedIn c
first_by c i o (inl done) is more = done
first_by c i o (inr x) is more = elim x.nearer [
  | inl less ↦ more x (less.0 ∙ is) less.1
  | inr second ↦ second_stage (length x.initiator.unsent_text) c x.initiator x.target x.there x.here x.request o x.waits second.1 (omega arith)
]

-- and from the first one on
first_stage : (n : ℕ) (c : Opening) (i : initiator.InitiatorSession) (t : target.Machine) (there here : Logins) (r : Message) → IsNormal c
    → Waits c i t there here r → i.stage ≡ stages.Security → length i.unsent_text ≤ n → HasLoggedIn c
first_stage zero c i t there here r o p is few = first_by c i o (one_round c i t there here r o p) is (λ x first less. absurd (omega (arith, few, less)))
first_stage (suc n) c i t there here r o p is few =
    first_by c i o (one_round c i t there here r o p) is
    (λ x first less. first_stage n c x.initiator x.target x.there x.here x.request o x.waits first (omega (arith, few, less)))

from_stage : (stage : Stage) (c : Opening) (i : initiator.InitiatorSession) (t : target.Machine) (there here : Logins) (r : Message) → IsNormal c
    → Waits c i t there here r → i.stage ≡ stage → HasLoggedIn c
from_stage stages.Security c i t there here r o p is = first_stage (length i.unsent_text) c i t there here r o p is (omega arith)
from_stage stages.Operational c i t there here r o p is = second_stage (length i.unsent_text) c i t there here r o p is (omega arith)
from_stage stages.Full c i t there here r o p is = absurd (subst IsStart is p.asking.stage)

-- a new pair
first_stays : (c : Opening)
    → Stays c (between (begun c) (target.opening_machine c.target c.first_stat_sn) (disk_of c.blocks) [])
    (start_step (initiator.new_session c.initiator)).output
    (so_far no_login no_login none_asked)
unfolding RunsServed
first_stays c = record {
  events = [];
  blocks = c.blocks;
  place = first_spot;
  place_back = first_spot;
  requests_are = refl;
  runs = (refl, refl);
  disk_is = refl;
  sound = tt;
  written = tt;
}

-- some run of it completes the login
pub logs_in : (c : Opening) → IsNormal c → HasLoggedIn c
logs_in c o =
    let a : Asks_on c (start_step (initiator.new_session c.initiator)) (target.opening_machine c.target c.first_stat_sn) no_login = first_asks c o.opening in
    from_stage (begun c).stage c (begun c) (target.opening_machine c.target c.first_stat_sn) no_login no_login a.request o
    (record {
      stays = subst
          (λ (ms : List Message). Stays c (between (begun c) (target.opening_machine c.target c.first_stat_sn) (disk_of c.blocks) []) ms
          (so_far no_login no_login none_asked)) a.is
          (first_stays c);
      asking = a.asking;
      suited = first_suited c o.opening;
      numbered = first_numbered c o.opening;
      whole = refl;
    }) refl

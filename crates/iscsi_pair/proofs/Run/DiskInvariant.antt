-- What two ends keep that suit each other: the login, and then one request after another on one disk.
use Rattle.std.proofs.Common.{◌≡◌, ◌⊎◌, inl, inr, ◌≤◌, ℕ, zero, suc, true, false, List, [], ◌∷◌, ◌++◌, length, Option, Some, None, refl, sym, ap, ◌∙◌, subst}
use Rattle.std.proofs.Common.{arith}
use Rattle.std.specs.Prelude.{is_some}
use Rattle.std.proofs.lemmas.List.{append-nil}
use Rattle.scsi_disk.specs.Disk.{Disk, disk_of}
use Rattle.scsi_unit.specs.LogicalUnit.{LogicalUnit}
use Rattle.iscsi_stream.specs.declared.logins.Logins.{Logins}
use Rattle.iscsi_stream.specs.Segment.{logins_after, no_login}
use Rattle.iscsi_stream.specs.Stream.{Message, logins_after_all}
use Rattle.iscsi_login.specs.declared.phase.Phase.TheVariants as phases
use Rattle.iscsi_login.specs.Held.{Held}
use Rattle.iscsi_target_session.specs.Configured as target_settings
use Rattle.iscsi_target_session.specs.Session as target_session
use Rattle.iscsi_target.specs.State as target
use Rattle.iscsi_target.specs.Machine as target_machine
use Rattle.iscsi_target.specs.Machine.{answers}
use Rattle.iscsi_target.proofs.Steps.TurnLemmas.{then_nothing}
use Rattle.iscsi_initiator.specs.declared.request.Done.{Done}
use Rattle.iscsi_initiator.specs.declared.request.Done.TheVariants as done
use Rattle.iscsi_initiator.specs.declared.request.Request.{Request}
use Rattle.iscsi_initiator.specs.declared.request.Request.TheVariants as requests
use Rattle.iscsi_initiator.specs.State as initiator
use Rattle.iscsi_login.specs.Stage.{is_closed_phase}
use Rattle.iscsi_initiator.specs.Steps.{InitiatorStep}
use Rattle.iscsi_initiator.specs.Calls as initiator_calls
use Rattle.iscsi_initiator.specs.Laws.{listed}
use Rattle.iscsi_initiator.specs.Login.{start_step}
use Rattle.iscsi_initiator.specs.Machine.{initiator_step, outcome_handed_out}
use Rattle.iscsi_initiator.specs.Submitted.{submitted}
use Rattle.iscsi_pair.specs.World.{Opening}
use Rattle.iscsi_pair.specs.LocalDisk.{AreAtRest, AreInStep, RequestHasEnded, HaveParted, Local, DiskExchange, local, local_disk, local_outcomes}
use Rattle.iscsi_pair.specs.Served.{EndsInLogout, IsNormal, IsServed, local_disk_after, disk_outcomes}
use Rattle.iscsi_pair.proofs.Login.RoundAgrees.{Asking, Asks_on, Round, asking_readable, asking_short, first_asks, round}
use Rattle.iscsi_pair.proofs.Login.RoundBegins.{Suited}
use Rattle.iscsi_pair.proofs.Login.RoundProgress.{Well, first_suited, goes_well}
use Rattle.iscsi_pair.proofs.Login.LoginEndsInStep.{HasMet, Meets, Numbered, first_numbered, meets}
use Rattle.iscsi_pair.proofs.Ends.InitiatorEnds.{begun}
use Rattle.iscsi_pair.proofs.Request.Invariant.{AreWritten, Goes, ReceivesWell, History, IsKept, Sends, between, so_far, SoFar, limits_of}
use Rattle.iscsi_pair.proofs.Request.AnswersInOrder.{AreReceived, Begins, Leads, LeadsWithin, most_answers}
use Rattle.iscsi_pair.proofs.Request.OneRequestLaw.{begins, disk_more, is_free, outcomes_more}

-- the most bytes of a segment that each end takes
abbrev pub most_out : Opening → ℕ
most_out c = target_session.target_limit c.target

abbrev pub most_back : Opening → ℕ
most_back c = initiator_calls.initiator_limit c.initiator

-- how many bytes of a ping come back
abbrev pub pinged : Opening → ℕ
pinged c = c.initiator.proposal.prefs.max_recv

-- nothing was asked yet
abbrev pub none_asked : History
none_asked = record { requests = []; outcomes = [] }

-- ---- the relation

-- the answer to a login request is on its way
pub record LogsOn (c : Opening) (x : DiskExchange) (s : SoFar) : Type 0 where
  pub before : target.Machine
  pub said : Logins
  pub request : Message
  pub asking : Asking c x.initiator before said request
  pub suited : Suited c x.initiator before
  pub numbered : Numbered c x.initiator before
  pub turn : Round c x.initiator (target_machine.target_step false before (disk_of c.blocks) request) s.there
  pub machine : x.target ≡ (target_machine.target_step false before (disk_of c.blocks) request).machine
  pub disk_is : x.disk ≡ disk_of c.blocks
  pub back_is : x.answers ≡ turn.answer ∷ []
  pub whole : s.here.response ≡ false
  pub none : s.history ≡ none_asked

-- both ends hold this
pub record HaveAgreed (c : Opening) (held : Held) : Type 0 where
  pub most : held.initiator_max_recv ≡ pinged c
  pub out : held.target_max_recv ≤ most_out c
  pub back_ : held.initiator_max_recv ≤ most_back c

-- both ends are in step and hold this, and the disk has this unit, or they have parted after the last request, a logout
abbrev pub AreSettled : Held → Option LogicalUnit → History → initiator.InitiatorSession → target.Machine → Type 0
AreSettled held unit h i t =
    (AreInStep i t × (i.held ≡ held) × (target.unit_of t.session ≡ unit)) ⊎ (HaveParted i t × EndsInLogout h.requests)

-- nothing is open, and each request has had its outcome
pub record Rests (c : Opening) (x : DiskExchange) (h : History) : Type 0 where
  pub held : Held
  pub agreed : HaveAgreed c held
  pub at_rest : AreSettled held c.target.extras.unit h x.initiator x.target
  pub none_back : x.answers ≡ []
  pub none_done : x.initiator.done ≡ None
  pub disk_is : x.disk ≡ local_disk_after c h.requests
  pub outcomes_are : h.outcomes ≡ disk_outcomes c h.requests

-- the last request is on its way to its outcome on the disk that those before it left, or has it
pub record IsServing (c : Opening) (x : DiskExchange) (h : History) : Type 0 where
  pub held : Held
  pub agreed : HaveAgreed c held
  pub past : List Request
  pub request : Request
  pub requests_are : h.requests ≡ past ++ request ∷ []
  pub outcomes_are : h.outcomes ≡ disk_outcomes c past
  pub last : DiskExchange
  pub leads : LeadsWithin most_answers held x last
  pub ended : (let here = local (pinged c) c.target.extras.unit (local_disk_after c past) request in
      RequestHasEnded held c.target.extras.unit here.outcome here.disk last)

-- what both ends keep
pub data Serves (c : Opening) (x : DiskExchange) (s : SoFar) : Type 0 where
  Logs : LogsOn c x s → Serves c x s
  Rest : Rests c x s.history → Serves c x s
  Serve : IsServing c x s.history → Serves c x s

-- ---- what is sent

pub written_within : (most more : ℕ) (logins : Logins) (ms : List Message) → most ≤ more → AreWritten most logins ms → AreWritten more logins ms
written_within most more logins [] le w = w
written_within most more logins (m ∷ ms) le w = (
  record { readable = w.0.readable; short = (let short = w.0.short in omega (arith, short, le)) },
  written_within most more (logins_after logins m.head) ms le w.1,
)

pub receives_well : (c : Opening) (held : Held) (t : target.Machine) (disk : Disk) (here : Logins) (out : List Message) → HaveAgreed c held
    → AreReceived held t disk out → ReceivesWell (most_back c) t disk here out
receives_well c held t disk here out a h = record {
  open_ = h.open_;
  rule = h.rule;
  answered = written_within held.initiator_max_recv (most_back c) here (answers false t disk out).answers a.back_ (h.answered here);
}

-- ---- the login

pub same_first : (a b : Message) (x y : List Message) → a ∷ x ≡ b ∷ y → a ≡ b
same_first a b x y e = cc e

same_more : (a b : Message) (x y : List Message) → a ∷ x ≡ b ∷ y → x ≡ y
same_more a b x y e = cc e

-- a login request goes out
pub login_sends : (c : Opening) (i : initiator.InitiatorSession) (out : List Message) (t : target.Machine) (there here : Logins) (r : Message) → IsNormal c
    → out ≡ r ∷ [] → Asking c i t there r → Suited c i t → Numbered c i t
    → here.response ≡ false → Sends (limits_of c) (Serves c) (between i t (disk_of c.blocks) []) out (so_far there here none_asked)
unfolding answers
login_sends c i out t there here r o is a s n whole =
    let disk : Disk = disk_of c.blocks in
    let turn : Round c i (target_machine.target_step false t disk r) (logins_after there r.head) = round c i t there r disk o.opening a in
    let w : Well c i (target_machine.target_step false t disk r) (initiator_step i turn.answer) (logins_after there r.head) =
    goes_well c i t there (logins_after there r.head) r disk o.opening o.suits a s turn in
    let meet : Meets c i (target_machine.target_step false t disk r) (initiator_step i turn.answer) disk (logins_after there r.head) =
    meets c i t there (logins_after there r.head) r disk o.opening o.suits o.session a s n turn in
    let all : answers false t disk (r ∷ []) ≡ target_machine.target_step false t disk r = then_nothing (target_machine.target_step false t disk r) in
    let said : (answers false t disk (r ∷ [])).answers ≡ turn.answer ∷ [] = ap (λ (x : target.TargetStep). x.answers) all ∙ turn.is in
    subst (λ (ms : List Message). Sends (limits_of c) (Serves c) (between i t disk []) ms (so_far there here none_asked)) (sym is) (record {
      written = (
        record { readable = asking_readable c i t there r o.opening a; short = (let short = asking_short c i t there r a in omega (arith, short)) },
        tt,
      );
      received = record {
        open_ = (ap is_closed_phase a.logs_in.phase, tt);
        rule = ap (λ (x : target.TargetStep). x.rule) all ∙ w.rule;
        answered = subst (AreWritten (most_back c) here) (sym said) (
          record {
            readable = turn.readable here whole;
            short =
                (let short = turn.short in omega (arith, short));
          },
          tt,
        );
      };
      kept = Logs (record {
        before = t;
        said = there;
        request = r;
        asking = a;
        suited = s;
        numbered = n;
        turn = turn;
        machine = ap (λ (x : target.TargetStep). x.machine) all;
        disk_is = ap (λ (x : target.TargetStep). x.disk) all ∙ meet.disk_is;
        back_is = said;
        whole = subst (λ (ms : List Message). (logins_after_all here ms).response ≡ false) (sym said) (turn.last here whole);
        none = refl;
      });
    })

-- the first one
pub first_sends : (c : Opening) → IsNormal c → Sends (limits_of c) (Serves c)
    (between (begun c) (target.opening_machine c.target c.first_stat_sn) (disk_of c.blocks)
    []) (start_step (initiator.new_session c.initiator)).output (so_far no_login no_login none_asked)
first_sends c o =
    let a : Asks_on c (start_step (initiator.new_session c.initiator)) (target.opening_machine c.target c.first_stat_sn) no_login = first_asks c o.opening in
    login_sends c (begun c) (start_step (initiator.new_session c.initiator)).output (target.opening_machine c.target c.first_stat_sn) no_login no_login
    a.request o a.is
    a.asking (first_suited c o.opening) (first_numbered c o.opening) refl

-- the login is completed
full_sends : (c : Opening) (i : initiator.InitiatorSession) (out : List Message) (t : target.Machine) (there here : Logins) → IsNormal c → out ≡ []
    → HasMet c i t
    → Sends (limits_of c) (Serves c) (between i t (disk_of c.blocks) []) out (so_far there here none_asked)
unfolding answers local_disk local_outcomes
full_sends c i out t there here o is met =
    subst (λ (ms : List Message). Sends (limits_of c) (Serves c) (between i t (disk_of c.blocks) []) ms (so_far there here none_asked)) (sym is) (record {
      written = tt;
      received = record { open_ = tt; rule = refl; answered = tt };
      kept = Rest (record {
        held = i.held;
        agreed = record {
          most = met.most;
          out = subst (λ (x : target_settings.TargetSettings). i.held.target_max_recv ≤ target_session.target_limit x) met.target_settings met.in_step.segment;
          back_ = (let most = met.most in omega (arith, most));
        };
        at_rest = inl (met.in_step, refl, ap (λ (x : target_settings.TargetSettings). x.extras.unit) met.target_settings);
        none_back = refl;
        none_done = met.in_step.none_done;
        disk_is = refl;
        outcomes_are = refl;
      });
    })

-- the answer to a login request comes
pub login_goes : (c : Opening) (i : initiator.InitiatorSession) (t : target.Machine) (disk : Disk) (m : Message) (back : List Message) (there here : Logins)
    (h : History)
    → IsNormal c → LogsOn c (between i t disk (m ∷ back)) (so_far there here h)
    → Goes (limits_of c) (Serves c) (between i t disk back) m (so_far there here h)
login_goes c i t disk m back there here h o l =
    let d : Disk = disk_of c.blocks in
    let now : target.TargetStep = target_machine.target_step false l.before d l.request in
    let s : InitiatorStep = initiator_step i l.turn.answer in
    let w : Well c i now s there = goes_well c i l.before l.said there l.request d o.opening o.suits l.asking l.suited l.turn in
    let meet : Meets c i now s d there = meets c i l.before l.said there l.request d o.opening o.suits o.session l.asking l.suited l.numbered l.turn in
    let goes : Goes (limits_of c) (Serves c) (between i now.machine d []) l.turn.answer (so_far there here none_asked) = record {
      live = ap is_closed_phase l.asking.phase;
      fault = w.fault;
      sends = elim w.on [
        | inl agreed ↦ full_sends c s.machine s.output now.machine there here o agreed.silent (meet.met agreed)
        | inr next ↦ login_sends c s.machine s.output now.machine there here next.0.request o next.0.is next.0.asking next.1 (meet.goes_on next.0) l.whole
      ];
    } in
    subst (λ (x : target.Machine). Goes (limits_of c) (Serves c) (between i x disk back) m (so_far there here h)) (sym l.machine)
    (subst (λ (x : Disk). Goes (limits_of c) (Serves c) (between i now.machine x back) m (so_far there here h)) (sym l.disk_is)
    (subst (λ (x : Message). Goes (limits_of c) (Serves c) (between i now.machine d back) x (so_far there here h))
    (sym (same_first m l.turn.answer back [] l.back_is))
    (subst (λ (x : List Message). Goes (limits_of c) (Serves c) (between i now.machine d x) l.turn.answer (so_far there here h))
    (sym (same_more m l.turn.answer back [] l.back_is))
    (subst (λ (x : History). Goes (limits_of c) (Serves c) (between i now.machine d []) l.turn.answer (so_far there here x)) (sym l.none) goes))))

-- ---- requests

-- an answer comes while a request is served
serving_goes : (n : ℕ) → n ≤ most_answers → (c : Opening) (i : initiator.InitiatorSession) (t : target.Machine) (disk : Disk) (m : Message)
    (back : List Message) (there here : Logins)
    (h : History) (v : IsServing c (between i t disk (m ∷ back)) h) → Leads v.held n (between i t disk (m ∷ back)) v.last
    → Goes (limits_of c) (Serves c) (between i t disk back) m (so_far there here h)
serving_goes zero few c i t disk m back there here h v l = absurd (let bad : m ∷ back ≡ [] = ap (λ (x : DiskExchange). x.answers) l ∙ v.ended.silent in cc)
serving_goes (suc n) few c i t disk m back there here h v l =
    let s : InitiatorStep = initiator_step i m in
    record {
      live = ap is_closed_phase l.0.full;
      fault = l.0.fault;
      sends = record {
        written = written_within v.held.target_max_recv (most_out c) there s.output v.agreed.out (l.0.sends_.written there);
        received = receives_well c v.held t disk here s.output v.agreed l.0.sends_;
        kept = Serve (record {
          held = v.held;
          agreed = v.agreed;
          past = v.past;
          request = v.request;
          requests_are = v.requests_are;
          outcomes_are = v.outcomes_are;
          last = v.last;
          leads = (n, omega (arith, few), l.1);
          ended = v.ended;
        });
      };
    }

-- a request is accepted
rest_sends : (c : Opening) (i : initiator.InitiatorSession) (t : target.Machine) (disk : Disk) (there here : Logins) (h : History) (request : Request)
    (held : Held)
    → HaveAgreed c held → AreInStep i t → i.held ≡ held → target.unit_of t.session ≡ c.target.extras.unit
    → disk ≡ local_disk_after c h.requests → h.outcomes ≡ disk_outcomes c h.requests → IsServed request → (submitted i request).refusal ≡ None
    → Sends (limits_of c) (Serves c) (between (submitted i request).machine t disk []) (submitted i request).output
    (so_far there here (record h { requests = h.requests ++ request ∷ [] }))
rest_sends c i t disk there here h request held agreed a same has disk_is outcomes_are served e =
    let most : i.held.initiator_max_recv ≡ pinged c = ap (λ (x : Held). x.initiator_max_recv) same ∙ agreed.most in
    let now : HaveAgreed c i.held = subst (HaveAgreed c) (sym same) agreed in
    let unit : Option LogicalUnit = c.target.extras.unit in
    let b : Begins i.held i t disk request (local (pinged c) unit disk request) =
    subst (λ (u : Option LogicalUnit). Begins i.held i t disk request (local (pinged c) u disk request)) has
    (subst (λ (n : ℕ). Begins i.held i t disk request (local n (target.unit_of t.session) disk request)) most (begins i t disk request served a e)) in
    record {
      written = written_within i.held.target_max_recv (most_out c) there (submitted i request).output now.out (b.received.written there);
      received = receives_well c i.held t disk here (submitted i request).output now b.received;
      kept = Serve (record {
        held = i.held;
        agreed = now;
        past = h.requests;
        request = request;
        requests_are = refl;
        outcomes_are = outcomes_are;
        last = b.ends.last;
        leads = b.ends.leads;
        ended = subst (λ (d : Disk). RequestHasEnded i.held unit (local (pinged c) unit d request).outcome (local (pinged c) unit d request).disk b.ends.last)
            disk_is
            (subst (λ (u : Option LogicalUnit). RequestHasEnded i.held u (local (pinged c) unit disk request).outcome
            (local (pinged c) unit disk request).disk b.ends.last) has b.ends.ended);
      });
    }

-- a session that is closed accepts none
parted_accepts : (i : initiator.InitiatorSession) (request : Request) → i.phase ≡ phases.Closed → (submitted i request).refusal ≡ None → ⊥
parted_accepts i request shut e = (let bad : phases.Closed ≡ phases.Full = sym shut ∙ (is_free i request e).full in cc)

-- where a request is served no other is accepted
serving_accepts : (n : ℕ) (c : Opening) (i : initiator.InitiatorSession) (t : target.Machine) (disk : Disk) (back : List Message) (h : History)
    (request : Request)
    (v : IsServing c (between i t disk back) h) → Leads v.held n (between i t disk back) v.last → (submitted i request).refusal ≡ None → ⊥
serving_accepts zero c i t disk back h request v l e =
    (let bad : true ≡ false = ap (λ (o : Option Done). is_some o) (sym v.ended.done_is) ∙ ap (λ (x : DiskExchange). is_some x.initiator.done) (sym l)
    ∙ (is_free i request e).none_done in cc)
serving_accepts (suc n) c i t disk [] h request v l e = absurd l
serving_accepts (suc n) c i t disk (m ∷ back) h request v l e = (let bad : true ≡ false = sym l.0.busy ∙ (is_free i request e).none_open in cc)

-- ---- outcomes

-- a logout alone closes the session
pub is_logout : (most : ℕ) (unit : Option LogicalUnit) (disk : Disk) (request : Request) → (local most unit disk request).outcome ≡ done.Closed
    → request ≡ requests.Logout
is_logout most unit disk (requests.In lun cdb expected) e = absurd (cc e)
is_logout most unit disk (requests.Out lun cdb bytes) e = absurd (cc e)
is_logout most unit disk (requests.Ping bytes) e = absurd (cc e)
is_logout most unit disk (requests.Text bytes) e = absurd (cc e)
is_logout most unit disk requests.Logout e = refl

settles : (c : Opening) (held : Held) (h : History) (past : List Request) (request : Request) (i : initiator.InitiatorSession) (t : target.Machine)
    → h.requests ≡ past ++ request ∷ []
    → AreAtRest held c.target.extras.unit (local (pinged c) c.target.extras.unit (local_disk_after c past) request).outcome i t
    → AreSettled held c.target.extras.unit h i t
settles c held h past request i t all rest =
    elim rest [
      | inl on_ ↦ inl on_
      | inr over ↦ inr (over.0, (past, all ∙ ap (λ (r : Request). past ++ r ∷ []) (is_logout (pinged c) c.target.extras.unit (local_disk_after c past) request over.1)))
    ]

-- the outcome that is there is the last request's, and no answer is on its way
record IsDone (c : Opening) (held : Held) (x : DiskExchange) (h : History) (d : Done) : Type 0 where
  silent : x.answers ≡ []
  settled : AreSettled held c.target.extras.unit h (outcome_handed_out x.initiator) x.target
  disk_is : x.disk ≡ local_disk_after c h.requests
  outcomes_are : h.outcomes ++ d ∷ [] ≡ disk_outcomes c h.requests

serving_done : (n : ℕ) (c : Opening) (i : initiator.InitiatorSession) (t : target.Machine) (disk : Disk) (back : List Message) (h : History) (d : Done)
    (v : IsServing c (between i t disk back) h) → Leads v.held n (between i t disk back) v.last → i.done ≡ Some d
    → IsDone c v.held (between i t disk back) h d
serving_done zero c i t disk back h d v l is =
    let here : Local = local (pinged c) c.target.extras.unit (local_disk_after c v.past) v.request in
    let one : here.outcome ≡ d = (let e : Some here.outcome ≡ Some d = sym v.ended.done_is ∙ ap (λ (x : DiskExchange). x.initiator.done) (sym l) ∙ is in cc) in
    record {
      silent = ap (λ (x : DiskExchange). x.answers) l ∙ v.ended.silent;
      settled = settles c v.held h v.past v.request (outcome_handed_out i) t v.requests_are
          (subst (λ (x : DiskExchange). AreAtRest v.held c.target.extras.unit here.outcome (outcome_handed_out x.initiator) x.target) (sym l) v.ended.at_rest);
      disk_is = ap (λ (x : DiskExchange). x.disk) l ∙ v.ended.disk_is ∙ sym (disk_more (pinged c) c.target.extras.unit (disk_of c.blocks) v.past v.request)
          ∙ ap (local_disk_after c) (sym v.requests_are);
      outcomes_are = ap (λ (x : List Done). x ++ d ∷ []) v.outcomes_are ∙ ap (λ (x : Done). disk_outcomes c v.past ++ x ∷ []) (sym one)
          ∙ sym (outcomes_more (pinged c) c.target.extras.unit (disk_of c.blocks) v.past v.request) ∙ ap (disk_outcomes c) (sym v.requests_are);
    }
serving_done (suc n) c i t disk [] h d v l is = absurd l
serving_done (suc n) c i t disk (m ∷ back) h d v l is = absurd (let bad : None ≡ Some d = sym l.0.none_done ∙ is in cc)

-- ---- the relation is kept

pub serves_receives : (c : Opening) (i : initiator.InitiatorSession) (t : target.Machine) (disk : Disk) (m : Message) (back : List Message)
    (there here : Logins) (h :
    History)
    → IsNormal c → Serves c (between i t disk (m ∷ back)) (so_far there here h)
    → Goes (limits_of c) (Serves c) (between i t disk back) m (so_far there here h)
serves_receives c i t disk m back there here h o (Logs l) = login_goes c i t disk m back there here h o l
serves_receives c i t disk m back there here h o (Rest r) = absurd (let bad : m ∷ back ≡ [] = r.none_back in cc)
serves_receives c i t disk m back there here h o (Serve v) = serving_goes v.leads.0 v.leads.1 c i t disk m back there here h v v.leads.2

pub serves_asks : (c : Opening) (i : initiator.InitiatorSession) (t : target.Machine) (disk : Disk) (back : List Message) (there here : Logins) (h : History)
    (request : Request) → Serves c (between i t disk back) (so_far there here h) → IsServed request → (submitted i request).refusal ≡ None
    → Sends (limits_of c) (Serves c) (between (submitted i request).machine t disk back) (submitted i request).output
    (so_far there here (record h { requests = h.requests ++ request ∷ [] }))
serves_asks c i t disk back there here h request (Logs l) served e =
    absurd (let bad : phases.Login ≡ phases.Full = sym l.asking.phase ∙ (is_free i request e).full in cc)
serves_asks c i t disk back there here h request (Rest r) served e =
    subst (λ (x : List Message). Sends (limits_of c) (Serves c) (between (submitted i request).machine t disk x) (submitted i request).output
    (so_far there here (record h { requests = h.requests ++ request ∷ [] }))) (sym r.none_back)
    (elim r.at_rest [
      | inl on_ ↦ rest_sends c i t disk there here h request r.held r.agreed on_.0 on_.1 on_.2 r.disk_is r.outcomes_are served e
      | inr over ↦ absurd (parted_accepts i request over.0.initiator_phase e)
    ])
serves_asks c i t disk back there here h request (Serve v) served e = absurd (serving_accepts v.leads.0 c i t disk back h request v v.leads.2 e)

pub serves_takes : (c : Opening) (i : initiator.InitiatorSession) (t : target.Machine) (disk : Disk) (back : List Message) (there here : Logins) (h : History)
    (d : Done)
    → Serves c (between i t disk back) (so_far there here h) → i.done ≡ Some d
    → Serves c (between (outcome_handed_out i) t disk back) (so_far there here (record h { outcomes = h.outcomes ++ d ∷ [] }))
serves_takes c i t disk back there here h d (Logs l) is = absurd (let bad : None ≡ Some d = sym l.asking.no_outcome ∙ is in cc)
serves_takes c i t disk back there here h d (Rest r) is = absurd (let bad : None ≡ Some d = sym r.none_done ∙ is in cc)
serves_takes c i t disk back there here h d (Serve v) is =
    let e : IsDone c v.held (between i t disk back) h d = serving_done v.leads.0 c i t disk back h d v v.leads.2 is in
    Rest (record {
      held = v.held;
      agreed = v.agreed;
      at_rest = e.settled;
      none_back = e.silent;
      none_done = refl;
      disk_is = e.disk_is;
      outcomes_are = e.outcomes_are;
    })

pub serves_kept : (c : Opening) → IsNormal c → IsKept (limits_of c) (Serves c)
serves_kept c o = record {
  receives = λ i t disk m back there here h. serves_receives c i t disk m back there here h o;
  asks = λ i t disk back there here h request. serves_asks c i t disk back there here h request;
  takes = λ i t disk back there here h d. serves_takes c i t disk back there here h d;
}

-- ---- what is seen of it

-- what was taken is the first of what the disk gives
pub record AreFirst (c : Opening) (h : History) : Type 0 where
  pub later : List Done
  pub one : length later ≤ 1
  pub is : h.outcomes ++ later ≡ disk_outcomes c h.requests

pub first_outcomes : (c : Opening) (i : initiator.InitiatorSession) (t : target.Machine) (disk : Disk) (back : List Message) (there here : Logins) (h : History)
    → Serves c (between i t disk back) (so_far there here h) → AreFirst c h
unfolding local_outcomes
first_outcomes c i t disk back there here h (Logs l) = subst (AreFirst c) (sym l.none) (record { later = []; one = omega arith; is = refl })
first_outcomes c i t disk back there here h (Rest r) = record { later = []; one = omega arith; is = append-nil h.outcomes ∙ r.outcomes_are }
first_outcomes c i t disk back there here h (Serve v) =
    let d : Done = (local (pinged c) c.target.extras.unit (local_disk_after c v.past) v.request).outcome in
    record {
      later = d ∷ [];
      one = omega arith;
      is = ap (λ (x : List Done). x ++ d ∷ []) v.outcomes_are ∙ sym (outcomes_more (pinged c) c.target.extras.unit (disk_of c.blocks) v.past v.request)
          ∙ ap (disk_outcomes c) (sym v.requests_are);
    }

-- with nothing on its way every request has its outcome
pub record IsIdle (c : Opening) (i : initiator.InitiatorSession) (t : target.Machine) (disk : Disk) (h : History) : Type 0 where
  pub held : Held
  pub at_rest : AreSettled held c.target.extras.unit h (outcome_handed_out i) t
  pub disk_is : disk ≡ local_disk_after c h.requests
  pub outcomes_are : h.outcomes ++ listed i.done ≡ disk_outcomes c h.requests

idle_serving : (n : ℕ) (c : Opening) (i : initiator.InitiatorSession) (t : target.Machine) (disk : Disk) (h : History) (v : IsServing c (between i t disk []) h)
    → Leads v.held n (between i t disk []) v.last → IsIdle c i t disk h
idle_serving zero c i t disk h v l =
    let d : Done = (local (pinged c) c.target.extras.unit (local_disk_after c v.past) v.request).outcome in
    let is : i.done ≡ Some d = ap (λ (x : DiskExchange). x.initiator.done) l ∙ v.ended.done_is in
    let e : IsDone c v.held (between i t disk []) h d = serving_done zero c i t disk [] h d v l is in
    record { held = v.held; at_rest = e.settled; disk_is = e.disk_is; outcomes_are = ap (λ (o : Option Done). h.outcomes ++ listed o) is ∙ e.outcomes_are }
idle_serving (suc n) c i t disk h v l = absurd l

pub idle_serves : (c : Opening) (i : initiator.InitiatorSession) (t : target.Machine) (disk : Disk) (there here : Logins) (h : History)
    → Serves c (between i t disk []) (so_far there here h) → IsIdle c i t disk h
idle_serves c i t disk there here h (Logs l) = absurd (let bad : [] ≡ l.turn.answer ∷ [] = l.back_is in cc)
idle_serves c i t disk there here h (Rest r) =
    let none : outcome_handed_out i ≡ i = ap (λ (d : Option Done). record i { done = d }) (sym r.none_done) in
    record {
      held = r.held;
      at_rest = subst (λ (x : initiator.InitiatorSession). AreSettled r.held c.target.extras.unit h x t) (sym none) r.at_rest;
      disk_is = r.disk_is;
      outcomes_are = ap (λ (o : Option Done). h.outcomes ++ listed o) r.none_done ∙ append-nil h.outcomes ∙ r.outcomes_are;
    }
idle_serves c i t disk there here h (Serve v) = idle_serving v.leads.0 c i t disk h v v.leads.2

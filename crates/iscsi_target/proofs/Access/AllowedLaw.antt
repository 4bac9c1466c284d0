-- Nobody but who may log in comes to full feature phase, or has a command executed.
use Rattle.std.proofs.Common.{◌≡◌, ◌∙◌, ℕ, ◌+◌, List, [], ◌∷◌, ◌++◌, Bool, true, false, length, Option, Some, None, refl, sym, ap, subst}
use Rattle.std.specs.Prelude.{nat_lt, not, ◌&&◌, if◌then◌else◌, codes}
use Rattle.scsi_disk.specs.Disk.{Disk}
use Rattle.scsi_disk.specs.Plan.{first_reason}
use Rattle.iscsi_target_session.proofs.RefusalLemmas.{text_accepted}
use Rattle.iscsi_text.specs.Key.{is_among}
use Rattle.iscsi_text.specs.Text.{Pairs}
use Rattle.iscsi_pdu.specs.declared.head.Head.{Head}
use Rattle.iscsi_pdu.specs.declared.head.Head.TheVariants.{LoginRequest}
use Rattle.iscsi_pdu.specs.declared.head.login_request.LoginRequest.{LoginRequest as Request}
use Rattle.iscsi_stream.specs.Segment.{Segment, segment_bytes}
use Rattle.iscsi_stream.specs.Stream.{Message}
use Rattle.iscsi_login.specs.Stage.{is_closed_phase}
use Rattle.iscsi_login.specs.declared.phase.Phase.{Phase}
use Rattle.iscsi_login.specs.declared.phase.Phase.TheVariants as phases
use Rattle.iscsi_target_session.specs.Configured.{Extras, TargetSettings, is_allowed, is_name_listed}
use Rattle.iscsi_target_session.specs.Session.{Session, Reply}
use Rattle.iscsi_target_session.specs.declared.status.Status.{Status}
use Rattle.iscsi_target_session.specs.LoginText.{text_refusals, name_in, login_value}
use Rattle.iscsi_target_session.specs.Login.{entered, numbers_settled, request_refusals, refuse_or, allowed_move, rest_of, gather, whole_text, pairs_answered, text_ending, segment_taken, on_login_request, login_in}
use Rattle.iscsi_target_session.proofs.CaseLemmas.{by_cases}
use Rattle.iscsi_target_session.proofs.ExchangeLemmas.{text_cases}
use Rattle.iscsi_target.specs.State.{Machine, Execution, TargetStep, opening_machine, unchanged}
use Rattle.iscsi_target.specs.Execution.{Device}
use Rattle.iscsi_target.specs.Laws.{ExecutionsLead}
use Rattle.iscsi_target.specs.Machine.{MayStep, MayAnswer, step_on, then_stepped, is_machine_closed, is_over_limit, phase_step}
use Rattle.iscsi_target.proofs.Steps.FailingDiskLemmas.{may_leads}
use Rattle.iscsi_target.proofs.Steps.KeepingLemmas.{IsLater, step_settings, step_stays}

-- a session that took a text is that of an initiator that may log in, and full feature phase has one
pub record Admitted (s : Session) : Type 0 where
  pub listed : s.has_text ≡ true → is_allowed s.settings.extras s.initiator_name ≡ true
  pub full : s.phase ≡ phases.Full → s.has_text ≡ true

-- it stays so, and a text that was taken stays taken
pub record Admits (s n : Session) : Type 0 where
  pub settings : n.settings ≡ s.settings
  pub text : s.has_text ≡ true → n.has_text ≡ true
  pub admitted : Admitted s → Admitted n

-- where none of it changes
pub unmoved : (s n : Session) → n.settings ≡ s.settings → n.has_text ≡ s.has_text → n.initiator_name ≡ s.initiator_name
    → (n.phase ≡ phases.Full → s.phase ≡ phases.Full) → Admits s n
unmoved s n settings text name was = record {
  settings = settings;
  text = λ e. text ∙ e;
  admitted = λ a. record {
    listed = λ e. ap (λ (p : TargetSettings). is_allowed p.extras n.initiator_name) settings
        ∙ ap (λ (x : List ℕ). is_allowed s.settings.extras x) name
        ∙ a.listed (sym text ∙ e);
    full = λ e. text ∙ a.full (was e);
  };
}

pub then_admits : (s t n : Session) → Admits s t → Admits t n → Admits s n
then_admits s t n x y = record {
  settings = y.settings ∙ x.settings;
  text = λ e. y.text (x.text e);
  admitted = λ a. y.admitted (x.admitted a);
}

-- ---- a text

unnot : (b : Bool) → not b ≡ false → b ≡ true
unnot true e = refl
unnot false e = absurd (cc e)

-- the first text settles the name, and is refused where that may not log in
listed_for : (taken : Bool) (extras : Extras) (before name : List ℕ) → (not taken && not (is_allowed extras name)) ≡ false
    → (taken ≡ true → is_allowed extras before ≡ true) → is_allowed extras (if taken then before else name) ≡ true
listed_for true extras before name row was = was refl
listed_for false extras before name row was = unnot (is_allowed extras name) row

answered_admits : (s : Session) (r : Request) (pairs : Pairs) → first_reason (text_refusals s pairs) ≡ None → Admits s (pairs_answered s r pairs).session
answered_admits s r pairs none = record {
  settings = refl;
  text = λ e. refl;
  admitted = λ a. record {
    listed = λ e. listed_for s.has_text s.settings.extras s.initiator_name (name_in (login_value (codes "InitiatorName") pairs))
        (text_accepted s pairs none).is_let_in a.listed;
    full = λ e. refl;
  };
}

refused_admits : (s : Session) (r : Request) (why : Option Status) (reply : Reply) → (why ≡ None → Admits s reply.session)
    → Admits s (refuse_or why s r reply).session
refused_admits s r None reply g = g refl
refused_admits s r (Some why) reply g = unmoved s _ refl refl refl (λ e. absurd (cc e))

whole_admits : (s : Session) (r : Request) (text : Option Pairs) → Admits s (whole_text s r text).session
whole_admits s r text = text_cases (λ x. Admits s x.session) s r text (record {
  refused = λ why reason. unmoved s _ refl refl refl (λ e. absurd (cc e));
  plain = λ pairs is open_ none. answered_admits s r pairs none;
  exchange = λ c p said pairs is demanded none verdict short.
      then_admits s (record s { progress = p }) _ (unmoved s (record s { progress = p }) refl refl refl (λ e. e))
      (answered_admits (record s { progress = p }) (allowed_move p r) (rest_of pairs) none);
})

gather_admits : (s : Session) (r : Request) (segment : Segment) (more : Bool)
    → Admits s (if more then gather s r (segment_bytes segment) else whole_text (record s { gathered = [] }) r (text_ending s.gathered segment)).session
gather_admits s r segment true = unmoved s _ refl refl refl (λ e. e)
gather_admits s r segment false =
    then_admits s (record s { gathered = [] }) _ (unmoved s (record s { gathered = [] }) refl refl refl (λ e. e))
    (whole_admits (record s { gathered = [] }) r (text_ending s.gathered segment))

segment_admits : (s : Session) (r : Request) (segment : Segment) → Admits s (segment_taken s r segment).session
segment_admits s r segment = by_cases (nat_lt 16384 (length s.gathered + length (segment_bytes segment)))
    (λ e. rw e (unmoved s _ refl refl refl (λ f. absurd (cc f)))) (λ e. rw e (gather_admits s r segment r.continues))

-- ---- a request

numbered_by : (begun : Bool) (s t : Session) → Admits s t → Admits s (if begun then s else t)
numbered_by true s t a = unmoved s s refl refl refl (λ f. f)
numbered_by false s t a = a

numbered_admits : (s : Session) (r : Request) → Admits s (numbers_settled s r)
numbered_admits s r =
    numbered_by s.begun s (record s { begun = true; exp_cmd_sn = r.cmd_sn; isid = r.isid })
    (unmoved s (record s { begun = true; exp_cmd_sn = r.cmd_sn; isid = r.isid }) refl refl refl (λ f. f))

request_admits : (s : Session) (r : Request) (segment : Segment) → Admits s (on_login_request s r segment).session
request_admits s r segment =
    let n : Session = numbers_settled s r in
    then_admits s n _ (numbered_admits s r)
    (refused_admits n r (first_reason (request_refusals s r)) (segment_taken (entered s r) r segment)
    (λ none. then_admits n (entered s r) _ (unmoved n (entered s r) refl refl refl (λ f. f)) (segment_admits (entered s r) r segment)))

login_admits : (s : Session) (head : Head) (segment : Segment) → Admits s (login_in s head segment).session
login_admits s (LoginRequest r) segment = request_admits s r segment
login_admits s _ segment = unmoved s _ refl refl refl (λ e. absurd (cc e))

-- ---- a message

-- a closed session stays as it is
pub closed_stays : (device : Device) (s : Machine) (disk : Disk) (m : Message) → s.session.phase ≡ phases.Closed → step_on device s disk m
    ≡ unchanged s disk
closed_stays device s disk m e = let shut : is_machine_closed s ≡ true = ap is_closed_phase e in rw shut refl

later_admits : (device : Device) (s : Machine) (disk : Disk) (m : Message) → IsLater s.session.phase
    → ((step_on device s disk m).machine.session.phase ≡ phases.Full → s.session.phase ≡ phases.Full)
    → Admits s.session (step_on device s disk m).machine.session
later_admits device s disk m later was =
    let x = step_stays device s disk m later in
    unmoved s.session (step_on device s disk m).machine.session (step_settings device s disk m) x.has_text x.name was

step_admits : (device : Device) (s : Machine) (disk : Disk) (m : Message) → Admits s.session (step_on device s disk m).machine.session
step_admits device s disk m = by_phase s.session.phase refl
  where
    by_phase : (p : Phase) → s.session.phase ≡ p → Admits s.session (step_on device s disk m).machine.session
    by_phase phases.Login e =
        let open_ : is_machine_closed s ≡ false = ap is_closed_phase e in
        by_cases (is_over_limit s m.segment) (λ f. rw (open_, f) (unmoved s.session _ refl refl refl (λ g. absurd (cc g))))
        (λ f. rw (open_, f) (subst (λ (p : Phase). Admits s.session (phase_step device p s disk m).machine.session) (sym e)
        (login_admits s.session m.head m.segment)))
    by_phase phases.Full e = later_admits device s disk m (subst IsLater (sym e) tt) (λ f. e)
    by_phase phases.Closed e =
        later_admits device s disk m (subst IsLater (sym e) tt)
        (λ f. sym (ap (λ (r : TargetStep). r.machine.session.phase) (closed_stays device s disk m e)) ∙ f)

-- nothing is executed before full feature phase, nor in a closed session
pub executes_none : (device : Device) (s : Machine) (disk : Disk) (m : Message) (p : Phase) → s.session.phase ≡ p → (p ≡ phases.Full → ⊥)
    → (step_on device s disk m).executed ≡ []
executes_none device s disk m phases.Full e never = absurd (never refl)
executes_none device s disk m phases.Closed e never = ap (λ (r : TargetStep). r.executed) (closed_stays device s disk m e)
executes_none device s disk m phases.Login e never =
    let open_ : is_machine_closed s ≡ false = ap is_closed_phase e in
    by_cases (is_over_limit s m.segment) (λ f. rw (open_, f) refl)
    (λ f. rw (open_, f) (subst (λ (p : Phase). (phase_step device p s disk m).executed ≡ []) (sym e) refl))

-- ---- any messages

may_admits : (protected : Bool) (s : Machine) (disk : Disk) (before : ℕ) (m : Message) (r : TargetStep) (after : ℕ) → MayStep protected s disk before m r after
    → Admits s.session r.machine.session
may_admits protected s disk before m r after x =
    subst (λ (r : TargetStep). Admits s.session r.machine.session) (sym x.is) (step_admits x.device s disk m)

pub all_admit : (protected : Bool) (s : Machine) (disk : Disk) (before : ℕ) (ms : List Message) (r : TargetStep) (after : ℕ)
    → MayAnswer protected s disk before ms r after → Admits s.session r.machine.session
unfolding MayAnswer
all_admit protected s disk before [] r after may =
    subst (λ (x : TargetStep). Admits s.session x.machine.session) (sym may.0) (unmoved s.session s.session refl refl refl (λ e. e))
all_admit protected s disk before (m ∷ ms) r after may =
    subst (λ (x : TargetStep). Admits s.session x.machine.session) (sym may.5)
    (then_admits s.session may.0.machine.session may.1.machine.session (may_admits protected s disk before m may.0 may.2 may.3)
    (all_admit protected may.0.machine may.0.disk may.2 ms may.1 after may.4))

-- nothing was executed first, so something was behind it
pub behind_none : (first later : TargetStep) → first.executed ≡ [] → ((then_stepped first later).executed ≡ [] → ⊥) → later.executed ≡ [] → ⊥
behind_none first later none some e = some (ap (λ (l : List Execution). l ++ later.executed) none ∙ e)

-- a message at which nothing may be executed
pub may_execute_none : (protected : Bool) (s : Machine) (disk : Disk) (before : ℕ) (m : Message) (r : TargetStep) (after : ℕ)
    → MayStep protected s disk before m r after → (p : Phase) → s.session.phase ≡ p → (p ≡ phases.Full → ⊥) → r.executed ≡ []
may_execute_none protected s disk before m r after x p e never =
    ap (λ (r : TargetStep). r.executed) x.is ∙ executes_none x.device s disk m p e never

executed_at : (protected : Bool) (s : Machine) (disk : Disk) (before : ℕ) (m : Message) (first later : TargetStep) (now : ℕ)
    → MayStep protected s disk before m first now → (p : Phase) → s.session.phase ≡ p → Admitted s.session
    → ((then_stepped first later).executed ≡ [] → ⊥) → (first.machine.session.has_text ≡ true → later.machine.session.has_text ≡ true)
    → ((later.executed ≡ [] → ⊥) → later.machine.session.has_text ≡ true) → later.machine.session.has_text ≡ true
executed_at protected s disk before m first later now x phases.Full e a some keeps behind =
    keeps ((may_admits protected s disk before m first now x).text (a.full e))
executed_at protected s disk before m first later now x phases.Login e a some keeps behind =
    behind (behind_none first later (may_execute_none protected s disk before m first now x phases.Login e (λ f. absurd (cc f))) some)
executed_at protected s disk before m first later now x phases.Closed e a some keeps behind =
    behind (behind_none first later (may_execute_none protected s disk before m first now x phases.Closed e (λ f. absurd (cc f))) some)

-- a session in which a command was executed has taken a text
pub executed_text : (protected : Bool) (s : Machine) (disk : Disk) (before : ℕ) (ms : List Message) (r : TargetStep) (after : ℕ)
    → MayAnswer protected s disk before ms r after → Admitted s.session → (r.executed ≡ [] → ⊥) → r.machine.session.has_text ≡ true
unfolding MayAnswer
executed_text protected s disk before [] r after may a some = absurd (some (ap (λ (x : TargetStep). x.executed) may.0))
executed_text protected s disk before (m ∷ ms) r after may a some =
    let first : TargetStep = may.0 in
    let later : TargetStep = may.1 in
    ap (λ (x : TargetStep). x.machine.session.has_text) may.5
    ∙ executed_at protected s disk before m first later may.2 may.3 s.session.phase refl a
    (subst (λ (x : TargetStep). x.executed ≡ [] → ⊥) may.5 some)
    (λ e. (all_admit protected first.machine first.disk may.2 ms later after may.4).text e)
    (λ more. executed_text protected first.machine first.disk may.2 ms later after may.4
    ((may_admits protected s disk before m first may.2 may.3).admitted a) more)

-- ---- the law

pub opening_admitted : (settings : TargetSettings) (n : ℕ) → Admitted (opening_machine settings n).session
opening_admitted settings n = record { listed = λ e. absurd (cc e); full = λ e. absurd (cc e) }

-- a session that took a text has a listed name
pub named : (settings : TargetSettings) (names : List (List ℕ)) (n : ℕ) (s : Session) → settings.extras.names ≡ Some names
    → Admits (opening_machine settings n).session s → s.has_text ≡ true → is_among names s.initiator_name ≡ true
named settings names n s listed x text =
    subst (λ (o : Option (List (List ℕ))). is_name_listed o s.initiator_name ≡ true) listed
    (subst (λ (p : TargetSettings). is_allowed p.extras s.initiator_name ≡ true) x.settings
    ((x.admitted (opening_admitted settings n)).listed text))

pub full_allowed : (protected : Bool) (settings : TargetSettings) (names : List (List ℕ)) (n : ℕ) (disk : Disk) (before after : ℕ) (ms : List Message)
    (r : TargetStep) → settings.extras.names ≡ Some names → MayAnswer protected (opening_machine settings n) disk before ms r after
    → r.machine.session.phase ≡ phases.Full → is_among names r.machine.session.initiator_name ≡ true
full_allowed protected settings names n disk before after ms r listed may full =
    let x : Admits (opening_machine settings n).session r.machine.session = all_admit protected (opening_machine settings n) disk before ms r after may in
    named settings names n r.machine.session listed x ((x.admitted (opening_admitted settings n)).full full)

pub executed_allowed : (protected : Bool) (settings : TargetSettings) (names : List (List ℕ)) (n : ℕ) (disk : Disk) (before after : ℕ) (ms : List Message)
    (r : TargetStep) → settings.extras.names ≡ Some names → MayAnswer protected (opening_machine settings n) disk before ms r after
    → (r.executed ≡ [] → ⊥) → is_among names r.machine.session.initiator_name ≡ true
executed_allowed protected settings names n disk before after ms r listed may some =
    named settings names n r.machine.session listed (all_admit protected (opening_machine settings n) disk before ms r after may)
    (executed_text protected (opening_machine settings n) disk before ms r after may (opening_admitted settings n) some)

none_if : (l : List Execution) → ((l ≡ [] → ⊥) → ⊥) → l ≡ []
none_if [] f = refl
none_if (x ∷ xs) f = absurd (f (λ e. absurd (cc e)))

untouched_by : (protected : Bool) (executed : List Execution) (disk now : Disk) → executed ≡ [] → ExecutionsLead protected disk executed now → now ≡ disk
unfolding ExecutionsLead
untouched_by protected executed disk now none e = subst (λ (l : List Execution). ExecutionsLead protected disk l now) none e

pub others_touch_nothing : (protected : Bool) (settings : TargetSettings) (names : List (List ℕ)) (n : ℕ) (disk : Disk) (before after : ℕ)
    (ms : List Message) (r : TargetStep) → settings.extras.names ≡ Some names → MayAnswer protected (opening_machine settings n) disk before ms r after
    → is_among names r.machine.session.initiator_name ≡ false → (r.executed ≡ []) × (r.disk ≡ disk)
others_touch_nothing protected settings names n disk before after ms r listed may other =
    let none : r.executed ≡ [] =
    none_if r.executed (λ some. absurd (let bad : true ≡ false = sym (executed_allowed protected settings names n disk before after ms r listed may some)
    ∙ other in
    cc bad)) in
    (none, untouched_by protected r.executed disk r.disk none (may_leads protected (opening_machine settings n) disk before after ms r may))

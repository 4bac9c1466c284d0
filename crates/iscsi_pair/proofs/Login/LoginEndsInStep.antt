-- At the end of a login both ends are in step.
use Rattle.std.proofs.Common.{◌≡◌, ◌<◌, ◌≤◌, ◌⊎◌, inl, inr, ℕ, ◌+◌, Bool, true, false, List, [], ◌∷◌, Option, Some, None, refl, sym, ap, ◌∙◌, subst, arith}
use Rattle.std.specs.Prelude.{◌^◌, ◌%◌, ◌-◌, if◌then◌else◌, unwrap_or}
use Rattle.std.proofs.Math.Nat.{mod-lt}
use Rattle.std.proofs.lemmas.Bool.{cond_both, cond-true}
use Rattle.scsi_disk.specs.Disk.{Disk, disk_of}
use Rattle.iscsi_text.specs.Canonical.{canonical_text}
use Rattle.iscsi_pdu.specs.Serial.{moved, next_sn}
use Rattle.iscsi_pdu.specs.declared.serial.Window.{Window}
use Rattle.iscsi_pdu.specs.declared.head.login_request.LoginRequest.{LoginRequest}
use Rattle.iscsi_pdu.specs.declared.head.login_response.LoginResponse.{LoginResponse}
use Rattle.iscsi_stream.specs.declared.logins.Logins.{Logins}
use Rattle.iscsi_stream.specs.Segment.{Text}
use Rattle.iscsi_stream.specs.Stream.{Message}
use Rattle.iscsi_login.specs.declared.phase.Phase.TheVariants as phases
use Rattle.iscsi_login.specs.declared.stage.Stage.{Stage}
use Rattle.iscsi_login.specs.declared.stage.Stage.TheVariants as stages
use Rattle.iscsi_text.specs.declared.negotiated.Session.{Session}
use Rattle.iscsi_text.specs.declared.negotiated.Session.TheVariants as sessions
use Rattle.iscsi_login.specs.Held.{Held, IsHeld}
use Rattle.iscsi_login.specs.Negotiation.{ArePreferencesInRange}
use Rattle.iscsi_text.specs.Reading.{in_order}
use Rattle.iscsi_login.specs.Offers.{Proposal, offers_at}
use Rattle.iscsi_target_session.specs.Configured as target_settings
use Rattle.iscsi_target_session.specs.Session as target_session
use Rattle.iscsi_target.specs.State as target
use Rattle.iscsi_target.specs.declared.tasks.Task.{Task}
use Rattle.iscsi_login.specs.Stage.{is_closed_phase}
use Rattle.iscsi_target_session.specs.LoginText.{answer_pairs, session_for, session_in}
use Rattle.iscsi_target_session.specs.Login.{entered, numbers_settled, gather, pairs_answered}
use Rattle.iscsi_target.specs.Machine as target_machine
use Rattle.iscsi_target.specs.Machine.{answers}
use Rattle.iscsi_target.proofs.Steps.NumberLaws.{IsFit, step_fit}
use Rattle.iscsi_target.proofs.Steps.ReachableLemmas.{reached_fit}
use Rattle.iscsi_initiator.specs.Configured.{IsStart}
use Rattle.iscsi_initiator.specs.State as initiator
use Rattle.iscsi_initiator.specs.State.{serial}
use Rattle.iscsi_initiator.specs.Steps.{InitiatorStep, step_sending}
use Rattle.iscsi_initiator.specs.Login.{following_stage, login_counted, begins_stage, fits_segment, login_request_message, login_request_head, offered, sends_cut, sends_more}
use Rattle.iscsi_initiator.specs.Login.{sends_text, start_step}
use Rattle.iscsi_initiator.specs.Machine.{initiator_step}
use Rattle.iscsi_pair.specs.World.{Opening, IsOpening, SuitEachOther}
use Rattle.iscsi_pair.specs.LocalDisk.{AreInStep, window_of_eight}
use Rattle.iscsi_pair.proofs.Login.InitiatorStep.{with_answer}
use Rattle.iscsi_pair.proofs.Login.RoundAgrees.{Agreed, Asking, Asks_on, Round}
use Rattle.iscsi_pair.proofs.Login.Compatible.{says_security, says_single, session_is}
use Rattle.iscsi_pair.proofs.Wire.WindowLemmas.{IsNear, near_now, tells_eight}
use Rattle.iscsi_pair.proofs.Login.RoundBegins.{HasNone, HasFirst, Suited, SameState, entered_same}
use Rattle.iscsi_pair.proofs.Login.RoundProgress.{TextKeeps, LastTurn, PartTurn, emptied, part_head}
use Rattle.iscsi_pair.proofs.Login.RoundProgress.{text_head, text_keeps, turns}

-- ---- what is counted

-- what both ends have counted while the login goes on
pub record Numbered (c : Opening) (i : initiator.InitiatorSession) (t : target.Machine) : Type 0 where
  pub tag : i.initiator_task_tag ≡ 0
  pub cmd_sn : i.cmd_sn ≡ c.initiator.first_cmd_sn
  pub none_open : i.outstanding ≡ None
  pub no_task : t.tasks ≡ []
  -- the first request settled the number that is due
  pub due : t.session.begun ≡ true → t.session.exp_cmd_sn ≡ c.initiator.first_cmd_sn
  -- before the first answer no command is let in, and then eight
  pub window : IsNear c.initiator.first_cmd_sn i.window
  -- what the target holds may be held, and its framer takes what it declared
  pub fit : IsFit t
  -- the first text settled the session
  pub session : t.session.has_text ≡ true → t.session.session_type ≡ sessions.Normal

-- both ends are in full feature phase of the session that was asked for
pub record HasMet (c : Opening) (i : initiator.InitiatorSession) (t : target.Machine) : Type 0 where
  pub in_step : AreInStep i t
  pub initiator_settings : i.settings ≡ c.initiator
  pub target_settings : t.session.settings ≡ c.target
  pub most : i.held.initiator_max_recv ≡ c.initiator.proposal.prefs.max_recv

-- one round
pub record Meets (c : Opening) (i : initiator.InitiatorSession) (t : target.TargetStep) (s : InitiatorStep) (disk : Disk) (next : Logins) : Type 0 where
  pub met : Agreed s t.machine → HasMet c s.machine t.machine
  pub goes_on : Asks_on c s t.machine next → Numbered c s.machine t.machine
  pub disk_is : t.disk ≡ disk

-- ---- what a text that goes out keeps

-- all but where the login is
record Kept (m n : initiator.InitiatorSession) : Type 0 where
  settings : n.settings ≡ m.settings
  exp_stat_sn : n.exp_stat_sn ≡ m.exp_stat_sn
  held : n.held ≡ m.held
  window : n.window ≡ m.window
  cmd_sn : n.cmd_sn ≡ m.cmd_sn
  tag : n.initiator_task_tag ≡ m.initiator_task_tag
  outstanding : n.outstanding ≡ m.outstanding
  none_done : n.done ≡ m.done

-- the text of a stage goes out
text_kept : (m : initiator.InitiatorSession) (stage : Stage) → Kept m (sends_text (record m { stage = stage })).machine
text_kept m stage =
    let n : initiator.InitiatorSession = record m { stage = stage } in
    cond_both (fits_segment n (canonical_text (offered n))) (step_sending (record n { unsent_text = [] })
    (login_request_message n true (Text (offered n)) ∷ []))
    (sends_cut n (canonical_text (offered n)) false) (λ (x : InitiatorStep). Kept m x.machine)
    (λ is. record { settings = refl; exp_stat_sn = refl; held = refl; window = refl; cmd_sn = refl; tag = refl; outstanding = refl; none_done = refl })
    (λ is. record { settings = refl; exp_stat_sn = refl; held = refl; window = refl; cmd_sn = refl; tag = refl; outstanding = refl; none_done = refl })

-- the stage moves
enters_kept : (stage : Stage) (m : initiator.InitiatorSession) → Kept m (begins_stage stage m).machine
enters_kept stages.Security m = text_kept m stages.Security
enters_kept stages.Operational m = text_kept m stages.Operational
enters_kept stages.Full m = record {
  settings = refl;
  exp_stat_sn = refl;
  held = refl;
  window = refl;
  cmd_sn = refl;
  tag = refl;
  outstanding = refl;
  none_done = refl;
}

-- the last stage goes with its phase
enters_full : (stage : Stage) (m : initiator.InitiatorSession) → (begins_stage stage m).machine.stage ≡ stages.Full → (begins_stage stage m).machine.phase
    ≡ phases.Full
enters_full stages.Security m full =
    let k : TextKeeps (record m { stage = stages.Security }) (sends_text (record m { stage = stages.Security })) =
    text_keeps (record m { stage = stages.Security }) in
    absurd (let bad : stages.Security ≡ stages.Full = sym k.stage ∙ full in cc)
enters_full stages.Operational m full =
    let k : TextKeeps (record m { stage = stages.Operational }) (sends_text (record m { stage = stages.Operational })) =
    text_keeps (record m { stage = stages.Operational }) in
    absurd (let bad : stages.Operational ≡ stages.Full = sym k.stage ∙ full in cc)
enters_full stages.Full m full = refl

-- ---- what a request that is taken leaves of the target

-- the number that is due is settled
record Begun (t e : target_session.Session) (n : ℕ) : Type 0 where
  cmd_sn : e.exp_cmd_sn ≡ n
  session_type : e.session_type ≡ t.session_type

begun_if : (b : Bool) (t : target_session.Session) (k n : ℕ) (isid : List ℕ) → t.begun ≡ b → k ≡ n → (t.begun ≡ true → t.exp_cmd_sn ≡ n)
    → Begun t (if b then t else record t { begun = true; exp_cmd_sn = k; isid = isid }) n
begun_if true t k n isid is same due = record { cmd_sn = due is; session_type = refl }
begun_if false t k n isid is same due = record { cmd_sn = same; session_type = refl }

begins : (t : target_session.Session) (h : LoginRequest) (n : ℕ) → h.cmd_sn ≡ n → (t.begun ≡ true → t.exp_cmd_sn ≡ n) → Begun t (entered t h) n
begins t h n same due =
    let k : Begun t (numbers_settled t h) n = begun_if t.begun t h.cmd_sn n h.isid refl same due in
    record { cmd_sn = k.cmd_sn; session_type = k.session_type }

-- what it tells of its numbers, and has counted then
record Tells (c : Opening) (e u : target_session.Session) (g : LoginResponse) : Type 0 where
  settings : u.settings ≡ c.target
  stat_sn : u.stat_sn ≡ next_sn e.stat_sn
  exp_cmd_sn : u.exp_cmd_sn ≡ e.exp_cmd_sn
  told_sn : g.stat_sn ≡ Some e.stat_sn
  told_exp : g.exp_cmd_sn ≡ e.exp_cmd_sn
  told_max : g.max_cmd_sn ≡ target_session.max_cmd_sn_with e 0

-- the window that it tells lets in eight commands
tells_window : (w : Window) (e : target_session.Session) (n : ℕ) → n < 2 ^ 32 → IsNear n w → e.exp_cmd_sn ≡ n
    → moved w (serial e.exp_cmd_sn) (serial (target_session.max_cmd_sn_with e 0)) ≡ window_of_eight n
tells_window w e n lt near exp =
    ap (λ (x : ℕ). moved w (serial x) (serial ((x + (2 ^ 32 + 7 - 0)) % 2 ^ 32))) exp
    ∙ tells_eight n w lt near

-- with a session that goes on or not no task is left where there was none
none_left : (session : target_session.Session) (tasks : List Task) → tasks ≡ [] → target.left session tasks ≡ []
none_left session tasks none = by (is_closed_phase session.phase)
  where
    by : (b : Bool) → (if b then [] else tasks) ≡ []
    by true = refl
    by false = none

-- ---- the session

-- the first text names the session
says_session : (start : Stage) (o : Proposal) → IsStart start → session_in (in_order (offers_at o start start)) ≡ Some o.session
says_session stages.Security o is = (says_security o.session o refl).session
says_session stages.Operational o is = (says_single o.session o refl).session
says_session stages.Full o is = absurd is

-- the session is a normal one once a text is whole
normal_for : (c : Opening) (i : initiator.InitiatorSession) (t : target.Machine) (e : target_session.Session) → IsOpening c
    → c.initiator.proposal.session ≡ sessions.Normal → i.settings ≡ c.initiator
    → e.has_text ≡ t.session.has_text → e.session_type ≡ t.session.session_type → (t.session.has_text ≡ true → t.session.session_type ≡ sessions.Normal)
    → HasNone c i t ⊎ HasFirst c i t → session_for e (offered i) ≡ sessions.Normal
normal_for c i t e o normal there text session before (inl f) =
    session_is e (offered i) sessions.Normal (text ∙ f.none)
    (ap (λ (x : Stage). session_in (in_order (offers_at i.settings.proposal i.settings.start x))) f.stage
    ∙ ap (λ (x : initiator.InitiatorSettings). session_in (in_order (offers_at x.proposal x.start c.initiator.start))) there
    ∙ says_session c.initiator.start c.initiator.proposal o.initiator.in_range.start
    ∙ ap (λ (x : Session). Some x) normal)
normal_for c i t e o normal there text session before (inr f) =
    cond-true e.has_text _ _ (text ∙ f.one) ∙ session ∙ before f.one

-- ---- behind a round

-- what both ends have counted behind a round, wherever it led
record Steady (c : Opening) (m : initiator.InitiatorSession) (t : target.Machine) : Type 0 where
  settings : m.settings ≡ c.initiator
  tag : m.initiator_task_tag ≡ 0
  none_open : m.outstanding ≡ None
  none_done : m.done ≡ None
  most : m.held.initiator_max_recv ≡ c.initiator.proposal.prefs.max_recv
  cmd_sn : m.cmd_sn ≡ c.initiator.first_cmd_sn
  window : m.window ≡ window_of_eight c.initiator.first_cmd_sn
  stat_sn : m.exp_stat_sn ≡ Some t.session.stat_sn
  stat_sn_fits : t.session.stat_sn < 2 ^ 32
  target_settings : t.session.settings ≡ c.target
  exp_cmd_sn : t.session.exp_cmd_sn ≡ c.initiator.first_cmd_sn
  no_task : t.tasks ≡ []
  fit : IsFit t
  session : t.session.has_text ≡ true → t.session.session_type ≡ sessions.Normal

-- the target counted what it told, and the initiator what it received
steady : (c : Opening) (i : initiator.InitiatorSession) (t : target.Machine) (e : target_session.Session) (u : target.Machine) (g : LoginResponse) (held : Held)
    (n : initiator.InitiatorSession) {logins : Logins} {r : Message} → IsOpening c → Asking c i t logins r → Numbered c i t
    → Begun t.session e c.initiator.first_cmd_sn → Tells c e u.session g → u.tasks ≡ [] → Kept (record (login_counted i g) { held = held }) n
    → held.initiator_max_recv ≡ i.held.initiator_max_recv
    → IsFit u → (u.session.has_text ≡ true → u.session.session_type ≡ sessions.Normal) → Steady c n u
steady c i t e u g held n o a b begun tells none k most fit session = record {
  settings = k.settings ∙ a.settings;
  tag = k.tag ∙ b.tag;
  none_open = k.outstanding ∙ b.none_open;
  none_done = k.none_done ∙ a.no_outcome;
  most = ap (λ (x : Held). x.initiator_max_recv) k.held ∙ most ∙ a.own;
  cmd_sn = k.cmd_sn ∙ b.cmd_sn;
  window = k.window ∙ ap (λ (x : ℕ). moved i.window (serial x) (serial g.max_cmd_sn)) tells.told_exp
      ∙ ap (λ (x : ℕ). moved i.window (serial e.exp_cmd_sn) (serial x)) tells.told_max
      ∙ tells_window i.window e c.initiator.first_cmd_sn o.cmd_sn b.window begun.cmd_sn;
  stat_sn = k.exp_stat_sn ∙ ap (λ (x : Option ℕ). Some (next_sn (unwrap_or x 0))) tells.told_sn ∙ ap (λ (x : ℕ). Some x) (sym tells.stat_sn);
  stat_sn_fits = subst (λ (x : ℕ). x < 2 ^ 32) (sym tells.stat_sn) (mod-lt (e.stat_sn + 1) (omega arith));
  target_settings = tells.settings;
  exp_cmd_sn = tells.exp_cmd_sn ∙ begun.cmd_sn;
  no_task = none;
  fit = fit;
  session = session;
}

-- where both are in full feature phase then, they are in step
meets_by : (c : Opening) (i : initiator.InitiatorSession) (t : target.TargetStep) (s : InitiatorStep) (disk : Disk) (next : Logins) → IsOpening c
    → Steady c s.machine t.machine
    → (s.machine.stage ≡ stages.Full → (s.machine.phase ≡ phases.Full) × (t.machine.session.has_text ≡ true)) → t.disk ≡ disk → Meets c i t s disk next
meets_by c i t s disk next o y full same = record {
  met = λ agreed. record {
    in_step = record {
      initiator_phase = (full agreed.stage).0;
      target_phase = agreed.target_phase;
      session = y.session (full agreed.stage).1;
      none_open = y.none_open;
      none_done = y.none_done;
      no_task = y.no_task;
      held = agreed.held;
      is_held = subst IsHeld agreed.held (y.fit.held (subst (λ (x : target_settings.TargetSettings). ArePreferencesInRange x.preferences)
          (sym y.target_settings) o.preferences));
      segment = subst (λ (x : Held). x.target_max_recv ≤ target_session.target_limit t.machine.session.settings) agreed.held y.fit.limit;
      tag_fits = (let z = y.tag in omega (arith, z));
      cmd_sn = y.exp_cmd_sn ∙ sym y.cmd_sn;
      cmd_sn_fits = subst (λ (x : ℕ). x < 2 ^ 32) (sym y.cmd_sn) o.cmd_sn;
      window = y.window ∙ ap window_of_eight (sym y.cmd_sn);
      stat_sn = y.stat_sn;
      stat_sn_fits = y.stat_sn_fits;
    };
    initiator_settings = y.settings;
    target_settings = y.target_settings;
    most = y.most;
  };
  goes_on = λ asks. record {
    tag = y.tag;
    cmd_sn = y.cmd_sn;
    none_open = y.none_open;
    no_task = y.no_task;
    due = λ begun. y.exp_cmd_sn;
    window = near_now c.initiator.first_cmd_sn s.machine.window o.cmd_sn y.window;
    fit = y.fit;
    session = y.session;
  };
  disk_is = same;
}

-- ---- a request that ends its text

last_meets : (c : Opening) (i : initiator.InitiatorSession) (t : target.Machine) (logins next : Logins) (r : Message) (disk : Disk) → IsOpening c
    → c.initiator.proposal.session ≡ sessions.Normal
    → Asking c i t logins r → Suited c i t → Numbered c i t → (turn : Round c i (target_machine.target_step false t disk r) next)
    → LastTurn i t disk r turn.answer
    → Meets c i (target_machine.target_step false t disk r) (initiator_step i turn.answer) disk next
last_meets c i t logins next r disk o normal a s b turn q =
    let h : LoginRequest = login_request_head i true in
    let e : target_session.Session = emptied t.session h in
    let g : LoginResponse = text_head e h in
    let same : SameState t.session (entered t.session h) = entered_same t.session h in
    let k : Begun t.session (entered t.session h) c.initiator.first_cmd_sn =
    begins t.session h c.initiator.first_cmd_sn (ap (λ (x : initiator.InitiatorSettings). x.first_cmd_sn) a.settings) b.due in
    let w : initiator.InitiatorSession = with_answer i g (answer_pairs e (offered i)) in
    let u : target.TargetStep = target.on disk t.tasks (pairs_answered e h (offered i)) in
    let y : Steady c (begins_stage (following_stage i.stage) w).machine u.machine =
    steady c i t e u.machine g w.held (begins_stage (following_stage i.stage) w).machine o a b (record { cmd_sn = k.cmd_sn; session_type = k.session_type })
    (record { settings = same.settings ∙ a.target_settings; stat_sn = refl; exp_cmd_sn = refl; told_sn = refl; told_exp = refl; told_max = refl })
    (none_left u.machine.session t.tasks b.no_task)
    (enters_kept (following_stage i.stage) w) refl
    (subst (λ (x : target.TargetStep). IsFit x.machine) q.there (step_fit false t disk r b.fit))
    (λ is. normal_for c i t e o normal a.settings same.has_text k.session_type b.session s.texts) in
    subst (λ (x : target.TargetStep). Meets c i x (initiator_step i turn.answer) disk next) (sym q.there)
    (subst (λ (x : InitiatorStep). Meets c i u x disk next) (sym q.now)
    (meets_by c i u (begins_stage (following_stage i.stage) w) disk next o y (λ full. (enters_full (following_stage i.stage) w full, refl)) refl))

-- ---- a request whose text goes on

part_meets : (c : Opening) (i : initiator.InitiatorSession) (t : target.Machine) (logins next : Logins) (r : Message) (disk : Disk) → IsOpening c
    → Asking c i t logins r → Numbered c i t → (turn : Round c i (target_machine.target_step false t disk r) next) → PartTurn i t disk r turn.answer
    → Meets c i (target_machine.target_step false t disk r) (initiator_step i turn.answer) disk next
part_meets c i t logins next r disk o a b turn q =
    let h : LoginRequest = login_request_head i false in
    let e : target_session.Session = entered t.session h in
    let g : LoginResponse = part_head e h in
    let same : SameState t.session e = entered_same t.session h in
    let k : Begun t.session e c.initiator.first_cmd_sn = begins t.session h c.initiator.first_cmd_sn (ap (λ (x : initiator.InitiatorSettings). x.first_cmd_sn)
    a.settings) b.due in
    let n : InitiatorStep = sends_more (login_counted i g) in
    let u : target.TargetStep = target.on disk t.tasks (gather e h q.bytes) in
    let y : Steady c n.machine u.machine =
    steady c i t e u.machine g i.held n.machine o a b k
    (record { settings = same.settings ∙ a.target_settings; stat_sn = refl; exp_cmd_sn = refl; told_sn = refl; told_exp = refl; told_max = refl })
    (none_left u.machine.session t.tasks b.no_task)
    (record { settings = refl; exp_stat_sn = refl; held = refl; window = refl; cmd_sn = refl; tag = refl; outstanding = refl; none_done = refl }) refl
    (subst (λ (x : target.TargetStep). IsFit x.machine) q.there (step_fit false t disk r b.fit))
    (λ is. k.session_type ∙ b.session (sym same.has_text ∙ is)) in
    subst (λ (x : target.TargetStep). Meets c i x (initiator_step i turn.answer) disk next) (sym q.there)
    (subst (λ (x : InitiatorStep). Meets c i u x disk next) (sym q.now)
    (meets_by c i u n disk next o y (λ full. absurd (subst IsStart full a.stage)) refl))

-- ---- one round

-- a round of the login counts on, and where it ends the login both ends are in step
pub meets : (c : Opening) (i : initiator.InitiatorSession) (t : target.Machine) (logins next : Logins) (r : Message) (disk : Disk) → IsOpening c
    → SuitEachOther c
    → c.initiator.proposal.session ≡ sessions.Normal
    → Asking c i t logins r → Suited c i t → Numbered c i t → (turn : Round c i (target_machine.target_step false t disk r) next)
    → Meets c i (target_machine.target_step false t disk r) (initiator_step i turn.answer) disk next
meets c i t logins next r disk o suits normal a s b turn = elim (turns c i t logins next r disk o suits a s turn) [
  | inl q ↦ last_meets c i t logins next r disk o normal a s b turn q
  | inr q ↦ part_meets c i t logins next r disk o a b turn q
]

-- ---- a new pair

-- the target of a new pair may hold what it holds
opening_fit : (settings : target_settings.TargetSettings) (n : ℕ) → IsFit (target.opening_machine settings n)
unfolding answers
opening_fit settings n = reached_fit false settings n (disk_of []) []

-- a new pair has counted nothing
pub first_numbered : (c : Opening) → IsOpening c → Numbered c (start_step (initiator.new_session c.initiator)).machine
    (target.opening_machine c.target c.first_stat_sn)
first_numbered c o =
    let m : initiator.InitiatorSession = record (initiator.new_session c.initiator) { started = true } in
    let k : Kept m (sends_text m).machine = text_kept m m.stage in
    record {
      tag = k.tag;
      cmd_sn = k.cmd_sn;
      none_open = k.outstanding;
      no_task = refl;
      due = λ begun. absurd (cc begun);
      window = record { exp = inr (ap (λ (x : Window). x.exp) k.window); max = inl (ap (λ (x : Window). x.max) k.window) };
      fit = opening_fit c.target c.first_stat_sn;
      session = λ text. absurd (cc text);
    }

-- What a target answers to a Login Request of its initiator.
use Rattle.std.proofs.Common.{◌≡◌, ◌<◌, ◌≤◌, ◌⊎◌, inl, inr, ℕ, ◌+◌, Bool, true, false, List, [], ◌∷◌, ◌++◌, length, Option, Some, None, refl, sym, ap, ◌∙◌}
use Rattle.std.proofs.Common.{subst, arith}
use Rattle.std.specs.Prelude.{◌==◌, not, ◌&&◌, nat_lt, is_some, IfSome, ◌^◌, if◌then◌else◌, unwrap_or}
use Rattle.std.specs.List.{AllByRecursion}
use Rattle.std.proofs.Math.Nat.{mod-lt}
use Rattle.std.proofs.lemmas.Bool.{cond_both, ltb-false}
use Rattle.scsi_disk.specs.Disk.{Disk}
use Rattle.iscsi_text.specs.Text.{Pairs, IsMeaning}
use Rattle.iscsi_text.specs.Canonical.{canonical_text}
use Rattle.iscsi_pdu.specs.declared.head.Head.TheVariants as heads
use Rattle.iscsi_pdu.specs.declared.head.login_request.LoginRequest.{LoginRequest}
use Rattle.iscsi_pdu.specs.declared.head.login_response.LoginResponse.{LoginResponse}
use Rattle.iscsi_stream.specs.Segment.{Segment, Bytes, segment_bytes}
use Rattle.iscsi_stream.specs.Stream.{Message}
use Rattle.iscsi_stream.proofs.ReadyLemmas.{apart}
use Rattle.iscsi_login.specs.declared.phase.Phase.{Phase}
use Rattle.iscsi_login.specs.declared.phase.Phase.TheVariants as phases
use Rattle.iscsi_login.specs.declared.stage.Stage.{Stage}
use Rattle.iscsi_login.specs.declared.stage.Stage.TheVariants as stages
use Rattle.iscsi_text.specs.declared.negotiated.Session.{Session as SessionType}
use Rattle.iscsi_login.specs.Held.{Held}
use Rattle.iscsi_login.specs.Negotiation.{ArePreferencesInRange}
use Rattle.iscsi_login.specs.Answer as login
use Rattle.iscsi_login.specs.Answer.{target_holds}
use Rattle.iscsi_target_session.specs.declared.status.Status.{Status}
use Rattle.iscsi_target_session.specs.Configured.{TargetSettings}
use Rattle.iscsi_target_session.specs.Session.{Session, Reply}
use Rattle.iscsi_target.specs.State.{Machine, on}
use Rattle.scsi_disk.specs.Plan.{first_reason}
use Rattle.iscsi_target_session.specs.LoginText.{out_of_resources, text_refusals, is_operational, initiator_for, negotiated_as, declared_tag, declared_length, answer_pairs}
use Rattle.iscsi_target_session.proofs.RefusalLemmas.{text_accepted}
use Rattle.iscsi_target_session.specs.Login.{on_login_request, request_refusals, refuse, refuse_or, login_response_to, login_response_message, numbers_settled, entered, segment_taken}
use Rattle.iscsi_target_session.specs.Login.{rest_of, has_passed, verdict_for, held_back, allowed_move, exchange_pairs, exchange_answered}
use Rattle.iscsi_target_session.specs.Login.{gather, whole_text, text_ending, pairs_answered, login_text_response, stage_asked, stage_after, phase_at, tsih_at}
use Rattle.iscsi_target.specs.Machine.{target_step, is_machine_closed, is_over_limit, phase_step}
use Rattle.iscsi_login.specs.Stage.{is_closed_phase}
use Rattle.iscsi_target_session.proofs.ExchangeLemmas.{IsReason, text_cases}
use Rattle.iscsi_access.specs.Chap.{Chap}
use Rattle.iscsi_access.specs.declared.verdict.Progress.{Progress}
use Rattle.iscsi_access.specs.declared.verdict.Progress.TheVariants.{Unasked, Chosen}
use Rattle.iscsi_access.specs.declared.verdict.Said.{Said}
use Rattle.iscsi_access.specs.declared.verdict.Said.TheVariants.{Method}
use Rattle.iscsi_access.specs.declared.verdict.Verdict.TheVariants.{Goes}
use Rattle.iscsi_pair.proofs.Wire.PrefixLemmas.{RequestFits, ResponseFits}
use Rattle.iscsi_pair.proofs.Login.HeldBack.{Chooses, chooses, said_meaning}
use Rattle.iscsi_target.specs.Execution.{reliable}

-- ---- a request comes in a login

-- a login that goes on, whose numbers have room
pub record LogsIn (s : Session) : Type 0 where
  pub phase : s.phase ≡ phases.Login
  pub stat_sn : s.stat_sn < 2 ^ 32
  pub cmd_sn : s.exp_cmd_sn < 2 ^ 32
  -- CHAP has not begun: where it is demanded, the login ends at the first whole text
  pub progress : s.progress ≡ Unasked

pub login_step_is : (s : Machine) (disk : Disk) (h : LoginRequest) (segment : Segment) → s.session.phase ≡ phases.Login → is_over_limit s segment ≡ false
    → target_step false s disk (record { head = heads.LoginRequest h; segment = segment }) ≡ on disk s.tasks (on_login_request s.session h segment)
login_step_is s disk h segment p short =
    let m : Message = record { head = heads.LoginRequest h; segment = segment } in
    let open_ : is_machine_closed s ≡ false = ap is_closed_phase p in
    rw (open_, short) (ap (λ (x : Phase). phase_step (reliable false) x s disk m) p)

-- ---- refusals

-- a status that refuses
abbrev IsRefusal : Status → Type 0
IsRefusal why = ((why.class == 0) ≡ false) × ((why.class < 256) × (why.detail < 256))

refusal_if : (b : Bool) (row : Bool × Status) (rows : List (Bool × Status)) (why : Status) → IsRefusal row.1 → (first_reason rows ≡ Some why → IsRefusal why)
    → (if b then Some row.1 else first_reason rows) ≡ Some why → IsRefusal why
refusal_if true row rows why this others e = subst IsRefusal (cc e) this
refusal_if false row rows why this others e = others e

refusal_of : (rows : List (Bool × Status)) (why : Status) → AllByRecursion (λ row. IsRefusal row.1) rows → first_reason rows ≡ Some why → IsRefusal why
refusal_of [] why all e = absurd (cc e)
refusal_of (row ∷ rows) why all e = refusal_if row.0 row rows why all.0 (refusal_of rows why all.1) e

request_refusal : (s : Session) (h : LoginRequest) (why : Status) → first_reason (request_refusals s h) ≡ Some why → IsRefusal why
request_refusal s h why e =
    refusal_of (request_refusals s h) why (
      (refl, (omega arith, omega arith)),
      (
        (refl, (omega arith, omega arith)),
        ((refl, (omega arith, omega arith)), ((refl, (omega arith, omega arith)), ((refl, (omega arith, omega arith)), tt))),
      ),
    ) e

text_refusal : (s : Session) (pairs : Pairs) (why : Status) → first_reason (text_refusals s pairs) ≡ Some why → IsRefusal why
text_refusal s pairs why e =
    refusal_of (text_refusals s pairs) why (
      (refl, (omega arith, omega arith)),
      (
        (refl, (omega arith, omega arith)),
        (
          (refl, (omega arith, omega arith)),
          (
            (refl, (omega arith, omega arith)),
            (
              (refl, (omega arith, omega arith)),
              (
                (refl, (omega arith, omega arith)),
                (
                  (refl, (omega arith, omega arith)),
                  ((refl, (omega arith, omega arith)), ((refl, (omega arith, omega arith)), tt)),
                ),
              ),
            ),
          ),
        ),
      ),
    ) e

-- ---- what is sent

fits_response : (s : Session) (h : LoginRequest) → s.exp_cmd_sn < 2 ^ 32 → RequestFits h → (o : Option ℕ)
    → (class detail tsih : ℕ) (transits : Bool) (next : Option ℕ)
    → is_some next ≡ transits → IfSome next (λ n. n ≤ 3) → tsih < 2 ^ 16 → is_some o ≡ (class == 0) → IfSome o (λ n. n < 2 ^ 32) → class < 256 → detail < 256
    → ResponseFits (record (login_response_to s h) {
      transits = transits;
      next_stage = next;
      tsih = tsih;
      stat_sn = o;
      status_class = class;
      status_detail =
          detail;
    })
fits_response s h sn f o class detail tsih transits next has range tsih_is has_sn sn_is class_is detail_is = record {
  current_stage = f.current_stage;
  has_next = has;
  next_stage = range;
  version_max = omega arith;
  version_active = omega arith;
  isid = f.isid;
  tsih = tsih_is;
  initiator_task_tag = f.initiator_task_tag;
  has_stat_sn = has_sn;
  stat_sn = sn_is;
  exp_cmd_sn = sn;
  max_cmd_sn = mod-lt _ (omega arith);
  status_class = class_is;
  status_detail = detail_is;
}

-- the login is refused
pub record Refuses (h : LoginRequest) (r : Reply) : Type 0 where
  pub answer : LoginResponse
  pub is : r.answers ≡ login_response_message answer [] ∷ []
  pub class : (answer.status_class == 0) ≡ false
  pub tag : answer.initiator_task_tag ≡ h.initiator_task_tag
  pub last : answer.continues ≡ false
  pub fits : ResponseFits answer

refuses : (s : Session) (h : LoginRequest) (why : Status) → s.exp_cmd_sn < 2 ^ 32 → RequestFits h → IsRefusal why → Refuses h (refuse s h why)
refuses s h why sn f is = record {
  answer = record (login_response_to s h) { status_class = why.class; status_detail = why.detail };
  is = refl;
  class = is.0;
  tag = refl;
  last = refl;
  fits = fits_response s h sn f None why.class why.detail 0 false None refl tt (omega arith) (sym is.0) tt is.1.0 is.1.1;
}

-- a part of the text is gathered
pub record Gathers (s : Session) (h : LoginRequest) (bytes : List ℕ) (r : Reply) : Type 0 where
  pub answer : LoginResponse
  pub is : r.answers ≡ login_response_message answer [] ∷ []
  pub class : answer.status_class ≡ 0
  pub tag : answer.initiator_task_tag ≡ h.initiator_task_tag
  pub last : answer.continues ≡ false
  pub fits : ResponseFits answer
  pub logs_in : LogsIn r.session
  pub settings : r.session.settings ≡ s.settings
  pub held : r.session.held ≡ s.held
  pub gathered : r.session.gathered ≡ s.gathered ++ bytes

-- a whole text is answered
pub record Tells (s : Session) (h : LoginRequest) (pairs : Pairs) (r : Reply) : Type 0 where
  pub session : SessionType
  pub group : Option ℕ
  pub group_fits : IfSome group (λ n. n < 2 ^ 64)
  pub most : Option ℕ
  pub most_fits : IfSome most (λ n. n < 2 ^ 64)
  pub answer : LoginResponse
  pub is : r.answers ≡ login_response_message answer (login.answer session s.settings.preferences group most pairs) ∷ []
  pub short : length (canonical_text (login.answer session s.settings.preferences group most pairs)) ≤ 8192
  pub class : answer.status_class ≡ 0
  pub tag : answer.initiator_task_tag ≡ h.initiator_task_tag
  pub last : answer.continues ≡ false
  pub fits : ResponseFits answer
  pub settings : r.session.settings ≡ s.settings
  pub held : r.session.held ≡ target_holds session s.settings.preferences most pairs s.held
  pub gathered : r.session.gathered ≡ []
  pub stage : (to : Stage) → stage_asked h ≡ Some to → r.session.stage ≡ to
  pub phase : (to : Stage) → stage_asked h ≡ Some to → r.session.phase ≡ phase_at to
  pub stat_sn : r.session.stat_sn < 2 ^ 32
  pub cmd_sn : r.session.exp_cmd_sn < 2 ^ 32
  pub progress : r.session.progress ≡ Unasked

-- a whole text is answered, and the login stays in its stage
pub record HoldsBack (h : LoginRequest) (r : Reply) : Type 0 where
  pub answer : LoginResponse
  pub text : Pairs
  pub is : r.answers ≡ login_response_message answer text ∷ []
  pub means : IsMeaning text
  pub short : length (canonical_text text) ≤ 8192
  pub class : answer.status_class ≡ 0
  pub tag : answer.initiator_task_tag ≡ h.initiator_task_tag
  pub last : answer.continues ≡ false
  pub stays : answer.transits ≡ false
  pub fits : ResponseFits answer

-- what taking a request's stage and number keeps
record Keeps (s e : Session) : Type 0 where
  phase : e.phase ≡ s.phase
  settings : e.settings ≡ s.settings
  held : e.held ≡ s.held
  gathered : e.gathered ≡ s.gathered
  stat_sn : e.stat_sn ≡ s.stat_sn
  cmd_sn : e.exp_cmd_sn < 2 ^ 32
  progress : e.progress ≡ s.progress

numbered_keeps : (s : Session) (h : LoginRequest) → s.exp_cmd_sn < 2 ^ 32 → RequestFits h → Keeps s (numbers_settled s h)
numbered_keeps s h sn f =
    cond_both s.begun s (record s { begun = true; exp_cmd_sn = h.cmd_sn; isid = h.isid }) (Keeps s)
    (λ is. record { phase = refl; settings = refl; held = refl; gathered = refl; stat_sn = refl; cmd_sn = sn; progress = refl })
    (λ is. record { phase = refl; settings = refl; held = refl; gathered = refl; stat_sn = refl; cmd_sn = f.cmd_sn; progress = refl })

entered_keeps : (s : Session) (h : LoginRequest) → s.exp_cmd_sn < 2 ^ 32 → RequestFits h → Keeps s (entered s h)
entered_keeps s h sn f =
    let k : Keeps s (numbers_settled s h) = numbered_keeps s h sn f in
    record { phase = k.phase; settings = k.settings; held = k.held; gathered = k.gathered; stat_sn = k.stat_sn; cmd_sn = k.cmd_sn; progress = k.progress }

gathers : (s e : Session) (h : LoginRequest) (bytes : List ℕ) → Keeps s e → LogsIn s → RequestFits h → Gathers s h bytes (gather e h bytes)
gathers s e h bytes k l f = record {
  answer = record (login_response_to e h) { stat_sn = Some e.stat_sn };
  is = refl;
  class = refl;
  tag = refl;
  last = refl;
  fits = fits_response e h k.cmd_sn f (Some e.stat_sn) 0 0 0 false None refl tt (omega arith) refl (omega (arith, k.stat_sn, l.stat_sn)) (omega arith)
      (omega arith);
  logs_in = record { phase = k.phase ∙ l.phase; stat_sn = mod-lt _ (omega arith); cmd_sn = k.cmd_sn; progress = k.progress ∙ l.progress };
  settings = k.settings;
  held = k.held;
  gathered = ap (λ (x : List ℕ). x ++ bytes) k.gathered;
}

by_reason : (o : Option Status) (P : Reply → Type 0) (s : Session) (h : LoginRequest) (r : Reply) → ((why : Status) → o ≡ Some why → P (refuse s h why))
    → (o ≡ None → P r) → P (refuse_or o s h r)
by_reason None P s h r p q = q refl
by_reason (Some why) P s h r p q = p why refl

-- a request whose text goes on is refused, or its part is gathered
pub gathers_more : (s : Session) (h : LoginRequest) (bytes : List ℕ) → LogsIn s → RequestFits h → h.continues ≡ true
    → Refuses h (on_login_request s h (Bytes bytes)) ⊎ Gathers s h bytes (on_login_request s h (Bytes bytes))
unfolding segment_bytes
gathers_more s h bytes l f more =
    let P : Reply → Type 0 = λ r. Refuses h r ⊎ Gathers s h bytes r in
    let k : Keeps s (entered s h) = entered_keeps s h l.cmd_sn f in
    let now : Session = entered s h in
    let part : Reply = gather now h (segment_bytes (Bytes bytes)) in
    let whole : Reply = whole_text (record now { gathered = [] }) h (text_ending now.gathered (Bytes bytes)) in
    let long : Bool = nat_lt 16384 (length now.gathered + length (segment_bytes (Bytes bytes))) in
    by_reason (first_reason (request_refusals s h)) P (numbers_settled s h) h (segment_taken (entered s h) h (Bytes bytes))
    (λ why is. inl (refuses (numbers_settled s h) h why (numbered_keeps s h l.cmd_sn f).cmd_sn f (request_refusal s h why is)))
    (λ none. cond_both long (refuse now h out_of_resources) (if h.continues then part else whole) P
    (λ over. inl (refuses (entered s h) h out_of_resources k.cmd_sn f (refl, (omega arith, omega arith))))
    (λ short. cond_both h.continues part whole P (λ is. inr (gathers s (entered s h) h bytes k l f)) (λ is. absurd (apart more is))))

-- ---- a whole text

-- what a target's settings have
pub record SettingsFit (settings : TargetSettings) : Type 0 where
  pub preferences : ArePreferencesInRange settings.preferences
  pub group : settings.group < 2 ^ 16
  pub tsih : settings.tsih < 2 ^ 16

-- a number that there may be is below a bound
pub some_if : (b : Bool) (n bound : ℕ) → n < bound → IfSome (if b then Some n else None) (λ x. x < bound)
some_if true n bound lt = lt
some_if false n bound lt = tt

tsih_fits : (s : Session) (stage : Stage) → s.settings.tsih < 2 ^ 16 → tsih_at s stage < 2 ^ 16
tsih_fits s stages.Security lt = omega arith
tsih_fits s stages.Operational lt = omega arith
tsih_fits s stages.Full lt = lt

tells : (s e : Session) (h : LoginRequest) (pairs : Pairs) → Keeps s e → SettingsFit s.settings → LogsIn s → RequestFits h
    → nat_lt 8192 (length (canonical_text (answer_pairs e pairs))) ≡ false → Tells s h pairs (pairs_answered (record e { gathered = [] }) h pairs)
tells s e h pairs k fit l f short =
    let session : SessionType = negotiated_as e pairs in
    let group : Option ℕ = declared_tag e pairs in
    let most : Option ℕ = declared_length e in
    let text : (p : TargetSettings) → Pairs = λ p. login.answer session p.preferences group most pairs in
    let fits : SettingsFit e.settings = subst SettingsFit (sym k.settings) fit in
    record {
      session = session;
      group = group;
      group_fits = some_if _ e.settings.group (2 ^ 64) (omega (arith, fits.group));
      most = most;
      most_fits = some_if _ e.settings.preferences.max_recv (2 ^ 64) (omega (arith, fits.preferences.max_recv.1));
      answer = record (login_text_response e h) { stat_sn = Some e.stat_sn };
      is = ap (λ (p : TargetSettings). login_response_message (record (login_text_response e h) { stat_sn = Some e.stat_sn }) (text p) ∷ []) k.settings;
      short = subst (λ (p : TargetSettings). length (canonical_text (text p)) ≤ 8192) k.settings
          (omega (arith, ltb-false 8192 (length (canonical_text (answer_pairs e pairs))) short));
      class = refl;
      tag = refl;
      last = refl;
      fits = fits_response e h k.cmd_sn f (Some e.stat_sn) 0 0 (tsih_at e (stage_after e h)) h.transits h.next_stage f.has_next f.next_stage
          (tsih_fits e (stage_after e h) fits.tsih) refl
          (omega (arith, k.stat_sn, l.stat_sn)) (omega arith) (omega arith);
      settings = k.settings;
      held = ap (λ (p : TargetSettings). target_holds session p.preferences most pairs e.held) k.settings
          ∙ ap (λ (x : Held). target_holds session s.settings.preferences most pairs x) k.held;
      gathered = refl;
      stage = λ to asked. ap (λ (o : Option Stage). unwrap_or o e.stage) asked;
      phase = λ to asked. ap (λ (o : Option Stage). phase_at (unwrap_or o e.stage)) asked;
      stat_sn = mod-lt _ (omega arith);
      cmd_sn = k.cmd_sn;
      progress = k.progress ∙ l.progress;
    }

-- CHAP is chosen
holds_back : (s e : Session) (c : Chap) (h : LoginRequest) (pairs : Pairs) → Keeps s e → SettingsFit s.settings → LogsIn s → RequestFits h → IsMeaning pairs
    → nat_lt 8192 (length (canonical_text (exchange_pairs c Method e (rest_of pairs)))) ≡ false
    → HoldsBack h (exchange_answered c Method (record e { gathered = []; progress = Chosen }) (held_back h) (rest_of pairs))
holds_back s e c h pairs k fit l f is short =
    let fits : SettingsFit e.settings = subst SettingsFit (sym k.settings) fit in
    record {
      answer = record (login_text_response e (held_back h)) { stat_sn = Some e.stat_sn };
      text = exchange_pairs c Method e (rest_of pairs);
      is = refl;
      means = said_meaning (negotiated_as e (rest_of pairs)) e.settings.preferences fits.preferences (declared_tag e (rest_of pairs)) (declared_length e)
          (some_if _ e.settings.group (2 ^ 64) (omega (arith, fits.group)))
          (some_if _ e.settings.preferences.max_recv (2 ^ 64) (omega (arith, fits.preferences.max_recv.1))) pairs is;
      short = omega (arith, ltb-false 8192 (length (canonical_text (exchange_pairs c Method e (rest_of pairs)))) short);
      class = refl;
      tag = refl;
      last = refl;
      stays = refl;
      fits = fits_response e h k.cmd_sn f (Some e.stat_sn) 0 0 (tsih_at e (stage_after e (held_back h))) false None refl tt
          (tsih_fits e (stage_after e (held_back h)) fits.tsih) refl (omega (arith, k.stat_sn, l.stat_sn)) (omega arith) (omega arith);
    }

-- a reason refuses
reason_refuses : (s : Session) (why : Status) → IsReason s why → IsRefusal why
reason_refuses s why (inl e) = subst IsRefusal (sym e) (refl, (omega arith, omega arith))
reason_refuses s why (inr (inl e)) = subst IsRefusal (sym e) (refl, (omega arith, omega arith))
reason_refuses s why (inr (inr (inl e))) = subst IsRefusal (sym e) (refl, (omega arith, omega arith))
reason_refuses s why (inr (inr (inr x))) = text_refusal s x.0 why x.1

-- a request that ends a text is refused, or the text is answered, or CHAP is chosen
pub tells_text : (s : Session) (h : LoginRequest) (segment : Segment) (pairs : Pairs) → SettingsFit s.settings → LogsIn s → RequestFits h → h.continues ≡ false
    → IsMeaning pairs → text_ending s.gathered segment ≡ Some pairs
    → Refuses h (on_login_request s h segment) ⊎ (Tells s h pairs (on_login_request s h segment) ⊎ HoldsBack h (on_login_request s h segment))
tells_text s h segment pairs fit l f last means read =
    let P : Reply → Type 0 = λ r. Refuses h r ⊎ (Tells s h pairs r ⊎ HoldsBack h r) in
    let k : Keeps s (entered s h) = entered_keeps s h l.cmd_sn f in
    let now : Session = entered s h in
    let part : Reply = gather now h (segment_bytes segment) in
    let whole : Reply = whole_text (record now { gathered = [] }) h (text_ending now.gathered segment) in
    let long : Bool = nat_lt 16384 (length now.gathered + length (segment_bytes segment)) in
    let e : Session = record (entered s h) { gathered = [] } in
    by_reason (first_reason (request_refusals s h)) P (numbers_settled s h) h (segment_taken (entered s h) h segment)
    (λ why is. inl (refuses (numbers_settled s h) h why (numbered_keeps s h l.cmd_sn f).cmd_sn f (request_refusal s h why is)))
    (λ none. cond_both long (refuse now h out_of_resources) (if h.continues then part else whole) P
    (λ over. inl (refuses (entered s h) h out_of_resources k.cmd_sn f (refl, (omega arith, omega arith))))
    (λ short. cond_both h.continues part whole P (λ is. absurd (apart is last))
    (λ is. subst (λ (o : Option Pairs). P (whole_text e h o)) (sym (ap (λ (g : List ℕ). text_ending g segment) k.gathered ∙ read))
    (text_cases P e h (Some pairs) (record {
      refused = λ why reason. inl (refuses e h why k.cmd_sn f (reason_refuses e why reason));
      plain = λ given same open_ none2. inr (inl (told given (let q : pairs ≡ given = cc same in sym q) none2));
      exchange = λ c p said given same demanded none2 verdict fits. inr (inr (chosen c p said given (let q : pairs ≡ given = cc same in sym q) verdict fits));
    })))))
  where
    told : (given : Pairs) → given ≡ pairs → first_reason (text_refusals (record (entered s h) { gathered = [] }) given) ≡ None
        → Tells s h pairs (pairs_answered (record (entered s h) { gathered = [] }) h given)
    told given same none =
        let e : Session = record (entered s h) { gathered = [] } in
        subst (λ (g : Pairs). Tells s h g (pairs_answered e h given)) same
        (tells s (entered s h) h given (entered_keeps s h l.cmd_sn f) fit l f (text_accepted e given none).is_short)

    chosen : (c : Chap) (p : Progress) (said : Said) (given : Pairs) → given ≡ pairs
        → verdict_for c (record (entered s h) { gathered = [] }) given ≡ Goes p said
        → nat_lt 8192 (length (canonical_text (exchange_pairs c said (record (entered s h) { gathered = [] }) (rest_of given)))) ≡ false
        → HoldsBack h (exchange_answered c said (record (entered s h) { gathered = []; progress = p }) (allowed_move p h) (rest_of given))
    chosen c p said given same verdict short =
        let e : Session = record (entered s h) { gathered = [] } in
        let k : Keeps s (entered s h) = entered_keeps s h l.cmd_sn f in
        let is : Chooses p said = chooses c (is_operational e.stage && not (has_passed e.progress)) e.progress p (initiator_for e (rest_of given)) given said
        (k.progress ∙ l.progress) verdict in
        subst (λ (x : Progress). HoldsBack h (exchange_answered c said (record (entered s h) { gathered = []; progress = x })
        (allowed_move x h) (rest_of given)))
        (sym is.progress)
        (subst (λ (x : Said). HoldsBack h (exchange_answered c x (record (entered s h) { gathered = []; progress = Chosen }) (held_back h) (rest_of given)))
        (sym is.said_is)
        (holds_back s (entered s h) c h given k fit l f (subst IsMeaning (sym same) means)
        (subst (λ (x : Said). nat_lt 8192 (length (canonical_text (exchange_pairs c x e (rest_of given)))) ≡ false) is.said_is short)))

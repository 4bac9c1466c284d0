-- One request of a login and its answer: both ends hold the same, or the initiator gives up.
use Rattle.std.proofs.Common.{◌≡◌, ◌<◌, ◌≤◌, ◌⊎◌, inl, inr, ℕ, ◌-◌, Bool, true, false, List, [], ◌∷◌, ◌++◌, length, take, drop, Option, Some, None, refl, sym}
use Rattle.std.proofs.Common.{ap, ◌∙◌, subst, append_assoc, arith}
use Rattle.std.specs.Prelude.{not, ◌&&◌, nat_le, is_some, IfSome, ◌^◌, if◌then◌else◌, unwrap_or}
use Rattle.std.specs.Bool.{then_some}
use Rattle.std.proofs.Math.Bool.{not-not, and-false}
use Rattle.std.proofs.Math.Nat.{mod-lt}
use Rattle.std.proofs.lemmas.Bool.{leb-true, le-leb, lt-leb, le-ltb}
use Rattle.std.proofs.lemmas.List.{append-nil, take-append-drop, length-take, length-drop}
use Rattle.scsi_disk.specs.Disk.{Disk}
use Rattle.iscsi_text.specs.Text.{Pairs, IsMeaning}
use Rattle.iscsi_text.specs.Canonical.{canonical_text}
use Rattle.iscsi_text.specs.Reading.{text_in, in_order}
use Rattle.iscsi_pdu.specs.declared.head.login_request.LoginRequest.{LoginRequest}
use Rattle.iscsi_pdu.specs.declared.head.login_response.LoginResponse.{LoginResponse}
use Rattle.iscsi_stream.specs.declared.logins.Logins.{Logins}
use Rattle.iscsi_stream.specs.Segment.{Segment, Text, Bytes, logins_after, no_login, segment_bytes}
use Rattle.iscsi_stream.specs.Stream.{Message}
use Rattle.iscsi_login.specs.declared.phase.Phase.TheVariants as phases
use Rattle.iscsi_login.specs.declared.stage.Stage.{Stage}
use Rattle.iscsi_login.specs.declared.stage.Stage.TheVariants as stages
use Rattle.iscsi_text.specs.declared.negotiated.Answered.{Answered}
use Rattle.iscsi_login.specs.Held.{Held}
use Rattle.iscsi_login.specs.Negotiation.{ArePreferencesInRange}
use Rattle.iscsi_login.specs.Answer as login
use Rattle.iscsi_login.specs.Answer.{initiator_holds, declared_max_recv}
use Rattle.iscsi_login.specs.Offers.{offers_at}
use Rattle.iscsi_login.specs.Stage.{stage_number}
use Rattle.iscsi_login.proofs.TextAgreementLaw.{texts_agree}
use Rattle.iscsi_login.proofs.AnswerMeaningLaw.{answer_meaning}
use Rattle.iscsi_text.proofs.TextLaws as texts
use Rattle.iscsi_initiator.specs.Configured.{AreValid, IsStart}
use Rattle.iscsi_initiator.specs.State as initiator
use Rattle.iscsi_initiator.specs.State.{sent_exp_stat_sn}
use Rattle.iscsi_initiator.specs.Steps.{InitiatorStep, step_sending}
use Rattle.iscsi_initiator.specs.Login.{offered, following_stage, login_request_head, login_request_message, login_counted, sends_cut, sends_more, sends_text}
use Rattle.iscsi_initiator.specs.Login.{begins_stage, fits_segment, start_step}
use Rattle.iscsi_initiator.specs.Machine.{initiator_step}
use Rattle.iscsi_target_session.specs.Configured as target_settings
use Rattle.iscsi_target_session.specs.Session as target_session
use Rattle.iscsi_target.specs.State as target
use Rattle.iscsi_target.specs.Machine.{is_over_limit}
use Rattle.iscsi_target.specs.Machine as target_machine
use Rattle.iscsi_target_session.specs.Login as target_login
use Rattle.iscsi_pair.specs.World.{Opening, IsOpening}
use Rattle.iscsi_pair.proofs.Wire.PrefixLemmas.{RequestFits, Readable, response_readable, request_readable, part_readable}
use Rattle.iscsi_pair.proofs.Wire.OfferedTexts.{offers_read, offers_mean, declares}
use Rattle.iscsi_pair.proofs.Login.TargetStep.{LogsIn, SettingsFit, Refuses, Gathers, Tells, HoldsBack, login_step_is, gathers_more, tells_text}
use Rattle.iscsi_pair.proofs.Login.InitiatorStep.{Closes, answering, with_answer, receives_refusal, receives_more, receives_answer, receives_stay}

-- ---- where the login is

-- nothing of the text is left behind the segments sent
abbrev pub is_sent : List ℕ → Bool
is_sent [] = true
is_sent (byte ∷ bytes) = false

-- the whole text is on its way
pub record IsWhole (i : initiator.InitiatorSession) (t : target.Machine) (logins : Logins) (segment : Segment) : Type 0 where
  pub is : segment ≡ Text (offered i)
  pub unsent_text : i.unsent_text ≡ []
  pub gathered : t.session.gathered ≡ []
  pub first : logins.request ≡ false
  pub short : length (canonical_text (offered i)) ≤ 8192

-- a part of the text is on its way
pub record IsPart (i : initiator.InitiatorSession) (t : target.Machine) (logins : Logins) (segment : Segment) : Type 0 where
  pub bytes : List ℕ
  pub is : segment ≡ Bytes bytes
  pub text : t.session.gathered ++ (bytes ++ i.unsent_text) ≡ canonical_text (offered i)
  pub short : length bytes ≤ 8192
  pub part : (not logins.request && is_sent i.unsent_text) ≡ false

-- The initiator has asked, and the target has not yet received the request. Both are in their login, and hold the same
-- but for what the initiator has not yet declared of itself.
pub record Asking (c : Opening) (i : initiator.InitiatorSession) (t : target.Machine) (logins : Logins) (r : Message) : Type 0 where
  pub settings : i.settings ≡ c.initiator
  pub phase : i.phase ≡ phases.Login
  pub started : i.started ≡ true
  pub no_outcome : i.done ≡ None
  pub stage : IsStart i.stage
  pub number : sent_exp_stat_sn i < 2 ^ 32
  pub own : i.held.initiator_max_recv ≡ c.initiator.proposal.prefs.max_recv
  pub target_settings : t.session.settings ≡ c.target
  pub logs_in : LogsIn t.session
  pub values : t.session.held.values ≡ i.held.values
  pub most : t.session.held.target_max_recv ≡ i.held.target_max_recv
  pub segment : Segment
  pub request : r ≡ login_request_message i (is_sent i.unsent_text) segment
  pub how : IsWhole i t logins segment ⊎ IsPart i t logins segment

-- ---- what is on its way is read as it was written

pub some_then : (b : Bool) (n : ℕ) → is_some (then_some b n) ≡ b
some_then true n = refl
some_then false n = refl

if_then : (b : Bool) (n : ℕ) → n ≤ 3 → IfSome (then_some b n) (λ x. x ≤ 3)
if_then true n le = le
if_then false n le = tt

stage_fits : (stage : Stage) → stage_number stage ≤ 3
stage_fits stages.Security = omega arith
stage_fits stages.Operational = omega arith
stage_fits stages.Full = omega arith

pub request_fits : (c : Opening) (i : initiator.InitiatorSession) (last : Bool) → IsOpening c → i.settings ≡ c.initiator → sent_exp_stat_sn i < 2 ^ 32
    → RequestFits (login_request_head i last)
request_fits c i last o e n = record {
  current_stage = stage_fits i.stage;
  has_next = some_then last (stage_number (following_stage i.stage));
  next_stage = if_then last (stage_number (following_stage i.stage)) (stage_fits (following_stage i.stage));
  version_max = omega arith;
  version_min = omega arith;
  isid = ap (λ (s : initiator.InitiatorSettings). length s.isid) e ∙ o.isid;
  tsih = omega arith;
  initiator_task_tag = omega arith;
  connection_id = omega arith;
  cmd_sn = subst (λ (s : initiator.InitiatorSettings). s.first_cmd_sn < 2 ^ 32) (sym e) o.cmd_sn;
  exp_stat_sn = n;
}

pub offered_read : (c : Opening) (i : initiator.InitiatorSession) → IsOpening c → i.settings ≡ c.initiator → IsStart i.stage
    → text_in (canonical_text (offered i)) ≡ Some (offered i)
offered_read c i o e is = offers_read i.settings i.stage (subst AreValid (sym e) o.initiator) is

offers_are_meant : (c : Opening) (i : initiator.InitiatorSession) → IsOpening c → i.settings ≡ c.initiator → IsStart i.stage → IsMeaning (offered i)
offers_are_meant c i o e is =
    let valid : AreValid i.settings = subst AreValid (sym e) o.initiator in
    offers_mean i.settings.start i.stage i.settings.proposal valid.names.initiator valid.names.target valid.in_range.preferences is

pub asking_readable : (c : Opening) (i : initiator.InitiatorSession) (t : target.Machine) (logins : Logins) (r : Message) → IsOpening c → Asking c i t logins r
    → Readable logins r
asking_readable c i t logins r o a =
    let f : RequestFits (login_request_head i (is_sent i.unsent_text)) = request_fits c i (is_sent i.unsent_text) o a.settings a.number in
    subst (Readable logins) (sym a.request)
    (elim a.how [
      | inl w ↦ subst (λ (x : Segment). Readable logins (login_request_message i (is_sent i.unsent_text) x)) (sym w.is)
          (request_readable logins (login_request_head i (is_sent i.unsent_text)) (offered i) w.first (ap (λ (l : List ℕ). not (is_sent l)) w.unsent_text) f
          w.short
          (offered_read c i o a.settings a.stage))
      | inr p ↦ subst (λ (x : Segment). Readable logins (login_request_message i (is_sent i.unsent_text) x)) (sym p.is)
          (part_readable logins (login_request_head i (is_sent i.unsent_text)) p.bytes
          (ap (λ (b : Bool). not logins.request && b) (not-not (is_sent i.unsent_text))
          ∙ p.part) f
          p.short)
    ])

-- ---- what comes of it

-- both ends are in full feature phase, and hold the same
pub record Agreed (i : InitiatorStep) (t : target.Machine) : Type 0 where
  pub stage : i.machine.stage ≡ stages.Full
  pub silent : i.output ≡ []
  pub target_stage : t.session.stage ≡ stages.Full
  pub target_phase : t.session.phase ≡ phases.Full
  pub held : t.session.held ≡ i.machine.held

-- the next request is on its way
pub record Asks_on (c : Opening) (i : InitiatorStep) (t : target.Machine) (logins : Logins) : Type 0 where
  pub request : Message
  pub is : i.output ≡ request ∷ []
  pub asking : Asking c i.machine t logins request

-- what the answer leads to
abbrev pub Leads : Opening → initiator.InitiatorSession → InitiatorStep → target.Machine → Logins → Type 0
Leads c i s t logins = Closes i s ⊎ (Agreed s t ⊎ Asks_on c s t logins)

-- the target gives one answer, which is read as it was written
pub record Round (c : Opening) (i : initiator.InitiatorSession) (t : target.TargetStep) (logins : Logins) : Type 0 where
  pub answer : Message
  pub is : t.answers ≡ answer ∷ []
  pub readable : (back : Logins) → back.response ≡ false → Readable back answer
  pub last : (back : Logins) → back.response ≡ false → (logins_after back answer.head).response ≡ false
  pub short : length (segment_bytes answer.segment) ≤ 8192
  pub leads : Leads c i (initiator_step i answer) t.machine logins

-- ---- the next request

-- a text that fits is sent with its last segment
fits_by : (d : List ℕ) (n k : ℕ) → length d ≡ k - n → nat_le k n ≡ is_sent d
fits_by [] n k e = le-leb k n (omega (arith, e))
fits_by (x ∷ d) n k e = lt-leb k n (omega (arith, e))

fits_drop : (n : ℕ) (l : List ℕ) → nat_le (length l) n ≡ is_sent (drop n l)
fits_drop n l = fits_by (drop n l) n (length l) (length-drop n l)

-- what both hold where a login goes on
record Goes (c : Opening) (m : initiator.InitiatorSession) (t : target.Machine) : Type 0 where
  settings : m.settings ≡ c.initiator
  phase : m.phase ≡ phases.Login
  started : m.started ≡ true
  no_outcome : m.done ≡ None
  stage : IsStart m.stage
  number : sent_exp_stat_sn m < 2 ^ 32
  own : m.held.initiator_max_recv ≡ c.initiator.proposal.prefs.max_recv
  target_settings : t.session.settings ≡ c.target
  logs_in : LogsIn t.session
  values : t.session.held.values ≡ m.held.values
  most : t.session.held.target_max_recv ≡ m.held.target_max_recv

-- a segment of the text goes out, and the rest waits
sends_part : (c : Opening) (m : initiator.InitiatorSession) (t : target.Machine) (logins : Logins) (text : List ℕ) (last : Bool) → IsOpening c → Goes c m t
    → t.session.gathered ++ text ≡ canonical_text (offered m) → last ≡ is_sent (drop m.settings.login_segment text) → (not logins.request && last) ≡ false
    → Asks_on c (sends_cut m text last) t logins
sends_part c m t logins text last o g whole is part =
    let n : ℕ = m.settings.login_segment in
    let short : n ≤ 8192 = subst (λ (s : initiator.InitiatorSettings). s.login_segment ≤ 8192) (sym g.settings) o.initiator.in_range.most in
    record {
      request = login_request_message m last (Bytes (take n text));
      is = refl;
      asking = record {
        settings = g.settings;
        phase = g.phase;
        started = g.started;
        no_outcome = g.no_outcome;
        stage = g.stage;
        number = g.number;
        own = g.own;
        target_settings = g.target_settings;
        logs_in = g.logs_in;
        values = g.values;
        most = g.most;
        segment = Bytes (take n text);
        request = ap (λ (b : Bool). login_request_message m b (Bytes (take n text))) is;
        how = inr (record {
          bytes = take n text;
          is = refl;
          text = ap (λ (x : List ℕ). t.session.gathered ++ x) (take-append-drop n text) ∙ whole;
          short = omega (arith, length-take n text, short);
          part = ap (λ (b : Bool). not logins.request && b) (sym is) ∙ part;
        });
      };
    }

-- the text of the next stage goes out, whole or a part of it
sends_next : (c : Opening) (m : initiator.InitiatorSession) (t : target.Machine) (logins : Logins) → IsOpening c → Goes c m t → t.session.gathered ≡ []
    → logins.request ≡ false
    → Asks_on c (sends_text m) t logins
sends_next c m t logins o g none first =
    let text : List ℕ = canonical_text (offered m) in
    let n : ℕ = m.settings.login_segment in
    let short : n ≤ 8192 = subst (λ (s : initiator.InitiatorSettings). s.login_segment ≤ 8192) (sym g.settings) o.initiator.in_range.most in
    by_fit (nat_le (length text) n) (λ r. Asks_on c r t logins) (step_sending (record m { unsent_text = [] })
    (login_request_message m true (Text (offered m)) ∷ []))
    (sends_cut m text false)
    (λ fits. record {
      request = login_request_message m true (Text (offered m));
      is = refl;
      asking = record {
        settings = g.settings;
        phase = g.phase;
        started = g.started;
        no_outcome = g.no_outcome;
        stage = g.stage;
        number = g.number;
        own = g.own;
        target_settings = g.target_settings;
        logs_in = g.logs_in;
        values = g.values;
        most = g.most;
        segment = Text (offered m);
        request = refl;
        how = inl (record { is = refl; unsent_text = refl; gathered = none; first = first; short = omega (arith, leb-true (length text) n fits, short) });
      };
    })
    (λ long. sends_part c m t logins text false o g (ap (λ (x : List ℕ). x ++ text) none) (sym long ∙ fits_drop n text) (and-false (not logins.request)))
  where
    by_fit : (b : Bool) (P : InitiatorStep → Type 0) (x y : InitiatorStep) → (b ≡ true → P x) → (b ≡ false → P y) → P (if b then x else y)
    by_fit true P x y p q = p refl
    by_fit false P x y p q = q refl

-- ---- the answer

empty_read : text_in (canonical_text []) ≡ Some []
empty_read = refl

response_last : (back : Logins) (h : LoginResponse) (pairs : Pairs) → h.continues ≡ false → (logins_after back (answering h pairs).head).response ≡ false
unfolding logins_after
response_last back h pairs last = last

short_text : (pairs : Pairs) → length (canonical_text pairs) ≤ 8192 → length (segment_bytes (Text pairs)) ≤ 8192
unfolding segment_bytes
short_text pairs le = le

short_bytes : (bytes : List ℕ) → length bytes ≤ 8192 → length (segment_bytes (Bytes bytes)) ≤ 8192
unfolding segment_bytes
short_bytes bytes le = le

-- what is asked has no longer segment than each end takes
pub asking_short : (c : Opening) (i : initiator.InitiatorSession) (t : target.Machine) (logins : Logins) (r : Message) → Asking c i t logins r
    → length (segment_bytes r.segment) ≤ 8192
asking_short c i t logins r a =
    subst (λ (x : Message). length (segment_bytes x.segment) ≤ 8192) (sym a.request)
    (elim a.how [
      | inl w ↦ subst (λ (x : Segment). length (segment_bytes x) ≤ 8192) (sym w.is) (short_text (offered i) w.short)
      | inr p ↦ subst (λ (x : Segment). length (segment_bytes x) ≤ 8192) (sym p.is) (short_bytes p.bytes p.short)
    ])

-- the target behind what its session replied
abbrev behind : target.Machine → target_session.Reply → target.Machine
behind t reply = record { session = reply.session; tasks = target.left reply.session t.tasks }

refused_round : (c : Opening) (i : initiator.InitiatorSession) (t : target.Machine) (logins next : Logins) (r : Message) (disk : Disk) (last : Bool)
    (reply : target_session.Reply) → Asking c i t logins r
    → Refuses (login_request_head i last) reply → Round c i (target.on disk t.tasks reply) next
refused_round c i t logins next r disk last reply a q = record {
  answer = answering q.answer [];
  is = q.is;
  readable = λ back first. response_readable back q.answer [] first q.last q.fits (omega arith) empty_read;
  last = λ back first. response_last back q.answer [] q.last;
  short = short_text [] (omega arith);
  leads = inl (receives_refusal i q.answer [] a.phase a.started q.tag q.class);
}

-- the login goes on with the next part of the text
gathered_round : (c : Opening) (i : initiator.InitiatorSession) (t : target.Machine) (logins next : Logins) (r : Message) (disk : Disk) (bytes : List ℕ)
    (byte : ℕ)
    (more : List ℕ) (reply : target_session.Reply) → IsOpening c → Asking c i t logins r
    → i.unsent_text ≡ byte ∷ more → t.session.gathered ++ (bytes ++ i.unsent_text) ≡ canonical_text (offered i) → next.request ≡ true
    → Gathers t.session (login_request_head i false) bytes reply → Round c i (target.on disk t.tasks reply) next
gathered_round c i t logins next r disk bytes byte more reply o a left text request q = record {
  answer = answering q.answer [];
  is = q.is;
  readable = λ back first. response_readable back q.answer [] first q.last q.fits (omega arith) empty_read;
  last = λ back first. response_last back q.answer [] q.last;
  short = short_text [] (omega arith);
  leads = elim (receives_more i q.answer [] byte more a.phase a.started q.tag q.class left) [
    | inl closes ↦ inl closes
    | inr e ↦ inr (inr (subst (λ (s : InitiatorStep). Asks_on c s (behind t reply) next) (sym e) goes))
  ];
}
  where
    m : initiator.InitiatorSession
    m = login_counted i q.answer

    goes : Asks_on c (sends_more m) (behind t reply) next
    goes = sends_part c m (behind t reply) next m.unsent_text (fits_segment m m.unsent_text) o
        (record {
          settings = a.settings;
          phase = a.phase;
          started = a.started;
          no_outcome = a.no_outcome;
          stage = a.stage;
          number = mod-lt _ (omega arith);
          own = a.own;
          target_settings = q.settings ∙ a.target_settings;
          logs_in = q.logs_in;
          values = ap (λ (x : Held). x.values) q.held ∙ a.values;
          most = ap (λ (x : Held). x.target_max_recv) q.held ∙ a.most;
        })
        (ap (λ (x : List ℕ). x ++ i.unsent_text) q.gathered ∙ append_assoc t.session.gathered bytes i.unsent_text ∙ text)
        (fits_drop m.settings.login_segment m.unsent_text)
        (ap (λ (b : Bool). not b && fits_segment m m.unsent_text) request)

-- ---- what is held after an answer

-- the values and what the target takes are the same at both ends
record SameHeld (i t : Held) : Type 0 where
  values : t.values ≡ i.values
  most : t.target_max_recv ≡ i.target_max_recv

held_same : (declared : Option ℕ) (answer : Pairs) (i t : Held) → t.values ≡ i.values → t.target_max_recv ≡ i.target_max_recv
    → SameHeld (initiator_holds None answer i) (initiator_holds declared answer t)
held_same declared answer i t v m = record {
  values = ap (λ (x : List Answered). (initiator_holds None answer (record i { values = x })).values) v;
  most = ap (λ (n : ℕ). unwrap_or (declared_max_recv answer) n) m;
}

-- the answer leads on: to the next stage, or to full feature phase
told_to : (stage : Stage) (c : Opening) (i : initiator.InitiatorSession) (t : target.Machine) (logins next : Logins) (r : Message)
    (reply : target_session.Reply)
    → IsOpening c → Asking c i t logins r → i.stage ≡ stage
    → next.request ≡ false → (q : Tells t.session (login_request_head i true) (offered i) reply)
    → let answer : Pairs = login.answer q.session t.session.settings.preferences q.group q.most (offered i) in
    Leads c i (begins_stage (following_stage stage) (with_answer i q.answer answer)) (behind t reply) next
told_to stages.Security c i t logins next r reply o a is first q =
    let answer : Pairs = login.answer q.session t.session.settings.preferences q.group q.most (offered i) in
    let m : initiator.InitiatorSession = record (with_answer i q.answer answer) { stage = stages.Operational } in
    let range : ArePreferencesInRange t.session.settings.preferences = subst (λ (x : target_settings.TargetSettings). ArePreferencesInRange x.preferences)
    (sym a.target_settings)
    o.preferences in
    let h : reply.session.held ≡ initiator_holds (declared_max_recv (offered i)) answer t.session.held =
    q.held ∙ sym (texts_agree q.session t.session.settings.preferences range q.group q.most (offered i) t.session.held) in
    let s : SameHeld (initiator_holds None answer i.held) (initiator_holds (declared_max_recv (offered i)) answer t.session.held) =
    held_same (declared_max_recv (offered i)) answer i.held t.session.held a.values a.most in
    let asked_is : target_login.stage_asked (login_request_head i true) ≡ Some stages.Operational =
    ap (λ (x : Stage). target_login.stage_named (stage_number (following_stage x))) is in
    inr (inr (sends_next c m (behind t reply) next o
    (record {
      settings = a.settings;
      phase = a.phase;
      started = a.started;
      no_outcome = a.no_outcome;
      stage = tt;
      number = mod-lt _ (omega arith);
      own = a.own;
      target_settings = q.settings ∙ a.target_settings;
      logs_in = record { phase = q.phase stages.Operational asked_is; stat_sn = q.stat_sn; cmd_sn = q.cmd_sn; progress = q.progress };
      values = ap (λ (x : Held). x.values) h ∙ s.values;
      most = ap (λ (x : Held). x.target_max_recv) h ∙ s.most;
    })
    q.gathered first))
told_to stages.Operational c i t logins next r reply o a is first q =
    let answer : Pairs = login.answer q.session t.session.settings.preferences q.group q.most (offered i) in
    let range : ArePreferencesInRange t.session.settings.preferences = subst (λ (x : target_settings.TargetSettings). ArePreferencesInRange x.preferences)
    (sym a.target_settings)
    o.preferences in
    let h : reply.session.held ≡ initiator_holds (declared_max_recv (offered i)) answer t.session.held =
    q.held ∙ sym (texts_agree q.session t.session.settings.preferences range q.group q.most (offered i) t.session.held) in
    let s : SameHeld (initiator_holds None answer i.held) (initiator_holds (declared_max_recv (offered i)) answer t.session.held) =
    held_same (declared_max_recv (offered i)) answer i.held t.session.held a.values a.most in
    let valid : AreValid i.settings = subst AreValid (sym a.settings) o.initiator in
    let d : declared_max_recv (offered i) ≡ Some c.initiator.proposal.prefs.max_recv =
    ap (λ (x : Stage). declared_max_recv (in_order (offers_at i.settings.proposal i.settings.start x))) is
    ∙ declares i.settings.proposal i.settings.start valid.in_range.start ∙ ap (λ (x : initiator.InitiatorSettings). Some x.proposal.prefs.max_recv)
    a.settings in
    let own : unwrap_or (declared_max_recv (offered i)) t.session.held.initiator_max_recv ≡ i.held.initiator_max_recv =
    ap (λ (x : Option ℕ). unwrap_or x t.session.held.initiator_max_recv) d ∙ sym a.own in
    let same : initiator_holds (declared_max_recv (offered i)) answer t.session.held ≡ initiator_holds None answer i.held =
    λ j. record { values = s.values j; initiator_max_recv = own j; target_max_recv = s.most j } in
    let asked_is : target_login.stage_asked (login_request_head i true) ≡ Some stages.Full =
    ap (λ (x : Stage). target_login.stage_named (stage_number (following_stage x))) is in
    inr (inl (record {
      stage = refl;
      silent = refl;
      target_stage = q.stage stages.Full asked_is;
      target_phase = q.phase stages.Full asked_is;
      held = h ∙ same;
    }))
told_to stages.Full c i t logins next r reply o a is first q = absurd (subst IsStart is a.stage)

told_round : (c : Opening) (i : initiator.InitiatorSession) (t : target.Machine) (logins next : Logins) (r : Message) (disk : Disk)
    (reply : target_session.Reply)
    → IsOpening c → Asking c i t logins r
    → i.unsent_text ≡ [] → next.request ≡ false → Tells t.session (login_request_head i true) (offered i) reply → Round c i (target.on disk t.tasks reply) next
told_round c i t logins next r disk reply o a left first q = record {
  answer = answering q.answer answer;
  is = q.is;
  readable = λ back start. response_readable back q.answer answer start q.last q.fits q.short read;
  last = λ back start. response_last back q.answer answer q.last;
  short = short_text answer q.short;
  leads = elim (receives_answer i q.answer answer a.phase a.started q.tag q.class left) [
    | inl closes ↦ inl closes
    | inr e ↦ subst (λ (s : InitiatorStep). Leads c i s (behind t reply) next) (sym e) (told_to i.stage c i t logins next r reply o a refl first q)
  ];
}
  where
    answer : Pairs
    answer = login.answer q.session t.session.settings.preferences q.group q.most (offered i)

    read : text_in (canonical_text answer) ≡ Some answer
    read = (texts.reading_some (canonical_text answer) answer).1 (texts.canonical_means answer
        (answer_meaning q.session t.session.settings.preferences (subst (λ (x : target_settings.TargetSettings). ArePreferencesInRange x.preferences)
        (sym a.target_settings)
        o.preferences) q.group q.most q.group_fits q.most_fits (offered i) (offers_are_meant c i o a.settings a.stage)))

-- the login stays where it is, and so the initiator gives up
stayed_round : (c : Opening) (i : initiator.InitiatorSession) (t : target.Machine) (logins next : Logins) (r : Message) (disk : Disk)
    (reply : target_session.Reply)
    → Asking c i t logins r → i.unsent_text ≡ [] → HoldsBack (login_request_head i true) reply → Round c i (target.on disk t.tasks reply) next
stayed_round c i t logins next r disk reply a left q = record {
  answer = answering q.answer q.text;
  is = q.is;
  readable = λ back first. response_readable back q.answer q.text first q.last q.fits q.short
      ((texts.reading_some (canonical_text q.text) q.text).1 (texts.canonical_means q.text q.means));
  last = λ back first. response_last back q.answer q.text q.last;
  short = short_text q.text q.short;
  leads = inl (receives_stay i q.answer q.text a.phase a.started q.tag q.stays left);
}

-- ---- one round

next_request : (logins : Logins) (i : initiator.InitiatorSession) (last : Bool) (segment : Segment)
    → (logins_after logins (login_request_message i last segment).head).request ≡ not last
unfolding logins_after
next_request logins i last segment = refl

target_fits : (c : Opening) (t : target.Machine) → IsOpening c → t.session.settings ≡ c.target → SettingsFit t.session.settings
target_fits c t o e = subst SettingsFit (sym e) (record { preferences = o.preferences; group = o.group; tsih = o.tsih })

-- a request that ends its text
last_round : (c : Opening) (i : initiator.InitiatorSession) (t : target.Machine) (logins : Logins) (r : Message) (disk : Disk) (segment : Segment) → IsOpening c
    → Asking c i t logins r
    → i.unsent_text ≡ [] → is_over_limit t segment ≡ false → target_login.text_ending t.session.gathered segment ≡ Some (offered i)
    → Round c i (target_machine.target_step false t disk (login_request_message i true segment))
    (logins_after logins (login_request_message i true segment).head)
last_round c i t logins r disk segment o a left short read =
    let h : LoginRequest = login_request_head i true in
    let next : Logins = logins_after logins (login_request_message i true segment).head in
    let f : RequestFits h = request_fits c i true o a.settings a.number in
    subst (λ (x : target.TargetStep). Round c i x next) (sym (login_step_is t disk h segment a.logs_in.phase short))
    (elim (tells_text t.session h segment (offered i) (target_fits c t o a.target_settings) a.logs_in f refl (offers_are_meant c i o a.settings a.stage) read) [
      | inl q ↦ refused_round c i t logins next r disk true (target_login.on_login_request t.session h segment) a q
      | inr (inl q) ↦ told_round c i t logins next r disk (target_login.on_login_request t.session h segment) o a left (next_request logins i true segment) q
      | inr (inr q) ↦ stayed_round c i t logins next r disk (target_login.on_login_request t.session h segment) a left q
    ])

-- a request whose text goes on
part_round : (c : Opening) (i : initiator.InitiatorSession) (t : target.Machine) (logins : Logins) (r : Message) (disk : Disk) (bytes : List ℕ) (byte : ℕ)
    (more : List ℕ) → IsOpening c → Asking c i t logins r
    → i.unsent_text ≡ byte ∷ more → is_over_limit t (Bytes bytes) ≡ false → t.session.gathered ++ (bytes ++ i.unsent_text) ≡ canonical_text (offered i)
    → Round c i (target_machine.target_step false t disk (login_request_message i false (Bytes bytes)))
    (logins_after logins (login_request_message i false (Bytes bytes)).head)
part_round c i t logins r disk bytes byte more o a left short text =
    let h : LoginRequest = login_request_head i false in
    let next : Logins = logins_after logins (login_request_message i false (Bytes bytes)).head in
    let f : RequestFits h = request_fits c i false o a.settings a.number in
    subst (λ (x : target.TargetStep). Round c i x next) (sym (login_step_is t disk h (Bytes bytes) a.logs_in.phase short))
    (elim (gathers_more t.session h bytes a.logs_in f refl) [
      | inl q ↦ refused_round c i t logins next r disk false (target_login.on_login_request t.session h (Bytes bytes)) a q
      | inr q ↦ gathered_round c i t logins next r disk bytes byte more (target_login.on_login_request t.session h (Bytes bytes)) o a left text
          (next_request logins i false (Bytes bytes)) q
    ])

pub fits_limit : (t : target.Machine) (bytes : List ℕ) → length bytes ≤ 8192 → is_over_limit t (Bytes bytes) ≡ false
fits_limit t bytes le = le-ltb (target_session.target_limit t.session.settings) (length bytes) (omega (arith, le))

-- the message that is on its way, by what is left behind it
round_at : (left : List ℕ) (c : Opening) (i : initiator.InitiatorSession) (t : target.Machine) (logins : Logins) (r : Message) (disk : Disk) → IsOpening c
    → (a : Asking c i t logins r) → i.unsent_text ≡ left
    → Round c i (target_machine.target_step false t disk (login_request_message i (is_sent left) a.segment))
    (logins_after logins (login_request_message i (is_sent left) a.segment).head)
round_at [] c i t logins r disk o a left =
    elim a.how [
      | inl w ↦ subst (λ (x : Segment). Round c i (target_machine.target_step false t disk (login_request_message i true x))
          (logins_after logins (login_request_message i true x).head)) (sym w.is)
          (last_round c i t logins r disk (Text (offered i)) o a left refl refl)
      | inr p ↦ subst (λ (x : Segment). Round c i (target_machine.target_step false t disk (login_request_message i true x))
          (logins_after logins (login_request_message i true x).head)) (sym p.is)
          (last_round c i t logins r disk (Bytes p.bytes) o a left (fits_limit t p.bytes p.short)
          (ap text_in (ap (λ (x : List ℕ). t.session.gathered ++ x) (sym (append-nil p.bytes) ∙ ap (λ (x : List ℕ). p.bytes ++ x) (sym left)) ∙ p.text)
          ∙ offered_read c i o a.settings a.stage))
    ]
round_at (byte ∷ more) c i t logins r disk o a left =
    elim a.how [
      | inl w ↦ absurd (let bad : [] ≡ byte ∷ more = sym w.unsent_text ∙ left in cc)
      | inr p ↦ subst (λ (x : Segment). Round c i (target_machine.target_step false t disk (login_request_message i false x))
          (logins_after logins (login_request_message i false x).head))
          (sym p.is)
          (part_round c i t logins r disk p.bytes byte more o a left (fits_limit t p.bytes p.short) p.text)
    ]

pub round : (c : Opening) (i : initiator.InitiatorSession) (t : target.Machine) (logins : Logins) (r : Message) (disk : Disk) → IsOpening c
    → Asking c i t logins r
    → Round c i (target_machine.target_step false t disk r) (logins_after logins r.head)
round c i t logins r disk o a =
    subst (λ (x : Message). Round c i (target_machine.target_step false t disk x) (logins_after logins x.head)) (sym a.request)
    (round_at i.unsent_text c i t logins r disk o a refl)

-- ---- the first request

pub first_asks : (c : Opening) → IsOpening c → Asks_on c (start_step (initiator.new_session c.initiator)) (target.opening_machine c.target c.first_stat_sn)
    no_login
first_asks c o =
    sends_next c (record (initiator.new_session c.initiator) { started = true }) (target.opening_machine c.target c.first_stat_sn) no_login o
    (record {
      settings = refl;
      phase = refl;
      started = refl;
      no_outcome = refl;
      stage = o.initiator.in_range.start;
      number = omega arith;
      own = refl;
      target_settings = refl;
      logs_in = record { phase = refl; stat_sn = o.stat_sn; cmd_sn = omega arith; progress = refl };
      values = refl;
      most = refl;
    }) refl refl

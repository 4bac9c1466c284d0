-- A round of the login begins: no reason refuses its request or its text.
use Rattle.std.proofs.Common.{◌≡◌, ◌≢◌, ◌<◌, ◌≤◌, ◌⊎◌, inl, inr, ℕ, ◌+◌, Bool, true, false, List, [], ◌∷◌, length, Option, Some, None, refl, sym, ap, ◌∙◌}
use Rattle.std.proofs.Common.{subst, arith}
use Rattle.std.specs.Prelude.{not, ◌&&◌, ◌==◌, nat_lt, nat_le, ◌^◌, if◌then◌else◌, unwrap_or}
use Rattle.std.specs.Bool.{then_some}
use Rattle.std.proofs.lemmas.Bool.{cond_both, cond-true, cond-false, le-ltb}
use Rattle.iscsi_text.specs.Text.{Pairs}
use Rattle.iscsi_text.specs.Canonical.{canonical_text}
use Rattle.iscsi_text.specs.Reading.{in_order}
use Rattle.iscsi_pdu.specs.declared.head.login_request.LoginRequest.{LoginRequest}
use Rattle.iscsi_pdu.specs.declared.head.login_response.LoginResponse.{LoginResponse}
use Rattle.iscsi_login.specs.declared.phase.Phase.TheVariants as phases
use Rattle.iscsi_login.specs.Check.{bad_key}
use Rattle.iscsi_stream.specs.Segment.{Segment, Text, Bytes, segment_bytes}
use Rattle.iscsi_login.specs.declared.stage.Stage.{Stage}
use Rattle.iscsi_login.specs.declared.stage.Stage.TheVariants as stages
use Rattle.iscsi_text.specs.declared.negotiated.Session.TheVariants as sessions
use Rattle.iscsi_login.specs.declared.offers.Auth.TheVariants as auths
use Rattle.iscsi_login.specs.Negotiation.{ArePreferencesInRange}
use Rattle.iscsi_login.specs.Stage.{stage_number}
use Rattle.iscsi_login.specs.Offers.{Proposal, offers_at, security_offers, operational_offers, single_offers}
use Rattle.iscsi_initiator.specs.Configured.{IsStart}
use Rattle.iscsi_initiator.specs.State as initiator
use Rattle.iscsi_initiator.specs.Login.{offered, following_stage, login_request_head, is_expected, is_mid_text_answer, moves_on, login_answer_in_turn}
use Rattle.iscsi_initiator.specs.Login.{answer_judged, begins_stage, login_counted, sends_more}
use Rattle.iscsi_initiator.specs.Machine.{initiator_step}
use Rattle.iscsi_target_session.specs.declared.status.Status.{Status}
use Rattle.iscsi_target_session.specs.Configured as target_settings
use Rattle.iscsi_target_session.specs.Session as target_session
use Rattle.iscsi_target.specs.State as target
use Rattle.scsi_disk.specs.Plan.{first_reason}
use Rattle.iscsi_text.specs.Key.{known_keys}
use Rattle.iscsi_target_session.specs.Session.{none_seen}
use Rattle.iscsi_target_session.specs.LoginText.{repeats_key, seen_with, text_refusals, answer_pairs, negotiated_as, declared_tag, declared_length}
use Rattle.iscsi_target_session.specs.Login as login
use Rattle.iscsi_target_session.proofs.RefusalLemmas.{request_unrefused}
use Rattle.iscsi_target_session.specs.Login.{request_refusals, is_same_stage, stage_named, is_move, numbers_settled, entered, gather, pairs_answered}
use Rattle.iscsi_target_session.specs.Login.{text_ending}
use Rattle.iscsi_pair.specs.World.{Opening, IsOpening, SuitEachOther}
use Rattle.iscsi_target_session.proofs.ExchangeLemmas.{open_text}
use Rattle.iscsi_pair.proofs.Login.TargetStep.{some_if}
use Rattle.iscsi_pair.proofs.Login.InitiatorStep.{answering, with_answer, receives}
use Rattle.iscsi_pair.proofs.Wire.TextSizes.{answer_is_short}
use Rattle.iscsi_pair.proofs.Login.Compatible.{IsFew, offers_few, says_security, says_single, second_gives, security_auth, operational_auth}
use Rattle.iscsi_pair.proofs.Login.Compatible.{single_auth, security_length, operational_length, single_length, first_text, second_text}

-- ---- where the login is, beside what the initiator asks

-- the target has no text yet
pub record HasNone (c : Opening) (i : initiator.InitiatorSession) (t : target.Machine) : Type 0 where
  pub none : t.session.has_text ≡ false
  pub seen_keys : t.session.seen_keys ≡ none_seen
  pub stage : i.stage ≡ c.initiator.start

-- it has the text of the security stage
pub record HasFirst (c : Opening) (i : initiator.InitiatorSession) (t : target.Machine) : Type 0 where
  pub one : t.session.has_text ≡ true
  pub seen_keys : t.session.seen_keys ≡ seen_with known_keys none_seen (in_order (security_offers c.initiator.proposal))
  pub start : c.initiator.start ≡ stages.Security
  pub stage : i.stage ≡ stages.Operational

-- both ends expect of each other what will come
pub record Suited (c : Opening) (i : initiator.InitiatorSession) (t : target.Machine) : Type 0 where
  pub expected : is_expected i.exp_stat_sn t.session.stat_sn ≡ true
  pub due : (if t.session.begun then is_same_stage t.session.stage (stage_named (stage_number i.stage)) else nat_le (stage_number i.stage) 1) ≡ true
  pub texts : HasNone c i t ⊎ HasFirst c i t

-- ---- no reason to refuse a request

last_or_not : (b : Bool) → (b && not b) ≡ false
last_or_not true = refl
last_or_not false = refl

moves : (last : Bool) (stage : Stage) → IsStart stage
    → (last && not (is_move (stage_named (stage_number stage)) (stage_named (unwrap_or (then_some last (stage_number (following_stage stage))) 2)))) ≡ false
moves true stages.Security is = refl
moves true stages.Operational is = refl
moves true stages.Full is = absurd is
moves false stage is = refl

pub not_refused : (c : Opening) (i : initiator.InitiatorSession) (t : target.Machine) (last : Bool) → IsStart i.stage → Suited c i t
    → first_reason (request_refusals t.session (login_request_head i last)) ≡ None
not_refused c i t last is s = request_unrefused t.session (login_request_head i last) (record {
  version = refl;
  new_session = refl;
  due_stage = ap not s.due;
  whole = last_or_not last;
  may_move = moves last i.stage is;
})

-- ---- no reason to refuse its text

-- what taking a request's stage and number keeps
pub record SameText (s e : target_session.Session) : Type 0 where
  pub has_text : e.has_text ≡ s.has_text
  pub seen_keys : e.seen_keys ≡ s.seen_keys
  pub settings : e.settings ≡ s.settings

-- the same, with the numbers and the text so far
pub record SameState (s e : target_session.Session) : Type 0 where
  pub has_text : e.has_text ≡ s.has_text
  pub seen_keys : e.seen_keys ≡ s.seen_keys
  pub settings : e.settings ≡ s.settings
  pub stat_sn : e.stat_sn ≡ s.stat_sn
  pub gathered : e.gathered ≡ s.gathered

pub entered_same : (s : target_session.Session) (h : LoginRequest) → SameState s (entered s h)
entered_same s h =
    let k : SameState s (numbers_settled s h) = cond_both s.begun s (record s { begun = true; exp_cmd_sn = h.cmd_sn; isid = h.isid }) (SameState s)
    (λ is. record { has_text = refl; seen_keys = refl; settings = refl; stat_sn = refl; gathered = refl }) (λ is. record {
      has_text = refl;
      seen_keys = refl;
      settings =
          refl;
      stat_sn = refl;
      gathered = refl;
    }) in
    record { has_text = k.has_text; seen_keys = k.seen_keys; settings = k.settings; stat_sn = k.stat_sn; gathered = k.gathered }

-- the answer to an offer fits its segment
answer_fits : (c : Opening) (e : target_session.Session) (pairs : Pairs) → IsOpening c → e.settings ≡ c.target → IsFew pairs
    → nat_lt 8192 (length (canonical_text (answer_pairs e pairs))) ≡ false
answer_fits c e pairs o same few =
    let range : ArePreferencesInRange e.settings.preferences = subst (λ (x : target_settings.TargetSettings). ArePreferencesInRange x.preferences) (sym same)
    o.preferences in
    let group : e.settings.group < 2 ^ 16 = subst (λ (x : target_settings.TargetSettings). x.group < 2 ^ 16) (sym same) o.group in
    le-ltb 8192 (length (canonical_text (answer_pairs e pairs)))
    (answer_is_short (negotiated_as e pairs) e.settings.preferences (declared_tag e pairs) (declared_length e) pairs range
    (some_if _ e.settings.group (2 ^ 64) (omega (arith, group))) (some_if _ e.settings.preferences.max_recv (2 ^ 64) (omega (arith, range.max_recv.1)))
    few.short few.few)

-- the target's name, as the target has it
suited_name : (c : Opening) (e : target_session.Session) → SuitEachOther c → e.settings ≡ c.target
    → (c.initiator.proposal.session ≡ sessions.Discovery) ⊎ (c.initiator.proposal.target ≡ e.settings.name)
suited_name c e suits same = elim suits.name [
  | inl d ↦ inl d
  | inr n ↦ inr (n ∙ ap (λ (x : target_settings.TargetSettings). x.name) (sym same))
]

-- the initiator may log in
suited_access : (c : Opening) (e : target_session.Session) → SuitEachOther c → e.settings ≡ c.target
    → target_settings.is_allowed e.settings.extras c.initiator.proposal.initiator ≡ true
suited_access c e suits same =
    ap (λ (x : target_settings.TargetSettings). target_settings.is_allowed x.extras c.initiator.proposal.initiator) same ∙ suits.access

demands_chap : (c : Opening) → SuitEachOther c → c.initiator.start ≡ stages.Security → c.initiator.proposal.auth ≢ auths.Chap
demands_chap c suits started = elim suits.auth [
  | inl s ↦ absurd (let bad : stages.Security ≡ stages.Operational = sym started ∙ s in cc)
  | inr n ↦ n
]

-- the text that a stage has, by where the login started
pub text_at : (start stage : Stage) (c : Opening) (i : initiator.InitiatorSession) (t : target.Machine) (e : target_session.Session) → IsOpening c → SuitEachOther c
    → c.initiator.start ≡ start → i.stage ≡ stage → SameText t.session e → t.session.settings ≡ c.target
    → HasNone c i t ⊎ HasFirst c i t → IsStart stage
    → first_reason (text_refusals e (in_order (offers_at c.initiator.proposal start stage))) ≡ None
text_at stages.Security stages.Security c i t e o suits started is same settings (inl f) ok =
    let p : Proposal = c.initiator.proposal in
    let there : e.settings ≡ c.target = same.settings ∙ settings in
    first_text e p (in_order (security_offers p)) (same.has_text ∙ f.none) (same.seen_keys
    ∙ f.seen_keys) o.initiator.names.initiator (says_security p.session p refl)
    (suited_name c e suits there)
    (security_auth p.session p.auth p e.settings.preferences refl refl (demands_chap c suits started)) (security_length p.session p refl)
    (answer_fits c e (in_order (security_offers p)) o there (offers_few stages.Security stages.Security p o.initiator.names.initiator o.initiator.names.target
    o.initiator.in_range.preferences tt))
    (suited_access c e suits there)
text_at stages.Security stages.Security c i t e o suits started is same settings (inr g) ok = absurd (let bad : stages.Security ≡ stages.Operational =
    sym is ∙ g.stage in cc)
text_at stages.Security stages.Operational c i t e o suits started is same settings (inl f) ok = absurd (let bad : stages.Operational ≡ stages.Security =
    sym is ∙ f.stage ∙ started in cc)
text_at stages.Security stages.Operational c i t e o suits started is same settings (inr g) ok =
    let p : Proposal = c.initiator.proposal in
    let there : e.settings ≡ c.target = same.settings ∙ settings in
    second_text e (in_order (operational_offers p)) (same.has_text ∙ g.one)
    (ap (λ (x : List Bool). repeats_key known_keys x (in_order (operational_offers p))) (same.seen_keys ∙ g.seen_keys) ∙ second_gives p.session p refl)
    (operational_auth p e.settings.preferences) (operational_length p o.initiator.in_range.preferences)
    (answer_fits c e (in_order (operational_offers p)) o there (offers_few stages.Security stages.Operational p o.initiator.names.initiator
    o.initiator.names.target o.initiator.in_range.preferences tt))
text_at stages.Operational stages.Security c i t e o suits started is same settings (inl f) ok = absurd (let bad : stages.Security ≡ stages.Operational =
    sym is ∙ f.stage ∙ started in cc)
text_at stages.Operational stages.Security c i t e o suits started is same settings (inr g) ok = absurd (let bad : stages.Operational ≡ stages.Security =
    sym started ∙ g.start in cc)
text_at stages.Operational stages.Operational c i t e o suits started is same settings (inl f) ok =
    let p : Proposal = c.initiator.proposal in
    let there : e.settings ≡ c.target = same.settings ∙ settings in
    first_text e p (in_order (single_offers p)) (same.has_text ∙ f.none) (same.seen_keys
    ∙ f.seen_keys) o.initiator.names.initiator (says_single p.session p refl)
    (suited_name c e suits there)
    (single_auth p.session p e.settings.preferences refl) (single_length p.session p o.initiator.in_range.preferences refl)
    (answer_fits c e (in_order (single_offers p)) o there (offers_few stages.Operational stages.Operational p o.initiator.names.initiator
    o.initiator.names.target o.initiator.in_range.preferences tt))
    (suited_access c e suits there)
text_at stages.Operational stages.Operational c i t e o suits started is same settings (inr g) ok = absurd (let bad : stages.Operational ≡ stages.Security =
    sym started ∙ g.start in cc)
text_at stages.Full stage c i t e o suits started is same settings texts ok = absurd (subst IsStart started o.initiator.in_range.start)
text_at stages.Security stages.Full c i t e o suits started is same settings texts ok = absurd ok
text_at stages.Operational stages.Full c i t e o suits started is same settings texts ok = absurd ok

-- ---- what the target does

-- a part of the text is gathered
pub gathers_well : (t : target_session.Session) (h : LoginRequest) (bytes : List ℕ) → first_reason (request_refusals t h) ≡ None
    → length (entered t h).gathered + length bytes ≤ 16384 → h.continues ≡ true
    → login.on_login_request t h (Bytes bytes) ≡ gather (entered t h) h bytes
unfolding segment_bytes
gathers_well t h bytes none short more =
    let e : target_session.Session = entered t h in
    ap (λ (o : Option Status). login.refuse_or o (numbers_settled t h) h (login.segment_taken e h (Bytes bytes))) none
    ∙ cond-false (nat_lt 16384 (length e.gathered + length bytes)) _ _ (le-ltb 16384 (length e.gathered + length bytes) short)
    ∙ cond-true h.continues _ _ more

-- a whole text is answered
pub answers_well : (t : target_session.Session) (h : LoginRequest) (segment : Segment) (pairs : Pairs) → first_reason (request_refusals t h) ≡ None
    → length (entered t h).gathered + length (segment_bytes segment) ≤ 16384 → h.continues ≡ false
    → text_ending (entered t h).gathered segment ≡ Some pairs → first_reason (text_refusals (record (entered t h) { gathered = [] }) pairs) ≡ None
    → (entered t h).settings.extras.chap ≡ None
    → login.on_login_request t h segment ≡ pairs_answered (record (entered t h) { gathered = [] }) h pairs
answers_well t h segment pairs none short last read good open_ =
    let e : target_session.Session = entered t h in
    let f : target_session.Session = record e { gathered = [] } in
    ap (λ (o : Option Status). login.refuse_or o (numbers_settled t h) h (login.segment_taken e h segment)) none
    ∙ cond-false (nat_lt 16384 (length e.gathered + length (segment_bytes segment))) _ _ (le-ltb 16384 (length e.gathered + length (segment_bytes segment))
    short)
    ∙ cond-false h.continues _ _ last
    ∙ ap (login.whole_text f h) read
    ∙ open_text f h pairs open_
    ∙ ap (λ (o : Option Status). login.refuse_or o f h (pairs_answered f h pairs)) good

-- ---- what the initiator does

pub receives_more_well : (m : initiator.InitiatorSession) (h : LoginResponse) (byte : ℕ) (bytes : List ℕ) → m.phase ≡ phases.Login → m.started ≡ true →
    h.initiator_task_tag ≡ 0
    → h.status_class ≡ 0
    → is_expected m.exp_stat_sn (unwrap_or h.stat_sn 0) ≡ true → m.unsent_text ≡ byte ∷ bytes → is_mid_text_answer m h (Text []) ≡ true
    → initiator_step m (answering h []) ≡ sends_more (login_counted m h)
receives_more_well m h byte bytes p s tag class number left on =
    receives m h [] p s tag
    ∙ cond-false (not (h.status_class == 0)) _ _ (ap (λ (n : ℕ). not (n == 0)) class)
    ∙ cond-false (not (is_expected m.exp_stat_sn (unwrap_or h.stat_sn 0))) _ _ (ap not number)
    ∙ ap (λ (l : List ℕ). login_answer_in_turn l m h (Text [])) left
    ∙ cond-true (is_mid_text_answer m h (Text [])) _ _ on

pub receives_last_well : (m : initiator.InitiatorSession) (h : LoginResponse) (pairs : Pairs) → m.phase ≡ phases.Login → m.started ≡ true → h.initiator_task_tag ≡ 0
    → h.status_class ≡ 0
    → is_expected m.exp_stat_sn (unwrap_or h.stat_sn 0) ≡ true → m.unsent_text ≡ [] → moves_on m h ≡ true → bad_key (offered m) pairs ≡ None
    → initiator_step m (answering h pairs) ≡ begins_stage (following_stage m.stage) (with_answer m h pairs)
receives_last_well m h pairs p s tag class number left on good =
    receives m h pairs p s tag
    ∙ cond-false (not (h.status_class == 0)) _ _ (ap (λ (n : ℕ). not (n == 0)) class)
    ∙ cond-false (not (is_expected m.exp_stat_sn (unwrap_or h.stat_sn 0))) _ _ (ap not number)
    ∙ ap (λ (l : List ℕ). login_answer_in_turn l m h (Text pairs)) left
    ∙ cond-true (moves_on m h) _ _ on
    ∙ ap (λ (o : Option (List ℕ)). answer_judged o m h pairs) good

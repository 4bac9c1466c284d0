-- The login of a target: what each Login Request leads to (RFC 7143, sections 6.3, 11.12 and
-- 11.13).
use Rattle.std.specs.Prelude.{ℕ, ◌+◌, Bool, true, false, not, ◌==◌, ◌&&◌, ◌||◌, nat_lt, nat_le, if◌then◌else◌, List, [], ◌∷◌, ◌++◌, length, Option, Some, None, unwrap_or, codes}
use Rattle.iscsi_text.specs.Text.{Pairs, without}
use Rattle.iscsi_text.specs.Canonical.{canonical_text}
use Rattle.iscsi_text.specs.Reading.{text_in, in_order}
use Rattle.iscsi_access.specs.Chap.{Chap}
use Rattle.iscsi_access.specs.Exchange.{judge, said_pairs}
use Rattle.iscsi_access.specs.declared.verdict.Progress.{Progress}
use Rattle.iscsi_access.specs.declared.verdict.Progress.TheVariants as progress
use Rattle.iscsi_access.specs.declared.verdict.Said.{Said}
use Rattle.iscsi_access.specs.declared.verdict.Verdict.{Verdict}
use Rattle.iscsi_access.specs.declared.verdict.Verdict.TheVariants as verdicts
use Rattle.iscsi_pdu.specs.declared.head.login_request.LoginRequest.{LoginRequest}
use Rattle.iscsi_pdu.specs.declared.head.login_response.LoginResponse.{LoginResponse}
use Rattle.iscsi_pdu.specs.declared.head.Head.{Head}
use Rattle.iscsi_pdu.specs.declared.head.Head.TheVariants as heads
use Rattle.iscsi_stream.specs.Segment.{Segment, Bytes, Text, segment_bytes}
use Rattle.iscsi_stream.specs.Stream.{Message}
use Rattle.iscsi_stream.specs.Texts.{longest_text}
use Rattle.iscsi_login.specs.declared.phase.Phase.{Phase}
use Rattle.iscsi_login.specs.declared.phase.Phase.TheVariants as phases
use Rattle.iscsi_login.specs.declared.stage.Stage.{Stage}
use Rattle.iscsi_login.specs.declared.stage.Stage.TheVariants as stages
use Rattle.iscsi_login.specs.Stage.{may_move}
use Rattle.iscsi_target_session.specs.Session.{Session, Reply, shut, ended_session, stat_sn_advanced, max_cmd_sn_with}
use Rattle.scsi_disk.specs.Plan.{first_reason}
use Rattle.iscsi_pdu.specs.Rules.{kind_not_due}
use Rattle.iscsi_target_session.specs.declared.status.Status.{Status}
use Rattle.iscsi_text.specs.Key.{known_keys}
use Rattle.iscsi_target_session.specs.LoginText.{initiator_error, authentication_failure, unsupported_version, session_does_not_exist, out_of_resources, is_operational, seen_with, session_for, answer_pairs, held_after, text_refusals, initiator_for}

-- ---- stages

-- The stage that two bits of a login PDU name (sections 11.12.3 and 11.12.4).
abbrev pub stage_named : ℕ → Option Stage
stage_named n =
    if n == 0 then Some stages.Security
    else if n == 1 then Some stages.Operational
    else if n == 3 then Some stages.Full
    else None

-- The stage is the one that is named (section 11.12.3).
abbrev pub is_same_stage : Stage → Option Stage → Bool
is_same_stage stages.Security (Some stages.Security) = true
is_same_stage stages.Operational (Some stages.Operational) = true
is_same_stage stages.Full (Some stages.Full) = true
is_same_stage _ _ = false

-- The login may move from the first to the second (section 11.12.3).
abbrev pub is_move : Option Stage → Option Stage → Bool
is_move (Some from) (Some to) = may_move from to
is_move _ _ = false

-- The stage that is asked for; none where the request doesn't move (section 11.12.3).
abbrev pub stage_asked : LoginRequest → Option Stage
stage_asked r = stage_named (unwrap_or r.next_stage 2)

-- The stage after a request that isn't refused (section 11.12.3).
abbrev pub stage_after : Session → LoginRequest → Stage
stage_after s r = unwrap_or (stage_asked r) s.stage

-- The first request may begin in each stage but the last; the others name the current one (section
-- 11.12.3).
abbrev pub is_due_stage : Session → LoginRequest → Bool
is_due_stage s r =
    if s.begun then is_same_stage s.stage (stage_named r.current_stage)
    else nat_le r.current_stage 1

-- The phase that goes with a stage (section 6.3).
abbrev pub phase_at : Stage → Phase
phase_at stages.Security = phases.Login
phase_at stages.Operational = phases.Login
phase_at stages.Full = phases.Full

-- ---- answers

-- What each answer has of its request: no more is to come, and nothing moves (section 11.13).
abbrev pub login_response_to : Session → LoginRequest → LoginResponse
login_response_to s r = record {
  transits = false;
  continues = false;
  current_stage = r.current_stage;
  next_stage = None;
  version_max = 0;
  version_active = 0;
  isid = r.isid;
  tsih = 0;
  initiator_task_tag = r.initiator_task_tag;
  stat_sn = None;
  exp_cmd_sn = s.exp_cmd_sn;
  max_cmd_sn = max_cmd_sn_with s 0;
  status_class = 0;
  status_detail = 0;
}

-- A Login Response and its text (section 11.13).
abbrev pub login_response_message : LoginResponse → Pairs → Message
login_response_message h pairs = record { head = heads.LoginResponse h; segment = Text pairs }

-- A refusal carries no StatSN, and closes the session (section 11.13.5).
abbrev pub refuse : Session → LoginRequest → Status → Reply
refuse s r why = record {
  session = ended_session s;
  answers =
      login_response_message
      (record (login_response_to s r) { status_class = why.class; status_detail = why.detail }) []
      ∷ [];
  rule = None;
}

-- The refusal, or the reply where there is no reason for one (section 11.13.5).
abbrev pub refuse_or : Option Status → Session → LoginRequest → Reply → Reply
refuse_or None s r reply = reply
refuse_or (Some why) s r reply = refuse s r why

-- An answer of class 0 carries StatSN (section 11.13.4).
abbrev pub good_login_answer : Session → LoginResponse → Pairs → List Message
good_login_answer s h pairs =
    login_response_message (record h { stat_sn = Some s.stat_sn }) pairs ∷ []

-- ---- a whole text

-- The session's number goes with the move to full feature phase (section 11.13.3).
abbrev pub tsih_at : Session → Stage → ℕ
tsih_at s stages.Security = 0
tsih_at s stages.Operational = 0
tsih_at s stages.Full = s.settings.tsih

-- The head of the answer to a text: it moves where the request does (section 11.13).
abbrev pub login_text_response : Session → LoginRequest → LoginResponse
login_text_response s r = record (login_response_to s r) {
  transits = r.transits;
  next_stage = r.next_stage;
  tsih = tsih_at s (stage_after s r);
}

-- The session after a text that isn't refused (section 6.3).
abbrev pub after_text : Session → LoginRequest → Pairs → Session
after_text s r pairs = record s {
  stage = stage_after s r;
  phase = phase_at (stage_after s r);
  has_text = true;
  has_operational_text = s.has_operational_text || is_operational s.stage;
  initiator_name = initiator_for s pairs;
  session_type = session_for s pairs;
  seen_keys = seen_with known_keys s.seen_keys pairs;
  held = held_after s pairs;
}

-- A text that isn't refused is answered by these pairs (section 6.3).
abbrev pub text_answered_by : Session → LoginRequest → Pairs → Pairs → Reply
text_answered_by s r pairs answer = record {
  session = stat_sn_advanced (after_text s r pairs);
  answers = good_login_answer s (login_text_response s r) answer;
  rule = None;
}

-- It is answered by the answer to each of its pairs (sections 6.2 and 6.3).
abbrev pub pairs_answered : Session → LoginRequest → Pairs → Reply
pairs_answered s r pairs = text_answered_by s r pairs (answer_pairs s pairs)

-- A text where CHAP is not demanded (section 6.3).
abbrev pub plain_text : Session → LoginRequest → Pairs → Reply
plain_text s r pairs =
    refuse_or (first_reason (text_refusals s pairs)) s r (pairs_answered s r pairs)

-- ---- a whole text, where CHAP is demanded

-- The keys of the exchange (section 12.1.3).
abbrev pub exchange_keys : List (List ℕ)
exchange_keys = codes "AuthMethod" ∷ codes "CHAP_A" ∷ codes "CHAP_C" ∷ codes "CHAP_I"
    ∷ codes "CHAP_N" ∷ codes "CHAP_R" ∷ []

-- What a text says beside the exchange (section 12.1.3).
abbrev pub rest_of : Pairs → Pairs
rest_of pairs = without exchange_keys pairs

-- The response was right (section 12.1.3).
abbrev pub has_passed : Progress → Bool
has_passed progress.Passed = true
has_passed _ = false

-- What the exchange makes of a text. In the operational stage a response is to have been right
-- before (sections 6.3.2 and 12.1.3).
abbrev pub verdict_for : Chap → Session → Pairs → Verdict
verdict_for c s pairs =
    if is_operational s.stage && not (has_passed s.progress) then verdicts.Refused
    else judge c s.progress (initiator_for s (rest_of pairs)) pairs

-- The request without its move to another stage (section 11.12.3).
abbrev pub held_back : LoginRequest → LoginRequest
held_back r = record r { transits = false; next_stage = None }

-- The request as far as it is followed: it moves to no other stage before a response was right
-- (section 6.3.2; a target that needs more texts of this stage answers without the T bit).
abbrev pub allowed_move : Progress → LoginRequest → LoginRequest
allowed_move p r = if has_passed p then r else held_back r

-- The answer to a text, with what is said of the exchange (section 12.1.3).
abbrev pub exchange_pairs : Chap → Said → Session → Pairs → Pairs
exchange_pairs c said s rest = in_order (said_pairs c said ++ answer_pairs s rest)

-- A text that isn't refused is answered, with what is said of the exchange (sections 6.3 and
-- 12.1.3).
abbrev pub exchange_answered : Chap → Said → Session → LoginRequest → Pairs → Reply
exchange_answered c said s r rest = text_answered_by s r rest (exchange_pairs c said s rest)

-- The verdict is followed; an answer that is too long is none (sections 11.13.5 and 12.1.3).
abbrev pub by_verdict : Chap → Verdict → Session → LoginRequest → Pairs → Reply
by_verdict c verdicts.Refused s r rest = refuse s r authentication_failure
by_verdict c (verdicts.Goes p said) s r rest =
    if nat_lt 8192 (length (canonical_text (exchange_pairs c said s rest)))
    then refuse s r out_of_resources
    else exchange_answered c said (record s { progress = p }) (allowed_move p r) rest

-- A text where CHAP is demanded: what it says beside the exchange may be refused first (sections
-- 11.13.5 and 12.1.3; the order is own rule).
abbrev pub exchange_text : Chap → Session → LoginRequest → Pairs → Reply
exchange_text c s r pairs =
    refuse_or (first_reason (text_refusals s (rest_of pairs))) s r
    (by_verdict c (verdict_for c s pairs) s r (rest_of pairs))

-- ---- any whole text

-- A text, by what CHAP demands (section 12.1.3).
abbrev pub text_by : Option Chap → Session → LoginRequest → Pairs → Reply
text_by None s r pairs = plain_text s r pairs
text_by (Some c) s r pairs = exchange_text c s r pairs

-- The gathered bytes are a whole text, or not (section 6.1).
abbrev pub whole_text : Session → LoginRequest → Option Pairs → Reply
whole_text s r None = refuse s r initiator_error
whole_text s r (Some pairs) = text_by s.settings.extras.chap s r pairs

-- ---- a request

-- The text that ends with this segment (section 6.2).
abbrev pub text_ending : List ℕ → Segment → Option Pairs
text_ending gathered (Text pairs) = Some pairs
text_ending gathered (Bytes bytes) = text_in (gathered ++ bytes)

-- More of the text is to come: the answer is empty (section 11.12.2).
abbrev pub gather : Session → LoginRequest → List ℕ → Reply
gather s r bytes = record {
  session = stat_sn_advanced (record s { gathered = s.gathered ++ bytes });
  answers = good_login_answer s (login_response_to s r) [];
  rule = None;
}

-- A text has at most 16,384 bytes, in segments of which all but the last have the C bit (section
-- 11.12.2; the limit is own rule).
abbrev pub segment_taken : Session → LoginRequest → Segment → Reply
segment_taken s r segment =
    if nat_lt longest_text (length s.gathered + length (segment_bytes segment))
    then refuse s r out_of_resources
    else if r.continues then gather s r (segment_bytes segment)
    else whole_text (record s { gathered = [] }) r (text_ending s.gathered segment)

-- The reasons to refuse a request by its head, in their order (sections 11.12 and 11.13.5; the
-- order is own rule). They are its version, a session to join, its stage, a text that goes on
-- together with a transit, and a transit to a stage that cannot follow.
abbrev pub request_refusals : Session → LoginRequest → List (Bool × Status)
request_refusals s r =
    (nat_lt 0 r.version_min, unsupported_version)
    ∷ (not (r.tsih == 0), session_does_not_exist)
    ∷ (not (is_due_stage s r), initiator_error)
    ∷ (r.transits && r.continues, initiator_error)
    ∷ (r.transits && not (is_move (stage_named r.current_stage) (stage_asked r)), initiator_error)
    ∷ []

-- The first request settles the CmdSN that is due and the ISID (sections 11.12.5 and 11.12.8).
abbrev pub numbers_settled : Session → LoginRequest → Session
numbers_settled s r =
    if s.begun then s else record s { begun = true; exp_cmd_sn = r.cmd_sn; isid = r.isid }

-- The session in the request's stage (section 11.12.3).
abbrev pub entered : Session → LoginRequest → Session
entered s r =
    record (numbers_settled s r) { stage = unwrap_or (stage_named r.current_stage) s.stage }

-- A Login Request (section 11.12).
abbrev pub on_login_request : Session → LoginRequest → Segment → Reply
on_login_request s r segment =
    refuse_or (first_reason (request_refusals s r)) (numbers_settled s r) r
    (segment_taken (entered s r) r segment)

-- Before full feature phase any other PDU closes the session (section 6.3; own rule).
abbrev pub login_in : Session → Head → Segment → Reply
login_in s (heads.LoginRequest r) segment = on_login_request s r segment
login_in s _ segment = shut s (Some kind_not_due)

-- A message before full feature phase (section 6.3).
abbrev pub target_login_step : Session → Message → Reply
target_login_step s m = login_in s m.head m.segment

-- The initiator's login (RFC 7143, sections 6.3, 11.12 and 11.13).
use Rattle.std.specs.Prelude.{ℕ, Bool, true, false, not, ◌==◌, ◌&&◌, nat_le, if◌then◌else◌, List, [], ◌∷◌, length, take, drop, Option, Some, None, unwrap_or}
use Rattle.std.specs.Bool.{then_some}
use Rattle.iscsi_text.specs.Text.{Pairs}
use Rattle.iscsi_text.specs.Canonical.{canonical_text}
use Rattle.iscsi_pdu.specs.declared.head.Head.{Head}
use Rattle.iscsi_pdu.specs.declared.head.Head.TheVariants as heads
use Rattle.iscsi_pdu.specs.declared.head.login_request.LoginRequest.{LoginRequest}
use Rattle.iscsi_pdu.specs.declared.head.login_response.LoginResponse.{LoginResponse}
use Rattle.iscsi_pdu.specs.Serial.{moved, next_sn}
use Rattle.iscsi_stream.specs.Segment.{Segment, Text, Bytes}
use Rattle.iscsi_stream.specs.Stream.{Message}
use Rattle.iscsi_login.specs.declared.stage.Stage.{Stage}
use Rattle.iscsi_login.specs.declared.stage.Stage.TheVariants.{Security, Operational, Full}
use Rattle.iscsi_login.specs.declared.phase.Phase.TheVariants as phases
use Rattle.iscsi_login.specs.Answer.{initiator_holds}
use Rattle.iscsi_text.specs.Reading.{in_order}
use Rattle.iscsi_login.specs.Check.{bad_key}
use Rattle.iscsi_login.specs.Stage.{stage_number}
use Rattle.iscsi_login.specs.Offers.{offers_at}
use Rattle.iscsi_initiator.specs.declared.fault.InitiatorFault.TheVariants.{Refused, BadAnswer}
use Rattle.iscsi_initiator.specs.State.{InitiatorSession, serial, sent_exp_stat_sn}
use Rattle.iscsi_initiator.specs.Steps.{InitiatorStep, fails, rule_broken, quiet, step_sending}
use Rattle.iscsi_pdu.specs.Rules.{kind_not_due, login_out_of_turn, status_out_of_order, text_at_fault}

-- ---- what is sent

-- What the present text offers, in the order of the keys (section 6.3).
abbrev pub offered : InitiatorSession → Pairs
offered m = in_order (offers_at m.settings.proposal m.settings.start m.stage)

-- The next stage that a text of this stage requests (section 11.12.3; that none is left out is own
-- rule).
abbrev pub following_stage : Stage → Stage
following_stage Security = Operational
following_stage Operational = Full
following_stage Full = Full

-- The head of a login PDU, which is the last of its text or is not (section 11.12).
abbrev pub login_request_head : InitiatorSession → Bool → LoginRequest
login_request_head m is_last = record {
  transits = is_last;
  continues = not is_last;
  current_stage = stage_number m.stage;
  next_stage = then_some is_last (stage_number (following_stage m.stage));
  version_max = 0;
  version_min = 0;
  isid = m.settings.isid;
  tsih = 0;
  initiator_task_tag = 0;
  connection_id = 0;
  cmd_sn = m.settings.first_cmd_sn;
  exp_stat_sn = sent_exp_stat_sn m;
}

-- A login PDU, the last of its text or not (section 11.12).
abbrev pub login_request_message : InitiatorSession → Bool → Segment → Message
login_request_message m is_last segment =
    record { head = heads.LoginRequest (login_request_head m is_last); segment = segment }

-- The text fits one segment.
abbrev pub fits_segment : InitiatorSession → List ℕ → Bool
fits_segment m text = nat_le (length text) m.settings.login_segment

-- A longer text goes in segments of that length, and the rest waits (sections 6.2 and 11.12.2).
abbrev pub sends_cut : InitiatorSession → List ℕ → Bool → InitiatorStep
sends_cut m text is_last =
    step_sending (record m { unsent_text = drop m.settings.login_segment text })
    (login_request_message m is_last (Bytes (take m.settings.login_segment text)) ∷ [])

-- The present text goes whole, or its first segment does (sections 6.2 and 11.12.2).
abbrev pub sends_text : InitiatorSession → InitiatorStep
sends_text m =
    if fits_segment m (canonical_text (offered m))
    then step_sending (record m { unsent_text = [] })
    (login_request_message m true (Text (offered m)) ∷ [])
    else sends_cut m (canonical_text (offered m)) false

-- The next segment of the present text goes (sections 6.2 and 11.12.2).
abbrev pub sends_more : InitiatorSession → InitiatorStep
sends_more m = sends_cut m m.unsent_text (fits_segment m m.unsent_text)

-- ---- an answer

-- The number is the expected one; the first sets it (section 4.2.2.2).
abbrev pub is_expected : Option ℕ → ℕ → Bool
is_expected None n = true
is_expected (Some expected) n = n == expected

-- The StatSN and the window of an answer are counted (sections 4.2.2.1 and 4.2.2.2).
abbrev pub login_counted : InitiatorSession → LoginResponse → InitiatorSession
login_counted m h = record m {
  exp_stat_sn = Some (next_sn (unwrap_or h.stat_sn 0));
  window = moved m.window (serial h.exp_cmd_sn) (serial h.max_cmd_sn);
}

-- The stage moves, and the next text is sent, if there is one (section 6.3).
abbrev pub begins_stage : Stage → InitiatorSession → InitiatorStep
begins_stage Full m = quiet (record m { stage = Full; phase = phases.Full })
begins_stage stage m = sends_text (record m { stage = stage })

-- An answer is judged; a good one settles what is held (section 6.2).
abbrev pub answer_judged : Option (List ℕ) → InitiatorSession → LoginResponse → Pairs
    → InitiatorStep
answer_judged (Some key) m h answer = fails m (BadAnswer key)
answer_judged None m h answer =
    begins_stage (following_stage m.stage)
    (record (login_counted m h) { held = initiator_holds None answer m.held })

-- The text that answers the present one; bytes that are no text break a rule (section 6.1).
abbrev pub login_text_answered : InitiatorSession → LoginResponse → Segment → InitiatorStep
login_text_answered m h (Bytes bytes) = rule_broken m text_at_fault
login_text_answered m h (Text answer) = answer_judged (bad_key (offered m) answer) m h answer

-- There is nothing in the segment.
abbrev pub is_empty_segment : Segment → Bool
is_empty_segment (Text pairs) = length pairs == 0
is_empty_segment (Bytes bytes) = length bytes == 0

-- The flags and stages of an answer in the midst of a text (sections 6.2 and 11.13).
abbrev pub is_mid_text_answer : InitiatorSession → LoginResponse → Segment → Bool
is_mid_text_answer m h segment =
    not h.transits && not h.continues && (h.current_stage == stage_number m.stage)
    && is_empty_segment segment

-- The flags and stages of an answer to the last segment of a text (sections 6.3 and 11.13).
abbrev pub moves_on : InitiatorSession → LoginResponse → Bool
moves_on m h =
    h.transits && not h.continues && (h.current_stage == stage_number m.stage)
    && (unwrap_or h.next_stage 0 == stage_number (following_stage m.stage))

-- An answer to a segment: with a part of the text left, it was not the last (section 11.13).
abbrev pub login_answer_in_turn : List ℕ → InitiatorSession → LoginResponse → Segment
    → InitiatorStep
login_answer_in_turn [] m h segment =
    if moves_on m h then login_text_answered m h segment else rule_broken m login_out_of_turn
login_answer_in_turn (byte ∷ bytes) m h segment =
    if is_mid_text_answer m h segment then sends_more (login_counted m h)
    else rule_broken m login_out_of_turn

-- An answer: a refusal, a wrong StatSN, or one in turn (sections 11.13.5 and 4.2.2.2).
abbrev pub login_answered : InitiatorSession → LoginResponse → Segment → InitiatorStep
login_answered m h segment =
    if not (h.status_class == 0) then fails m (Refused h.status_class h.status_detail)
    else (if not (is_expected m.exp_stat_sn (unwrap_or h.stat_sn 0))
    then rule_broken m status_out_of_order
    else login_answer_in_turn m.unsent_text m h segment)

-- A message in the login; another kind or tag is not due (section 6.3).
abbrev pub initiator_login_step : InitiatorSession → Head → Segment → InitiatorStep
initiator_login_step m (heads.LoginResponse h) segment =
    if h.initiator_task_tag == 0 then login_answered m h segment else rule_broken m kind_not_due
initiator_login_step m _ segment = rule_broken m kind_not_due

-- The login is started; a second start breaks a rule (section 6.3; own rule).
abbrev pub start_step : InitiatorSession → InitiatorStep
start_step m =
    if m.started then rule_broken m kind_not_due else sends_text (record m { started = true })

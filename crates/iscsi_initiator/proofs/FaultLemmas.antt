-- Which faults a message leads to: the target's alone, and each closes the session.
use Rattle.std.proofs.Common.{◌≡◌, ℕ, List, [], ◌∷◌, length, Bool, true, false, Option, Some, None, ap, subst}
use Rattle.std.specs.Prelude.{not, ◌&&◌, ◌==◌, nat_lt, if◌then◌else◌}
use Rattle.std.proofs.lemmas.Option.{none-some}
use Rattle.std.specs.Option.{option_map_or}
use Rattle.iscsi_text.specs.Text.{Pairs}
use Rattle.iscsi_text.specs.Canonical.{canonical_text}
use Rattle.iscsi_pdu.specs.Fields.{is_tag}
use Rattle.iscsi_pdu.specs.declared.head.Head.{Head}
use Rattle.iscsi_pdu.specs.declared.head.Head.TheVariants as heads
use Rattle.iscsi_pdu.specs.declared.head.login_response.LoginResponse.{LoginResponse}
use Rattle.iscsi_pdu.specs.declared.head.scsi_response.ScsiResponse.{ScsiResponse}
use Rattle.iscsi_stream.specs.Segment.{Segment, Text, Bytes, segment_bytes}
use Rattle.iscsi_stream.specs.Stream.{Message}
use Rattle.iscsi_login.specs.declared.stage.Stage.{Stage}
use Rattle.iscsi_login.specs.declared.stage.Stage.TheVariants as stages
use Rattle.iscsi_login.specs.declared.phase.Phase.{Phase}
use Rattle.iscsi_login.specs.declared.phase.Phase.TheVariants as phases
use Rattle.iscsi_login.specs.Check.{bad_key}
use Rattle.iscsi_initiator.specs.declared.fault.InitiatorFault.{InitiatorFault}
use Rattle.iscsi_initiator.specs.declared.fault.InitiatorFault.TheVariants as faults
use Rattle.iscsi_initiator.specs.State.{InitiatorSession}
use Rattle.iscsi_initiator.specs.Steps.{InitiatorStep, fails, quiet, step_sending}
use Rattle.iscsi_initiator.specs.Login.{offered, sends_text, fits_segment, following_stage, begins_stage, answer_judged, login_text_answered, moves_on, is_mid_text_answer, login_answer_in_turn}
use Rattle.iscsi_initiator.specs.Login.{login_answered, initiator_login_step, is_expected}
use Rattle.iscsi_initiator.specs.declared.target_pdu.Counters.{Counters}
use Rattle.iscsi_initiator.specs.declared.target_pdu.TargetPdu.{TargetPdu}
use Rattle.iscsi_initiator.specs.TargetPdu.{target_pdu}
use Rattle.iscsi_initiator.specs.Full.{DuePdu, UnsolicitedNopIn, Pong, Data, R2t, Response, TextAnswer, LogoutAnswer, Async, RejectPdu, due, takes, on_due, pdu_step}
use Rattle.iscsi_initiator.specs.Full.{update_counters, is_in_turn, fits_reading, fits_writing, outcome_with, sense_of}
use Rattle.iscsi_initiator.specs.Machine.{initiator_step, step_in}

-- a fault of the target
abbrev pub IsTargets : InitiatorFault → Type 0
IsTargets (faults.Protocol rule) = Unit {0}
IsTargets (faults.Refused class detail) = Unit {0}
IsTargets (faults.BadAnswer key) = Unit {0}
IsTargets _ = ⊥

pub record Shuts (s : InitiatorStep) : Type 0 where
  pub shuts : (fault : InitiatorFault) → s.fault ≡ Some fault → IsTargets fault

quietly : (m : InitiatorSession) → Shuts (quiet m)
quietly m = record { shuts = λ fault e. absurd (none-some fault e) }

sending : (m : InitiatorSession) (messages : List Message) → Shuts (step_sending m messages)
sending m messages = record { shuts = λ fault e. absurd (none-some fault e) }

failing : (m : InitiatorSession) (f : InitiatorFault) → IsTargets f → Shuts (fails m f)
failing m f is = record { shuts = λ fault e. subst IsTargets (ap (λ (o : Option InitiatorFault). option_map_or (λ (g : InitiatorFault). g) o f) e) is }

either : (b : Bool) (x y : InitiatorStep) → Shuts x → Shuts y → Shuts (if b then x else y)
either true x y p q = p
either false x y p q = q

-- ---- login

text_sent : (m : InitiatorSession) → Shuts (sends_text m)
text_sent m = either (fits_segment m (canonical_text (offered m))) _ _ (sending _ _) (sending _ _)

entering : (stage : Stage) (m : InitiatorSession) → Shuts (begins_stage stage m)
entering stages.Security m = text_sent (record m { stage = stages.Security })
entering stages.Operational m = text_sent (record m { stage = stages.Operational })
entering stages.Full m = quietly _

judging : (key : Option (List ℕ)) (m : InitiatorSession) (h : LoginResponse) (answer : Pairs) → Shuts (answer_judged key m h answer)
judging (Some key) m h answer = failing m (faults.BadAnswer key) tt
judging None m h answer = entering (following_stage m.stage) _

answering : (m : InitiatorSession) (h : LoginResponse) (segment : Segment) → Shuts (login_text_answered m h segment)
answering m h (Bytes bytes) = failing m (faults.Protocol 4) tt
answering m h (Text answer) = judging (bad_key (offered m) answer) m h answer

turning : (left : List ℕ) (m : InitiatorSession) (h : LoginResponse) (segment : Segment) → Shuts (login_answer_in_turn left m h segment)
turning [] m h segment = either (moves_on m h) _ _ (answering m h segment) (failing m (faults.Protocol 7) tt)
turning (byte ∷ bytes) m h segment = either (is_mid_text_answer m h segment) _ _ (sending _ _) (failing m (faults.Protocol 7) tt)

answered_so : (m : InitiatorSession) (h : LoginResponse) (segment : Segment) → Shuts (login_answered m h segment)
answered_so m h segment =
    either (not (h.status_class == 0)) _ _ (failing m (faults.Refused h.status_class h.status_detail) tt)
    (either (not (is_expected m.exp_stat_sn (option_map_or (λ (n : ℕ). n) h.stat_sn 0))) _ _ (failing m (faults.Protocol 6) tt)
    (turning m.unsent_text m h segment))

logging : (m : InitiatorSession) (head : Head) (segment : Segment) → Shuts (initiator_login_step m head segment)
logging m (heads.LoginResponse h) segment = either (h.initiator_task_tag == 0) _ _ (answered_so m h segment) (failing m (faults.Protocol 1) tt)
logging m _ segment = failing m (faults.Protocol 1) tt

-- ---- full feature phase

completing : (sense : Option (List ℕ)) (m : InitiatorSession) (received : List ℕ) (h : ScsiResponse) → Shuts (outcome_with sense m received h)
completing None m received h = failing m (faults.Protocol 3) tt
completing (Some sense) m received h = quietly _

doing : (m : InitiatorSession) (d : DuePdu) (bytes : List ℕ) → Shuts (on_due m d bytes)
doing m (UnsolicitedNopIn h) bytes = either (is_tag h.target_transfer_tag) _ _ (sending _ _) (quietly _)
doing m Pong bytes = quietly _
doing m (Data r h) bytes = either (not (fits_reading r h bytes)) _ _ (failing m (faults.Protocol 3) tt) (either h.has_status _ _ (quietly _) (quietly _))
doing m (R2t w h) bytes = either (fits_writing m w h) _ _ (sending _ _) (failing m (faults.Protocol 3) tt)
doing m (Response received h) bytes = completing (sense_of bytes) m received h
doing m (TextAnswer h) bytes = either (h.is_final && not h.continues) _ _ (quietly _) (failing m (faults.Protocol 4) tt)
doing m LogoutAnswer bytes = quietly _
doing m Async bytes = quietly _
doing m RejectPdu bytes = failing m (faults.Protocol 8) tt

taking : (d : Option DuePdu) (counters : Counters) (m : InitiatorSession) (bytes : List ℕ) → Shuts (takes d counters m bytes)
taking None counters m bytes = failing m (faults.Protocol 1) tt
taking (Some d) counters m bytes =
    either (nat_lt m.held.initiator_max_recv (length bytes)) _ _ (failing m (faults.Protocol 2) tt)
    (either (not (is_in_turn m.exp_stat_sn counters.stat_sn)) _ _ (failing m (faults.Protocol 6) tt) (doing (update_counters m counters) d bytes))

receiving : (pdu : Option TargetPdu) (m : InitiatorSession) (bytes : List ℕ) → Shuts (pdu_step pdu m bytes)
receiving None m bytes = failing m (faults.Protocol 1) tt
receiving (Some pdu) m bytes = taking (due m pdu.content) pdu.counters m bytes

stepping : (phase : Phase) (m : InitiatorSession) (message : Message) → Shuts (step_in phase m message)
stepping phases.Login m message = either m.started _ _ (logging m message.head message.segment) (failing m (faults.Protocol 1) tt)
stepping phases.Full m message = receiving (target_pdu message.head) m (segment_bytes message.segment)
stepping phases.Closed m message = quietly m

-- a message leads to faults of the target alone
pub step_shuts : (m : InitiatorSession) (message : Message) → Shuts (initiator_step m message)
unfolding initiator_step
step_shuts m message = stepping m.phase m message

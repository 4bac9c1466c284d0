-- A message in each phase.
use Rattle.std.proofs.Common.{◌≡◌, ℕ, List, ◌++◌, Bool, false, Option, Some, None, OnOk, OnErr, refl, sym, ap, ◌∙◌, append-nil}
use Rattle.std.specs.Prelude.{not, ◌&&◌, Result, Ok, Err, IfErr}
use Rattle.iscsi_pdu.specs.declared.head.Head.{Head}
use Rattle.iscsi_pdu.specs.declared.head.Head.TheVariants as heads
use Rattle.iscsi_stream.specs.Segment.{Segment, is_last_login_pdu, segment_of, segment_bytes}
use Rattle.iscsi_stream.specs.Stream.{Message}
use Rattle.iscsi_stream.proofs.SegmentLemmas.{segment_plain}
use Rattle.iscsi_initiator.specs.State.{InitiatorSession}
use Rattle.iscsi_initiator.specs.declared.fault.InitiatorFault.{InitiatorFault}
use Rattle.iscsi_initiator.specs.declared.fault.InitiatorFault.TheVariants as faults
use Rattle.iscsi_initiator.specs.declared.request.Request.{Request}
use Rattle.iscsi_initiator.specs.declared.request.Request.TheVariants as requests
use Rattle.iscsi_initiator.specs.declared.request.Refused.{Refused}
use Rattle.iscsi_initiator.specs.declared.request.SubmitFault.{SubmitFault}
use Rattle.iscsi_login.specs.declared.phase.Phase.{Phase}
use Rattle.iscsi_login.specs.declared.phase.Phase.TheVariants as phases
use Rattle.iscsi_stream.specs.Canonical.{canon}
use Rattle.iscsi_stream.specs.Framing.{Framing}
use Rattle.iscsi_initiator.specs.Submitted.{SubmitStep, submit_refusal, accepted, or_accepted, submitted}
use Rattle.iscsi_initiator.specs.Calls.{InitiatorConnection, InitiatorSubmitPost, refused_for}
use Rattle.iscsi_initiator.specs.inner.Inside.{StepTaken}
use Rattle.iscsi_initiator.specs.Steps.{rule_broken, quiet, closed_session}
use Rattle.iscsi_initiator.specs.Full.{initiator_full_step}
use Rattle.iscsi_initiator.specs.Machine.{initiator_step, step_in}
use Rattle.std.proofs.Math.Bool.{and-false}
use Rattle.iscsi_pdu.specs.declared.head.scsi_response.ScsiResponse.{ScsiResponse}
use Rattle.iscsi_initiator.specs.declared.target_pdu.Answer.{Answer}
use Rattle.iscsi_initiator.specs.declared.target_pdu.Answer.TheVariants as answers

-- a command's response, for crates that can't name its kind
abbrev pub response_answer : ScsiResponse → Answer
response_answer h = answers.Response h

pub step_is : (m : InitiatorSession) (message : Message) → initiator_step m message ≡ step_in m.phase m message
unfolding initiator_step
step_is m message = refl

by_plain : (continued : Bool) (m : InitiatorSession) (head : Head) (bytes : List ℕ) → is_last_login_pdu head ≡ false →
    initiator_full_step m head (segment_bytes (segment_of continued head bytes)) ≡ initiator_full_step m head bytes
unfolding segment_bytes
by_plain continued m head bytes e =
    ap (λ (s : Segment). initiator_full_step m head (segment_bytes s)) (sym (segment_plain continued head bytes (ap (λ (b : Bool). not continued && b) e
    ∙ and-false (not continued))))

-- the text of a login PDU plays no part
pub full_bytes : (continued : Bool) (m : InitiatorSession) (head : Head) (bytes : List ℕ)
    → initiator_full_step m head (segment_bytes (segment_of continued head bytes))
    ≡ initiator_full_step m head bytes
full_bytes continued m (heads.LoginRequest h) bytes = refl
full_bytes continued m (heads.LoginResponse h) bytes = refl
full_bytes continued m head bytes = by_plain continued m head bytes refl

step_closed : (phase : Phase) (m : InitiatorSession) (message : Message) → phase ≡ phases.Closed → step_in phase m message ≡ quiet m
step_closed phase m message e = rw e refl

step_early : (phase : Phase) (started : Bool) (m : InitiatorSession) (message : Message) → phase ≡ phases.Login → m.started ≡ false → step_in phase m message
    ≡ rule_broken m 1
step_early phase started m message e none = rw e (rw none refl)

-- a closed session drops what comes
pub drops : (m : InitiatorSession) (message : Message) (out : List ℕ) → m.phase ≡ phases.Closed → StepTaken (initiator_step m message) None m out out
drops m message out e = rw (step_is m message ∙ step_closed m.phase m message e) record { machine = refl; output = sym (append-nil out); fault_is = refl }

-- a message before the start breaks a rule
pub comes_early : (m new : InitiatorSession) (message : Message) (fault : Option InitiatorFault) (out : List ℕ) → m.phase ≡ phases.Login → m.started ≡ false
    → fault
    ≡ Some (faults.Protocol 1) → new ≡ closed_session m
    → StepTaken (initiator_step m message) fault new out out
comes_early m new message fault out e none is shut = rw (step_is m message ∙ step_early m.phase m.started m message e none) record {
  machine = shut;
  output = sym (append-nil out);
  fault_is = is;
}

-- ---- requests

same : (old new : InitiatorConnection) (m : InitiatorSession) → new.machine ≡ m → new.framing ≡ old.framing → new ≡ record old { machine = m }
same old new m e f = ap (λ (k : InitiatorSession). record new { machine = k }) e ∙ ap (λ (v : Framing). record old { machine = m; framing = v }) f

accepted_all : (m : InitiatorSession) (request : Request) → (accepted m request).refusal ≡ None
accepted_all m (requests.In lun cdb expected) = refl
accepted_all m (requests.Out lun cdb bytes) = refl
accepted_all m (requests.Ping bytes) = refl
accepted_all m (requests.Text bytes) = refl
accepted_all m requests.Logout = refl

refusal_or : (fault : Option SubmitFault) (m : InitiatorSession) (request : Request) → (or_accepted fault m request).refusal ≡ fault
refusal_or None m request = accepted_all m request
refusal_or (Some fault) m request = refl

refusal_is : (m : InitiatorSession) (request : Request) → (submitted m request).refusal ≡ submit_refusal m request
unfolding submitted
refusal_is m request = refusal_or (submit_refusal m request) m request

submitted_is : (m : InitiatorSession) (request : Request) → submit_refusal m request ≡ None → submitted m request ≡ accepted m request
unfolding submitted
submitted_is m request e = ap (λ (f : Option SubmitFault). or_accepted f m request) e

pub submits : (result : Result (Unit {0}) Refused) (old new : InitiatorConnection) (request : Request) (before after : List ℕ)
    → OnOk result (submit_refusal old.machine request ≡ None) → OnOk result (new.machine ≡ (accepted old.machine request).machine) →
    OnOk result (after ≡ before ++ canon (accepted old.machine request).output)
    → IfErr result (λ refused. (refused.request ≡ request) × (submit_refusal old.machine request ≡ refused_for refused.fault)) →
    OnErr result (new.machine ≡ old.machine) → OnErr result (after ≡ before)
    → new.framing ≡ old.framing → InitiatorSubmitPost result old request new before after
submits (Ok _) old new request before after none machine output refused kept unwritten framing = record {
  none = refusal_is old.machine request ∙ none;
  connection = same old new (submitted old.machine request).machine (machine ∙ ap (λ (s : SubmitStep). s.machine) (sym (submitted_is old.machine request none)))
      framing;
  output = output ∙ ap (λ (s : SubmitStep). before ++ canon s.output) (sym (submitted_is old.machine request none));
}
submits (Err r) old new request before after none machine output refused kept unwritten framing = record {
  same = refused.0;
  cause = refusal_is old.machine request ∙ refused.1;
  connection = same old new old.machine kept framing;
  output = unwritten;
}

-- Worked logins and commands, computed.
use Rattle.std.proofs.Common.{◌≡◌, refl, ℕ, Bool, true, false, [], ◌∷◌, ◌++◌, length, map, Option, Some, None, codes}
use Rattle.std.specs.Prelude.{replicate}
use Rattle.std.specs.Fmt.{digits}
use Rattle.iscsi_text.specs.Value as values
use Rattle.iscsi_text.specs.Text.{Pairs}
use Rattle.iscsi_text.specs.Canonical.{canonical_text}
use Rattle.iscsi_pdu.specs.declared.head.Head.TheVariants as heads
use Rattle.iscsi_stream.specs.Segment.{Segment, Bytes, segment_bytes}
use Rattle.iscsi_stream.specs.Segment as segments
use Rattle.iscsi_stream.specs.Stream.{Message}
use Rattle.iscsi_login.specs.declared.stage.Stage.{Stage}
use Rattle.iscsi_login.specs.declared.stage.Stage.TheVariants.{Security, Operational, Full}
use Rattle.iscsi_text.specs.declared.negotiated.Session.TheVariants.{Normal}
use Rattle.iscsi_login.specs.declared.offers.Auth.TheVariants as auths
use Rattle.iscsi_login.specs.declared.phase.Phase.TheVariants as phases
use Rattle.iscsi_text.specs.declared.negotiated.Answered.TheVariants.{Number, Flag, NoneItem}
use Rattle.iscsi_login.specs.Negotiation.{standard_preferences}
use Rattle.iscsi_login.specs.Offers.{Proposal}
use Rattle.iscsi_initiator.specs.declared.fault.InitiatorFault.{InitiatorFault}
use Rattle.iscsi_initiator.specs.declared.fault.InitiatorFault.TheVariants.{Protocol, BadAnswer}
use Rattle.iscsi_initiator.specs.declared.request.Request.TheVariants as requests
use Rattle.iscsi_initiator.specs.declared.request.SubmitFault.TheVariants as refusals
use Rattle.iscsi_initiator.specs.State.{InitiatorSettings, InitiatorSession, new_session}
use Rattle.iscsi_initiator.specs.Steps.{InitiatorStep}
use Rattle.iscsi_initiator.specs.Login.{start_step}
use Rattle.iscsi_initiator.specs.Machine.{initiator_step}
use Rattle.iscsi_initiator.specs.Submitted.{submitted}

abbrev pub loop_proposal : Proposal
loop_proposal = record {
  initiator = codes "iqn.2026-01.example:host";
  target = codes "iqn.2026-01.example:disk";
  session = Normal;
  auth = auths.None;
  prefs = standard_preferences;
}

abbrev pub loop_settings : Stage → ℕ → InitiatorSettings
loop_settings start segment = record {
  proposal = loop_proposal;
  start = start;
  isid = 0x40 ∷ 0 ∷ 0 ∷ 1 ∷ 0 ∷ 0 ∷ [];
  first_cmd_sn = 1;
  login_segment = segment;
}

-- the first text of a login that starts at the security stage
abbrev pub first_pairs : Pairs
first_pairs = (codes "AuthMethod", values.Items (codes "None")) ∷ (codes "InitiatorName", values.Plain (codes "iqn.2026-01.example:host"))
    ∷ (codes "SessionType", values.Plain (codes "Normal")) ∷ (codes "TargetName", values.Plain (codes "iqn.2026-01.example:disk")) ∷ []

abbrev pub first_answer : Pairs
first_answer = (codes "AuthMethod", values.Items (codes "None")) ∷ (codes "TargetPortalGroupTag", values.Number 1) ∷ []

abbrev pub second_pairs : Pairs
second_pairs = (codes "DataDigest", values.Items (codes "None")) ∷ (codes "DataPDUInOrder", values.Boolean true) ∷ (
  codes "DataSequenceInOrder",
  values.Boolean true,
)
    ∷ (codes "DefaultTime2Retain", values.Number 20) ∷ (codes "DefaultTime2Wait", values.Number 2) ∷ (codes "ErrorRecoveryLevel", values.Number 0)
    ∷ (codes "FirstBurstLength", values.Number 65536) ∷ (codes "HeaderDigest", values.Items (codes "None")) ∷ (codes "ImmediateData", values.Boolean true)
    ∷ (codes "InitialR2T", values.Boolean false) ∷ (codes "MaxBurstLength", values.Number 262144) ∷ (codes "MaxConnections", values.Number 1)
    ∷ (codes "MaxOutstandingR2T", values.Number 1) ∷ (codes "MaxRecvDataSegmentLength", values.Number 8192) ∷ []

abbrev pub login_answer : Bool → ℕ → Option ℕ → ℕ → ℕ → ℕ → Segment → Message
login_answer transits current_stage next_stage tsih stat_sn max segment = record {
  head = heads.LoginResponse (record {
    transits = transits;
    continues = false;
    current_stage = current_stage;
    next_stage = next_stage;
    version_max = 0;
    version_active = 0;
    isid = 0x40 ∷ 0 ∷ 0 ∷ 1 ∷ 0 ∷ 0 ∷ [];
    tsih = tsih;
    initiator_task_tag = 0;
    stat_sn = Some stat_sn;
    exp_cmd_sn = 1;
    max_cmd_sn = max;
    status_class = 0;
    status_detail = 0;
  });
  segment = segment;
}

abbrev pub answer1 : Message
answer1 = login_answer true 0 (Some 1) 0 1 1 (segments.Text first_answer)

abbrev pub answer2 : Pairs → Message
answer2 pairs = login_answer true 1 (Some 3) 1 2 1 (segments.Text pairs)

-- a login of the standard preferences, from the security stage
abbrev pub started : InitiatorStep
started = start_step (new_session (loop_settings Security 8192))

start_writes : started.output ≡ record {
  head = heads.LoginRequest (record {
    transits = true;
    continues = false;
    current_stage = 0;
    next_stage = Some 1;
    version_max = 0;
    version_min = 0;
    isid = 0x40 ∷ 0 ∷ 0 ∷ 1 ∷ 0 ∷ 0 ∷ [];
    tsih = 0;
    initiator_task_tag = 0;
    connection_id = 0;
    cmd_sn = 1;
    exp_stat_sn = 0;
  });
  segment = segments.Text first_pairs;
} ∷ []
start_writes = refl

first_length : length (canonical_text first_pairs) ≡ 0x6e
first_length = refl

abbrev pub secured : InitiatorStep
secured = initiator_step started.machine answer1

second_writes : secured.output ≡ record {
  head = heads.LoginRequest (record {
    transits = true;
    continues = false;
    current_stage = 1;
    next_stage = Some 3;
    version_max = 0;
    version_min = 0;
    isid = 0x40 ∷ 0 ∷ 0 ∷ 1 ∷ 0 ∷ 0 ∷ [];
    tsih = 0;
    initiator_task_tag = 0;
    connection_id = 0;
    cmd_sn = 1;
    exp_stat_sn = 2;
  });
  segment = segments.Text second_pairs;
} ∷ []
unfolding initiator_step digits segment_bytes
second_writes = refl

second_length : length (canonical_text second_pairs) ≡ 283
unfolding digits segment_bytes
second_length = refl

abbrev pub logged_in : InitiatorStep
logged_in = initiator_step secured.machine (answer2 second_pairs)

is_logged_in : (logged_in.output ≡ []) × (logged_in.fault ≡ None) × (logged_in.machine.phase ≡ phases.Full) × (logged_in.machine.stage ≡ Full)
    × (logged_in.machine.exp_stat_sn ≡ Some 3)
unfolding initiator_step digits segment_bytes
is_logged_in = (refl, refl, refl, refl, refl)

holds : logged_in.machine.held ≡ record {
  values = Number 1 ∷ Flag false ∷ Flag true ∷ Number 262144 ∷ Number 65536 ∷ Number 2 ∷ Number 20 ∷ Number 1 ∷ Flag true ∷ Flag true ∷ Number 0 ∷ NoneItem ∷
      NoneItem ∷ NoneItem ∷ [];
  initiator_max_recv = 8192;
  target_max_recv = 8192;
}
unfolding initiator_step digits segment_bytes
holds = refl

-- answers that may not be given
abbrev fault_at : Pairs → Option InitiatorFault
fault_at pairs = (initiator_step secured.machine (answer2 pairs)).fault

greater_answer : fault_at ((codes "MaxBurstLength", values.Number 300000) ∷ []) ≡ Some (BadAnswer (codes "MaxBurstLength"))
unfolding initiator_step digits segment_bytes
greater_answer = refl

missing_answer : fault_at ((codes "MaxBurstLength", values.Number 1024) ∷ []) ≡ Some (BadAnswer (codes "DataDigest"))
unfolding initiator_step digits segment_bytes
missing_answer = refl

-- what was answered before is no offer of this text
answered_before : fault_at ((codes "AuthMethod", values.Items (codes "None")) ∷ second_pairs) ≡ Some (BadAnswer (codes "AuthMethod"))
unfolding initiator_step digits segment_bytes
answered_before = refl

-- the second answer names stage 0
wrong_stage : (initiator_step secured.machine (login_answer true 0 (Some 3) 1 2 1 (segments.Text second_pairs))).fault ≡ Some (Protocol 7)
unfolding initiator_step digits segment_bytes
wrong_stage = refl

abbrev reject : ℕ → Message
reject stat_sn = record { head = heads.Reject (record { reason = 4; stat_sn = stat_sn; exp_cmd_sn = 1; max_cmd_sn = 1 }); segment = Bytes [] }

rejected : ((initiator_step logged_in.machine (reject 3)).fault ≡ Some (Protocol 8)) × ((initiator_step logged_in.machine (reject 4)).fault ≡ Some (Protocol 6))
unfolding initiator_step digits segment_bytes
rejected = (refl, refl)

closed_then : (submitted (initiator_step logged_in.machine (reject 3)).machine requests.Logout).refusal ≡ Some refusals.Closed
unfolding initiator_step submitted digits segment_bytes
closed_then = refl

abbrev shut : InitiatorSession
shut = (initiator_step (initiator_step started.machine (login_answer true 0 (Some 1) 0 1 0 (segments.Text first_answer))).machine
    (login_answer true 1 (Some 3) 1 2 0 (segments.Text second_pairs))).machine

is_shut : (submitted shut requests.Logout).refusal ≡ Some refusals.Shut
unfolding initiator_step submitted digits segment_bytes
is_shut = refl

-- requests before the login, while one is open, and too long
not_ready : (submitted started.machine requests.Logout).refusal ≡ Some refusals.NotReady
unfolding initiator_step submitted digits segment_bytes
not_ready = refl

busy : (submitted (submitted logged_in.machine (requests.Ping (1 ∷ []))).machine requests.Logout).refusal ≡ Some refusals.Busy
unfolding initiator_step submitted digits segment_bytes
busy = refl

too_long : (submitted logged_in.machine (requests.Ping (replicate 8193 0))).refusal ≡ Some refusals.TooLong
unfolding initiator_step submitted digits segment_bytes
too_long = refl

-- a login of one text, from the operational stage
abbrev single : InitiatorStep
single = start_step (new_session (loop_settings Operational 8192))

abbrev text_length : Message → ℕ
text_length m = length (segment_bytes m.segment)

single_length : map text_length single.output ≡ 377 ∷ []
unfolding digits segment_bytes
single_length = refl

abbrev single_answer : Message
single_answer = login_answer true 1 (Some 3) 1 1 1 (segments.Text (second_pairs ++ (codes "TargetPortalGroupTag", values.Number 1) ∷ []))

abbrev single_login : InitiatorStep
single_login = initiator_step single.machine single_answer

single_holds : ((single_login.machine.held ≡ logged_in.machine.held)) × (single_login.machine.phase ≡ phases.Full) × (text_length single_answer ≡ 0x132)
unfolding initiator_step digits segment_bytes
single_holds = (refl, refl, refl)

-- a login in segments of at most 64 bytes
abbrev goes_on : ℕ → ℕ → Message
goes_on current_stage stat_sn = login_answer false current_stage None 0 stat_sn 1 (segments.Text [])

abbrev c1 : InitiatorStep
c1 = start_step (new_session (loop_settings Security 64))

abbrev c2 : InitiatorStep
c2 = initiator_step c1.machine (goes_on 0 1)

abbrev c3 : InitiatorStep
c3 = initiator_step c2.machine (login_answer true 0 (Some 1) 0 2 1 (segments.Text first_answer))

abbrev c4 : InitiatorStep
c4 = initiator_step c3.machine (goes_on 1 3)

abbrev c5 : InitiatorStep
c5 = initiator_step c4.machine (goes_on 1 4)

abbrev c6 : InitiatorStep
c6 = initiator_step c5.machine (goes_on 1 5)

abbrev c7 : InitiatorStep
c7 = initiator_step c6.machine (goes_on 1 6)

abbrev c8 : InitiatorStep
c8 = initiator_step c7.machine (login_answer true 1 (Some 3) 1 7 1 (segments.Text second_pairs))

in_segments : map text_length (c1.output ++ c2.output ++ c3.output ++ c4.output ++ c5.output ++ c6.output ++ c7.output) ≡ 64 ∷ 46 ∷ 64 ∷ 64 ∷ 64 ∷ 64 ∷ 27 ∷ []
unfolding initiator_step digits segment_bytes
in_segments = refl

ends_the_same : (c8.machine.held ≡ logged_in.machine.held) × (c8.fault ≡ None) × (c8.machine.phase ≡ phases.Full)
unfolding initiator_step digits segment_bytes
ends_the_same = (refl, refl, refl)

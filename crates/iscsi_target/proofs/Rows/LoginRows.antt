-- Worked logins.
use Rattle.std.specs.Prelude.{◌≡◌, true, false, [], ◌∷◌, ◌++◌, take, drop, replicate, Some, None, codes, refl, List, ℕ}
use Rattle.scsi_cdb.specs.declared.cdb.Cdb.TheVariants as cdbs
use Rattle.iscsi_pdu.specs.declared.head.Head.TheVariants as heads
use Rattle.iscsi_stream.specs.Segment.{Bytes}
use Rattle.iscsi_stream.specs.Stream.{Message}
use Rattle.iscsi_pdu.specs.declared.head.login_request.LoginRequest.{LoginRequest}
use Rattle.iscsi_stream.specs.Canonical.{canon}
use Rattle.iscsi_login.specs.declared.phase.Phase.TheVariants as phases
use Rattle.iscsi_target.specs.Machine.{answers}
use Rattle.iscsi_target.specs.Sessions.{LoginIsAnswered, LoginLeads}
use Rattle.iscsi_target.specs.Worked.{hex, entry, login, first, second, segment, says, worked_command, orders, initiator_name, target_name, first_text, second_text}
use Rattle.iscsi_target.specs.Worked.{fresh, blank, logged_in, WorkedRow}
use Rattle.iscsi_target.specs.inner.Worked.{told_opening}
use Rattle.iscsi_target.proofs.Rows.Computing.{answers_on_literals}

-- The first request of a login is answered, with the tag of the portal group.
pub first_request_is_answered : WorkedRow fresh
    (says first first_text
    ∷ [])
    ((hex (codes "43810000 0000006e 40000001 00000000 00000000 00000000 00000001 00000000 00000000 00000000 00000000 00000000"))
    ++ first_text
    ++ 0 ∷ 0 ∷ [])
    ((hex (codes "23810000 00000027 40000001 00000000 00000000 00000000 00000001 00000001 00000008 00000000 00000000 00000000"))
    ++ entry (codes "AuthMethod=None") ++ entry (codes "TargetPortalGroupTag=1") ++ 0 ∷ [])
    None
unfolding answers_on_literals
first_request_is_answered = (refl, refl, refl)

-- The second request ends the login, with the session's number and what the target takes.
pub login_in_two_requests : LoginIsAnswered
unfolding answers_on_literals
login_in_two_requests = (refl, refl, refl)

-- A first text has the initiator's name.
pub no_initiator_name : WorkedRow fresh
    (says first (entry (codes "AuthMethod=None") ++ entry (codes "SessionType=Normal") ++ target_name)
    ∷ [])
    ((hex (codes "43810000 00000047 40000001 00000000 00000000 00000000 00000001 00000000 00000000 00000000 00000000 00000000"))
    ++ (entry (codes "AuthMethod=None") ++ entry (codes "SessionType=Normal") ++ target_name)
    ++ 0 ∷ [])
    (hex (codes "23000000 00000000 40000001 00000000 00000000 00000000 00000000 00000001 00000008 02070000 00000000 00000000"))
    None
unfolding answers_on_literals
no_initiator_name = (refl, refl, refl)

-- It names this target.
pub another_target : WorkedRow fresh
    (says first (entry (codes "AuthMethod=None") ++ initiator_name ++ entry (codes "SessionType=Normal") ++ entry (codes "TargetName=x"))
    ∷ [])
    ((hex (codes "43810000 00000057 40000001 00000000 00000000 00000000 00000001 00000000 00000000 00000000 00000000 00000000"))
    ++ (entry (codes "AuthMethod=None") ++ initiator_name ++ entry (codes "SessionType=Normal") ++ entry (codes "TargetName=x"))
    ++ 0 ∷ [])
    (hex (codes "23000000 00000000 40000001 00000000 00000000 00000000 00000000 00000001 00000008 02030000 00000000 00000000"))
    None
unfolding answers_on_literals
another_target = (refl, refl, refl)

-- Authentication can't be demanded.
pub chap_alone : WorkedRow fresh
    (says first (entry (codes "AuthMethod=CHAP") ++ initiator_name ++ entry (codes "SessionType=Normal") ++ target_name)
    ∷ [])
    ((hex (codes "43810000 0000006e 40000001 00000000 00000000 00000000 00000001 00000000 00000000 00000000 00000000 00000000"))
    ++ (entry (codes "AuthMethod=CHAP") ++ initiator_name ++ entry (codes "SessionType=Normal") ++ target_name)
    ++ 0 ∷ 0 ∷ [])
    (hex (codes "23000000 00000000 40000001 00000000 00000000 00000000 00000000 00000001 00000008 02010000 00000000 00000000"))
    None
unfolding answers_on_literals
chap_alone = (refl, refl, refl)

-- There is no session to join.
pub session_to_join : WorkedRow fresh
    (says (record first { tsih = 5 }) (first_text)
    ∷ [])
    ((hex (codes "43810000 0000006e 40000001 00000005 00000000 00000000 00000001 00000000 00000000 00000000 00000000 00000000"))
    ++ (first_text)
    ++ 0 ∷ 0 ∷ [])
    (hex (codes "23000000 00000000 40000001 00000000 00000000 00000000 00000000 00000001 00000008 020a0000 00000000 00000000"))
    None
unfolding answers_on_literals
session_to_join = (refl, refl, refl)

-- The target speaks version 0 alone.
pub version_above_0 : WorkedRow fresh
    (says (record first { version_min = 1 }) (first_text)
    ∷ [])
    ((hex (codes "43810001 0000006e 40000001 00000000 00000000 00000000 00000001 00000000 00000000 00000000 00000000 00000000"))
    ++ (first_text)
    ++ 0 ∷ 0 ∷ [])
    (hex (codes "23000000 00000000 40000001 00000000 00000000 00000000 00000000 00000001 00000008 02050000 00000000 00000000"))
    None
unfolding answers_on_literals
version_above_0 = (refl, refl, refl)

-- A session is normal, or for discovery.
pub unknown_session_type : WorkedRow fresh
    (says first (entry (codes "AuthMethod=None") ++ initiator_name ++ entry (codes "SessionType=Other") ++ target_name)
    ∷ [])
    ((hex (codes "43810000 0000006d 40000001 00000000 00000000 00000000 00000001 00000000 00000000 00000000 00000000 00000000"))
    ++ (entry (codes "AuthMethod=None") ++ initiator_name ++ entry (codes "SessionType=Other") ++ target_name)
    ++ 0 ∷ 0 ∷ 0 ∷ [])
    (hex (codes "23000000 00000000 40000001 00000000 00000000 00000000 00000000 00000001 00000008 02090000 00000000 00000000"))
    None
unfolding answers_on_literals
unknown_session_type = (refl, refl, refl)

-- A text that goes on can't move at once.
pub continued_and_moving : WorkedRow fresh
    (segment false (login true true 0 (Some 1) 0) first_text
    ∷ [])
    ((hex (codes "43c10000 0000006e 40000001 00000000 00000000 00000000 00000001 00000000 00000000 00000000 00000000 00000000"))
    ++ first_text
    ++ 0 ∷ 0 ∷ [])
    (hex (codes "23000000 00000000 40000001 00000000 00000000 00000000 00000000 00000001 00000008 02000000 00000000 00000000"))
    None
unfolding answers_on_literals
continued_and_moving = (refl, refl, refl)

-- A segment of 511 bytes can't be declared.
pub bad_segment_length : WorkedRow fresh
    (says first first_text
    ∷ says second (entry (codes "MaxRecvDataSegmentLength=511"))
    ∷ [])
    ((hex (codes "43810000 0000006e 40000001 00000000 00000000 00000000 00000001 00000000 00000000 00000000 00000000 00000000"))
    ++ first_text
    ++ (0 ∷ 0 ∷ [])
    ++ (hex (codes "43870000 0000001d 40000001 00000000 00000000 00000000 00000001 00000002 00000000 00000000 00000000 00000000"))
    ++ entry (codes "MaxRecvDataSegmentLength=511")
    ++ 0 ∷ 0 ∷ 0 ∷ [])
    ((hex (codes "23810000 00000027 40000001 00000000 00000000 00000000 00000001 00000001 00000008 00000000 00000000 00000000"))
    ++ (entry (codes "AuthMethod=None") ++ entry (codes "TargetPortalGroupTag=1") ++ 0 ∷ [])
    ++ (hex (codes "23040000 00000000 40000001 00000000 00000000 00000000 00000000 00000001 00000008 02000000 00000000 00000000")))
    None
unfolding answers_on_literals
bad_segment_length = (refl, refl, refl)

-- A text in three segments: the first two answers are empty.
pub text_in_three_segments : WorkedRow fresh
    (segment false (login false true 0 None 0) (take 4 first_text)
    ∷ segment true (login false true 0 None 0) (take 56 (drop 4 first_text))
    ∷ segment true first (drop 60 first_text)
    ∷ [])
    ((hex (codes "43400000 00000004 40000001 00000000 00000000 00000000 00000001 00000000 00000000 00000000 00000000 00000000"))
    ++ take 4 first_text
    ++ (hex (codes "43400000 00000038 40000001 00000000 00000000 00000000 00000001 00000000 00000000 00000000 00000000 00000000"))
    ++ take 56 (drop 4 first_text)
    ++ (hex (codes "43810000 00000032 40000001 00000000 00000000 00000000 00000001 00000000 00000000 00000000 00000000 00000000"))
    ++ drop 60 first_text
    ++ 0 ∷ 0 ∷ [])
    ((hex (codes "23000000 00000000 40000001 00000000 00000000 00000000 00000001 00000001 00000008 00000000 00000000 00000000"))
    ++ (hex (codes "23000000 00000000 40000001 00000000 00000000 00000000 00000002 00000001 00000008 00000000 00000000 00000000"))
    ++ (hex (codes "23810000 00000027 40000001 00000000 00000000 00000000 00000003 00000001 00000008 00000000 00000000 00000000"))
    ++ entry (codes "AuthMethod=None") ++ entry (codes "TargetPortalGroupTag=1") ++ 0 ∷ [])
    None
unfolding answers_on_literals
text_in_three_segments = (refl, refl, refl)

-- A Login Request in full feature phase is rejected, with its canonical header.
pub login_in_full_phase : WorkedRow logged_in
    (says (record second { exp_stat_sn = 3 }) (entry (codes "MaxBurstLength=1024"))
    ∷ [])
    ((hex (codes "43870000 00000014 40000001 00000000 00000000 00000000 00000001 00000003 00000000 00000000 00000000 00000000"))
    ++ entry (codes "MaxBurstLength=1024"))
    (hex (codes "3f800400 00000030 00000000 00000000 ffffffff 00000000 00000003 00000001 00000008 00000000 00000000 00000000")
    ++ hex (codes "43870000 00000014 40000001 00000000 00000000 00000000 00000001 00000003 00000000 00000000 00000000 00000000"))
    (Some 1)
unfolding answers_on_literals
login_in_full_phase = (refl, refl, refl)

-- So it is where its number is spelled in hex.
pub login_in_full_phase_by_hex : WorkedRow logged_in
    (says (record second { exp_stat_sn = 3 }) (entry (codes "MaxBurstLength=0x400"))
    ∷ [])
    ((hex (codes "43870000 00000014 40000001 00000000 00000000 00000000 00000001 00000003 00000000 00000000 00000000 00000000"))
    ++ entry (codes "MaxBurstLength=1024"))
    (hex (codes "3f800400 00000030 00000000 00000000 ffffffff 00000000 00000003 00000001 00000008 00000000 00000000 00000000")
    ++ hex (codes "43870000 00000014 40000001 00000000 00000000 00000000 00000001 00000003 00000000 00000000 00000000 00000000"))
    (Some 1)
unfolding answers_on_literals
login_in_full_phase_by_hex = (refl, refl, refl)

-- A discovery session tells the target's name.
pub discovery_names_the_target : WorkedRow fresh
    (says first (initiator_name ++ entry (codes "SessionType=Discovery"))
    ∷ says second (entry (codes "MaxBurstLength=1024"))
    ∷ (let m : Message = record {
      head = heads.TextRequest (record {
        immediate = false;
        is_final = true;
        continues = false;
        lun = None;
        initiator_task_tag = 1;
        target_transfer_tag = 0xffff_ffff;
        cmd_sn = 1;
        exp_stat_sn = 3;
      });
      segment = Bytes (entry (codes "SendTargets=All"));
    } in m)
    ∷ [])
    ((hex (codes "43810000 0000003d 40000001 00000000 00000000 00000000 00000001 00000000 00000000 00000000 00000000 00000000"))
    ++ (initiator_name ++ entry (codes "SessionType=Discovery"))
    ++ (0 ∷ 0 ∷ 0 ∷ [])
    ++ (hex (codes "43870000 00000014 40000001 00000000 00000000 00000000 00000001 00000002 00000000 00000000 00000000 00000000"))
    ++ entry (codes "MaxBurstLength=1024")
    ++ (hex (codes "04800000 00000010 00000000 00000000 00000001 ffffffff 00000001 00000003 00000000 00000000 00000000 00000000"))
    ++ entry (codes "SendTargets=All"))
    ((hex (codes "23810000 00000000 40000001 00000000 00000000 00000000 00000001 00000001 00000008 00000000 00000000 00000000"))
    ++ (hex (codes "23870000 00000038 40000001 00000001 00000000 00000000 00000002 00000001 00000008 00000000 00000000 00000000"))
    ++ entry (codes "MaxBurstLength=Irrelevant") ++ entry (codes "MaxRecvDataSegmentLength=8192")
    ++ (hex (codes "24800000 00000024 00000000 00000000 00000001 ffffffff 00000003 00000002 00000009 00000000 00000000 00000000"))
    ++ target_name)
    None
unfolding answers_on_literals
discovery_names_the_target = (refl, refl, refl)

-- Where a portal is told, a discovery session tells its address behind the name, and answers keys by value.
pub discovery_tells_the_portal : WorkedRow told_opening
    (says first (initiator_name ++ entry (codes "SessionType=Discovery"))
    ∷ says second (entry (codes "MaxBurstLength=1024"))
    ∷ (let m : Message = record {
      head = heads.TextRequest (record {
        immediate = false;
        is_final = true;
        continues = false;
        lun = None;
        initiator_task_tag = 1;
        target_transfer_tag = 0xffff_ffff;
        cmd_sn = 1;
        exp_stat_sn = 3;
      });
      segment = Bytes (entry (codes "SendTargets=All"));
    } in m)
    ∷ [])
    ((hex (codes "43810000 0000003d 40000001 00000000 00000000 00000000 00000001 00000000 00000000 00000000 00000000 00000000"))
    ++ (initiator_name ++ entry (codes "SessionType=Discovery"))
    ++ (0 ∷ 0 ∷ 0 ∷ [])
    ++ (hex (codes "43870000 00000014 40000001 00000000 00000000 00000000 00000001 00000002 00000000 00000000 00000000 00000000"))
    ++ entry (codes "MaxBurstLength=1024")
    ++ (hex (codes "04800000 00000010 00000000 00000000 00000001 ffffffff 00000001 00000003 00000000 00000000 00000000 00000000"))
    ++ entry (codes "SendTargets=All"))
    ((hex (codes "23810000 00000000 40000001 00000000 00000000 00000000 00000001 00000001 00000008 00000000 00000000 00000000"))
    ++ (hex (codes "23870000 00000032 40000001 00000001 00000000 00000000 00000002 00000001 00000008 00000000 00000000 00000000"))
    ++ entry (codes "MaxBurstLength=1024") ++ entry (codes "MaxRecvDataSegmentLength=8192") ++ (0 ∷ 0 ∷ [])
    ++ (hex (codes "24800000 00000043 00000000 00000000 00000001 ffffffff 00000003 00000002 00000009 00000000 00000000 00000000"))
    ++ target_name ++ entry (codes "TargetAddress=192.0.2.7:3260,1") ++ 0 ∷ [])
    None
unfolding answers_on_literals
discovery_tells_the_portal = (refl, refl, refl)

-- A discovery session takes no command.
pub command_in_discovery : WorkedRow fresh
    (says first (initiator_name ++ entry (codes "SessionType=Discovery"))
    ∷ says second (entry (codes "MaxBurstLength=1024"))
    ∷ orders (worked_command true false false 0 (cdbs.TestUnitReady 0)) []
    ∷ [])
    ((hex (codes "43810000 0000003d 40000001 00000000 00000000 00000000 00000001 00000000 00000000 00000000 00000000 00000000"))
    ++ (initiator_name ++ entry (codes "SessionType=Discovery"))
    ++ (0 ∷ 0 ∷ 0 ∷ [])
    ++ (hex (codes "43870000 00000014 40000001 00000000 00000000 00000000 00000001 00000002 00000000 00000000 00000000 00000000"))
    ++ entry (codes "MaxBurstLength=1024")
    ++ (hex (codes "01810000 00000000 00000000 00000000 00000001 00000000 00000001 00000003 00000000 00000000 00000000 00000000")))
    ((hex (codes "23810000 00000000 40000001 00000000 00000000 00000000 00000001 00000001 00000008 00000000 00000000 00000000"))
    ++ (hex (codes "23870000 00000038 40000001 00000001 00000000 00000000 00000002 00000001 00000008 00000000 00000000 00000000"))
    ++ entry (codes "MaxBurstLength=Irrelevant") ++ entry (codes "MaxRecvDataSegmentLength=8192")
    ++ (hex (codes "3f800400 00000030 00000000 00000000 ffffffff 00000000 00000003 00000001 00000008 00000000 00000000 00000000")
    ++ hex (codes "01810000 00000000 00000000 00000000 00000001 00000000 00000001 00000003 00000000 00000000 00000000 00000000")))
    (Some 1)
unfolding answers_on_literals
command_in_discovery = (refl, refl, refl)

-- CmdSN counts round; a request whose CmdSN was taken is dropped.
pub cmd_sn_counts_round : WorkedRow fresh
    (says (record first { cmd_sn = 0xffff_ffff }) first_text
    ∷ says (record second { cmd_sn = 0xffff_ffff }) second_text
    ∷ orders (record (worked_command true false false 0 (cdbs.TestUnitReady 0)) { cmd_sn = 0xffff_ffff; initiator_task_tag = 1 }) []
    ∷ orders (record (worked_command true false false 0 (cdbs.TestUnitReady 0)) { cmd_sn = 0; initiator_task_tag = 2 }) []
    ∷ orders (record (worked_command true false false 0 (cdbs.TestUnitReady 0)) { cmd_sn = 0xffff_ffff; initiator_task_tag = 3 }) []
    ∷ [])
    ((hex (codes "43810000 0000006e 40000001 00000000 00000000 00000000 ffffffff 00000000 00000000 00000000 00000000 00000000"))
    ++ first_text
    ++ (0 ∷ 0 ∷ [])
    ++ (hex (codes "43870000 0000006e 40000001 00000000 00000000 00000000 ffffffff 00000002 00000000 00000000 00000000 00000000"))
    ++ second_text
    ++ (0 ∷ 0 ∷ [])
    ++ (hex (codes "01810000 00000000 00000000 00000000 00000001 00000000 ffffffff 00000003 00000000 00000000 00000000 00000000"))
    ++ (hex (codes "01810000 00000000 00000000 00000000 00000002 00000000 00000000 00000003 00000000 00000000 00000000 00000000"))
    ++ (hex (codes "01810000 00000000 00000000 00000000 00000003 00000000 ffffffff 00000003 00000000 00000000 00000000 00000000")))
    ((hex (codes "23810000 00000027 40000001 00000000 00000000 00000000 00000001 ffffffff 00000006 00000000 00000000 00000000"))
    ++ (entry (codes "AuthMethod=None") ++ entry (codes "TargetPortalGroupTag=1") ++ 0 ∷ [])
    ++ (hex (codes "23870000 00000073 40000001 00000001 00000000 00000000 00000002 ffffffff 00000006 00000000 00000000 00000000"))
    ++ (entry (codes "HeaderDigest=None") ++ entry (codes "IFMarker=No") ++ entry (codes "InitialR2T=No") ++ entry (codes "MaxBurstLength=1024")
    ++ entry (codes "MaxRecvDataSegmentLength=8192") ++ entry (codes "X-test=NotUnderstood") ++ 0 ∷ [])
    ++ (hex (codes "21800000 00000000 00000000 00000000 00000001 00000000 00000003 00000000 00000007 00000000 00000000 00000000"))
    ++ (hex (codes "21800000 00000000 00000000 00000000 00000002 00000000 00000004 00000001 00000008 00000000 00000000 00000000")))
    None
unfolding answers_on_literals
cmd_sn_counts_round = (refl, refl, refl)

-- The two requests lead to the session that the other rows begin in.
pub login_leads : LoginLeads
unfolding answers_on_literals
login_leads = refl

-- A text has at most 16,384 bytes; the answers before are empty.
pub text_at_the_limit : WorkedRow (record fresh { session = record fresh.session { begun = true; exp_cmd_sn = 1; gathered = replicate 16383 0x41 } })
    (segment true (login false true 0 None 0) (codes "A") ∷ [])
    (hex (codes "43400000 00000001 40000001 00000000 00000000 00000000 00000001 00000000 00000000 00000000 00000000 00000000")
    ++ 0x41 ∷ 0 ∷ 0 ∷ 0 ∷ [])
    (hex (codes "23000000 00000000 40000001 00000000 00000000 00000000 00000001 00000001 00000008 00000000 00000000 00000000"))
    None
unfolding answers_on_literals
text_at_the_limit = (refl, refl, refl)

-- One byte more is refused.
pub text_past_the_limit : WorkedRow (record fresh { session = record fresh.session { begun = true; exp_cmd_sn = 1; gathered = replicate 16384 0x41 } })
    (segment true (login false false 0 None 0) (codes "A") ∷ [])
    (hex (codes "43000000 00000001 40000001 00000000 00000000 00000000 00000001 00000000 00000000 00000000 00000000 00000000")
    ++ 0x41 ∷ 0 ∷ 0 ∷ 0 ∷ [])
    (hex (codes "23000000 00000000 40000001 00000000 00000000 00000000 00000000 00000001 00000008 03020000 00000000 00000000"))
    None
unfolding answers_on_literals
text_past_the_limit = (refl, refl, refl)

-- ---- the order of refusals

-- a first request of the security stage is refused with this class and detail
abbrev Refused : LoginRequest → List ℕ → ℕ → ℕ → Type 0
Refused h text class detail =
    canon (answers false fresh blank (says h text ∷ [])).answers
    ≡ hex (codes "23000000 00000000 40000001 00000000 00000000 00000000 00000000 00000001 00000008")
    ++ class ∷ detail ∷ replicate 10 0

pub version_before_session : Refused (record first { version_min = 1; tsih = 5 }) first_text 0x02 0x05
unfolding answers_on_literals
version_before_session = refl

pub session_before_move : Refused (record first { tsih = 5; next_stage = Some 0 }) first_text 0x02 0x0a
unfolding answers_on_literals
session_before_move = refl

pub no_move_to_itself : Refused (record first { next_stage = Some 0 }) first_text 0x02 0x00
unfolding answers_on_literals
no_move_to_itself = refl

pub no_move_to_2 : Refused (record first { next_stage = Some 2 }) first_text 0x02 0x00
unfolding answers_on_literals
no_move_to_2 = refl

pub text_at_fault_before_names : Refused first (codes "AuthMethod=CHAP") 0x02 0x00
unfolding answers_on_literals
text_at_fault_before_names = refl

pub name_before_type : Refused first (entry (codes "SessionType=Other")) 0x02 0x07
unfolding answers_on_literals
name_before_type = refl

pub empty_name_is_none : Refused first (entry (codes "InitiatorName=") ++ target_name) 0x02 0x07
unfolding answers_on_literals
empty_name_is_none = refl

pub type_before_target : Refused first (initiator_name ++ entry (codes "SessionType=Other")) 0x02 0x09
unfolding answers_on_literals
type_before_target = refl

pub no_target_name : Refused first (initiator_name ++ entry (codes "AuthMethod=CHAP")) 0x02 0x07
unfolding answers_on_literals
no_target_name = refl

pub empty_target_name_is_another : Refused first (initiator_name ++ entry (codes "TargetName=")) 0x02 0x03
unfolding answers_on_literals
empty_target_name_is_another = refl

pub target_before_authentication : Refused first (initiator_name ++ entry (codes "TargetName=x") ++ entry (codes "AuthMethod=CHAP")) 0x02 0x03
unfolding answers_on_literals
target_before_authentication = refl

pub authentication_before_length : Refused first (initiator_name ++ target_name ++ entry (codes "AuthMethod=CHAP")
    ++ entry (codes "MaxRecvDataSegmentLength=511")) 0x02 0x01
unfolding answers_on_literals
authentication_before_length = refl

-- the second request of a login is refused with this class and detail
abbrev RefusedLater : LoginRequest → List ℕ → ℕ → ℕ → Type 0
RefusedLater h text class detail =
    drop 88 (canon (answers false fresh blank (says first first_text ∷ says h text ∷ [])).answers)
    ≡ hex (codes "23040000 00000000 40000001 00000000 00000000 00000000 00000000 00000001 00000008")
    ++ class ∷ detail ∷ replicate 10 0

pub key_given_again : RefusedLater second (entry (codes "AuthMethod=None") ++ entry (codes "MaxRecvDataSegmentLength=511")) 0x02 0x00
unfolding answers_on_literals
key_given_again = refl

pub no_move_back : RefusedLater (record second { next_stage = Some 0 }) second_text 0x02 0x00
unfolding answers_on_literals
no_move_back = refl

-- An unknown key may be given again; a request that does not move holds the stage.
pub unknown_key_again : (answers false fresh blank
    (says (login false false 0 None 0) (first_text ++ entry (codes "X=1")) ∷ says first (entry (codes "X=2")) ∷ says second [] ∷ [])).machine.session.phase
    ≡ phases.Full
unfolding answers_on_literals
unknown_key_again = refl

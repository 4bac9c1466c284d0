-- What a target sends in full feature phase (RFC 7143, sections 4.2 and 11).
use Rattle.std.specs.Prelude.{ℕ, ◌==◌, if◌then◌else◌, Option, Some, None}
use Rattle.iscsi_pdu.specs.declared.head.Head.{Head}
use Rattle.iscsi_pdu.specs.declared.head.Head.TheVariants as heads
use Rattle.iscsi_pdu.specs.declared.head.nop_in.NopIn.{NopIn}
use Rattle.iscsi_pdu.specs.Fields.{reserved_tag}
use Rattle.iscsi_initiator.specs.declared.target_pdu.Answer.{Answer}
use Rattle.iscsi_initiator.specs.declared.target_pdu.Answer.TheVariants.{Ping, Data, Response, R2t, Text, Logout}
use Rattle.iscsi_initiator.specs.declared.target_pdu.Content.TheVariants.{UnsolicitedNopIn, Async, Reject, Tagged}
use Rattle.iscsi_initiator.specs.declared.target_pdu.Counters.{Counters}
use Rattle.iscsi_initiator.specs.declared.target_pdu.TargetPdu.{TargetPdu}

-- The numbers of a PDU: its StatSN, if that counts, its ExpCmdSN and its MaxCmdSN (section 4.2.2).
abbrev pub counters : Option ℕ → ℕ → ℕ → Counters
counters stat_sn exp_cmd_sn max_cmd_sn =
    record { stat_sn = stat_sn; exp_cmd_sn = exp_cmd_sn; max_cmd_sn = max_cmd_sn }

-- A PDU that answers the request with this task tag (section 11.2.1.8).
abbrev pub tagged : ℕ → Answer → Counters → TargetPdu
tagged tag answer numbers = record { content = Tagged tag answer; counters = numbers }

-- A NOP-In with the reserved task tag answers no ping, and its StatSN doesn't count (section 11.19).
abbrev pub nop_in_pdu : NopIn → TargetPdu
nop_in_pdu h =
    if h.initiator_task_tag == reserved_tag
    then record {
      content = UnsolicitedNopIn h;
      counters = counters None h.exp_cmd_sn h.max_cmd_sn;
    }
    else tagged h.initiator_task_tag Ping (counters (Some h.stat_sn) h.exp_cmd_sn h.max_cmd_sn)

-- What a head says there, unless its kind has no place there (section 11). Data-In has a StatSN only
-- with a status (section 11.7), and that of an R2T doesn't count (section 11.8).
abbrev pub target_pdu : Head → Option TargetPdu
target_pdu (heads.NopIn h) = Some (nop_in_pdu h)
target_pdu (heads.AsyncMessage h) =
    Some (record {
      content = Async;
      counters = counters (Some h.stat_sn) h.exp_cmd_sn h.max_cmd_sn;
    })
target_pdu (heads.Reject h) =
    Some (record {
      content = Reject;
      counters = counters (Some h.stat_sn) h.exp_cmd_sn h.max_cmd_sn;
    })
target_pdu (heads.DataIn h) =
    Some (tagged h.initiator_task_tag (Data h) (counters h.stat_sn h.exp_cmd_sn h.max_cmd_sn))
target_pdu (heads.ScsiResponse h) =
    Some (tagged h.initiator_task_tag (Response h)
    (counters (Some h.stat_sn) h.exp_cmd_sn h.max_cmd_sn))
target_pdu (heads.ReadyToTransfer h) =
    Some (tagged h.initiator_task_tag (R2t h) (counters None h.exp_cmd_sn h.max_cmd_sn))
target_pdu (heads.TextResponse h) =
    Some (tagged h.initiator_task_tag (Text h)
    (counters (Some h.stat_sn) h.exp_cmd_sn h.max_cmd_sn))
target_pdu (heads.LogoutResponse h) =
    Some (tagged h.initiator_task_tag Logout
    (counters (Some h.stat_sn) h.exp_cmd_sn h.max_cmd_sn))
target_pdu _ = None

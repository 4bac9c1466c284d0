-- What an initiator may send in full feature phase, by its kind (RFC 7143, sections 4.2 and 11.1).
use Rattle.std.specs.Prelude.{◌≡◌, ℕ, Bool, ◌==◌, if◌then◌else◌, Option, Some, None}
use Rattle.iscsi_pdu.specs.Fields.{reserved_tag}
use Rattle.iscsi_pdu.specs.declared.head.Head.{Head}
use Rattle.iscsi_pdu.specs.declared.head.Head.TheVariants as heads
use Rattle.iscsi_pdu.specs.declared.head.nop_out.NopOut.{NopOut}
use Rattle.iscsi_target_session.specs.declared.inbound.Inbound.{Inbound}
use Rattle.iscsi_target_session.specs.declared.inbound.Inbound.TheVariants as inbounds
use Rattle.iscsi_target_session.specs.declared.inbound.InboundRequest.{InboundRequest}
use Rattle.iscsi_target_session.specs.declared.inbound.Asks.{Asks}
use Rattle.iscsi_target_session.specs.declared.inbound.Asks.TheVariants as asks
use Rattle.iscsi_target_session.specs.declared.inbound.SessionRequest.TheVariants as requests

-- The tag of a ping; one that wants no answer has none (section 11.18).
abbrev pub ping_tag : NopOut → Option ℕ
ping_tag h = if h.initiator_task_tag == reserved_tag then None else Some h.initiator_task_tag

-- A request with this tag, this bit and this CmdSN, that asks for this (section 11.2.1).
abbrev pub request : Option ℕ → Bool → ℕ → Asks → Option Inbound
request tag immediate cmd_sn asked = Some (inbounds.Request (record {
  initiator_task_tag = tag;
  immediate = immediate;
  cmd_sn = cmd_sn;
  asks = asked;
}))

-- What a PDU is to a target in full feature phase. A Login Request is none of these, nor is what only
-- targets send (section 11.2.1.2).
abbrev pub inbound : Head → Option Inbound
inbound (heads.ScsiCommand h) =
    request (Some h.initiator_task_tag) h.immediate h.cmd_sn (asks.Command h)
inbound (heads.NopOut h) =
    request (ping_tag h) h.immediate h.cmd_sn (asks.Session (requests.Ping h))
inbound (heads.TaskRequest h) =
    request (Some h.initiator_task_tag) h.immediate h.cmd_sn (asks.Session (requests.Task h))
inbound (heads.TextRequest h) =
    request (Some h.initiator_task_tag) h.immediate h.cmd_sn (asks.Session (requests.Text h))
inbound (heads.LogoutRequest h) =
    request (Some h.initiator_task_tag) h.immediate h.cmd_sn (asks.Session (requests.Logout h))
inbound (heads.DataOut h) = Some (inbounds.Data h)
inbound _ = None

-- The head is that of this request.
abbrev pub IsRequest : InboundRequest → Head → Type 0
IsRequest r head = inbound head ≡ Some (inbounds.Request r)

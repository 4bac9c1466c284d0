-- A request and the head of its PDU.
use Rattle.std.proofs.Common.{◌≡◌, Bool, false, Option, Some, None, refl, ap, subst}
use Rattle.iscsi_pdu.specs.declared.head.Head.{Head}
use Rattle.iscsi_pdu.specs.declared.head.Head.TheVariants.{DataOut, LoginRequest, LoginResponse, LogoutRequest, NopOut, ScsiCommand, TaskRequest, TextRequest}
use Rattle.iscsi_pdu.specs.declared.head.data_out.DataOut.{DataOut as DataPdu}
use Rattle.iscsi_stream.specs.Segment.{is_last_login_pdu}
use Rattle.iscsi_target_session.specs.Inbound.{inbound, IsRequest}
use Rattle.iscsi_target_session.specs.declared.inbound.Inbound.{Inbound}
use Rattle.iscsi_target_session.specs.declared.inbound.Inbound.TheVariants as inbounds
use Rattle.iscsi_target_session.specs.declared.inbound.InboundRequest.{InboundRequest}
use Rattle.iscsi_target_session.specs.declared.inbound.Asks.{Asks}
use Rattle.iscsi_target_session.specs.declared.inbound.Asks.TheVariants as asks

-- what it asks for
abbrev asked_in : Option Inbound → Option Asks
asked_in (Some (inbounds.Request r)) = Some r.asks
asked_in _ = None

abbrev pub asked_by : Head → Option Asks
asked_by head = asked_in (inbound head)

pub asks_is : (head : Head) (r : InboundRequest) → IsRequest r head → asked_by head ≡ Some r.asks
asks_is head r e = ap asked_in e

-- whether the command that is asked for is immediate
abbrev pub asks_at_once : Bool → Asks → Bool
asks_at_once other (asks.Command h) = h.immediate
asks_at_once other (asks.Session q) = other

-- a request is immediate if what it asks for is
abbrev immediate_as : Option Inbound → Type 0
immediate_as (Some (inbounds.Request r)) = asks_at_once r.immediate r.asks ≡ r.immediate
immediate_as _ = Unit {0}

head_immediate : (head : Head) → immediate_as (inbound head)
head_immediate (ScsiCommand h) = refl
head_immediate (NopOut h) = refl
head_immediate (TaskRequest h) = refl
head_immediate (TextRequest h) = refl
head_immediate (LogoutRequest h) = refl
head_immediate (DataOut h) = tt
head_immediate _ = tt

pub immediate_is : (head : Head) (r : InboundRequest) → IsRequest r head → asks_at_once r.immediate r.asks ≡ r.immediate
immediate_is head r e = subst immediate_as e (head_immediate head)

-- what an initiator may send in full feature phase is none of a login
pub inbound_plain : (head : Head) (pdu : Inbound) → inbound head ≡ Some pdu → is_last_login_pdu head ≡ false
inbound_plain (LoginRequest h) pdu e = absurd cc
inbound_plain (LoginResponse h) pdu e = absurd cc
inbound_plain _ pdu e = refl

pub request_plain : (head : Head) (r : InboundRequest) → IsRequest r head → is_last_login_pdu head ≡ false
request_plain head r e = inbound_plain head (inbounds.Request r) e

-- a Data-Out is one by its head
pub data_head : (head : Head) (h : DataPdu) → inbound head ≡ Some (inbounds.Data h) → head ≡ DataOut h
data_head (DataOut h) g e = cc
data_head (NopOut h) g e = absurd cc
data_head (ScsiCommand h) g e = absurd cc
data_head (TaskRequest h) g e = absurd cc
data_head (TextRequest h) g e = absurd cc
data_head (LogoutRequest h) g e = absurd cc
data_head _ g e = absurd cc

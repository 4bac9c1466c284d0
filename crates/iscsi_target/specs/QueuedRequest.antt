-- A request that waits and is no command (RFC 7143, section 4.2.2.1).
use Rattle.std.specs.Prelude.{ℕ, Option}
use Rattle.iscsi_stream.specs.Stream.{Message}
use Rattle.iscsi_target_session.specs.declared.inbound.SessionRequest.{SessionRequest}

-- Its tag, which a ping may have none of, its PDU, and what it asks for (sections 11.2.1.8 and
-- 11.18).
pub record QueuedRequest : Type 0 where
  pub initiator_task_tag : Option ℕ
  pub message : Message
  pub request : SessionRequest

-- A write that takes its data (RFC 7143, sections 11.3, 11.7 and 11.8).
use Rattle.std.specs.Prelude.{ℕ, Bool}
use Rattle.scsi_disk.specs.declared.order.Order.{Order}
use Rattle.iscsi_stream.specs.Pieces.{Pieces}
use Rattle.iscsi_target.specs.declared.due.Due.{Due}

-- A write, which takes its data as they come (sections 11.3, 11.7 and 11.8).
pub record Write : Type 0 where
  pub initiator_task_tag : ℕ
  -- whether its command was immediate
  pub immediate : Bool
  pub order : Order
  -- how many bytes it takes
  pub total : ℕ
  -- what came, in order of arrival; pieces of no bytes are left out
  pub pieces : Pieces
  pub due : Due
  -- how many R2Ts were sent, which is the next one's tag and R2TSN
  pub r2t_count : ℕ

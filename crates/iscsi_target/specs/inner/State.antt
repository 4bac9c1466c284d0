-- More of `State`, of which no public contract speaks.
use Rattle.std.specs.Prelude.{ℕ}
use Rattle.scsi_disk.specs.Disk.{Disk}
use Rattle.iscsi_stream.specs.Stream.{Message}
use Rattle.iscsi_target_session.specs.Rejecting.{reject_and_close}
use Rattle.iscsi_target.specs.State.{waiting_tasks, Machine, TargetStep, on}

-- ---- a broken rule

-- The PDU broke the rule: it is rejected, and the session is closed.
abbrev pub breaks : Machine → Disk → ℕ → Message → TargetStep
breaks s disk rule m = on disk s.tasks (reject_and_close s.session (waiting_tasks s.tasks) rule m)

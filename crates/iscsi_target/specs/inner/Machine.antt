-- More of `Machine`, of which no public contract speaks.
use Rattle.std.specs.Prelude.{ℕ, Bool, false, ◌==◌}
use Rattle.iscsi_target.specs.declared.tasks.Task.{Task}
use Rattle.iscsi_target.specs.declared.tasks.Task.TheVariants.{Data}

-- ---- a Data-Out

-- The task is a write with this tag (section 11.7).
abbrev pub is_write_with : ℕ → Task → Bool
is_write_with tag (Data w) = w.initiator_task_tag == tag
is_write_with tag _ = false

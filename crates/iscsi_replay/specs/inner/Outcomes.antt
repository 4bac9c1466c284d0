-- More of `Outcomes`, of which no public contract speaks.
use Rattle.std.specs.Prelude.{Bool, false, ◌==◌, ◌&&◌}
use Rattle.iscsi_job.specs.declared.item.Ended.{Ended}
use Rattle.iscsi_job.specs.declared.item.Ended.TheVariants as ended

-- A command was done: its target completed it with status GOOD (SAM-5, section 5.3.1).
abbrev pub is_good_end : Ended → Bool
is_good_end (ended.Command response status _) = (response == 0) && (status == 0)
is_good_end _ = false

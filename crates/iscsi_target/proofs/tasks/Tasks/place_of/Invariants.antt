use Rattle.std.specs.Prelude.{◌≤◌, ◌-◌, length}
use Rattle.iscsi_target.proofs.Queue.TaskPlaceLemmas.{NoneBefore}
use Rattle.iscsi_target.proofs.tasks.Tasks.place_of.Given as goal

abbrev pub invariant-loop-place : goal.invariant-loop-place
invariant-loop-place l = (l.place ≤ length l.self-inside.list.items) × NoneBefore l.tag l.self-inside.list.items l.place

abbrev pub decreases-loop-place : goal.decreases-loop-place
decreases-loop-place l = length l.self-inside.list.items - l.place

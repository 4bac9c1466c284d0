use Rattle.std.proofs.Common.{◌≡◌, ◌≤◌}
use Rattle.std.specs.List.{repeat}
use Rattle.scsi_disk.proofs.execution.repeated.Given as goal

-- The block stands there as often as the loop went round.
abbrev pub invariant-loop : goal.invariant-loop
invariant-loop l = record {
  within : l.counter ≤ l.count;
  all : l.all.items ≡ repeat l.counter l.block;
}

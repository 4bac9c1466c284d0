-- The descriptors of the rows so far, at most 20 bytes of each.
use Rattle.std.proofs.Common.{◌≡◌, ◌≤◌, ◌*◌, length, take}
use Rattle.std.specs.List.{flat_map}
use Rattle.scsi_unit.specs.Supported.{descriptor}
use Rattle.scsi_unit.proofs.supported.descriptors.Given as goal

abbrev pub invariant-loop-row : goal.invariant-loop-row
invariant-loop-row l = record {
  all : l.all.items ≡ flat_map (descriptor l.timeouts) (take l.row-index l.rows);
  few : length l.all.items ≤ 20 * l.row-index;
}

use Rattle.std.proofs.Common.{◌≡◌, ◌≤◌, drop}
use Rattle.iscsi_loop.specs.Script.{number_behind}
use Rattle.iscsi_loop.proofs.script.number.Given as goal

abbrev pub invariant-loop-digit : goal.invariant-loop-digit
invariant-loop-digit l = (number_behind l.most 0 l.digits ≡ number_behind l.most l.number (drop l.digit-index l.digits)) × (l.number ≤ l.most)

-- None of the bytes so far is a control character.
use Rattle.std.proofs.Common.{◌≡◌, false, take}
use Rattle.std.specs.Char.{is_ascii_control}
use Rattle.std.specs.List.{list_any}
use Rattle.iscsi_secrets.proofs.secrets.has_control.Given as goal

abbrev pub invariant-loop-b : goal.invariant-loop-b
invariant-loop-b l = list_any is_ascii_control (take l.b-index l.name) ≡ false

-- None of the bytes so far is a capital letter.
use Rattle.std.proofs.Common.{◌≡◌, false, take}
use Rattle.std.specs.Char.{is_ascii_uppercase}
use Rattle.std.specs.List.{list_any}
use Rattle.iscsi_secrets.proofs.secrets.has_capital.Given as goal

abbrev pub invariant-loop-b : goal.invariant-loop-b
invariant-loop-b l = list_any is_ascii_uppercase (take l.b-index l.name) ≡ false

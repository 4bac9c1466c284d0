-- None of the bytes so far is a `#`.
use Rattle.std.proofs.Common.{◌≡◌, ◌==◌, false, take}
use Rattle.std.specs.List.{list_any}
use Rattle.iscsi_secrets.proofs.line.holds_number_sign.Given as goal

abbrev pub invariant-loop-b : goal.invariant-loop-b
invariant-loop-b l = list_any (λ b. b == 35) (take l.b-index l.word) ≡ false

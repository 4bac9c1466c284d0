-- None of the words so far has a `#`.
use Rattle.std.proofs.Common.{◌≡◌, ◌==◌, false, take}
use Rattle.std.specs.List.{list_any}
use Rattle.iscsi_secrets.proofs.line.one_holds_number_sign.Given as goal

abbrev pub invariant-loop-word : goal.invariant-loop-word
invariant-loop-word l = list_any (λ word. list_any (λ b. b == 35) word.now) (take l.word-index l.words) ≡ false

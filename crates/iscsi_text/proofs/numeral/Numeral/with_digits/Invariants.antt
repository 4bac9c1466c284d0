use Rattle.std.proofs.Common.{◌≡◌, ◌+◌, ◌≤◌, ◌++◌, length, false}
use Rattle.std.specs.Fmt.{digits}
use Rattle.iscsi_text.proofs.numeral.Numeral.with_digits.Given as goal

abbrev pub invariant-loop-rest : goal.invariant-loop-rest
invariant-loop-rest l = record {
  written : digits l.base false l.n ≡ digits l.base false l.rest ++ l.numeral;
  room : length (digits l.base false l.rest) + length l.numeral ≤ 20;
  rest : l.rest ≤ l.n;
}

abbrev pub decreases-loop-rest : goal.decreases-loop-rest
decreases-loop-rest l = l.rest

-- Searched for, since a wrong body breaks these goals: 04-numeral-canonical.prints_hex_for_every_number.
use Rattle.std.proofs.Common.{rules}
use Rattle.iscsi_text.proofs.numeral.Numeral.canonical.Goals as goal

pub returns-then-len : goal.returns-then-len
returns-then-len c = search rules

-- Searched for, since a wrong body breaks these goals: 03-value-read.spellings_differ.
use Rattle.std.proofs.Common.{rules}
use Rattle.iscsi_text.proofs.value.Value.read.Goals as goal

pub returns-in-Some : goal.returns-in-Some
returns-in-Some c = search rules

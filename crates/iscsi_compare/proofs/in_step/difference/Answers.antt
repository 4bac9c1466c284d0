-- Searched for, since a wrong body breaks these goals: 01-difference.places_of_the_one_before.
use Rattle.std.proofs.Common.{rules}
use Rattle.iscsi_compare.proofs.in_step.difference.Goals as goal

pub returns : goal.returns
returns c = search rules

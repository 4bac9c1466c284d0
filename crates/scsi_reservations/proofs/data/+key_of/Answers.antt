use Rattle.std.proofs.Common.{rules, refl}
use Rattle.std.proofs.lemmas.List.{nil_from_length}
use Rattle.scsi_reservations.proofs.data.+key_of.Goals as goal

pub returns-in_default : goal.returns-in_default
returns-in_default t c = rw (nil_from_length c.args.list.now c.in_default.ensures.cases) refl

pub returns-then-is : goal.returns-then-is
returns-then-is t c = rw c.in-Some.ensures.cases.0 (search rules)

pub returns-else-is : goal.returns-else-is
returns-else-is t c = rw c.in-Some.ensures.cases.0 (search rules)

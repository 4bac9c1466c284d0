use Rattle.std.proofs.Common.{rules, append_assoc}
use Rattle.std.proofs.lemmas.List.{nil_from_length}
use Rattle.scsi_reservations.proofs.data.+append_keys.Goals as goal

pub returns-in_default : goal.returns-in_default
returns-in_default t c = rw (nil_from_length c.args.list.now c.in_default.ensures.cases) (search rules)

pub returns : goal.returns
returns t c = rw (c.in-Some.ensures.cases.0, ← append_assoc) (search rules)

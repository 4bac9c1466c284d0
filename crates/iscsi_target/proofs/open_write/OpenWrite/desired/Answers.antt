-- Searched for, since a wrong body breaks these goals: 02-open_write-desired.one_transfer_for_the_rest.
use Rattle.std.proofs.Common.{rules}
use Rattle.iscsi_target.proofs.open_write.OpenWrite.desired.Goals as goal

pub returns : goal.returns
returns c = search rules

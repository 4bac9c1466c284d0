use Rattle.std.proofs.Common.{sym, ◌∙◌}
use Rattle.iscsi_pdu.proofs.HeaderLemmas.{again-means}
use Rattle.iscsi_pdu.proofs.laws.canonical_again.Goals as goal

pub returns-clause-means : goal.returns-clause-means
returns-clause-means c b h d bytes m = again-means b h d bytes m

pub returns-clause-length : goal.returns-clause-length
returns-clause-length c b h d bytes m = (again-means b h d bytes m).size ∙ sym m.size

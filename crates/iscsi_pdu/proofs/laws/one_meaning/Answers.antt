use Rattle.iscsi_pdu.proofs.HeaderLemmas.{Means-unique}
use Rattle.iscsi_pdu.proofs.laws.one_meaning.Goals as goal

pub returns : goal.returns
returns c b g h x y m n = Means-unique b g h x y m n

use Rattle.iscsi_pdu.proofs.FreeBitsLemmas.{ones_there, zero_where_free}
use Rattle.iscsi_pdu.proofs.laws.free_bits.Goals as goal

pub returns-clause-zero : goal.returns-clause-zero
returns-clause-zero c h len n mask w free = zero_where_free h len n mask w free

pub returns-clause-ones : goal.returns-clause-ones
returns-clause-ones c h len w = ones_there h len w

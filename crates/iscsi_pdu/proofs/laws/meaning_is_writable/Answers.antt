use Rattle.iscsi_pdu.proofs.HeaderLemmas.{Means-writable}
use Rattle.iscsi_pdu.proofs.laws.meaning_is_writable.Goals as goal

pub returns : goal.returns
returns c b h d bytes m = Means-writable b h d bytes m

use Rattle.iscsi_pdu.proofs.HeaderLemmas.{writable-means}
use Rattle.iscsi_pdu.proofs.laws.canonical_meaning.Goals as goal

pub returns : goal.returns
returns c h d w = writable-means h d w

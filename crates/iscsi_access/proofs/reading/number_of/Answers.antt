-- What is read is the number that the bytes spell.
use Rattle.iscsi_access.proofs.NumberLemmas.{read_is}
use Rattle.iscsi_access.proofs.reading.number_of.Goals as goal

pub returns : goal.returns
returns c = read_is c.args.bytes.now c.read_number.result c.read_number.ensures.exact

use Rattle.iscsi_text.proofs.TextLaws.{read_is, refused_is}
use Rattle.iscsi_text.proofs.text.read_text.Goals as goal

pub returns-in-Ok-clause-means : goal.returns-in-Ok-clause-means
returns-in-Ok-clause-means c = read_is c.args.bytes.now c.in-Ok.text c.in-Ok.ensures.found

pub returns-in-Err-clause-means : goal.returns-in-Err-clause-means
returns-in-Err-clause-means c = refused_is c.args.bytes.now c.in-Err.fault c.no_text.result c.in-Err.ensures.none c.no_text.ensures.ok c.no_text.ensures.memory

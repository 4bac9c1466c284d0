use Rattle.iscsi_pair.proofs.Ends.OneWorldLaw.{one_world}
use Rattle.iscsi_pair.proofs.laws.one_world.Goals as goal

pub returns : goal.returns
returns c = record { one = λ d events v w a b. one_world d events v w a b }

use Rattle.iscsi_pair.proofs.Request.OneRequestLaw.{accepts, comes_to}
use Rattle.iscsi_pair.proofs.laws.one_request.Goals as goal

pub returns : goal.returns
returns c = record {
  ends = λ m t disk request served a e. comes_to m t disk request served a e;
  accepted = λ m t request a short. accepts m t request a short;
}

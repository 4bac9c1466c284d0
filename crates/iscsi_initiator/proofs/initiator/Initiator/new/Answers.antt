use Rattle.std.proofs.Common.{ap, ◌∙◌}
use Rattle.iscsi_stream.specs.Framing.{is_ready}
use Rattle.iscsi_stream.proofs.ReadyLemmas.{not_whole-nil}
use Rattle.iscsi_initiator.proofs.initiator.Initiator.new.Goals as goal

pub invariant_of-result : goal.invariant_of-result
invariant_of-result c = ap is_ready c.new-2.ensures ∙ not_whole-nil

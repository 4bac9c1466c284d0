use Rattle.std.proofs.Common.{refl}
use Rattle.iscsi_initiator.proofs.StepLemmas.{submits}
use Rattle.iscsi_initiator.proofs.initiator.Initiator.submit.Goals as goal

pub returns : goal.returns
returns c = record {
  submits = rw (← c.self.view_is) (submits c.submit.result _ _ c.args.request c.args.out.now.items c.submit.new.out.items
      c.submit.ensures.accepted c.submit.ensures.begun c.submit.ensures.sent c.submit.ensures.refused c.submit.ensures.kept c.submit.ensures.unwritten refl);
}

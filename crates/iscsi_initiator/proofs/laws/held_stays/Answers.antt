use Rattle.iscsi_initiator.proofs.HeldLaws.{held_stays}
use Rattle.iscsi_initiator.proofs.laws.held_stays.Goals as goal

pub returns : goal.returns
returns c = record { stays = held_stays }

use Rattle.std.proofs.Common.{refl}
use Rattle.iscsi_target.proofs.Feed.HeldStaysLaw.{held_stays}
use Rattle.iscsi_target.proofs.laws.held_stays.Goals as goal

pub returns : goal.returns
returns c = record { stays = held_stays; closed = λ s. (refl, refl) }

use Rattle.iscsi_target.proofs.Writes.WriteTilingLaws.{reached_keeps}
use Rattle.iscsi_target.proofs.Writes.UnansweredR2tLaw.{opening_asks}
use Rattle.iscsi_target.proofs.laws.ready_to_transfer_bounds.Goals as goal

pub returns : goal.returns
returns c = record { modest = λ protected settings n disk ms m. (reached_keeps protected settings n disk ms m).modest; one = opening_asks }

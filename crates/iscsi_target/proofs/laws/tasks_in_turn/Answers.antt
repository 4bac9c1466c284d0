use Rattle.iscsi_target.proofs.Turns.TurnFrontLaw.{front}
use Rattle.iscsi_target.proofs.laws.tasks_in_turn.Goals as goal

pub returns : goal.returns
returns c = record { front = front }

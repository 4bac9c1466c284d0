use Rattle.capture_connections.proofs.laws.directions_are_determined.Goals as goal
use Rattle.capture_connections.proofs.Determined.{all_known}

pub returns : goal.returns
returns c = all_known

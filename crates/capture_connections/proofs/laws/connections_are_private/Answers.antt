use Rattle.capture_connections.proofs.laws.connections_are_private.Goals as goal
use Rattle.capture_connections.proofs.Apart.{goes_through}

pub returns : goal.returns
returns c = λ old new segments r k. goes_through segments old new r k

-- The two ends of a connection.
use Rattle.std.specs.Prelude.{Bool, true, false}
use Rattle.std.specs.declared.net.socket_addr.SocketAddr.{SocketAddr}
use Rattle.capture_connections.specs.declared.connections.Connection.{Connection}
use Rattle.capture_connections.specs.declared.ends.Ends.{Ends}
use Rattle.capture_connections.specs.declared.ends.Side.{Side}
use Rattle.capture_connections.specs.declared.ends.Side.TheVariants.{Lower, Upper}
use Rattle.capture_connections.specs.declared.half.Half.{Half}

-- whether both are the same end
abbrev pub is_side : Side → Side → Bool
is_side Lower Lower = true
is_side Lower Upper = false
is_side Upper Lower = false
is_side Upper Upper = true

-- the end that is not this one
abbrev pub other_side : Side → Side
other_side Lower = Upper
other_side Upper = Lower

-- the address of an end
abbrev pub address_at : Side → Ends → SocketAddr
address_at Lower ends = ends.lower
address_at Upper ends = ends.upper

-- what an end of a connection sent
abbrev pub sent_at : Side → Connection → Half
sent_at Lower connection = connection.lower
sent_at Upper connection = connection.upper

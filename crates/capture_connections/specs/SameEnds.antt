-- When two connections have the same ends.
use Rattle.std.specs.Prelude.{Bool, false, bytes_eq, ◌&&◌, ◌==◌}
use Rattle.std.specs.Net.Addr.{ipv4_octets, ipv6_segments}
use Rattle.std.specs.Net.Socket.{v4_ip, v4_port, v6_flowinfo, v6_ip, v6_port, v6_scope_id}
use Rattle.std.specs.declared.net.socket_addr.SocketAddr.{SocketAddr}
use Rattle.std.specs.declared.net.socket_addr.SocketAddr.TheVariants.{V4, V6}
use Rattle.capture_connections.specs.declared.ends.Ends.{Ends}

-- the same IP address and port
abbrev pub same_address : SocketAddr → SocketAddr → Bool
same_address (V4 a) (V4 b) =
    bytes_eq (ipv4_octets (v4_ip a)) (ipv4_octets (v4_ip b)) && (v4_port a == v4_port b)
same_address (V6 a) (V6 b) =
    bytes_eq (ipv6_segments (v6_ip a)) (ipv6_segments (v6_ip b)) && ((v6_port a == v6_port b)
    && ((v6_flowinfo a == v6_flowinfo b) && (v6_scope_id a == v6_scope_id b)))
same_address (V4 a) (V6 b) = false
same_address (V6 a) (V4 b) = false

-- the lower ends are the same, and so are the upper ones
abbrev pub same_ends : Ends → Ends → Bool
same_ends a b = same_address a.lower b.lower && same_address a.upper b.upper

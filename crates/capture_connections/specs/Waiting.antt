-- How much waits in the connections of a capture, behind bytes that are missing.
use Rattle.std.specs.Prelude.{ℕ, ◌+◌, List, [], ◌∷◌}
use Rattle.capture_connections.specs.declared.connections.Connection.{Connection}

-- how much may wait in all connections together: 64 MiB
abbrev pub most_bytes_waiting : ℕ
most_bytes_waiting = 67108864

-- how much waits in a connection
abbrev pub waiting_in : Connection → ℕ
waiting_in connection = connection.lower.waiting + connection.upper.waiting

-- how much waits in all of these
abbrev pub waiting_in_all : List Connection → ℕ
waiting_in_all [] = 0
waiting_in_all (connection ∷ connections) = waiting_in connection + waiting_in_all connections
